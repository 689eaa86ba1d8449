-- Lines are cut at the first line feed, so that none is left inside one.
use Rattle.mc_text.proofs.LineLemmas.{lines_of-no_line_feed, lines_of-only_last_unended}
use Rattle.mc_text.proofs.laws.lines_end_at_line_feeds.Goals as goal

pub returns : goal.returns
returns c = record { within = lines_of-no_line_feed; ended = lines_of-only_last_unended }
