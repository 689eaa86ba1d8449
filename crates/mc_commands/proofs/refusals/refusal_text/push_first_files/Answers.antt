use Rattle.std.specs.String.{string_bytes}
use Rattle.mc_commands.proofs.RefusalTextLemmas.{appends_with_failures-first_50}
use Rattle.mc_commands.proofs.refusals.refusal_text.push_first_files.Goals as goal

-- The lines of the first 50 files come first, and then the number of the others.
pub returns-clause-adds : goal.returns-clause-adds
returns-clause-adds g c =
    appends_with_failures-first_50 (g.F.FileSource.contents c.args.files.now) c.args.refused.now
    c.min-first.result c.push_more_files.result
    (string_bytes c.args.text.now) (string_bytes c.push_refused_files.new.text)
    (string_bytes c.push_more_files.new.text)
    (g.F.FileSource.failed c.args.files.now) (g.F.FileSource.failed c.push_refused_files.new.files)
    c.min-first.ensures c.in_ok-push_refused_files.ensures.adds c.push_more_files.ensures
