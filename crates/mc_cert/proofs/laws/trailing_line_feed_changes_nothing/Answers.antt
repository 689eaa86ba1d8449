use Rattle.mc_cert.proofs.LineFeed.{parse_certificate-with_line_feed}
use Rattle.mc_cert.proofs.laws.trailing_line_feed_changes_nothing.Goals as goal

-- A line feed is white space for JSON's reader, and it is UTF-8.
pub returns : goal.returns
returns c = parse_certificate-with_line_feed
