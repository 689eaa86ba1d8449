-- Only digits were decoded ahead, and they end before a line feed: they belong to this line.
use Rattle.mc_igmp.proofs.DecodeAheadLemmas.{decoded_ahead-up_to_line_end}
use Rattle.mc_igmp.proofs.line_reader.LineReader.find_line_end.Goals as goal

pub returns-clause-ahead : goal.returns-clause-ahead
returns-clause-ahead c =
    let reader = c.decode_ahead.new.self in
    decoded_ahead-up_to_line_end c.line_feed_after_digits.result reader.begun.items c.args.rest.now
    reader.message.items
    reader.decoded c.decode_ahead.ensures.ahead c.decode_ahead.ensures.split
    c.line_feed_after_digits.ensures.value
