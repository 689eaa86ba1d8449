-- Eight hexadecimal digits with a space behind them are the first word.
use Rattle.std.proofs.Common.{take}
use Rattle.mc_tables.proofs.AddressLemmas.{address_in-from_clauses}
use Rattle.mc_tables.proofs.PlainRowLemmas.{address_is_first_word}
use Rattle.mc_tables.proofs.lines.address_words.address_at_front.Goals as goal

pub returns-then-line-eq32-clause-words : goal.returns-then-line-eq32-clause-words
returns-then-line-eq32-clause-words c =
    let line = c.args.line.now in
    let read = c.from_hex_word.ensures in
    address_is_first_word c.args.order line c.from_hex_word.result c.if-line-gt8.true c.if-line-eq32.true
    (address_in-from_clauses c.args.order
    (take 8 line) c.from_hex_word.result read.in_range read.found read.only)
