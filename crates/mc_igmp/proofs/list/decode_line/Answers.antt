use Rattle.std.proofs.Common.{◌≡◌, true, ltb, length, inr, ap, ◌∙◌, refl, arith, drop}
use Rattle.std.specs.Prelude.{◌||◌}
use Rattle.std.proofs.lemmas.Bool.Decides.{nat_tests}
use Rattle.std.proofs.lemmas.List.{take_at}
use Rattle.hex.specs.Hex.{decode_of}
use Rattle.hex.proofs.HexLemmas.{decode_of-odd}
use Rattle.mc_text.specs.LineView.{line_text}
use Rattle.mc_igmp.specs.ReadingList.{bytes_of_line, decoded_or_bad_hex}
use Rattle.mc_igmp.proofs.ListLemmas.{bytes_of_line-digits, decoded_or_bad_hex-bad_hex}
use Rattle.mc_igmp.proofs.list.decode_line.Goals as goal

-- An unended line has that fault before any other.
pub returns-then-not-line-clause-err : goal.returns-then-not-line-clause-err
unfolding bytes_of_line
returns-then-not-line-clause-err c = rw (c.at.ensures, c.if-not-line.true) (inr refl)

-- The line is ended, so that its number or length is the first thing wrong.
pub returns-then-line-gt-MAX_LINES-clause-err : goal.returns-then-line-gt-MAX_LINES-clause-err
unfolding bytes_of_line
returns-then-line-gt-MAX_LINES-clause-err c =
    let large : (ltb 65536 c.args.line.now.number || ltb 131030 (length c.args.line.now.bytes.now))
    ≡ true = grind (arith, nat_tests) in
    rw (c.at-then-line-gt-MAX_LINES.ensures, c.if-not-line.false, large) (inr refl)

-- An odd number of digits can't be decoded.
pub returns-then-line-ne0-clause-err : goal.returns-then-line-ne0-clause-err
returns-then-line-ne0-clause-err c =
    let read = bytes_of_line-digits (line_text c.args.line.now) c.if-not-line.false
    c.if-line-gt-MAX_LINES.false c.if-line-gt-MAX_LINE_LEN.false in
    let odd = decode_of-odd c.args.line.now.bytes.now (omega arith) in
    rw c.at-then-line-ne0.ensures (inr (read ∙ ap (decoded_or_bad_hex c.args.line.now.number) odd))

-- The bytes at the front of the buffer, half as many as digits, are the decoded line.
pub returns-then-decode_to_front-clause-ok : goal.returns-then-decode_to_front-clause-ok
returns-then-decode_to_front-clause-ok c =
    let read = bytes_of_line-digits (line_text c.args.line.now) c.if-not-line.false
    c.if-line-gt-MAX_LINES.false c.if-line-gt-MAX_LINE_LEN.false in
    let room = c.decode_to_front.new.room in
    let size : length room ≡ c.if-len.bytes.len =
    omega (arith, c.decode_to_front.auto.room, c.deref_mut.ensures.len) in
    let whole = c.deref.ensures.value
    ∙ take_at room (drop (length room) c.if-len.bytes.items) c.if-len.bytes.len size in
    rw whole (read ∙ ap (decoded_or_bad_hex c.args.line.now.number) (c.if-decode_to_front.ensures.found refl))

-- The digits can't be decoded to any bytes.
pub returns-else-decode_to_front-clause-err : goal.returns-else-decode_to_front-clause-err
returns-else-decode_to_front-clause-err c =
    let read = bytes_of_line-digits (line_text c.args.line.now) c.if-not-line.false
    c.if-line-gt-MAX_LINES.false c.if-line-gt-MAX_LINE_LEN.false in
    let refused = decoded_or_bad_hex-bad_hex c.args.line.now.number (decode_of c.args.line.now.bytes.now)
    (c.if-decode_to_front.ensures.only refl) in
    rw c.at-else-decode_to_front.ensures (inr (read ∙ refused))
