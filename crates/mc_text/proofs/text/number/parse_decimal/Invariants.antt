use Rattle.std.proofs.Common.{drop}
use Rattle.mc_text.proofs.NumberReading.{IsReadUpTo}
use Rattle.mc_text.proofs.text.number.parse_decimal.Given as goal

-- the whole word is read as the bytes left are, after the number so far
abbrev pub invariant-loop-byte : goal.invariant-loop-byte
invariant-loop-byte l = IsReadUpTo l.word l.number (drop l.byte-index l.word)
