use Rattle.std.proofs.Common.{◌≡◌, ◌-◌, ◌*◌, length}
use Rattle.mc_text.specs.DigitPairs.{AreDecoded}
use Rattle.mc_igmp.proofs.digits.decode_all.Given as goal

-- the bytes so far are decoded from the digits so far
abbrev pub invariant-pieces : goal.invariant-pieces
invariant-pieces l = record {
  size : length l.fn.digits ≡ 2 * length l.bytes;
  decoded : AreDecoded l.fn.digits l.bytes l.at;
}

abbrev pub decreases-pieces : goal.decreases-pieces
decreases-pieces l = length l.bytes - l.at
