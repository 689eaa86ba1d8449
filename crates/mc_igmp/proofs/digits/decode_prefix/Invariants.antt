use Rattle.std.proofs.Common.{◌≡◌, ◌≤◌, ◌-◌, length}
use Rattle.mc_text.specs.DigitPairs.{AreDecoded}
use Rattle.mc_igmp.proofs.digits.decode_prefix.Given as goal

-- the bytes so far are decoded from the digits so far
abbrev pub invariant-pieces : goal.invariant-pieces
invariant-pieces l = record {
  size : length l.room ≡ length l.fn.room;
  within : l.at ≤ l.most;
  decoded : AreDecoded l.text l.room l.at;
}

abbrev pub decreases-pieces : goal.decreases-pieces
decreases-pieces l = l.most - l.at
