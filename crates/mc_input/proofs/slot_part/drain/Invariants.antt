use Rattle.std.proofs.Common.{◌≡◌, ℕ, List, Some, Ok, Result}
use Rattle.mc_bundle.specs.RestOfBundle.{Advances}
use Rattle.mc_input.specs.PartsOneByOne.{read_rest}
use Rattle.mc_input.specs.declared.fault.InputFault.{InputFault}
use Rattle.mc_input.proofs.slot_part.drain.Given as goal

-- The framing of what is left is right exactly if that of all is, and has the same fault.
abbrev pub invariant-parts : goal.invariant-parts
invariant-parts g l = record {
  advances : Advances l.fn.parts l.parts;
  failures : l.parts.failed ≡ l.fn.parts.failed;
  framing : (text : List ℕ) → l.fn.parts.remaining ≡ Some text →
      (later : List ℕ) × (l.parts.remaining ≡ Some later)
      × (read_rest l.fn.parts text (λ _. Ok tt)
      ≡ read_rest l.parts later (λ _. (let u : Result (Unit {0}) InputFault = Ok tt in u)));
}

abbrev pub decreases-parts : goal.decreases-parts
decreases-parts g l = l.parts.parts
