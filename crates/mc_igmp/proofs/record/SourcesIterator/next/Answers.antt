use Rattle.std.proofs.Common.{length, refl, sym, ap, ◌∙◌, arith}
use Rattle.std.proofs.lemmas.List.{take_rest}
use Rattle.mc_igmp.proofs.AddressLemmas.{addresses_in-first, addresses_in-short}
use Rattle.mc_igmp.proofs.record.SourcesIterator.next.Goals as goal

-- Fewer than four bytes are no address.
pub returns-in_default-clause-steps : goal.returns-in_default-clause-steps
returns-in_default-clause-steps c =
    let none = sym c.self.view_is
    ∙ addresses_in-short c.self.inside.bytes.now c.in_default.len_below in
    (none, none)

-- The addresses are that of the first four bytes, and those of the others.
pub returns-in-len4-up-clause-steps : goal.returns-in-len4-up-clause-steps
returns-in-len4-up-clause-steps c = sym c.self.view_is
    ∙ addresses_in-first c.self.inside.bytes.now c.in-len4-up.len_at_least
    ∙ rw (take_rest c.self.inside.bytes.now 4, c.from_octets-source.ensures.value) refl

-- One source fewer is left.
pub returns-in-len4-up-clause-goes : goal.returns-in-len4-up-clause-goes
returns-in-len4-up-clause-goes c =
    let shorter = ap length (returns-in-len4-up-clause-steps c) in
    record { on = λ _. (tt, tt, omega (arith, shorter)); keeps = tt; rests = λ _. tt }
