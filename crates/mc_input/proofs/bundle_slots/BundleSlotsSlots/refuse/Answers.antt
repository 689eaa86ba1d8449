use Rattle.std.proofs.Common.{◌≡◌, ◌+◌, Some, ap, option_map, refl, subst, sym}
use Rattle.mc_input.specs.Stream.{IsFaultBeforeOrOwn, Stream, bundle_gives}
use Rattle.mc_input.proofs.StreamLemmas.{gives-names_Err}
use Rattle.mc_input.proofs.bundle_slots.BundleSlotsSlots.refuse.Goals as goal

-- The further names and the framing were checked to the end, and a fault of theirs refuses the stream
-- as a whole.
pub returns-in-Err-clause-fault : goal.returns-in-Err-clause-fault
returns-in-Err-clause-fault g c = λ stream known loud.
    let s = c.args.self.now in
    let t = c.topology.result.now in
    let next : c.number-next.result + 1 ≡ c.args.slot.now.number + 1 =
    ap (λ n. n + 1) c.number-next.ensures.number in
    let here : option_map (bundle_gives s.parts s.certified t (c.number-next.result + 1)) s.parts.remaining
    ≡ Some stream = rw (c.topology.ensures, next) known in
    let refused = gives-names_Err s.parts s.certified t (c.number-next.result + 1) c.in-Err.before
    c.in-Err.ensures.names stream here loud in
    subst (λ (r : Stream). IsFaultBeforeOrOwn r c.args.fault c.in-Err.before) (sym refused) refl
