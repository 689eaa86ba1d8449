use Rattle.std.proofs.Common.{◌≡◌, ◌<◌, ◌≤◌, ◌-◌, ◌++◌, Err, length, take, drop, sym, ap, subst}
use Rattle.std.proofs.Common.{◌∙◌, arith, length-take}
use Rattle.std.proofs.lemmas.List.{take-append-le}
use Rattle.mc_bundle.specs.declared.bundle_fault.BundleFault.TheVariants as faults
use Rattle.mc_bundle.specs.PartsReading.{PartsState, parts_from_current, parts_state}
use Rattle.mc_bundle.proofs.PartsMeaning.{split-from_Consumes, text-nil_at_end}
use Rattle.mc_bundle.proofs.PartsMeaning.{parts_from_current-truncated, parts_from_current-read_more}
use Rattle.mc_bundle.proofs.parts.Parts.read.Goals as goal

-- The buffer has room and part of the part is left, so that a read of 0 bytes means that the input ended.
pub returns-in-Ok-eq0-clause-fault : goal.returns-in-Ok-eq0-clause-fault
returns-in-Ok-eq0-clause-fault g c = λ text done remaining there.
    let own = c.self.inside in
    let state = parts_state own.stage own.parts own.room own.name own.size own.left
    (g.R.Input.remaining own.input) (g.R.Input.failed own.input) (g.R.Input.borrows own.input) in
    let known = ap (λ (s : PartsState). s.remaining) c.self.view_is ∙ remaining in
    let zero_is = c.in-Ok-eq0.field-0-test in
    let full = c.read.auto.buffer in
    let room = c.min-room.ensures in
    let some : 0 < length c.read.new.buffer =
    omega (arith, full, room, length-take c.min-room.result c.args.buffer.now) in
    let none = text-nil_at_end _ _ (take c.in-Ok-eq0.field-0 c.read.new.buffer) text
    c.in-Ok-eq0.ensures.bytes.0 known (ap (λ n. take n c.read.new.buffer) zero_is)
    (c.in-Ok-eq0.ensures.bytes.1 zero_is some) in
    subst (λ (s : PartsState). parts_from_current s done text ≡ Err faults.Truncated) c.self.view_is
    (parts_from_current-truncated state done text c.self.invariant c.in-Part.is none)
    ∙ ap Err (sym c.failed.ensures.fault)

-- The bytes are taken from the front of the text and belong to the part, as no more were asked for than it
-- has left: moving them to those done changes nothing of what the bundle is.
pub returns-in-Ok-clause-bytes : goal.returns-in-Ok-clause-bytes
returns-in-Ok-clause-bytes g c = λ text done remaining.
    let own = c.self.inside in
    let state = parts_state own.stage own.parts own.room own.name own.size own.left
    (g.R.Input.remaining own.input) (g.R.Input.failed own.input) (g.R.Input.borrows own.input) in
    let known = ap (λ (s : PartsState). s.remaining) c.self.view_is ∙ remaining in
    let new = c.read.new.buffer in
    let rest = drop c.min-room.result c.args.buffer.now in
    let taken = take c.in-Ok.count new in
    let whole : take c.in-Ok.count (new ++ rest) ≡ taken =
    take-append-le c.in-Ok.count new rest c.in-Ok.ensures.bound.0 in
    let read = split-from_Consumes _ _ taken text c.in-Ok.ensures.bytes.0 known in
    let room = c.min-room.ensures in
    let full = c.read.auto.buffer in
    let long : length taken ≡ c.in-Ok.count = sym c.in-Ok.ensures.bound.1 in
    let within : length taken ≤ state.left =
    omega (arith, room, full, c.in-Ok.ensures.bound.0, length-take c.min-room.result c.args.buffer.now) in
    let keeps = parts_from_current-read_more state done taken read.0 (g.R.Input.remaining c.read.new.self)
    (g.R.Input.failed c.read.new.self)
    (g.R.Input.borrows c.read.new.self) c.self.invariant c.in-Part.is within in
    let after = parts_state own.stage own.parts own.room own.name own.size (own.left - c.in-Ok.count)
    (g.R.Input.remaining c.read.new.self) (g.R.Input.failed c.read.new.self)
    (g.R.Input.borrows c.read.new.self) in
    let kept : parts_from_current state done text ≡ parts_from_current after (done ++ taken) read.0 =
    ap (parts_from_current state done) read.2 ∙ keeps
    ∙ ap (λ n. parts_from_current (record after { left = state.left - n }) (done ++ taken) read.0) long in (
      read.0,
      read.1,
      rw whole read.2,
      rw whole (subst (λ (s : PartsState). parts_from_current s done text
          ≡ parts_from_current after (done ++ taken) read.0) c.self.view_is kept),
    )
