use Rattle.std.proofs.Common.{arith, ℕ, ◌+◌, ◌-◌, ◌≤◌, List, [], ◌++◌, length, ap, length-take}
use Rattle.std.proofs.KnownBytes.{Consumes-nil, Consumes-trans, Consumes-kept}
use Rattle.std.proofs.lemmas.List.{length-append}
use Rattle.std.specs.Prelude.{Option}
use Rattle.std.specs.Io.KnownBytes.{Consumes}
use Rattle.mc_bundle.specs.ReadFault.{ConsumesUpTo, ReadsOnto}
use Rattle.mc_bundle.proofs.io.input_bytes.fill_to_limit.Goals as goal

-- the bytes of two reads, one after another, are within the limit
consumes_up_to-from_reads_onto : (remaining left rest : Option (List ℕ)) (old new more : List ℕ) (limit : ℕ)
    → ReadsOnto remaining left old new → Consumes left rest more → length new + length more ≤ limit
    → ConsumesUpTo (limit - length old) remaining rest
consumes_up_to-from_reads_onto remaining left rest old new more limit (read, first, grown) second bound =
    let count = simp length-append at (ap length grown) in
    let both = Consumes-trans remaining left rest read more first second in
    (read ++ more, simp length-append (omega arith), both)

-- In each of the three, the bytes of the last read and those before stay
-- within the limit, as no more than the room was asked for.
pub returns-in-Ok-eq0-clause-consumed : goal.returns-in-Ok-eq0-clause-consumed
returns-in-Ok-eq0-clause-consumed g c =
    consumes_up_to-from_reads_onto _ _ _ _ _ _ _ c.reading.invariant.bytes c.in-Ok-eq0.ensures.bytes.0
    (omega (arith, c.reading.bytes.ok.0, length-take c.in-Ok-eq0.field-0 c.read.new.buffer))

pub returns-then-is_err-clause-consumed : goal.returns-then-is_err-clause-consumed
returns-then-is_err-clause-consumed g c =
    let taken = length-take c.in-Ok.count c.read.new.buffer in
    let room = length-take c.min-room.result c.reading.buffer in
    consumes_up_to-from_reads_onto _ _ _ _ _ _ _ c.reading.invariant.bytes c.in-Ok.ensures.bytes.0
    (omega (arith, c.reading.bytes.ok.0, c.in-Ok.ensures.bound))

pub returns-in-Err-clause-consumed : goal.returns-in-Err-clause-consumed
returns-in-Err-clause-consumed g c =
    let nothing = Consumes-kept _ _ _ [] (Consumes-nil _) c.in-Err.ensures.bytes in
    consumes_up_to-from_reads_onto _ _ _ _ _ [] _ c.reading.invariant.bytes nothing
    (omega (arith, c.reading.bytes.ok.0))
