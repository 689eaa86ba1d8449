use Rattle.std.proofs.Common.{◌≡◌, ◌+◌, refl}
use Rattle.std.proofs.lemmas.Result.{err_from_is_err_and}
use Rattle.mc_input.specs.Stream.{first_part, read_first}
use Rattle.mc_input.proofs.WalkLemmas.{IsFaultOfStream-from_part_result, IsFaultOfStream-implied}
use Rattle.mc_input.proofs.WalkLemmas.{KeepsOfFirst-from_part_result, ReadsFirst-part_result}
use Rattle.mc_input.proofs.WalkLemmas.{read_first-first_part_Err}
use Rattle.mc_input.proofs.walk.read_slot.Goals as goal

-- Without a part there is nothing to read, so that the fault of the first part is that of reading it.
pub returns-in_err-name-clause-fault : goal.returns-in_err-name-clause-fault
returns-in_err-name-clause-fault g c = λ read same.
    let p = err_from_is_err_and c.from_residual.result c.from_residual.ensures.1 in
    rw (p.1, p.2) (IsFaultOfStream-implied first_part (read_first read) (read_first-first_part_Err read)
    (g.S.Slots.gives c.args.slots.now c.args.slot.now.topology c.args.slot.now.number) c.in_err-name.field-0.0
    c.in_err-name.ensures.fault)

-- The part was fed to the reader whole, so that the reader's result is that of the part.
pub returns-clause-value : goal.returns-clause-value
returns-clause-value g c = λ read same.
    let t = c.args.slot.now.topology in
    let n = c.args.slot.now.number in
    let old = g.S.Slots.gives c.args.slots.now t n in
    let between = g.S.Slots.gives c.feed.new.self t (n + 1) in
    let after = g.R.PieceReader.result_after in
    KeepsOfFirst-from_part_result read (λ kept value. kept ≡ value) old between c.finished.result
    (ReadsFirst-part_result old between c.finished.result (g.R.PartReader.part_result c.args.reader) read
    c.in_ok-name.name (after c.args.reader) (after c.feed.new.reader) same
    (c.finished.ensures.result c.args.reader) c.in_ok-name.ensures.part)
    (λ s. g.S.Slots.gives s t (n + 1)) c.feed.new.self c.value_or_refusal.new.slots
    c.value_or_refusal.result refl c.value_or_refusal.ensures.kept

-- The part was fed to the reader whole, and its fault is the stream's unless one comes before all
-- contents.
pub returns-clause-fault : goal.returns-clause-fault
returns-clause-fault g c = λ read same.
    let t = c.args.slot.now.topology in
    let n = c.args.slot.now.number in
    let old = g.S.Slots.gives c.args.slots.now t n in
    let between = g.S.Slots.gives c.feed.new.self t (n + 1) in
    let after = g.R.PieceReader.result_after in
    IsFaultOfStream-from_part_result read (λ kept value. kept ≡ value) old between c.finished.result
    (ReadsFirst-part_result old between c.finished.result (g.R.PartReader.part_result c.args.reader) read
    c.in_ok-name.name (after c.args.reader) (after c.feed.new.reader) same
    (c.finished.ensures.result c.args.reader) c.in_ok-name.ensures.part)
    c.value_or_refusal.result c.value_or_refusal.ensures.fault
