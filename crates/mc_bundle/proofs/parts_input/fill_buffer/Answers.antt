-- What is at the buffer's front is what the input gave.
use Rattle.std.proofs.Common.{[], arith}
use Rattle.std.proofs.KnownBytes.{Consumes-nil, Consumes-kept}
use Rattle.mc_bundle.proofs.PartsLimitLemmas.{consumes_up_to-filled_buffer}
use Rattle.std.proofs.Common.{ℕ, List, take, sym, subst, ◌∙◌}
use Rattle.std.proofs.KnownBytes.{Consumes-trans}
use Rattle.std.specs.Io.KnownBytes.{Consumes}
use Rattle.mc_bundle.proofs.PartsLemmas.{take-filled_buffer, length-filled_buffer}
use Rattle.mc_bundle.proofs.parts_input.fill_buffer.Goals as goal

-- one more piece
pub filling-preserved : goal.filling-preserved
filling-preserved g c =
    let old = c.filling.buffer in
    let new = c.read.new.buffer in
    let count = c.filling.count in
    let more = c.in-Ok.more in
    let consumed = Consumes-trans _ _ _ (take count old) (take more new) c.filling.invariant.bytes
    c.in-Ok.ensures.bytes.0 in
    record {
      same = c.read.ensures.same ∙ c.filling.invariant.same;
      failures = c.in-Ok.ensures.failures ∙ c.filling.invariant.failures;
      within = length-filled_buffer old new _ count more c.filling.invariant.within c.in-Ok.ensures.bound.0;
      bytes = subst
          (λ (l : List ℕ). Consumes (g.R.Input.remaining c.args.input.now)
          (g.R.Input.remaining c.read.new.self) l)
          (sym (take-filled_buffer old new _ count more c.filling.invariant.within
          c.in-Ok.ensures.bound.0)) consumed;
    }

-- the input ended
pub returns-in-Ok-eq0-clause-consumed : goal.returns-in-Ok-eq0-clause-consumed
returns-in-Ok-eq0-clause-consumed g c =
    consumes_up_to-filled_buffer _ _ _ c.filling.buffer c.read.new.buffer _ c.filling.count
    c.in-Ok-eq0.field-0
    c.filling.invariant.within c.in-Ok-eq0.ensures.bound.0 c.filling.invariant.bytes
    c.in-Ok-eq0.ensures.bytes.0

-- the input failed
pub returns-in-Err-clause-consumed : goal.returns-in-Err-clause-consumed
returns-in-Err-clause-consumed g c =
    consumes_up_to-filled_buffer _ _ _ c.filling.buffer c.read.new.buffer _ c.filling.count 0
    c.filling.invariant.within
    (omega arith) c.filling.invariant.bytes
    (Consumes-kept _ _ _ [] (Consumes-nil _) c.in-Err.ensures.bytes)
