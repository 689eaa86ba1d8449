-- The bytes that a write took are the next ones of the text.
use Rattle.std.proofs.Common.{arith, ◌<◌, ◌∙◌}
use Rattle.std.proofs.KnownBytes.{Appends-trans}
use Rattle.std.proofs.Math.Seq.{take-add}
use Rattle.std.proofs.lemmas.Bool.Decides.{nat_tests}
use Rattle.std.proofs.lemmas.List.{length-drop, take_rest}
use Rattle.mc_bundle.proofs.io.output_bytes.write_all.Goals as goal

pub loop-taken-preserved : goal.loop-taken-preserved
loop-taken-preserved g c =
    let rest = take_rest c.args.text.now c.loop-taken.taken in
    let some : 0 < c.in-Ok.count = omega (arith, c.in-Ok.count-test.1) in
    let bound = rw rest at c.in-Ok.ensures.bound in
    let bytes = rw rest at c.in-Ok.ensures.bytes in
    record {
      same = c.in-Ok.ensures.same ∙ c.loop-taken.invariant.same;
      failures = grind (arith, nat_tests, c.in-Ok.ensures.failures);
      within = omega (arith, bound, length-drop c.loop-taken.taken c.args.text.now);
      bytes = rw (take-add c.loop-taken.taken c.in-Ok.count c.args.text.now)
          (Appends-trans _ _ _ _ _ c.loop-taken.invariant.bytes bytes);
    }
