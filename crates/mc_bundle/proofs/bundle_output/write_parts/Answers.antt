use Rattle.std.proofs.Common.{[], ◌∙◌, refl, subst}
use Rattle.std.specs.Prelude.{codes}
use Rattle.std.specs.Io.KnownBytes.{Appends}
use Rattle.std.proofs.KnownBytes.{Appends-nil, Appends-trans}
use Rattle.std.proofs.lemmas.List.{take_all}
use Rattle.std.proofs.lemmas.Result.{on_ok_weaker}
use Rattle.mc_text.proofs.StepLemmas.{OnErr-from}
use Rattle.mc_bundle.proofs.Pieces.{appends_prefix-after_front, front_of_bundle, spelled}
use Rattle.mc_bundle.proofs.Pieces.{bundle_spelling-front_of_bundle, front_of_bundle_more}
use Rattle.mc_bundle.proofs.Pieces.{bundle_spelling-split_at_part, appends_prefix-last}
use Rattle.mc_bundle.proofs.bundle_output.write_parts.Goals as goal

-- Only the first line was begun, and a proper prefix of it is one of the bundle.
pub returns-in_err-write_all-clause-err : goal.returns-in_err-write_all-clause-err
returns-in_err-write_all-clause-err g c = OnErr-from _ _ (appends_prefix-after_front _ _ _ []
    (codes "mcaudit bundle 1\n") _ _ (Appends-nil _) c.in_err-write_all.ensures.err refl)

-- The bundle is what was written, this part, and the rest: a
-- proper prefix of the part leaves one of the bundle.
pub returns-in_err-write_part-clause-err : goal.returns-in_err-write_part-clause-err
returns-in_err-write_part-clause-err g c =
    let at = bundle_spelling-split_at_part c.args.parts.now c.loop-part.part-index c.part-item.result
    c.loop-part-test.true c.part-item.is in
    OnErr-from _ _ (appends_prefix-after_front _ _ _ _
    (spelled c.part-item.result) _ _ c.loop-part.invariant.bytes
    c.in_err-write_part.ensures.err at)

-- The first line and the parts before, and then this part, are the front of the bundle up to the next part.
pub loop-part-preserved : goal.loop-part-preserved
loop-part-preserved g c =
    let more = front_of_bundle_more c.args.parts.now c.loop-part.part-index c.part-item.result
    c.loop-part-test.true c.part-item.is in
    record {
      same = c.in_ok-write_part.ensures.same ∙ c.loop-part.invariant.same;
      failures = c.in_ok-write_part.ensures.failures ∙ c.loop-part.invariant.failures;
      bytes = subst (Appends _ _) more
          (Appends-trans _ _ _ _ (spelled c.part-item.result) c.loop-part.invariant.bytes
          c.in_ok-write_part.ensures.ok);
    }

-- After the last part the front lacks the line `end` alone.
pub returns-clause-ok : goal.returns-clause-ok
returns-clause-ok g c =
    let parts = c.args.parts.now in
    let all = take_all c.loop-part.part-index parts c.loop-part-test.false in
    let front = rw all at c.loop-part.invariant.bytes in
    rw (bundle_spelling-front_of_bundle parts) (on_ok_weaker _
    (Appends-trans _ _ _ (front_of_bundle parts) (codes "end\n") front) c.write_all-2.ensures.ok)

-- The front was written whole, and of the line `end` a proper prefix.
pub returns-clause-err : goal.returns-clause-err
returns-clause-err g c =
    let parts = c.args.parts.now in
    let all = take_all c.loop-part.part-index parts c.loop-part-test.false in
    let front = rw all at c.loop-part.invariant.bytes in
    appends_prefix-last _ _ _ _ (front_of_bundle parts) (codes "end\n") _ front c.write_all-2.ensures.err
    (bundle_spelling-front_of_bundle parts)
