use Rattle.std.proofs.Common.{ap, sym, ◌∙◌, Err, arith}
use Rattle.std.proofs.lemmas.Result.{err_from_is_err_and}
use Rattle.mc_files.specs.Layout.{slots}
use Rattle.mc_files.proofs.PackLemmas.{Gives-part_refused, parts_after-more, parts_after-all}
use Rattle.mc_files.proofs.packed_part.parts_after.Goals as goal

-- The files before made parts, so that the first fault is this file's.
pub returns-in_err-part_of_file-clause-parts : goal.returns-in_err-part_of_file-clause-parts
returns-in_err-part_of_file-clause-parts g c =
    let p = err_from_is_err_and c.from_residual-in_err-part_of_file.result
    c.from_residual-in_err-part_of_file.ensures.1 in
    λ contents is. Gives-part_refused contents c.loop-number.parts.items
    (slots c.args.certified c.args.topology.now) c.loop-number.number c.in-Some.slot _
    (λ parts. parts.items) c.from_residual-in_err-part_of_file.result c.in_err-part_of_file.field-0.0
    (sym c.in-Some.ensures) (c.loop-number.invariant.left contents is)
    (c.in_err-part_of_file.ensures.part contents (c.loop-number.invariant.kept ∙ is))
    (p.1 ∙ ap (λ f. Err f) p.2)

-- The part that was pushed is that of the first slot to come.
pub loop-number-preserved : goal.loop-number-preserved
loop-number-preserved g c = record {
  count = c.loop-number.invariant.count;
  same = c.part_of_file.ensures.same ∙ c.loop-number.invariant.same;
  kept = c.part_of_file.ensures.kept ∙ c.loop-number.invariant.kept;
  failures = c.in_ok-part_of_file.ensures.failures ∙ c.loop-number.invariant.failures;
  left = λ contents is. parts_after-more contents c.loop-number.parts.items c.push.new.self.items
      (slots c.args.certified c.args.topology.now) c.loop-number.number c.in-Some.slot
      c.in_ok-part_of_file.field-0 _ (sym c.in-Some.ensures) (c.loop-number.invariant.left contents is)
      (c.in_ok-part_of_file.ensures.part contents (c.loop-number.invariant.kept ∙ is))
      c.in_ok-push.ensures.items;
}

-- At the end no slot is to come.
pub returns-clause-parts : goal.returns-clause-parts
returns-clause-parts g c =
    λ contents is. parts_after-all contents c.loop-number.parts.items
    (slots c.args.certified c.args.topology.now) c.loop-number.number _
    (omega (arith, c.loop-number-test.false, c.loop-number.invariant.count))
    (c.loop-number.invariant.left contents is)
