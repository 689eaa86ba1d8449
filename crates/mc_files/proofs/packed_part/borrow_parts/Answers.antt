use Rattle.std.proofs.Common.{rules, Ok, ◌∙◌}
use Rattle.std.specs.declared.alloc.AllocError.{AllocError}
use Rattle.mc_bundle.specs.BundleView.{part_text}
use Rattle.std.proofs.lemmas.Iterator.{YieldsList-from_slice, YieldsList-from_map_by}
use Rattle.std.proofs.lemmas.Iterator.Consumers.{map_from_collect}
use Rattle.std.proofs.lemmas.List.{map-id}
use Rattle.mc_files.proofs.packed_part.borrow_parts.Goals as goal

-- What is collected are the parts one by one, and borrowing changes neither name nor bytes.
pub returns : goal.returns
returns c = map_from_collect {E = AllocError} (Ok c.in_ok-collect.field-0)
    c.in_ok-collect.ensures.ran
    (YieldsList-from_map_by _ part_text (λ part. part)
    (YieldsList-from_slice c.args.parts.now (cc)) (cc) (λ x r q k. search rules))
    ∙ map-id c.args.parts.now
