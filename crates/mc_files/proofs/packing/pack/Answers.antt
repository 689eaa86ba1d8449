use Rattle.std.proofs.Common.{ap, ◌∙◌, Err, List}
use Rattle.std.proofs.lemmas.Result.{err_from_is_err_and}
use Rattle.mc_bundle.specs.Bundle.{PartText}
use Rattle.mc_bundle.specs.BundleView.{part_texts}
use Rattle.mc_files.proofs.RunLemmas.{IsPackAnswer-from_error, IsIoOrMemory-from_IsPacked}
use Rattle.mc_files.proofs.RunLemmas.{IsPackAnswer-written, IsIoOrMemory-written, WritesPackedPrefix-cut}
use Rattle.mc_files.proofs.RunLemmas.{WritesPackedBundle-written}
use Rattle.mc_files.proofs.packing.pack.Goals as goal

-- A fault of reading the parts is the first fault of packing, since the limit of a bundle comes last.
pub returns-in_err-files-clause-answer : goal.returns-in_err-files-clause-answer
returns-in_err-files-clause-answer g c =
    let p = err_from_is_err_and c.from_residual.result c.from_residual.ensures.1 in
    IsPackAnswer-from_error {X = List PartText} (λ parts. parts) (g.F.FileSource.contents c.args.files.now)
    c.args.certified
    c.from_residual.result c.in_err-files.field-0.0 c.in_err-files.ensures.parts
    (p.1 ∙ ap (λ f. Err f) p.2)

-- Where files are packed into a bundle, reading them has no fault of its own.
pub returns-in_err-files-clause-only : goal.returns-in_err-files-clause-only
returns-in_err-files-clause-only g c =
    let p = err_from_is_err_and c.from_residual.result c.from_residual.ensures.1 in
    λ contents parts is packed. IsIoOrMemory-from_IsPacked {X = List PartText}
    (λ parts. parts) c.args.certified contents parts
    c.from_residual.result c.in_err-files.field-0.0 (c.in_err-files.ensures.parts contents is)
    (p.1 ∙ ap (λ f. Err f) p.2) packed

-- The parts that were read make a bundle, unless writing finds that it is too large.
pub returns-clause-answer : goal.returns-clause-answer
returns-clause-answer g c =
    let same = ap part_texts c.deref-2.ensures.value ∙ c.in_ok-parts.ensures
    ∙ c.deref.ensures.value in
    IsPackAnswer-written (g.F.FileSource.contents c.args.files.now) c.args.certified
    c.in_ok-files.files.items (part_texts c.deref-2.result.now) _ _ c.write_parts.result
    c.in_ok-files.ensures.parts same c.write_parts.ensures.ok c.write_parts.ensures.faults
    c.write_parts.ensures.too_large

-- A bundle within its limits isn't refused as too large.
pub returns-clause-only : goal.returns-clause-only
returns-clause-only g c =
    let same = ap part_texts c.deref-2.ensures.value ∙ c.in_ok-parts.ensures
    ∙ c.deref.ensures.value in
    λ contents parts is packed. IsIoOrMemory-written contents c.args.certified c.in_ok-files.files.items
    (part_texts c.deref-2.result.now) parts c.write_parts.result
    (c.in_ok-files.ensures.parts contents is)
    same c.write_parts.ensures.faults c.write_parts.ensures.too_large packed

-- What was appended is the bundle of the parts that were read, which are those of the files.
pub returns-clause-written : goal.returns-clause-written
returns-clause-written g c =
    let same = ap part_texts c.deref-2.ensures.value ∙ c.in_ok-parts.ensures
    ∙ c.deref.ensures.value in
    WritesPackedBundle-written (g.F.FileSource.contents c.args.files.now) c.args.certified
    c.in_ok-files.files.items (part_texts c.deref-2.result.now) _ _ c.write_parts.result
    c.in_ok-files.ensures.parts same c.write_parts.ensures.ok

-- What was appended is a proper prefix of that bundle, which is within its limits.
pub returns-clause-part : goal.returns-clause-part
returns-clause-part g c =
    let same = ap part_texts c.deref-2.ensures.value ∙ c.in_ok-parts.ensures
    ∙ c.deref.ensures.value in
    λ failed. WritesPackedPrefix-cut (g.F.FileSource.contents c.args.files.now) c.args.certified
    c.in_ok-files.files.items (part_texts c.deref-2.result.now) _ _ c.in_ok-files.ensures.parts
    same (c.write_parts.ensures.within failed) (c.write_parts.ensures.cut failed)
