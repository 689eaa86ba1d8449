use Rattle.std.proofs.Common.{ℕ, ◌+◌, List, take, ap, sym, ◌∙◌, Ok, Err}
use Rattle.std.proofs.lemmas.Bool.{lt-ltb, cond-true}
use Rattle.std.proofs.lemmas.List.{take_rest}
use Rattle.mc_bundle.specs.declared.bundle_fault.BundleFault.TheVariants.{NoEnd, BadPartLine}
use Rattle.mc_bundle.proofs.BundleWords.{line_at-cut_line}
use Rattle.mc_bundle.proofs.part_line.line_at.Goals as goal

-- A line feed within the first 96 bytes of the rest is the first one of the rest itself.
pub returns-in-Some : goal.returns-in-Some
returns-in-Some c =
    let rest = c.args.rest.now in
    line_at-cut_line rest _ _ c.min.ensures c.in-Some.ensures
    ∙ ap (λ (after : List ℕ). Ok (take c.in-Some.end rest, after))
    (sym (take_rest rest (c.in-Some.end + 1)))

-- The first 96 bytes have no line feed: the text ends too early, or the line is too long.
pub returns-in-None : goal.returns-in-None
returns-in-None c header =
    line_at-cut_line c.args.rest.now _ _ c.min.ensures c.in-None.ensures
    ∙ cond-true _ (Err NoEnd) (Err BadPartLine) (lt-ltb _ _ c.if-rest-lt-MAX_LINE.true)
