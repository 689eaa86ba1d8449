use Rattle.std.proofs.Common.{◌≡◌, true, arith}
use Rattle.std.specs.Prelude.{codes}
use Rattle.std.specs.Str.{bytes_eq}
use Rattle.std.proofs.lemmas.Result.{err_from_is_err_and}
use Rattle.mc_bundle.specs.BundleView.{place_text}
use Rattle.mc_bundle.proofs.BundlePlaces.{next_part_from-line_fault, next_part_from-end_fault}
use Rattle.mc_bundle.proofs.bundle.next_part_at.Goals as goal

-- Without a whole line at the front there is neither a part nor an end: the line's fault is the answer.
pub returns-in_err-line : goal.returns-in_err-line
returns-in_err-line c =
    let p = err_from_is_err_and c.from_residual.result c.from_residual.ensures.1 in
    rw (p.1, p.2)
    (next_part_from-line_fault (place_text c.args.place.now) c.in_err-line.field-0.0 c.in_err-line.ensures)

-- The line is `end`, so that what is wrong behind it decides.
pub returns-in_err-check_end_is_last : goal.returns-in_err-check_end_is_last
returns-in_err-check_end_is_last c =
    let p = err_from_is_err_and c.from_residual-in_err-check_end_is_last.result
    c.from_residual-in_err-check_end_is_last.ensures.1 in
    let is_end : bytes_eq c.in_ok-line.line.now (codes "end") ≡ true = grind arith in
    rw (p.1, p.2)
    (next_part_from-end_fault (place_text c.args.place.now) c.in_ok-line.line.now c.in_ok-line.after.now
    c.in_err-check_end_is_last.field-0.0 c.in_ok-line.ensures is_end c.in_err-check_end_is_last.ensures)
