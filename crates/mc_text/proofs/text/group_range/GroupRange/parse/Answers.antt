use Rattle.std.proofs.Common.{◌≡◌, ℕ, ◌+◌, ◌≤◌, Some, ap, ap₂, arith, subst, sym, ◌∙◌}
use Rattle.std.proofs.lemmas.List.{take_rest}
use Rattle.std.proofs.lemmas.Option.{same_Some}
use Rattle.mc_text.specs.GroupRange.{IsGroupRange}
use Rattle.mc_text.proofs.GroupRangeLemmas.{position-slash, take-slash, drop-slash}
use Rattle.mc_text.proofs.GroupRangeLemmas.{range_text-from_parts, if_range_text}
use Rattle.mc_text.proofs.text.group_range.GroupRange.parse.Goals as goal

-- The text of a range has a slash.
pub returns-in_err-slash-clause-only : goal.returns-in_err-slash-clause-only
returns-in_err-slash-clause-only c = λ range valid is.
    let at = position-slash c.args.text.now range is in
    cc (c.in_err-slash.ensures)

-- The first slash of a range's text comes after its address, which would have been read.
pub returns-in_err-first-clause-only : goal.returns-in_err-first-clause-only
returns-in_err-first-clause-only c = λ range valid is.
    let front = take-slash c.args.text.now range c.in_ok-slash.slash is (sym c.in_ok-slash.ensures) in
    let none = c.in_err-first.ensures.only range.0 (omega (arith, valid.high)) front in
    cc

-- After the slash comes the length, at most 32, which would have been read.
pub returns-in_err-length-clause-only : goal.returns-in_err-length-clause-only
returns-in_err-length-clause-only c = λ range valid is.
    let slash = c.in_ok-slash.slash in
    let back = take_rest c.args.text.now (slash + 1)
    ∙ drop-slash c.args.text.now range slash is (sym c.in_ok-slash.ensures) in
    let bound : range.1 ≤ c.from.result = omega (arith, c.from.ensures, valid.longest) in
    let none = c.in_err-length.ensures.only range.1 bound back in
    cc

-- The text is the part before the slash, the slash, and the part behind it, each as it was read.
pub returns-clause-found : goal.returns-clause-found
returns-clause-found c =
    let text = c.args.text.now in
    let slash = c.in_ok-slash.slash in
    let range : ℕ × ℕ = (c.in_ok-first.first, c.in_ok-length.length) in
    if_range_text c.if_valid.result text range
    (range_text-from_parts text slash range (sym c.in_ok-slash.ensures) c.in_ok-first.ensures.found
    (sym (take_rest text (slash + 1)) ∙ c.in_ok-length.ensures.found)) c.if_valid.ensures.same

-- Address and length are each read as what the text writes, and a range that keeps the rules isn't refused.
pub returns-clause-only : goal.returns-clause-only
returns-clause-only c = λ range valid is.
    let text = c.args.text.now in
    let slash = c.in_ok-slash.slash in
    let at = sym c.in_ok-slash.ensures in
    let bound : range.1 ≤ c.from.result = omega (arith, c.from.ensures, valid.longest) in
    let first : c.in_ok-first.first ≡ range.0 =
    same_Some _ _ (c.in_ok-first.ensures.only range.0 (omega (arith, valid.high))
    (take-slash text range slash is at)) in
    let length : c.in_ok-length.length ≡ range.1 =
    same_Some _ _ (c.in_ok-length.ensures.only range.1 bound
    (take_rest text (slash + 1) ∙ drop-slash text range slash is at)) in
    let same = ap₂ (λ (a b : ℕ). let p : ℕ × ℕ = (a, b) in p) first length in
    c.if_valid.ensures.only (subst IsGroupRange (sym same) valid) ∙ ap (λ (r : ℕ × ℕ). Some r) same
