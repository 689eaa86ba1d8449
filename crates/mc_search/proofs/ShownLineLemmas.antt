-- The shown lines of a search, from the front.
use Rattle.std.proofs.Common.{◌≡◌, ℕ, zero, suc, ◌≤◌, ◌==◌, Bool, true, false, cond}
use Rattle.std.proofs.Common.{List, [], ◌∷◌, length, take, drop, get_or, refl, ap, ap₂, sym}
use Rattle.std.proofs.Common.{◌∙◌, arith}
use Rattle.std.proofs.lemmas.Bool.{eq-eqb, eqb-true}
use Rattle.mc_search.specs.declared.search_line.SearchLine.{SearchLine}
use Rattle.mc_search.specs.declared.search_line.SearchLine.TheVariants.{ExpectedFromHere}
use Rattle.mc_search.specs.declared.shown_line.ShownLine.{ShownLine}
use Rattle.mc_search.specs.declared.shown_line.ShownLine.TheVariants.{One, Expected}
use Rattle.mc_search.specs.ExpectingRouters.{expecting_routers, expects_from, leading_expected}
use Rattle.mc_search.specs.ShownLines.{put_expected, put_line, shown_lines}

-- ---- the lines

-- there are no more of them at the front than lines
pub leading_expected-at_most_length : (lan : ℕ) (lines : List SearchLine) → leading_expected lan lines ≤
    length lines
leading_expected-at_most_length lan [] = omega arith
leading_expected-at_most_length lan (line ∷ lines) = by (expects_from lan line)
    (leading_expected-at_most_length lan lines)
  where
    by : (b : Bool) → leading_expected lan lines ≤ length lines
        → cond b (suc (leading_expected lan lines)) zero ≤ suc (length lines)
    by true h = omega (arith, h)
    by false h = omega arith

-- the lines right after a line about a router's LAN are joined with it
put_expected-shown_lines : (lan router : ℕ) (lines : List SearchLine)
    → put_expected lan router (shown_lines lines)
    ≡ Expected lan (router ∷ expecting_routers (take (leading_expected lan lines) lines))
    ∷ shown_lines (drop (leading_expected lan lines) lines)
put_expected-shown_lines lan router [] = refl
put_expected-shown_lines lan router (ExpectedFromHere own r ∷ lines) =
    by (own == lan) refl (put_expected-shown_lines own r lines)
  where
    joined : ℕ → List ShownLine
    joined o =
        Expected lan (router ∷ r ∷ expecting_routers (take (leading_expected o lines) lines))
        ∷ shown_lines (drop (leading_expected o lines) lines)

    apart : List ShownLine
    apart =
        Expected lan (router ∷ []) ∷ Expected own (r ∷ expecting_routers (take (leading_expected own lines)
        lines))
        ∷ shown_lines (drop (leading_expected own lines) lines)

    by : (b : Bool) → (own == lan) ≡ b
        → put_expected own r (shown_lines lines)
        ≡ Expected own (r ∷ expecting_routers (take (leading_expected own lines) lines))
        ∷ shown_lines (drop (leading_expected own lines) lines)
        → put_expected lan router (put_expected own r (shown_lines lines))
        ≡ Expected lan (router ∷ expecting_routers (take (cond b (suc (leading_expected lan lines)) zero)
        (ExpectedFromHere own r ∷ lines)))
        ∷ shown_lines (drop (cond b (suc (leading_expected lan lines)) zero) (ExpectedFromHere own r ∷ lines))
    by true q rest =
        ap (put_expected lan router) rest ∙ ap (λ (b : Bool). cond b (joined own) apart) q
        ∙ ap joined (eqb-true own lan q)
    by false q rest =
        ap (put_expected lan router) rest ∙ ap (λ (b : Bool). cond b (joined own) apart) q
        ∙ ap (λ (ls : List ShownLine). Expected lan (router ∷ []) ∷ ls) (sym rest)
put_expected-shown_lines lan router (_ ∷ lines) = refl

-- the shown lines if the list is split after those about the first one's LAN
pub shown_lines-split : (lan router : ℕ) (lines front back : List SearchLine) (n : ℕ) (d : SearchLine)
    → (length lines == 0) ≡ false → get_or lines 0 d ≡ ExpectedFromHere lan router
    → n ≡ leading_expected lan lines → front ≡ take n lines → back ≡ drop n lines
    → shown_lines lines ≡ Expected lan (expecting_routers front) ∷ shown_lines back
shown_lines-split lan router [] front back n d some is count at_front at_back = absurd cc
shown_lines-split lan router (line ∷ lines) front back n d some is count at_front at_back =
    ap (λ (x : SearchLine). put_line x (shown_lines lines)) is
    ∙ put_expected-shown_lines lan router lines
    ∙ ap (cut (ExpectedFromHere lan router)) (sym (ap
    (λ (b : Bool). cond b (suc (leading_expected lan lines)) zero)
    (eq-eqb lan lan refl)))
    ∙ ap (λ (x : SearchLine). cut x (leading_expected lan (x ∷ lines))) (sym is)
    ∙ ap (cut line) (sym count)
    ∙ ap₂ (λ (xs ys : List SearchLine). Expected lan (expecting_routers xs) ∷ shown_lines ys) (sym at_front)
    (sym at_back)
  where
    cut : SearchLine → ℕ → List ShownLine
    cut x m = Expected lan (expecting_routers (take m (x ∷ lines))) ∷ shown_lines (drop m (x ∷ lines))

-- no more lines are shown than there are
pub length-shown_lines : (lines : List SearchLine) → length (shown_lines lines) ≤ length lines
length-shown_lines [] = omega arith
length-shown_lines (line ∷ lines) = put line (shown_lines lines) (length-shown_lines lines)
  where
    put_expected-few : (lan router n : ℕ) (ls : List ShownLine) → length ls ≤ n
        → length (put_expected lan router ls) ≤ suc n
    put_expected-few lan router n [] few = omega arith
    put_expected-few lan router n (One line ∷ ls) few = omega (arith, few)
    put_expected-few lan router n (Expected next routers ∷ ls) few =
        elim (next == lan) as (λ b. length (cond b (Expected lan (router ∷ routers) ∷ ls)
        (Expected lan (router ∷ []) ∷ Expected next routers ∷ ls)) ≤ suc n) [
          | true ↦ omega (arith, few)
          | false ↦ omega (arith, few)
        ]

    put : (line : SearchLine) (ls : List ShownLine) → length ls ≤ length lines
        → length (put_line line ls) ≤ suc (length lines)
    put (ExpectedFromHere lan router) ls few = put_expected-few lan router (length lines) ls few
    put _ ls few = omega (arith, few)
