-- Adjacent interfaces of one router.
use Rattle.std.proofs.Common.{◌≡◌, ℕ, zero, suc, ◌≤◌, ◌==◌, Bool, true, false, cond}
use Rattle.std.proofs.Common.{List, [], ◌∷◌, length, take, drop, get_or, refl, ap, ap₂, sym, ◌∙◌, arith}
use Rattle.std.proofs.lemmas.Bool.{eq-eqb, eqb-true}
use Rattle.mc_search.specs.declared.listed_interface.ListedInterface.{ListedInterface}
use Rattle.mc_search.specs.SearchLine.{group_by_router, add_to_group}
use Rattle.mc_search.specs.BucketsAndMarks.{leading_of_router}

-- there are no more of them at the front than interfaces
pub leading_of_router-at_most_length : (router : ℕ) (is : List ListedInterface) → leading_of_router router
    is ≤ length is
leading_of_router-at_most_length router [] = omega arith
leading_of_router-at_most_length router (i ∷ is) = by (i.router == router) (leading_of_router-at_most_length
    router is)
  where
    by : (b : Bool) → leading_of_router router is ≤ length is → cond b (suc (leading_of_router router is))
        zero ≤ suc (length is)
    by true h = omega (arith, h)
    by false h = omega arith

cond-same_router : (r m : ℕ) → cond (r == r) (suc m) zero ≡ suc m
cond-same_router r m = ap (λ (b : Bool). cond b (suc m) zero) (eq-eqb r r refl)

-- the first group, of the router of the first interface
pub group_by_router-first : (i : ListedInterface) (is : List ListedInterface)
    → group_by_router (i ∷ is)
    ≡ (i.router, take (leading_of_router i.router (i ∷ is)) (i ∷ is)) ∷ group_by_router
    (drop (leading_of_router i.router (i ∷ is)) (i ∷ is))
group_by_router-first i [] =
    ap (λ (n : ℕ). (i.router, take n (i ∷ [])) ∷ group_by_router (drop n (i ∷ [])))
    (sym (cond-same_router i.router 0))
group_by_router-first i (j ∷ js) =
    by_next (j.router == i.router) refl (group_by_router-first j js)
    ∙ ap (λ (n : ℕ). (i.router, take n (i ∷ j ∷ js)) ∷ group_by_router (drop n (i ∷ j ∷ js)))
    (sym (cond-same_router i.router (leading_of_router i.router (j ∷ js))))
  where
    by_next : (b : Bool) → (j.router == i.router) ≡ b
        → group_by_router (j ∷ js) ≡ (j.router, take (leading_of_router j.router (j ∷ js)) (j ∷ js))
        ∷ group_by_router (drop (leading_of_router j.router (j ∷ js)) (j ∷ js))
        → add_to_group i (group_by_router (j ∷ js))
        ≡ (i.router, i ∷ take (leading_of_router i.router (j ∷ js)) (j ∷ js))
        ∷ group_by_router (drop (leading_of_router i.router (j ∷ js)) (j ∷ js))
    by_next true q rest =
        let same : j.router ≡ i.router = eqb-true j.router i.router q in
        ap (add_to_group i) rest
        ∙ ap (λ (b : Bool). cond b ((i.router, i ∷ take (leading_of_router j.router (j ∷ js)) (j ∷ js))
        ∷ group_by_router (drop (leading_of_router j.router (j ∷ js)) (j ∷ js)))
        ((i.router, i ∷ []) ∷ (j.router, take (leading_of_router j.router (j ∷ js)) (j ∷ js))
        ∷ group_by_router (drop (leading_of_router j.router (j ∷ js)) (j ∷ js)))) q
        ∙ ap (λ (r : ℕ). (i.router, i ∷ take (leading_of_router r (j ∷ js)) (j ∷ js))
        ∷ group_by_router (drop (leading_of_router r (j ∷ js)) (j ∷ js))) same
    by_next false q rest =
        let none : leading_of_router i.router (j ∷ js) ≡ zero =
        ap (λ (b : Bool). cond b (suc (leading_of_router i.router js)) zero) q in
        ap (add_to_group i) rest
        ∙ ap (λ (b : Bool). cond b ((i.router, i ∷ take (leading_of_router j.router (j ∷ js)) (j ∷ js))
        ∷ group_by_router (drop (leading_of_router j.router (j ∷ js)) (j ∷ js)))
        ((i.router, i ∷ []) ∷ (j.router, take (leading_of_router j.router (j ∷ js)) (j ∷ js))
        ∷ group_by_router (drop (leading_of_router j.router (j ∷ js)) (j ∷ js)))) q
        ∙ ap (λ (gs : List (ℕ × List ListedInterface)). (i.router, i ∷ []) ∷ gs) (sym rest)
        ∙ ap (λ (n : ℕ). (i.router, i ∷ take n (j ∷ js)) ∷ group_by_router (drop n (j ∷ js))) (sym none)

-- a list that isn't empty begins with its element at 0
cons-from_get_or_first : (is : List ListedInterface) (i : ListedInterface) → (length is == 0) ≡ false
    → i ≡ get_or is 0 i → is ≡ i ∷ drop 1 is
cons-from_get_or_first [] i some read = absurd cc
cons-from_get_or_first (j ∷ is) i some read = ap (λ (x : ListedInterface). x ∷ is) (sym read)

-- the same for a list that is split after the group
pub group_by_router-split : (is front back : List ListedInterface) (i : ListedInterface) (n : ℕ)
    → (length is == 0) ≡ false → i ≡ get_or is 0 i → n ≡ leading_of_router (get_or is 0 i).router is
    → front ≡ take n is → back ≡ drop n is
    → group_by_router is ≡ ((get_or is 0 i).router, front) ∷ group_by_router back
group_by_router-split is front back i n some read count at_front at_back =
    let one = cons-from_get_or_first is i some read in
    ap group_by_router one ∙ group_by_router-first i (drop 1 is)
    ∙ ap (λ (xs : List ListedInterface). (i.router, take (leading_of_router i.router xs) xs)
    ∷ group_by_router (drop (leading_of_router i.router xs) xs)) (sym one)
    ∙ ap (λ (j : ListedInterface). (j.router, take (leading_of_router j.router is) is)
    ∷ group_by_router (drop (leading_of_router j.router is) is)) read
    ∙ ap (λ (m : ℕ). ((get_or is 0 i).router, take m is) ∷ group_by_router (drop m is)) (sym count)
    ∙ ap₂ (λ (xs ys : List ListedInterface). ((get_or is 0 i).router, xs) ∷ group_by_router ys) (sym at_front)
    (sym at_back)
