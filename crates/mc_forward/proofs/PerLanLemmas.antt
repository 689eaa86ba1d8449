-- The vector of first items, as it fills.
use Rattle.std.proofs.Common.{◌≡◌, ◌≢◌, ℕ, zero, suc, ◌<◌, Bool, true, false, cond, ◌==◌, List, []}
use Rattle.std.proofs.Common.{◌∷◌, ◌++◌, length, Option, Some, None, replicate, refl, ap}
use Rattle.std.proofs.Common.{sym, subst, ◌∙◌, arith}
use Rattle.std.specs.Prelude.{slice_set, IsTrue, IsFalse, IsSome}
use Rattle.std.proofs.lemmas.Bool.{eqb-true, eq-eqb, false≢true}
use Rattle.std.proofs.lemmas.List.{length-set}
use Rattle.mc_theory.specs.Flights.{Copy}
use Rattle.mc_theory.specs.Certificates.{Entry}
use Rattle.mc_theory.specs.Reasons.{entry_on}
use Rattle.mc_theory.specs.Findings.{first_copy_on}
use Rattle.mc_forward.specs.PerLan.{item_on_lan, first_with_key, HoldsFirstOfEachKey}

-- ---- the first of a key, with one item more

-- an item is the first one if there was none
first_with_key-push : {A : Type 0} (key : A → ℕ) (xs : List A) (x : A) (n : ℕ) →
    first_with_key key xs n ≡ None
    → first_with_key key (xs ++ x ∷ []) n ≡ first_with_key key (x ∷ []) n
first_with_key-push key [] x n none = refl
first_with_key-push {A} key (y ∷ xs) x n none = by (key y == n) none (first_with_key-push key xs x n)
  where
    by : (b : Bool) → cond b (Some y) (first_with_key key xs n) ≡ None
        → (first_with_key key xs n ≡ None →
        first_with_key key (xs ++ x ∷ []) n ≡ first_with_key key (x ∷ []) n)
        → cond b (Some y) (first_with_key key (xs ++ x ∷ []) n) ≡ first_with_key key (x ∷ []) n
    by true none rest = absurd cc
    by false none rest = rest none

-- an item of another key changes nothing
first_with_key-push_other_key : {A : Type 0} (key : A → ℕ) (xs : List A) (x : A) (n : ℕ) →
    (key x == n) ≡ false
    → first_with_key key (xs ++ x ∷ []) n ≡ first_with_key key xs n
first_with_key-push_other_key key [] x n other = ap (λ (b : Bool). cond b (Some x) None) other
first_with_key-push_other_key key (y ∷ xs) x n other =
    ap (cond (key y == n) (Some y)) (first_with_key-push_other_key key xs x n other)

-- nor does an item after the first one
first_with_key-push_again : {A : Type 0} (key : A → ℕ) (xs : List A) (x y : A) (n : ℕ)
    → first_with_key key xs n ≡ Some y → first_with_key key (xs ++ x ∷ []) n ≡ Some y
first_with_key-push_again key [] x y n some = absurd cc
first_with_key-push_again {A} key (z ∷ xs) x y n some =
    by (key z == n) some (first_with_key-push_again key xs x y n)
  where
    by : (b : Bool) → cond b (Some z) (first_with_key key xs n) ≡ Some y
        → (first_with_key key xs n ≡ Some y → first_with_key key (xs ++ x ∷ []) n ≡ Some y)
        → cond b (Some z) (first_with_key key (xs ++ x ∷ []) n) ≡ Some y
    by true some rest = some
    by false some rest = rest some

-- ---- what is held, once an item was put

-- the item is held where it was put
item_on_lan-slice_set_same : {A : Type 0} (places : List (Option A)) (x : A) (n : ℕ) → n < length places
    → item_on_lan (slice_set places n (Some x)) n ≡ Some x
item_on_lan-slice_set_same [] x n lt = absurd (omega (arith, lt))
item_on_lan-slice_set_same (p ∷ places) x zero lt = refl
item_on_lan-slice_set_same (p ∷ places) x (suc n) lt =
    item_on_lan-slice_set_same places x n (omega (arith, lt))

-- what was held elsewhere is held still
item_on_lan-slice_set_other : {A : Type 0} (places : List (Option A)) (x : A) (n m : ℕ) → n ≢ m
    → item_on_lan (slice_set places n (Some x)) m ≡ item_on_lan places m
item_on_lan-slice_set_other [] x n m other = refl
item_on_lan-slice_set_other (p ∷ places) x zero zero other = absurd (other refl)
item_on_lan-slice_set_other (p ∷ places) x zero (suc m) other = refl
item_on_lan-slice_set_other (p ∷ places) x (suc n) zero other = refl
item_on_lan-slice_set_other (p ∷ places) x (suc n) (suc m) other =
    item_on_lan-slice_set_other places x n m (λ q. other (ap suc q))

-- ---- item by item

-- nothing is held at first
item_on_lan-replicate_none : {A : Type 0} (lans n : ℕ) → item_on_lan {A = A} (replicate lans None) n ≡ None
item_on_lan-replicate_none zero n = refl
item_on_lan-replicate_none (suc lans) zero = refl
item_on_lan-replicate_none {A} (suc lans) (suc n) = item_on_lan-replicate_none {A = A} lans n

-- no item was put yet
pub holds_first-start : {A : Type 0} (key : A → ℕ) (places : List (Option A)) (lans : ℕ)
    → places ≡ replicate lans None → HoldsFirstOfEachKey key places []
holds_first-start {A} key places lans e n =
    ap (λ ps. item_on_lan ps n) e ∙ item_on_lan-replicate_none {A = A} lans n

-- an item was put at a place that held none
pub holds_first-put : {A : Type 0} (key : A → ℕ) (places : List (Option A)) (xs : List A) (x : A)
    → key x < length places → HoldsFirstOfEachKey key places xs → item_on_lan places (key x) ≡ None
    → HoldsFirstOfEachKey key (slice_set places (key x) (Some x)) (xs ++ x ∷ [])
holds_first-put {A} key places xs x lt filled free n = by (key x == n) refl
  where
    by : (b : Bool) → (key x == n) ≡ b → item_on_lan (slice_set places (key x) (Some x)) n
        ≡ first_with_key key (xs ++ x ∷ []) n
    by true q =
        let same : key x ≡ n = eqb-true (key x) n q in
        let none : first_with_key key xs n ≡ None = sym (filled n)
        ∙ (ap (item_on_lan places) (sym same) ∙ free) in
        subst (λ i. item_on_lan (slice_set places (key x) (Some x)) i ≡ Some x) same
        (item_on_lan-slice_set_same places x (key x) lt)
        ∙ sym (first_with_key-push key xs x n none ∙ ap (λ (b : Bool). cond b (Some x) None) q)
    by false q =
        item_on_lan-slice_set_other places x (key x)
        n (λ same. absurd (false≢true (sym q ∙ eq-eqb (key x) n same)))
        ∙ (filled n ∙ sym (first_with_key-push_other_key key xs x n q))

-- an item after the first of its key changes nothing
pub holds_first-not_put : {A : Type 0} (key : A → ℕ) (places : List (Option A)) (xs : List A) (x : A)
    → HoldsFirstOfEachKey key places xs → IsSome (item_on_lan places (key x))
    → HoldsFirstOfEachKey key places (xs ++ x ∷ [])
holds_first-not_put {A} key places xs x filled some = by_held (item_on_lan places (key x)) refl some
  where
    by_key : (y : A) → item_on_lan places (key x) ≡ Some y → (n : ℕ) (b : Bool) → (key x == n) ≡ b
        → item_on_lan places n ≡ first_with_key key (xs ++ x ∷ []) n
    by_key y taken n true q =
        let same : key x ≡ n = eqb-true (key x) n q in
        let here : item_on_lan places n ≡ Some y = ap (item_on_lan places) (sym same) ∙ taken in
        here ∙ sym (first_with_key-push_again key xs x y n (sym (filled n) ∙ here))
    by_key y taken n false q = filled n ∙ sym (first_with_key-push_other_key key xs x n q)

    by_held : (o : Option A) → item_on_lan places (key x) ≡ o → IsSome o
        → HoldsFirstOfEachKey key places (xs ++ x ∷ [])
    by_held None e some = absurd cc
    by_held (Some y) e some = λ n. by_key y e n (key x == n) refl

-- one item more, which was put or not
pub holds_first-more : {A : Type 0} (key : A → ℕ) (places now : List (Option A)) (xs : List A) (x : A)
    (put : Bool) → key x < length places → HoldsFirstOfEachKey key places xs
    → (IsTrue put → item_on_lan places (key x) ≡ None)
    → (IsTrue put → now ≡ slice_set places (key x) (Some x))
    → (IsFalse put → IsSome (item_on_lan places (key x))) → (IsFalse put → now ≡ places)
    → HoldsFirstOfEachKey key now (xs ++ x ∷ [])
holds_first-more key places now xs x true lt filled free is earlier kept =
    subst (λ ps. HoldsFirstOfEachKey key ps (xs ++ x ∷ [])) (sym (is refl))
    (holds_first-put key places xs x lt filled (free refl))
holds_first-more key places now xs x false lt filled free is earlier kept =
    subst (λ ps. HoldsFirstOfEachKey key ps (xs ++ x ∷ [])) (sym (kept refl))
    (holds_first-not_put key places xs x filled (earlier refl))

-- as many places as before
pub length-after_put : {A : Type 0} (places now : List (Option A)) (n : ℕ) (x : A) (put : Bool)
    → (IsTrue put → now ≡ slice_set places n (Some x)) → (IsFalse put → now ≡ places)
    → length now ≡ length places
length-after_put places now n x true is kept = ap length (is refl) ∙ length-set places n (Some x)
length-after_put places now n x false is kept = ap length (kept refl)

-- ---- entries and copies

-- the first entry of a LAN
pub first_with_key-entry_on : (es : List Entry) (l : ℕ) →
    first_with_key (λ (e : Entry). e.lan) es l ≡ entry_on es l
first_with_key-entry_on [] l = refl
first_with_key-entry_on (e ∷ es) l = ap (cond (e.lan == l) (Some e)) (first_with_key-entry_on es l)

-- the first copy on a LAN
pub first_with_key-first_copy_on : (cs : List Copy) (l : ℕ) →
    first_with_key (λ (c : Copy). c.lan) cs l ≡ first_copy_on cs l
first_with_key-first_copy_on [] l = refl
first_with_key-first_copy_on (c ∷ cs) l = ap (cond (c.lan == l) (Some c)) (first_with_key-first_copy_on cs l)
