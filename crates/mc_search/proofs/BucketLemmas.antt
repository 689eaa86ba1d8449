-- Items that are put into lists by a number, one by one.
use Rattle.std.proofs.Common.{◌≡◌, ℕ, zero, suc, ◌+◌, ◌-◌, ◌<◌, ◌==◌, inl, inr, Bool, true, false, cond}
use Rattle.std.proofs.Common.{List, [], ◌∷◌, ◌++◌, map, flat_map, filter, length, set, get_or, find}
use Rattle.std.proofs.Common.{Option, Some, None, refl, ap, sym, subst, ◌∙◌, arith, append-nil}
use Rattle.std.specs.Prelude.{slice_get}
use Rattle.std.specs.Option.{option_or}
use Rattle.std.proofs.lemmas.Bool.{cases_eq, eq-eqb, ne_eqb}
use Rattle.std.proofs.lemmas.List.{get_or-set_same, get_or-set_other, get_or_default, length-set}
use Rattle.std.proofs.lemmas.List.{length-map, map-append}
use Rattle.std.proofs.lemmas.List.Elements.{filter-append}
use Rattle.std.proofs.lemmas.List.Folds.{find-append}
use Rattle.std.proofs.lemmas.Option.{get_or_from_slice_get}
use Rattle.std.proofs.lemmas.Grind.{flat_map-append}
use Rattle.mc_theory.specs.Lists.{In, below}
use Rattle.mc_theory.proofs.ListLemmas.{in-below_cases, in-filter_cases}
use Rattle.mc_forward.proofs.BelowLemmas.{below-more, length-below, slice_get-map_below}
use Rattle.mc_search.specs.BucketsAndMarks.{AreBuckets}

-- empty lists have no keys
pub are_buckets-none : {A : Type 0} (f : ℕ → A) (number : ℕ → ℕ) (lists : List (List A)) (n : ℕ)
    → lists ≡ map (λ _. []) (below n) → AreBuckets f number lists []
are_buckets-none {A} f number lists n e b lt =
    let size : length lists ≡ n =
    ap length e ∙ length-map {B = List A} (below n) (λ _. []) ∙ length-below n in
    get_or_from_slice_get lists b [] [] (ap (λ (xs : List (List A)). slice_get xs b) e
    ∙ slice_get-map_below (λ _. []) n b (omega (arith, size, lt)))

-- one key more
map_filter-push : {A : Type 0} (f : ℕ → A) (number : ℕ → ℕ) (ks : List ℕ) (k b : ℕ) (here : Bool)
    → (number k == b) ≡ here
    → map f (filter (λ x. number x == b) (ks ++ k ∷ []))
    ≡ map f (filter (λ x. number x == b) ks) ++ cond here (f k ∷ []) []
map_filter-push {A} f number ks k b here q =
    ap (map f) (filter-append (λ x. number x == b) ks (k ∷ []))
    ∙ map-append f (filter (λ x. number x == b) ks) (filter (λ x. number x == b) (k ∷ []))
    ∙ ap (λ (xs : List A). map f (filter (λ x. number x == b) ks) ++ xs)
    (ap (λ (t : Bool). map f (cond t (k ∷ []) [])) q ∙ one here)
  where
    one : (t : Bool) → map f (cond t (k ∷ []) []) ≡ cond t (f k ∷ []) []
    one true = refl
    one false = refl

-- one item more, at the end of the list with its number
pub are_buckets-more : {A : Type 0} (f : ℕ → A) (number : ℕ → ℕ) (lists : List (List A)) (ks : List ℕ)
    (k q : ℕ) (own next : List A) → q ≡ number k → q < length lists → own ≡ get_or lists q own
    → next ≡ own ++ f k ∷ [] → AreBuckets f number lists ks
    → AreBuckets f number (set lists q next) (ks ++ k ∷ [])
are_buckets-more {A} f number lists ks k q own next at within read more holds b lt =
    let inside : b < length lists =
    subst (λ (n : ℕ). b < n) (length-set lists q next) lt in
    elim (cases_eq b q) [
      | inl same ↦ (
          let here : get_or (set lists q next) b [] ≡ next =
          ap (λ (n : ℕ). get_or (set lists q next) n []) same
          ∙ get_or-set_same lists q next [] within in
          let was : own ≡ get_or lists b [] = read ∙ get_or_default lists q own [] within
          ∙ ap (λ (n : ℕ). get_or lists n []) (sym same) in
          here ∙ more ∙ ap (λ xs. xs ++ f k ∷ []) (was ∙ holds b inside)
          ∙ sym (map_filter-push f number ks k b true (eq-eqb (number k) b (sym at ∙ sym same))))
      | inr other ↦ (
          get_or-set_other lists q b next [] other ∙ holds b inside
          ∙ sym (append-nil (map f (filter (λ x. number x == b) ks)))
          ∙ sym (map_filter-push f number ks k b false
          (ne_eqb (number k) b (λ e. other (sym e ∙ sym at)))))
    ]

-- ---- the first number that passes a test

-- the next number fails too
pub find_below-none_more : (p : ℕ → Bool) (k : ℕ) → find p (below k) ≡ None → p k ≡ false
    → find p (below (k + 1)) ≡ None
find_below-none_more p k none fails =
    ap (find p) (below-more k) ∙ find-append p (below k) (k ∷ [])
    ∙ ap (λ (o : Option ℕ). option_or o (find p (k ∷ []))) none
    ∙ ap (λ (b : Bool). cond b (Some k) None) fails

-- the next number is the first to pass
find_below-found_next : (p : ℕ → Bool) (k : ℕ) → find p (below k) ≡ None → p k ≡ true
    → find p (below (k + 1)) ≡ Some k
find_below-found_next p k none passes =
    ap (find p) (below-more k) ∙ find-append p (below k) (k ∷ [])
    ∙ ap (λ (o : Option ℕ). option_or o (find p (k ∷ []))) none
    ∙ ap (λ (b : Bool). cond b (Some k) None) passes

-- one number more changes nothing
find_below-more : (p : ℕ → Bool) (k n : ℕ) → find p (below n) ≡ Some k → find p (below (n + 1)) ≡ Some k
find_below-more p k n found =
    ap (find p) (below-more n) ∙ find-append p (below n) (n ∷ [])
    ∙ ap (λ (o : Option ℕ). option_or o (find p (n ∷ []))) found

-- nor do several
find_below-add : (p : ℕ → Bool) (k m : ℕ) → find p (below (k + 1)) ≡ Some k
    → find p (below ((k + 1) + m)) ≡ Some k
find_below-add p k zero found =
    subst (λ (n : ℕ). find p (below n) ≡ Some k) (let e : k + 1 ≡ (k + 1) + 0 = omega arith in e)
    found
find_below-add p k (suc m) found =
    subst (λ (n : ℕ). find p (below n) ≡ Some k)
    (let e : ((k + 1) + m) + 1 ≡ (k + 1) + suc m = omega arith in e)
    (find_below-more p k ((k + 1) + m) (find_below-add p k m found))

-- the first number that passes below a greater bound
pub find_below-first : (p : ℕ → Bool) (k n : ℕ) → find p (below k) ≡ None → p k ≡ true → k < n
    → find p (below n) ≡ Some k
find_below-first p k n none passes lt =
    subst (λ (b : ℕ). find p (below b) ≡ Some k)
    (let e : (k + 1) + (n - (k + 1)) ≡ n = omega (arith, lt) in e)
    (find_below-add p k (n - (k + 1)) (find_below-found_next p k none passes))

-- ---- lists of lists

-- the images under the identity
pub map-identity : (ks : List ℕ) → map (λ k. k) ks ≡ ks
map-identity [] = refl
map-identity (k ∷ ks) = ap (λ (xs : List ℕ). k ∷ xs) (map-identity ks)

-- lists by one number more
pub flat_map-below_push : {A : Type 0} (f : ℕ → List A) (k : ℕ)
    → flat_map f (below (k + 1)) ≡ flat_map f (below k) ++ f k
flat_map-below_push {A} f k =
    ap (flat_map f) (below-more k) ∙ flat_map-append f (below k) (k ∷ [])
    ∙ ap (λ (xs : List A). flat_map f (below k) ++ xs) (append-nil (f k))

-- an element at a place in the list is in the list
in-get_or : (xs : List ℕ) (k d : ℕ) → k < length xs → In (get_or xs k d) xs
in-get_or [] k d lt = absurd (omega (arith, lt))
in-get_or (x ∷ xs) zero d lt = inl refl
in-get_or (x ∷ xs) (suc k) d lt = inr (in-get_or xs k d (omega (arith, lt)))

-- numbers below a bound that pass a test
pub get_or-filter_below_is_less : (p : ℕ → Bool) (n k d : ℕ) → k < length (filter p (below n))
    → get_or (filter p (below n)) k d < n
get_or-filter_below_is_less p n k d lt =
    in-below_cases _ n (in-filter_cases p _ (below n) (in-get_or (filter p (below n)) k d lt)).0

-- an item of a list by numbers
pub get_or-map_below : {A : Type 0} (f : ℕ → A) (n i : ℕ) (xs : List A) (x : A) → xs ≡ map f (below n)
    → i < length xs → x ≡ get_or xs i x → x ≡ f i
get_or-map_below {A} f n i xs x e lt read =
    let size : length xs ≡ n = ap length e ∙ length-map (below n) f ∙ length-below n in
    read ∙ get_or_from_slice_get xs i (f i) x (ap (λ (ys : List A). slice_get ys i) e
    ∙ slice_get-map_below f n i (omega (arith, size, lt)))
