-- The pairs of one group, which are next to each other among ascending pairs.
use Rattle.std.proofs.Common.{◌≡◌, ℕ, zero, suc, ◌+◌, ◌-◌, ◌<◌, ◌≤◌, ◌==◌, Bool, true, false, cond}
use Rattle.std.proofs.Common.{List, [], ◌∷◌, ◌++◌, drop, filter, get_or, length, map, set, take, arith}
use Rattle.std.proofs.Common.{refl, sym, ap, ap₂, subst, ◌∙◌, leb, ltb, inl, inr}
use Rattle.std.specs.List.{AllWithin}
use Rattle.std.specs.List.Sorted.{IsNonDecreasingBy, IsStrictlySortedBy, IsPartitionPoint}
use Rattle.std.specs.declared.cmp.Ordering.TheVariants.{Less}
use Rattle.std.proofs.lemmas.Bool.{cases_lt}
use Rattle.std.proofs.lemmas.Bool.Decides.{nat_tests}
use Rattle.std.proofs.lemmas.List.{get_or-drop, get_or-map, length-drop, length-map, take-append-drop}
use Rattle.std.proofs.lemmas.List.{take_more}
use Rattle.mc_tables.specs.CacheTable.{key_cmp}
use Rattle.mc_asked.specs.GroupRun.{IsRunOf, with_run}
use Rattle.mc_asked.proofs.OneKeyLemmas.{set-next}
use Rattle.mc_asked.proofs.PartLemmas.{key_cmp-from_are_above}
use Rattle.mc_asked.proofs.SharedPairLemmas.{in-get_or}

-- ---- where a group's pairs are

-- an earlier pair has no higher first part
first-le : (p q : ℕ × ℕ) → key_cmp p q ≡ Less → p.0 ≤ q.0
first-le p q less = grind (arith, nat_tests)

-- the first parts of ascending pairs ascend
pub firsts-ascend : (pairs : List (ℕ × ℕ)) → IsStrictlySortedBy key_cmp pairs
    → IsNonDecreasingBy (λ p. p.0) pairs
unfolding IsStrictlySortedBy
firsts-ascend [] up i j d le lt = absurd (omega (arith, lt))
firsts-ascend (p ∷ ps) up zero zero d le lt = omega arith
firsts-ascend (p ∷ ps) up zero (suc j) d le lt =
    let within : j < length ps = omega (arith, lt) in
    first-le p (get_or ps j d) (key_cmp-from_are_above p (get_or ps j d) ps up.0 (in-get_or ps j d within))
firsts-ascend (p ∷ ps) up (suc i) zero d le lt = absurd (omega (arith, le))
firsts-ascend (p ∷ ps) up (suc i) (suc j) d le lt =
    firsts-ascend ps up.1 i j d (omega (arith, le)) (omega (arith, lt))

-- by the tests for less and for at most the group
pub is_run-from_points : (group : ℕ) (pairs : List (ℕ × ℕ)) (a b : ℕ) → a ≤ length pairs → b ≤ length pairs
    → IsPartitionPoint (λ (p : ℕ × ℕ). ltb p.0 group ≡ true) (λ (p : ℕ × ℕ). ltb p.0 group ≡ false) pairs a
    → IsPartitionPoint (λ (p : ℕ × ℕ). leb p.0 group ≡ true) (λ (p : ℕ × ℕ). leb p.0 group ≡ false) pairs b
    → IsRunOf group pairs (a, b)
is_run-from_points group pairs a b within_a within_b first second = record {
  ordered = elim (cases_lt b a) [
    | inl less ↦ absurd (crossed (get_or pairs b (0, 0)).0 (first.0 b (0, 0) (omega arith) less)
        (second.1 b (0, 0) (omega arith) (omega (arith, less, within_a))))
    | inr le ↦ le
  ];
  within = within_b;
  before = λ k d le lt. let n = (get_or pairs k d).0 in let h = first.0 k d le lt in below n h;
  inside = λ k d le lt. let n = (get_or pairs k d).0 in
      between n (first.1 k d le (omega (arith, lt, within_b))) (second.0 k d (omega arith) lt);
  behind = λ k d le lt. let n = (get_or pairs k d).0 in above n (second.1 k d le lt);
}
  where
    crossed : (n : ℕ) → ltb n group ≡ true → leb n group ≡ false → ⊥
    crossed n h k = grind (arith, nat_tests)

    below : (n : ℕ) → ltb n group ≡ true → (n == group) ≡ false
    below n h = grind (arith, nat_tests)

    between : (n : ℕ) → ltb n group ≡ false → leb n group ≡ true → (n == group) ≡ true
    between n h k = grind (arith, nat_tests)

    above : (n : ℕ) → leb n group ≡ false → (n == group) ≡ false
    above n h = grind (arith, nat_tests)

-- ---- the elements of a run

module _ {A : Type 0} (test : A → Bool) where
  abbrev Passes : A → Type 0
  Passes x = test x ≡ true

  abbrev Fails : A → Type 0
  Fails x = test x ≡ false

  -- what holds of the elements behind the first one
  behind-first : (P : A → Type 0) (x : A) (xs : List A) (a b : ℕ) → AllWithin P (x ∷ xs) (suc a) (suc b)
      → AllWithin P xs a b
  behind-first P x xs a b all = λ k d le lt. all (suc k) d (omega (arith, le)) (omega (arith, lt))

  behind-zero : (P : A → Type 0) (x : A) (xs : List A) (b : ℕ) → AllWithin P (x ∷ xs) 0 (suc b)
      → AllWithin P xs 0 b
  behind-zero P x xs b all = λ k d le lt. all (suc k) d (omega arith) (omega (arith, lt))

  none-within : (P : A → Type 0) (xs : List A) (a : ℕ) → AllWithin P xs a 0
  none-within P xs a = λ k d le lt. absurd (omega (arith, lt))

  -- they are those that pass
  pub filter-run : (xs : List A) (a b : ℕ) → a ≤ b → b ≤ length xs → AllWithin Fails xs 0 a
      → AllWithin Passes xs a b → AllWithin Fails xs b (length xs) → filter test xs ≡ take (b - a) (drop a xs)
  filter-run [] zero zero ordered within before inside behind = refl
  filter-run [] (suc a) b ordered within before inside behind = absurd (omega (arith, ordered, within))
  filter-run [] zero (suc b) ordered within before inside behind = absurd (omega (arith, within))
  filter-run (x ∷ xs) zero zero ordered within before inside behind =
      ap (λ t. cond t (x ∷ filter test xs) (filter test xs)) (behind 0 x (omega arith) (omega arith))
      ∙ filter-run xs zero zero (omega arith) (omega arith) (none-within Fails xs 0) (none-within Passes xs 0)
      (behind-zero Fails x xs (length xs) behind)
  filter-run (x ∷ xs) zero (suc b) ordered within before inside behind =
      let small : b - 0 ≡ b = omega arith in
      let large : suc b - 0 ≡ suc b = omega arith in
      ap (λ t. cond t (x ∷ filter test xs) (filter test xs)) (inside 0 x (omega arith) (omega arith))
      ∙ ap (λ l. x ∷ l) (filter-run xs zero b (omega arith) (omega (arith, within)) (none-within Fails xs 0)
      (behind-zero Passes x xs b inside) (behind-first Fails x xs b (length xs) behind)
      ∙ ap (λ n. take n xs) small)
      ∙ ap (λ n. take n (x ∷ xs)) (sym large)
  filter-run (x ∷ xs) (suc a) zero ordered within before inside behind = absurd (omega (arith, ordered))
  filter-run (x ∷ xs) (suc a) (suc b) ordered within before inside behind =
      let size : b - a ≡ suc b - suc a = omega arith in
      ap (λ t. cond t (x ∷ filter test xs) (filter test xs)) (before 0 x (omega arith) (omega arith))
      ∙ filter-run xs a b (omega (arith, ordered)) (omega (arith, within)) (behind-zero Fails x xs a before)
      (behind-first Passes x xs a b inside) (behind-first Fails x xs b (length xs) behind)
      ∙ ap (λ n. take n (drop a xs)) size

  -- where they are changed, those that pass are
  pub with_run-cond : (f : A → A) (xs : List A) (a b : ℕ) → a ≤ b → b ≤ length xs → AllWithin Fails xs 0 a
      → AllWithin Passes xs a b → AllWithin Fails xs b (length xs)
      → with_run f (a, b) xs ≡ map (λ x. cond (test x) (f x) x) xs
  with_run-cond f [] zero zero ordered within before inside behind = refl
  with_run-cond f [] (suc a) b ordered within before inside behind = absurd (omega (arith, ordered, within))
  with_run-cond f [] zero (suc b) ordered within before inside behind = absurd (omega (arith, within))
  with_run-cond f (x ∷ xs) zero zero ordered within before inside behind =
      ap₂ (λ (y : A) (ys : List A). y ∷ ys)
      (sym (ap (λ t. cond t (f x) x) (behind 0 x (omega arith) (omega arith))))
      (with_run-cond f xs zero zero (omega arith) (omega arith) (none-within Fails xs 0)
      (none-within Passes xs 0) (behind-zero Fails x xs (length xs) behind))
  with_run-cond f (x ∷ xs) zero (suc b) ordered within before inside behind =
      let small : b ≡ b - 0 = omega arith in
      let large : suc b - 0 ≡ suc b = omega arith in
      ap (λ n. map f (take n (x ∷ xs)) ++ drop b xs) large
      ∙ ap₂ (λ (y : A) (ys : List A). y ∷ ys)
      (sym (ap (λ t. cond t (f x) x) (inside 0 x (omega arith) (omega arith))))
      (ap (λ n. map f (take n xs) ++ drop b xs) small
      ∙ with_run-cond f xs zero b (omega arith) (omega (arith, within)) (none-within Fails xs 0)
      (behind-zero Passes x xs b inside) (behind-first Fails x xs b (length xs) behind))
  with_run-cond f (x ∷ xs) (suc a) zero ordered within before inside behind = absurd (omega (arith, ordered))
  with_run-cond f (x ∷ xs) (suc a) (suc b) ordered within before inside behind =
      let size : suc b - suc a ≡ b - a = omega arith in
      ap₂ (λ (y : A) (ys : List A). y ∷ ys)
      (sym (ap (λ t. cond t (f x) x) (before 0 x (omega arith) (omega arith))))
      (ap (λ n. take a xs ++ (map f (take n (drop a xs)) ++ drop b xs)) size
      ∙ with_run-cond f xs a b (omega (arith, ordered)) (omega (arith, within))
      (behind-zero Fails x xs a before)
      (behind-first Passes x xs a b inside) (behind-first Fails x xs b (length xs) behind))

-- by the keys of elements
pub with_run-of_keys : {A : Type 0} (key : A → ℕ × ℕ) (f : A → A) (group : ℕ) (ks : List (ℕ × ℕ))
    (xs : List A) (run : ℕ × ℕ) → ks ≡ map key xs → IsRunOf group ks run
    → with_run f run xs ≡ map (λ x. cond ((key x).0 == group) (f x) x) xs
with_run-of_keys {A} key f group ks xs run are is =
    let count : length ks ≡ length xs = ap length are ∙ length-map xs key in
    let all : (b : Bool) (low high : ℕ) → high ≤ length ks
    → AllWithin (λ (p : ℕ × ℕ). (p.0 == group) ≡ b) ks low high
    → AllWithin (λ (x : A). ((key x).0 == group) ≡ b) xs low high =
    λ b low high within holds k d le lt.
    let at : get_or ks k (0, 0) ≡ key (get_or xs k d) =
    ap (λ l. get_or l k (0, 0)) are ∙ get_or-map key xs k d (0, 0) (omega (arith, lt, within, count)) in
    subst (λ (p : ℕ × ℕ). (p.0 == group) ≡ b) at (holds k (0, 0) le lt) in
    with_run-cond (λ (x : A). (key x).0 == group) f xs run.0 run.1 is.ordered
    (omega (arith, is.within, count)) (all false 0 run.0 (omega (arith, is.ordered, is.within)) is.before)
    (all true run.0 run.1 is.within is.inside)
    (subst (λ n. AllWithin (λ (x : A). ((key x).0 == group) ≡ false) xs run.1 n) count
    (all false run.1 (length ks) (omega arith) is.behind))

-- ---- an element more

-- the next element of a run
pub take_run-more : {A : Type 0} (xs : List A) (a k : ℕ) (x : A) → a ≤ k → k < length xs → x ≡ get_or xs k x
    → take (k - a) (drop a xs) ++ x ∷ [] ≡ take (k + 1 - a) (drop a xs)
take_run-more xs a k x le lt is =
    let next : (k - a) + 1 ≡ k + 1 - a = omega (arith, le) in
    let place : a + (k - a) ≡ k = omega (arith, le) in
    let within : k - a < length (drop a xs) = omega (arith, length-drop a xs, le, lt) in
    let here : x ≡ get_or (drop a xs) (k - a) x =
    is ∙ ap (λ n. get_or xs n x) (sym place) ∙ sym (get_or-drop a xs (k - a) x) in
    ap (λ y. take (k - a) (drop a xs) ++ y ∷ []) here
    ∙ sym (take_more (drop a xs) (k - a) x within) ∙ ap (λ n. take n (drop a xs)) next

module _ {A : Type 0} (f : A → A) where
  -- before the first element
  pub with_run-none : (xs : List A) (a : ℕ) → xs ≡ with_run f (a, a) xs
  with_run-none xs a =
      let none : 0 ≡ a - a = omega arith in
      sym (take-append-drop a xs) ∙ ap (λ n. take a xs ++ (map f (take n (drop a xs)) ++ drop a xs)) none

  -- all elements
  pub with_run-all : (xs : List A) → with_run f (0, length xs) xs ≡ map f xs
  with_run-all [] = refl
  with_run-all (x ∷ xs) =
      let size : suc (length xs) - 0 ≡ suc (length xs) = omega arith in
      let small : length xs ≡ length xs - 0 = omega arith in
      ap (λ n. map f (take n (x ∷ xs)) ++ drop (length xs) xs) size
      ∙ ap (λ l. f x ∷ l) (ap (λ n. map f (take n xs) ++ drop (length xs) xs) small ∙ with_run-all xs)

  with_run-front : (xs : List A) (b : ℕ) → with_run f (0, b) xs ≡ map f (take b xs) ++ drop b xs
  with_run-front xs b =
      let size : b - 0 ≡ b = omega arith in
      ap (λ n. map f (take n xs) ++ drop b xs) size

  with_run-suc : (x : A) (xs : List A) (a b : ℕ)
      → with_run f (suc a, suc b) (x ∷ xs) ≡ x ∷ with_run f (a, b) xs
  with_run-suc x xs a b =
      let size : suc b - suc a ≡ b - a = omega arith in
      ap (λ n. x ∷ (take a xs ++ (map f (take n (drop a xs)) ++ drop b xs))) size

  set-with_run : (xs : List A) (a b : ℕ) (d : A) → a ≤ b → b < length xs
      → set (with_run f (a, b) xs) b (f (get_or (with_run f (a, b) xs) b d)) ≡ with_run f (a, b + 1) xs
  set-with_run [] a b d le lt = absurd (omega (arith, lt))
  set-with_run (x ∷ xs) zero b d le lt =
      set-next f (x ∷ xs) (with_run f (0, b) (x ∷ xs)) b (f (get_or (with_run f (0, b) (x ∷ xs)) b d)) d lt
      (with_run-front (x ∷ xs) b) refl
      ∙ sym (with_run-front (x ∷ xs) (b + 1))
  set-with_run (x ∷ xs) (suc a) zero d le lt = absurd (omega (arith, le))
  set-with_run (x ∷ xs) (suc a) (suc b) d le lt =
      let next : suc (b + 1) ≡ suc b + 1 = omega arith in
      ap (λ l. set l (suc b) (f (get_or l (suc b) d))) (with_run-suc x xs a b)
      ∙ ap (λ l. x ∷ l) (set-with_run xs a b d (omega (arith, le)) (omega (arith, lt)))
      ∙ sym (with_run-suc x xs a (b + 1))
      ∙ ap (λ n. with_run f (suc a, n) (x ∷ xs)) next

  -- the next one
  pub with_run-more : (xs now : List A) (a b : ℕ) (y d : A) → a ≤ b → b < length xs
      → now ≡ with_run f (a, b) xs → y ≡ f (get_or now b d) → set now b y ≡ with_run f (a, b + 1) xs
  with_run-more xs now a b y d le lt so_far is =
      ap (set now b) is ∙ ap (λ l. set l b (f (get_or l b d))) so_far ∙ set-with_run xs a b d le lt
