-- The order of entries doesn't matter.
use Rattle.std.proofs.Common.{◌≡◌, ℕ, zero, suc, ◌+◌, ◌<◌, inl, inr, Bool, true, false, cond}
use Rattle.std.proofs.Common.{◌==◌, List, [], ◌∷◌, map, length, Contains, slice_index_or, refl}
use Rattle.std.proofs.Common.{sym, ◌∙◌, arith}
use Rattle.std.specs.List.{count_by}
use Rattle.std.specs.List.Sorted.{IsPermutation}
use Rattle.std.proofs.lemmas.List.Sorted.{Contains-permutation, IsPermutation-sym}
use Rattle.std.proofs.lemmas.List.Sorted.{sum_by-IsPermutation}
use Rattle.std.proofs.lemmas.List.Recursion.{is_count_by}
use Rattle.mc_theory.specs.Lists.{In, Distinct, count_of}
use Rattle.mc_theory.specs.Nets.{Net}
use Rattle.mc_theory.specs.Certificates.{Entry, IsTree, IsServed, IsAccepted, source_entry_of}
use Rattle.mc_theory.specs.Certificates.{IsReordering}
use Rattle.mc_theory.proofs.CountsOfImages.{count_with_image-at_most_one, distinct-from_counts}

-- ---- lists with the same entries

pub is_tree-reordering : (n : Net) (es fs : List Entry) → IsReordering es fs → IsTree n es → IsTree n fs
is_tree-reordering n es fs same t = record {
  one_entry = same.one_entry;
  source_entry = same.to (source_entry_of n) t.source_entry;
  others_fed = λ e h. t.others_fed e (same.from e h);
  no_wildcard = λ e r v h. t.no_wildcard e r v (same.from e h);
  no_stray = λ p r v h i. t.no_stray p r v h (same.from p i);
  tree = λ p r v h q i feeds on. (let c = t.tree p r v h q (same.from p i) feeds
      on in (c.0, same.to c.0 c.1, c.2, c.3));
  fed = λ e r v i q. (let c = t.fed e r v (same.from e i)
      q in (c.0, c.1, same.to c.0 c.2, c.3, c.4));
}

pub is_served-reordering : (n : Net) (es fs : List Entry) → IsReordering es fs → IsServed n es →
    IsServed n fs
is_served-reordering n es fs same served l w = let s = served l w in (s.0, same.to s.0 s.1, s.2, s.3)

pub is_accepted-reordering : (n : Net) (es fs : List Entry) → IsReordering es fs → IsAccepted n es →
    IsAccepted n fs
is_accepted-reordering n es fs same acc = record {
  is_tree = is_tree-reordering n es fs same acc.is_tree;
  served =
      is_served-reordering n es fs same acc.served;
}

-- ---- membership by index

contains-from_in : {A : Type 0} (x : A) (xs : List A) → In x xs → Contains xs x
contains-from_in x [] h = absurd h
contains-from_in x (y ∷ xs) (inl e) = (0, omega arith, e)
contains-from_in x (y ∷ xs) (inr h) = let k = contains-from_in x xs h in (suc k.0, omega (arith, k.1), k.2)

in-from_slice_index : {A : Type 0} (x d : A) (xs : List A) (k : ℕ) → k < length xs →
    slice_index_or xs k d ≡ x →
    In x xs
in-from_slice_index x d [] k lt e = absurd (omega arith)
in-from_slice_index x d (y ∷ xs) zero lt e = inl e
in-from_slice_index x d (y ∷ xs) (suc k) lt e = inr (in-from_slice_index x d xs k (omega (arith, lt)) e)

in-from_permutation : {A : Type 0} (xs ys : List A) (x : A) → IsPermutation xs ys → In x xs → In x ys
in-from_permutation xs ys x p h = let k =
    Contains-permutation xs ys x p (contains-from_in x xs h) in in-from_slice_index x
    x ys k.0 k.1 k.2

-- ---- a permutation of an accepted list is a reordering

count_of-permutation : {A : Type 0} (p : A → Bool) (xs ys : List A) → IsPermutation xs ys →
    count_of p ys ≡ count_of p xs
count_of-permutation p xs ys h = by p ys ∙ (sum_by-IsPermutation (λ x. cond (p x) 1 0) xs ys h ∙
    sym (by p xs))
  where
    one_more : (b : Bool) (k : ℕ) → cond b (suc k) k ≡ cond b (1 + k) k
    one_more true k = omega arith
    one_more false k = refl

    by : {A : Type 0} (p : A → Bool) (xs : List A) → count_of p xs ≡ count_by p xs
    by p xs = is_count_by (count_of p) p refl (λ x xs. one_more (p x) (count_of p xs)) xs

pub is_reordering-from_permutation : (es fs : List Entry) → IsPermutation es fs →
    Distinct (map (λ (e : Entry). e.lan) es) → IsReordering es fs
is_reordering-from_permutation es fs h apart = record {
  one_entry = distinct-from_counts (λ (e : Entry). e.lan) fs
      (λ l. let same = count_of-permutation (λ (e : Entry). e.lan == l) es fs h in let one =
      count_with_image-at_most_one (λ (e : Entry). e.lan) es l apart in omega (arith, same, one));
  to = λ e k. in-from_permutation es fs e h k;
  from = λ e k. in-from_permutation fs es e (IsPermutation-sym es fs h) k;
}

pub is_accepted-permutation : (n : Net) (es fs : List Entry) → IsPermutation es fs → IsAccepted n es →
    IsAccepted n fs
is_accepted-permutation n es fs h acc =
    is_accepted-reordering n es fs (is_reordering-from_permutation es fs h acc.is_tree.one_entry)
    acc
