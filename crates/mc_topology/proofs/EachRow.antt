-- Rows that are read one after another: as a loop reads them, and what they denote.
use Rattle.std.proofs.Common.{◌≡◌, ℕ, ◌+◌, ◌<◌, ◌≤◌, Bool, false, List, [], ◌∷◌, ◌++◌, length, get_or}
use Rattle.std.proofs.Common.{drop, map, Result, Ok, Err, refl, sym, ap, subst, ◌∙◌, append_assoc}
use Rattle.std.specs.Bool.{Decides}
use Rattle.std.specs.List.{list_any}
use Rattle.std.proofs.lemmas.List.{append-nil, drop_more, drop_all}
use Rattle.toml.specs.Data.{Data}
use Rattle.mc_topology.specs.declared.fault.Section.{Section}
use Rattle.mc_topology.specs.declared.fault.TopologyFaultKind.{TopologyFaultKind}
use Rattle.mc_topology.specs.EachRow.{read_rows, each_row}
use Rattle.mc_topology.specs.Denotation.{EachDenotes}
use Rattle.mc_topology.specs.Topology.{AreDistinctBy}
use Rattle.mc_topology.proofs.Distinct.{AreDistinctBy-push, is_key_taken-from_distinct}
use Rattle.mc_topology.proofs.Steps.{ok_injective, located_ok}

-- ---- as a loop does

module _ {A D X E : Type 0} (one : List X → D → Result X E) (see : A → D) (earlier : List X)
    (rows : List A) (i : ℕ) where
  -- a row that is read
  pub read_rows-more : (row : A) (x : X) → i < length rows → row ≡ get_or rows i row
      → one earlier (see row) ≡ Ok x
      → read_rows one earlier (map see (drop i rows))
      ≡ read_rows one (earlier ++ x ∷ []) (map see (drop (i + 1) rows))
  unfolding read_rows
  read_rows-more row x lt is ok = rw (drop_more rows i row lt, ← is, ok) refl

  -- a row that is refused
  pub read_rows-Err : (row : A) (fault : E) → i < length rows → row ≡ get_or rows i row
      → one earlier (see row) ≡ Err fault → read_rows one earlier (map see (drop i rows)) ≡ Err fault
  unfolding read_rows
  read_rows-Err row fault lt is refused = rw (drop_more rows i row lt, ← is, refused) refl

  -- no row is left
  pub read_rows-all : length rows ≤ i → read_rows one earlier (map see (drop i rows)) ≡ Ok earlier
  unfolding read_rows
  read_rows-all past = rw (drop_all i rows past) refl

-- ---- what they denote

module _ {X K : Type 0} (section : Section) (one : List X → Data → Result X TopologyFaultKind)
    (Denotation : Data → X → Type 0) (key : X → K) (test : X → X → Bool)
    (same : (y x : X) → Decides (test y x) (key y ≡ key x)) where
  -- rows that are read denote what is read, and the keys stay distinct
  pub each_row-denotes : ((earlier : List X) (d : Data) (x : X) → one earlier d ≡ Ok x → Denotation d x
      × (list_any (λ y. test y x) earlier ≡ false))
      → (earlier : List X) (ds : List Data) (ys : List X) → AreDistinctBy key earlier
      → each_row section one earlier ds ≡ Ok ys → (xs : List X) × (ys ≡ earlier ++ xs)
      × EachDenotes Denotation ds xs × AreDistinctBy key ys
  unfolding read_rows
  each_row-denotes takes earlier [] ys distinct e =
      let all : earlier ≡ ys = ok_injective earlier ys e in (
        [],
        sym all ∙ sym (append-nil earlier),
        tt,
        subst (λ (zs : List X). AreDistinctBy key zs) all
            distinct,
      )
  each_row-denotes takes earlier (d ∷ ds) ys distinct e =
      let a = located_ok _ (one earlier d) (λ x. each_row section one (earlier ++ x ∷ []) ds) ys e in
      let taken = takes earlier d a.0 a.1 in
      let (xs, is, denoted, apart) =
      each_row-denotes takes (earlier ++ a.0 ∷ []) ds ys
      (AreDistinctBy-push key test same earlier a.0 distinct taken.1) a.2 in
      (a.0 ∷ xs, is ∙ append_assoc earlier (a.0 ∷ []) xs, (taken.0, denoted), apart)

  -- and what the rows denote, with distinct keys, is read
  pub each_row-from_denotes : ((earlier : List X) (d : Data) (x : X) → Denotation d x
      → list_any (λ y. test y x) earlier ≡ false → one earlier d ≡ Ok x)
      → (earlier : List X) (ds : List Data) (xs : List X) → EachDenotes Denotation ds xs
      → AreDistinctBy key (earlier ++ xs) → each_row section one earlier ds ≡ Ok (earlier ++ xs)
  unfolding read_rows
  each_row-from_denotes again earlier [] [] denoted distinct = ap Ok (sym (append-nil earlier))
  each_row-from_denotes again earlier [] (x ∷ xs) denoted distinct = absurd denoted
  each_row-from_denotes again earlier (d ∷ ds) [] denoted distinct = absurd denoted
  each_row-from_denotes again earlier (d ∷ ds) (x ∷ xs) denoted distinct =
      let all : (earlier ++ x ∷ []) ++ xs ≡ earlier ++ x ∷ xs = append_assoc earlier (x ∷ []) xs in
      let more = each_row-from_denotes again (earlier ++ x ∷ []) ds xs denoted.1
      (subst (λ (zs : List X). AreDistinctBy key zs) (sym all) distinct) in
      rw (again earlier d x denoted.0 (is_key_taken-from_distinct key test same earlier xs x distinct))
      (more ∙ ap Ok all)
