-- A pair among the lowest of all is among the lowest of each router that has it.
use Rattle.std.proofs.Common.{◌≡◌, ℕ, zero, suc, Bool, List, [], ◌∷◌, map, flat_map, filter, Some, inl, inr}
use Rattle.std.proofs.Common.{refl, subst, length}
use Rattle.std.specs.Prelude.{slice_get}
use Rattle.mc_tables.specs.CacheTable.{RowValue}
use Rattle.mc_tables.specs.ListedRows.{is_listed}
use Rattle.mc_tables.specs.Summary.{group_first, summary_of, unlisted_keys}
use Rattle.mc_topology.specs.Topology.{TopologyValue}
use Rattle.mc_theory.specs.Lists.{In, below}
use Rattle.mc_theory.proofs.ListLemmas.{in-flat_map}
use Rattle.mc_asked.proofs.MergeLemmas.{shown_pairs-of_parts}
use Rattle.mc_asked.proofs.PartLemmas.{is_listed-shown_of_part}
use Rattle.mc_asked.proofs.WantLemmas.{filter-equal_tests}
use Rattle.mc_shown.specs.UnlistedText.{has_pair, has_unlisted_row, shown_unlisted_pairs, routers_with}

-- a router's summary has the pair exactly if its cache has a row of it, where that is so of each cache
has_pair-has_unlisted_row : (all : Bool) (listed : List (ℕ × ℕ)) (pair : ℕ × ℕ)
    (caches : List (List RowValue)) (router : ℕ)
    → ((rows : List RowValue) → In rows caches → is_listed (Some (summary_of all listed rows).lowest) pair
    ≡ is_listed (Some (map group_first (unlisted_keys listed rows))) pair)
    → has_pair pair (slice_get (map (summary_of all listed) caches) router)
    ≡ has_unlisted_row listed pair (slice_get caches router)
has_pair-has_unlisted_row all listed pair [] router each = refl
has_pair-has_unlisted_row all listed pair (rows ∷ caches) zero each = each rows (inl refl)
has_pair-has_unlisted_row all listed pair (rows ∷ caches) (suc router) each =
    has_pair-has_unlisted_row all listed pair caches router (λ own h. each own (inr h))

-- the routers whose summaries have a shown pair are those whose caches have a row of it
pub routers_with-filter_rows : (all : Bool) (t : TopologyValue) (listed : List (ℕ × ℕ))
    (caches : List (List RowValue))
    (pair : ℕ × ℕ) → In pair (shown_unlisted_pairs all (map (summary_of all listed) caches))
    → routers_with t (map (summary_of all listed) caches) pair
    ≡ filter (λ router. has_unlisted_row listed pair (slice_get caches router)) (below (length t.routers))
routers_with-filter_rows all t listed caches pair shown =
    filter-equal_tests _ _ (below (length t.routers)) (λ router. has_pair-has_unlisted_row all listed pair
    caches router (λ rows h.
    is_listed-shown_of_part all pair (flat_map part caches) (part rows)
    (λ q k. in-flat_map part rows q caches h k)
    (subst (In pair) (shown_pairs-of_parts all part (λ n. n.lowest) (summary_of all listed) (λ _. refl)
    caches)
    shown)))
  where
    part : List RowValue → List (ℕ × ℕ)
    part rows = map group_first (unlisted_keys listed rows)
