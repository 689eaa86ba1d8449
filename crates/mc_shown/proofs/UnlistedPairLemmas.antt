-- Unlisted pairs with their routers, router by router.
use Rattle.std.proofs.Common.{◌≡◌, ℕ, ◌+◌, ◌<◌, ◌≤◌, Bool, cond, List, [], ◌∷◌, ◌++◌, flat_map, map, filter}
use Rattle.std.proofs.Common.{length, set, get_or, Some, refl, sym, ap, subst, ◌∙◌, arith, append-nil}
use Rattle.std.specs.Prelude.{◌≢◌, slice_get}
use Rattle.std.specs.List.{insert}
use Rattle.std.specs.List.Sorted.{IsStrictlySortedBy, IsNonDecreasingBy, IsPartitionPoint}
use Rattle.std.specs.Cmp.{tied_itself}
use Rattle.std.specs.Ordering.{ordering_index}
use Rattle.std.specs.declared.cmp.Ordering.TheVariants.{Less, Equal, Greater}
use Rattle.std.proofs.lemmas.List.Edits.{length-insert}
use Rattle.std.proofs.lemmas.List.Elements.{filter-append}
use Rattle.mc_tables.specs.CacheTable.{key_cmp}
use Rattle.mc_tables.specs.ListedRows.{is_listed}
use Rattle.mc_tables.specs.Summary.{SummaryValue}
use Rattle.mc_tables.proofs.CacheLemmas.{key_cmp-total}
use Rattle.mc_tables.proofs.LowestLemmas.{put_pair-member, put_pair-at_search_place}
use Rattle.mc_topology.specs.Topology.{TopologyValue}
use Rattle.mc_theory.specs.Lists.{In, below}
use Rattle.mc_theory.proofs.ListLemmas.{in-below_cases, in-filter_cases, in-push}
use Rattle.mc_asked.specs.PairParts.{push_unless_last}
use Rattle.mc_asked.proofs.PartLemmas.{is_listed-from_in}
use Rattle.mc_asked.proofs.SharedPairLemmas.{index-from_in, is_listed-push_other, map-equal_on_list}
use Rattle.mc_asked.proofs.SharedPairLemmas.{push_unless_last-cond, set-map_sorted}
use Rattle.mc_shown.specs.UnlistedPairs.{with_routers_below, with_routers}
use Rattle.mc_shown.specs.UnlistedText.{has_pair, unlisted_pair_text, unlisted_pair_lines, pairs_in}
use Rattle.mc_shown.specs.UnlistedText.{routers_below}
use Rattle.mc_forward.proofs.BelowLemmas.{below-more}

-- ---- a router after others

-- the routers below a number are less than it
routers_below-less : (summary : List SummaryValue) (r : ℕ) (pair : ℕ × ℕ) (x : ℕ)
    → In x (routers_below summary r pair) → x < r
routers_below-less summary r pair x h =
    in-below_cases x r (in-filter_cases (λ router. has_pair pair (slice_get summary router)) x (below r) h).0

-- ---- a router's pairs, one by one

-- a pair with the routers below this one, and with this one if the pair is among its first ones
abbrev pub with_routers_so_far : List SummaryValue → (router : ℕ) → List (ℕ × ℕ) → ℕ × ℕ → (ℕ × ℕ) × List ℕ
with_routers_so_far summary router own pair =
    (pair, routers_below summary router pair ++ cond (is_listed (Some own) pair) (router ∷ []) [])

-- with none of the router's pairs
pub with_routers_so_far-none : (summary : List SummaryValue) (router : ℕ) (ps : List (ℕ × ℕ))
    → map (with_routers_below summary router) ps ≡ map (with_routers_so_far summary router []) ps
with_routers_so_far-none summary router ps =
    map-equal_on_list (with_routers_below summary router) (with_routers_so_far summary router []) ps (λ p h.
    ap (λ (rs : List ℕ). (p, rs)) (sym (append-nil (routers_below summary router p))))

-- the routers below the next one
routers_below-more : (summary : List SummaryValue) (router : ℕ) (pair : ℕ × ℕ)
    → routers_below summary (router + 1) pair
    ≡ routers_below summary router pair ++ cond (has_pair pair (slice_get summary router)) (router ∷ []) []
routers_below-more summary router pair =
    let has : ℕ → Bool = λ r. has_pair pair (slice_get summary r) in
    ap (filter has) (below-more router) ∙ filter-append has (below router) (router ∷ [])

-- with all of the router's pairs
pub with_routers_so_far-all : (summary : List SummaryValue) (router : ℕ) (ps : List (ℕ × ℕ))
    → map (with_routers_so_far summary router (pairs_in (slice_get summary router))) ps
    ≡ map (with_routers_below summary (router + 1)) ps
with_routers_so_far-all summary router ps =
    map-equal_on_list (with_routers_so_far summary router (pairs_in (slice_get summary router)))
    (with_routers_below summary (router + 1)) ps
    (λ p h. ap (λ (rs : List ℕ). (p, rs)) (sym (routers_below-more summary router p)))

-- ---- one pair more

-- another pair has the same routers
with_routers_so_far-other_pair : (summary : List SummaryValue) (router : ℕ) (own : List (ℕ × ℕ)) (q p : ℕ
    × ℕ) → p ≢ q
    → with_routers_so_far summary router own p ≡ with_routers_so_far summary router (own ++ q ∷ []) p
with_routers_so_far-other_pair summary router own q p other =
    ap (λ (b : Bool). (p, routers_below summary router p ++ cond b (router ∷ []) []))
    (is_listed-push_other own q p other)

-- a pair of the router that is shown
pub with_routers_so_far-more : (summary : List SummaryValue) (router : ℕ) (own ps : List (ℕ × ℕ)) (i : ℕ)
    (q : ℕ × ℕ)
    (old new : (ℕ × ℕ) × List ℕ) → IsStrictlySortedBy key_cmp ps → i < length ps → get_or ps i q ≡ q
    → old ≡ with_routers_so_far summary router own q → new ≡ (old.0, push_unless_last router old.1)
    → set (map (with_routers_so_far summary router own) ps) i new
    ≡ map (with_routers_so_far summary router (own ++ q ∷ [])) ps
with_routers_so_far-more summary router own ps i q old new up lt at was is =
    let before = routers_below summary router q in
    let put : new ≡ (q, before ++ router ∷ []) =
    is ∙ ap (λ (x : (ℕ × ℕ) × List ℕ). (x.0, push_unless_last router x.1)) was
    ∙ ap (λ (rs : List ℕ). (q, rs)) (push_unless_last-cond (is_listed (Some own) q) before router
    (routers_below-less summary router q)) in
    let now : new ≡ with_routers_so_far summary router (own ++ q ∷ []) q =
    put ∙ ap (λ (b : Bool). (q, before ++ cond b (router ∷ []) []))
    (sym (is_listed-from_in q (own ++ q ∷ []) (in-push own q))) in
    ap (set (map (with_routers_so_far summary router own) ps) i) now
    ∙ set-map_sorted (with_routers_so_far summary router own) (with_routers_so_far summary router (own
    ++ q ∷ [])) ps i q up lt at
    (with_routers_so_far-other_pair summary router own q)

-- ---- a pair that isn't shown

-- a pair for which the binary search finds only a place between others
pub with_routers_so_far-absent : (summary : List SummaryValue) (router : ℕ) (own ps seen : List (ℕ × ℕ))
    (i : ℕ) (q : ℕ × ℕ)
    → seen ≡ ps → IsStrictlySortedBy key_cmp ps → i ≤ length seen
    → (IsNonDecreasingBy (λ p. ordering_index (key_cmp p q)) seen
    → IsPartitionPoint (λ p. key_cmp p q ≡ Less) (λ p. key_cmp p q ≡ Greater) seen i)
    → map (with_routers_so_far summary router own) ps
    ≡ map (with_routers_so_far summary router (own ++ q ∷ [])) ps
with_routers_so_far-absent summary router own ps seen i q same up le found =
    map-equal_on_list (with_routers_so_far summary router own) (with_routers_so_far summary router (own
    ++ q ∷ [])) ps (λ p h.
    with_routers_so_far-other_pair summary router own q p (λ e.
    let at = index-from_in q ps (subst (λ (x : ℕ × ℕ). In x ps) e h) in
    let equal : key_cmp (get_or ps at.0 q) q ≡ Equal =
    ap (λ (x : ℕ × ℕ). key_cmp x q) at.1.1 ∙ tied_itself key_cmp-total q in
    let whole : insert ps i q ≡ ps =
    sym (put_pair-at_search_place q ps seen i same up le found) ∙ put_pair-member q q ps at.0 up at.1.0
    equal in
    let size = ap length whole in
    let grown = length-insert ps i q (subst (λ (l : List (ℕ × ℕ)). i ≤ length l) same le) in
    absurd (omega (arith, size, grown))))

-- ---- lines

-- the lines of pairs that are kept with their routers are the lines of the pairs
pub flat_map-unlisted_pair_lines : (t : TopologyValue) (summary : List SummaryValue) (ps : List (ℕ × ℕ))
    → flat_map (λ (pair : (ℕ × ℕ) × List ℕ). unlisted_pair_text t pair.0 pair.1)
    (map (with_routers t summary) ps) ≡ flat_map (unlisted_pair_lines t summary) ps
flat_map-unlisted_pair_lines t summary [] = refl
flat_map-unlisted_pair_lines t summary (p ∷ ps) =
    ap (λ (rest : List ℕ). unlisted_pair_lines t summary p ++ rest) (flat_map-unlisted_pair_lines t summary
    ps)
