-- The lines of an audit about resolved entries of no listed flow: `unlisted` and
-- `unlisted and <m> further rows` (docs/FORMATS.md, the section "The program"). A pair is a group and a
-- source.
use Rattle.std.specs.Prelude.{ℕ, ◌-◌, ◌==◌, ◌&&◌, nat_le, Bool, false, List, [], ◌++◌, length, Option}
use Rattle.std.specs.Prelude.{Some, None, if◌then◌else◌, codes, decimal, filter, flat_map, map, slice_get}
use Rattle.std.specs.Prelude.{◌≡◌, sum_by}
use Rattle.mc_text.specs.Addr.{dotted, first_octet}
use Rattle.mc_tables.specs.CacheTable.{RowValue}
use Rattle.mc_tables.specs.ListedRows.{is_listed}
use Rattle.mc_tables.specs.Summary.{SummaryValue, group_first, in_order, shown_pairs, summary_of}
use Rattle.mc_tables.specs.Summary.{unlisted_keys}
use Rattle.mc_topology.specs.Topology.{TopologyValue}
use Rattle.mc_theory.specs.Lists.{In, below}
use Rattle.mc_shown.specs.ShownNames.{routers_text}

-- ---- pairs, and the routers that have them

-- the pairs of all routers that are shown: all, or the 20 lowest. Each summary has all pairs of its cache, or
-- the 20 lowest.
abbrev pub shown_unlisted_pairs : (all : Bool) → List SummaryValue → List (ℕ × ℕ)
shown_unlisted_pairs all summary = shown_pairs all (in_order (flat_map (λ own. own.lowest) summary))

-- the pairs of a summary, if there is one
abbrev pub pairs_in : Option SummaryValue → List (ℕ × ℕ)
pairs_in None = []
pairs_in (Some own) = own.lowest

-- whether a summary has a pair
abbrev pub has_pair : ℕ × ℕ → Option SummaryValue → Bool
has_pair pair summary = is_listed (Some (pairs_in summary)) pair

-- the routers below a number whose summaries have the pair, in order
abbrev pub routers_below : List SummaryValue → (number : ℕ) → ℕ × ℕ → List ℕ
routers_below summary number pair =
    filter (λ router. has_pair pair (slice_get summary router)) (below number)

-- all routers whose summaries have the pair, in order
abbrev pub routers_with : TopologyValue → List SummaryValue → ℕ × ℕ → List ℕ
routers_with topology summary pair = routers_below summary (length topology.routers) pair

-- the pairs of a cache's resolved rows that aren't listed
abbrev pub unlisted_pairs : (listed : List (ℕ × ℕ)) → List RowValue → List (ℕ × ℕ)
unlisted_pairs listed rows = map group_first (unlisted_keys listed rows)

-- the summaries of these caches
abbrev pub summaries_of : (all : Bool) → (listed : List (ℕ × ℕ)) → List (List RowValue) → List SummaryValue
summaries_of all listed caches = map (summary_of all listed) caches

-- whether a cache has a resolved row of the pair, which isn't listed
abbrev pub has_unlisted_row : (listed : List (ℕ × ℕ)) → ℕ × ℕ → Option (List RowValue) → Bool
has_unlisted_row listed pair None = false
has_unlisted_row listed pair (Some rows) =
    is_listed (Some (unlisted_pairs listed rows)) pair

-- all routers whose caches have a resolved row of the pair, which isn't listed, in order
abbrev pub routers_with_row : TopologyValue → (listed : List (ℕ × ℕ)) → List (List RowValue) → ℕ × ℕ → List ℕ
routers_with_row topology listed caches pair =
    filter (λ router. has_unlisted_row listed pair (slice_get caches router))
    (below (length topology.routers))

-- Each shown pair of these caches is shown with all routers whose caches have a row of it, though a summary
-- may have only the 20 lowest pairs of its cache.
abbrev pub ShownPairsHaveAllRouters : (all : Bool) → TopologyValue → (listed : List (ℕ × ℕ))
    → List (List RowValue) → Type 0
ShownPairsHaveAllRouters all topology listed caches =
    (pair : ℕ × ℕ) → In pair (shown_unlisted_pairs all (summaries_of all listed caches)) →
    routers_with topology (summaries_of all listed caches) pair
    ≡ routers_with_row topology listed caches pair

-- ---- the line of a pair

-- whether the group is in 224.0.0.0 to 239.255.255.255
abbrev pub is_multicast : ℕ → Bool
is_multicast group = nat_le 224 (first_octet group) && nat_le (first_octet group) 239

-- the question about the byte order, if the group is no multicast group
abbrev pub byte_order_text : ℕ → List ℕ
byte_order_text group =
    if is_multicast group then []
    else codes "  no multicast group: is the byte order of these routers right in the topology?\n"

-- the line of a pair and these routers, with the question about the byte order if need be
abbrev pub unlisted_pair_text : TopologyValue → ℕ × ℕ → (routers : List ℕ) → List ℕ
unlisted_pair_text topology pair routers =
    codes "unlisted " ++ (dotted pair.1 ++ (codes " " ++ (dotted pair.0
    ++ (codes " routers " ++ (decimal (length routers)
    ++ (codes ":" ++ (routers_text topology routers ++ (codes "\n" ++ byte_order_text pair.0))))))))

-- the line of a pair and all routers whose summaries have it, with that question if need be
abbrev pub unlisted_pair_lines : TopologyValue → List SummaryValue → ℕ × ℕ → List ℕ
unlisted_pair_lines topology summary pair = unlisted_pair_text topology pair
    (routers_with topology summary pair)

-- ---- how many more rows there are

-- how many resolved rows of no listed flow all routers have
abbrev pub count_unlisted_rows : List SummaryValue → ℕ
count_unlisted_rows summary = sum_by (λ own. own.unlisted) summary

-- how many of these rows are of the pairs: one for each router that has a pair
abbrev pub count_rows_of_pairs : TopologyValue → List SummaryValue → List (ℕ × ℕ) → ℕ
count_rows_of_pairs topology summary pairs = sum_by (λ pair. length (routers_with topology summary pair))
    pairs

-- how many of these rows are not of the shown pairs
abbrev pub further_rows : (all : Bool) → TopologyValue → List SummaryValue → ℕ
further_rows all topology summary =
    count_unlisted_rows summary - count_rows_of_pairs topology summary (shown_unlisted_pairs all summary)

-- how many further rows there are; nothing for none
abbrev pub further_text : ℕ → List ℕ
further_text more =
    if more == 0 then [] else codes "unlisted and " ++ (decimal more ++ codes " further rows\n")

-- ---- all lines

-- all lines about unlisted rows
abbrev pub unlisted_text : (all : Bool) → TopologyValue → List SummaryValue → List ℕ
unlisted_text all topology summary =
    flat_map (unlisted_pair_lines topology summary) (shown_unlisted_pairs all summary)
    ++ further_text (further_rows all topology summary)
