-- The lines in JSON after those of the flows (docs/FORMATS.md, "What `audit --json` writes").
use Rattle.std.specs.Prelude.{ℕ, ◌+◌, ◌==◌, Bool, List, [], ◌∷◌, ◌++◌, flat_map, map}
use Rattle.std.specs.Prelude.{if◌then◌else◌, codes}
use Rattle.mc_tables.specs.Summary.{SummaryValue}
use Rattle.mc_text.specs.Addr.{dotted}
use Rattle.mc_topology.specs.Topology.{TopologyValue}
use Rattle.mc_shown.specs.ExcludedText.{excluded_routers}
use Rattle.mc_shown.specs.UnlistedPairs.{with_routers}
use Rattle.mc_shown.specs.UnlistedText.{further_rows, shown_unlisted_pairs}
use Rattle.serde_json.specs.Data.{Data, string}
use Rattle.mc_json.specs.RowData.{count_data, line_of, list_data, object_data}
use Rattle.mc_json.specs.RowData.{router_data}

-- a list of routers by their names
abbrev pub routers_data : TopologyValue → List ℕ → Data
routers_data topology routers = list_data (map (router_data topology) routers)

-- an object with one member
abbrev pub single_member : (key : List ℕ) → Data → Data
single_member key value = object_data ((key, value) ∷ [])

-- the line of an object whose one member is a list; nothing if the list is empty
abbrev pub list_line : (key : List ℕ) → List Data → List ℕ
list_line key [] = []
list_line key (value ∷ values) = line_of (single_member key (list_data (value ∷ values)))

-- a source and a group of no listed flow, and the routers that have a row of them
abbrev pub unlisted_data : TopologyValue → (source group : ℕ) → List ℕ → Data
unlisted_data topology source group routers = single_member (codes "unlisted") (object_data (
    (codes "group", string (dotted group))
    ∷ (codes "routers", routers_data topology routers)
    ∷ (codes "source", string (dotted source)) ∷ []))

-- how many further rows of no listed flow there are
abbrev pub unlisted_more_data : (rows : ℕ) → Data
unlisted_more_data rows =
    single_member (codes "unlisted_more") (single_member (codes "rows") (count_data rows))

-- the line of a pair of a group and a source of no listed flow, with the routers that have a row of it
abbrev pub unlisted_line : TopologyValue → (pair : (ℕ × ℕ) × List ℕ) → List ℕ
unlisted_line topology pair = line_of (unlisted_data topology pair.0.1 pair.0.0 pair.1)

-- the line that counts the further rows; nothing if there are none
abbrev pub unlisted_more_line : (rows : ℕ) → List ℕ
unlisted_more_line rows = if rows == 0 then [] else line_of (unlisted_more_data rows)

-- all lines about rows of no listed flow
abbrev pub unlisted_lines : (all : Bool) → TopologyValue → List SummaryValue → List ℕ
unlisted_lines all topology summary =
    flat_map (unlisted_line topology) (map (with_routers topology summary)
    (shown_unlisted_pairs all summary))
    ++ unlisted_more_line (further_rows all topology summary)

-- the line of the excluded routers; nothing if there are none
abbrev pub without_line_of : TopologyValue → List ℕ → List ℕ
without_line_of topology routers = list_line (codes "without") (map (router_data topology) routers)

-- the line of the excluded routers, by a mark for each router; nothing if there are none
abbrev pub without_line : TopologyValue → (excluded : List Bool) → List ℕ
without_line topology excluded = without_line_of topology (excluded_routers topology excluded)

-- the summary: how many flows there are, and of these how many are right, aren't right (`wrong`), and of how
-- many that isn't known; how many without a finding no LAN wants (`unwanted`); and how many wants of LANs no
-- flow answers (`asked`)
abbrev pub summary_data : (asked right unknown unwanted wrong : ℕ) → Data
summary_data asked right unknown unwanted wrong = single_member (codes "summary") (object_data (
    (codes "asked", count_data asked)
    ∷ (codes "flows", count_data (right + wrong + unknown))
    ∷ (codes "right", count_data right)
    ∷ (codes "unknown", count_data unknown)
    ∷ (codes "unwanted", count_data unwanted)
    ∷ (codes "wrong", count_data wrong) ∷ []))

-- the word for the verdict
abbrev pub verdict_word : (is_yes : Bool) → List ℕ
verdict_word is_yes = if is_yes then codes "yes" else codes "no"

-- the verdict
abbrev pub verdict_data : (is_yes : Bool) → Data
verdict_data is_yes = single_member (codes "verdict") (string (verdict_word is_yes))
