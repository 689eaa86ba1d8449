-- How an audit prints the entry that a router has for every source (docs/FORMATS.md, the section "The
-- program"): the (*,G) entry of the flow's group, or else the (*,*) entry, as the summary of the router's
-- cache has it (Summary of mc_tables).
use Rattle.std.specs.Prelude.{ℕ, List, [], Option, Some, None}
use Rattle.mc_tables.specs.CacheTable.{EntryValue}
use Rattle.mc_tables.specs.Summary.{SummaryValue}
use Rattle.mc_forward.specs.Domains.{oif_pairs}
use Rattle.mc_forward.specs.ListedTables.{DomainFacts}
use Rattle.mc_search.specs.SearchLine.{every_source_of}
use Rattle.mc_shown.specs.RowText.{entry_text}

-- a router's entry for every source, as `entry (*,239.1.2.3) from eth0 to eth1 eth2:5 in cache-r1` or `entry (*,*) ..`; nothing
-- if the router has none
abbrev pub every_source_row_text : DomainFacts → (router : ℕ) → Option (ℕ × EntryValue) → List ℕ
every_source_row_text domain router None = []
every_source_row_text domain router (Some row) =
    entry_text domain router 0 row.0 row.1.iif (oif_pairs row.1.oifs)

-- the entry that a router has for every source of this group, by the summaries of all routers; nothing if it
-- has none
abbrev pub every_source_text : DomainFacts → List SummaryValue → (group router : ℕ) → List ℕ
every_source_text domain summary group router =
    every_source_row_text domain router (every_source_of summary group router)
