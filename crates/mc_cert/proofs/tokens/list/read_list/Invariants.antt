use Rattle.std.proofs.Common.{◌≤◌, List, map, length, vec_len}
use Rattle.serde_json.specs.Data.{Data}
use Rattle.mc_cert.specs.Denotation.{EachDenotes}
use Rattle.mc_cert.proofs.TokenLemmas.{ListSoFar}
use Rattle.mc_cert.proofs.tokens.list.read_list.Given as goal

-- The rows so far denote the items, one by one.
abbrev pub invariant-rows : goal.invariant-rows
invariant-rows g l = (ds : List Data) × ListSoFar g.R.TokenRows.levels l.initial.reader ds l.reader
    × EachDenotes (g.R.TokenRows.denotes l.rows) 0 ds (map g.R.TokenRows.item_view l.items.items)
    × (vec_len l.items ≤ l.most)

-- Each row leaves fewer tokens.
abbrev pub decreases-rows : goal.decreases-rows
decreases-rows g l = length l.reader
