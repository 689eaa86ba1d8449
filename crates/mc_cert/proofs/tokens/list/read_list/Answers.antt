use Rattle.std.proofs.Common.{◌≡◌, ◌+◌, List, [], ◌∷◌, ◌++◌, length, map, Some, None, sym, subst, arith}
use Rattle.std.proofs.lemmas.List.{length-map, map-append}
use Rattle.json.specs.Json.{after_end_array}
use Rattle.serde_json.specs.Data.{Data}
use Rattle.serde_json.specs.View.{items_of}
use Rattle.mc_cert.specs.Denotation.{EachDenotes}
use Rattle.mc_cert.proofs.TokenLemmas.{shorter-from_Reads, ListSoFar-none, ListSoFar-more, Reads-array}
use Rattle.mc_cert.proofs.TokenLemmas.{rows_in-items_of, EachDenotes-more}
use Rattle.mc_cert.proofs.tokens.list.read_list.Goals as goal

-- Behind the opening bracket no row has been read.
pub rows-init : goal.rows-init
rows-init g c = (
  [],
  ListSoFar-none g.R.TokenRows.levels c.open_list.new.self,
  rw c.new-items.ensures.items tt,
  omega (arith, c.new-items.ensures.len),
)

-- A row has at least one token, so that fewer are left.
pub rows-smaller : goal.rows-smaller
rows-smaller g c =
    let going : (after_end_array c.rows.reader ≡ None) × (c.take_end_of_list.new.self ≡ c.rows.reader) =
    grind arith in
    let (d, reads, _) = c.in_ok-item.ensures in
    let less = shorter-from_Reads g.R.TokenRows.levels c.take_end_of_list.new.self d c.read_row.new.reader
    reads in
    rw (← going.1) less

-- The row that was read is the next of the list, and denotes the next item.
pub rows-preserved : goal.rows-preserved
rows-preserved g c =
    let going : (after_end_array c.rows.reader ≡ None) × (c.take_end_of_list.new.self ≡ c.rows.reader) =
    grind arith in
    let (ds, so_far, each, few) = c.rows.invariant in
    let (d, reads, denotes) = c.in_ok-item.ensures in
    let item_view = g.R.TokenRows.item_view in
    let items = c.rows.items.items in
    let long : c.len-in-rows.result ≡ length items = omega arith in
    let count : 0 + length (map item_view items) ≡ c.len-in-rows.result =
    omega (arith, length-map items item_view, long) in (
      ds ++ d ∷ [],
      ListSoFar-more g.R.TokenRows.levels c.open_list.new.self ds c.rows.reader c.read_row.new.reader d
          so_far
          going.0 (rw (← going.1) reads),
      rw (c.in_ok-push.ensures.items, map-append item_view items (c.in_ok-item.item ∷ []))
          (EachDenotes-more (g.R.TokenRows.denotes c.args.rows.now) 0 c.len-in-rows.result ds
          (map item_view items)
          d (item_view c.in_ok-item.item) each count denotes),
      omega (arith, c.in_ok-push.ensures.len, c.if-len-most.false, few),
    )

-- The closing bracket ends the list, whose rows are those that were read.
pub returns-clause-rows : goal.returns-clause-rows
returns-clause-rows g c =
    let (ds, so_far, each, few) = c.rows.invariant in
    let over : after_end_array c.rows.reader ≡ Some c.take_end_of_list.new.self = grind arith in
    let item_view = g.R.TokenRows.item_view in (
      items_of ds,
      Reads-array g.R.TokenRows.levels c.args.reader.now c.open_list.new.self ds c.rows.reader
          c.take_end_of_list.new.self c.in_ok-open_list.ensures so_far over,
      subst (λ (rows : List Data). EachDenotes (g.R.TokenRows.denotes c.args.rows.now) 0 rows
          (map item_view c.rows.items.items)) (sym (rows_in-items_of ds)) each,
    )
