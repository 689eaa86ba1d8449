use Rattle.std.proofs.Common.{◌≡◌, List, [], ◌∷◌, ◌++◌, length, refl, sym, ap, ◌∙◌, append_assoc}
use Rattle.std.proofs.Common.{append-nil, arith}
use Rattle.std.specs.Vec.Iter.{into_iter_items}
use Rattle.mc_forward.specs.Assembling.{vifs_by_tables}
use Rattle.mc_forward.specs.Domains.{TablesValue, VifsValue}
use Rattle.mc_forward.proofs.assemble.move_vifs.Goals as goal

-- a list of no length is empty
nothing_left : (tables : List TablesValue) → length tables ≡ 0 → tables ≡ []
nothing_left [] e = refl
nothing_left (own ∷ tables) e = absurd (omega (arith, e))

-- Room was made for all routers' vifs, and this router's were not moved yet.
pub push_reserved-requires : goal.push_reserved-requires
push_reserved-requires c = omega (arith, c.loop-own.invariant.room, c.in-Some.ensures.steps.1)

-- The next router's vifs go from the front of those that are left to the end of those that were moved.
pub loop-own-preserved : goal.loop-own-preserved
loop-own-preserved c =
    let at = c.loop-own in
    let own = c.in-Some.own in
    let rest = into_iter_items c.next.new.self in
    let steps : into_iter_items at.own-iterator ≡ own ∷ rest = c.in-Some.ensures.steps.0 in
    record {
      moved = ap (λ (vs : List VifsValue). vs ++ vifs_by_tables rest) (c.push_reserved.ensures.items
          ∙ ap (λ (t : TablesValue). at.vifs.items ++ t.vifs ∷ []) c.own.view_is)
          ∙ append_assoc at.vifs.items (own.vifs ∷ []) (vifs_by_tables rest)
          ∙ ap (λ (ts : List TablesValue). at.vifs.items ++ vifs_by_tables ts) (sym steps)
          ∙ at.invariant.moved;
      left = (
          let short = ap length steps in
          omega (arith, short, c.in-Some.ensures.steps.1, at.invariant.left));
      room = omega (
        arith,
        at.invariant.room,
        c.in-Some.ensures.steps.1,
        c.push_reserved.ensures.len,
        c.push_reserved.ensures.capacity,
      );
    }

-- No tables are left, so that all vifs were moved.
pub returns : goal.returns
returns c =
    let at = c.loop-own in
    let empty = nothing_left (into_iter_items at.own-iterator)
    (sym at.invariant.left ∙ c.in-None.ensures.steps.0) in
    sym (append-nil at.vifs.items)
    ∙ ap (λ (ts : List TablesValue). at.vifs.items ++ vifs_by_tables ts) (sym empty) ∙ at.invariant.moved
