-- The text of the verdicts, line by line.
use Rattle.std.proofs.Common.{◌≡◌, ℕ, ◌+◌, ◌≤◌, List, [], ◌∷◌, ◌++◌, zero, suc, length, drop, Some, refl}
use Rattle.std.proofs.Common.{sym, ap, subst, ◌∙◌, arith, append_assoc, append-nil}
use Rattle.std.specs.Prelude.{slice_get}
use Rattle.std.proofs.Math.ListN.{drop_of_length-le}
use Rattle.mc_topology.specs.declared.flow.Flow.{Flow}
use Rattle.mc_topology.specs.Topology.{TopologyValue}
use Rattle.mc_check.specs.declared.verdict.Verdict.{Verdict}
use Rattle.mc_commands.specs.VerdictText.{flow_line, flow_lines}

drop-one_more_at : {A : Type 0} (xs : List A) (k : ℕ) (x : A) → slice_get xs k ≡ Some x
    → drop k xs ≡ x ∷ drop (suc k) xs
drop-one_more_at [] k x is = absurd cc
drop-one_more_at (y ∷ ys) zero x is = cc
drop-one_more_at (y ∷ ys) (suc k) x is = drop-one_more_at ys k x is

-- a list from one of its places on starts with the item there
drop-at_index : {A : Type 0} (xs : List A) (k : ℕ) (x : A) → slice_get xs k ≡ Some x
    → drop k xs ≡ x ∷ drop (k + 1) xs
drop-at_index xs k x is =
    let next : suc k ≡ k + 1 = omega arith in
    subst (λ (n : ℕ). drop k xs ≡ x ∷ drop n xs) next (drop-one_more_at xs k x is)

-- the lines of the flows from one on start with that one's
flow_lines-drop : (t : TopologyValue) (k : ℕ) (f : Flow) (v : Verdict) (vs : List Verdict)
    → slice_get t.flows k ≡ Some f → slice_get vs k ≡ Some v
    → flow_lines t (drop k t.flows) (drop k vs)
    ≡ flow_line t f v ++ flow_lines t (drop (k + 1) t.flows) (drop (k + 1) vs)
flow_lines-drop t k f v vs listed verdict_at = rw (
  drop-at_index t.flows k f listed,
  drop-at_index
      vs k v verdict_at,
) refl

-- one more line was written
pub flow_lines-more : (t : TopologyValue) (k : ℕ) (f : Flow) (v : Verdict) (vs : List Verdict)
    (old new : List ℕ) → slice_get t.flows k ≡ Some f → slice_get vs k ≡ Some v
    → new ≡ old ++ flow_line t f v
    → old ++ flow_lines t (drop k t.flows) (drop k vs) ≡ flow_lines t t.flows vs
    → new ++ flow_lines t (drop (k + 1) t.flows) (drop (k + 1) vs) ≡ flow_lines t t.flows vs
flow_lines-more t k f v vs old new listed verdict_at grown kept =
    let more = flow_lines t (drop (k + 1) t.flows) (drop (k + 1) vs) in
    ap (λ xs. xs ++ more) grown ∙ append_assoc old (flow_line t f v) more
    ∙ ap (λ xs. old ++ xs) (sym (flow_lines-drop t k f v vs listed verdict_at)) ∙ kept

-- all lines were written
pub flow_lines-all : (t : TopologyValue) (k : ℕ) (vs : List Verdict) (old : List ℕ) → length t.flows ≤ k
    → old ++ flow_lines t (drop k t.flows) (drop k vs) ≡ flow_lines t t.flows vs
    → old ≡ flow_lines t t.flows vs
flow_lines-all t k vs old ended kept =
    let none : drop k t.flows ≡ [] = drop_of_length-le t.flows ended in
    sym (append-nil old) ∙ ap (λ fs. old ++ flow_lines t fs (drop k vs)) (sym none) ∙ kept
