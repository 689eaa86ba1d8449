-- Where strays come from: an exact row's pair whose vif is placed on no LAN, or a row for every source of
-- a router that a copy came to.
use Rattle.std.proofs.Common.{◌≡◌, ℕ, ◌⊎◌, inl, inr, List, sym, ◌∙◌}
use Rattle.mc_theory.specs.Lists.{In}
use Rattle.mc_theory.specs.Nets.{Net, Interface}
use Rattle.mc_theory.specs.Nets.Row.{Exact, Open}
use Rattle.mc_theory.specs.Flights.{Copy, Pick, run, start}
use Rattle.mc_theory.proofs.ListLemmas.{in-map}
use Rattle.mc_theory.proofs.Paths.{reached_with_ttl-from_carried}
use Rattle.mc_theory.proofs.StrayOrigins.{is_stray_of-run}
use Rattle.mc_explain.specs.CauseFacts.{LeadsOut, ReachesEverySourceRow}

-- the copy left by such a pair, or came to a row for every source
abbrev pub IsStrayAt : Net → Interface → Type 0
IsStrayAt n i = LeadsOut n i.0 i.1 ⊎ ReachesEverySourceRow n i.0 i.1

-- for each run, with losses or without
pub is_stray_at-run : (n : Net) (t : ℕ) (ps : List Pick) (i : Interface)
    → In i (run n ps (start n t)).strays → IsStrayAt n i
is_stray_at-run n t ps i h =
    let b = is_stray_of-run n t ps i h in
    elim b.2 [
      | inl q ↦ inl (record {
        threshold = q.threshold;
        has = record { incoming = q.incoming; pairs = q.pairs; row = q.row; pair = q.pair };
        unplaced = q.unplaced;
      })
      | inr q ↦ (let path = reached_with_ttl-from_carried n t ps b.0.lan
          (in-map (λ (c : Copy). c.lan) b.0 (run n ps (start n t)).carried b.1) in
          inr (record { row = q.row; lan = b.0.lan; placed = q.placed; reached = (path.0, path.1) }))
    ]

-- if the row is exact, the copy left by a pair,
pub leads_out-from_exact_row : (n : Net) (i : Interface) (incoming : ℕ) (pairs : List (ℕ × ℕ)) →
    n.row i.0 ≡ Exact incoming pairs → IsStrayAt n i → LeadsOut n i.0 i.1
leads_out-from_exact_row n i incoming pairs e (inl out) = out
leads_out-from_exact_row n i incoming pairs e (inr other) =
    absurd (let both : Exact incoming pairs ≡ Open = sym e ∙ other.row in cc)

-- and if the row is for every source, the copy came in
pub reaches_every_source_row-from_open_row : (n : Net) (i : Interface) → n.row i.0 ≡ Open → IsStrayAt n i →
    ReachesEverySourceRow n i.0 i.1
reaches_every_source_row-from_open_row n i e (inl out) =
    absurd (let both : Open ≡ Exact out.has.incoming out.has.pairs = sym e ∙ out.has.row in cc)
reaches_every_source_row-from_open_row n i e (inr arrival) = arrival
