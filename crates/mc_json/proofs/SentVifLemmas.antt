-- The vifs of events: one oif after the other, and one for each copy and each stray.
use Rattle.std.proofs.Common.{◌≡◌, ℕ, suc, ◌+◌, Bool, true, false, cond, not, ◌&&◌, ◌==◌, nat_lt, List}
use Rattle.std.proofs.Common.{[], ◌∷◌, ◌++◌, length, flat_map, map, take, get_or, ◌<◌, is_some, refl, ap}
use Rattle.std.proofs.Common.{ap₂, sym, ◌∙◌, append-nil, arith}
use Rattle.std.proofs.lemmas.Grind.{flat_map-append}
use Rattle.std.proofs.lemmas.List.{map-append, take_more}
use Rattle.mc_tables.specs.declared.cache.entry.Oif.{Oif}
use Rattle.mc_theory.specs.Events.{astray_count, event_of, onto_lan_count, outcome_by_row, outcome_of_sending}
use Rattle.mc_theory.specs.Events.Outcome.{OtherVif, Sent}
use Rattle.mc_theory.specs.Flights.{Waiting}
use Rattle.mc_theory.specs.Nets.{Net, Row}
use Rattle.mc_theory.specs.Nets.Row.{Exact, Open, NoRow}
use Rattle.mc_forward.specs.Domains.{oif_pairs}
use Rattle.serde_json.specs.Data.{Data}
use Rattle.mc_json.specs.FlowData.{passed_vif, passed_vifs, sent_vifs}
use Rattle.mc_json.specs.RowData.{count_data}

-- one oif more at the end
passed_vifs-append : (t : ℕ) (oifs : List Oif) (oif : Oif)
    → flat_map (passed_vif t) (oif_pairs (oifs ++ oif ∷ []))
    ≡ flat_map (passed_vif t) (oif_pairs oifs) ++ passed_vif t (oif.vif, oif.threshold)
passed_vifs-append t oifs oif =
    let pair : Oif → ℕ × ℕ = λ (x : Oif). (x.vif, x.threshold) in
    ap (flat_map (passed_vif t)) (map-append pair oifs (oif ∷ []))
    ∙ flat_map-append (passed_vif t) (oif_pairs oifs) (pair oif ∷ [])
    ∙ ap (λ (vs : List ℕ). flat_map (passed_vif t) (oif_pairs oifs) ++ vs)
    (append-nil (passed_vif t (pair oif)))

-- the vifs so far, with one oif more
pub vif_data-take_more : (t : ℕ) (oifs : List Oif) (d : Oif) (n : ℕ) (so_far now : List Data)
    → n < length oifs
    → so_far ≡ map count_data (flat_map (passed_vif t) (oif_pairs (take n oifs)))
    → now ≡ so_far ++ map count_data (passed_vif t ((get_or oifs n d).vif, (get_or oifs n d).threshold))
    → now ≡ map count_data (flat_map (passed_vif t) (oif_pairs (take (n + 1) oifs)))
vif_data-take_more t oifs d n so_far now lt before more =
    let oif = get_or oifs n d in
    let vifs = passed_vif t (oif.vif, oif.threshold) in
    more ∙ ap (λ (ds : List Data). ds ++ map count_data vifs) before
    ∙ sym (ap (λ (xs : List Oif). map count_data (flat_map (passed_vif t) (oif_pairs xs)))
    (take_more oifs n d lt) ∙ ap (map count_data) (passed_vifs-append t (take n oifs) oif)
    ∙ map-append count_data (flat_map (passed_vif t) (oif_pairs (take n oifs))) vifs)

-- ---- one for each copy and each stray

-- one vif more is one copy more, one stray more, or nothing
length-one_more : (passes placed : Bool) (vif : ℕ) (vifs : List ℕ) (copies strays : ℕ)
    → length vifs ≡ copies + strays
    → length (cond passes (vif ∷ []) [] ++ vifs)
    ≡ cond (passes && placed) (suc copies) copies + cond (passes && not placed) (suc strays) strays
length-one_more true true vif vifs copies strays same = omega (arith, same)
length-one_more true false vif vifs copies strays same = omega (arith, same)
length-one_more false placed vif vifs copies strays same = same

-- of a list of pairs
length-passed_vifs : (n : Net) (r t : ℕ) (pairs : List (ℕ × ℕ))
    → length (flat_map (passed_vif t) pairs) ≡ onto_lan_count n r t pairs + astray_count n r t pairs
length-passed_vifs n r t [] = refl
length-passed_vifs n r t (p ∷ pairs) =
    length-one_more (nat_lt p.1 t) (is_some (n.placed r p.0)) p.0 (flat_map (passed_vif t) pairs)
    (onto_lan_count n r t pairs) (astray_count n r t pairs) (length-passed_vifs n r t pairs)

-- of the row that sent
length-vifs_by_row : (n : Net) (w : Waiting) (row : Row) (copies strays : ℕ)
    → outcome_by_row n w row ≡ Sent copies strays → length (passed_vifs w.ttl row) ≡ copies + strays
length-vifs_by_row n w (Exact incoming pairs) copies strays sent = by (incoming == w.vif) sent where
  by : (here : Bool) → cond here (outcome_of_sending n w.router w.ttl pairs) OtherVif ≡ Sent copies strays
      → length (flat_map (passed_vif w.ttl) pairs) ≡ copies + strays
  by true sent =
      let onto : onto_lan_count n w.router w.ttl pairs ≡ copies = cc in
      let astray : astray_count n w.router w.ttl pairs ≡ strays = cc in
      length-passed_vifs n w.router w.ttl pairs ∙ ap₂ (λ (a b : ℕ). a + b) onto astray
  by false sent = absurd cc
length-vifs_by_row n w Open copies strays sent = absurd cc
length-vifs_by_row n w NoRow copies strays sent = absurd cc

-- so it is for the vifs of an event
pub length-sent_vifs : (n : Net) (w : Waiting) (copies strays : ℕ)
    → (event_of n w).outcome ≡ Sent copies strays → length (sent_vifs n (event_of n w)) ≡ copies + strays
length-sent_vifs n w copies strays sent = length-vifs_by_row n w (n.row w.router) copies strays sent
