-- The counts of an event are what its step did.
use Rattle.std.proofs.Common.{◌≡◌, ℕ, suc, ◌+◌, ◌-◌, Bool, true, false, cond, not, ◌&&◌, ◌==◌}
use Rattle.std.proofs.Common.{nat_lt, List, [], ◌∷◌, length, slice_get, Option, Some, None}
use Rattle.std.proofs.Common.{is_some, ap, ◌∙◌, arith, length-append}
use Rattle.mc_theory.specs.Nets.{Net, Row, Interface}
use Rattle.mc_theory.specs.Nets.Row.{Exact, Open, NoRow}
use Rattle.mc_theory.specs.Flights.{Copy, Waiting, Flight, leave, sends, handle_by_row, handle}
use Rattle.mc_theory.specs.Flights.{without_waiting}
use Rattle.mc_theory.specs.Flights.{step}
use Rattle.mc_theory.specs.Events.Outcome.{OtherVif, Sent}
use Rattle.mc_theory.specs.Events.{onto_lan_count, astray_count, outcome_by_row, event_of, copies_in}
use Rattle.mc_theory.specs.Events.{strays_in}

-- ---- copies

carried_length-send_step : (n : Net) (r t : ℕ) (p : ℕ × ℕ) (ps : List (ℕ × ℕ)) (f : Flight) (b : Bool)
    (o : Option ℕ) → ((g : Flight) → length (sends n r t ps g).carried ≡ length g.carried +
    onto_lan_count n r t ps) → length (sends n r t ps (cond b (leave n (t - 1) (r, p.0) o f) f)).carried
    ≡ length f.carried + cond (b && is_some o) (suc (onto_lan_count n r t ps)) (onto_lan_count n r t ps)
carried_length-send_step n r t p ps f false o ih = ih f
carried_length-send_step n r t p ps f true None ih = ih (leave n (t - 1) (r, p.0) None f)
carried_length-send_step n r t p ps f true (Some l) ih =
    let c : Copy = record { lan = l; ttl = t - 1; sender = Some (r, p.0) } in
    omega (arith, ih (leave n (t - 1) (r, p.0) (Some l) f), length-append f.carried (c ∷ []))

carried_length-sends : (n : Net) (r t : ℕ) (ps : List (ℕ × ℕ)) (f : Flight) →
    length (sends n r t ps f).carried ≡ length f.carried + onto_lan_count n r t ps
carried_length-sends n r t [] f = omega arith
carried_length-sends n r t (p ∷ ps) f = carried_length-send_step n r t p ps f (nat_lt p.1 t) (n.placed r p.0)
    (carried_length-sends n r t ps)

carried_length-exact_row : (n : Net) (w : Waiting) (pairs : List (ℕ × ℕ)) (b : Bool) (f : Flight) →
    length (cond b (sends n w.router w.ttl pairs f) f).carried ≡ length f.carried + copies_in
    (cond b (Sent (onto_lan_count n w.router w.ttl pairs) (astray_count n w.router w.ttl pairs)) OtherVif)
carried_length-exact_row n w pairs true f = carried_length-sends n w.router w.ttl pairs f
carried_length-exact_row n w pairs false f = omega arith

carried_length-row : (n : Net) (w : Waiting) (row : Row) (f : Flight) →
    length (handle_by_row n w row f).carried ≡ length f.carried + copies_in (outcome_by_row n w row)
carried_length-row n w (Exact incoming pairs) f = carried_length-exact_row n w pairs (incoming == w.vif) f
carried_length-row n w Open f = omega arith
carried_length-row n w NoRow f = omega arith

pub carried_length-step : (n : Net) (i : ℕ) (f : Flight) (w : Waiting) → slice_get f.waiting i ≡ Some w →
    length (step n i f).carried ≡ length f.carried + copies_in (event_of n w).outcome
carried_length-step n i f w e = ap (λ o. length (handle n o (without_waiting i f)).carried) e ∙
    carried_length-row n w (n.row w.router) (without_waiting i f)

-- ---- strays

strays_length-send_step : (n : Net) (r t : ℕ) (p : ℕ × ℕ) (ps : List (ℕ × ℕ)) (f : Flight) (b : Bool)
    (o : Option ℕ) → ((g : Flight) → length (sends n r t ps g).strays ≡ length g.strays +
    astray_count n r t ps) → length (sends n r t ps (cond b (leave n (t - 1) (r, p.0) o f) f)).strays
    ≡ length f.strays + cond (b && not (is_some o)) (suc (astray_count n r t ps))
    (astray_count n r t ps)
strays_length-send_step n r t p ps f false o ih = ih f
strays_length-send_step n r t p ps f true None ih =
    let i : Interface = (r, p.0) in
    omega (arith, ih (leave n (t - 1) (r, p.0) None f), length-append f.strays (i ∷ []))
strays_length-send_step n r t p ps f true (Some l) ih = ih (leave n (t - 1) (r, p.0) (Some l) f)

strays_length-sends : (n : Net) (r t : ℕ) (ps : List (ℕ × ℕ)) (f : Flight) →
    length (sends n r t ps f).strays ≡ length f.strays + astray_count n r t ps
strays_length-sends n r t [] f = omega arith
strays_length-sends n r t (p ∷ ps) f = strays_length-send_step n r t p ps f (nat_lt p.1 t) (n.placed r p.0)
    (strays_length-sends n r t ps)

strays_length-exact_row : (n : Net) (w : Waiting) (pairs : List (ℕ × ℕ)) (b : Bool) (f : Flight) →
    length (cond b (sends n w.router w.ttl pairs f) f).strays ≡ length f.strays + strays_in
    (cond b (Sent (onto_lan_count n w.router w.ttl pairs) (astray_count n w.router w.ttl pairs)) OtherVif)
strays_length-exact_row n w pairs true f = strays_length-sends n w.router w.ttl pairs f
strays_length-exact_row n w pairs false f = omega arith

strays_length-row : (n : Net) (w : Waiting) (row : Row) (f : Flight) →
    length (handle_by_row n w row f).strays ≡ length f.strays + strays_in (outcome_by_row n w row)
strays_length-row n w (Exact incoming pairs) f = strays_length-exact_row n w pairs (incoming == w.vif) f
strays_length-row n w Open f = let i : Interface = (w.router, w.vif) in omega
    (arith, length-append f.strays (i ∷ []))
strays_length-row n w NoRow f = omega arith

pub strays_length-step : (n : Net) (i : ℕ) (f : Flight) (w : Waiting) → slice_get f.waiting i ≡ Some w →
    length (step n i f).strays ≡ length f.strays + strays_in (event_of n w).outcome
strays_length-step n i f w e = ap (λ o. length (handle n o (without_waiting i f)).strays) e ∙
    strays_length-row n w (n.row w.router) (without_waiting i f)
