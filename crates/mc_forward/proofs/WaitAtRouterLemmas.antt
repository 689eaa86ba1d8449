-- Copies wait at routers of the domain.
use Rattle.std.proofs.Common.{◌≡◌, ℕ, ◌-◌, ◌<◌, inl, inr, Bool, true, false, cond, ◌==◌, nat_lt}
use Rattle.std.proofs.Common.{not, List, [], ◌∷◌, map, slice_get, Option, Some, None}
use Rattle.std.proofs.Common.{Result, Ok, Err, sym, subst}
use Rattle.std.specs.Prelude.{OnOk, OnErr}
use Rattle.mc_theory.specs.Nets.{Net, Row, IsNet, Interface, interfaces}
use Rattle.mc_theory.specs.Nets.Row.{Exact, Open, NoRow}
use Rattle.mc_theory.specs.Flights.{Copy, Waiting, Flight, put, leave, send, sends, handle_by_row}
use Rattle.mc_theory.specs.Flights.{handle, without_waiting, step, waits_at, hearers, is_sender}
use Rattle.mc_theory.proofs.ListLemmas.{in-append_cases, in-map_cases, in-filter_cases, in-remove}
use Rattle.mc_theory.proofs.PlacedInterfaces.{placed-member_of_interfaces}
use Rattle.mc_forward.specs.FlightsInDomain.{WaitAtRouters}

-- after a copy was put on a LAN
pub wait_at_routers-put : (n : Net) → IsNet n → (c : Copy) (f : Flight) → WaitAtRouters n.routers f
    → WaitAtRouters n.routers (put n c f)
wait_at_routers-put n net c f at w k =
    elim (in-append_cases w f.waiting (map (waits_at c.ttl) (hearers n c)) k) [
      | inl old ↦ at w old
      | inr new ↦ (
          let heard = in-map_cases (waits_at c.ttl) w (hearers n c) new in
          let lan = in-filter_cases (λ (i : Interface). not (is_sender c.sender i)) heard.0
          (interfaces n c.lan) heard.1 in
          subst (λ (v : Waiting). v.router < n.routers) heard.2
          (net.router heard.0.0 heard.0.1 c.lan (placed-member_of_interfaces n heard.0 c.lan lan.0)))
    ]

-- after one was sent by a vif
wait_at_routers-leave : (n : Net) → IsNet n → (t : ℕ) (x : Interface) (o : Option ℕ) (f : Flight)
    → WaitAtRouters n.routers f → WaitAtRouters n.routers (leave n t x o f)
wait_at_routers-leave n net t x None f at = at
wait_at_routers-leave n net t x (Some l) f at =
    wait_at_routers-put n net (record { lan = l; ttl = t; sender = Some x }) f at

-- in one of two flights
wait_at_routers-cond : (routers : ℕ) (b : Bool) (f g : Flight) → WaitAtRouters routers f →
    WaitAtRouters routers g
    → WaitAtRouters routers (cond b f g)
wait_at_routers-cond routers true f g h k = h
wait_at_routers-cond routers false f g h k = k

-- after copies were sent by several vifs
wait_at_routers-sends : (n : Net) → IsNet n → (r t : ℕ) (ps : List (ℕ × ℕ)) (f : Flight) →
    WaitAtRouters n.routers f
    → WaitAtRouters n.routers (sends n r t ps f)
wait_at_routers-sends n net r t [] f at = at
wait_at_routers-sends n net r t (p ∷ ps) f at =
    wait_at_routers-sends n net r t ps (send n r t p f)
    (wait_at_routers-cond n.routers (nat_lt p.1 t) (leave n (t - 1) (r, p.0) (n.placed r p.0) f) f
    (wait_at_routers-leave n net (t - 1) (r, p.0) (n.placed r p.0) f at) at)

-- after a copy was handled by a row
wait_at_routers-row : (n : Net) → IsNet n → (w : Waiting) (row : Row) (f : Flight) → WaitAtRouters n.routers f
    → WaitAtRouters n.routers (handle_by_row n w row f)
wait_at_routers-row n net w (Exact incoming pairs) f at =
    wait_at_routers-cond n.routers (incoming == w.vif) (sends n w.router w.ttl pairs f) f
    (wait_at_routers-sends n net w.router w.ttl pairs f at) at
wait_at_routers-row n net w Open f at = at
wait_at_routers-row n net w NoRow f at = at

-- after a copy was handled, if there was one
wait_at_routers-handle : (n : Net) → IsNet n → (o : Option Waiting) (f : Flight) → WaitAtRouters n.routers f
    → WaitAtRouters n.routers (handle n o f)
wait_at_routers-handle n net None f at = at
wait_at_routers-handle n net (Some w) f at = wait_at_routers-row n net w (n.row w.router) f at

-- without one of them
pub wait_at_routers-without : (routers i : ℕ) (f : Flight) → WaitAtRouters routers f
    → WaitAtRouters routers (without_waiting i f)
wait_at_routers-without routers i f at w k = at w (in-remove w f.waiting i k)

-- after a step
pub wait_at_routers-step : (n : Net) → IsNet n → (i : ℕ) (f : Flight) → WaitAtRouters n.routers f
    → WaitAtRouters n.routers (step n i f)
wait_at_routers-step n net i f at = wait_at_routers-handle n net (slice_get f.waiting i) (without_waiting i f)
    (wait_at_routers-without n.routers i f at)

-- no copy waits before the first
pub wait_at_routers-none : (routers : ℕ) (f : Flight) → f ≡ record { carried = []; waiting = []; strays = [] }
    → WaitAtRouters routers f
wait_at_routers-none routers f e = subst (WaitAtRouters routers) (sym e) (λ w k. absurd k)

-- what holds of both outcomes holds of the one that there was
pub from_either_outcome : {A T E : Type 0} (r : Result T E) (Q : A → Type 0) (x y z : A) → OnOk r (x ≡ y)
    → OnErr r (x ≡ z) → Q y → Q z → Q x
from_either_outcome (Ok v) Q x y z same other ok err = subst Q (sym same) ok
from_either_outcome (Err e) Q x y z same other ok err = subst Q (sym other) err
