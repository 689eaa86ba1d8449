-- Carried copies are on LANs of the domain, sent by its routers.
use Rattle.std.proofs.Common.{◌≡◌, ℕ, zero, suc, ◌-◌, ◌<◌, inl, inr, Bool, true, false, cond, ◌==◌}
use Rattle.std.proofs.Common.{nat_lt, List, [], ◌∷◌, length, get_or, slice_get, Option, Some, None}
use Rattle.std.proofs.Common.{All, refl, sym, subst, arith}
use Rattle.mc_theory.specs.Lists.{In}
use Rattle.mc_theory.specs.Nets.{Net, Row}
use Rattle.mc_theory.specs.Nets.Row.{Exact, Open, NoRow}
use Rattle.mc_theory.specs.Flights.{Copy, Waiting, Flight, put, leave, send, sends, handle_by_row}
use Rattle.mc_theory.specs.Flights.{handle, without_waiting, step}
use Rattle.mc_theory.proofs.ListLemmas.{in-push_cases, slice_get-in}
use Rattle.mc_forward.specs.Domains.{DomainValue, IsDomain, net_of}
use Rattle.mc_forward.specs.FlightsInDomain.{IsCopyInDomain, AreCopiesInDomain, WaitAtRouters}
use Rattle.mc_forward.proofs.DomainLemmas.{placed-below_lan_count}

-- vifs are placed on so many LANs
abbrev pub ArePlacedBelow : Net → ℕ → Type 0
ArePlacedBelow n lans = (r v l : ℕ) → n.placed r v ≡ Some l → l < lans

-- the vifs of a domain are placed on its LANs
pub are_placed_below-domain : (d : DomainValue) (flow : ℕ) → IsDomain d
    → ArePlacedBelow (net_of d flow) (length d.topology.lans)
are_placed_below-domain d flow ok r v l e = placed-below_lan_count d r v ok (Some l) e

-- after a copy was put on a LAN
pub copies_in_domain-put : (n : Net) (lans routers : ℕ) (c : Copy) (f : Flight) →
    IsCopyInDomain lans routers c
    → AreCopiesInDomain lans routers f → AreCopiesInDomain lans routers (put n c f)
copies_in_domain-put n lans routers c f own all x h = elim (in-push_cases x f.carried c h) [
  | inl old ↦ all x old
  | inr same ↦ subst (IsCopyInDomain lans routers) same own
]

-- after one was sent by a vif
copies_in_domain-leave : (n : Net) (lans routers : ℕ) → ArePlacedBelow n lans → (t r v : ℕ) → r < routers
    → (o : Option ℕ) → n.placed r v ≡ o → (f : Flight) → AreCopiesInDomain lans routers f
    → AreCopiesInDomain lans routers (leave n t (r, v) o f)
copies_in_domain-leave n lans routers below t r v lt None e f all = all
copies_in_domain-leave n lans routers below t r v lt (Some l) e f all =
    copies_in_domain-put n lans routers (record { lan = l; ttl = t; sender = Some (r, v) }) f
    (record { lan = below r v l e; sender = lt }) all

-- in one of two flights
copies_in_domain-cond : (lans routers : ℕ) (b : Bool) (f g : Flight) → AreCopiesInDomain lans routers f
    → AreCopiesInDomain lans routers g → AreCopiesInDomain lans routers (cond b f g)
copies_in_domain-cond lans routers true f g h k = h
copies_in_domain-cond lans routers false f g h k = k

-- after copies were sent by several vifs
copies_in_domain-sends : (n : Net) (lans routers : ℕ) → ArePlacedBelow n lans → (r t : ℕ) → r < routers
    → (ps : List (ℕ × ℕ)) (f : Flight) → AreCopiesInDomain lans routers f
    → AreCopiesInDomain lans routers (sends n r t ps f)
copies_in_domain-sends n lans routers below r t lt [] f all = all
copies_in_domain-sends n lans routers below r t lt (p ∷ ps) f all =
    copies_in_domain-sends n lans routers below r t lt ps (send n r t p f)
    (copies_in_domain-cond lans routers (nat_lt p.1 t) (leave n (t - 1) (r, p.0) (n.placed r p.0) f) f
    (copies_in_domain-leave n lans routers below (t - 1) r p.0 lt (n.placed r p.0) refl f all) all)

-- after a copy was handled by a row
copies_in_domain-row : (n : Net) (lans routers : ℕ) → ArePlacedBelow n lans → (w : Waiting) →
    w.router < routers
    → (row : Row) (f : Flight) → AreCopiesInDomain lans routers f
    → AreCopiesInDomain lans routers (handle_by_row n w row f)
copies_in_domain-row n lans routers below w lt (Exact incoming pairs) f all =
    copies_in_domain-cond lans routers (incoming == w.vif) (sends n w.router w.ttl pairs f) f
    (copies_in_domain-sends n lans routers below w.router w.ttl lt pairs f all) all
copies_in_domain-row n lans routers below w lt Open f all = all
copies_in_domain-row n lans routers below w lt NoRow f all = all

-- after a step
pub copies_in_domain-step : (n : Net) (lans routers : ℕ) → ArePlacedBelow n lans → (i : ℕ) (f : Flight)
    → WaitAtRouters routers f → AreCopiesInDomain lans routers f → AreCopiesInDomain lans routers (step n i f)
copies_in_domain-step n lans routers below i f at all = by (slice_get f.waiting i) refl
  where
    by : (o : Option Waiting) → slice_get f.waiting i ≡ o
        → AreCopiesInDomain lans routers (handle n o (without_waiting i f))
    by None e = all
    by (Some w) e = copies_in_domain-row n lans routers below w (at w (slice_get-in f.waiting i w e))
        (n.row w.router) (without_waiting i f) all

-- no copy was carried before the first
pub copies_in_domain-none : (lans routers : ℕ) (f : Flight)
    → f ≡ record { carried = []; waiting = []; strays = [] } → AreCopiesInDomain lans routers f
copies_in_domain-none lans routers f e = subst (AreCopiesInDomain lans routers) (sym e) (λ c h. absurd h)

-- an item at a place is in the list
in-at_index : {A : Type 0} (xs : List A) (k : ℕ) (d : A) → k < length xs → In (get_or xs k d) xs
in-at_index [] k d lt = absurd (omega (arith, lt))
in-at_index (x ∷ xs) zero d lt = inl refl
in-at_index (x ∷ xs) (suc k) d lt = inr (in-at_index xs k d (omega (arith, lt)))

-- what holds of each that is among them holds at each place
pub all-from_each_member : {A : Type 0} (P : A → Type 0) (xs : List A) → ((x : A) → In x xs → P x) → All P xs
all-from_each_member P xs h k d lt = h (get_or xs k d) (in-at_index xs k d lt)
