-- A waiting copy may be taken away after it was handled.
use Rattle.std.proofs.Common.{◌≡◌, ℕ, zero, suc, ◌-◌, ◌<◌, Bool, true, false, cond, ◌==◌, nat_lt}
use Rattle.std.proofs.Common.{List, [], ◌∷◌, ◌++◌, map, length, remove, get_or, slice_get, Option}
use Rattle.std.proofs.Common.{Some, None, option_map, refl, ap, sym, subst, ◌∙◌, arith}
use Rattle.std.proofs.Common.{length-append}
use Rattle.std.proofs.lemmas.Option.{slice_get_read}
use Rattle.mc_theory.specs.Nets.{Net, Row, Interface}
use Rattle.mc_theory.specs.Nets.Row.{Exact, Open, NoRow}
use Rattle.mc_theory.specs.Flights.{Copy, Waiting, Flight, put, leave, send, sends, handle_by_row}
use Rattle.mc_theory.specs.Flights.{handle, without_waiting, step, waits_at, hearers}
use Rattle.mc_theory.specs.Events.{Event, Outcome, outcome_by_row, event_of}
use Rattle.mc_forward.specs.FlightsInDomain.{flight_of}

-- one of the first list is taken away before or after a second is added
remove-append : {A : Type 0} (xs ys : List A) (i : ℕ) → i < length xs
    → remove (xs ++ ys) i ≡ remove xs i ++ ys
remove-append [] ys i lt = absurd (omega arith)
remove-append (x ∷ xs) ys zero lt = refl
remove-append (x ∷ xs) ys (suc i) lt = ap (λ zs. x ∷ zs) (remove-append xs ys i (omega arith))

-- what F does leaves the i-th waiting copy where it is
abbrev LeavesWaitingInPlace : ℕ → (Flight → Flight) → Flight → Type 0
LeavesWaitingInPlace i F f = (without_waiting i (F f) ≡ F (without_waiting i f)) × (i < length (F f).waiting)

-- a copy that is put on a LAN
leaves_waiting-put : (n : Net) (c : Copy) (i : ℕ) (f : Flight) → i < length f.waiting →
    LeavesWaitingInPlace i (put n c) f
leaves_waiting-put n c i f lt = (
  ap (λ ws. flight_of (f.carried ++ c ∷ []) ws f.strays)
      (remove-append f.waiting (map (waits_at c.ttl) (hearers n c)) i lt),
  omega (arith, length-append f.waiting (map (waits_at c.ttl) (hearers n c))),
)

-- one that is sent by a vif
leaves_waiting-leave : (n : Net) (t : ℕ) (x : Interface) (o : Option ℕ) (i : ℕ) (f : Flight)
    → i < length f.waiting → LeavesWaitingInPlace i (leave n t x o) f
leaves_waiting-leave n t x None i f lt = (refl, lt)
leaves_waiting-leave n t x (Some l) i f lt =
    leaves_waiting-put n (record { lan = l; ttl = t; sender = Some x }) i f lt

-- what is done under a condition
leaves_waiting-cond : (b : Bool) (F : Flight → Flight) (i : ℕ) (f : Flight) → i < length f.waiting
    → LeavesWaitingInPlace i F f → LeavesWaitingInPlace i (λ g. cond b (F g) g) f
leaves_waiting-cond true F i f lt h = h
leaves_waiting-cond false F i f lt h = (refl, lt)

-- what one pair sends
leaves_waiting-send : (n : Net) (r t : ℕ) (p : ℕ × ℕ) (i : ℕ) (f : Flight) → i < length f.waiting
    → LeavesWaitingInPlace i (send n r t p) f
leaves_waiting-send n r t p i f lt =
    leaves_waiting-cond (nat_lt p.1 t) (leave n (t - 1) (r, p.0) (n.placed r p.0)) i f lt
    (leaves_waiting-leave n (t - 1) (r, p.0) (n.placed r p.0) i f lt)

-- what all pairs send
leaves_waiting-sends : (n : Net) (r t : ℕ) (ps : List (ℕ × ℕ)) (i : ℕ) (f : Flight) → i < length f.waiting
    → LeavesWaitingInPlace i (sends n r t ps) f
leaves_waiting-sends n r t [] i f lt = (refl, lt)
leaves_waiting-sends n r t (p ∷ ps) i f lt =
    let one = leaves_waiting-send n r t p i f lt in
    let rest = leaves_waiting-sends n r t ps i (send n r t p f) one.1 in
    (rest.0 ∙ ap (sends n r t ps) one.0, rest.1)

-- a copy that is handled by a row
leaves_waiting-row : (n : Net) (w : Waiting) (row : Row) (i : ℕ) (f : Flight) → i < length f.waiting
    → LeavesWaitingInPlace i (handle_by_row n w row) f
leaves_waiting-row n w (Exact incoming pairs) i f lt =
    leaves_waiting-cond (incoming == w.vif) (sends n w.router w.ttl pairs) i f lt
    (leaves_waiting-sends n w.router w.ttl pairs i f lt)
leaves_waiting-row n w Open i f lt = (refl, lt)
leaves_waiting-row n w NoRow i f lt = (refl, lt)

-- handled first, and then taken away
pub without_waiting-after_handle : (n : Net) (f g : Flight) (i : ℕ) (w : Waiting) → i < length f.waiting
    → w ≡ get_or f.waiting i w
    → g ≡ handle n (Some w) f → without_waiting i g ≡ step n i f
without_waiting-after_handle n f g i w lt read e =
    let at : slice_get f.waiting i ≡ Some w = slice_get_read f.waiting
    (length f.waiting) i w refl lt read in
    ap (without_waiting i) e ∙ (leaves_waiting-row n w (n.row w.router) i f lt).0
    ∙ ap (λ o. handle n o (without_waiting i f)) (sym at)

-- the event of the handling
pub event_of-handled_copy : (n : Net) (ws : List Waiting) (i : ℕ) (w own : Waiting) (o : Outcome)
    → i < length ws → w ≡ get_or ws i w → own ≡ w
    → o ≡ outcome_by_row n w (n.row w.router)
    → option_map (event_of n) (slice_get ws i) ≡ Some
    (record { router = own.router; vif = own.vif; ttl = own.ttl; outcome = o })
event_of-handled_copy n ws i w own o lt read same is =
    let event : Waiting → Outcome → Event = λ v x. record {
      router = v.router;
      vif = v.vif;
      ttl =
          v.ttl;
      outcome = x;
    } in
    ap (option_map (event_of n)) (slice_get_read ws (length ws) i w refl lt read)
    ∙ ap (λ v. Some (event v (outcome_by_row n w (n.row w.router)))) (sym same)
    ∙ ap (λ x. Some (event own x)) (sym is)

-- a copy that is being handled still waits
pub still_waits-after_handle : (n : Net) (f g : Flight) (i : ℕ) (w : Waiting) → i < length f.waiting
    → g ≡ handle n (Some w) f → i < length g.waiting
still_waits-after_handle n f g i w lt e = subst (λ (h : Flight). i < length h.waiting) (sym e)
    (leaves_waiting-row n w (n.row w.router) i f lt).1
