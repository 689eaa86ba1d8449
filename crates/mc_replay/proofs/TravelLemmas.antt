-- An unfinished travel, event by event.
use Rattle.std.proofs.Common.{◌≡◌, ℕ, ◌+◌, ◌-◌, ◌<◌, ◌≤◌, Bool, true, false, cond, ◌==◌, nat_lt}
use Rattle.std.proofs.Common.{List, [], ◌∷◌, ◌++◌, length, take, slice_get, Option, Some, None}
use Rattle.std.proofs.Common.{refl, ap, sym, ◌∙◌, subst, arith, append_assoc, append-nil}
use Rattle.std.proofs.Common.{length-append}
use Rattle.std.specs.Prelude.{option_map}
use Rattle.std.proofs.Math.Seq.{take-append_seam}
use Rattle.mc_theory.specs.Nets.{Net, Row, Interface, placed_interfaces}
use Rattle.mc_theory.specs.Nets.Row.{Exact, Open, NoRow}
use Rattle.mc_theory.specs.Flights.{Copy, Waiting, Flight, start, step, leave, send, sends}
use Rattle.mc_theory.specs.Flights.{handle_by_row, handle, without_waiting}
use Rattle.mc_theory.specs.Events.{Event, event_of, prepend_event}
use Rattle.mc_theory.specs.Findings.{Finding, Choices, IsTravelUnfinished, after_choice, choice, first_double}
use Rattle.mc_theory.specs.Findings.{double_finding, finding}
use Rattle.mc_theory.proofs.Travels.{length_bounded-travel_so_far}
use Rattle.mc_forward.specs.Domains.{DomainValue, net_of}
use Rattle.mc_forward.specs.FlightsInDomain.{FlightInDomain, net_of_flight_in_domain, with_flight}
use Rattle.mc_forward.specs.PerLan.{HoldsFirstOfEachKey}
use Rattle.mc_replay.specs.Travels.{IsTravelTo}

-- ---- the copies so far stay in front of the later ones

-- the second flight carried the copies of the first, and then maybe more
abbrev pub ExtendsCarried : Flight → Flight → Type 0
ExtendsCarried f g = (cs : List Copy) × (g.carried ≡ f.carried ++ cs)

-- a flight with the same copies
extends_carried-same : (f g : Flight) → g.carried ≡ f.carried → ExtendsCarried f g
extends_carried-same f g e = ([], e ∙ sym (append-nil f.carried))

-- one flight after another
extends_carried-more : (f g h : Flight) → ExtendsCarried f g → ExtendsCarried g h → ExtendsCarried f h
extends_carried-more f g h a b =
    (a.0 ++ b.0, b.1 ∙ (ap (λ cs. cs ++ b.0) a.1 ∙ append_assoc f.carried a.0 b.0))

-- a copy that leaves by an interface is carried after the others, or strays
extends_carried-leave : (n : Net) (t : ℕ) (i : Interface) (o : Option ℕ) (f : Flight)
    → ExtendsCarried f (leave n t i o f)
extends_carried-leave n t i None f = extends_carried-same f (leave n t i None f) refl
extends_carried-leave n t i (Some l) f = (record { lan = l; ttl = t; sender = Some i } ∷ [], refl)

-- whichever of the two happens
extends_carried-cond : (f g : Flight) (b : Bool) → ExtendsCarried f g → ExtendsCarried f (cond b g f)
extends_carried-cond f g true h = h
extends_carried-cond f g false h = extends_carried-same f f refl

-- a router's copies, pair by pair
extends_carried-sends : (n : Net) (r t : ℕ) (ps : List (ℕ × ℕ)) (f : Flight)
    → ExtendsCarried f (sends n r t ps f)
extends_carried-sends n r t [] f = extends_carried-same f f refl
extends_carried-sends n r t (p ∷ ps) f =
    extends_carried-more f (send n r t p f) (sends n r t ps (send n r t p f))
    (extends_carried-cond f (leave n (t - 1) (r, p.0) (n.placed r p.0) f) (nat_lt p.1 t)
    (extends_carried-leave n (t - 1) (r, p.0) (n.placed r p.0) f))
    (extends_carried-sends n r t ps (send n r t p f))

-- a copy that is handled by a row
extends_carried-handle_by : (n : Net) (w : Waiting) (row : Row) (f : Flight)
    → ExtendsCarried f (handle_by_row n w row f)
extends_carried-handle_by n w (Exact incoming pairs) f = extends_carried-cond f
    (sends n w.router w.ttl pairs f)
    (incoming == w.vif) (extends_carried-sends n w.router w.ttl pairs f)
extends_carried-handle_by n w Open f = extends_carried-same f (handle_by_row n w Open f) refl
extends_carried-handle_by n w NoRow f = extends_carried-same f f refl

-- so each step of a run keeps the carried copies in front
extends_carried-step : (n : Net) (i : ℕ) (f : Flight) → ExtendsCarried f (step n i f)
extends_carried-step n i f = by (slice_get f.waiting i)
  where
    by : (o : Option Waiting) → ExtendsCarried f (handle n o (without_waiting i f))
    by None = extends_carried-same f (without_waiting i f) refl
    by (Some w) = extends_carried-handle_by n w (n.row w.router) (without_waiting i f)

-- ---- the first copies

-- the first k copies are in the vector of first copies, which has a place for each LAN, and no two of
-- them are on the same LAN
pub record FirstCopiesRecorded (firsts : List (Option Copy)) (lans k : ℕ) (cs : List Copy) : Type 0 where
  pub count : length firsts ≡ lans
  pub seen : k ≤ length cs
  pub filled : HoldsFirstOfEachKey (λ (c : Copy). c.lan) firsts (take k cs)
  pub once : first_double [] (take k cs) ≡ None

-- before any copy is looked at, the places are empty
pub first_copies_recorded-none : (firsts : List (Option Copy)) (lans : ℕ) (cs : List Copy)
    → length firsts ≡ lans
    → HoldsFirstOfEachKey (λ (c : Copy). c.lan) firsts [] → FirstCopiesRecorded firsts lans 0 cs
first_copies_recorded-none firsts lans cs count none = record {
  count = count;
  seen = omega arith;
  filled = none;
  once = refl;
}

-- in a flight without a finding no LAN carried two copies
pub double-none_without_finding : (n : Net) (count : ℕ) (f : Flight) → finding n count f ≡ None
    → first_double [] f.carried ≡ None
double-none_without_finding n count f h = by (first_double [] f.carried) h
  where
    by : (o : Option Copy) → double_finding n count f o ≡ None → o ≡ None
    by None e = refl
    by (Some c) e = absurd cc

-- after all copies of a flight in which no LAN carried two, and one handling
pub first_copies_recorded-next : (n : Net) (lans k i : ℕ) (firsts : List (Option Copy)) (f g : Flight)
    → length firsts ≡ lans → HoldsFirstOfEachKey (λ (c : Copy). c.lan) firsts f.carried
    → first_double [] f.carried ≡ None
    → k ≡ length f.carried → g ≡ step n i f → FirstCopiesRecorded firsts lans k g.carried
first_copies_recorded-next n lans k i firsts f g count filled once seen next =
    let more = extends_carried-step n i f in
    let now : g.carried ≡ f.carried ++ more.0 = ap (λ (h : Flight). h.carried) next ∙ more.1 in
    let front : take k g.carried ≡ f.carried = ap (λ (m : ℕ). take m g.carried) seen
    ∙ (ap (take (length f.carried)) now ∙ take-append_seam f.carried more.0) in
    record {
      count = count;
      seen = omega (arith, seen, ap length now, length-append f.carried more.0);
      filled = subst (HoldsFirstOfEachKey (λ (c : Copy). c.lan) firsts) (sym front) filled;
      once = ap (first_double []) front ∙ once;
    }

-- and of one without a finding
pub first_copies_recorded-more : (n : Net) (lans k i : ℕ) (firsts : List (Option Copy)) (f g : Flight)
    → length firsts ≡ lans → HoldsFirstOfEachKey (λ (c : Copy). c.lan) firsts f.carried
    → finding n lans f ≡ None
    → k ≡ length f.carried → g ≡ step n i f → FirstCopiesRecorded firsts lans k g.carried
first_copies_recorded-more n lans k i firsts f g count filled none seen next =
    first_copies_recorded-next n lans k i firsts f g count filled
    (double-none_without_finding n lans f none) seen
    next

-- ---- the travel so far

-- From flight f0 on, by the choices c0, the events es led to flight f, with the choices c left. The
-- rest of the travel from f0 is the travel from f, and there is room for each further event.
pub record IsTravelSoFar (n : Net) (lans : ℕ) (c0 : Choices) (f0 : Flight) (c : Choices) (f : Flight)
    (es : List Event) : Type 0 where
  pub room : (is : List ℕ) → IsTravelUnfinished n lans c.numbers c.last is f
      → length es + length is ≤ length (placed_interfaces n)
  pub travel : (more : List Event) (g : Flight) (x : Finding) → IsTravelTo n lans c f more g x
      → IsTravelTo n lans c0 f0 (es ++ more) g x

-- before the first event
travel_so_far-none : (n : Net) (lans t : ℕ) (c : Choices) (f : Flight) (es : List Event) → f ≡ start n t
    → es ≡ [] → IsTravelSoFar n lans c (start n t) c f es
travel_so_far-none n lans t c f es e q = subst (λ (xs : List Event). IsTravelSoFar n lans c
    (start n t) c f xs)
    (sym q)
    (subst (λ (g : Flight). IsTravelSoFar n lans c (start n t) c g []) (sym e) (record {
      room = λ is h. (let le = length_bounded-travel_so_far n lans t c.numbers c.last is h in omega
          (arith, le));
      travel = λ more g x h. h;
    }))

-- the same for a flight that has just started
pub travel_so_far-from_start : (n : Net) (lans : ℕ) (c : Choices) (f : Flight) (es : List Event)
    → (t : ℕ) × (f ≡ start n t) → es ≡ [] → IsTravelSoFar n lans c f c f es
travel_so_far-from_start n lans c f es is none = subst (λ (s : Flight). IsTravelSoFar n lans c s c f
    es) (sym is.1)
    (travel_so_far-none n lans is.0 c f es is.1 none)

-- there are no more events than there is room for
pub length-travel_so_far : (n : Net) (lans : ℕ) (c0 : Choices) (f0 : Flight) (c : Choices) (f : Flight)
    (es : List Event) → IsTravelSoFar n lans c0 f0 c f es → length es ≤ length (placed_interfaces n)
length-travel_so_far n lans c0 f0 c f es travel_so_far = let le = travel_so_far.room [] tt in omega
    (arith, le)

-- a finding of the flight ends the travel
pub is_travel_to-travel_so_far : (n : Net) (lans : ℕ) (c0 : Choices) (f0 : Flight) (c : Choices) (f : Flight)
    (es : List Event) (x : Finding)
    → IsTravelSoFar n lans c0 f0 c f es → finding n lans f ≡ Some x → IsTravelTo n lans c0 f0 es f x
is_travel_to-travel_so_far n lans c0 f0 c f es x travel_so_far shows =
    subst (λ (xs : List Event). IsTravelTo n lans c0 f0 xs f x) (append-nil es)
    (travel_so_far.travel [] f x (record { picks = []; travel = shows; events = refl; ends = refl }))

-- the pick among a number of copies, where that many wait
pub choice-same_count : (c : Choices) (count waiting pick : ℕ) → pick ≡ choice count c.numbers c.last
    → count ≡ waiting → pick ≡ choice waiting c.numbers c.last
choice-same_count c count waiting pick picked same =
    picked ∙ ap (λ (n : ℕ). choice n c.numbers c.last) same

-- there is room for one more event
pub length-travel_so_far_below : (n : Net) (lans : ℕ) (c0 : Choices) (f0 : Flight) (c : Choices) (f : Flight)
    (es : List Event) (pick : ℕ)
    → IsTravelSoFar n lans c0 f0 c f es → finding n lans f ≡ None
    → pick ≡ choice (length f.waiting) c.numbers c.last → length es < length (placed_interfaces n)
length-travel_so_far_below n lans c0 f0 c f es pick travel_so_far none chosen = let le =
    travel_so_far.room (pick ∷ []) (none, chosen, tt) in omega (arith, le)

-- the event of a handled copy comes in front of the later ones
prepend_event-handled : (n : Net) (o : Option Waiting) (e : Event) (es : List Event)
    → option_map (event_of n) o ≡ Some e → e ∷ es ≡ prepend_event n o es
prepend_event-handled n None e es h = absurd cc
prepend_event-handled n (Some w) e es h = let same : event_of n w ≡ e = cc in ap (λ x. x ∷ es) (sym same)

-- the travel from a flight without a finding is its next event and the travel from then on
pub is_travel_to-cons : (n : Net) (lans : ℕ) (c : Choices) (f : Flight) (pick : ℕ) (e : Event)
    (more : List Event) (g : Flight) (x : Finding)
    → finding n lans f ≡ None → pick ≡ choice (length f.waiting) c.numbers c.last
    → option_map (event_of n) (slice_get f.waiting pick) ≡ Some e
    → IsTravelTo n lans (after_choice c) (step n pick f) more g x → IsTravelTo n lans c f (e ∷ more) g x
is_travel_to-cons n lans c f pick e more g x none chosen event goes = record {
  picks = pick ∷ goes.picks;
  travel = (none, chosen, goes.travel);
  events = ap (λ xs. e ∷ xs) goes.events ∙ prepend_event-handled n (slice_get f.waiting pick) e _ event;
  ends = goes.ends;
}

-- one handling more, of the copy that the choices pick
pub travel_so_far-more : (n : Net) (lans : ℕ) (c0 : Choices) (f0 : Flight) (c c' : Choices) (f g : Flight)
    (es es' : List Event) (pick : ℕ) (e : Event)
    → IsTravelSoFar n lans c0 f0 c f es → finding n lans f ≡ None
    → pick ≡ choice (length f.waiting) c.numbers c.last → c' ≡ after_choice c
    → g ≡ step n pick f → option_map (event_of n) (slice_get f.waiting pick) ≡ Some e
    → es' ≡ es ++ e ∷ [] → IsTravelSoFar n lans c0 f0 c' g es'
travel_so_far-more n lans c0 f0 c c' f g es es' pick e travel_so_far none chosen left next event pushed =
    subst (λ (xs : List Event). IsTravelSoFar n lans c0 f0 c' g xs) (sym pushed)
    (subst (λ (h : Flight). IsTravelSoFar n lans c0 f0 c' h (es ++ e ∷ [])) (sym next)
    (subst (λ (d : Choices). IsTravelSoFar n lans c0 f0 d (step n pick f) (es ++ e ∷ [])) (sym left)
    (record {
      room = λ is h. (let le = travel_so_far.room (pick ∷ is) (none, chosen, h) in omega
          (arith, le, length-append es (e ∷ [])));
      travel = λ more h x goes. subst (λ (xs : List Event). IsTravelTo n lans c0 f0 xs h x)
          (sym (append_assoc es (e ∷ []) more))
          (travel_so_far.travel (e ∷ more) h x (is_travel_to-cons n lans c f pick e more h x none chosen event
          goes));
    })))

-- ---- the same in a domain

-- equal domains and flows have the same net
pub net_of-same_arguments : (a d : DomainValue) (v w : ℕ) → a ≡ d → v ≡ w → net_of a v ≡ net_of d w
net_of-same_arguments a d v w e q = ap (λ (x : DomainValue). net_of x v) e ∙ ap (net_of d) q

-- the travel from a flight that has just started
pub is_travel_to-from_start : (a d : DomainValue) (v w t : ℕ) (c : Choices) (f g : Flight) (es : List Event)
    (x : Finding) → a ≡ d → v ≡ w → f ≡ start (net_of d w) t
    → IsTravelTo (net_of a v) (length a.topology.lans) c f es g x
    → IsTravelTo (net_of d w) (length d.topology.lans) c (start (net_of d w) t) es g x
is_travel_to-from_start a d v w t c f g es x e q is goes =
    subst (λ (s : Flight). IsTravelTo (net_of d w) (length d.topology.lans) c s es g x) is
    (subst (λ (u : ℕ). IsTravelTo (net_of d u) (length d.topology.lans) c f es g x) q
    (subst (λ (b : DomainValue). IsTravelTo (net_of b v) (length b.topology.lans) c f es g x) e goes))

-- the flight after a handling
pub flight-step_in_domain : (d : DomainValue) (w i : ℕ) (j k : FlightInDomain) → j.domain ≡ d → j.flow ≡ w
    → k ≡ with_flight j (step (net_of_flight_in_domain j) i j.flight)
    → (k.domain ≡ d) × (k.flow ≡ w) × (k.flight ≡ step (net_of d w) i j.flight)
flight-step_in_domain d w i j k e q h = (
  ap (λ (x : FlightInDomain). x.domain) h ∙ e,
  ap (λ (x : FlightInDomain). x.flow) h ∙ q,
  ap (λ (x : FlightInDomain). x.flight) h ∙ ap (λ (n : Net). step n i j.flight)
      (net_of-same_arguments j.domain d j.flow w e q),
)

-- and its event
pub event_of-in_domain : (d : DomainValue) (w : ℕ) (j : FlightInDomain) (o : Option Waiting) (x : Event)
    → j.domain ≡ d → j.flow ≡ w → option_map (event_of (net_of_flight_in_domain j)) o ≡ Some x
    → option_map (event_of (net_of d w)) o ≡ Some x
event_of-in_domain d w j o x e q h = subst (λ (n : Net). option_map (event_of n) o ≡ Some x)
    (net_of-same_arguments j.domain d j.flow w e q) h
