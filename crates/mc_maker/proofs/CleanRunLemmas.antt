-- A run without a fault, copy by copy, and the entries of its copies.
use Rattle.std.proofs.Common.{◌≡◌, ◌==◌, ℕ, ◌-◌, ◌+◌, ◌≤◌, ◌<◌, true, false, Bool, List, All, cond, is_some}
use Rattle.std.proofs.Common.{[], ◌∷◌, ◌++◌, drop, get_or, length, map}
use Rattle.std.proofs.Common.{Option, Some, None, refl, ap, ap₂, sym, subst, ◌∙◌, arith, append-nil, slice_get}
use Rattle.std.specs.Prelude.{option_map}
use Rattle.std.proofs.lemmas.List.{drop_more}
use Rattle.std.proofs.lemmas.Option.{get_or_from_slice_get, slice_get-map, slice_get_read, slice_get_within}
use Rattle.std.proofs.Math.Seq.{drop-length}
use Rattle.mc_tables.specs.declared.cache.entry.Oif.{Oif}
use Rattle.mc_theory.specs.Lists.{below}
use Rattle.mc_theory.specs.Nets.{Net, Interface, IsNet}
use Rattle.mc_theory.specs.Nets.Row.{Exact}
use Rattle.mc_theory.specs.Flights.{Copy, Flight, Waiting, handle, hearers, is_sender}
use Rattle.mc_theory.specs.Flights.{source_copy, start, waits_at}
use Rattle.mc_theory.specs.Events.{event_of}
use Rattle.mc_theory.specs.Certificates.{Entry, lans}
use Rattle.mc_theory.specs.CertificateOfCopies.{entries_of, entry_after, need_after, need_over}
use Rattle.mc_theory.specs.CertificateOfCopies.{row_pairs, threshold_of}
use Rattle.mc_theory.specs.Findings.{finding, first_copy_on, first_double, missed, taken_from}
use Rattle.mc_theory.specs.Findings.Finding.{Clean}
use Rattle.mc_theory.specs.Reasons.{entry_at, entry_on}
use Rattle.mc_theory.proofs.CertificateOfRun.{threshold_of-of_member}
use Rattle.mc_theory.proofs.FirstReason.{entry_on-of_member}
use Rattle.mc_theory.proofs.ListLemmas.{in-map, slice_get-in}
use Rattle.mc_theory.proofs.RunInvariant.{map-append'}
use Rattle.mc_theory.proofs.Travels.{first_double-none}
use Rattle.mc_theory.specs.Lists.{Distinct}
use Rattle.mc_forward.specs.Domains.{oif_pairs}
use Rattle.mc_forward.specs.PerLan.{item_on_lan}
use Rattle.mc_forward.proofs.CopiesInDomainLemmas.{all-from_each_member}
use Rattle.mc_forward.proofs.PerLanLemmas.{first_with_key-entry_on}
use Rattle.mc_replay.specs.FindingValues.{HasItemWhereCarried}
use Rattle.mc_replay.specs.Travels.{IsTravelTo, first_choices}
use Rattle.mc_forward.proofs.FirstLemmas.{double-append}
use Rattle.mc_replay.proofs.TravelLemmas.{is_travel_to-cons}
use Rattle.mc_maker.specs.EntriesByLan.{AreEntriesByLan}
use Rattle.mc_maker.specs.CleanRuns.{CopiesSoFar, EntriesSoFar, GoesOnTo, GoesPast, GoesPastInterface}
use Rattle.mc_maker.specs.CleanRuns.{GoesToEnd, GrowsTo, IsCleanRun, Leads}
use Rattle.mc_maker.specs.CleanRuns.{copy_of, flight_at, heard, waiting_at, with_entry}
use Rattle.mc_maker.proofs.FilledLemmas.{entries_after-append}

-- ---- copies by their entries

-- the first copy on a LAN is that of the LAN's first entry
first_copy_on-copies : (es : List Entry) (l : ℕ)
    → first_copy_on (map copy_of es) l ≡ option_map copy_of (entry_on es l)
first_copy_on-copies [] l = refl
first_copy_on-copies (e ∷ es) l = by (e.lan == l) (first_copy_on-copies es l)
  where
    by : (b : Bool) → first_copy_on (map copy_of es) l ≡ option_map copy_of (entry_on es l)
        → cond b (Some (copy_of e)) (first_copy_on (map copy_of es) l)
        ≡ option_map copy_of (cond b (Some e) (entry_on es l))
    by true h = refl
    by false h = h

-- there is one exactly where the LAN has an entry
pub has_item-of_entries : (places : List (Option Entry)) (es : List Entry) → AreEntriesByLan places es
    → HasItemWhereCarried places (map copy_of es)
has_item-of_entries places es held l =
    ap is_some (held l ∙ first_with_key-entry_on es l) ∙ by (entry_on es l)
    ∙ ap is_some (sym (first_copy_on-copies es l))
  where
    by : (o : Option Entry) → is_some o ≡ is_some (option_map copy_of o)
    by None = refl
    by (Some e) = refl

-- the entry of a LAN that has none gives no second copy on a LAN
pub double-none_more : (places : List (Option Entry)) (es : List Entry) (x : Entry)
    → AreEntriesByLan places es → first_double [] (map copy_of es) ≡ None
    → item_on_lan places x.lan ≡ None → first_double [] (map copy_of (es ++ x ∷ [])) ≡ None
double-none_more places es x held none free =
    let first : first_copy_on (map copy_of es) x.lan ≡ None = first_copy_on-copies es x.lan
    ∙ ap (option_map copy_of) (sym (first_with_key-entry_on es x.lan) ∙ sym (held x.lan) ∙ free) in
    ap (first_double []) (map-append' copy_of es (x ∷ []))
    ∙ rw (double-append [] (map copy_of es) (copy_of x ∷ []), none, first) refl

-- the copies are on the LANs of their entries
lans-copies : (es : List Entry) → lans (map copy_of es) ≡ map (λ (e : Entry). e.lan) es
lans-copies [] = refl
lans-copies (e ∷ es) = ap (λ ls. e.lan ∷ ls) (lans-copies es)

-- an entry is the first one of its LAN
pub entry_on-at : (es : List Entry) (k : ℕ) (e : Entry) → first_double [] (map copy_of es) ≡ None
    → slice_get es k ≡ Some e → entry_on es e.lan ≡ Some e
entry_on-at es k e none at = entry_on-of_member es e
    (subst Distinct (lans-copies es) (first_double-none [] (map copy_of es) none).0) (slice_get-in es k e at)

-- an entry that was read stands at its place
pub entry-read : (es now : List Entry) (k : ℕ) (e : Entry) → es ≡ now → k < length now → e ≡ get_or es k e
    → slice_get now k ≡ Some e
entry-read es now k e same within is = subst (λ (xs : List Entry). slice_get xs k ≡ Some e) same
    (slice_get_read es (length now) k e (ap length (sym same)) within is)

-- and its copy has its place
pub copy-at : (es : List Entry) (k : ℕ) (e : Entry) → slice_get es k ≡ Some e
    → slice_get (map copy_of es) k ≡ Some (copy_of e)
copy-at es k e at = slice_get-map copy_of es k ∙ ap (option_map copy_of) at

-- ---- entries

-- the first entry of a LAN stays so
entry_on-push : (es : List Entry) (x : Entry) (l : ℕ) (d : Entry) → entry_on es l ≡ Some d
    → entry_on (es ++ x ∷ []) l ≡ Some d
entry_on-push [] x l d is = absurd cc
entry_on-push (e ∷ es) x l d is = by (e.lan == l) is (entry_on-push es x l d)
  where
    by : (b : Bool) → cond b (Some e) (entry_on es l) ≡ Some d
        → (entry_on es l ≡ Some d → entry_on (es ++ x ∷ []) l ≡ Some d)
        → cond b (Some e) (entry_on (es ++ x ∷ []) l) ≡ Some d
    by true h more = h
    by false h more = more h

-- nothing came
pub grows-here : (n : Net) (far : EntriesSoFar) → GrowsTo n far far
grows-here n far = record { kept = λ l e h. h; entries = λ are. are }

-- some entries came after others
pub grows-then : (n : Net) (a b c : EntriesSoFar) → GrowsTo n a b → GrowsTo n b c → GrowsTo n a c
grows-then n a b c first second = record {
  kept = λ l e h. second.kept l e (first.kept l e h);
  entries = λ are. second.entries (first.entries are);
}

-- one came, with the rank and the need of its copy
pub grows-one_more : (n : Net) (far : EntriesSoFar) (x : Entry) → x.rank ≤ 255
    → x.need ≡ need_after n far.entries x.forwarder → GrowsTo n far (with_entry x far)
grows-one_more n far x rank need = record {
  kept = λ l d h. entry_on-push far.entries x l d h;
  entries = λ are. (
      let cs = map copy_of far.entries in
      let same_rank : 255 - (255 - x.rank) ≡ x.rank = omega (arith, rank) in
      let one : entry_after n far.entries (copy_of x) ≡ x = λ i. record {
        lan = x.lan;
        rank = same_rank i;
        need = sym need i;
        forwarder = x.forwarder;
      } in
      sym (ap (entries_of n) (map-append' copy_of far.entries (x ∷ []))
      ∙ entries_after-append n [] cs (copy_of x ∷ [])
      ∙ ap (λ es. es ++ entry_after n es (copy_of x) ∷ []) (sym are)
      ∙ ap (λ (e : Entry). far.entries ++ e ∷ []) one));
}

-- the need of what a router sends on that takes the flow from an entry's LAN
pub need_after-taken : (n : Net) (es : List Entry) (base : Entry) (router vif threshold : ℕ)
    → taken_from n router (n.row router) ≡ Some base.lan → entry_on es base.lan ≡ Some base
    → threshold_of vif (row_pairs (n.row router)) ≡ threshold
    → need_over threshold (Some base) ≡ need_after n es (Some (router, vif))
need_after-taken n es base router vif threshold taken first over =
    sym (ap₂ need_over over (ap (entry_at es) taken ∙ first))

-- a vif is in one pair of a row, so its threshold is that pair's
pub thresholds-of_row : (n : Net) (router incoming : ℕ) (oifs : List Oif) → IsNet n
    → n.row router ≡ Exact incoming (oif_pairs oifs)
    → All (λ (o : Oif). threshold_of o.vif (row_pairs (n.row router)) ≡ o.threshold) oifs
thresholds-of_row n router incoming oifs net row =
    all-from_each_member (λ (o : Oif). threshold_of o.vif (row_pairs (n.row router)) ≡ o.threshold) oifs
    (λ o h. rw row (threshold_of-of_member o.vif o.threshold (oif_pairs oifs)
    (net.vifs router incoming (oif_pairs oifs) row)
    (in-map (λ (x : Oif). (x.vif, x.threshold)) o oifs h)))

-- ---- steps

-- one step after another
pub leads-then : (n : Net) (some more : Flight → Flight) (a b c : CopiesSoFar) → Leads n some a b
    → Leads n more b c → Leads n (λ f. more (some f)) a c
leads-then n some more a b c first second = record {
  flight = λ handled ws within. ap more (first.flight handled ws within)
      ∙ second.flight handled ws (omega (arith, within, first.more));
  more = omega (arith, first.more, second.more);
  lans = second.lans ∙ first.lans;
}

-- no step at all
pub leads-here : (n : Net) (far : CopiesSoFar) → Leads n (λ f. f) far far
leads-here n far = record { flight = λ handled ws within. refl; more = omega arith; lans = refl }

-- ---- runs

-- no further than here
pub goes_on_to-here : (n : Net) (lans : ℕ) (f g : Flight) → f ≡ g → GoesOnTo n lans f g
goes_on_to-here n lans f g same events last found goes =
    (events, subst (λ (h : Flight). IsTravelTo n lans first_choices h events last found) (sym same) goes)

-- from one flight to the next, and on from there
pub goes_on_to-then : (n : Net) (lans : ℕ) (f g h : Flight) → GoesOnTo n lans f g → GoesOnTo n lans g h
    → GoesOnTo n lans f h
goes_on_to-then n lans f g h first second events last found goes =
    let (more, from) = second events last found goes in
    first more last found from

-- where a copy waits, no LAN carried two and there is no stray, the first copy is handled
goes_on_to-step : (n : Net) (lans : ℕ) (cs : List Copy) (handled : ℕ) (w : Waiting) (ws : List Waiting)
    → first_double [] cs ≡ None
    → GoesOnTo n lans (flight_at n cs handled (w ∷ ws)) (handle n (Some w) (flight_at n cs handled ws))
goes_on_to-step n lans cs handled w ws once events last found goes =
    let f = flight_at n cs handled (w ∷ ws) in
    let none : finding n lans f ≡ None = rw once refl in (
      event_of n w ∷ events,
      is_travel_to-cons n lans first_choices f 0 (event_of n w) events last found none refl refl goes,
    )

-- nothing waits before the others
pub goes_past-nothing : (n : Net) (far : CopiesSoFar) → GoesPast n [] far far
goes_past-nothing n far = record {
  run = λ handled within. goes_on_to-here n far.lans _ _ refl;
  more = omega arith;
  lans = refl;
}

-- the first of those that wait is handled
pub goes_past-handled : (n : Net) (w : Waiting) (ws : List Waiting) (a b c : CopiesSoFar)
    → first_double [] a.copies ≡ None → Leads n (handle n (Some w)) a b → GoesPast n ws b c
    → GoesPast n (w ∷ ws) a c
goes_past-handled n w ws a b c once leads past = record {
  run = λ handled within. (
      let later : GoesOnTo n a.lans (flight_at n b.copies handled ws) (flight_at n c.copies handled []) =
      subst (λ (lans : ℕ). GoesOnTo n lans (flight_at n b.copies handled ws) (flight_at n c.copies handled []))
      leads.lans (past.run handled (omega (arith, within, leads.more))) in
      goes_on_to-then n a.lans (flight_at n a.copies handled (w ∷ ws)) (flight_at n b.copies handled ws)
      (flight_at n c.copies handled [])
      (subst (GoesOnTo n a.lans (flight_at n a.copies handled (w ∷ ws))) (leads.flight handled ws within)
      (goes_on_to-step n a.lans a.copies handled w ws once)) later);
  more = omega (arith, leads.more, past.more);
  lans = past.lans ∙ leads.lans;
}

-- one waits at another interface, and is handled
pub goes_past-hearer : (n : Net) (copy : Copy) (interface : Interface) (old new : CopiesSoFar)
    → is_sender copy.sender interface ≡ false → first_double [] old.copies ≡ None
    → Leads n (handle n (Some (waits_at copy.ttl interface))) old new
    → GoesPastInterface n copy interface old new
goes_past-hearer n copy interface old new other once leads = record {
  run = λ others last past. rw other (goes_past-handled n (waits_at copy.ttl interface)
      (waiting_at copy others) old new last once leads past);
  lans = leads.lans;
}

-- those that were heard of the next copy wait first
pub flight_at-next : (n : Net) (cs : List Copy) (handled : ℕ) (c : Copy) → slice_get cs handled ≡ Some c
    → flight_at n cs handled [] ≡ flight_at n cs (handled + 1) (map (waits_at c.ttl) (hearers n c))
flight_at-next n cs handled c is =
    let within = slice_get_within cs handled c is in
    let parts : drop handled cs ≡ c ∷ drop (handled + 1) cs =
    drop_more cs handled c within
    ∙ ap (λ (x : Copy). x ∷ drop (handled + 1) cs) (get_or_from_slice_get cs handled c c is) in
    λ i. record { carried = cs; waiting = heard n (parts i); strays = [] }

-- one more copy was handled
pub goes_on_to-next : (n : Net) (lans : ℕ) (f : Flight) (c : Copy) (handled : ℕ) (a b : CopiesSoFar)
    → GoesOnTo n lans f (flight_at n a.copies handled []) → slice_get a.copies handled ≡ Some c → a.lans ≡ lans
    → GoesPast n (map (waits_at c.ttl) (hearers n c)) a b
    → GoesOnTo n lans f (flight_at n b.copies (handled + 1) [])
goes_on_to-next n lans f c handled a b before is count past =
    let within = slice_get_within a.copies handled c is in
    goes_on_to-then n lans f (flight_at n a.copies (handled + 1) (map (waits_at c.ttl) (hearers n c)))
    (flight_at n b.copies (handled + 1) [])
    (subst (GoesOnTo n lans f) (flight_at-next n a.copies handled c is) before)
    (subst (λ (m : ℕ). GoesOnTo n m (flight_at n a.copies (handled + 1) (map (waits_at c.ttl) (hearers n c)))
    (flight_at n b.copies (handled + 1) [])) count (past.run (handled + 1) (omega (arith, within))))

-- before a copy was handled
pub flight_at-start : (n : Net) (ttl : ℕ) → start n ttl ≡ flight_at n (source_copy n ttl ∷ []) 0 []
flight_at-start n ttl =
    let own = map (waits_at ttl) (hearers n (source_copy n ttl)) in
    λ i. record { carried = source_copy n ttl ∷ []; waiting = sym (append-nil own) i; strays = [] }

-- where each was handled, no LAN carried two and each that wants the flow carried one, the run is clean
pub is_clean_run-at_end : (n : Net) (ttl : ℕ) (a b : CopiesSoFar) → a.copies ≡ source_copy n ttl ∷ []
    → GoesToEnd n a b → first_double [] b.copies ≡ None → missed n b.copies (below a.lans) ≡ None
    → IsCleanRun n a.lans ttl b.copies
is_clean_run-at_end n ttl a b source goes once none =
    let last = flight_at n b.copies (length b.copies) [] in
    let clean : finding n a.lans last ≡ Some Clean = rw (once, drop-length b.copies, none) refl in
    let (events, run) = goes.run [] last Clean
    (record { picks = []; travel = clean; events = refl; ends = refl }) in
    record {
      events = events;
      last = last;
      run = subst (λ (f : Flight). IsTravelTo n a.lans first_choices f events last Clean)
          (sym (flight_at-start n ttl ∙ ap (λ (cs : List Copy). flight_at n cs 0 []) (sym source))) run;
      carried = refl;
    }
