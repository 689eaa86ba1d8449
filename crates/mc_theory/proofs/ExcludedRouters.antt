-- A run without the excluded routers is one of the whole net, in which the copies that wait at them
-- stay where they are.
use Rattle.std.proofs.Common.{◌≡◌, ℕ, zero, suc, ◌-◌, ◌<◌, ◌≤◌, Bool, true, false, cond, not, ◌&&◌}
use Rattle.std.proofs.Common.{nat_lt, ◌==◌, List, [], ◌∷◌, ◌++◌, map, filter, length, remove}
use Rattle.std.proofs.Common.{slice_get, Option, Some, None, refl, ap, ap₂, sym, ◌∙◌, subst, arith}
use Rattle.std.proofs.lemmas.List.Elements.{filter-append}
use Rattle.mc_theory.specs.Lists.{Distinct, below}
use Rattle.mc_theory.specs.Nets.{Net, Row, Interface, is_lan, router_vif_pairs, interfaces}
use Rattle.mc_theory.specs.Nets.Row.{Exact, Open, NoRow}
use Rattle.mc_theory.specs.Flights.{Copy, Waiting, Flight, is_sender, hearers, waits_at, put, stray}
use Rattle.mc_theory.specs.Flights.{leave, send, sends, handle_by_row, handle, without_waiting, step}
use Rattle.mc_theory.specs.Flights.{source_copy, start, Pick, run, InRange}
use Rattle.mc_theory.specs.Flights.{IsLossless}
use Rattle.mc_theory.specs.Flights.Pick.{Handles, Loses}
use Rattle.mc_theory.specs.Certificates.{lans, IsClean, IsRight}
use Rattle.mc_theory.specs.Findings.{Finding, missed_finding, missed, end_finding, IsTravel, handles}
use Rattle.mc_theory.specs.ExcludedRouters.{ExcludesRouters, HasSameCopiesAndStrays, IsSecondCopyOrStray}
use Rattle.mc_theory.proofs.ListLemmas.{in-filter_cases, slice_get-in}
use Rattle.mc_theory.proofs.StepInvariant.{slice_get-none}
use Rattle.mc_theory.proofs.Travels.{finding-of_clean_flight, finding-at_travel_end, in_range-travel}

-- ---- lists of which some elements are kept

filter-map_step : {A B : Type 0} (f : A → B) (x : A) (b : Bool) (xs : List A) (ys : List B) →
    ys ≡ map f xs → cond b (f x ∷ ys) ys ≡ map f (cond b (x ∷ xs) xs)
filter-map_step f x true xs ys e = ap (λ bs. f x ∷ bs) e
filter-map_step f x false xs ys e = e

filter-map : {A B : Type 0} (p : B → Bool) (f : A → B) (xs : List A) →
    filter p (map f xs) ≡ map f (filter (λ x. p (f x)) xs)
filter-map p f [] = refl
filter-map p f (x ∷ xs) = filter-map_step f x (p (f x)) (filter (λ x. p (f x)) xs)
    (filter p (map f xs)) (filter-map p f xs)

-- a test that is a part of another one
filter_filter-merge_step : {A : Type 0} (k s b : A → Bool) (x : A) (xs ys : List A) (kept sent on : Bool) →
    k x ≡ kept → s x ≡ sent → b x ≡ on → filter s xs ≡ filter k (filter s ys) →
    filter s (cond (kept && on) (x ∷ xs) xs) ≡ filter k (filter s (cond on (x ∷ ys) ys))
filter_filter-merge_step k s b x xs ys kept sent false ek es eb ih = by k s x xs ys kept ih
  where
    by : {A : Type 0} (k s : A → Bool) (x : A) (xs ys : List A) (kept : Bool) →
        filter s xs ≡ filter k (filter s ys) →
        filter s (cond (kept && false) (x ∷ xs) xs) ≡ filter k (filter s ys)
    by k s x xs ys true ih = ih
    by k s x xs ys false ih = ih
filter_filter-merge_step k s b x xs ys true true true ek es eb ih =
    rw (es, ek) (ap (λ zs. x ∷ zs) ih)
filter_filter-merge_step k s b x xs ys true false true ek es eb ih = rw es ih
filter_filter-merge_step k s b x xs ys false true true ek es eb ih = rw (es, ek) ih
filter_filter-merge_step k s b x xs ys false false true ek es eb ih = rw es ih

filter_filter-merge : {A : Type 0} (k s a b : A → Bool) (xs : List A) → ((x : A) → a x ≡ (k x && b x)) →
    filter s (filter a xs) ≡ filter k (filter s (filter b xs))
filter_filter-merge k s a b [] h = refl
filter_filter-merge k s a b (x ∷ xs) h = subst (λ t. filter s (cond t (x ∷ filter a xs) (filter a xs)) ≡
    filter k (filter s (cond (b x) (x ∷ filter b xs) (filter b xs)))) (sym (h x))
    (filter_filter-merge_step k s b x (filter a xs) (filter b xs) (k x) (s x) (b x) refl refl refl
    (filter_filter-merge k s a b xs h))

-- the place in the whole list of the i-th element that is kept
record IndexInWholeList {A : Type 0} (p : A → Bool) (xs : List A) (i : ℕ) : Type 0 where
  pub place : ℕ
  pub in_range : place < length xs
  pub found : slice_get xs place ≡ slice_get (filter p xs) i
  pub left : filter p (remove xs place) ≡ remove (filter p xs) i

index_in_whole-skip : {A : Type 0} (p : A → Bool) (x : A) (xs : List A) (i : ℕ) → p x ≡ false →
    IndexInWholeList p xs i → IndexInWholeList p (x ∷ xs) i
index_in_whole-skip p x xs i e r = record {
  place = suc r.place;
  in_range = (let h = r.in_range in omega arith);
  found = rw e r.found;
  left = rw e r.left;
}

index_in_whole-next : {A : Type 0} (p : A → Bool) (x : A) (xs : List A) (i : ℕ) → p x ≡ true →
    IndexInWholeList p xs i → IndexInWholeList p (x ∷ xs) (suc i)
index_in_whole-next p x xs i e r = record {
  place = suc r.place;
  in_range = (let h = r.in_range in omega arith);
  found = rw e r.found;
  left = rw e (ap (λ zs. x ∷ zs) r.left);
}

index_in_whole-exists_step : {A : Type 0} (p : A → Bool) (x : A) (xs : List A) (i : ℕ) (b : Bool) → p x ≡ b →
    i < length (cond b (x ∷ filter p xs) (filter p xs)) →
    ((k : ℕ) → k < length (filter p xs) → IndexInWholeList p xs k) → IndexInWholeList p (x ∷ xs) i
index_in_whole-exists_step p x xs i false e lt ih = index_in_whole-skip p x xs i e (ih i lt)
index_in_whole-exists_step p x xs zero true e lt ih = record {
  place = zero;
  in_range = omega arith;
  found = rw e refl;
  left = rw e refl;
}
index_in_whole-exists_step p x xs (suc i) true e lt ih = index_in_whole-next p x xs i e (ih i (omega arith))

index_in_whole-exists : {A : Type 0} (p : A → Bool) (xs : List A) (i : ℕ) → i < length (filter p xs) →
    IndexInWholeList p xs i
index_in_whole-exists p [] i lt = absurd (omega arith)
index_in_whole-exists p (x ∷ xs) i lt =
    index_in_whole-exists_step p x xs i (p x) refl lt (index_in_whole-exists p xs)

-- ---- corresponding flights: the part's, and the whole's

abbrev is_at_included_router : (ℕ → Bool) → Waiting → Bool
is_at_included_router excluded w = not (excluded w.router)

record Correspond (excluded : ℕ → Bool) (f g : Flight) : Type 0 where
  pub carried : g.carried ≡ f.carried
  pub strays : g.strays ≡ f.strays
  pub waiting : f.waiting ≡ filter (is_at_included_router excluded) g.waiting

is_lan-without_excluded : (excluded : ℕ → Bool) (n m : Net) (i : Interface) (l : ℕ) (b : Bool) →
    ExcludesRouters excluded n m → excluded i.0 ≡ b →
    is_lan (n.placed i.0 i.1) l ≡ (not b && is_lan (m.placed i.0 i.1) l)
is_lan-without_excluded excluded n m i l true leaves e = ap (λ o. is_lan o l) (leaves.nothing i.0 i.1 e)
is_lan-without_excluded excluded n m i l false leaves e = ap (λ o. is_lan o l) (leaves.placed i.0 i.1 e)

hearers-without_excluded : (excluded : ℕ → Bool) (n m : Net) (c : Copy) → ExcludesRouters excluded n m →
    hearers n c ≡ filter (λ i. not (excluded i.0)) (hearers m c)
unfolding interfaces
hearers-without_excluded excluded n m c leaves =
    let S : Interface → Bool = λ i. not (is_sender c.sender i) in
    let K : Interface → Bool = λ i. not (excluded i.0) in
    let A : Interface → Bool = λ i. is_lan (n.placed i.0 i.1) c.lan in
    let B : Interface → Bool = λ i. is_lan (m.placed i.0 i.1) c.lan in
    filter_filter-merge K S A B
    (router_vif_pairs 32 n.routers) (λ i. is_lan-without_excluded excluded n m i c.lan
    (excluded i.0) leaves
    refl) ∙ ap (λ k. filter K (filter S (filter B (router_vif_pairs 32 k)))) leaves.routers

put-correspond : (excluded : ℕ → Bool) (n m : Net) (c : Copy) (f g : Flight) →
    ExcludesRouters excluded n m → Correspond excluded f g →
    Correspond excluded (put n c f) (put m c g)
put-correspond excluded n m c f g leaves v = record {
  carried = ap (λ cs. cs ++ c ∷ []) v.carried;
  strays = v.strays;
  waiting = ap₂ (λ us ws. us ++ ws) v.waiting
      (ap (map (waits_at c.ttl)) (hearers-without_excluded excluded n m
      c leaves) ∙ sym (filter-map (is_at_included_router excluded) (waits_at c.ttl) (hearers m c))) ∙
      sym (filter-append (is_at_included_router excluded) g.waiting (map (waits_at c.ttl) (hearers m c)));
}

stray-correspond : (excluded : ℕ → Bool) (i : Interface) (f g : Flight) → Correspond excluded f g →
    Correspond excluded (stray i f) (stray i g)
stray-correspond excluded i f g v = record {
  carried = v.carried;
  strays = ap (λ is. is ++ i ∷ []) v.strays;
  waiting = v.waiting;
}

leave-correspond : (excluded : ℕ → Bool) (n m : Net) (t : ℕ) (i : Interface) (o : Option ℕ)
    (f g : Flight) → ExcludesRouters excluded n m → Correspond excluded f g →
    Correspond excluded (leave n t i o f) (leave m t i o g)
leave-correspond excluded n m t i None f g leaves v = stray-correspond excluded i f g v
leave-correspond excluded n m t i (Some l) f g leaves v = put-correspond excluded n m
    (record { lan = l; ttl = t; sender = Some i }) f g leaves v

cond-correspond : (excluded : ℕ → Bool) (b : Bool) (f g f' g' : Flight) → Correspond excluded f g →
    Correspond excluded f' g' → Correspond excluded (cond b f f') (cond b g g')
cond-correspond excluded true f g f' g' v w = v
cond-correspond excluded false f g f' g' v w = w

send-correspond : (excluded : ℕ → Bool) (n m : Net) (r t : ℕ) (p : ℕ × ℕ) (f g : Flight) →
    ExcludesRouters excluded n m → excluded r ≡ false → Correspond excluded f g →
    Correspond excluded (send n r t p f) (send m r t p g)
send-correspond excluded n m r t p f g leaves known v = cond-correspond excluded (nat_lt p.1 t)
    (leave n (t - 1) (r, p.0) (n.placed r p.0) f) (leave m (t - 1) (r, p.0) (m.placed r p.0) g) f g
    (subst (λ o. Correspond excluded (leave n (t - 1) (r, p.0) (n.placed r p.0) f)
    (leave m (t - 1) (r, p.0) o g)) (leaves.placed r p.0 known)
    (leave-correspond excluded n m (t - 1) (r, p.0) (n.placed r p.0) f g leaves v)) v

sends-correspond : (excluded : ℕ → Bool) (n m : Net) (r t : ℕ) (ps : List (ℕ × ℕ)) (f g : Flight) →
    ExcludesRouters excluded n m → excluded r ≡ false → Correspond excluded f g →
    Correspond excluded (sends n r t ps f) (sends m r t ps g)
sends-correspond excluded n m r t [] f g leaves known v = v
sends-correspond excluded n m r t (p ∷ ps) f g leaves known v = sends-correspond excluded n m r t ps
    (send n r t p f) (send m r t p g) leaves known
    (send-correspond excluded n m r t p f g leaves known v)

row-correspond : (excluded : ℕ → Bool) (n m : Net) (w : Waiting) (row : Row) (f g : Flight) →
    ExcludesRouters excluded n m → excluded w.router ≡ false → Correspond excluded f g →
    Correspond excluded (handle_by_row n w row f) (handle_by_row m w row g)
row-correspond excluded n m w Open f g leaves known v = stray-correspond excluded (w.router, w.vif) f
    g v
row-correspond excluded n m w NoRow f g leaves known v = v
row-correspond excluded n m w (Exact incoming pairs) f g leaves known v = cond-correspond excluded
    (incoming == w.vif) (sends n w.router w.ttl pairs f) (sends m w.router w.ttl pairs g) f g
    (sends-correspond excluded n m w.router w.ttl pairs f g leaves known v) v

handle-correspond : (excluded : ℕ → Bool) (n m : Net) (w : Waiting) (f g : Flight) →
    ExcludesRouters excluded n m → excluded w.router ≡ false → Correspond excluded f g →
    Correspond excluded (handle n (Some w) f) (handle m (Some w) g)
handle-correspond excluded n m w f g leaves known v =
    subst (λ row. Correspond excluded (handle_by_row n w (n.row w.router) f) (handle_by_row m w row g))
    (leaves.row w.router known)
    (row-correspond excluded n m w (n.row w.router) f g leaves known v)

-- ---- what happens to a copy of the part happens to it in the whole

without-correspond : (excluded : ℕ → Bool) (f g : Flight) (i : ℕ) → Correspond excluded f g →
    (s : IndexInWholeList (is_at_included_router excluded) g.waiting i) →
    Correspond excluded (without_waiting i f) (without_waiting s.place g)
without-correspond excluded f g i v s = record {
  carried = v.carried;
  strays = v.strays;
  waiting = ap (λ ws. remove ws i) v.waiting ∙ sym s.left;
}

not-true : (b : Bool) → not b ≡ true → b ≡ false
not-true true e = absurd cc
not-true false e = refl

step-correspond : (excluded : ℕ → Bool) (n m : Net) (f g : Flight) (i : ℕ) (o : Option Waiting) →
    ExcludesRouters excluded n m → i < length f.waiting → Correspond excluded f g →
    (s : IndexInWholeList (is_at_included_router excluded) g.waiting i) → slice_get f.waiting i ≡ o →
    Correspond excluded (step n i f) (step m s.place g)
step-correspond excluded n m f g i None leaves lt v s e = absurd (slice_get-none f.waiting i lt e)
step-correspond excluded n m f g i (Some w) leaves lt v s e =
    let there : slice_get (filter (is_at_included_router excluded) g.waiting) i ≡ Some w =
    ap (λ ws. slice_get ws i) (sym v.waiting) ∙ e in
    let kept = in-filter_cases (is_at_included_router excluded) w g.waiting (slice_get-in
    (filter (is_at_included_router excluded) g.waiting) i w there) in
    let h = handle-correspond excluded n m w (without_waiting i f) (without_waiting s.place g) leaves
    (not-true (excluded w.router) kept.1) (without-correspond excluded f g i v s) in
    subst (λ o. Correspond excluded (handle n o (without_waiting i f)) (handle m (slice_get g.waiting s.place)
    (without_waiting s.place g))) (sym e)
    (subst (λ o. Correspond excluded (handle n (Some w) (without_waiting i f))
    (handle m o (without_waiting s.place g))) (sym (s.found ∙ there)) h)

-- the whole's picks that correspond to the part's
record HasCorrespondingPicks (excluded : ℕ → Bool) (n m : Net) (ps : List Pick) (f g : Flight) : Type 0
  where
    pub picks : List Pick
    pub in_range : InRange m picks g
    pub flights : Correspond excluded (run n ps f) (run m picks g)
    pub lossless : IsLossless ps → IsLossless picks

in_range-of_included : (excluded : ℕ → Bool) (f g : Flight) (i : ℕ) → Correspond excluded f g →
    i < length f.waiting → i < length (filter (is_at_included_router excluded) g.waiting)
in_range-of_included excluded f g i v lt = subst (λ ws. i < length ws) v.waiting lt

run-correspond : (excluded : ℕ → Bool) (n m : Net) (ps : List Pick) (f g : Flight) →
    ExcludesRouters excluded n m → InRange n ps f → Correspond excluded f g →
    HasCorrespondingPicks excluded n m ps f g
run-correspond excluded n m [] f g leaves range v = record {
  picks = [];
  in_range = tt;
  flights = v;
  lossless = λ h. h;
}
run-correspond excluded n m (Handles i ∷ ps) f g leaves range v =
    let s = index_in_whole-exists (is_at_included_router excluded) g.waiting i
    (in_range-of_included excluded f g i v range.0) in
    let a = step-correspond excluded n m f g i (slice_get f.waiting i) leaves range.0 v s refl in
    let r = run-correspond excluded n m ps (step n i f) (step m s.place g) leaves range.1 a in
    record {
      picks = Handles s.place ∷ r.picks;
      in_range = (s.in_range, r.in_range);
      flights = r.flights;
      lossless = r.lossless;
    }
run-correspond excluded n m (Loses i ∷ ps) f g leaves range v =
    let s = index_in_whole-exists (is_at_included_router excluded) g.waiting i
    (in_range-of_included excluded f g i v range.0) in
    let a = without-correspond excluded f g i v s in
    let r = run-correspond excluded n m ps (without_waiting i f) (without_waiting s.place g) leaves
    range.1 a in
    record {
      picks = Loses s.place ∷ r.picks;
      in_range = (s.in_range, r.in_range);
      flights = r.flights;
      lossless = λ h. absurd h;
    }

start-correspond : (excluded : ℕ → Bool) (n m : Net) (t : ℕ) → ExcludesRouters excluded n m →
    Correspond excluded (start n t) (start m t)
start-correspond excluded n m t leaves =
    let none : Flight = record { carried = []; waiting = []; strays = [] } in
    subst (λ l. Correspond excluded (start n t) (put m
    (record { lan = l; ttl = t; sender = None }) none)) leaves.source
    (put-correspond excluded n m (source_copy n t) none none leaves
    (record { carried = refl; strays = refl; waiting = refl }))

pub same_copies_and_strays-in_whole_net : (excluded : ℕ → Bool) (part whole : Net) (t : ℕ) (ps : List Pick) →
    ExcludesRouters excluded part whole → InRange part ps (start part t) →
    HasSameCopiesAndStrays part whole t ps
same_copies_and_strays-in_whole_net excluded part whole t ps leaves range =
    let r = run-correspond excluded part whole ps (start part t) (start whole t) leaves range
    (start-correspond excluded part whole t leaves) in
    record {
      picks = r.picks;
      in_range = r.in_range;
      carried = r.flights.carried;
      strays = r.flights.strays;
      lossless = r.lossless;
    }

-- ---- faults of the part are faults of the whole

pub not_right-from_unclean_run : (excluded : ℕ → Bool) (part whole : Net) (t : ℕ) (ps : List Pick) →
    ExcludesRouters excluded part whole → part.ttl ≤ t → t ≤ 255 → InRange part ps (start part t) →
    (IsClean (run part ps (start part t)) → ⊥) → IsRight whole → ⊥
not_right-from_unclean_run excluded part whole t ps leaves low high range unclean right =
    let r = same_copies_and_strays-in_whole_net excluded part whole t ps leaves range in
    let clean = (right t r.picks (subst (λ k. k ≤ t) leaves.ttl low) high r.in_range).clean in
    unclean (record {
      once = subst (λ cs. Distinct (lans cs)) r.carried clean.once;
      none_stray = sym r.strays ∙ clean.none_stray;
    })

missed_finding-not_unclean : (o : Option ℕ) (x : Finding) → missed_finding o ≡ x → IsSecondCopyOrStray x → ⊥
missed_finding-not_unclean None x e h = subst IsSecondCopyOrStray (sym e) h
missed_finding-not_unclean (Some l) x e h = subst IsSecondCopyOrStray (sym e) h

end_finding-not_unclean : (n : Net) (count : ℕ) (cs : List Copy) (ws : List Waiting) (x : Finding) →
    end_finding n count cs ws ≡ Some x → IsSecondCopyOrStray x → ⊥
end_finding-not_unclean n count cs [] x e h =
    let same : missed_finding (missed n cs (below count)) ≡ x = cc in
    missed_finding-not_unclean (missed n cs (below count)) x same h
end_finding-not_unclean n count cs (w ∷ ws) x e h = absurd cc

pub not_right-from_unclean_travel : (excluded : ℕ → Bool) (part whole : Net) (count t : ℕ) (numbers : List ℕ)
    (last : Bool) (is : List ℕ) (x : Finding) → ExcludesRouters excluded part whole → part.ttl ≤ t →
    t ≤ 255 → IsTravel part count numbers last is (start part t) x → IsSecondCopyOrStray x →
    IsRight whole → ⊥
not_right-from_unclean_travel excluded part whole count t numbers last is x leaves low high travel
    unclean right =
    let f = run part (handles is) (start part t) in
    not_right-from_unclean_run excluded part whole t (handles is) leaves low high
    (in_range-travel part count numbers last is (start part t) x travel)
    (λ clean. end_finding-not_unclean part count f.carried f.waiting x
    (sym (finding-of_clean_flight part count f clean) ∙
    finding-at_travel_end part count numbers last is (start part t) x travel) unclean) right
