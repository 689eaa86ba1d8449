-- The LANs that a search visits, step by step.
use Rattle.std.proofs.Common.{◌≡◌, ℕ, zero, suc, ◌+◌, ◌-◌, ◌<◌, ◌≤◌, ◌==◌, ◌||◌, inl, inr, Bool}
use Rattle.std.proofs.Common.{true, false, cond}
use Rattle.std.proofs.Common.{All, get_or, List, [], ◌∷◌, ◌++◌, length, take, drop, flat_map}
use Rattle.std.proofs.Common.{Option, Some, None, is_some}
use Rattle.std.proofs.Common.{refl, ap, sym, subst, ◌∙◌, arith, add-one, append_assoc, append-nil}
use Rattle.std.proofs.Common.{length-append}
use Rattle.std.specs.Prelude.{slice_get, IsSome}
use Rattle.std.specs.List.{list_any}
use Rattle.std.proofs.Math.Seq.{drop-append_seam}
use Rattle.std.proofs.lemmas.Bool.{eq-eqb, false≢true}
use Rattle.std.proofs.lemmas.List.{take_all, take-append-le}
use Rattle.std.proofs.lemmas.Grind.{flat_map-append}
use Rattle.std.proofs.lemmas.Option.{slice_get_within, slice_get_past}
use Rattle.mc_tables.specs.Summary.{SummaryValue}
use Rattle.mc_theory.specs.Lists.{In, Distinct}
use Rattle.mc_theory.specs.Flights.{Copy}
use Rattle.mc_theory.specs.Findings.{first_copy_on}
use Rattle.mc_theory.proofs.ListLemmas.{slice_get-in, in-push_cases}
use Rattle.mc_forward.specs.Domains.{DomainValue}
use Rattle.mc_forward.specs.FlightsInDomain.{FlowOfDomain}
use Rattle.mc_forward.specs.ListedTables.{facts}
use Rattle.mc_forward.specs.PerLan.{item_on_lan, first_with_key, HoldsFirstOfEachKey}
use Rattle.mc_forward.proofs.BelowLemmas.{length-of_distinct_below}
use Rattle.mc_forward.proofs.IndexLemmas.{take-one_more}
use Rattle.mc_forward.proofs.PerLanLemmas.{first_with_key-first_copy_on}
use Rattle.mc_search.specs.declared.search_line.SearchLine.{SearchLine}
use Rattle.mc_search.specs.SearchLine.{Search, append_new, next_lans, lines_of_lan, visited_lans}
use Rattle.mc_search.specs.SearchLine.{visited_after}

-- ---- visited LANs

-- a LAN is visited exactly if there is a first one with its number
list_any-first_by : (lans : List ℕ) (lan : ℕ)
    → list_any (λ m. m == lan) lans ≡ is_some (first_with_key (λ (l : ℕ). l) lans lan)
list_any-first_by [] lan = refl
list_any-first_by (m ∷ lans) lan = by (m == lan) (list_any-first_by lans lan)
  where
    by : (b : Bool) → list_any (λ m. m == lan) lans ≡ is_some (first_with_key (λ (l : ℕ). l) lans lan)
        → (b || list_any (λ m. m == lan) lans)
        ≡ is_some (cond b (Some m) (first_with_key (λ (l : ℕ). l) lans lan))
    by true rest = refl
    by false rest = rest

-- a LAN without a mark isn't visited
pub list_any-from_not_held : (marks : List (Option ℕ)) (lans : List ℕ) (lan : ℕ)
    → HoldsFirstOfEachKey (λ (l : ℕ). l) marks lans → item_on_lan marks lan ≡ None
    → list_any (λ m. m == lan) lans ≡ false
list_any-from_not_held marks lans lan marked none =
    list_any-first_by lans lan ∙ ap is_some (sym (marked lan) ∙ none)

-- a LAN with a mark is visited
pub list_any-from_held : (marks : List (Option ℕ)) (lans : List ℕ) (lan : ℕ)
    → HoldsFirstOfEachKey (λ (l : ℕ). l) marks lans → IsSome (item_on_lan marks lan)
    → list_any (λ m. m == lan) lans ≡ true
list_any-from_held marks lans lan marked some =
    list_any-first_by lans lan ∙ ap is_some (sym (marked lan)) ∙ some

-- a LAN of the list is visited
list_any-from_in : (lans : List ℕ) (lan : ℕ) → In lan lans → list_any (λ m. m == lan) lans ≡ true
list_any-from_in [] lan h = absurd h
list_any-from_in (m ∷ lans) lan (inl e) = ap (λ (b : Bool). b || list_any (λ m. m == lan) lans)
    (eq-eqb m lan e)
list_any-from_in (m ∷ lans) lan (inr h) = by (m == lan) (list_any-from_in lans lan h)
  where
    by : (b : Bool) → list_any (λ m. m == lan) lans ≡ true
        → (b || list_any (λ m. m == lan) lans) ≡ true
    by true rest = refl
    by false rest = rest

-- a LAN with a mark is within the marks
held-within_marks : (marks : List (Option ℕ)) (lan : ℕ) → is_some (item_on_lan marks lan) ≡ true
    → lan < length marks
held-within_marks [] lan some = absurd cc
held-within_marks (m ∷ marks) zero some = omega arith
held-within_marks (m ∷ marks) (suc lan) some = let h = held-within_marks marks lan some in omega (arith, h)

-- so is each visited LAN
pub visited-within_marks : (marks : List (Option ℕ)) (lans : List ℕ) (k lan : ℕ)
    → HoldsFirstOfEachKey (λ (l : ℕ). l) marks lans → slice_get lans k ≡ Some lan → lan < length marks
visited-within_marks marks lans k lan marked at =
    held-within_marks marks lan (ap is_some (marked lan) ∙ sym (list_any-first_by lans lan)
    ∙ list_any-from_in lans lan (slice_get-in lans k lan at))

-- ---- more LANs

-- visited LANs stay in front of new ones
pub append_new-keeps_front : (lans more : List ℕ) → (new : List ℕ) × (append_new lans more ≡ lans ++ new)
append_new-keeps_front lans [] = ([], sym (append-nil lans))
append_new-keeps_front lans (lan ∷ more) =
    by (list_any (λ m. m == lan) lans) (append_new-keeps_front lans more) (append_new-keeps_front (lans
    ++ lan ∷ []) more)
  where
    by : (b : Bool) → ((new : List ℕ) × (append_new lans more ≡ lans ++ new))
        → ((new : List ℕ) × (append_new (lans ++ lan ∷ []) more ≡ (lans ++ lan ∷ []) ++ new))
        → (new : List ℕ) × (append_new (cond b lans (lans ++ lan ∷ [])) more ≡ lans ++ new)
    by true old new = old
    by false old new = (lan ∷ new.0, new.1 ∙ append_assoc lans (lan ∷ []) new.0)

-- the visited LANs after one more step
pub visited-more : (s : Search) (missed k : ℕ)
    → visited_lans s missed (k + 1) ≡ visited_after s (visited_lans s missed k)
    (slice_get (visited_lans s missed k) k)
visited-more s missed k = ap (visited_lans s missed) (add-one k)

-- the lines so far, after one LAN more is searched
pub lines_so_far-more : (s : Search) (missed k lan : ℕ) (lines_so_far now : List SearchLine)
    → slice_get (visited_lans s missed k) k ≡ Some lan
    → lines_so_far ≡ flat_map (lines_of_lan s) (take k (visited_lans s missed k)) → now ≡ lines_so_far
    ++ lines_of_lan s lan
    → now ≡ flat_map (lines_of_lan s) (take (k + 1) (visited_lans s missed (k + 1)))
lines_so_far-more s missed k lan lines_so_far now at before more =
    let lans = visited_lans s missed k in
    let front = append_new-keeps_front lans (next_lans s lan) in
    let next : visited_lans s missed (k + 1) ≡ lans ++ front.0 =
    visited-more s missed k ∙ ap (visited_after s lans) at ∙ front.1 in
    let within = slice_get_within lans k lan at in
    let looked : take (k + 1) (visited_lans s missed (k + 1)) ≡ take k lans ++ lan ∷ [] =
    ap (take (k + 1)) next ∙ take-append-le (k + 1) lans front.0 (omega (arith, within))
    ∙ take-one_more lans k lan at in
    more ∙ ap (λ (xs : List SearchLine). xs ++ lines_of_lan s lan) before
    ∙ ap (λ (xs : List SearchLine). flat_map (lines_of_lan s) (take k lans) ++ xs)
    (sym (append-nil (lines_of_lan s lan)))
    ∙ sym (flat_map-append (lines_of_lan s) (take k lans) (lan ∷ []))
    ∙ ap (flat_map (lines_of_lan s)) (sym looked)

-- nothing changes once all visited LANs are searched
pub lines_so_far-same : (s : Search) (missed k : ℕ) (lines_so_far : List SearchLine)
    → length (visited_lans s missed k) ≤ k
    → lines_so_far ≡ flat_map (lines_of_lan s) (take k (visited_lans s missed k))
    → lines_so_far ≡ flat_map (lines_of_lan s) (take (k + 1) (visited_lans s missed (k + 1)))
lines_so_far-same s missed k lines_so_far all before =
    let lans = visited_lans s missed k in
    let next : visited_lans s missed (k + 1) ≡ lans =
    visited-more s missed k ∙ ap (visited_after s lans) (slice_get_past lans k all) in
    before ∙ ap (flat_map (lines_of_lan s)) (take_all k lans all
    ∙ sym (take_all (k + 1) lans (omega (arith, all))) ∙ ap (take (k + 1)) (sym next))

-- there is no LAN at a place past the end
pub length-from_slice_get_none : (lans : List ℕ) (k : ℕ) → slice_get lans k ≡ None → length lans ≤ k
length-from_slice_get_none [] k none = omega arith
length-from_slice_get_none (m ∷ lans) zero none = absurd cc
length-from_slice_get_none (m ∷ lans) (suc k) none = let h = length-from_slice_get_none lans k none in omega
    (arith, h)

-- ---- each once

-- a LAN that isn't there yet is added
distinct-push : (lans : List ℕ) (lan : ℕ) → Distinct lans → (In lan lans → ⊥)
    → Distinct (lans ++ lan ∷ [])
distinct-push [] lan distinct other = (λ h. h, tt)
distinct-push (m ∷ lans) lan distinct other = (
  λ h. elim (in-push_cases m lans lan h) [
    | inl old ↦ distinct.0 old
    | inr same ↦ other (inl (sym same))
  ],
  distinct-push lans lan distinct.1 (λ h. other (inr h)),
)

-- new LANs are added, each once
distinct-append_new : (lans more : List ℕ) → Distinct lans → Distinct (append_new lans more)
distinct-append_new lans [] distinct = distinct
distinct-append_new lans (lan ∷ more) distinct =
    by (list_any (λ m. m == lan) lans) refl (distinct-append_new lans more distinct)
    (distinct-append_new (lans ++ lan ∷ []) more)
  where
    by : (b : Bool) → list_any (λ m. m == lan) lans ≡ b → Distinct (append_new lans more)
        → (Distinct (lans ++ lan ∷ []) → Distinct (append_new (lans ++ lan ∷ []) more))
        → Distinct (append_new (cond b lans (lans ++ lan ∷ [])) more)
    by true q old new = old
    by false q old new = new (distinct-push lans lan distinct
        (λ h. absurd (false≢true (sym q ∙ list_any-from_in lans lan h))))

-- each LAN is visited once
pub distinct-visited : (s : Search) (missed k : ℕ) → Distinct (visited_lans s missed k)
distinct-visited s missed zero = (λ h. h, tt)
distinct-visited s missed (suc k) = by (slice_get (visited_lans s missed k) k) (distinct-visited s missed k)
  where
    by : (o : Option ℕ) → Distinct (visited_lans s missed k)
        → Distinct (visited_after s (visited_lans s missed k) o)
    by None distinct = distinct
    by (Some lan) distinct = distinct-append_new (visited_lans s missed k) (next_lans s lan) distinct

-- a LAN of the list has a place there
slice_get-from_in : (lans : List ℕ) (lan : ℕ) → In lan lans → (k : ℕ) × (slice_get lans k ≡ Some lan)
slice_get-from_in [] lan h = absurd h
slice_get-from_in (m ∷ lans) lan (inl e) = (0, ap Some e)
slice_get-from_in (m ∷ lans) lan (inr h) = (
  suc (slice_get-from_in lans lan h).0,
  (slice_get-from_in lans lan h).1,
)

-- no more LANs are visited than there are
pub length-visited : (s : Search) (missed k : ℕ) (marks : List (Option ℕ)) (lans : List ℕ)
    → lans ≡ visited_lans s missed k → HoldsFirstOfEachKey (λ (l : ℕ). l) marks lans
    → length (visited_lans s missed k) ≤ length marks
length-visited s missed k marks lans e marked =
    length-of_distinct_below (visited_lans s missed k) (length marks) (distinct-visited s missed k)
    (λ lan h. visited-within_marks marks (visited_lans s missed k)
    (slice_get-from_in (visited_lans s missed k) lan h).0 lan
    (subst (HoldsFirstOfEachKey (λ (l : ℕ). l) marks) e marked) (slice_get-from_in (visited_lans s missed k)
    lan h).1)

-- ---- the lines that were added

-- they are those after the old ones
pub take_drop-added : {A : Type 0} (old now lines : List A) (n : ℕ) → now ≡ old ++ lines → n ≡ length old
    → take (length now - n) (drop n now) ≡ lines
take_drop-added {A} old now lines n more count =
    let size : length now ≡ length old + length lines = ap length more ∙ length-append old lines in
    let rest : drop n now ≡ lines =
    ap (λ (k : ℕ). drop k now) count ∙ ap (drop (length old)) more ∙ drop-append_seam old lines in
    ap (take (length now - n)) rest
    ∙ take_all (length now - n) lines (omega (arith, size, count))

-- ---- what a search reads

-- the first copy on each LAN, by its place
held-all_first_copies : (places : List (Option Copy)) (copies cs : List Copy)
    → HoldsFirstOfEachKey (λ (c : Copy). c.lan) places copies → copies ≡ cs → item_on_lan places
    ≡ first_copy_on cs
held-all_first_copies places copies cs first same =
    let each : (lan : ℕ) → item_on_lan places lan ≡ first_copy_on cs lan = λ lan.
    first lan ∙ first_with_key-first_copy_on copies lan ∙ ap (λ (xs : List Copy). first_copy_on xs lan)
    same in
    λ i lan. each lan i

-- a search by a flow's view is that of the flow in its domain
pub search-of_view : (view : FlowOfDomain) (d : DomainValue) (flow : ℕ) (summary : List SummaryValue)
    (excluded : List Bool) (places : List (Option Copy)) (copies cs : List Copy)
    → view ≡ record { domain = d; flow = flow } → HoldsFirstOfEachKey (λ (c : Copy). c.lan) places copies
    → copies ≡ cs
    → ◌≡◌ {A = Search} (record {
      domain = facts view.domain;
      flow = view.flow;
      summary = summary;
      excluded = excluded;
      first_copy_on = item_on_lan places;
    })
    (record {
      domain = facts d;
      flow = flow;
      summary = summary;
      excluded = excluded;
      first_copy_on =
          first_copy_on cs;
    })
search-of_view view d flow summary excluded places copies cs e first same =
    ap {B = Search} (λ (v : FlowOfDomain). record {
      domain = facts v.domain;
      flow = v.flow;
      summary = summary;
      excluded = excluded;
      first_copy_on = item_on_lan places;
    }) e
    ∙ ap {B = Search} (λ (f : ℕ → Option Copy). record {
      domain = facts d;
      flow = flow;
      summary = summary;
      excluded = excluded;
      first_copy_on = f;
    }) (held-all_first_copies places copies cs first same)

-- a LAN within the list is at its place
slice_get-get_or : (xs : List ℕ) (k d : ℕ) → k < length xs → slice_get xs k ≡ Some (get_or xs k d)
slice_get-get_or [] k d lt = absurd (omega (arith, lt))
slice_get-get_or (x ∷ xs) zero d lt = refl
slice_get-get_or (x ∷ xs) (suc k) d lt = slice_get-get_or xs k d (omega (arith, lt))

-- each visited LAN has a mark
pub visited-all_within_marks : (marks : List (Option ℕ)) (lans found : List ℕ) (n : ℕ) → found ≡ lans
    → length marks ≡ n → HoldsFirstOfEachKey (λ (l : ℕ). l) marks lans → All (λ lan. lan < n) found
visited-all_within_marks marks lans found n same count marked k d lt =
    subst (λ (m : ℕ). get_or found k d < m) count
    (visited-within_marks marks found k (get_or found k d)
    (subst (HoldsFirstOfEachKey (λ (l : ℕ). l) marks) (sym same) marked) (slice_get-get_or found k d lt))
