-- The held entries, in the order of their places.
use Rattle.std.proofs.Common.{◌≡◌, ℕ, zero, suc, ◌+◌, ◌<◌, ◌≤◌, inl, inr, Bool, true, false, cond}
use Rattle.std.proofs.Common.{◌==◌, List, [], ◌∷◌, map, slice_index, Option, Some, None}
use Rattle.std.proofs.Common.{refl, ap, sym, subst, ◌∙◌, arith}
use Rattle.std.specs.List.Sorted.{IsStrictlyIncreasing}
use Rattle.std.proofs.lemmas.Bool.{eqb-true}
use Rattle.mc_theory.specs.Lists.{In, Distinct}
use Rattle.mc_theory.specs.Certificates.{Entry, IsReordering}
use Rattle.mc_theory.specs.Reasons.{entry_on}
use Rattle.mc_theory.proofs.ListLemmas.{in-map_cases}
use Rattle.mc_theory.proofs.FirstReason.{entry_on-of_member}
use Rattle.mc_forward.proofs.DomainLemmas.{distinct-from_increasing}
use Rattle.mc_forward.specs.PerLan.{item_on_lan}
use Rattle.mc_forward.proofs.PerLanLemmas.{first_with_key-entry_on}
use Rattle.mc_maker.specs.EntriesByLan.{AreEntriesByLan, held_entries}

-- what is found on a LAN is an entry of it
pub in-entry_on : (es : List Entry) (l : ℕ) (e : Entry) → entry_on es l ≡ Some e
    → In e es × (e.lan ≡ l)
in-entry_on [] l e h = absurd cc
in-entry_on (x ∷ es) l e h = by (x.lan == l) refl h (in-entry_on es l e)
  where
    by : (b : Bool) → (x.lan == l) ≡ b → cond b (Some x) (entry_on es l) ≡ Some e
        → (entry_on es l ≡ Some e → In e es × (e.lan ≡ l)) → In e (x ∷ es) × (e.lan ≡ l)
    by true q h rest = let same : x ≡ e = cc in (
      inl same,
      ap (λ (y : Entry). y.lan) (sym same)
          ∙ eqb-true x.lan l q,
    )
    by false q h rest = (inr (rest h).0, (rest h).1)

-- what a place holds is a held entry
in-held_entries : (places : List (Option Entry)) (l : ℕ) (e : Entry) → item_on_lan places l ≡ Some e
    → In e (held_entries places)
in-held_entries [] l e h = absurd cc
in-held_entries (None ∷ places) zero e h = absurd cc
in-held_entries (Some x ∷ places) zero e h = inl cc
in-held_entries (None ∷ places) (suc l) e h = in-held_entries places l e h
in-held_entries (Some x ∷ places) (suc l) e h = inr (in-held_entries places l e h)

-- and each held entry is at some place
item_on_lan-held_entry : (places : List (Option Entry)) (e : Entry) → In e (held_entries places)
    → (l : ℕ) × (item_on_lan places l ≡ Some e)
item_on_lan-held_entry [] e h = absurd h
item_on_lan-held_entry (None ∷ places) e h = let r = item_on_lan-held_entry places e h in (suc r.0, r.1)
item_on_lan-held_entry (Some x ∷ places) e (inl q) = (0, ap Some q)
item_on_lan-held_entry (Some x ∷ places) e (inr h) = let r = item_on_lan-held_entry places e h
    in (suc r.0, r.1)

-- ---- ascending

-- a number below all others in front of an increasing list
strictly_increasing-cons : (x : ℕ) (xs : List ℕ) → ((y : ℕ) → In y xs → x < y) → IsStrictlyIncreasing xs
    → IsStrictlyIncreasing (x ∷ xs)
strictly_increasing-cons x [] above rest i lt = absurd (omega (arith, lt))
strictly_increasing-cons x (y ∷ xs) above rest zero lt = above y (inl refl)
strictly_increasing-cons x (y ∷ xs) above rest (suc i) lt =
    let e : suc (i + 1) ≡ suc i + 1 = omega arith in
    let k : slice_index (y ∷ xs) i < slice_index (y ∷ xs) (i + 1) = rest i (omega (arith, lt)) in
    subst (λ (j : ℕ). slice_index (y ∷ xs) i < slice_index (x ∷ y ∷ xs) j) e k

-- places that hold entries of the LANs from k on
abbrev pub HoldsLansFrom : ℕ → List (Option Entry) → Type 0
HoldsLansFrom k places = (l : ℕ) (e : Entry) → item_on_lan places l ≡ Some e → e.lan ≡ k + l

-- without its first place the list holds LANs from the next number on
holds_lans_from-drop_one : (k : ℕ) (o : Option Entry) (places : List (Option Entry))
    → HoldsLansFrom k (o ∷ places)
    → HoldsLansFrom (suc k) places
holds_lans_from-drop_one k o places at l e h = let q : e.lan ≡ k + suc l = at (suc l) e h in omega (arith, q)

-- the LANs of the held entries are numbered from the first place's number on
held_entries-at_least_first : (k : ℕ) (places : List (Option Entry)) (l : ℕ) → HoldsLansFrom k places
    → In l (map (λ (e : Entry). e.lan) (held_entries places)) → k ≤ l
held_entries-at_least_first k places l at h =
    let e = in-map_cases (λ (e : Entry). e.lan) l (held_entries places) h in
    let place = item_on_lan-held_entry places e.0 e.1 in
    let q : e.0.lan ≡ k + place.0 = at place.0 e.0 place.1 in
    let r : e.0.lan ≡ l = e.2 in
    omega (arith, q, r)

-- so they ascend
ascending-holds_lans_from : (k : ℕ) (places : List (Option Entry)) → HoldsLansFrom k places
    → IsStrictlyIncreasing (map (λ (e : Entry). e.lan) (held_entries places))
ascending-holds_lans_from k [] at = λ i lt. absurd (omega (arith, lt))
ascending-holds_lans_from k (None ∷ places) at = ascending-holds_lans_from (suc k) places
    (holds_lans_from-drop_one k None places at)
ascending-holds_lans_from k (Some x ∷ places) at =
    let rest : HoldsLansFrom (suc k) places = holds_lans_from-drop_one k (Some x) places at in
    let first : x.lan ≡ k + 0 = at 0 x refl in
    strictly_increasing-cons x.lan (map (λ (e : Entry). e.lan) (held_entries places))
    (λ y h. let le = held_entries-at_least_first (suc k) places y rest h in omega (arith, le, first))
    (ascending-holds_lans_from (suc k) places rest)

-- ---- the entries by the numbers of their LANs

-- the entries that are held by their LANs begin at LAN 0
holds_lans_from-zero : (by_lan : List (Option Entry)) (es : List Entry) → AreEntriesByLan by_lan es
    → HoldsLansFrom 0 by_lan
holds_lans_from-zero by_lan es is l e h = let q : e.lan ≡ l =
    (in-entry_on es l e (sym (is l ∙ first_with_key-entry_on es l) ∙ h)).1 in omega (arith, q)

-- the held entries ascend by the numbers of their LANs
pub ascending-held_entries : (by_lan : List (Option Entry)) (es : List Entry) → AreEntriesByLan by_lan es
    → IsStrictlyIncreasing (map (λ (e : Entry). e.lan) (held_entries by_lan))
ascending-held_entries by_lan es is = ascending-holds_lans_from 0 by_lan (holds_lans_from-zero by_lan es is)

-- where each LAN has one entry, they are the entries in another order
pub is_reordering-entries_by_lan : (by_lan : List (Option Entry)) (es : List Entry)
    → AreEntriesByLan by_lan es
    → Distinct (map (λ (e : Entry). e.lan) es) → IsReordering es (held_entries by_lan)
is_reordering-entries_by_lan by_lan es is once = record {
  one_entry = distinct-from_increasing (map (λ (e : Entry). e.lan) (held_entries by_lan))
      (ascending-held_entries by_lan es is);
  to = λ e h. in-held_entries by_lan e.lan e (is e.lan ∙ first_with_key-entry_on es e.lan
      ∙ entry_on-of_member es e once h);
  from = λ e h. (let place =
      item_on_lan-held_entry by_lan e h in (in-entry_on es place.0 e
      (sym (is place.0 ∙ first_with_key-entry_on es place.0) ∙ place.1)).0);
}
