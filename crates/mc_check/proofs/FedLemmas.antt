-- The LANs that are marked as fed while the routers are checked.
use Rattle.std.proofs.Common.{◌≡◌, ℕ, zero, suc, ◌<◌, ◌==◌, inl, inr, Bool, true, false, cond, not}
use Rattle.std.proofs.Common.{◌&&◌, ◌||◌, List, [], ◌∷◌, ◌++◌, length, get_or, Option, Some, None, is_some}
use Rattle.std.proofs.Common.{refl, sym, ap, ◌∙◌, arith, All}
use Rattle.std.specs.Prelude.{slice_set}
use Rattle.std.proofs.lemmas.Bool.{cases_lt, eqb-true, eq-eqb}
use Rattle.std.proofs.lemmas.List.{append_assoc, get_or-set_other}
use Rattle.mc_theory.specs.Nets.{Net, is_lan}
use Rattle.mc_theory.specs.Flights.{is_sender}
use Rattle.mc_theory.specs.Certificates.{Entry, is_live}
use Rattle.mc_theory.specs.Reasons.{Reason, ◌then◌, unless, first_of, entry_on, twice, child_reason}
use Rattle.mc_theory.specs.Reasons.{feeds_from, is_fed, row_feeds}
use Rattle.mc_theory.specs.Reasons.Reason.{Unfed}
use Rattle.mc_theory.proofs.RunInvariant.{is_sender-true}
use Rattle.mc_tables.specs.declared.cache.entry.Oif.{Oif}
use Rattle.mc_forward.specs.Domains.{oif_pairs}
use Rattle.mc_check.specs.FedLans.{AreFed, NeedsNoFeedOrIsMarked}

-- ---- the first of several

-- where no reason is left, the test of the first one passed,
unless_then-passed : (b : Bool) (r : Reason) (o : Option Reason) → (unless b r then o) ≡ None → b ≡ true
unless_then-passed true r o none = refl
unless_then-passed false r o none = absurd cc

-- and the others are none
unless_then-rest : (b : Bool) (r : Reason) (o : Option Reason) → (unless b r then o) ≡ None → o ≡ None
unless_then-rest true r o none = none
unless_then-rest false r o none = absurd cc

-- ---- entries by their LANs

-- an entry that is found by a LAN is of that LAN
entry_on-names : (es : List Entry) (l : ℕ) (d : Entry) → entry_on es l ≡ Some d → d.lan ≡ l
entry_on-names [] l d is = absurd cc
entry_on-names (e ∷ es) l d is = by (e.lan == l) refl is (entry_on-names es l d)
  where
    by : (b : Bool) → (e.lan == l) ≡ b → cond b (Some e) (entry_on es l) ≡ Some d
        → (entry_on es l ≡ Some d → d.lan ≡ l) → d.lan ≡ l
    by true same found others = (let this : e ≡ d = cc in
        ap (λ (x : Entry). x.lan) (sym this) ∙ eqb-true e.lan l same)
    by false same found others = others found

-- entries of other LANs in front aren't found
entry_on-append_others : (es xs : List Entry) (l : ℕ) → is_some (entry_on es l) ≡ false
    → entry_on (es ++ xs) l ≡ entry_on xs l
entry_on-append_others [] xs l none = refl
entry_on-append_others (e ∷ es) xs l none = by (e.lan == l) none (entry_on-append_others es xs l)
  where
    by : (b : Bool) → is_some (cond b (Some e) (entry_on es l)) ≡ false
        → (is_some (entry_on es l) ≡ false → entry_on (es ++ xs) l ≡ entry_on xs l)
        → cond b (Some e) (entry_on (es ++ xs) l) ≡ entry_on xs l
    by true rest others = absurd cc
    by false rest others = others rest

-- ---- marks

-- the entry that a live pair of a router leads to is fed by it
is_fed-child : (n : Net) (es : List Entry) (parent : Entry) (router lan : ℕ) (pair : ℕ × ℕ) (o : Option Entry)
    (e : Entry) → child_reason parent router pair lan o ≡ None → o ≡ Some e → e.lan ≡ lan
    → row_feeds n es router pair.0 (n.row router) ≡ true → n.placed router pair.0 ≡ Some lan
    → is_fed n es e.lan e.forwarder ≡ true
is_fed-child n es parent router lan pair None e right found names feeds placed = absurd cc
is_fed-child n es parent router lan pair (Some d) e right found names feeds placed =
    let this : d ≡ e = cc in
    let sends = unless_then-passed (is_sender d.forwarder (router, pair.0)) _ _ right in
    let by = ap (λ (x : Entry). x.forwarder) (sym this) ∙ is_sender-true d.forwarder (router, pair.0) sends in
    let onto : is_lan (n.placed router pair.0) e.lan ≡ true =
    ap (λ o. is_lan o e.lan) placed ∙ eq-eqb lan e.lan (sym names) in
    ap (is_fed n es e.lan) by ∙ ap (λ b. b && is_lan (n.placed router pair.0) e.lan) feeds ∙ onto

-- so its LAN may be marked
pub are_fed-marked : (n : Net) (es : List Entry) (marks : List Bool) (parent : Entry) (router lan : ℕ)
    (pair : ℕ × ℕ) → AreFed n es marks → child_reason parent router pair lan (entry_on es lan) ≡ None
    → row_feeds n es router pair.0 (n.row router) ≡ true → n.placed router pair.0 ≡ Some lan
    → AreFed n es (slice_set marks lan true)
are_fed-marked n es marks parent router lan pair old right feeds placed other e marked found =
    elim (cases_lt other lan) [
      | inl less ↦ old other e (sym (get_or-set_other marks lan other true false
          (λ same. omega (arith, less, same))) ∙ marked) found
      | inr from ↦ elim (cases_lt lan other) [
        | inl more ↦ old other e (sym (get_or-set_other marks lan other true false
            (λ same. omega (arith, more, same))) ∙ marked) found
        | inr to ↦ (
            let same : other ≡ lan = omega (arith, from, to) in
            is_fed-child n es parent router lan pair (entry_on es lan) e right
            (ap (entry_on es) (sym same) ∙ found) (entry_on-names es other e found ∙ same) feeds placed)
      ]
    ]

-- a live pair of a row feeds by its vif
pub feeds_from-member : (base : Entry) (oifs : List Oif) (k : ℕ) (d : Oif) → k < length oifs
    → is_live base.rank (get_or oifs k d).threshold ≡ true
    → feeds_from (get_or oifs k d).vif (oif_pairs oifs) (Some base) ≡ true
feeds_from-member base [] k d within live = absurd (omega (arith, within))
feeds_from-member base (o ∷ oifs) zero d within live =
    ap (λ b. (b && is_live base.rank o.threshold) || feeds_from o.vif (oif_pairs oifs) (Some base))
    (eq-eqb o.vif o.vif refl)
    ∙ ap (λ b. b || feeds_from o.vif (oif_pairs oifs) (Some base)) live
feeds_from-member base (o ∷ oifs) (suc k) d within live =
    let vif = (get_or oifs k d).vif in
    ap (λ b. ((o.vif == vif) && is_live base.rank o.threshold) || b)
    (feeds_from-member base oifs k d (omega (arith, within)) live)
    ∙ or_true ((o.vif == vif) && is_live base.rank o.threshold)
  where
    or_true : (b : Bool) → (b || true) ≡ true
    or_true true = refl
    or_true false = refl

-- ---- all entries

-- an entry without a forwarder, and one of a marked LAN, is fed
is_fed-marked : (n : Net) (es : List Entry) (marks : List Bool) (e : Entry) → AreFed n es marks
    → entry_on es e.lan ≡ Some e → NeedsNoFeedOrIsMarked marks e → is_fed n es e.lan e.forwarder ≡ true
is_fed-marked n es marks e fed found (inl none) = ap (is_fed n es e.lan) none
is_fed-marked n es marks e fed found (inr marked) = fed e.lan e marked found

-- if that holds of each entry after others, none of them is unfed
no_unfed-after : (n : Net) (all earlier es : List Entry) (marks : List Bool) → AreFed n all marks
    → earlier ++ es ≡ all → twice earlier es ≡ None → All (NeedsNoFeedOrIsMarked marks) es
    → first_of (λ (e : Entry). unless (is_fed n all e.lan e.forwarder) (Unfed e.lan)) es ≡ None
no_unfed-after n all earlier [] marks fed are apart each = refl
no_unfed-after n all earlier (e ∷ es) marks fed are apart each =
    let new = unless_then-passed (not (is_some (entry_on earlier e.lan))) _ _ apart in
    let found = ap (λ xs. entry_on xs e.lan) (sym are)
    ∙ entry_on-append_others earlier (e ∷ es) e.lan (not_true (is_some (entry_on earlier e.lan)) new)
    ∙ ap (λ b. cond b (Some e) (entry_on es e.lan)) (eq-eqb e.lan e.lan refl) in
    ap (λ b. unless b (Unfed e.lan) then first_of (λ (x : Entry). unless (is_fed n all x.lan x.forwarder)
    (Unfed x.lan)) es) (is_fed-marked n all marks e fed found (each 0 e (omega arith)))
    ∙ no_unfed-after n all (earlier ++ e ∷ []) es marks fed (append_assoc earlier (e ∷ []) es ∙ are)
    (unless_then-rest (not (is_some (entry_on earlier e.lan))) _ _ apart)
    (λ k d within. each (suc k) d (omega (arith, within)))
  where
    not_true : (b : Bool) → not b ≡ true → b ≡ false
    not_true false is = refl
    not_true true is = absurd cc

-- of entries of different LANs
pub no_unfed-marked : (n : Net) (es : List Entry) (marks : List Bool) → AreFed n es marks
    → twice [] es ≡ None → All (NeedsNoFeedOrIsMarked marks) es
    → first_of (λ (e : Entry). unless (is_fed n es e.lan e.forwarder) (Unfed e.lan)) es ≡ None
no_unfed-marked n es marks fed apart each = no_unfed-after n es [] es marks fed refl apart each
