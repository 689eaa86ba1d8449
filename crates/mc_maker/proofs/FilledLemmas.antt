-- The vector of entries, filled copy by copy.
use Rattle.std.proofs.Common.{◌≡◌, ℕ, suc, ◌+◌, ◌-◌, ◌<◌, ◌≤◌, inl, inr, All, Bool}
use Rattle.std.proofs.Common.{List, [], ◌∷◌, ◌++◌, length, take, drop}
use Rattle.std.proofs.Common.{get_or, Option, Some, None, refl, ap, sym, subst, ◌∙◌}
use Rattle.std.proofs.Common.{arith}
use Rattle.std.specs.Prelude.{slice_set, IsTrue, IsFalse, IsSome}
use Rattle.std.proofs.lemmas.List.{take_all, take_more, take-append-drop}
use Rattle.mc_theory.specs.Lists.{In}
use Rattle.mc_theory.specs.Nets.{Net, Interface}
use Rattle.mc_theory.specs.Flights.{Copy}
use Rattle.mc_theory.specs.Certificates.{Entry}
use Rattle.mc_theory.specs.Reasons.{entry_at}
use Rattle.mc_theory.specs.Findings.{from_lan}
use Rattle.mc_theory.specs.CertificateOfCopies.{entry_after, entries_after, entries_of, need_after, need_over}
use Rattle.mc_theory.specs.CertificateOfCopies.{row_pairs, threshold_of}
use Rattle.mc_theory.proofs.ListLemmas.{in-append_left, in-push}
use Rattle.mc_forward.specs.PerLan.{item_on_lan}
pub use Rattle.mc_forward.proofs.CopiesInDomainLemmas.{all-from_each_member as all-each_in}
use Rattle.mc_forward.proofs.PerLanLemmas.{first_with_key-entry_on, length-after_put}
use Rattle.mc_forward.proofs.PerLanLemmas.{holds_first-more as filled-first}
use Rattle.mc_maker.specs.EntriesByLan.{AreEntriesByLan, entry_by_held_entries, held_entry_at}
use Rattle.mc_maker.specs.EntriesByLan.{need_by_held_entries}

-- ---- elements

-- what holds of all items of a list holds of each
pub each_in-all : {A : Type 0} (P : A → Type 0) (xs : List A) → All P xs → (x : A) → In x xs → P x
each_in-all P [] all x h = absurd h
each_in-all P (y ∷ xs) all x (inl e) = subst P e (all 0 y (omega arith))
each_in-all P (y ∷ xs) all x (inr h) = each_in-all P xs (λ k d lt. all (suc k) d (omega (arith, lt))) x h

-- ---- the entries of the first copies

-- the entries of two lists of copies are those of the second one after those of the first
pub entries_after-append : (n : Net) (es : List Entry) (xs ys : List Copy)
    → entries_after n es (xs ++ ys) ≡ entries_after n (entries_after n es xs) ys
entries_after-append n es [] ys = refl
entries_after-append n es (x ∷ xs) ys = entries_after-append n (es ++ entry_after n es x ∷ []) xs ys

-- an entry stays among those of more copies
pub in-entries_after : (n : Net) (es : List Entry) (cs : List Copy) (e : Entry) → In e es
    → In e (entries_after n es cs)
in-entries_after n es [] e h = h
in-entries_after n es (c ∷ cs) e h = in-entries_after n (es ++ entry_after n es c ∷ []) cs e
    (in-append_left e es (entry_after n es c ∷ []) h)

-- ---- copy by copy

-- the entries of the first k copies are stored
pub record EntriesSoFar (n : Net) (by_lan old : List (Option Entry)) (cs : List Copy)
    (k : ℕ) : Type 0 where
  pub count : length by_lan ≡ length old
  pub places : AreEntriesByLan by_lan (entries_of n (take k cs))

-- before the first copy no entry is stored
pub entries_so_far-none : (n : Net) (by_lan : List (Option Entry)) (cs : List Copy)
    → AreEntriesByLan by_lan []
    → EntriesSoFar n by_lan by_lan cs 0
entries_so_far-none n by_lan cs none = record { count = refl; places = none }

-- a copy's need by the held entries is its need after the entries so far
need_by_held-need_after : (n : Net) (by_lan : List (Option Entry)) (es : List Entry) (x : Option Interface)
    → AreEntriesByLan by_lan es → need_by_held_entries n by_lan x ≡ need_after n es x
need_by_held-need_after n by_lan es None is = refl
need_by_held-need_after n by_lan es (Some i) is = ap (need_over (threshold_of i.1 (row_pairs (n.row i.0))))
    (by (from_lan n (Some i)))
  where
    by : (o : Option ℕ) → held_entry_at by_lan o ≡ entry_at es o
    by None = refl
    by (Some l) = is l ∙ first_with_key-entry_on es l

-- the entries of one copy more are those so far, and the one that is made after them
entries_of-take_more : (n : Net) (cs : List Copy) (k : ℕ) (c : Copy) → k < length cs → c ≡ get_or cs k c
    → entries_of n (take (k + 1) cs) ≡ entries_of n (take k cs) ++ entry_after n
    (entries_of n (take k cs)) c ∷ []
entries_of-take_more n cs k c lt at =
    let more : take (k + 1) cs ≡ take k cs ++ c ∷ [] = take_more cs k c lt
    ∙ ap (λ x. take k cs ++ x ∷ []) (sym at) in
    ap (entries_of n) more ∙ entries_after-append n [] (take k cs) (c ∷ [])

-- the next copy's entry is one of all entries
in-entries_of_next : (n : Net) (cs : List Copy) (k : ℕ) (c : Copy) → k < length cs → c ≡ get_or cs k c
    → In (entry_after n (entries_of n (take k cs)) c) (entries_of n cs)
in-entries_of_next n cs k c lt at =
    let e = entry_after n (entries_of n (take k cs)) c in
    let here : In e (entries_of n (take (k + 1) cs)) =
    subst (In e) (sym (entries_of-take_more n cs k c lt at)) (in-push (entries_of n (take k cs)) e) in
    let whole : entries_after n (entries_of n (take (k + 1) cs)) (drop (k + 1) cs)
    ≡ entries_of n cs =
    sym (entries_after-append n [] (take (k + 1) cs) (drop (k + 1) cs))
    ∙ ap (entries_of n) (take-append-drop (k + 1) cs) in
    subst (In e) whole (in-entries_after n (entries_of n (take (k + 1) cs)) (drop (k + 1) cs) e here)

-- so its need is a byte
pub need_by_held-at_most_255 : (n : Net) (by_lan old : List (Option Entry)) (cs : List Copy) (k : ℕ)
    (c : Copy)
    → EntriesSoFar n by_lan old cs k → k < length cs → c ≡ get_or cs k c
    → All (λ (e : Entry). e.need ≤ 255) (entries_of n cs) → need_by_held_entries n by_lan c.sender ≤ 255
need_by_held-at_most_255 n by_lan old cs k c f lt at small =
    subst (λ (m : ℕ). m ≤ 255)
    (sym (need_by_held-need_after n by_lan (entries_of n (take k cs)) c.sender f.places))
    (each_in-all (λ (e : Entry). e.need ≤ 255) (entries_of n cs) small
    (entry_after n (entries_of n (take k cs)) c) (in-entries_of_next n cs k c lt at))

-- one copy more: its entry is put into its LAN's place where that is free
pub entries_so_far-more : (n : Net) (by_lan by_lan' old : List (Option Entry)) (cs : List Copy) (k : ℕ)
    (c : Copy) (e : Entry) (put : Bool) → EntriesSoFar n by_lan old cs k → k < length cs
    → c ≡ get_or cs k c → c.lan < length old → e ≡ entry_by_held_entries n by_lan c
    → (IsTrue put → item_on_lan by_lan e.lan ≡ None)
    → (IsTrue put → by_lan' ≡ slice_set by_lan e.lan (Some e))
    → (IsFalse put → IsSome (item_on_lan by_lan e.lan)) → (IsFalse put → by_lan' ≡ by_lan)
    → EntriesSoFar n by_lan' old cs (k + 1)
entries_so_far-more n by_lan by_lan' old cs k c e put f lt at within by free is earlier kept =
    let es = entries_of n (take k cs) in
    let with_need : ℕ → Entry = λ m. record {
      lan = c.lan;
      rank = 255 - c.ttl;
      need = m;
      forwarder = c.sender;
    } in
    let made : e ≡ entry_after n es c = by ∙ ap with_need
    (need_by_held-need_after n by_lan es c.sender f.places) in
    let lan : e.lan ≡ c.lan = ap (λ (x : Entry). x.lan) by in
    let room : e.lan < length by_lan = omega (arith, lan, f.count, within) in
    record {
      count = length-after_put by_lan by_lan' e.lan e put is kept ∙ f.count;
      places = subst (AreEntriesByLan by_lan') (sym (entries_of-take_more n cs k c lt at))
          (subst (λ (x : Entry). AreEntriesByLan by_lan' (es ++ x ∷ [])) made
          (filled-first (λ (x : Entry). x.lan) by_lan by_lan' es e put room f.places free is
          earlier kept));
    }

-- after all copies each place holds the first entry of its LAN
pub entries_so_far-all : (n : Net) (by_lan old : List (Option Entry)) (cs : List Copy) (k : ℕ)
    → EntriesSoFar n by_lan old cs k → length cs ≤ k → AreEntriesByLan by_lan (entries_of n cs)
entries_so_far-all n by_lan old cs k f le = subst (λ xs. AreEntriesByLan by_lan (entries_of n xs))
    (take_all k cs le) f.places
