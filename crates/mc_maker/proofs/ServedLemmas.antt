-- Whether the entries of the copies serve each LAN that wants the flow.
use Rattle.std.proofs.Common.{◌≡◌, ℕ, Bool, true, false, not, ◌||◌, nat_le, All, inl, inr, List, []}
use Rattle.std.proofs.Common.{◌∷◌, ◌++◌, map, refl, ap, ◌∙◌, arith}
use Rattle.std.proofs.lemmas.Bool.{leb-true, leb-false}
use Rattle.mc_theory.specs.Lists.{In, Distinct}
use Rattle.mc_theory.specs.Nets.{Net}
use Rattle.mc_theory.specs.Flights.{Copy}
use Rattle.mc_theory.specs.Certificates.{Entry, IsReordering, IsServed, lans}
use Rattle.mc_theory.specs.CertificateOfCopies.{entry_after, entries_after, entries_of}
use Rattle.mc_theory.proofs.ListLemmas.{in-map_cases, in-push, equal-from_same_image}
use Rattle.mc_maker.specs.EntriesByLan.{serves}
use Rattle.mc_maker.proofs.FilledLemmas.{each_in-all, in-entries_after}

-- ---- the entry of a LAN that carried a copy

-- each copy of a LAN makes an entry of the LAN, after whatever entries
entry_after-of_copy : (n : Net) (es : List Entry) (cs : List Copy) (c : Copy) → In c cs
    → (e : Entry) × In e (entries_after n es cs) × (e.lan ≡ c.lan)
entry_after-of_copy n es [] c h = absurd h
entry_after-of_copy n es (x ∷ cs) c (inl q) = (
  entry_after n es x,
  in-entries_after n (es ++ entry_after n es x ∷ []) cs (entry_after n es x)
      (in-push es (entry_after n es x)),
  ap (λ (y : Copy). y.lan) q,
)
entry_after-of_copy n es (x ∷ cs) c (inr h) = entry_after-of_copy n (es ++ entry_after n es x ∷ []) cs c h

-- so a LAN that carried a copy has an entry
entries_of-entry_of_lan : (n : Net) (cs : List Copy) (l : ℕ) → In l (lans cs)
    → (e : Entry) × In e (entries_of n cs) × (e.lan ≡ l)
entries_of-entry_of_lan n cs l h =
    let c = in-map_cases (λ (x : Copy). x.lan) l cs h in
    let e = entry_after-of_copy n [] cs c.0 c.1 in (e.0, e.1, e.2 ∙ c.2)

-- ---- served LANs

-- an entry that serves its LAN meets the need, where the LAN wants the flow
served_if_wanted : (m w : Bool) → w ≡ true → (m || not w) ≡ true → m ≡ true
served_if_wanted true w q e = refl
served_if_wanted false true q e = absurd cc
served_if_wanted false false q e = absurd cc

-- one that doesn't is of a LAN that wants the flow, and doesn't meet the need
wanted_and_not_served : (m w : Bool) → (m || not w) ≡ false → (m ≡ false) × (w ≡ true)
wanted_and_not_served true w e = absurd cc
wanted_and_not_served false true e = (refl, refl)
wanted_and_not_served false false e = absurd cc

module _ (n : Net) (cs : List Copy) (es : List Entry) (made : IsReordering (entries_of n cs) es)
  where
    -- where each entry serves, and each LAN that wants the flow carried a copy, the entries serve each such
    -- LAN
    pub is_served-each : ((l : ℕ) → n.wants l ≡ true → In l (lans cs))
        → All (λ (e : Entry). serves n e ≡ true) es → IsServed n (entries_of n cs)
    is_served-each reached all l w =
        let e = entries_of-entry_of_lan n cs l (reached l w) in
        let wanted : n.wants e.0.lan ≡ true = ap n.wants e.2 ∙ w in
        let good = each_in-all (λ (x : Entry). serves n x ≡ true) es all e.0 (made.to e.0 e.1) in (
          e.0,
          e.1,
          e.2,
          leb-true e.0.need n.ttl (served_if_wanted (nat_le e.0.need n.ttl) (n.wants e.0.lan) wanted good),
        )

    -- an entry that doesn't serve leaves its LAN unserved
    pub is_served-not : (e : Entry) → Distinct (map (λ (x : Entry). x.lan) (entries_of n cs)) → In e es
        → serves n e ≡ false → ¬ IsServed n (entries_of n cs)
    is_served-not e once h low served =
        let un = wanted_and_not_served (nat_le e.need n.ttl) (n.wants e.lan) low in
        let s = served e.lan un.1 in
        let same : s.0 ≡ e = equal-from_same_image (λ (x : Entry). x.lan) s.0 e (entries_of n cs) once s.1
        (made.from e h) s.2 in
        let short : nat_le s.0.need n.ttl ≡ false =
        ap (λ (x : Entry). nat_le x.need n.ttl) same ∙ un.0 in
        let lt = leb-false s.0.need n.ttl short in
        absurd (omega (arith, lt, s.3))
