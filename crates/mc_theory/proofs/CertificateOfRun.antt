-- A clean complete run at TTL 255 makes a certificate.
use Rattle.std.proofs.Common.{◌≡◌, ◌≢◌, ℕ, zero, suc, ◌+◌, ◌-◌, max, inl, inr, Bool, true}
use Rattle.std.proofs.Common.{false, cond, ◌==◌, List, [], ◌∷◌, map, Option, Some, None, IsSome}
use Rattle.std.proofs.Common.{refl, ap, sym, ◌∙◌, ap₂, subst, arith, eqb-true, eq-eqb}
use Rattle.mc_theory.specs.Lists.{In, Distinct}
use Rattle.mc_theory.specs.Nets.{Net, IsNet, Row, Interface}
use Rattle.mc_theory.specs.Nets.Row.{Exact, Open}
use Rattle.mc_theory.specs.Flights.{Copy, Flight, source_copy}
use Rattle.mc_theory.specs.Findings.{first_copy_on, from_lan, taken_from}
use Rattle.mc_theory.specs.CertificateOfCopies.{threshold_of, row_pairs}
use Rattle.mc_theory.specs.Certificates.{Entry, IsLive, Feeds, IsChild, IsTree, lans}
use Rattle.mc_theory.proofs.ListLemmas.{in-map, in-map_cases}
use Rattle.mc_theory.proofs.RunInvariant.{RunInvariant, Handled, Sends}
use Rattle.mc_theory.proofs.ReachedLans.{sender-not_the_incoming_vif, waiting_interfaces-none}

-- ---- the entries that a run's copies make, by recursion on the rank

-- the first copy of the LAN that a sender took its copy from
abbrev pub upstream_copy : List Copy → Option ℕ → Option Copy
upstream_copy cs None = None
upstream_copy cs (Some l) = first_copy_on cs l

-- what a copy needs, if there is one
abbrev pub need_of_upstream : (Copy → ℕ) → Option Copy → ℕ
need_of_upstream need None = 0
need_of_upstream need (Some b) = need b

-- the least TTL that reaches the copy of this rank and sender
abbrev pub need_of_copy : Net → List Copy → ℕ → Option Interface → ℕ
need_of_copy n cs zero x = 1
need_of_copy n cs (suc k) None = 1
need_of_copy n cs (suc k) (Some i) = max (need_of_upstream (λ b. need_of_copy n cs k b.sender)
    (upstream_copy cs (from_lan n (Some i)))) (k + threshold_of i.1 (row_pairs (n.row i.0)) + 1)

abbrev pub entry_of_copy : Net → List Copy → Copy → Entry
entry_of_copy n cs c = record {
  lan = c.lan;
  rank = 255 - c.ttl;
  need =
      need_of_copy n cs (255 - c.ttl) c.sender;
  forwarder = c.sender;
}

abbrev pub ranked_entries : Net → List Copy → List Entry
ranked_entries n cs = map (entry_of_copy n cs) cs

-- ---- what the look-ups find

first_copy_on-of_member_step : (c d : Copy) (cs : List Copy) (b : Bool) → (d.lan == c.lan) ≡ b →
    Distinct (lans (d ∷ cs)) → In c (d ∷ cs) → (In c cs → first_copy_on cs c.lan ≡ Some c) →
    cond b (Some d) (first_copy_on cs c.lan) ≡ Some c
first_copy_on-of_member_step c d cs true e apart (inl q) ih = ap Some q
first_copy_on-of_member_step c d cs true e apart (inr h) ih = absurd
    (apart.0 (subst (λ l. In l (lans cs)) (sym (eqb-true d.lan c.lan e))
    (in-map (λ (c : Copy). c.lan) c cs h)))
first_copy_on-of_member_step c d cs false e apart (inl q) ih = absurd
    (let z = eq-eqb d.lan c.lan (ap (λ (x : Copy). x.lan) q) in cc)
first_copy_on-of_member_step c d cs false e apart (inr h) ih = ih h

pub first_copy_on-of_member : (c : Copy) (cs : List Copy) → Distinct (lans cs) → In c cs →
    first_copy_on cs c.lan ≡ Some c
first_copy_on-of_member c [] apart h = absurd h
first_copy_on-of_member c (d ∷ cs) apart h = first_copy_on-of_member_step c d cs (d.lan == c.lan) refl apart h
    (first_copy_on-of_member c cs apart.1)

threshold_of-of_member_step : (v h : ℕ) (p : ℕ × ℕ) (ps : List (ℕ × ℕ)) (b : Bool) → (p.0 == v) ≡ b →
    Distinct (map (λ (p : ℕ × ℕ). p.0) (p ∷ ps)) → In (v, h) (p ∷ ps) →
    (In (v, h) ps → threshold_of v ps ≡ h) → cond b p.1 (threshold_of v ps) ≡ h
threshold_of-of_member_step v h p ps true e apart (inl q) ih = ap (λ (x : ℕ × ℕ). x.1) q
threshold_of-of_member_step v h p ps true e apart (inr k) ih =
    absurd (apart.0 (subst (λ x. In x (map (λ (p : ℕ × ℕ). p.0) ps)) (sym (eqb-true p.0 v e))
    (in-map (λ (p : ℕ × ℕ). p.0) (v, h) ps k)))
threshold_of-of_member_step v h p ps false e apart (inl q) ih =
    absurd (let z = eq-eqb p.0 v (ap (λ (x : ℕ × ℕ). x.0) q) in cc)
threshold_of-of_member_step v h p ps false e apart (inr k) ih = ih k

pub threshold_of-of_member : (v h : ℕ) (ps : List (ℕ × ℕ)) → Distinct (map (λ (p : ℕ × ℕ). p.0) ps) →
    In (v, h) ps → threshold_of v ps ≡ h
threshold_of-of_member v h [] apart k = absurd k
threshold_of-of_member v h (p ∷ ps) apart k = threshold_of-of_member_step v h p ps (p.0 == v) refl apart k
    (threshold_of-of_member v h ps apart.1)

pub need_of_copy-child : (n : Net) (cs : List Copy) (k r v h incoming : ℕ) (pairs : List (ℕ × ℕ)) (c : Copy)
    → Distinct (lans cs) → Distinct (map (λ (p : ℕ × ℕ). p.0) pairs) → In c cs →
    n.row r ≡ Exact incoming pairs → n.placed r incoming ≡ Some c.lan → In (v, h) pairs →
    need_of_copy n cs (suc k) (Some (r, v)) ≡ max (need_of_copy n cs k c.sender) (k + h + 1)
need_of_copy-child n cs k r v h incoming pairs c apart vifs c_in row from pair =
    let base : upstream_copy cs (from_lan n (Some (r, v))) ≡ Some c =
    ap (λ (x : Row). upstream_copy cs (taken_from n r x)) row ∙
    (ap (upstream_copy cs) from ∙ first_copy_on-of_member c cs apart c_in) in
    let threshold : threshold_of v (row_pairs (n.row r)) ≡ h =
    ap (λ (x : Row). threshold_of v (row_pairs x)) row ∙ threshold_of-of_member v h pairs vifs pair in
    let need : Option Copy → ℕ → ℕ = λ o j. max (need_of_upstream (λ b. need_of_copy n cs k b.sender) o)
    (k + j + 1) in
    ap₂ need base threshold

-- ---- a complete clean run

-- what heard a copy was handled, unless it is the copy's sender
handled-when_none_waits : (n : Net) (f : Flight) (c : Copy) (r v : ℕ) → RunInvariant n 255 [] f →
    f.waiting ≡ [] →
    In c f.carried → n.placed r v ≡ Some c.lan → c.sender ≢ Some (r, v) →
    Handled n f.carried r v c.ttl
handled-when_none_waits n f c r v i done c_in on other = elim (i.all c r v c_in on other)
    [ inl z ↦ absurd z | inr (inl w) ↦ absurd (waiting_interfaces-none f (r, v) done w) | inr (inr a) ↦ a ]

-- what a live pair sent of a router that takes from a reached LAN
sends-by_live_pair : (n : Net) (f : Flight) (c : Copy) (r v h : ℕ) → RunInvariant n 255 [] f →
    f.waiting ≡ [] →
    In c f.carried → Feeds n (entry_of_copy n f.carried c) r v h → Sends n f.carried r c.ttl v
sends-by_live_pair n f c r v h i done c_in feeds =
    let low = i.low c c_in in
    (handled-when_none_waits n f c r feeds.incoming i done c_in feeds.from
    (sender-not_the_incoming_vif n 255 [] f c r feeds.incoming feeds.pairs i c_in feeds.row feeds.from)).sent
    feeds.pairs v h feeds.row feeds.pair (omega (arith, low, feeds.live))

is_child-entry_of_copy : (n : Net) (f : Flight) (c d : Copy) (r v h : ℕ) → IsNet n → RunInvariant n 255 [] f →
    In c f.carried → Feeds n (entry_of_copy n f.carried c) r v h → d.sender ≡ Some (r, v) →
    d.ttl + 1 ≡ c.ttl → IsChild (entry_of_copy n f.carried c) r v h (entry_of_copy n f.carried d)
is_child-entry_of_copy n f c d r v h net i c_in feeds sender ttl =
    let low = i.low c c_in in
    let rank : 255 - d.ttl ≡ suc (255 - c.ttl) = omega (arith, low, ttl) in
    record {
      forwarder = sender;
      rank = omega (arith, rank);
      need = ap₂ (need_of_copy n f.carried) rank sender ∙ need_of_copy-child n f.carried (255 - c.ttl) r v h
          feeds.incoming feeds.pairs c i.clean.once (net.vifs r feeds.incoming feeds.pairs
          feeds.row) c_in feeds.row feeds.from feeds.pair;
    }

pub lans-of_entries : (n : Net) (cs ds : List Copy) → map (λ (e : Entry). e.lan)
    (map (entry_of_copy n cs) ds) ≡ lans ds
lans-of_entries n cs [] = refl
lans-of_entries n cs (d ∷ ds) = ap (λ ls. d.lan ∷ ls) (lans-of_entries n cs ds)

-- an entry is that of a copy
property_of_entry-from_copies : (n : Net) (f : Flight) (e : Entry) (P : Entry → Type 0) →
    In e (ranked_entries n f.carried) → ((c : Copy) → In c f.carried → P (entry_of_copy n f.carried c)) →
    P e
property_of_entry-from_copies n f e P h g = let c =
    in-map_cases (entry_of_copy n f.carried) e f.carried h in subst P c.2
    (g c.0 c.1)

pub is_tree-ranked_entries : (n : Net) (f : Flight) → IsNet n → RunInvariant n 255 [] f → f.waiting ≡ [] →
    IsTree n (ranked_entries n f.carried)
is_tree-ranked_entries n f net i done = record {
  one_entry = subst Distinct (sym (lans-of_entries n f.carried f.carried)) i.clean.once;
  source_entry = in-map (entry_of_copy n f.carried) (source_copy n 255) f.carried i.first;
  others_fed = λ e h. property_of_entry-from_copies n f e (λ e. e.lan ≢ n.source → IsSome e.forwarder) h
      (λ c c_in other. fed-other n f c c.sender refl i c_in other);
  no_wildcard = λ e r v h wild. property_of_entry-from_copies n f e (λ e. n.placed r v ≢ Some e.lan) h
      (λ c c_in on. (handled-when_none_waits n f c r v i done c_in on
      (λ q. open-sent n f c r v i c_in q wild)).not_open wild);
  no_stray = λ p r v h p_in. property_of_entry-from_copies n f p (λ p. Feeds n p r v h →
      IsSome (n.placed r v)) p_in
      (λ c c_in feeds. (let d = sends-by_live_pair n f c r v h i done c_in feeds in is-some (n.placed r v)
      d.0.lan d.2));
  tree = λ p r v h q p_in. property_of_entry-from_copies n f p (λ p. Feeds n p r v h → n.placed r v ≡ Some q →
      (e : Entry) × In e (ranked_entries n f.carried) × (e.lan ≡ q) × IsChild p r v h e) p_in
      (λ c c_in feeds on.
      (let d = sends-by_live_pair n f c r v h i done c_in feeds in
      let lan : Some d.0.lan ≡ Some q = sym d.2 ∙ on in
      let lan' : d.0.lan ≡ q = cc in (
        entry_of_copy n f.carried d.0,
        in-map (entry_of_copy n f.carried) d.0 f.carried d.1,
        lan',
        is_child-entry_of_copy n f c d.0 r v h net i c_in feeds d.3 d.4,
      )));
  fed = λ e r v h. property_of_entry-from_copies n f e (λ e. e.forwarder ≡ Some (r, v) →
      (p : Entry) × (h : ℕ) × In p (ranked_entries n f.carried) × Feeds n p r v h ×
      (n.placed r v ≡ Some e.lan)) h (λ c c_in q.
      (let s = i.sent c r v c_in q in
      let low = i.low s.base s.base_in in
      let live : IsLive (255 - s.base.ttl) s.threshold = omega (arith, low, s.hot) in (
        entry_of_copy n f.carried s.base,
        s.threshold,
        in-map (entry_of_copy n f.carried) s.base f.carried
            s.base_in,
        record {
          incoming = s.incoming;
          pairs = s.pairs;
          row = s.row;
          from =
              s.from;
          pair = s.pair;
          live = live;
        },
        s.onto,
      )));
}
  where
    fed-other : (n : Net) (f : Flight) (c : Copy) (o : Option Interface) → c.sender ≡ o →
        RunInvariant n 255 [] f → In c f.carried → c.lan ≢ n.source → IsSome c.sender
    fed-other n f c None q i c_in other = absurd (other
        (ap (λ (x : Copy). x.lan) (i.only c c_in q)))
    fed-other n f c (Some x) q i c_in other = subst IsSome (sym q) refl

    open-sent : (n : Net) (f : Flight) (c : Copy) (r v : ℕ) → RunInvariant n 255 [] f → In c f.carried →
        c.sender ≡ Some (r, v) → n.row r ≡ Open → ⊥
    open-sent n f c r v i c_in q wild = let s = i.sent c r v c_in q in absurd
        (let z : Open ≡ Exact s.incoming s.pairs = sym wild ∙ s.row in cc)

    is-some : (o : Option ℕ) (l : ℕ) → o ≡ Some l → IsSome o
    is-some o l e = subst IsSome (sym e) refl
