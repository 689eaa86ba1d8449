-- There is no reason to refuse a list exactly where it is accepted.
use Rattle.std.proofs.Common.{◌≡◌, ◌≢◌, ℕ, ◌+◌, ◌<◌, ◌≤◌, max, inl, inr, Bool, true, false, cond}
use Rattle.std.proofs.Common.{not, ◌&&◌, ◌||◌, ◌==◌, nat_lt, List, [], ◌∷◌, map, Option, Some, None}
use Rattle.std.proofs.Common.{IsSome, is_some, refl, ap, sym, ◌∙◌, subst, arith, eqb-true, eq-eqb}
use Rattle.std.proofs.Common.{ltb-true, ltb-false, lt-ltb, le-ltb, ◌++◌, ◌↔◌}
use Rattle.std.specs.List.{list_all, list_any}
use Rattle.std.proofs.lemmas.Bool.{and_parts, and_from, or_cases, or_left, or_right, not-true}
use Rattle.std.proofs.lemmas.Bool.{not_from_false, eqb-false, cases_eq}
use Rattle.mc_theory.specs.Lists.{In, Distinct, below}
use Rattle.mc_theory.specs.Nets.{Net, IsNet, Row, Interface, is_lan, WantsBelow}
use Rattle.mc_theory.specs.Nets.Row.{Exact, Open, NoRow}
use Rattle.mc_theory.specs.Flights.{is_sender}
use Rattle.mc_theory.specs.Certificates.{Entry, IsLive, Feeds, IsChild, IsTree, IsAccepted}
use Rattle.mc_theory.specs.Certificates.{source_entry_of, is_live}
use Rattle.mc_theory.specs.Reasons.{Reason, ◌then◌, unless, first_of, entry_on, entry_at, twice}
use Rattle.mc_theory.specs.Reasons.{is_source_entry, has_source, child_reason}
use Rattle.mc_theory.specs.Reasons.{onto_reason, pair_reason, pairs_reason, row_reason, feeds_from}
use Rattle.mc_theory.specs.Reasons.{row_feeds, is_fed, need_reason, lan_reason, first_reason}
use Rattle.mc_theory.specs.Reasons.Reason.{TwoEntries, BadSource, Wildcard, Extra, WrongRank}
use Rattle.mc_theory.specs.Reasons.Reason.{WrongNeed, Unfed, Low}
use Rattle.mc_theory.proofs.ListLemmas.{in-append_left, in-push, in-push_cases, in-map, in-map_cases}
use Rattle.mc_theory.proofs.ListLemmas.{in-below}
use Rattle.mc_theory.proofs.PlacedInterfaces.{is_lan-true, is_lan-from_equal}
use Rattle.mc_theory.proofs.RunInvariant.{is_sender-true, is_sender-from_equal}

-- an entry's LAN
abbrev lan : Entry → ℕ
lan e = e.lan

-- ---- reasons in a row

-- no reason of two: neither is there
then-none : (a b : Option Reason) → (a then b) ≡ None → (a ≡ None) × (b ≡ None)
then-none (Some x) b e = absurd cc
then-none None b e = (refl, e)

-- if neither is there, there is none
then-from_none : (a b : Option Reason) → a ≡ None → b ≡ None → (a then b) ≡ None
then-from_none (Some x) b e h = absurd cc
then-from_none None b e h = h

-- no reason unless something is true: it is
unless-true : (b : Bool) (x : Reason) → unless b x ≡ None → b ≡ true
unless-true true x e = refl
unless-true false x e = absurd cc

-- if it is true, there is none
unless-from_true : (b : Bool) (x : Reason) → b ≡ true → unless b x ≡ None
unless-from_true true x e = refl
unless-from_true false x e = absurd cc

-- no first reason: no item has one
first_of-none_each : {A : Type 0} (f : A → Option Reason) (xs : List A) → first_of f xs ≡ None → (x : A) →
    In x xs → f x ≡ None
first_of-none_each f [] e x h = absurd h
first_of-none_each f (y ∷ xs) e x (inl q) = ap f (sym q) ∙ (then-none (f y) (first_of f xs) e).0
first_of-none_each f (y ∷ xs) e x (inr h) = first_of-none_each f xs (then-none (f y) (first_of f xs) e).1 x h

-- if no item has one, there is none
first_of-from_none_each : {A : Type 0} (f : A → Option Reason) (xs : List A) →
    ((x : A) → In x xs → f x ≡ None) →
    first_of f xs ≡ None
first_of-from_none_each f [] h = refl
first_of-from_none_each f (x ∷ xs) h = then-from_none (f x) (first_of f xs) (h x (inl refl))
    (first_of-from_none_each f xs (λ y k. h y (inr k)))

-- what is true of all is true of each
list_all-each : {A : Type 0} (p : A → Bool) (xs : List A) → list_all p xs ≡ true → (x : A) → In x xs →
    p x ≡ true
list_all-each p [] e x h = absurd h
list_all-each p (y ∷ xs) e x (inl q) = ap p (sym q) ∙ (and_parts (p y) (list_all p xs) e).0
list_all-each p (y ∷ xs) e x (inr h) = list_all-each p xs (and_parts (p y) (list_all p xs) e).1 x h

-- what is true of each is true of all
list_all-from_each : {A : Type 0} (p : A → Bool) (xs : List A) → ((x : A) → In x xs → p x ≡ true) →
    list_all p xs ≡ true
list_all-from_each p [] h = refl
list_all-from_each p (x ∷ xs) h = and_from (p x) (list_all p xs) (h x (inl refl))
    (list_all-from_each p xs (λ y k. h y (inr k)))

-- what is true of any is true of a member
list_any-some_member : {A : Type 0} (p : A → Bool) (xs : List A) → list_any p xs ≡ true →
    (x : A) × In x xs × (p x ≡ true)
list_any-some_member p [] e = absurd cc
list_any-some_member p (x ∷ xs) e = elim (or_cases (p x) (list_any p xs) e)
    [ inl h ↦ (x, inl refl, h) | inr h ↦ (let r = list_any-some_member p xs h in (r.0, inr r.1, r.2)) ]

-- what is true of a member is true of any
list_any-from_member : {A : Type 0} (p : A → Bool) (xs : List A) (x : A) → In x xs → p x ≡ true →
    list_any p xs ≡ true
list_any-from_member p [] x h e = absurd h
list_any-from_member p (y ∷ xs) x (inl q) e = or_left (p y) (list_any p xs) (ap p q ∙ e)
list_any-from_member p (y ∷ xs) x (inr h) e = or_right (p y) (list_any p xs) (list_any-from_member p xs x h e)

-- ---- the entry of a LAN

-- by whether the first entry is the LAN's
entry_on-some_step : (e : Entry) (es : List Entry) (l : ℕ) (d : Entry) (b : Bool) → (e.lan == l) ≡ b →
    cond b (Some e) (entry_on es l) ≡ Some d → (entry_on es l ≡ Some d → In d es × (d.lan ≡ l)) →
    In d (e ∷ es) × (d.lan ≡ l)
entry_on-some_step e es l d true q h ih = let same : e ≡ d =
    cc in (inl same, ap lan (sym same) ∙ eqb-true e.lan l q)
entry_on-some_step e es l d false q h ih = (inr (ih h).0, (ih h).1)

-- the entry that is found is in the list, and is the LAN's
entry_on-some : (es : List Entry) (l : ℕ) (d : Entry) → entry_on es l ≡ Some d → In d es × (d.lan ≡ l)
entry_on-some [] l d h = absurd cc
entry_on-some (e ∷ es) l d h = entry_on-some_step e es l d (e.lan == l) refl h (entry_on-some es l d)

-- by whether the first entry is the LAN's
entry_on-none_step : (e : Entry) (es : List Entry) (l : ℕ) (b : Bool) → (e.lan == l) ≡ b →
    cond b (Some e) (entry_on es l) ≡ None → (e.lan ≢ l) × (entry_on es l ≡ None)
entry_on-none_step e es l true q h = absurd cc
entry_on-none_step e es l false q h = (eqb-false e.lan l q, h)

-- where none is found, no entry is the LAN's
entry_on-none : (es : List Entry) (l : ℕ) → entry_on es l ≡ None → (d : Entry) → In d es → d.lan ≢ l
entry_on-none [] l h d k = absurd k
entry_on-none (e ∷ es) l h d (inl q) = subst (λ (x : Entry). x.lan ≢ l) q
    (entry_on-none_step e es l (e.lan == l) refl h).0
entry_on-none (e ∷ es) l h d (inr k) = entry_on-none es l (entry_on-none_step e es l (e.lan == l) refl h).1 d
    k

-- by whether the first entry is the LAN's
entry_on-of_member_step : (e d : Entry) (es : List Entry) (b : Bool) → (e.lan == d.lan) ≡ b →
    Distinct (map lan (e ∷ es)) → In d (e ∷ es) → (In d es → entry_on es d.lan ≡ Some d) →
    cond b (Some e) (entry_on es d.lan) ≡ Some d
entry_on-of_member_step e d es true q apart (inl h) ih = ap Some h
entry_on-of_member_step e d es true q apart (inr h) ih = absurd (apart.0
    (subst (λ l. In l (map lan es)) (sym (eqb-true e.lan d.lan q)) (in-map lan d es h)))
entry_on-of_member_step e d es false q apart (inl h) ih = absurd (eqb-false e.lan d.lan q (ap lan h))
entry_on-of_member_step e d es false q apart (inr h) ih = ih h

-- an entry is found by its LAN, if no LAN is named twice
pub entry_on-of_member : (es : List Entry) (d : Entry) → Distinct (map lan es) → In d es →
    entry_on es d.lan ≡ Some d
entry_on-of_member [] d apart h = absurd h
entry_on-of_member (e ∷ es) d apart h = entry_on-of_member_step e d es (e.lan == d.lan) refl apart h
    (entry_on-of_member es d apart.1)

-- what isn't something is nothing
none-from_not_is_some : {A : Type 0} (o : Option A) → not (is_some o) ≡ true → o ≡ None
none-from_not_is_some None e = refl
none-from_not_is_some (Some x) e = absurd cc

-- what is nothing isn't something
not_is_some-from_none : {A : Type 0} (o : Option A) → o ≡ None → not (is_some o) ≡ true
not_is_some-from_none None e = refl
not_is_some-from_none (Some x) e = absurd cc

-- an entry that isn't found
entry_on-from_absent : (es : List Entry) (l : ℕ) (o : Option Entry) → entry_on es l ≡ o →
    ((d : Entry) → In d es → d.lan ≢ l) → entry_on es l ≡ None
entry_on-from_absent es l None e h = e
entry_on-from_absent es l (Some d) e h = absurd (let f = entry_on-some es l d e in h d f.0 f.1)

-- ---- no LAN is named twice

-- where no LAN is named twice, the LANs are distinct, and other than earlier ones
twice-none : (earlier es : List Entry) → twice earlier es ≡ None →
    Distinct (map lan es) × ((d e : Entry) → In d earlier → In e es → d.lan ≢ e.lan)
twice-none earlier [] h = (tt, λ d e k z. absurd z)
twice-none earlier (e ∷ es) h =
    let two = then-none (unless (not (is_some (entry_on earlier e.lan))) (TwoEntries e.lan))
    (twice (earlier ++ e ∷ []) es) h in
    let here = none-from_not_is_some (entry_on earlier e.lan) (unless-true
    (not (is_some (entry_on earlier e.lan))) (TwoEntries e.lan) two.0) in
    let rest = twice-none (earlier ++ e ∷ []) es two.1 in (
      (
        (λ z. let d = in-map_cases lan e.lan es z in
            rest.1 e d.0 (in-push earlier e) d.1 (sym d.2)),
        rest.0,
      ),
      λ d x k z. elim z [
        | inl q ↦ subst (λ (y : Entry). d.lan ≢ y.lan) q (entry_on-none earlier e.lan here d k)
        | inr y ↦ rest.1 d x (in-append_left d earlier (e ∷ []) k) y
      ],
    )

-- and the converse
twice-from_distinct : (earlier es : List Entry) → Distinct (map lan es) →
    ((d e : Entry) → In d earlier → In e es → d.lan ≢ e.lan) → twice earlier es ≡ None
twice-from_distinct earlier [] apart h = refl
twice-from_distinct earlier (e ∷ es) apart h = then-from_none (unless (not (is_some (entry_on earlier e.lan)))
    (TwoEntries e.lan)) (twice (earlier ++ e ∷ []) es)
    (unless-from_true (not (is_some (entry_on earlier e.lan))) (TwoEntries e.lan)
    (not_is_some-from_none (entry_on earlier e.lan) (entry_on-from_absent earlier e.lan
    (entry_on earlier e.lan) refl (λ d k. h d e k (inl refl)))))
    (twice-from_distinct (earlier ++ e ∷ []) es apart.1 (λ d x k z. elim (in-push_cases d earlier e k) [
      | inr q ↦ subst (λ (y : Entry). y.lan ≢ x.lan) q (λ same. apart.0
          (subst (λ l. In l (map lan es)) (sym same) (in-map lan x es z)))
      | inl y ↦ h d x y (inr z)
    ]))

-- ---- the source

-- an entry is known by its fields
entry_equal-from_fields : (e : Entry) (l r k : ℕ) (o : Option Interface) → e.lan ≡ l → e.rank ≡ r →
    e.need ≡ k →
    e.forwarder ≡ o → e ≡ record { lan = l; rank = r; need = k; forwarder = o }
entry_equal-from_fields e l r k o p q s t = λ i. record { lan = p i; rank = q i; need = s i; forwarder = t i }

-- the list has the source's entry if that passes its test
source_entry-from_test : (n : Net) (es : List Entry) (o : Option Entry) → entry_on es n.source ≡ o →
    is_source_entry o ≡ true → In (source_entry_of n) es
source_entry-from_test n es None q e = absurd cc
source_entry-from_test n es (Some d) q e =
    let found = entry_on-some es n.source d q in
    let a = and_parts (d.rank == 0) ((d.need == 1) && not (is_some d.forwarder)) e in
    let b = and_parts (d.need == 1) (not (is_some d.forwarder)) a.1 in
    subst (λ (x : Entry). In x es)
    (entry_equal-from_fields d n.source 0 1 None found.1 (eqb-true d.rank 0 a.0)
    (eqb-true d.need 1 b.0) (none-from_not_is_some d.forwarder b.1)) found.0

-- each entry but the source's passes its test only if it has a forwarder
others_fed-from_test : (n : Net) (e : Entry) → ((e.lan == n.source) || is_some e.forwarder) ≡ true →
    e.lan ≢ n.source → IsSome e.forwarder
others_fed-from_test n e h other = elim (or_cases (e.lan == n.source) (is_some e.forwarder) h)
    [ inl q ↦ absurd (other (eqb-true e.lan n.source q)) | inr q ↦ q ]

-- and the converse
others_fed_test-from_fed : (n : Net) (e : Entry) → (e.lan ≢ n.source → IsSome e.forwarder) →
    ((e.lan == n.source) || is_some e.forwarder) ≡ true
others_fed_test-from_fed n e h = elim (cases_eq e.lan n.source) [
  | inl q ↦ or_left (e.lan == n.source)
      (is_some e.forwarder) (eq-eqb e.lan n.source q)
  | inr q ↦ or_right (e.lan == n.source)
      (is_some e.forwarder) (h q)
]

-- ---- what routers send

-- a pair that passes the test is live
is_live-true : (rank h : ℕ) → is_live rank h ≡ true → IsLive rank h
is_live-true rank h e = let z = ltb-true (rank + h) 255 e in omega arith

-- and the converse
is_live-from_live : (rank h : ℕ) → IsLive rank h → is_live rank h ≡ true
is_live-from_live rank h e = lt-ltb (rank + h) 255 (omega arith)

-- no reason under a condition: where it is true, there is none
none-from_cond_true : (b : Bool) (x : Option Reason) → cond b x None ≡ None → b ≡ true → x ≡ None
none-from_cond_true true x e h = e
none-from_cond_true false x e h = absurd cc

-- and the converse
cond_none-from_branch : (b : Bool) (x : Option Reason) → (b ≡ true → x ≡ None) → cond b x None ≡ None
cond_none-from_branch true x h = h refl
cond_none-from_branch false x h = refl

-- a pair that feeds has no reason
onto_reason-none_for_feeding_pair : (n : Net) (es : List Entry) (p : Entry) (r v h : ℕ) → IsNet n →
    Distinct (map lan es) → first_of (λ r. row_reason n es r (n.row r)) (below n.routers) ≡ None →
    In p es → Feeds n p r v h → onto_reason es p r (v, h) (n.placed r v) ≡ None
onto_reason-none_for_feeding_pair n es p r v h net apart none p_in feeds =
    let row : row_reason n es r (n.row r) ≡ None = first_of-none_each (λ r. row_reason n es r (n.row r))
    (below n.routers) none r (in-below r n.routers (net.router r feeds.incoming p.lan
    feeds.from)) in
    let exact : pairs_reason n es r feeds.pairs (entry_at es (n.placed r feeds.incoming)) ≡ None =
    subst (λ x. row_reason n es r x ≡ None) feeds.row row in
    let entry : entry_at es (n.placed r feeds.incoming) ≡ Some p = ap (entry_at es) feeds.from ∙
    entry_on-of_member es p apart p_in in
    let pairs : first_of (pair_reason n es p r) feeds.pairs ≡ None =
    subst (λ o. pairs_reason n es r feeds.pairs o ≡ None) entry exact in
    none-from_cond_true (is_live p.rank h) (onto_reason es p r (v, h) (n.placed r v))
    (first_of-none_each (pair_reason n es p r) feeds.pairs pairs (v, h) feeds.pair)
    (is_live-from_live p.rank h feeds.live)

-- its vif is placed
is_placed-from_no_reason : (es : List Entry) (p : Entry) (r : ℕ) (pair : ℕ × ℕ) (o : Option ℕ) →
    onto_reason es p r pair o ≡ None → IsSome o
is_placed-from_no_reason es p r pair None e = absurd cc
is_placed-from_no_reason es p r pair (Some q) e = refl

-- the entry of the LAN that it feeds is a child
is_child-from_no_reason : (es : List Entry) (p : Entry) (r v h q : ℕ) (o : Option Entry) → entry_on es q ≡ o →
    child_reason p r (v, h) q o ≡ None → (e : Entry) × In e es × (e.lan ≡ q) × IsChild p r v h e
is_child-from_no_reason es p r v h q None z e = absurd cc
is_child-from_no_reason es p r v h q (Some d) z e =
    let found = entry_on-some es q d z in
    let a = then-none (unless (is_sender d.forwarder (r, v)) (Extra r v q))
    (unless (d.rank == p.rank + 1) (WrongRank q) then unless
    (d.need == max p.need (p.rank + h + 1)) (WrongNeed q)) e in
    let b = then-none (unless (d.rank == p.rank + 1) (WrongRank q))
    (unless (d.need == max p.need (p.rank + h + 1)) (WrongNeed q)) a.1 in (
      d,
      found.0,
      found.1,
      record {
        forwarder = is_sender-true d.forwarder (r, v) (unless-true (is_sender d.forwarder (r, v))
            (Extra r v q) a.0);
        rank = eqb-true d.rank (p.rank + 1) (unless-true (d.rank == p.rank + 1) (WrongRank q) b.0);
        need = eqb-true d.need (max p.need (p.rank + h + 1))
            (unless-true (d.need == max p.need (p.rank + h + 1)) (WrongNeed q) b.1);
      },
    )

-- no vif of a router with an open row is placed on a LAN of the list
no_wildcard-from_no_reason : (n : Net) (es : List Entry) (e : Entry) (r v : ℕ) → IsNet n →
    Distinct (map lan es) →
    first_of (λ r. row_reason n es r (n.row r)) (below n.routers) ≡ None → In e es →
    n.row r ≡ Open → n.placed r v ≡ Some e.lan → ⊥
no_wildcard-from_no_reason n es e r v net apart none e_in wild on =
    let row : row_reason n es r (n.row r) ≡ None = first_of-none_each (λ r. row_reason n es r (n.row r))
    (below n.routers) none r (in-below r n.routers (net.router r v e.lan on)) in
    let each = first_of-none_each (λ v. unless (not (is_some (entry_at es (n.placed r v)))) (Wildcard r v))
    (below 32) (subst (λ x. row_reason n es r x ≡ None) wild row) v
    (in-below v 32 (net.vif r v e.lan on)) in
    let absent = none-from_not_is_some (entry_at es (n.placed r v))
    (unless-true (not (is_some (entry_at es (n.placed r v)))) (Wildcard r v) each) in
    let there : entry_at es (n.placed r v) ≡ Some e = ap (entry_at es) on ∙
    entry_on-of_member es e apart e_in in
    absurd cc

-- ---- what feeds an entry

-- an entry that is found where a vif is placed
entry_at-some : (es : List Entry) (o : Option ℕ) (p : Entry) → entry_at es o ≡ Some p →
    In p es × (o ≡ Some p.lan)
entry_at-some es None p e = absurd cc
entry_at-some es (Some l) p e = let f = entry_on-some es l p e in (f.0, ap Some (sym f.1))

-- a pair of an exact row that feeds
feeds-from_exact_row : (n : Net) (es : List Entry) (r v incoming : ℕ) (pairs : List (ℕ × ℕ))
    (o : Option Entry)
    → n.row r ≡ Exact incoming pairs → entry_at es (n.placed r incoming) ≡ o →
    feeds_from v pairs o ≡ true → (p : Entry) × (h : ℕ) × In p es × Feeds n p r v h
feeds-from_exact_row n es r v incoming pairs None row q e = absurd cc
feeds-from_exact_row n es r v incoming pairs (Some p) row q e =
    let found = entry_at-some es (n.placed r incoming) p q in
    let pair = list_any-some_member (λ (x : ℕ × ℕ). (x.0 == v) && is_live p.rank x.1) pairs e in
    let both = and_parts (pair.0.0 == v) (is_live p.rank pair.0.1) pair.2 in (
      p,
      pair.0.1,
      found.0,
      record {
        incoming = incoming;
        pairs = pairs;
        row = row;
        from = found.1;
        pair = subst (λ (x : ℕ). In (x, pair.0.1) pairs) (eqb-true pair.0.0 v both.0) pair.1;
        live = is_live-true p.rank pair.0.1 both.1;
      },
    )

-- of any row
feeds-from_row : (n : Net) (es : List Entry) (r v : ℕ) (row : Row) → n.row r ≡ row →
    row_feeds n es r v row ≡ true → (p : Entry) × (h : ℕ) × In p es × Feeds n p r v h
feeds-from_row n es r v (Exact incoming pairs) q e = feeds-from_exact_row n es r v incoming pairs
    (entry_at es (n.placed r incoming)) q refl e
feeds-from_row n es r v Open q e = absurd cc
feeds-from_row n es r v NoRow q e = absurd cc

-- of an entry's forwarder
feeds-from_is_fed : (n : Net) (es : List Entry) (e : Entry) (r v : ℕ) →
    is_fed n es e.lan e.forwarder ≡ true → e.forwarder ≡ Some (r, v) →
    (p : Entry) × (h : ℕ) × In p es × Feeds n p r v h × (n.placed r v ≡ Some e.lan)
feeds-from_is_fed n es e r v h q =
    let both = and_parts (row_feeds n es r v (n.row r)) (is_lan (n.placed r v) e.lan)
    (subst (λ (o : Option Interface). is_fed n es e.lan o ≡ true) q h) in
    let f = feeds-from_row n es r v (n.row r) refl both.0 in
    (f.0, f.1, f.2, f.3, is_lan-true (n.placed r v) e.lan both.1)

-- and the converse
is_fed-from_feeds : (n : Net) (es : List Entry) (l : ℕ) (o : Option Interface) → Distinct (map lan es) →
    ((r v : ℕ) → o ≡ Some (r, v) → (p : Entry) × (h : ℕ) × In p es × Feeds n p r v h ×
    (n.placed r v ≡ Some l)) → is_fed n es l o ≡ true
is_fed-from_feeds n es l None apart h = refl
is_fed-from_feeds n es l (Some i) apart h =
    let f = h i.0 i.1 refl in
    let entry : entry_at es (n.placed i.0 f.3.incoming) ≡ Some f.0 = ap (entry_at es) f.3.from ∙
    entry_on-of_member es f.0 apart f.2 in
    let any : list_any (λ (x : ℕ × ℕ). (x.0 == i.1) && is_live f.0.rank x.1) f.3.pairs ≡
    true = list_any-from_member (λ (x : ℕ × ℕ). (x.0 == i.1) && is_live f.0.rank x.1) f.3.pairs
    (i.1, f.1) f.3.pair (and_from (i.1 == i.1) (is_live f.0.rank f.1)
    (eq-eqb i.1 i.1 refl) (is_live-from_live f.0.rank f.1 f.3.live)) in
    let feeds : row_feeds n es i.0 i.1 (n.row i.0) ≡ true = ap (row_feeds n es i.0 i.1) f.3.row ∙
    (ap (feeds_from i.1 f.3.pairs) entry ∙ any) in
    and_from (row_feeds n es i.0 i.1 (n.row i.0)) (is_lan (n.placed i.0 i.1) l) feeds
    (is_lan-from_equal (n.placed i.0 i.1) l f.4)

-- ---- wanting LANs are served

-- a wanting LAN without a reason has an entry, whose need is no more than the TTL
is_served-from_no_reason : (n : Net) (es : List Entry) (l : ℕ) (o : Option Entry) → entry_on es l ≡ o →
    need_reason n.ttl l o ≡ None → (e : Entry) × In e es × (e.lan ≡ l) × (e.need ≤ n.ttl)
is_served-from_no_reason n es l None q h = absurd cc
is_served-from_no_reason n es l (Some e) q h =
    let f = entry_on-some es l e q in (
      e,
      f.0,
      f.1,
      ltb-false n.ttl e.need (not-true (nat_lt n.ttl e.need)
          (unless-true (not (nat_lt n.ttl e.need)) (Low l) h)),
    )

-- and the converse
need_reason-from_served : (n : Net) (es : List Entry) (l : ℕ) → Distinct (map lan es) →
    (e : Entry) → In e es →
    e.lan ≡ l → e.need ≤ n.ttl → need_reason n.ttl l (entry_on es l) ≡ None
need_reason-from_served n es l apart e e_in on le =
    let entry : entry_on es l ≡ Some e = ap (entry_on es) (sym on) ∙ entry_on-of_member es e apart e_in in
    ap (need_reason n.ttl l) entry ∙ unless-from_true (not (nat_lt n.ttl e.need)) (Low l)
    (not_from_false (nat_lt n.ttl e.need) (le-ltb n.ttl e.need le))

-- ---- both directions

-- the first reason of a router's row
abbrev first_router_reason : Net → List Entry → Option Reason
first_router_reason n es = first_of (λ r. row_reason n es r (n.row r)) (below n.routers)

-- the first entry that isn't fed
abbrev first_unfed_reason : Net → List Entry → Option Reason
first_unfed_reason n es = first_of (λ e. unless (is_fed n es e.lan e.forwarder) (Unfed e.lan)) es

-- a list without a reason is accepted
is_accepted-from_no_reason : (n : Net) (count : ℕ) (es : List Entry) → IsNet n →
    ((l : ℕ) → n.wants l ≡ true → l < count) → first_reason n count es ≡ None → IsAccepted n es
is_accepted-from_no_reason n count es net small h =
    let a = then-none (twice [] es) (unless (has_source n es) BadSource then first_router_reason n es
    then first_unfed_reason n es then first_of (lan_reason n es) (below count)) h in
    let b = then-none (unless (has_source n es) BadSource)
    (first_router_reason n es then first_unfed_reason n es then first_of (lan_reason n es) (below count))
    a.1 in
    let c = then-none (first_router_reason n es) (first_unfed_reason n es then first_of (lan_reason n es)
    (below count)) b.1 in
    let d = then-none (first_unfed_reason n es) (first_of (lan_reason n es) (below count)) c.1 in
    let apart = (twice-none [] es a.0).0 in
    let source = and_parts (is_source_entry (entry_on es n.source))
    (list_all (λ e. (e.lan == n.source) || is_some e.forwarder) es)
    (unless-true (has_source n es) BadSource b.0) in
    record {
      is_tree = record {
        one_entry = apart;
        source_entry = source_entry-from_test n es (entry_on es n.source) refl source.0;
        others_fed = λ e e_in other. others_fed-from_test n e (list_all-each
            (λ (e : Entry). (e.lan == n.source) || is_some e.forwarder) es source.1 e e_in) other;
        no_wildcard = λ e r v e_in wild on. no_wildcard-from_no_reason n es e r v net apart c.0 e_in wild on;
        no_stray = λ p r v h p_in feeds. is_placed-from_no_reason es p r (v, h) (n.placed r v)
            (onto_reason-none_for_feeding_pair n es p r v h net apart c.0 p_in feeds);
        tree = λ p r v h q p_in feeds on. is_child-from_no_reason es p r v h q (entry_on es q) refl
            (subst (λ (o : Option ℕ). onto_reason es p r (v, h) o ≡ None) on
            (onto_reason-none_for_feeding_pair n es p r v h net apart c.0 p_in feeds));
        fed = λ e r v e_in q. feeds-from_is_fed n es e r v (unless-true (is_fed n es e.lan e.forwarder)
            (Unfed e.lan) (first_of-none_each (λ (e : Entry). unless (is_fed n es e.lan e.forwarder)
            (Unfed e.lan)) es d.0 e e_in)) q;
      };
      served = λ l w. is_served-from_no_reason n es l (entry_on es l) refl
          (none-from_cond_true (n.wants l) (need_reason n.ttl l (entry_on es l))
          (first_of-none_each (lan_reason n es) (below count) d.1 l (in-below l count (small l w))) w);
    }

-- a pair has no reason where its child is there
onto_reason-from_tree : (n : Net) (es : List Entry) (p : Entry) (r : ℕ) (pair : ℕ × ℕ) (o : Option ℕ) →
    n.placed r pair.0 ≡ o → IsTree n es → In p es → Feeds n p r pair.0 pair.1 →
    onto_reason es p r pair o ≡ None
onto_reason-from_tree n es p r pair None q tree p_in feeds = absurd
    (let s = tree.no_stray p r pair.0 pair.1 p_in feeds in let z : is_some (n.placed r pair.0) ≡
    false = ap is_some q in cc)
onto_reason-from_tree n es p r pair (Some l) q tree p_in feeds =
    let c = tree.tree p r pair.0 pair.1 l p_in feeds q in
    let entry : entry_on es l ≡ Some c.0 = ap (entry_on es) (sym c.2) ∙
    entry_on-of_member es c.0 tree.one_entry c.1 in
    ap (child_reason p r pair l) entry
    ∙ then-from_none (unless (is_sender c.0.forwarder (r, pair.0)) (Extra r pair.0 l))
    (unless (c.0.rank == p.rank + 1) (WrongRank l) then unless
    (c.0.need == max p.need (p.rank + pair.1 + 1)) (WrongNeed l))
    (unless-from_true (is_sender c.0.forwarder (r, pair.0)) (Extra r pair.0 l)
    (is_sender-from_equal c.0.forwarder (r, pair.0) c.3.forwarder))
    (then-from_none (unless (c.0.rank == p.rank + 1) (WrongRank l))
    (unless (c.0.need == max p.need (p.rank + pair.1 + 1)) (WrongNeed l))
    (unless-from_true (c.0.rank == p.rank + 1) (WrongRank l) (eq-eqb c.0.rank (p.rank + 1) c.3.rank))
    (unless-from_true (c.0.need == max p.need (p.rank + pair.1 + 1)) (WrongNeed l)
    (eq-eqb c.0.need (max p.need (p.rank + pair.1 + 1)) c.3.need)))

-- the pairs of an exact row have none
pairs_reason-from_tree : (n : Net) (es : List Entry) (r incoming : ℕ) (pairs : List (ℕ × ℕ))
    (o : Option Entry)
    → n.row r ≡ Exact incoming pairs → entry_at es (n.placed r incoming) ≡ o → IsTree n es →
    pairs_reason n es r pairs o ≡ None
pairs_reason-from_tree n es r incoming pairs None row q tree = refl
pairs_reason-from_tree n es r incoming pairs (Some p) row q tree =
    first_of-from_none_each (pair_reason n es p r) pairs
    (λ pair pair_in. cond_none-from_branch (is_live p.rank pair.1)
    (onto_reason es p r pair (n.placed r pair.0)) (λ live.
    let f = entry_at-some es (n.placed r incoming) p q in
    onto_reason-from_tree n es p r pair (n.placed r pair.0) refl tree f.0
    (record {
      incoming = incoming;
      pairs = pairs;
      row = row;
      from = f.1;
      pair = pair_in;
      live =
          is_live-true p.rank pair.1 live;
    })))

-- no vif of a router with an open row is placed on a LAN of the list
entry_at-none_at_open_row : (n : Net) (es : List Entry) (r v : ℕ) (o : Option Entry) →
    entry_at es (n.placed r v) ≡ o → n.row r ≡ Open → IsTree n es →
    entry_at es (n.placed r v) ≡ None
entry_at-none_at_open_row n es r v None q wild tree = q
entry_at-none_at_open_row n es r v (Some e) q wild tree = absurd (let f =
    entry_at-some es (n.placed r v) e q in tree.no_wildcard e r v f.0 wild f.1)

-- so no row has one
row_reason-from_tree : (n : Net) (es : List Entry) (r : ℕ) (row : Row) → n.row r ≡ row → IsTree n es →
    row_reason n es r row ≡ None
row_reason-from_tree n es r (Exact incoming pairs) q tree = pairs_reason-from_tree n es r incoming pairs
    (entry_at es (n.placed r incoming)) q refl tree
row_reason-from_tree n es r Open q tree =
    first_of-from_none_each (λ v. unless (not (is_some (entry_at es (n.placed r v))))
    (Wildcard r v)) (below 32) (λ v _. unless-from_true (not (is_some (entry_at es (n.placed r v))))
    (Wildcard r v) (not_is_some-from_none (entry_at es (n.placed r v))
    (entry_at-none_at_open_row n es r v (entry_at es (n.placed r v)) refl q tree)))
row_reason-from_tree n es r NoRow q tree = refl

-- an accepted list has no reason
first_reason-from_accepted : (n : Net) (count : ℕ) (es : List Entry) → IsAccepted n es →
    first_reason n count es ≡ None
first_reason-from_accepted n count es acc =
    let t = acc.is_tree in
    then-from_none (twice [] es) (unless (has_source n es) BadSource then first_router_reason n es
    then first_unfed_reason n es then first_of (lan_reason n es) (below count))
    (twice-from_distinct [] es t.one_entry (λ d e k z. absurd k))
    (then-from_none (unless (has_source n es) BadSource)
    (first_router_reason n es then first_unfed_reason n es
    then first_of (lan_reason n es) (below count))
    (unless-from_true (has_source n es) BadSource (and_from (is_source_entry (entry_on es n.source))
    (list_all (λ (e : Entry). (e.lan == n.source) || is_some e.forwarder) es)
    (ap is_source_entry (entry_on-of_member es (source_entry_of n) t.one_entry t.source_entry))
    (list_all-from_each (λ (e : Entry). (e.lan == n.source) || is_some e.forwarder) es
    (λ e e_in. others_fed_test-from_fed n e (t.others_fed e e_in)))))
    (then-from_none (first_router_reason n es)
    (first_unfed_reason n es then first_of (lan_reason n es) (below count))
    (first_of-from_none_each (λ r. row_reason n es r (n.row r)) (below n.routers)
    (λ r _. row_reason-from_tree n es r (n.row r) refl t))
    (then-from_none (first_unfed_reason n es) (first_of (lan_reason n es) (below count))
    (first_of-from_none_each (λ (e : Entry). unless (is_fed n es e.lan e.forwarder) (Unfed e.lan)) es
    (λ e e_in. unless-from_true (is_fed n es e.lan e.forwarder) (Unfed e.lan)
    (is_fed-from_feeds n es e.lan e.forwarder t.one_entry (λ r v q. t.fed e r v e_in q))))
    (first_of-from_none_each (lan_reason n es) (below count) (λ l _. cond_none-from_branch (n.wants l)
    (need_reason n.ttl l (entry_on es l)) (λ w. let s =
    acc.served l w in need_reason-from_served n es l t.one_entry s.0 s.1 s.2 s.3))))))

-- so there is none exactly where the list is accepted
pub first_reason-none_iff_accepted : (n : Net) (count : ℕ) (es : List Entry) → IsNet n → WantsBelow n count →
    (first_reason n count es ≡ None) ↔ IsAccepted n es
first_reason-none_iff_accepted n count es net small = (
  (λ h. is_accepted-from_no_reason n count es net small h),
  first_reason-from_accepted n count es,
)
