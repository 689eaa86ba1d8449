-- Why packets that meet a finding's need show it, and that each finding has one.
use Rattle.std.proofs.Common.{◌≡◌, ℕ, suc, ◌+◌, ◌≤◌, ◌⊎◌, inl, inr, max, Bool, true, false, cond}
use Rattle.std.proofs.Common.{◌==◌, List, [], ◌∷◌, length, Some, refl, ap, sym, ◌∙◌}
use Rattle.std.proofs.Common.{subst, arith, eq-eqb}
use Rattle.mc_theory.specs.Lists.{In, Distinct, count_of}
use Rattle.mc_theory.specs.Nets.{Net, IsNet, WantsBelow}
use Rattle.mc_theory.specs.Nets.Row.{Exact, Open}
use Rattle.mc_theory.specs.Flights.{Copy, Flight, Pick, IsCompleteRun, copy_count_on, run, start}
use Rattle.mc_theory.specs.Certificates.{lans}
use Rattle.mc_theory.specs.Findings.{Finding, IsTravel, first_copy_on, handles}
use Rattle.mc_theory.specs.Findings.Finding.{Clean, Duplicate, Loop, Stray, Missed}
use Rattle.mc_theory.specs.FindingMeaning.{FirstDoubleWalk, Shows}
use Rattle.mc_theory.specs.Paths.{Hop, IsPath, PassesHops, CameByHops, need}
use Rattle.mc_theory.specs.ExcludedRouters.{IsSecondCopyOrStray}
use Rattle.mc_theory.specs.ShownFrom.{FirstCameByHops, RestsOnTwoCopies, RestsOnSentCopy, RestsOnOpenRow}
use Rattle.mc_theory.specs.ShownFrom.{IsShownFrom, EachCompleteRunHasFault}
use Rattle.mc_theory.proofs.ListLemmas.{equal-from_same_image}
use Rattle.mc_theory.proofs.CertificateOfRun.{first_copy_on-of_member}
use Rattle.mc_theory.proofs.WalkBack.{in-first_copy_on}
use Rattle.mc_theory.proofs.FindingMeaning.{shows-travel_finding}
use Rattle.mc_theory.proofs.Paths.{need_at_most-from_passes, passes_hops-from_need}
use Rattle.mc_theory.proofs.CameByHops.{came_by_hops, is_path-from_travel, lan-first_copy_on}
use Rattle.mc_theory.proofs.CameByHops.{copy_equal-from_some, lan_equal-from_some, row_equal-from_exact}
use Rattle.mc_theory.proofs.CameByHops.{in-first_double, first_double-unique}
use Rattle.mc_theory.proofs.Hops.{came_by_hops-unique}
use Rattle.mc_theory.proofs.EachHearerForwards.{AreAllHandled, are_all_handled-complete_run, last_sender}
use Rattle.mc_theory.proofs.EachHearerForwards.{carried_by_path-all_handled, strayed-by_pair}
use Rattle.mc_theory.proofs.EachHearerForwards.{strayed-at_open_row}
use Rattle.mc_theory.proofs.SpareInterface.{distinct_senders-travel, earlier_copy-of_first_double}
use Rattle.mc_theory.proofs.SpareInterface.{first_and_double-other_senders}
use Rattle.mc_theory.proofs.StrayOrigins.{LeftBy, CameToOpenRow, is_stray_of-run}

-- ---- two copies are counted twice

count_of-some : {A : Type 0} (p : A → Bool) (x : A) (xs : List A) (test : Bool) → p x ≡ test → test ≡ true →
    (n : ℕ) → n ≤ count_of p xs → suc n ≤ cond test (suc (count_of p xs)) (count_of p xs)
count_of-some p x xs true q first n le = omega (arith, le)
count_of-some p x xs false q first n le = absurd cc

count_of-more : {A : Type 0} (p : A → Bool) (xs : List A) (test : Bool) (n : ℕ) → n ≤ count_of p xs →
    n ≤ cond test (suc (count_of p xs)) (count_of p xs)
count_of-more p xs true n le = omega (arith, le)
count_of-more p xs false n le = le

count_of-one : {A : Type 0} (p : A → Bool) (x : A) (xs : List A) → In x xs → p x ≡ true → 1 ≤ count_of p xs
count_of-one p x [] h first = absurd h
count_of-one p x (y ∷ ys) (inl e) first =
    count_of-some p y ys (p y) refl (ap p e ∙ first) 0 (omega arith)
count_of-one p x (y ∷ ys) (inr h) first = count_of-more p ys (p y) 1 (count_of-one p x ys h first)

count_of-two : {A : Type 0} (p : A → Bool) (x z : A) (xs : List A) → In x xs → In z xs → (x ≡ z → ⊥) →
    p x ≡ true → p z ≡ true → 2 ≤ count_of p xs
count_of-two p x z [] h k apart first second = absurd h
count_of-two p x z (y ∷ ys) (inl e) (inl q) apart first second = absurd (apart (sym e ∙ q))
count_of-two p x z (y ∷ ys) (inl e) (inr k) apart first second =
    count_of-some p y ys (p y) refl (ap p e ∙ first) 1 (count_of-one p z ys k second)
count_of-two p x z (y ∷ ys) (inr h) (inl q) apart first second =
    count_of-some p y ys (p y) refl (ap p q ∙ second) 1 (count_of-one p x ys h first)
count_of-two p x z (y ∷ ys) (inr h) (inr k) apart first second =
    count_of-more p ys (p y) 2 (count_of-two p x z ys h k apart first second)

-- ---- a second copy

last_sender-came_by_hops : (n : Net) (cs : List Copy) (c : Copy) (hs : List Hop) → CameByHops n cs c hs →
    c.sender ≡ last_sender hs
last_sender-came_by_hops n cs c [] came = came
last_sender-came_by_hops n cs c (h ∷ hs) came = came.0

two_copies-by_paths : (n : Net) (t : ℕ) (f : Flight) (hs ks : List Hop) (l : ℕ) → AreAllHandled n t f →
    IsPath n n.source hs l → PassesHops t hs → IsPath n n.source ks l → PassesHops t ks →
    (last_sender hs ≡ last_sender ks → ⊥) → 2 ≤ copy_count_on f.carried l
two_copies-by_paths n t f hs ks l all path passes other too apart =
    let c = carried_by_path-all_handled n t f hs l all path passes in
    let d = carried_by_path-all_handled n t f ks l all other too in
    count_of-two (λ (x : Copy). x.lan == l) c.0 d.0 f.carried c.1 d.1
    (λ e. apart (sym c.4 ∙ (ap (λ (x : Copy). x.sender) e ∙ d.4)))
    (eq-eqb c.0.lan l c.2) (eq-eqb d.0.lan l d.2)

-- what a travel's first copy of a LAN came by is a path there
is_path-first_came : (n : Net) (count s : ℕ) (numbers : List ℕ) (last : Bool) (is : List ℕ) (x : Finding)
    (l : ℕ) (hs : List Hop) → IsNet n → IsTravel n count numbers last is (start n s) x →
    FirstCameByHops n (run n (handles is) (start n s)).carried l hs →
    IsPath n n.source hs l × PassesHops s hs
is_path-first_came n count s numbers last is x l hs net travel came =
    let cs = (run n (handles is) (start n s)).carried in
    let path = is_path-from_travel n count s numbers last is x came.first hs net travel
    (in-first_copy_on cs l came.first came.first_on) came.came in
    (subst (IsPath n n.source hs) (lan-first_copy_on cs l came.first came.first_on) path.0, path.1)

two_copies-shown : (n : Net) (count s t : ℕ) (numbers : List ℕ) (last : Bool) (is : List ℕ) (x : Finding)
    (l k : ℕ) (ps : List Pick) → IsNet n → IsTravel n count numbers last is (start n s) x →
    RestsOnTwoCopies n (run n (handles is) (start n s)).carried l k → k ≤ t → IsCompleteRun n t ps →
    2 ≤ copy_count_on (run n ps (start n t)).carried l
two_copies-shown n count s t numbers last is x l k ps net travel r le complete =
    let cs = (run n (handles is) (start n s)).carried in
    let need_is = r.need_is in
    let first = is_path-first_came n count s numbers last is x l r.first_path net travel r.first in
    let second = is_path-from_travel n count s numbers last is x r.second r.second_path net travel
    (in-first_double cs r.second r.first_double) r.came in
    let on = subst (λ m. first_copy_on cs m ≡ Some r.first.first) (sym r.on) r.first.first_on in
    let apart = first_and_double-other_senders cs r.second r.first.first
    (distinct_senders-travel n count s numbers last is x net travel) r.first_double on in
    two_copies-by_paths n t (run n ps (start n t)) r.first_path r.second_path l
    (are_all_handled-complete_run n t ps net complete) first.0
    (passes_hops-from_need t r.first_path (omega (arith, need_is, le)))
    (subst (IsPath n n.source r.second_path) r.on second.0)
    (passes_hops-from_need t r.second_path (omega (arith, need_is, le)))
    (λ e. apart (last_sender-came_by_hops n cs r.first.first r.first_path r.first.came
    ∙ (e ∙ sym (last_sender-came_by_hops n cs r.second r.second_path r.came))))

-- ---- a stray

stray-shown : (n : Net) (count s t : ℕ) (numbers : List ℕ) (last : Bool) (is : List ℕ) (x : Finding)
    (r v k : ℕ) (ps : List Pick) → IsNet n → IsTravel n count numbers last is (start n s) x →
    RestsOnSentCopy n (run n (handles is) (start n s)).carried r v k
    ⊎ RestsOnOpenRow n (run n (handles is) (start n s)).carried r v k →
    k ≤ t → IsCompleteRun n t ps → In (r, v) (run n ps (start n t)).strays
stray-shown n count s t numbers last is x r v k ps net travel (inl q) le complete =
    let need_is = q.need_is in
    let path = is_path-first_came n count s numbers last is x q.lan q.path net travel q.first in
    strayed-by_pair n t (run n ps (start n t)) q.path q.lan r v q.threshold q.incoming q.pairs
    (are_all_handled-complete_run n t ps net complete) path.0
    (passes_hops-from_need t q.path (omega (arith, need_is, le))) q.row q.takes q.pair
    (omega (arith, need_is, le)) q.unplaced
stray-shown n count s t numbers last is x r v k ps net travel (inr q) le complete =
    let need_is = q.need_is in
    let path = is_path-first_came n count s numbers last is x q.lan q.path net travel q.first in
    strayed-at_open_row n t (run n ps (start n t)) q.path q.lan r v
    (are_all_handled-complete_run n t ps net complete) path.0
    (passes_hops-from_need t q.path (omega (arith, need_is, le))) q.row q.placed

pub each_complete_run_has_fault : (n : Net) (count s t k : ℕ) (numbers : List ℕ) (last : Bool)
    (is : List ℕ) (y x : Finding) → IsNet n → IsTravel n count numbers last is (start n s) y →
    IsShownFrom n (run n (handles is) (start n s)).carried x k → k ≤ t → EachCompleteRunHasFault n t x
each_complete_run_has_fault n count s t k numbers last is y (Duplicate l) net travel r le ps complete =
    two_copies-shown n count s t numbers last is y l k ps net travel r le complete
each_complete_run_has_fault n count s t k numbers last is y (Loop l) net travel r le ps complete =
    two_copies-shown n count s t numbers last is y l k ps net travel r le complete
each_complete_run_has_fault n count s t k numbers last is y (Stray r v) net travel q le ps complete =
    stray-shown n count s t numbers last is y r v k ps net travel q le complete
each_complete_run_has_fault n count s t k numbers last is y Clean net travel r le ps complete = absurd r
each_complete_run_has_fault n count s t k numbers last is y (Missed l) net travel r le ps complete = absurd r

-- ---- each finding has a need

-- the finding is shown from some TTL that is at most s
abbrev pub HasNeedUpTo : Net → List Copy → Finding → (s : ℕ) → Type 0
HasNeedUpTo n cs x s = (k : ℕ) × IsShownFrom n cs x k × (k ≤ s)

rests_on_two_copies-exists : (n : Net) (count s : ℕ) (numbers : List ℕ) (last : Bool) (is : List ℕ)
    (x : Finding) (l : ℕ) → IsNet n → 1 ≤ s → IsTravel n count numbers last is (start n s) x →
    FirstDoubleWalk n (run n (handles is) (start n s)) l →
    (k : ℕ) × RestsOnTwoCopies n (run n (handles is) (start n s)).carried l k × (k ≤ s)
rests_on_two_copies-exists n count s numbers last is x l net low travel d =
    let cs = (run n (handles is) (start n s)).carried in
    let c_in = in-first_double cs d.copy d.first in
    let over = came_by_hops n count s numbers last is x d.copy travel c_in in
    let passes = (is_path-from_travel n count s numbers last is x d.copy over.0 net travel c_in over.1).1 in
    let a = earlier_copy-of_first_double cs d.copy d.first in
    let a_in = in-first_copy_on cs d.copy.lan a.0 a.1 in
    let path = came_by_hops n count s numbers last is x a.0 travel a_in in
    let comes = (is_path-from_travel n count s numbers last is x a.0 path.0 net travel a_in path.1).1 in
    let le = need_at_most-from_passes s over.0 low passes in
    let near = need_at_most-from_passes s path.0 low comes in (
      max (need path.0) (need over.0),
      record {
        first_path = path.0;
        first = record {
          first = a.0;
          first_on = subst (λ m. first_copy_on cs m ≡ Some a.0) d.lan a.1;
          came = path.1;
        };
        second = d.copy;
        first_double = d.first;
        on = d.lan;
        second_path = over.0;
        came = over.1;
        need_is = refl;
      },
      omega (arith, le, near),
    )

-- a travel's copy is its LAN's first one, where no LAN carried two
first_came-of_copy : (n : Net) (count s : ℕ) (numbers : List ℕ) (last : Bool) (is : List ℕ) (x : Finding)
    (b : Copy) → IsNet n → IsTravel n count numbers last is (start n s) x →
    Distinct (lans (run n (handles is) (start n s)).carried) →
    In b (run n (handles is) (start n s)).carried →
    (hs : List Hop) × FirstCameByHops n (run n (handles is) (start n s)).carried b.lan hs
    × PassesHops s hs × (b.ttl + length hs ≡ s)
first_came-of_copy n count s numbers last is x b net travel once b_in =
    let cs = (run n (handles is) (start n s)).carried in
    let over = came_by_hops n count s numbers last is x b travel b_in in
    let path = is_path-from_travel n count s numbers last is x b over.0 net travel b_in over.1 in (
      over.0,
      record { first = b; first_on = first_copy_on-of_member b cs once b_in; came = over.1 },
      path.1,
      path.2,
    )

rests_on_stray-exists : (n : Net) (count s : ℕ) (numbers : List ℕ) (last : Bool) (is : List ℕ)
    (x : Finding) (r v : ℕ) (b : Copy) → IsNet n → 1 ≤ s → IsTravel n count numbers last is (start n s) x →
    Distinct (lans (run n (handles is) (start n s)).carried) →
    In b (run n (handles is) (start n s)).carried → LeftBy n b (r, v) ⊎ CameToOpenRow n b (r, v) →
    HasNeedUpTo n (run n (handles is) (start n s)).carried (Stray r v) s
rests_on_stray-exists n count s numbers last is x r v b net low travel once b_in (inl q) =
    let came = first_came-of_copy n count s numbers last is x b net travel once b_in in
    let le = need_at_most-from_passes s came.0 low came.2 in
    let passed = q.passed in
    let ttl = came.3 in (
      max (need came.0) (length came.0 + q.threshold + 1),
      inl (record {
        incoming = q.incoming;
        pairs = q.pairs;
        threshold = q.threshold;
        row = q.row;
        pair = q.pair;
        unplaced = q.unplaced;
        lan = b.lan;
        takes = q.from;
        path = came.0;
        first = came.1;
        need_is = refl;
      }),
      omega (arith, le, passed, ttl),
    )
rests_on_stray-exists n count s numbers last is x r v b net low travel once b_in (inr q) =
    let came = first_came-of_copy n count s numbers last is x b net travel once b_in in (
      need came.0,
      inr (record {
        row = q.row;
        lan = b.lan;
        placed = q.placed;
        path = came.0;
        first = came.1;
        need_is = refl;
      }),
      need_at_most-from_passes s came.0 low came.2,
    )

has_need-from_shown : (n : Net) (count s : ℕ) (numbers : List ℕ) (last : Bool) (is : List ℕ)
    (y x : Finding) → IsNet n → 1 ≤ s → IsTravel n count numbers last is (start n s) y →
    IsSecondCopyOrStray x → Shows n (run n (handles is) (start n s)) x →
    HasNeedUpTo n (run n (handles is) (start n s)).carried x s
has_need-from_shown n count s numbers last is y (Duplicate l) net low travel fault shows =
    rests_on_two_copies-exists n count s numbers last is y l net low travel shows.0
has_need-from_shown n count s numbers last is y (Loop l) net low travel fault shows =
    rests_on_two_copies-exists n count s numbers last is y l net low travel shows.0
has_need-from_shown n count s numbers last is y (Stray r v) net low travel fault shows =
    let f = run n (handles is) (start n s) in
    let here = subst (λ js. In (r, v) js) (sym shows.1.1) (inl refl) in
    let b = is_stray_of-run n s (handles is) (r, v) here in
    rests_on_stray-exists n count s numbers last is y r v b.0 net low travel shows.0 b.1 b.2
has_need-from_shown n count s numbers last is y Clean net low travel fault shows = absurd fault
has_need-from_shown n count s numbers last is y (Missed l) net low travel fault shows = absurd fault

pub has_need-travel : (n : Net) (count s : ℕ) (numbers : List ℕ) (last : Bool) (is : List ℕ)
    (x : Finding) → IsNet n → WantsBelow n count → 1 ≤ s →
    IsTravel n count numbers last is (start n s) x → IsSecondCopyOrStray x →
    HasNeedUpTo n (run n (handles is) (start n s)).carried x s
has_need-travel n count s numbers last is x net wants low travel fault =
    has_need-from_shown n count s numbers last is x x net low travel fault
    (shows-travel_finding n count s numbers last is x wants travel)

-- ---- and no other

first_came-unique : (n : Net) (cs : List Copy) (l m : ℕ) (hs ks : List Hop) → IsNet n → l ≡ m →
    FirstCameByHops n cs l hs → FirstCameByHops n cs m ks → hs ≡ ks
first_came-unique n cs l m hs ks net e a b =
    let on = subst (λ z. first_copy_on cs z ≡ Some a.first) e a.first_on in
    let same = copy_equal-from_some (first_copy_on cs m) a.first b.first on b.first_on in
    came_by_hops-unique n cs b.first hs ks net (subst (λ z. CameByHops n cs z hs) same a.came) b.came

two_copies-unique : (n : Net) (cs : List Copy) (l k m : ℕ) → IsNet n → RestsOnTwoCopies n cs l k →
    RestsOnTwoCopies n cs l m → k ≡ m
two_copies-unique n cs l k m net a b =
    let first = first_came-unique n cs l l a.first_path b.first_path net refl a.first b.first in
    let same = first_double-unique cs a.second b.second a.first_double b.first_double in
    let second = came_by_hops-unique n cs b.second a.second_path b.second_path net
    (subst (λ z. CameByHops n cs z a.second_path) same a.came) b.came in
    a.need_is ∙ (ap (λ hs. max (need hs) (need a.second_path)) first
    ∙ (ap (λ hs. max (need b.first_path) (need hs)) second ∙ sym b.need_is))

sent_copy-unique : (n : Net) (cs : List Copy) (r v k m : ℕ) → IsNet n → RestsOnSentCopy n cs r v k →
    RestsOnSentCopy n cs r v m → k ≡ m
sent_copy-unique n cs r v k m net a b =
    let same = row_equal-from_exact (n.row r) a.incoming b.incoming a.pairs b.pairs a.row b.row in
    let pair = subst (λ ps. In (v, a.threshold) ps) same.1 a.pair in
    let one = equal-from_same_image (λ (p : ℕ × ℕ). p.0) (v, a.threshold) (v, b.threshold) b.pairs
    (net.vifs r b.incoming b.pairs b.row) pair b.pair refl in
    let threshold = ap (λ (p : ℕ × ℕ). p.1) one in
    let lan = lan_equal-from_some (n.placed r b.incoming) a.lan b.lan
    (ap (n.placed r) (sym same.0) ∙ a.takes) b.takes in
    let path = first_came-unique n cs a.lan b.lan a.path b.path net lan a.first b.first in
    a.need_is ∙ (ap (λ hs. max (need hs) (length hs + a.threshold + 1)) path
    ∙ (ap (λ h. max (need b.path) (length b.path + h + 1)) threshold ∙ sym b.need_is))

open_row-unique : (n : Net) (cs : List Copy) (r v k m : ℕ) → IsNet n → RestsOnOpenRow n cs r v k →
    RestsOnOpenRow n cs r v m → k ≡ m
open_row-unique n cs r v k m net a b =
    let lan = lan_equal-from_some (n.placed r v) a.lan b.lan a.placed b.placed in
    let path = first_came-unique n cs a.lan b.lan a.path b.path net lan a.first b.first in
    a.need_is ∙ (ap need path ∙ sym b.need_is)

stray-unique : (n : Net) (cs : List Copy) (r v k m : ℕ) → IsNet n →
    RestsOnSentCopy n cs r v k ⊎ RestsOnOpenRow n cs r v k →
    RestsOnSentCopy n cs r v m ⊎ RestsOnOpenRow n cs r v m → k ≡ m
stray-unique n cs r v k m net (inl a) (inl b) = sent_copy-unique n cs r v k m net a b
stray-unique n cs r v k m net (inr a) (inr b) = open_row-unique n cs r v k m net a b
stray-unique n cs r v k m net (inl a) (inr b) =
    absurd (let both : Exact a.incoming a.pairs ≡ Open = sym a.row ∙ b.row in cc)
stray-unique n cs r v k m net (inr a) (inl b) =
    absurd (let both : Exact b.incoming b.pairs ≡ Open = sym b.row ∙ a.row in cc)

pub need-unique : (n : Net) (cs : List Copy) (x : Finding) (k m : ℕ) → IsNet n → IsShownFrom n cs x k →
    IsShownFrom n cs x m → k ≡ m
need-unique n cs (Duplicate l) k m net a b = two_copies-unique n cs l k m net a b
need-unique n cs (Loop l) k m net a b = two_copies-unique n cs l k m net a b
need-unique n cs (Stray r v) k m net a b = stray-unique n cs r v k m net a b
need-unique n cs Clean k m net a b = absurd a
need-unique n cs (Missed l) k m net a b = absurd a
