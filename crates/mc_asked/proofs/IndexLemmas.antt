-- What the indexes hold by which wants are looked up.
use Rattle.std.proofs.Common.{◌≡◌, ℕ, ◌+◌, ◌<◌, Bool, true, false, cond, List, [], ◌∷◌}
use Rattle.std.proofs.Common.{◌++◌, length, map, filter, drop, get_or, refl, sym, ap, ap₂, ◌∙◌, arith}
use Rattle.std.proofs.Common.{Option, None, Some, suc, subst, append-nil, append_assoc, ◌≤◌}
use Rattle.std.specs.Prelude.{IfNone, IfSome, is_some}
use Rattle.std.proofs.lemmas.List.Folds.{list_any_at}
use Rattle.std.specs.Bool.{Decides}
use Rattle.std.proofs.lemmas.Bool.{eqb-true, eq-eqb}
use Rattle.std.proofs.lemmas.List.{drop_more, drop_all, get_or_default}
use Rattle.mc_igmp.specs.Wants.{Wants}
use Rattle.std.specs.Prelude.{◌&&◌, ◌||◌, ◌↔◌, ◌==◌, IsTrue, Contains}
use Rattle.std.specs.List.{list_any}
use Rattle.std.proofs.lemmas.Bool.Decides.{nat_tests}
use Rattle.mc_igmp.specs.declared.record.Record.{Record}
use Rattle.mc_text.specs.Pair.{pair_number, pair_of}
use Rattle.mc_filter.specs.ChannelPlaces.{IsWantedAnswer}
use Rattle.mc_filter.specs.FilterBuilding.{has_exclude, is_exclude, wanted}
use Rattle.mc_filter.specs.SourceFilter.{has}
use Rattle.mc_filter.proofs.AscendingLemmas.{Decides-has}
use Rattle.mc_filter.proofs.MergedLemmas.{Decides-wanted}
use Rattle.mc_asked.specs.Indexes.{AreFlowsWanted, IsIndexOfExcludes, IsIndexOfPairs, IsIndexOfGroups}
use Rattle.mc_filter.specs.ChannelWants.{is_wanted_group}
use Rattle.mc_asked.specs.Indexes.{IsIndexOfWantedGroups}
use Rattle.mc_asked.specs.Answers.{AnswersValue, is_answer, is_answered}
use Rattle.mc_asked.specs.ListWants.{Want}

-- ---- tests of some element

-- a test of changed elements is a test of the elements
pub list_any-map : {X Y : Type 0} (p : Y → Bool) (f : X → Y) (xs : List X)
    → list_any p (map f xs) ≡ list_any (λ x. p (f x)) xs
list_any-map p f [] = refl
list_any-map p f (x ∷ xs) = ap (λ (b : Bool). p (f x) || b) (list_any-map p f xs)

-- one element more, by whether the filter keeps it
list_any-filter_step : (b : Bool) (a r : Bool) → cond b (a || r) r ≡ ((a && b) || r)
list_any-filter_step true true r = refl
list_any-filter_step true false r = refl
list_any-filter_step false true r = refl
list_any-filter_step false false r = refl

-- the test of one of two lists
list_any-cond : {X : Type 0} (p : X → Bool) (b : Bool) (xs ys : List X)
    → list_any p (cond b xs ys) ≡ cond b (list_any p xs) (list_any p ys)
list_any-cond p true xs ys = refl
list_any-cond p false xs ys = refl

-- some element that a filter keeps passes a test exactly if some element passes both
pub list_any-filter : {X : Type 0} (p q : X → Bool) (xs : List X)
    → list_any p (filter q xs) ≡ list_any (λ x. p x && q x) xs
list_any-filter p q [] = refl
list_any-filter p q (x ∷ xs) =
    list_any-cond p (q x) (x ∷ filter q xs) (filter q xs)
    ∙ list_any-filter_step (q x) (p x) (list_any p (filter q xs))
    ∙ ap (λ (b : Bool). (p x && q x) || b) (list_any-filter p q xs)

-- an index of these numbers has one exactly if a test finds it
contains-iff_test : (index numbers : List ℕ) (n : ℕ) (b : Bool)
    → Contains index n ↔ Contains numbers n → has numbers n ≡ b → Contains index n ↔ IsTrue b
contains-iff_test index numbers n b same is = grind (arith, Decides-has numbers n)

-- ---- the groups of EXCLUDE records

-- the groups of the EXCLUDE records
abbrev pub excluded_numbers : List Record → List ℕ
excluded_numbers records = map (λ r. r.group) (filter (λ r. is_exclude r.kind) records)

-- these have a group exactly if an EXCLUDE record is for it
has-excluded_numbers : (records : List Record) (group : ℕ)
    → has (excluded_numbers records) group ≡ has_exclude records group
has-excluded_numbers records group =
    list_any-map (λ a. a == group) (λ (r : Record). r.group) (filter (λ (r : Record). is_exclude
    r.kind) records)
    ∙ list_any-filter (λ (r : Record). r.group == group) (λ (r : Record). is_exclude r.kind) records

-- an index of these numbers is one of the groups that EXCLUDE records are for
pub is_index_of_excludes : (records : List Record) (index numbers : List ℕ)
    → numbers ≡ excluded_numbers records → ((n : ℕ) → Contains index n ↔ Contains numbers n)
    → IsIndexOfExcludes records index
is_index_of_excludes records index numbers is same group =
    contains-iff_test index numbers group (has_exclude records group) (same group)
    (ap (λ (ns : List ℕ). has ns group) is ∙ has-excluded_numbers records group)

-- ---- the groups of flows

-- an index of the second parts of pairs is one of their groups
pub is_index_of_groups : (pairs : List (ℕ × ℕ)) (index numbers : List ℕ)
    → numbers ≡ map (λ p. p.1) pairs → ((n : ℕ) → Contains index n ↔ Contains numbers n)
    → IsIndexOfGroups pairs index
is_index_of_groups pairs index numbers is same group =
    contains-iff_test index numbers group (list_any (λ (p : ℕ × ℕ). p.1 == group) pairs) (same group)
    (ap (λ (ns : List ℕ). has ns group) is ∙ list_any-map (λ a. a == group) (λ (p : ℕ × ℕ). p.1) pairs)

-- ---- pairs as numbers

-- the numbers of two pairs are equal exactly if both parts are
same_number : (p q : ℕ × ℕ) → pair_of (pair_number p) ≡ p → pair_of (pair_number q) ≡ q
    → (pair_number p == pair_number q) ≡ ((p.0 == q.0) && (p.1 == q.1))
same_number p q own other =
    let p0 = ap (λ (x : ℕ × ℕ). x.0) own in
    let p1 = ap (λ (x : ℕ × ℕ). x.1) own in
    let q0 = ap (λ (x : ℕ × ℕ). x.0) other in
    let q1 = ap (λ (x : ℕ × ℕ). x.1) other in
    grind (arith, nat_tests, p0, p1, q0, q1)

-- The numbers of pairs have that of a pair exactly if it is one of them, since a number gives its pair
-- back.
has-pair_numbers : (pairs : List (ℕ × ℕ)) (pair : ℕ × ℕ) → map pair_of (map pair_number pairs) ≡ pairs
    → pair_of (pair_number pair) ≡ pair
    → has (map pair_number pairs) (pair_number pair)
    ≡ list_any (λ p. (p.0 == pair.0) && (p.1 == pair.1)) pairs
has-pair_numbers [] pair each own = refl
has-pair_numbers (p ∷ ps) pair each own =
    let first : pair_of (pair_number p) ≡ p = cc in
    let rest : map pair_of (map pair_number ps) ≡ ps = cc in
    ap₂ (λ (a b : Bool). a || b) (same_number p pair first own) (has-pair_numbers ps pair rest own)

-- an index of the numbers of pairs is one of the pairs
pub is_index_of_pairs : (pairs : List (ℕ × ℕ)) (index numbers : List ℕ)
    → numbers ≡ map pair_number pairs → map pair_of numbers ≡ pairs
    → ((n : ℕ) → Contains index n ↔ Contains numbers n) → IsIndexOfPairs pairs index
is_index_of_pairs pairs index numbers is back same pair own =
    contains-iff_test index numbers (pair_number pair)
    (list_any (λ (p : ℕ × ℕ). (p.0 == pair.0) && (p.1 == pair.1)) pairs) (same (pair_number pair))
    (ap (λ (ns : List ℕ). has ns (pair_number pair)) is
    ∙ has-pair_numbers pairs pair (ap (map pair_of) (sym is) ∙ back) own)

-- ---- the groups of wanted flows

-- the groups of the flows that are wanted, by the answer for each
abbrev pub groups_of_wanted : List (ℕ × ℕ) → List Bool → List ℕ
groups_of_wanted [] answers = []
groups_of_wanted (f ∷ fs) [] = []
groups_of_wanted (f ∷ fs) (b ∷ bs) = cond b (f.1 ∷ groups_of_wanted fs bs) (groups_of_wanted fs bs)

-- the flows from a place on, with the one there
groups_of_wanted-drop : (flows : List (ℕ × ℕ)) (answers : List Bool) (i : ℕ) (flow : ℕ × ℕ) (b : Bool)
    → i < length flows → length answers ≡ length flows → flow ≡ get_or flows i flow
    → get_or answers i false ≡ b
    → groups_of_wanted (drop i flows) (drop i answers)
    ≡ cond b (flow.1 ∷ groups_of_wanted (drop (i + 1) flows) (drop (i + 1) answers))
    (groups_of_wanted (drop (i + 1) flows) (drop (i + 1) answers))
groups_of_wanted-drop flows answers i flow b within count own is =
    ap₂ groups_of_wanted
    (drop_more flows i flow within ∙ ap (λ (f : ℕ × ℕ). f ∷ drop (i + 1) flows) (sym own))
    (drop_more answers i false (omega (arith, within, count))
    ∙ ap (λ (a : Bool). a ∷ drop (i + 1) answers) is)

-- the group of a wanted flow is added
pub groups_of_wanted-more : (flows : List (ℕ × ℕ)) (answers : List Bool) (numbers new all : List ℕ) (i n : ℕ)
    (flow : ℕ × ℕ) → i < length flows → length answers ≡ length flows → flow ≡ get_or flows i flow
    → get_or answers i false ≡ true → n ≡ flow.1 → new ≡ numbers ++ n ∷ []
    → numbers ++ groups_of_wanted (drop i flows) (drop i answers) ≡ all
    → new ++ groups_of_wanted (drop (i + 1) flows) (drop (i + 1) answers) ≡ all
groups_of_wanted-more flows answers numbers new all i n flow within count own is group pushed before =
    let rest = groups_of_wanted (drop (i + 1) flows) (drop (i + 1) answers) in
    ap (λ (l : List ℕ). l ++ rest) (pushed ∙ ap (λ (m : ℕ). numbers ++ m ∷ []) group)
    ∙ append_assoc numbers (flow.1 ∷ []) rest
    ∙ ap (λ (l : List ℕ). numbers ++ l) (sym (groups_of_wanted-drop flows answers i flow true within
    count own is))
    ∙ before

-- another flow adds nothing
pub groups_of_wanted-skip : (flows : List (ℕ × ℕ)) (answers : List Bool) (numbers all : List ℕ) (i : ℕ)
    → i < length flows → length answers ≡ length flows → get_or answers i false ≡ false
    → numbers ++ groups_of_wanted (drop i flows) (drop i answers) ≡ all
    → numbers ++ groups_of_wanted (drop (i + 1) flows) (drop (i + 1) answers) ≡ all
groups_of_wanted-skip flows answers numbers all i within count is before =
    let flow : ℕ × ℕ = get_or flows i (0, 0) in
    ap (λ (l : List ℕ). numbers ++ l) (sym (groups_of_wanted-drop flows answers i flow false within count
    (get_or_default flows i (0, 0) flow within) is))
    ∙ before

-- when no flow is left, all have been added
pub groups_of_wanted-all : (flows : List (ℕ × ℕ)) (answers : List Bool) (numbers all : List ℕ) (i : ℕ)
    → length flows ≤ i → numbers ++ groups_of_wanted (drop i flows) (drop i answers) ≡ all → numbers ≡ all
groups_of_wanted-all flows answers numbers all i past before =
    sym (append-nil numbers)
    ∙ ap (λ (l : List (ℕ × ℕ)). numbers ++ groups_of_wanted l (drop i answers)) (sym (drop_all i flows past))
    ∙ before

-- two tests of one fact are equal
pub equal-from_decided : (b w : Bool) (P : Type 0) → (IsTrue b ↔ P) → Decides w P → b ≡ w
equal-from_decided b w P is decided = grind arith

-- a flow's answer says whether the records want its group from its source
answered : (records : List Record) (flow : ℕ × ℕ) (group : ℕ) (b : Bool) → IsWantedAnswer records flow b
    → ((flow.1 == group) && b) ≡ ((flow.1 == group) && wanted records group flow.0)
answered records flow group b is =
    elim (flow.1 == group) as
    (λ t. (flow.1 == group) ≡ t → (t && b) ≡ (t && wanted records group flow.0)) [
      | true ↦ λ e. subst (λ (g : ℕ). b ≡ wanted records g flow.0) (eqb-true flow.1 group e)
          (equal-from_decided b (wanted records flow.1 flow.0) (Wants records flow.1 flow.0) is
          (Decides-wanted records flow.1 flow.0))
      | false ↦ λ e. refl
    ] refl

-- These have a group exactly if some flow of the group is wanted, flow by flow.
has-groups_of_wanted : (records : List Record) (flows : List (ℕ × ℕ)) (answers : List Bool) (group : ℕ)
    → length answers ≡ length flows → AreFlowsWanted flows records answers
    → has (groups_of_wanted flows answers) group ≡ is_wanted_group flows records group
has-groups_of_wanted records [] answers group count each = refl
has-groups_of_wanted records (f ∷ fs) [] group count each = absurd (omega (arith, count))
has-groups_of_wanted records (f ∷ fs) (b ∷ bs) group count each =
    let rest = groups_of_wanted fs bs in
    list_any-cond (λ a. a == group) b (f.1 ∷ rest) rest
    ∙ list_any-filter_step b (f.1 == group) (has rest group)
    ∙ ap₂ (λ (x y : Bool). x || y) (answered records f group b (each 0 f b refl refl))
    (has-groups_of_wanted records fs bs group (omega (arith, count))
    (λ i flow w at is. each (suc i) flow w at is))

-- an index of these groups is one of the groups of wanted flows
pub is_index_of_wanted_groups : (records : List Record) (flows : List (ℕ × ℕ)) (answers : List Bool)
    (index numbers : List ℕ) → length answers ≡ length flows → AreFlowsWanted flows records answers
    → numbers ≡ groups_of_wanted flows answers → ((n : ℕ) → Contains index n ↔ Contains numbers n)
    → IsIndexOfWantedGroups flows records index
is_index_of_wanted_groups records flows answers index numbers count each is same group =
    contains-iff_test index numbers group (is_wanted_group flows records group) (same group)
    (ap (λ (ns : List ℕ). has ns group) is ∙ has-groups_of_wanted records flows answers group count each)

-- ---- look-ups

-- two tests of one fact are equal
equal_tests : (b w : Bool) (P : Type 0) → (IsTrue b ↔ P) → (P ↔ IsTrue w) → b ≡ w
equal_tests b w P there back = grind arith

-- what a look-up of a pair answers
pub has_pair-value : (index : List ℕ) (pairs : List (ℕ × ℕ)) (n : ℕ) (pair : ℕ × ℕ) (b : Bool)
    → IsIndexOfPairs pairs index → n ≡ pair_number pair → pair_of n ≡ pair
    → (IsTrue b ↔ Contains index n)
    → b ≡ list_any (λ p. (p.0 == pair.0) && (p.1 == pair.1)) pairs
has_pair-value index pairs n pair b each is back found =
    equal_tests b _ (Contains index (pair_number pair))
    (subst (λ (m : ℕ). IsTrue b ↔ Contains index m) is found) (each pair (ap pair_of (sym is) ∙ back))

-- whether a want of any source is answered, by the groups of wanted flows
pub is_answered-any : (a : AnswersValue) (records : List Record) (want : Want) (index : List ℕ) (n : ℕ)
    (b : Bool) → (want.1 == 0) ≡ true → IsIndexOfWantedGroups a.flows records index → n ≡ want.0
    → (IsTrue b ↔ Contains index n) → b ≡ is_answered a records want
is_answered-any a records want index n b any each is found =
    equal_tests b (is_wanted_group a.flows records want.0) (Contains index want.0)
    (subst (λ (m : ℕ). IsTrue b ↔ Contains index m) is found) (each want.0)
    ∙ ap (λ (t : Bool). list_any (λ (flow : ℕ × ℕ). cond t ((flow.1 == want.0)
    && wanted records want.0 flow.0) ((flow.0 == want.1) && (flow.1 == want.0))) a.flows) (sym any)

-- and whether one of a single source is, by the flows
pub is_answered-single : (flows : List (ℕ × ℕ)) (records : List Record) (want : Want) (index : List ℕ) (n : ℕ)
    (b : Bool) → (want.1 == 0) ≡ false → IsIndexOfPairs flows index → n ≡ pair_number (want.1, want.0)
    → pair_of n ≡ (want.1, want.0) → (IsTrue b ↔ Contains index n)
    → b ≡ list_any (is_answer records want) flows
is_answered-single flows records want index n b single each is back found =
    has_pair-value index flows n (want.1, want.0) b each is back found
    ∙ ap (λ (t : Bool). list_any (λ (flow : ℕ × ℕ). cond t ((flow.1 == want.0)
    && wanted records want.0 flow.0) ((flow.0 == want.1) && (flow.1 == want.0))) flows) (sym single)

-- what a look-up of a number answers
pub has-from_place : (index : List ℕ) (n : ℕ) (o : Option ℕ)
    → IfSome o (λ place. (place < length index) × (get_or index place 0 ≡ n)) → IfNone o (¬ Contains index n)
    → is_some o ≡ has index n
has-from_place index n None found none = not_contained index n none
  where
    not_contained : (index : List ℕ) (n : ℕ) → ¬ Contains index n → false ≡ has index n
    not_contained index n none = grind (arith, Decides-has index n)
has-from_place index n (Some place) found none =
    sym (list_any_at (λ (x : ℕ). x == n) index place 0 found.0 (eq-eqb (get_or index place 0) n found.1))
