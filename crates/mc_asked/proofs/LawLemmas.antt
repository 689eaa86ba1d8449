-- The wants of a list are those of its merged filters.
use Rattle.std.proofs.Common.{◌≡◌, ◌↔◌, ℕ, ◌||◌, Bool, true, false, not, List, [], ◌∷◌, filter, flat_map}
use Rattle.std.proofs.Common.{inl, inr, refl, sym, ap, subst, ◌∙◌}
use Rattle.std.specs.Prelude.{◌&&◌, ◌==◌, Contains}
use Rattle.std.specs.List.{list_any}
use Rattle.std.proofs.lemmas.Bool.{eq-eqb, eqb-true, ne_eqb, and_parts, and_from, true≢false}
use Rattle.mc_igmp.specs.declared.record.Record.{Record}
use Rattle.mc_igmp.specs.declared.record.Kind.{Kind}
use Rattle.mc_igmp.specs.declared.record.Kind.TheVariants as kind
use Rattle.mc_text.specs.Addr.{is_forwarded_group, is_source}
use Rattle.mc_filter.specs.declared.filter.Mode.{Mode}
use Rattle.mc_filter.specs.declared.filter.Mode.TheVariants.{Include, Exclude}
use Rattle.mc_filter.specs.FilterBuilding.{has_exclude, is_exclude, is_exclude_for, is_exclude_mode}
use Rattle.mc_filter.specs.FilterBuilding.{kind_admits, wanted, wanted_by}
use Rattle.mc_filter.specs.Merged.{IsMergedValue}
use Rattle.mc_filter.specs.SourceFilter.{SourceFilter, admits_by, has}
use Rattle.mc_filter.proofs.AscendingLemmas.{Decides-has}
use Rattle.mc_filter.proofs.MergedLemmas.{Merges-iff}
use Rattle.mc_tables.specs.Summary.{in_order}
use Rattle.mc_theory.specs.Lists.{In}
use Rattle.mc_theory.proofs.ListLemmas.{in-filter, in-filter_cases, in-flat_map, in-flat_map_cases, in-map}
use Rattle.mc_theory.proofs.ListLemmas.{in-map_cases}
use Rattle.mc_asked.specs.ListWants.{Want, asked_by, asked_by_kind, included_in, is_of_merged_filter}
use Rattle.mc_asked.specs.ListWants.{wants_in}
use Rattle.mc_asked.proofs.PartLemmas.{in-in_order, in-from_in_order}

-- ---- lists

-- an element that passes is some element that does
pub any-from_in : {X : Type 0} (p : X → Bool) (x : X) (xs : List X) → In x xs → p x ≡ true
    → list_any p xs ≡ true
any-from_in p x [] h is = absurd h
any-from_in p x (y ∷ ys) (inl e) is = ap (λ (b : Bool). b || list_any p ys) (ap p e ∙ is)
any-from_in p x (y ∷ ys) (inr h) is = or_true (p y) (any-from_in p x ys h is)
  where
    or_true : (a : Bool) {b : Bool} → b ≡ true → (a || b) ≡ true
    or_true true e = refl
    or_true false e = e

-- where some element passes, there is one in the list
pub in-from_any : {X : Type 0} (p : X → Bool) (xs : List X) → list_any p xs ≡ true
    → (x : X) × In x xs × (p x ≡ true)
in-from_any p [] e = absurd cc
in-from_any {X} p (y ∷ ys) e =
    elim (p y) as (λ b. p y ≡ b → (b || list_any p ys) ≡ true → (x : X) × In x (y ∷ ys) × (p x ≡ true)) [
      | true ↦ λ is e. (y, inl refl, is)
      | false ↦ λ is e. let later = in-from_any p ys e in (later.0, inr later.1, later.2)
    ] refl e

-- a number that a test finds is in the list
pub in-from_has : (xs : List ℕ) (s : ℕ) → has xs s ≡ true → In s xs
in-from_has xs s is =
    let found = in-from_any (λ a. a == s) xs is in
    subst (λ (x : ℕ). In x xs) (eqb-true found.0 s found.2) found.1

-- and the other way round
pub has-from_in : (xs : List ℕ) (s : ℕ) → In s xs → has xs s ≡ true
has-from_in xs s h = any-from_in (λ a. a == s) s xs h (eq-eqb s s refl)

-- ---- what a record asks for

-- a source that a host may send from is among the wants of an INCLUDE record that lists it
in-included_in : (group s : ℕ) (sources : List ℕ) → In s sources → is_source s ≡ true
    → In (group, s) (included_in group sources)
in-included_in group s sources h is =
    in-map (λ (x : ℕ). (group, x)) s (filter is_source sources) (in-filter is_source s sources h is)

-- and each of these wants is such a source of the record's group
in-included_in_cases : (group : ℕ) (sources : List ℕ) (w : Want) → In w (included_in group sources)
    → (group ≡ w.0) × (is_source w.1 ≡ true) × In w.1 sources
in-included_in_cases group sources w h =
    let found = in-map_cases (λ (x : ℕ). (group, x)) w (filter is_source sources) h in
    let own = in-filter_cases is_source found.0 sources found.1 in
    let same : found.0 ≡ w.1 = ap (λ (p : ℕ × ℕ). p.1) found.2 in (
      ap (λ (p : ℕ × ℕ). p.0) found.2,
      subst (λ (x : ℕ). is_source x ≡ true) same own.1,
      subst (λ (x : ℕ). In x sources) same own.0,
    )

-- any source is asked for by EXCLUDE records alone
asked_any : (k : Kind) (group g : ℕ) (sources : List ℕ) → In (g, 0) (asked_by_kind k group sources)
    → ((group == g) && is_exclude k) ≡ true
asked_any kind.Exclude group g sources (inl e) =
    ap (λ (b : Bool). b && true) (eq-eqb group g (ap (λ (p : ℕ × ℕ). p.0) e))
asked_any kind.Exclude group g sources (inr h) = absurd h
asked_any kind.Include group g sources h =
    absurd (true≢false (sym (in-included_in_cases group sources (g, 0) h).1))
asked_any (kind.Change type) group g sources h = absurd h
asked_any (kind.Unknown type) group g sources h = absurd h

-- an EXCLUDE record asks for any source of its group
any_asked : (k : Kind) (group g : ℕ) (sources : List ℕ) → ((group == g) && is_exclude k) ≡ true
    → In (g, 0) (asked_by_kind k group sources)
any_asked kind.Exclude group g sources is =
    inl (ap (λ (x : ℕ). let p : ℕ × ℕ = (x, 0) in p) (eqb-true group g (and_parts (group == g) true is).0))
any_asked kind.Include group g sources is = absurd (true≢false (sym (and_parts (group == g) false is).1))
any_asked (kind.Change type) group g sources is = absurd (true≢false (sym (and_parts (group == g) false
    is).1))
any_asked (kind.Unknown type) group g sources is = absurd (true≢false (sym (and_parts (group == g)
    false is).1))

-- a single source is asked for by the INCLUDE records that list it
asked_single : (k : Kind) (group g s : ℕ) (sources : List ℕ) → is_source s ≡ true
    → In (g, s) (asked_by_kind k group sources) → ((group == g) && kind_admits k (has sources s)) ≡ true
asked_single kind.Exclude group g s sources is (inl e) =
    absurd (true≢false (sym is ∙ ap is_source (sym (ap (λ (p : ℕ × ℕ). p.1) e))))
asked_single kind.Exclude group g s sources is (inr h) = absurd h
asked_single kind.Include group g s sources is h =
    let own = in-included_in_cases group sources (g, s) h in
    and_from (group == g) (has sources s) (eq-eqb group g own.0) (has-from_in sources s own.2)
asked_single (kind.Change type) group g s sources is h = absurd h
asked_single (kind.Unknown type) group g s sources is h = absurd h

-- A source that a record admits, and that isn't an EXCLUDE record's, is listed by an INCLUDE record, which
-- asks for it.
single_asked : (k : Kind) (group g s : ℕ) (sources : List ℕ) → is_source s ≡ true
    → ((group == g) && is_exclude k) ≡ false → ((group == g) && kind_admits k (has sources s)) ≡ true
    → In (g, s) (asked_by_kind k group sources)
single_asked kind.Exclude group g s sources is other admits =
    absurd (true≢false (sym (ap (λ (b : Bool). b && true) (and_parts (group == g) (not (has sources s))
    admits).0)
    ∙ other))
single_asked kind.Include group g s sources is other admits =
    let both = and_parts (group == g) (has sources s) admits in
    subst (λ (x : ℕ). In (x, s) (included_in group sources)) (eqb-true group g both.0)
    (in-included_in group s sources (in-from_has sources s both.1) is)
single_asked (kind.Change type) group g s sources is other admits =
    absurd (true≢false (sym (and_parts (group == g) false admits).1))
single_asked (kind.Unknown type) group g s sources is other admits =
    absurd (true≢false (sym (and_parts (group == g) false admits).1))

-- ---- the wants of a list

-- a want of any source is asked for by an EXCLUDE record for the group
pub has_exclude-from_any : (records : List Record) (g : ℕ) → In (g, 0) (wants_in records)
    → has_exclude records g ≡ true
has_exclude-from_any records g h =
    let kept = in-filter_cases (is_of_merged_filter records) (g, 0)
    (in_order (flat_map asked_by records)) h in
    let found = in-flat_map_cases asked_by (g, 0) records
    (in-from_in_order (g, 0) (flat_map asked_by records) kept.0) in
    any-from_in (is_exclude_for g) found.0 records found.1
    (asked_any found.0.kind found.0.group g found.0.sources found.2)

-- and each such record makes it one
pub in-wants_in-any : (records : List Record) (g : ℕ) → is_forwarded_group g ≡ true
    → In (g, 0) (wants_in records) ↔ (has_exclude records g ≡ true)
in-wants_in-any records g forwarded = (
  has_exclude-from_any records g,
  λ is. let found = in-from_any (is_exclude_for g) records is in
      in-filter (is_of_merged_filter records) (g, 0) (in_order (flat_map asked_by records))
      (in-in_order (g, 0) (flat_map asked_by records) (in-flat_map asked_by found.0 (g, 0) records found.1
      (any_asked found.0.kind found.0.group g found.0.sources found.2)))
      (ap (λ (b : Bool). b && true) forwarded),
)

-- a host can't send from 0.0.0.0
pub not_any : (s : ℕ) → is_source s ≡ true → (s == 0) ≡ false
not_any s is = ne_eqb s 0 (λ e. absurd (true≢false (sym is ∙ ap is_source e)))

-- without one, each source that a record admits is a want
pub in-wants_in-single : (records : List Record) (g s : ℕ) → is_forwarded_group g ≡ true → is_source s ≡ true
    → In (g, s) (wants_in records) ↔ ((has_exclude records g ≡ false) × (wanted records g s ≡ true))
in-wants_in-single records g s forwarded is = (
  λ h. let kept = in-filter_cases (is_of_merged_filter records) (g, s) (in_order (flat_map asked_by
      records)) h in
      let found = in-flat_map_cases asked_by (g, s) records
      (in-from_in_order (g, s) (flat_map asked_by records) kept.0) in
      let none : not (has_exclude records g) ≡ true =
      ap (λ (b : Bool). not (not b && has_exclude records g)) (sym (not_any s is))
      ∙ (and_parts (is_forwarded_group g) _ kept.1).1 in (
        not_true (has_exclude records g) none,
        any-from_in (wanted_by g s) found.0 records found.1
            (asked_single found.0.kind found.0.group g s found.0.sources is found.2),
      ),
  λ both. let found = in-from_any (wanted_by g s) records both.1 in
      in-filter (is_of_merged_filter records) (g, s) (in_order (flat_map asked_by records))
      (in-in_order (g, s) (flat_map asked_by records) (in-flat_map asked_by found.0 (g, s) records found.1
      (single_asked found.0.kind found.0.group g s found.0.sources is
      (not_exclude found.0 found.1 (is_exclude_for g found.0) refl both.0) found.2)))
      (and_from (is_forwarded_group g) _ forwarded
      (ap (λ (b : Bool). not (not (s == 0) && b)) both.0 ∙ not_both (s == 0))),
)
  where
    not_true : (b : Bool) → not b ≡ true → b ≡ false
    not_true true e = absurd (true≢false (sym e))
    not_true false e = refl

    not_both : (b : Bool) → not (not b && false) ≡ true
    not_both true = refl
    not_both false = refl

    not_exclude : (r : Record) → In r records → (b : Bool) → is_exclude_for g r ≡ b
        → has_exclude records g ≡ false → is_exclude_for g r ≡ false
    not_exclude r h false e none = e
    not_exclude r h true e none =
        absurd (true≢false (sym (any-from_in (is_exclude_for g) r records h e) ∙ none))

-- ---- by the merged filter

-- a mode that the test finds is EXCLUDE
mode-from_test : (mode : Mode) (b : Bool) → is_exclude_mode mode ≡ b → b ≡ true → mode ≡ Exclude
mode-from_test Exclude b is holds = refl
mode-from_test Include b is holds = absurd (true≢false (sym holds ∙ sym is))

-- any other is INCLUDE
include-from_test : (mode : Mode) (b : Bool) → is_exclude_mode mode ≡ b → b ≡ false → mode ≡ Include
include-from_test Include b is fails = refl
include-from_test Exclude b is fails = absurd (true≢false (is ∙ fails))

-- A want of any source is of an EXCLUDE record for the group, and with such a record the merged filter is
-- EXCLUDE.
pub any-by_merged_filter : (records : List Record) (g : ℕ) (filter : SourceFilter)
    → IsMergedValue records g filter → is_forwarded_group g ≡ true
    → In (g, 0) (wants_in records) ↔ (filter.mode ≡ Exclude)
any-by_merged_filter records g filter merged forwarded =
    let m = (Merges-iff filter.mode filter.sources records g).1 merged.merged in
    let wants = in-wants_in-any records g forwarded in (
      λ h. mode-from_test filter.mode _ m.excludes (wants.0 h),
      λ is. wants.1 (sym m.excludes ∙ ap is_exclude_mode is),
    )

-- A want of a single source is of an INCLUDE record which lists it, where no EXCLUDE record is for the
-- group; then the merged filter is INCLUDE, and has the sources of all records for the group.
pub single-by_merged_filter : (records : List Record) (g s : ℕ) (filter : SourceFilter)
    → IsMergedValue records g filter → is_forwarded_group g ≡ true → is_source s ≡ true
    → In (g, s) (wants_in records) ↔ ((filter.mode ≡ Include) × Contains filter.sources s)
single-by_merged_filter records g s filter merged forwarded is =
    let m = (Merges-iff filter.mode filter.sources records g).1 merged.merged in
    let wants = in-wants_in-single records g s forwarded is in (
      λ h. let both = wants.0 h in
          let include = include-from_test filter.mode _ m.excludes both.0 in (
            include,
            (Decides-has filter.sources s).0
                (ap (λ (mode : Mode). admits_by mode (has filter.sources s)) (sym include)
                ∙ m.admitted s ∙ both.1),
          ),
      λ both. wants.1 (
        sym m.excludes ∙ ap is_exclude_mode both.0,
        sym (m.admitted s) ∙ ap (λ (mode : Mode). admits_by mode (has filter.sources s)) both.0
            ∙ (Decides-has filter.sources s).1 both.1,
      ),
    )
