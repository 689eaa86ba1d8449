-- The merged filter of records, by tests over the records.
use Rattle.std.proofs.Common.{◌≡◌, ◌↔◌, ℕ, Bool, not, List, get_or, refl, sym, arith}
use Rattle.std.specs.Bool.{Decides}
use Rattle.std.specs.List.{Any, Contains, list_any}
use Rattle.std.specs.List.Sorted.{IsPermutation}
use Rattle.std.proofs.lemmas.Bool.{true_from_ne_false}
use Rattle.std.proofs.lemmas.Bool.Decides.{nat_tests, not_from_Decides}
use Rattle.std.proofs.lemmas.List.{get_or_default}
use Rattle.std.proofs.lemmas.List.Folds.{Any-from_list_any, list_any-from_Any}
use Rattle.std.proofs.lemmas.List.Sorted.{list_any-IsPermutation}
use Rattle.mc_igmp.specs.declared.record.Record.{Record}
use Rattle.mc_igmp.specs.declared.record.Kind.TheVariants as kind
use Rattle.mc_igmp.specs.Wants.{Admits, Wants}
use Rattle.mc_filter.specs.declared.filter.Mode.{Mode}
use Rattle.mc_filter.specs.declared.filter.Mode.TheVariants.{Include, Exclude}
use Rattle.mc_filter.specs.SourceFilter.{has, SourceFilter, FilterAdmits, admits_by}
use Rattle.mc_filter.specs.FilterBuilding.{is_exclude_mode, wanted_by, is_exclude_for, wanted, has_exclude}
use Rattle.mc_filter.specs.Merged.{IsRecordFor, HasExclude, InSomeInclude, InEachExclude, IsMergedIn}
use Rattle.mc_filter.specs.Merged.{IsMergedValue}
use Rattle.mc_filter.proofs.AscendingLemmas.{Decides-has, ascending_lists_equal-from_has}
use Rattle.mc_filter.proofs.FilterLemmas.{Decides-FilterAdmits, Decides-Admits}

-- if a test decides a fact of an element, the test of some element decides the fact of some
Decides-list_any : {X : Type 0} (p : X → Bool) (P : X → Type 0) → ((x : X) → Decides (p x) (P x))
    → (xs : List X) → Decides (list_any p xs) (Any P xs)
Decides-list_any p P each xs = (
  λ h. let some = Any-from_list_any p xs h in
      (some.0, some.1, some.2, some.3, (each some.1).0 some.4),
  λ (k, x, below, is, holds). list_any-from_Any p xs (k, x, below, is, (each x).1 holds),
)

-- the test of all records decides whether a LAN wants the source of the group
pub Decides-wanted : (records : List Record) (group s : ℕ)
    → Decides (wanted records group s) (Wants records group s)
Decides-wanted records group s =
    Decides-list_any (wanted_by group s) (λ r. (r.group ≡ group) × Admits r s)
    (λ r. grind (arith, nat_tests, Decides-Admits r s)) records

-- the test of all records decides whether one is an EXCLUDE record for the group
Decides-has_exclude : (records : List Record) (group : ℕ)
    → Decides (has_exclude records group) (HasExclude records group)
Decides-has_exclude records group =
    Decides-list_any (is_exclude_for group) (IsRecordFor group kind.Exclude)
    (λ r. grind (arith, nat_tests)) records

-- a source that an INCLUDE list has is wanted
Wants-from_included : (records : List Record) (group s : ℕ)
    → InSomeInclude records group s → Wants records group s
Wants-from_included records group s (k, r, below, is, (own, listed)) =
    (k, r, below, is, (own.0, rw own.1 listed))

-- a source isn't wanted exactly if each EXCLUDE list has it and no INCLUDE list does
not_wanted : (records : List Record) (group s : ℕ) → ¬ (Wants records group s)
    ↔ (InEachExclude records group s × ¬ (InSomeInclude records group s))
not_wanted records group s = (
  λ no. (
    λ k d below own.
        let r = get_or records k d in
        let at = get_or_default records k r d below in
        (Decides-has r.sources s).0 (true_from_ne_false (has r.sources s) (λ out.
        no (k, r, below, at, (own.0, (Decides-Admits r s).0 (rw (own.1, out) refl))))),
    λ some. no (Wants-from_included records group s some),
  ),
  λ (each, none) (k, r, below, is, (own, admitted)).
      let included = λ (h : IsRecordFor group kind.Include r × Contains r.sources s).
      none (k, r, below, is, h) in
      grind (arith, included, each k r below),
)

-- without an EXCLUDE record a source is wanted exactly if an INCLUDE list has it
wanted_iff_included : (records : List Record) (group s : ℕ) → ¬ (HasExclude records group)
    → Wants records group s ↔ InSomeInclude records group s
wanted_iff_included records group s none = (
  λ (k, r, below, is, (own, admitted)).
      let excludes = λ (h : r.kind ≡ kind.Exclude). none (k, r, below, is, (own, h)) in
      (k, r, below, is, grind (arith, excludes)),
  Wants-from_included records group s,
)

-- two tests are equal exactly if their facts are equivalent
has_iff_wanted : {P Q R : Type 0} (a b : Bool) → Decides a P → Decides b Q → (Q ↔ R)
    → (a ≡ b) ↔ (P ↔ R)
has_iff_wanted a b own wants is = grind arith

-- and so where one test is negated
has_iff_not_wanted : {P Q R : Type 0} (a b : Bool) → Decides a P → Decides b Q → (¬ Q ↔ R)
    → (not a ≡ b) ↔ (P ↔ R)
has_iff_not_wanted a b own wants is = grind arith

-- the merged filter is EXCLUDE exactly if a record is, and admits exactly what is wanted
pub record Merges (records : List Record) (group : ℕ) (mode : Mode) (sources : List ℕ)
    : Type 0 where
  pub excludes : is_exclude_mode mode ≡ has_exclude records group
  pub admitted : (s : ℕ) → admits_by mode (has sources s) ≡ wanted records group s

-- the definition of the merged filter is equivalent to these tests
pub Merges-iff : (mode : Mode) (sources : List ℕ) (records : List Record) (group : ℕ)
    → Merges records group mode sources ↔ IsMergedIn mode sources records group
Merges-iff Exclude sources records group =
    let some = Decides-has_exclude records group in
    let listed = λ (s : ℕ).
    has_iff_not_wanted _ _ (Decides-has sources s) (Decides-wanted records group s)
    (not_wanted records group s) in (
      λ m. (some.0 (sym m.excludes), λ s. (listed s).0 (m.admitted s)),
      λ is. record { excludes = sym (some.1 is.0); admitted = λ s. (listed s).1 (is.1 s) },
    )
Merges-iff Include sources records group =
    let some = Decides-has_exclude records group in
    let listed = λ (none : ¬ (HasExclude records group)) (s : ℕ).
    has_iff_wanted _ _ (Decides-has sources s) (Decides-wanted records group s)
    (wanted_iff_included records group s none) in (
      λ m. let none = not_from_Decides _ some (sym m.excludes) in
          (none, λ s. (listed none s).0 (m.admitted s)),
      λ is. record {
        excludes = grind (arith, some, is.0);
        admitted = λ s. (listed is.0 s).1 (is.1 s);
      },
    )

-- the merged filter admits exactly what is wanted
pub merged_admits_wanted : (records : List Record) (group : ℕ) (filter : SourceFilter)
    → IsMergedValue records group filter → (s : ℕ) → FilterAdmits filter s ↔ Wants records group s
merged_admits_wanted records group filter is s =
    let m = (Merges-iff filter.mode filter.sources records group).1 is.merged in
    grind (arith, m.admitted s, Decides-FilterAdmits filter s, Decides-wanted records group s)

-- the merged filter doesn't depend on the order of the records
pub merged_in_any_order : (records others : List Record) (group : ℕ) (filter other : SourceFilter)
    → IsPermutation records others → IsMergedValue records group filter
    → IsMergedValue others group other → filter ≡ other
merged_in_any_order records others group filter other permutation is is_other =
    let m = (Merges-iff filter.mode filter.sources records group).1 is.merged in
    let n = (Merges-iff other.mode other.sources others group).1 is_other.merged in
    let same = λ (p : Record → Bool). list_any-IsPermutation p records others permutation in
    let modes : filter.mode ≡ other.mode =
    grind (arith, m.excludes, n.excludes, same (is_exclude_for group)) in
    let sources : filter.sources ≡ other.sources =
    ascending_lists_equal-from_has filter.sources other.sources is.ascending is_other.ascending
    (λ s. grind (arith, modes, m.admitted s, n.admitted s, same (wanted_by group s))) in
    λ i. record { mode = modes i; sources = sources i }
