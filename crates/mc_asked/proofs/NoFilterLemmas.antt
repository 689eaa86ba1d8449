-- The sources that the filter of none of several LANs admits, which all want a group from any source.
use Rattle.std.proofs.Common.{◌≡◌, ℕ, ◌==◌, Bool, true, false, not, cond, inl, inr, List, [], ◌∷◌, ◌++◌}
use Rattle.std.proofs.Common.{filter, flat_map, map, Some, refl, sym, ap, ap₂, subst, ◌∙◌, arith}
use Rattle.std.specs.Prelude.{◌&&◌, ◌||◌}
use Rattle.std.specs.List.{AllByRecursion, list_any}
use Rattle.std.specs.List.Sorted.{IsStrictlyIncreasing, IsStrictlySortedBy}
use Rattle.std.specs.Ordering.{nat_cmp}
use Rattle.std.specs.declared.cmp.Ordering.TheVariants.{Less}
use Rattle.std.proofs.lemmas.Bool.{and_parts, eq-eqb, eqb-true, true≢false}
use Rattle.std.proofs.lemmas.Bool.Decides.{nat_tests}
use Rattle.std.proofs.lemmas.List.Folds.{list_any-append}
use Rattle.std.proofs.lemmas.List.Kept.{IsStrictlySortedBy-filter}
use Rattle.std.proofs.lemmas.Map.Keys.{IsStrictlyIncreasing-from_sorted}
use Rattle.mc_igmp.specs.declared.record.Record.{Record}
use Rattle.mc_igmp.specs.declared.record.Kind.{Kind}
use Rattle.mc_igmp.specs.declared.record.Kind.TheVariants as kind
use Rattle.mc_filter.specs.declared.filter.Mode.{Mode}
use Rattle.mc_filter.specs.declared.filter.Mode.TheVariants.{Exclude}
use Rattle.mc_filter.specs.FilterBuilding.{has_exclude, is_exclude, is_exclude_for, is_exclude_mode}
use Rattle.mc_filter.specs.FilterBuilding.{kind_admits, wanted, wanted_by}
use Rattle.mc_filter.specs.Merged.{IsMergedValue}
use Rattle.mc_filter.specs.SourceFilter.{SourceFilter, admits_by, has}
use Rattle.mc_filter.proofs.AscendingLemmas.{ascending_lists_equal-from_has, filter-ascending}
use Rattle.mc_filter.proofs.MergedLemmas.{Merges-iff}
use Rattle.mc_tables.specs.CacheTable.{key_cmp}
use Rattle.mc_tables.specs.ListedRows.{is_listed}
use Rattle.mc_tables.specs.Summary.{in_order}
use Rattle.mc_theory.specs.Lists.{In}
use Rattle.mc_theory.proofs.ListLemmas.{in-filter, in-filter_cases, in-flat_map, in-map}
use Rattle.mc_asked.specs.GroupRun.{seconds_of}
use Rattle.mc_asked.specs.Unadmitted.{is_admitted, list_of, listed_by, unadmitted_by, unadmitted_in}
use Rattle.mc_asked.proofs.IndexLemmas.{list_any-filter, list_any-map}
use Rattle.mc_asked.proofs.LawLemmas.{any-from_in, has-from_in, in-from_any, in-from_has}
use Rattle.mc_asked.proofs.MergeLemmas.{AreAbove, is_strictly_sorted_by-in_order}
use Rattle.mc_asked.proofs.PartLemmas.{equal_bools-from_both, in-from_is_listed, in-in_order}
use Rattle.mc_asked.proofs.PartLemmas.{is_listed-from_in}

-- ---- the second parts of a group's pairs

-- of two pairs of one group, the lower has the lower second part
second-less : (group : ℕ) (p q : ℕ × ℕ) → p.0 ≡ group → q.0 ≡ group → key_cmp p q ≡ Less
    → nat_cmp p.1 q.1 ≡ Less
second-less group p q one other less = grind (arith, nat_tests)

-- so the second parts behind a pair of the group are above its own
seconds-above : (group : ℕ) (p : ℕ × ℕ) (qs : List (ℕ × ℕ)) → p.0 ≡ group → AreAbove p qs
    → ((q : ℕ × ℕ) → In q qs → q.0 ≡ group)
    → AllByRecursion (λ s. nat_cmp p.1 s ≡ Less) (map (λ (q : ℕ × ℕ). q.1) qs)
seconds-above group p [] same above each = tt
seconds-above group p (q ∷ qs) same above each = (
  second-less group p q same (each q (inl refl)) above.0,
  seconds-above group p qs same above.1 (λ r h. each r (inr h)),
)

-- pairs of one group that ascend do so by their second parts,
seconds-sorted : (group : ℕ) (ps : List (ℕ × ℕ)) → IsStrictlySortedBy key_cmp ps
    → ((p : ℕ × ℕ) → In p ps → p.0 ≡ group) → IsStrictlySortedBy nat_cmp (map (λ (p : ℕ × ℕ). p.1) ps)
unfolding IsStrictlySortedBy
seconds-sorted group [] up each = tt
seconds-sorted group (p ∷ ps) up each = (
  seconds-above group p ps (each p (inl refl)) up.0 (λ q h. each q (inr h)),
  seconds-sorted group ps up.1 (λ q h. each q (inr h)),
)

-- and the second parts of a group's pairs ascend
pub seconds_of-ascend : (group : ℕ) (pairs : List (ℕ × ℕ)) → IsStrictlySortedBy key_cmp pairs
    → IsStrictlyIncreasing (seconds_of group pairs)
seconds_of-ascend group pairs up =
    let is_own : ℕ × ℕ → Bool = λ p. p.0 == group in
    IsStrictlyIncreasing-from_sorted (seconds_of group pairs)
    (seconds-sorted group (filter is_own pairs) (IsStrictlySortedBy-filter key_cmp is_own pairs up)
    (λ p h. eqb-true p.0 group (in-filter_cases is_own p pairs h).1))

-- pairs with one second part ascend by their first parts
pub firsts-sorted : (second : ℕ) (ps : List (ℕ × ℕ)) → IsStrictlySortedBy key_cmp ps
    → ((p : ℕ × ℕ) → In p ps → p.1 ≡ second) → IsStrictlySortedBy nat_cmp (map (λ (p : ℕ × ℕ). p.0) ps)
unfolding IsStrictlySortedBy
firsts-sorted second [] up each = tt
firsts-sorted second (p ∷ ps) up each = (
  above ps up.0 (λ q h. each q (inr h)),
  firsts-sorted second ps up.1 (λ q h. each q (inr h)),
)
  where
    first-less : (q : ℕ × ℕ) → p.1 ≡ second → q.1 ≡ second → key_cmp p q ≡ Less → nat_cmp p.0 q.0 ≡ Less
    first-less q one other less = grind (arith, nat_tests)

    above : (qs : List (ℕ × ℕ)) → AreAbove p qs → ((q : ℕ × ℕ) → In q qs → q.1 ≡ second)
        → AllByRecursion (λ s. nat_cmp p.0 s ≡ Less) (map (λ (q : ℕ × ℕ). q.0) qs)
    above [] less same = tt
    above (q ∷ qs) less same = (
      first-less q (each p (inl refl)) (same q (inl refl)) less.0,
      above qs less.1 (λ r h. same r (inr h)),
    )

-- and are those of the pairs with the group
and-turned : (a b : Bool) → (a && b) ≡ (b && a)
and-turned true true = refl
and-turned true false = refl
and-turned false true = refl
and-turned false false = refl

-- a group's second parts have a number exactly if the pair of both is listed
pub has-seconds_of : (group : ℕ) (pairs : List (ℕ × ℕ)) (s : ℕ)
    → has (seconds_of group pairs) s ≡ is_listed (Some pairs) (group, s)
has-seconds_of group pairs s =
    list_any-map (λ (a : ℕ). a == s) (λ (p : ℕ × ℕ). p.1) (filter (λ (p : ℕ × ℕ). p.0 == group) pairs)
    ∙ list_any-filter (λ (p : ℕ × ℕ). p.1 == s) (λ (p : ℕ × ℕ). p.0 == group) pairs
    ∙ (λ i. list_any (λ (p : ℕ × ℕ). and-turned (p.1 == s) (p.0 == group) i) pairs)

-- ---- of one list

-- a test whose opposite holds fails
not-true : (b : Bool) → not b ≡ true → b ≡ false
not-true true e = absurd (true≢false (sym e))
not-true false e = refl

-- an EXCLUDE record admits exactly the sources that it doesn't list
admits-by_exclude : (k : Kind) (listed : Bool) → is_exclude k ≡ true → kind_admits k listed ≡ not listed
admits-by_exclude kind.Include listed is = absurd (true≢false (sym is))
admits-by_exclude kind.Exclude listed is = refl
admits-by_exclude (kind.Change type) listed is = absurd (true≢false (sym is))
admits-by_exclude (kind.Unknown type) listed is = absurd (true≢false (sym is))

-- each source that a list with an EXCLUDE record for the group doesn't want is listed by that
in-listed_by_exclude : (records : List Record) (groups : List ℕ) (g s : ℕ) → has groups g ≡ true
    → has_exclude records g ≡ true → wanted records g s ≡ false
    → In (g, s) (flat_map (listed_by groups) records)
in-listed_by_exclude records groups g s known is refused =
    let found = in-from_any (is_exclude_for g) records is in
    let r = found.0 in
    let parts = and_parts (r.group == g) (is_exclude r.kind) found.2 in
    let not_by : wanted_by g s r ≡ false = refused_by r found.1 (wanted_by g s r) refl in
    let listed : has r.sources s ≡ true =
    not-false (has r.sources s)
    (sym (admits-by_exclude r.kind (has r.sources s) parts.1)
    ∙ sym (ap (λ b. b && kind_admits r.kind (has r.sources s)) parts.0) ∙ not_by) in
    let own : In (g, s) (listed_by groups r) =
    subst (λ (x : ℕ). In {A = ℕ × ℕ} (x, s) (listed_by groups r)) (eqb-true r.group g parts.0)
    (subst (λ (b : Bool). In {A = ℕ × ℕ} (r.group, s) (cond b (map (λ (x : ℕ). (r.group, x)) r.sources) []))
    (sym (ap (has groups) (eqb-true r.group g parts.0) ∙ known))
    (in-map (λ (x : ℕ). (r.group, x)) s r.sources (in-from_has r.sources s listed))) in
    in-flat_map (listed_by groups) r (g, s) records found.1 own
  where
    not-false : (b : Bool) → not b ≡ false → b ≡ true
    not-false true e = refl
    not-false false e = absurd (true≢false e)

    refused_by : (r : Record) → In r records → (b : Bool) → wanted_by g s r ≡ b → b ≡ false
    refused_by r h true e = absurd (true≢false (sym (any-from_in (wanted_by g s) r records h e) ∙ refused))
    refused_by r h false e = refl

-- so the sources that it lists and doesn't want are all that it doesn't want
pub has-unadmitted_in : (records : List Record) (groups : List ℕ) (g s : ℕ) → has groups g ≡ true
    → has_exclude records g ≡ true → has (seconds_of g (unadmitted_in records groups)) s
    ≡ not (wanted records g s)
has-unadmitted_in records groups g s known is =
    let listed = in_order (flat_map (listed_by groups) records) in
    let keeps : ℕ × ℕ → Bool = λ p. not (wanted records p.0 p.1) in
    has-seconds_of g (unadmitted_in records groups) s
    ∙ equal_bools-from_both (is_listed (Some (unadmitted_in records groups)) (g, s))
    (not (wanted records g s))
    (λ e. (in-filter_cases keeps (g, s) listed (in-from_is_listed (g, s) (unadmitted_in records groups) e)).1)
    (λ e. is_listed-from_in (g, s) (unadmitted_in records groups)
    (in-filter keeps (g, s) listed (in-in_order (g, s) (flat_map (listed_by groups) records)
    (in-listed_by_exclude records groups g s known is (not-true (wanted records g s) e))) e))

-- the pairs that aren't admitted ascend, as a filter of pairs in order
pub unadmitted_in-ascend : (records : List Record) (groups : List ℕ)
    → IsStrictlySortedBy key_cmp (unadmitted_in records groups)
unadmitted_in-ascend records groups =
    IsStrictlySortedBy-filter key_cmp (λ (p : ℕ × ℕ). not (wanted records p.0 p.1))
    (in_order (flat_map (listed_by groups) records))
    (is_strictly_sorted_by-in_order (flat_map (listed_by groups) records))

-- where the merged filter is EXCLUDE they are its list
pub unadmitted_in-of_merged : (records : List Record) (groups : List ℕ) (g : ℕ) (filter : SourceFilter)
    → IsMergedValue records g filter → filter.mode ≡ Exclude → In g groups
    → seconds_of g (unadmitted_in records groups) ≡ filter.sources
unadmitted_in-of_merged records groups g filter merged mode h =
    let m = (Merges-iff filter.mode filter.sources records g).1 merged.merged in
    let is : has_exclude records g ≡ true = sym m.excludes ∙ ap is_exclude_mode mode in
    let known = has-from_in groups g h in
    ascending_lists_equal-from_has (seconds_of g (unadmitted_in records groups)) filter.sources
    (seconds_of-ascend g (unadmitted_in records groups) (unadmitted_in-ascend records groups))
    merged.ascending (λ s. has-unadmitted_in records groups g s known is
    ∙ ap not (sym (m.admitted s) ∙ ap (λ (own : Mode). admits_by own (has filter.sources s)) mode)
    ∙ not-not (has filter.sources s))
  where
    not-not : (b : Bool) → not (not b) ≡ b
    not-not true = refl
    not-not false = refl

-- ---- of several LANs

-- these are the sources that none admits, ascending
pub record AreUnadmitted (lists : List (List Record)) (lans : List ℕ) (group : ℕ) (sources : List ℕ)
    : Type 0 where
  pub ascending : IsStrictlyIncreasing sources
  pub each : (s : ℕ) → has sources s ≡ not (is_admitted lists lans group s)

-- Two ascending lists of the sources that no LAN admits are equal, since both have the same sources.
pub unadmitted-unique : (lists : List (List Record)) (lans : List ℕ) (group : ℕ) (xs ys : List ℕ)
    → AreUnadmitted lists lans group xs → AreUnadmitted lists lans group ys → xs ≡ ys
unadmitted-unique lists lans group xs ys one other =
    ascending_lists_equal-from_has xs ys one.ascending other.ascending (λ s. one.each s ∙ sym (other.each s))

-- a test or none is the test
pub or-false : (b : Bool) → (b || false) ≡ b
or-false true = refl
or-false false = refl

-- of one
pub unadmitted-one : (lists : List (List Record)) (lan : ℕ) (groups : List ℕ) (group : ℕ)
    → has groups group ≡ true → has_exclude (list_of lists lan) group ≡ true
    → AreUnadmitted lists (lan ∷ []) group (seconds_of group (unadmitted_in (list_of lists lan) groups))
unadmitted-one lists lan groups group known is = record {
  ascending = seconds_of-ascend group (unadmitted_in (list_of lists lan) groups)
      (unadmitted_in-ascend (list_of lists lan) groups);
  each = λ s. has-unadmitted_in (list_of lists lan) groups group s known is
      ∙ ap not (sym (or-false (wanted (list_of lists lan) group s)));
}

-- of the first one and the others
pub unadmitted_by-are : (lists : List (List Record)) (group : ℕ) (lan : ℕ) (lans : List ℕ)
    → has_exclude (list_of lists lan) group ≡ true
    → AreUnadmitted lists (lan ∷ lans) group (unadmitted_by lists group (lan ∷ lans))
unadmitted_by-are lists group lan lans is =
    let records = list_of lists lan in
    let known : has (group ∷ []) group ≡ true = ap (λ b. b || false) (eq-eqb group group refl) in
    let own = seconds_of group (unadmitted_in records (group ∷ [])) in
    let kept = filter-ascending (λ s. not (is_admitted lists lans group s)) own
    (unadmitted_by lists group (lan ∷ lans))
    (seconds_of-ascend group (unadmitted_in records (group ∷ [])) (unadmitted_in-ascend records (group ∷ [])))
    refl in
    record {
      ascending = kept.0;
      each = λ s. kept.1 s
          ∙ ap (λ b. b && not (is_admitted lists lans group s))
          (has-unadmitted_in records (group ∷ []) group s known is)
          ∙ neither (wanted records group s) (is_admitted lists lans group s);
    }
  where
    neither : (a b : Bool) → (not a && not b) ≡ not (a || b)
    neither true b = refl
    neither false b = refl

-- of one more
pub unadmitted-more : (lists : List (List Record)) (lans : List ℕ) (lan group : ℕ) (sources own : List ℕ)
    → AreUnadmitted lists lans group sources → AreUnadmitted lists (lan ∷ []) group own
    → AreUnadmitted lists (lans ++ lan ∷ []) group (filter (has sources) own)
unadmitted-more lists lans lan group sources own are more =
    let kept = filter-ascending (has sources) own (filter (has sources) own) more.ascending refl in record {
      ascending = kept.0;
      each = λ s. kept.1 s ∙ ap₂ (λ a b. a && b) (more.each s) (are.each s)
          ∙ neither (is_admitted lists (lan ∷ []) group s) (is_admitted lists lans group s)
          ∙ ap not (sym (list_any-append (λ (n : ℕ). wanted (list_of lists n) group s) lans (lan ∷ [])));
    }
  where
    neither : (a b : Bool) → (not a && not b) ≡ not (b || a)
    neither true true = refl
    neither true false = refl
    neither false true = refl
    neither false false = refl
