-- The sources that the filter of none of a want's LANs admits, with one LAN more.
use Rattle.std.proofs.Common.{◌≡◌, ℕ, zero, suc, ◌+◌, ◌<◌, ◌==◌, Bool, true, false, not, cond, inl, inr}
use Rattle.std.proofs.Common.{List, [], ◌∷◌, ◌++◌, filter, flat_map, length, map, take, get_or, Some}
use Rattle.std.proofs.Common.{refl, sym, ap, ap₂, subst, ◌∙◌, arith, append-nil, length-take}
use Rattle.std.specs.Prelude.{◌&&◌, ◌||◌, ◌↔◌, Contains, slice_get}
use Rattle.std.specs.List.{list_any}
use Rattle.std.specs.List.Sorted.{IsStrictlyIncreasing, IsStrictlySortedBy}
use Rattle.std.proofs.lemmas.Bool.{and_from, and_parts, eq-eqb, eqb-true, true≢false}
use Rattle.std.proofs.lemmas.List.{length-map, take_more}
use Rattle.std.proofs.lemmas.List.Folds.{list_any-append}
use Rattle.std.proofs.lemmas.List.Kept.{AllPairs-from_increasing, IsStrictlySortedBy-filter}
use Rattle.std.proofs.lemmas.Map.Keys.{IsStrictlyIncreasing-from_sorted}
use Rattle.std.proofs.lemmas.Option.{get_or_from_slice_get, slice_get_within}
use Rattle.std.proofs.lemmas.Simd.{map-map}
use Rattle.mc_igmp.specs.declared.record.Record.{Record}
use Rattle.mc_filter.specs.FilterBuilding.{has_exclude}
use Rattle.mc_filter.specs.SourceFilter.{has}
use Rattle.mc_filter.proofs.AscendingLemmas.{Decides-has}
use Rattle.mc_tables.specs.CacheTable.{key_cmp}
use Rattle.mc_tables.specs.ListedRows.{is_listed}
use Rattle.mc_tables.specs.Summary.{in_order, shown_pairs}
use Rattle.mc_theory.specs.Lists.{In, below}
use Rattle.mc_theory.proofs.ListLemmas.{in-below, in-below_cases, in-filter, in-filter_cases}
use Rattle.mc_theory.proofs.ListLemmas.{in-flat_map_cases, in-map, in-map_cases, slice_get-map_some}
use Rattle.mc_asked.specs.Answers.{AnswersValue, class_of}
use Rattle.mc_asked.specs.AskedLines.{asked_lines, lan_wants_from, wants_of_lans}
use Rattle.mc_asked.specs.GroupRun.{seconds_of}
use Rattle.mc_asked.specs.LanWants.{LanWantsValue, asked_wants, lan_wants}
use Rattle.mc_asked.specs.ClassifiedWants.{is_asked_class}
use Rattle.mc_asked.specs.ListWants.{Want, wants_in}
use Rattle.mc_asked.specs.PairParts.{parts_with, shown_of_parts, with_parts}
use Rattle.mc_asked.specs.Unadmitted.{is_admitted, list_of, unadmitted_by, unadmitted_in, with_unadmitted}
use Rattle.mc_asked.specs.UnadmittedSoFar.{AreSourcesBelow}
use Rattle.mc_asked.specs.WantSources.{WantSourcesValue, as_asked, groups_from_any}
use Rattle.mc_asked.specs.UnadmittedSoFar.{is_empty, sources_so_far, wants_below}
use Rattle.mc_asked.specs.WantSources.{is_shared_any}
use Rattle.mc_asked.specs.WantSources.{with_lan, with_lan_at, with_unadmitted_of, without_sources}
use Rattle.mc_asked.specs.WantStates.{is_key}
use Rattle.mc_asked.proofs.LawLemmas.{any-from_in, has-from_in, has_exclude-from_any, in-from_has}
use Rattle.mc_asked.proofs.NoFilterLemmas.{firsts-sorted, or-false}
use Rattle.mc_asked.proofs.NoFilterLemmas.{unadmitted-more, unadmitted-one, unadmitted-unique}
use Rattle.mc_asked.proofs.NoFilterLemmas.{unadmitted_by-are}
use Rattle.mc_asked.proofs.OneKeyLemmas.{equal-from_is_key, is_key-itself}
use Rattle.mc_asked.proofs.PartLemmas.{equal_bools-from_both, in-from_in_order, in-from_is_listed}
use Rattle.mc_asked.proofs.PartLemmas.{in-from_take, is_listed-from_in}
use Rattle.mc_asked.proofs.SharedPairLemmas.{map-equal_on_list, map-with_parts, parts_with-push}
use Rattle.mc_asked.proofs.WantStateLemmas.{and-false}

-- ---- the wants of each LAN

-- something is kept of each list
pub length-lan_wants_from : (all : Bool) (a : AnswersValue) (k : ℕ) (lists : List (List Record))
    → length (lan_wants_from all a k lists) ≡ length lists
length-lan_wants_from all a k [] = refl
length-lan_wants_from all a k (records ∷ lists) = ap suc (length-lan_wants_from all a (suc k) lists)

-- what is kept of the list of a LAN
slice_get-lan_wants_from : (all : Bool) (a : AnswersValue) (k : ℕ) (lists : List (List Record)) (n : ℕ)
    (own : LanWantsValue) → slice_get (lan_wants_from all a k lists) n ≡ Some own
    → own ≡ lan_wants all a (k + n) (list_of lists n)
slice_get-lan_wants_from all a k [] n own at = absurd cc
slice_get-lan_wants_from all a k (records ∷ lists) zero own at =
    let same : k ≡ k + 0 = omega arith in
    some-equal (sym at) ∙ ap (λ m. lan_wants all a m records) same
  where
    some-equal : {x y : LanWantsValue} → Some x ≡ Some y → x ≡ y
    some-equal e = cc
slice_get-lan_wants_from all a k (records ∷ lists) (suc n) own at =
    let same : suc k + n ≡ k + suc n = omega arith in
    slice_get-lan_wants_from all a (suc k) lists n own at
    ∙ ap (λ m. lan_wants all a m (list_of lists n)) same

-- a want that is kept of a list is one of its wants
in-wants_in : (all : Bool) (a : AnswersValue) (lan : ℕ) (records : List Record) (w : Want)
    → In w (lan_wants all a lan records).lowest → In w (wants_in records)
in-wants_in all a lan records w h =
    (in-filter_cases (λ want. is_asked_class (class_of a lan records want)) w (wants_in records)
    (in-asked all h)).0
  where
    in-asked : (all : Bool) → In w (shown_pairs all (asked_wants a lan records))
        → In w (asked_wants a lan records)
    in-asked true h = h
    in-asked false h = in-from_take 20 w (asked_wants a lan records) h

-- so the list has an EXCLUDE record for the group of one of any source
pub has_exclude-from_lowest : (all : Bool) (a : AnswersValue) (lan : ℕ) (records : List Record) (w : Want)
    → is_listed (Some (lan_wants all a lan records).lowest) w ≡ true → (w.1 == 0) ≡ true
    → has_exclude records w.0 ≡ true
has_exclude-from_lowest all a lan records w listed any =
    has_exclude-from_any records w.0
    (subst (λ (s : ℕ). In {A = Want} (w.0, s) (wants_in records)) (eqb-true w.1 0 any)
    (in-wants_in all a lan records w (in-from_is_listed w (lan_wants all a lan records).lowest listed)))

-- changing nothing leaves a list
map-same : (ws : List Want) → map (λ (w : Want). w) ws ≡ ws
map-same [] = refl
map-same (w ∷ ws) = ap (λ l. w ∷ l) (map-same ws)

-- taking all leaves a list
take_whole : (xs : List (List Want)) → take (length xs) xs ≡ xs
take_whole [] = refl
take_whole (x ∷ xs) = ap (λ l. x ∷ l) (take_whole xs)

-- ---- LAN by LAN

-- the parts of a pair are LANs that keep it
listed-below : (all : Bool) (a : AnswersValue) (k : ℕ) (lists : List (List Record)) (lan n : ℕ) (w : Want)
    → n < length (take lan (wants_of_lans (lan_wants_from all a k lists)))
    → is_listed (slice_get (take lan (wants_of_lans (lan_wants_from all a k lists))) n) w ≡ true
    → is_listed (Some (lan_wants all a (k + n) (list_of lists n)).lowest) w ≡ true
listed-below all a k [] zero n w lt listed = absurd (omega (arith, lt))
listed-below all a k [] (suc lan) n w lt listed = absurd (omega (arith, lt))
listed-below all a k (records ∷ lists) zero n w lt listed = absurd (omega (arith, lt))
listed-below all a k (records ∷ lists) (suc lan) zero w lt listed =
    let same : k + 0 ≡ k = omega arith in
    ap (λ m. is_listed (Some (lan_wants all a m records).lowest) w) same ∙ listed
listed-below all a k (records ∷ lists) (suc lan) (suc n) w lt listed =
    let same : k + suc n ≡ suc k + n = omega arith in
    ap (λ m. is_listed (Some (lan_wants all a m (list_of lists n)).lowest) w) same
    ∙ listed-below all a (suc k) lists lan n w (omega (arith, lt)) listed

module _ (all : Bool) (a : AnswersValue) (lists : List (List Record)) where
  abbrev parts_below : ℕ → List (List Want)
  parts_below lan = wants_below all a lists lan

  -- so their lists have EXCLUDE records for the group of a want of any source
  has_exclude-of_part : (lan n : ℕ) (w : Want) → (w.1 == 0) ≡ true → In n (parts_with (parts_below lan) w)
      → has_exclude (list_of lists n) w.0 ≡ true
  has_exclude-of_part lan n w any h =
      let found = in-filter_cases (λ m. is_listed (slice_get (parts_below lan) m) w) n
      (below (length (parts_below lan))) h in
      has_exclude-from_lowest all a (0 + n) (list_of lists n) w
      (listed-below all a 0 lists lan n w (in-below_cases n (length (parts_below lan)) found.0) found.1) any

  module _ (lan : ℕ) (own : LanWantsValue)
      (at : slice_get (lan_wants_from all a 0 lists) lan ≡ Some own) where
    kept_at : slice_get (wants_of_lans (lan_wants_from all a 0 lists)) lan ≡ Some own.lowest
    kept_at = slice_get-map_some (λ (o : LanWantsValue). o.lowest) (lan_wants_from all a 0 lists) lan own at

    within : lan < length (wants_of_lans (lan_wants_from all a 0 lists))
    within = slice_get_within (wants_of_lans (lan_wants_from all a 0 lists)) lan own.lowest kept_at

    length-parts_below : length (parts_below lan) ≡ lan
    length-parts_below = omega (arith, length-take lan (wants_of_lans (lan_wants_from all a 0 lists)), within)

    -- the wants that are kept of one LAN more
    parts_below-next : parts_below (lan + 1) ≡ parts_below lan ++ own.lowest ∷ []
    parts_below-next =
        take_more (wants_of_lans (lan_wants_from all a 0 lists)) lan [] within
        ∙ ap (λ (part : List Want). parts_below lan ++ part ∷ [])
        (get_or_from_slice_get (wants_of_lans (lan_wants_from all a 0 lists)) lan own.lowest [] kept_at)

    abbrev is_own : Want → Bool
    is_own w = is_listed (Some own.lowest) w

    -- the LANs of a want with this one
    parts_with-next : (w : Want) → parts_with (parts_below (lan + 1)) w
        ≡ parts_with (parts_below lan) w ++ cond (is_own w) (lan ∷ []) []
    parts_with-next w =
        ap (λ (ps : List (List Want)). parts_with ps w) parts_below-next
        ∙ parts_with-push (parts_below lan) own.lowest w
        ∙ ap (λ n. parts_with (parts_below lan) w ++ cond (is_own w) (n ∷ []) []) length-parts_below

    has_exclude-of_own : (w : Want) → is_own w ≡ true → (w.1 == 0) ≡ true
        → has_exclude (list_of lists lan) w.0 ≡ true
    has_exclude-of_own w listed any =
        has_exclude-from_lowest all a (0 + lan) (list_of lists lan) w
        (ap (λ (o : LanWantsValue). is_listed (Some o.lowest) w)
        (sym (slice_get-lan_wants_from all a 0 lists lan own at)) ∙ listed) any

    -- ---- what is kept of a want

    -- by whether it is of any source
    abbrev so_far_by : Bool → Want → (ns : List ℕ) → WantSourcesValue
    so_far_by any w ns = record {
      want = w;
      is_begun = not (is_empty ns) && any;
      unadmitted = cond any (unadmitted_by lists w.0 ns) [];
    }

    abbrev so_far : ℕ → Want → WantSourcesValue
    so_far n w = sources_so_far lists (with_parts (parts_below n) w)

    -- of one source nothing is kept
    so_far-single : (w : Want) (ns ms : List ℕ) → so_far_by false w ns ≡ so_far_by false w ms
    so_far-single w ns ms =
        ap (λ begun. record { want = w; is_begun = begun; unadmitted = [] })
        (and-false (not (is_empty ns)) ∙ sym (and-false (not (is_empty ms))))

    -- with this LAN
    so_far-with : (w : Want) (groups ns : List ℕ) → has groups w.0 ≡ true
        → has_exclude (list_of lists lan) w.0 ≡ true
        → ((n : ℕ) → In n ns → has_exclude (list_of lists n) w.0 ≡ true)
        → with_lan (seconds_of w.0 (unadmitted_in (list_of lists lan) groups)) (so_far_by true w ns)
        ≡ so_far_by true w (ns ++ lan ∷ [])
    so_far-with w groups [] known is each =
        ap (λ sources. record { want = w; is_begun = true; unadmitted = sources })
        (unadmitted-unique lists (lan ∷ []) w.0 _ (unadmitted_by lists w.0 (lan ∷ []))
        (unadmitted-one lists lan groups w.0 known is) (unadmitted_by-are lists w.0 lan [] is))
    so_far-with w groups (n ∷ ns) known is each =
        let first = each n (inl refl) in
        ap (λ sources. record { want = w; is_begun = true; unadmitted = sources })
        (unadmitted-unique lists (n ∷ (ns ++ lan ∷ [])) w.0 _ (unadmitted_by lists w.0 (n ∷ (ns ++ lan ∷ [])))
        (unadmitted-more lists (n ∷ ns) lan w.0 (unadmitted_by lists w.0 (n ∷ ns))
        (seconds_of w.0 (unadmitted_in (list_of lists lan) groups)) (unadmitted_by-are lists w.0 n ns first)
        (unadmitted-one lists lan groups w.0 known is))
        (unadmitted_by-are lists w.0 n (ns ++ lan ∷ []) first))

    so_far-step : (w : Want) (groups ns : List ℕ) (any listed : Bool)
        → (any ≡ true → has groups w.0 ≡ listed)
        → (any ≡ true → listed ≡ true → has_exclude (list_of lists lan) w.0 ≡ true)
        → (any ≡ true → (n : ℕ) → In n ns → has_exclude (list_of lists n) w.0 ≡ true)
        → cond (any && has groups w.0)
        (with_lan (seconds_of w.0 (unadmitted_in (list_of lists lan) groups)) (so_far_by any w ns))
        (so_far_by any w ns)
        ≡ so_far_by any w (ns ++ cond listed (lan ∷ []) [])
    so_far-step w groups ns false listed known is each = so_far-single w ns (ns ++ cond listed (lan ∷ []) [])
    so_far-step w groups ns true true known is each =
        ap (λ b. cond b (with_lan (seconds_of w.0 (unadmitted_in (list_of lists lan) groups))
        (so_far_by true w ns)) (so_far_by true w ns)) (known refl)
        ∙ so_far-with w groups ns (known refl) (is refl refl) (each refl)
    so_far-step w groups ns true false known is each =
        ap (λ b. cond b (with_lan (seconds_of w.0 (unadmitted_in (list_of lists lan) groups))
        (so_far_by true w ns)) (so_far_by true w ns)) (known refl)
        ∙ ap (so_far_by true w) (sym (append-nil ns))

    -- ---- all wants

    module _ (wants : List Want) where
      abbrev groups : List ℕ
      groups = groups_from_any wants own.lowest

      -- one of any source has a group among those if the LAN keeps it
      has-groups : (w : Want) → In w wants → (w.1 == 0) ≡ true → has groups w.0 ≡ is_own w
      has-groups w h any =
          equal_bools-from_both (has groups w.0) (is_own w)
          (λ e.
          let found = in-map_cases (λ (v : Want). v.0) w.0 (filter (is_shared_any wants) own.lowest)
          (in-from_has groups w.0 e) in
          let kept = in-filter_cases (is_shared_any wants) found.0 own.lowest found.1 in
          let source = eqb-true found.0.1 0
          (and_parts (found.0.1 == 0) (is_listed (Some wants) found.0) kept.1).0 in
          let same : found.0 ≡ w = ap₂ (λ (g s : ℕ). (g, s)) found.2 (source ∙ sym (eqb-true w.1 0 any)) in
          is_listed-from_in w own.lowest (subst (λ (v : Want). In v own.lowest) same kept.0))
          (λ e. has-from_in groups w.0 (in-map (λ (v : Want). v.0) w (filter (is_shared_any wants) own.lowest)
          (in-filter (is_shared_any wants) w own.lowest (in-from_is_listed w own.lowest e)
          (and_from (w.1 == 0) (is_listed (Some wants) w) any (is_listed-from_in w wants h)))))

      so_far-next : (w : Want) → In w wants
          → with_unadmitted_of groups (unadmitted_in (list_of lists lan) groups) (so_far lan w)
          ≡ so_far (lan + 1) w
      so_far-next w h =
          let ns = parts_with (parts_below lan) w in
          so_far-step w groups ns (w.1 == 0) (is_own w) (has-groups w h)
          (λ any listed. has_exclude-of_own w listed any)
          (λ any n k. has_exclude-of_part lan n w any k)
          ∙ ap (λ (l : List ℕ). sources_so_far lists (w, l)) (sym (parts_with-next w))

      -- with the list of this LAN
      pub sources-with_list : (old new : List WantSourcesValue) → AreSourcesBelow all a lists lan wants old
          → new ≡ map (with_unadmitted_of groups (unadmitted_in (list_of lists lan) groups)) old
          → AreSourcesBelow all a lists (lan + 1) wants new
      sources-with_list old new are is =
          let step = with_unadmitted_of groups (unadmitted_in (list_of lists lan) groups) in
          is ∙ ap (map step) are ∙ map-map step (so_far lan) wants
          ∙ map-equal_on_list (λ w. step (so_far lan w)) (so_far (lan + 1)) wants so_far-next

      -- a list that isn't needed
      so_far-other : (w : Want) → In w wants → list_any (is_shared_any wants) own.lowest ≡ false
          → so_far lan w ≡ so_far (lan + 1) w
      so_far-other w h none =
          by (w.1 == 0) (is_own w) refl refl
          ∙ ap (λ (l : List ℕ). sources_so_far lists (w, l)) (sym (parts_with-next w))
        where
          ns : List ℕ
          ns = parts_with (parts_below lan) w

          by : (any listed : Bool) → (w.1 == 0) ≡ any → is_own w ≡ listed
              → so_far_by any w (parts_with (parts_below lan) w)
              ≡ so_far_by any w (parts_with (parts_below lan) w ++ cond listed (lan ∷ []) [])
          by false listed any is = so_far-single w (parts_with (parts_below lan) w)
              (parts_with (parts_below lan) w ++ cond listed (lan ∷ []) [])
          by true true any is =
              absurd (true≢false (sym (any-from_in (is_shared_any wants) w own.lowest
              (in-from_is_listed w own.lowest is)
              (and_from (w.1 == 0) (is_listed (Some wants) w) any (is_listed-from_in w wants h))) ∙ none))
          by true false any is = ap (so_far_by true w) (sym (append-nil (parts_with (parts_below lan) w)))

      pub sources-without_list : (sources : List WantSourcesValue)
          → AreSourcesBelow all a lists lan wants sources
          → list_any (is_shared_any wants) own.lowest ≡ false
          → AreSourcesBelow all a lists (lan + 1) wants sources
      sources-without_list sources are none =
          are ∙ map-equal_on_list (so_far lan) (so_far (lan + 1)) wants (λ w h. so_far-other w h none)

  -- the wants themselves
  pub wants-of_sources : (lan : ℕ) (wants : List Want) (sources : List WantSourcesValue)
      → AreSourcesBelow all a lists lan wants sources → map (λ (s : WantSourcesValue). s.want) sources ≡ wants
  wants-of_sources lan wants sources are =
      ap (map (λ (s : WantSourcesValue). s.want)) are
      ∙ map-map (λ (s : WantSourcesValue). s.want)
      (λ (w : Want). sources_so_far lists (with_parts (parts_below lan) w)) wants
      ∙ map-same wants

  -- ---- before the first LAN, and after the last one

  pub sources-before_first : (wants : List Want)
      → AreSourcesBelow all a lists 0 wants (map without_sources wants)
  unfolding below
  sources-before_first wants =
      map-equal_on_list without_sources (λ w. sources_so_far lists (with_parts [] w)) wants
      (λ w h. by w (w.1 == 0))
    where
      by : (w : Want) (any : Bool) → without_sources w
          ≡ (let s : WantSourcesValue = record {
            want = w;
            is_begun = false;
            unadmitted = cond any [] [];
          } in s)
      by w true = refl
      by w false = refl

  -- with all LANs these are the lines' wants with their unadmitted sources
  pub asked-after_last : (lines : List (Want × List ℕ)) (sources : List WantSourcesValue)
      → lines ≡ asked_lines all (lan_wants_from all a 0 lists)
      → AreSourcesBelow all a lists (length lists) (map (λ (l : Want × List ℕ). l.0) lines) sources
      → map as_asked sources ≡ map (with_unadmitted lists) lines
  asked-after_last lines sources lines_are are =
      let parts = wants_of_lans (lan_wants_from all a 0 lists) in
      let shown = shown_of_parts all parts in
      let line : Want → Want × List ℕ = with_parts parts in
      let count : length parts ≡ length lists =
      length-map (lan_wants_from all a 0 lists) (λ (o : LanWantsValue). o.lowest)
      ∙ length-lan_wants_from all a 0 lists in
      let whole : parts_below (length lists) ≡ parts =
      ap (λ n. take n parts) (sym count) ∙ take_whole parts in
      let keys : map (λ (l : Want × List ℕ). l.0) lines ≡ shown =
      ap (map (λ (l : Want × List ℕ). l.0)) lines_are ∙ map-with_parts parts shown in
      let own : sources ≡ map (λ w. sources_so_far lists (line w)) shown =
      are ∙ ap₂ (λ (ps : List (List Want)) (ws : List Want).
      map (λ w. sources_so_far lists (with_parts ps w)) ws) whole keys in
      ap (map as_asked) own
      ∙ map-map as_asked (λ w. sources_so_far lists (line w)) shown
      ∙ sym (map-map (with_unadmitted lists) line shown)
      ∙ ap (map (with_unadmitted lists)) (sym lines_are)

-- ---- by the lines

module _ (all : Bool) (a : AnswersValue) (lists : List (List Record)) where
  abbrev parts : List (List Want)
  parts = wants_of_lans (lan_wants_from all a 0 lists)

  -- a want that is shown is one of some LAN
  in-some_part : (w : Want) (ps : List (List Want)) → In w (shown_of_parts all ps)
      → (n : ℕ) × In n (parts_with ps w)
  in-some_part w ps h =
      let whole = flat_map (λ (part : List Want). part) ps in
      let found = in-flat_map_cases (λ (part : List Want). part) w ps
      (in-from_in_order w whole (shown all h)) in
      let at = place found.0 ps found.1 in (
        at.0,
        in-filter (λ n. is_listed (slice_get ps n) w) at.0 (below (length ps))
            (in-below at.0 (length ps) at.1.0)
            (ap (λ o. is_listed o w) at.1.1 ∙ is_listed-from_in w found.0 found.2),
      )
    where
      shown : (all : Bool) → In w (shown_pairs all (in_order (flat_map (λ (part : List Want). part) ps)))
          → In w (in_order (flat_map (λ (part : List Want). part) ps))
      shown true h = h
      shown false h = in-from_take 20 w (in_order (flat_map (λ (part : List Want). part) ps)) h

      place : (part : List Want) (ps : List (List Want)) → In part ps
          → (n : ℕ) × ((n < length ps) × (slice_get ps n ≡ Some part))
      place part [] h = absurd h
      place part (p ∷ ps) (inl e) = (0, (omega arith, ap Some e))
      place part (p ∷ ps) (inr h) =
          let found = place part ps h in
          (suc found.0, (omega (arith, found.1.0), found.1.1))

  -- of a line for any source the unadmitted sources are those that the filter of none of its LANs admits
  pub unadmitted-of_line : (group : ℕ) (ns : List ℕ) (source : ℕ)
      → In ((group, 0), ns) (asked_lines all (lan_wants_from all a 0 lists))
      → Contains (unadmitted_by lists group ns) source ↔ (is_admitted lists ns group source ≡ false)
  unadmitted-of_line group ns source h =
      let found = in-map_cases (with_parts parts) ((group, 0), ns) (shown_of_parts all parts) h in
      let want : found.0 ≡ (group, 0) = ap (λ (line : Want × List ℕ). line.0) found.2 in
      let own : parts_with parts (group, 0) ≡ ns =
      ap (parts_with parts) (sym want) ∙ ap (λ (line : Want × List ℕ). line.1) found.2 in
      let some = in-some_part (group, 0) parts
      (subst (λ (w : Want). In w (shown_of_parts all parts)) want found.1) in
      by ns some.0 (subst (λ l. In some.0 l) own some.1)
      (λ n k. each n (subst (λ l. In n l) (sym own) k))
    where
      each : (n : ℕ) → In n (parts_with parts (group, 0)) → has_exclude (list_of lists n) group ≡ true
      each n k =
          has_exclude-of_part all a lists (length parts) n (group, 0) refl
          (subst (λ (ps : List (List Want)). In n (parts_with ps (group, 0))) (sym (take_whole parts)) k)

      decided : (sources : List ℕ) (b : Bool) → has sources source ≡ not b
          → Contains sources source ↔ (b ≡ false)
      decided sources b is = grind (arith, Decides-has sources source)

      by : (ns : List ℕ) (m : ℕ) → In m ns → ((n : ℕ) → In n ns → has_exclude (list_of lists n) group ≡ true)
          → Contains (unadmitted_by lists group ns) source ↔ (is_admitted lists ns group source ≡ false)
      by [] m none is = absurd none
      by (n ∷ ns) m some is =
          let are = unadmitted_by-are lists group n ns (is n (inl refl)) in
          decided (unadmitted_by lists group (n ∷ ns)) (is_admitted lists (n ∷ ns) group source)
          (are.each source)

-- before the first LAN the wants are those that were given
pub wants-of_without_sources : (wants : List Want)
    → map (λ (s : WantSourcesValue). s.want) (map without_sources wants) ≡ wants
wants-of_without_sources [] = refl
wants-of_without_sources (w ∷ wants) = ap (λ l. w ∷ l) (wants-of_without_sources wants)

-- ---- group by group

-- the groups ascend
pub groups_from_any-ascend : (wants own : List Want) → IsStrictlySortedBy key_cmp own
    → IsStrictlyIncreasing (groups_from_any wants own)
groups_from_any-ascend wants own up =
    IsStrictlyIncreasing-from_sorted (groups_from_any wants own)
    (firsts-sorted 0 (filter (is_shared_any wants) own)
    (IsStrictlySortedBy-filter key_cmp (is_shared_any wants) own up)
    (λ w h. eqb-true w.1 0 (and_parts (w.1 == 0) (is_listed (Some wants) w)
    (in-filter_cases (is_shared_any wants) w own h).1).0))

-- the next of ascending groups isn't among those before
has-take_ascending : (groups : List ℕ) (k g : ℕ) → IsStrictlyIncreasing groups → k < length groups
    → g ≡ get_or groups k g → has (take k groups) g ≡ false
has-take_ascending groups k g up lt at = by (has (take k groups) g) refl
  where
    place : (k : ℕ) (xs : List ℕ) → In g (take k xs)
        → (j : ℕ) × ((j < k) × ((j < length xs) × (get_or xs j g ≡ g)))
    place zero xs h = absurd h
    place (suc k) [] h = absurd h
    place (suc k) (x ∷ xs) (inl e) = (0, (omega arith, (omega arith, e)))
    place (suc k) (x ∷ xs) (inr h) =
        let found = place k xs h in
        (suc found.0, (omega (arith, found.1.0), (omega (arith, found.1.1.0), found.1.1.1)))

    by : (b : Bool) → has (take k groups) g ≡ b → b ≡ false
    by false e = refl
    by true e =
        let found = place k groups (in-from_has (take k groups) g e) in
        let less = AllPairs-from_increasing groups up found.0 k g found.1.0 lt in
        absurd (omega (arith, less, found.1.1.1, sym at))

-- the key of a want of any source
is_key-any : (g : ℕ) (w : Want) → is_key (g, 0) w ≡ ((w.1 == 0) && (g == w.0))
is_key-any g w =
    equal_bools-from_both (is_key (g, 0) w) ((w.1 == 0) && (g == w.0))
    (λ e.
    let same = equal-from_is_key (g, 0) w e in
    and_from (w.1 == 0) (g == w.0) (eq-eqb w.1 0 (ap (λ (p : ℕ × ℕ). p.1) same))
    (eq-eqb g w.0 (sym (ap (λ (p : ℕ × ℕ). p.0) same))))
    (λ e.
    let both = and_parts (w.1 == 0) (g == w.0) e in
    is_key-itself (g, 0) w
    (ap₂ (λ (x y : ℕ). let p : ℕ × ℕ = (x, y) in p) (sym (eqb-true g w.0 both.1)) (eqb-true w.1 0 both.0)))

module _ (unadmitted : List (ℕ × ℕ)) where
  abbrev step_of : List ℕ → WantSourcesValue → WantSourcesValue
  step_of groups = with_unadmitted_of groups unadmitted

  -- the wants of one group more
  with_group-more : (groups : List ℕ) (g : ℕ) (s : WantSourcesValue) → has groups g ≡ false
      → with_lan_at g (seconds_of g unadmitted) (step_of groups s) ≡ step_of (groups ++ g ∷ []) s
  with_group-more groups g s new =
      by (s.want.1 == 0) (has groups s.want.0) (g == s.want.0) refl refl refl
    where
      own : ℕ → WantSourcesValue
      own group = with_lan (seconds_of group unadmitted) s

      more : has (groups ++ g ∷ []) s.want.0 ≡ (has groups s.want.0 || (g == s.want.0))
      more =
          list_any-append (λ (x : ℕ). x == s.want.0) groups (g ∷ [])
          ∙ ap (λ b. has groups s.want.0 || b) (or-false (g == s.want.0))

      -- by whether the want had one of the groups, and whether it has this one
      before : (old key : Bool) → ((s.want.1 == 0) && has groups s.want.0) ≡ old → is_key (g, 0) s.want ≡ key
          → with_lan_at g (seconds_of g unadmitted) (step_of groups s)
          ≡ cond key (with_lan (seconds_of g unadmitted) (cond old (own s.want.0) s))
          (cond old (own s.want.0) s)
      before true key is_old is_key =
          ap (λ b. with_lan_at g (seconds_of g unadmitted) (cond b (own s.want.0) s)) is_old
          ∙ ap (λ b. cond b (with_lan (seconds_of g unadmitted) (own s.want.0)) (own s.want.0)) is_key
      before false key is_old is_key =
          ap (λ b. with_lan_at g (seconds_of g unadmitted) (cond b (own s.want.0) s)) is_old
          ∙ ap (λ b. cond b (with_lan (seconds_of g unadmitted) s) s) is_key

      by : (any old same : Bool) → (s.want.1 == 0) ≡ any → has groups s.want.0 ≡ old → (g == s.want.0) ≡ same
          → with_lan_at g (seconds_of g unadmitted) (step_of groups s) ≡ step_of (groups ++ g ∷ []) s
      by false old same is_any is_old is_same =
          before false false (ap (λ b. b && has groups s.want.0) is_any)
          (is_key-any g s.want ∙ ap (λ b. b && (g == s.want.0)) is_any)
          ∙ sym (ap (λ b. cond (b && has (groups ++ g ∷ []) s.want.0) (own s.want.0) s) is_any)
      by true true true is_any is_old is_same =
          absurd (true≢false (sym is_old ∙ ap (has groups) (sym (eqb-true g s.want.0 is_same)) ∙ new))
      by true true false is_any is_old is_same =
          before true false (ap₂ (λ b c. b && c) is_any is_old)
          (is_key-any g s.want ∙ ap₂ (λ b c. b && c) is_any is_same)
          ∙ sym (ap₂ (λ b c. cond (b && c) (own s.want.0) s) is_any
          (more ∙ ap₂ (λ b c. b || c) is_old is_same))
      by true false true is_any is_old is_same =
          before false true (ap₂ (λ b c. b && c) is_any is_old)
          (is_key-any g s.want ∙ ap₂ (λ b c. b && c) is_any is_same)
          ∙ ap own (eqb-true g s.want.0 is_same)
          ∙ sym (ap₂ (λ b c. cond (b && c) (own s.want.0) s) is_any
          (more ∙ ap₂ (λ b c. b || c) is_old is_same))
      by true false false is_any is_old is_same =
          before false false (ap₂ (λ b c. b && c) is_any is_old)
          (is_key-any g s.want ∙ ap₂ (λ b c. b && c) is_any is_same)
          ∙ sym (ap₂ (λ b c. cond (b && c) (own s.want.0) s) is_any
          (more ∙ ap₂ (λ b c. b || c) is_old is_same))

-- no group yet
pub sources-with_no_group : (unadmitted : List (ℕ × ℕ)) (sources : List WantSourcesValue)
    → sources ≡ map (with_unadmitted_of [] unadmitted) sources
sources-with_no_group unadmitted [] = refl
sources-with_no_group unadmitted (s ∷ sources) =
    ap₂ (λ (y : WantSourcesValue) (ys : List WantSourcesValue). y ∷ ys)
    (sym (ap (λ b. cond b (with_lan (seconds_of s.want.0 unadmitted) s) s) (and-false (s.want.1 == 0))))
    (sources-with_no_group unadmitted sources)

-- the wants of the next group
pub sources-with_group : (unadmitted : List (ℕ × ℕ)) (groups : List ℕ) (k g : ℕ)
    (old now new : List WantSourcesValue)
    → IsStrictlyIncreasing groups → k < length groups → g ≡ get_or groups k g
    → now ≡ map (with_unadmitted_of (take k groups) unadmitted) old
    → new ≡ map (with_lan_at g (seconds_of g unadmitted)) now
    → new ≡ map (with_unadmitted_of (take (k + 1) groups) unadmitted) old
sources-with_group unadmitted groups k g old now new up lt at so_far is =
    let next : take (k + 1) groups ≡ take k groups ++ g ∷ [] =
    take_more groups k g lt ∙ ap (λ x. take k groups ++ x ∷ []) (sym at) in
    let fresh = has-take_ascending groups k g up lt at in
    is ∙ ap (map (with_lan_at g (seconds_of g unadmitted))) so_far
    ∙ map-map (with_lan_at g (seconds_of g unadmitted)) (with_unadmitted_of (take k groups) unadmitted) old
    ∙ map-equal (λ s. with_lan_at g (seconds_of g unadmitted)
    (with_unadmitted_of (take k groups) unadmitted s))
    (with_unadmitted_of (take k groups ++ g ∷ []) unadmitted) old
    (λ s. with_group-more unadmitted (take k groups) g s fresh)
    ∙ ap (λ gs. map (with_unadmitted_of gs unadmitted) old) (sym next)
  where
    map-equal : (f h : WantSourcesValue → WantSourcesValue) (xs : List WantSourcesValue)
        → ((s : WantSourcesValue) → f s ≡ h s) → map f xs ≡ map h xs
    map-equal f h [] same = refl
    map-equal f h (x ∷ xs) same =
        ap₂ (λ (y : WantSourcesValue) (ys : List WantSourcesValue). y ∷ ys) (same x) (map-equal f h xs same)
