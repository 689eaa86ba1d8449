-- What a router has for several wants, by one more row.
use Rattle.std.proofs.Common.{◌≡◌, ℕ, ◌==◌, Bool, true, false, cond, not, List, [], ◌∷◌, map, refl, sym}
use Rattle.std.proofs.Common.{ap, ◌∙◌, ap₂, inl, inr, Option, Some, None, ◌++◌, append-nil}
use Rattle.std.proofs.Common.{append_assoc}
use Rattle.std.specs.Prelude.{◌&&◌, ◌||◌}
use Rattle.std.specs.FinMap.{FinMap}
use Rattle.std.specs.List.{list_any}
use Rattle.std.specs.Ordering.{nat_cmp}
use Rattle.std.proofs.lemmas.Bool.{cases_Bool, eq-eqb, eqb-true, false≢true, ne_eqb, or_parts}
use Rattle.mc_tables.specs.CacheTable.{EntryValue, RowValue}
use Rattle.mc_tables.specs.EachRow.{PassesOverOthers, with_entry, with_rows}
use Rattle.mc_tables.specs.VifTable.{VifValue}
use Rattle.mc_asked.specs.declared.forwarding.RouterState.{RouterState}
use Rattle.mc_asked.specs.declared.forwarding.RouterState.TheVariants.{Nothing, EverySource, NoneOut}
use Rattle.mc_asked.specs.declared.forwarding.RouterState.TheVariants.{Forwards}
use Rattle.mc_asked.specs.Forwarding.{greater, is_counted, is_counted_source, router_state, row_of}
use Rattle.mc_filter.specs.SourceFilter.{has}
use Rattle.mc_asked.specs.ListWants.{Want}
use Rattle.mc_asked.specs.WantStates.{StatedWantValue, is_key, states_by_rows, states_start, unstated}
use Rattle.mc_asked.specs.WantStates.{is_among_wants, may_change_states, states_with_row, want_by_rows}
use Rattle.mc_asked.specs.WantStates.{want_with_row}
use Rattle.mc_asked.specs.WantStates.{want_with_row_if_group, want_with_row_if_want}
use Rattle.mc_asked.proofs.ForwardingLemmas.{router_state-append}
use Rattle.mc_asked.proofs.OneKeyLemmas.{equal-from_is_key, is_key-itself}

-- no state is greater than another
greater-nothing : (state : RouterState) → greater state Nothing ≡ state
greater-nothing Nothing = refl
greater-nothing EverySource = refl
greater-nothing NoneOut = refl
greater-nothing Forwards = refl

-- a test and none is none
pub and-false : (b : Bool) → (b && false) ≡ false
and-false true = refl
and-false false = refl

-- an entry of one source counts for no want but that of its group and any source, and that of its group and
-- its source
counted_source-other : (unadmitted : List ℕ) (want : Want) (key : ℕ × ℕ) → (key.1 == want.0) ≡ true
    → (want ≡ (key.1, 0) → ⊥) → (want ≡ (key.1, key.0) → ⊥)
    → is_counted_source unadmitted want key.0 ≡ false
counted_source-other unadmitted want key group any one =
    let is_group : want.0 ≡ key.1 = sym (eqb-true key.1 want.0 group) in
    elim (cases_Bool (want.1 == 0)) [
      | inl is_any ↦ absurd (any (ap₂ (λ (g s : ℕ). (g, s)) is_group (eqb-true want.1 0 is_any)))
      | inr other ↦
          ap (λ b. cond b (not (has unadmitted key.0)) (key.0 == want.1)) other
          ∙ elim (cases_Bool (key.0 == want.1)) [
            | inl same ↦ absurd (one (ap₂ (λ (g s : ℕ). (g, s)) is_group (sym (eqb-true key.0 want.1 same))))
            | inr differs ↦ differs
          ]
    ]

-- An (S,G) row doesn't count for other wants than that of any source of G and that of S and G.
counted-other : (unadmitted : List ℕ) (want : Want) (key : ℕ × ℕ) (entry : EntryValue)
    → (want ≡ (key.1, 0) → ⊥) → (want ≡ (key.1, key.0) → ⊥)
    → is_counted unadmitted want (row_of key entry) ≡ false
counted-other unadmitted want key entry any one =
    elim (cases_Bool (key.1 == want.0)) [
      | inl group ↦
          ap (λ b. (key.1 == want.0) && (not (key.0 == 0) && b))
          (counted_source-other unadmitted want key group any one)
          ∙ ap (λ b. (key.1 == want.0) && b) (and-false (not (key.0 == 0))) ∙ and-false (key.1 == want.0)
      | inr differs ↦ ap (λ b. b && (not (key.0 == 0) && is_counted_source unadmitted want key.0)) differs
    ]

-- so it has nothing for them
state-other : (vifs : FinMap nat_cmp VifValue) (unadmitted : List ℕ) (want : Want) (key : ℕ × ℕ)
    (entry : EntryValue) → (key.0 == 0) ≡ false → (want ≡ (key.1, 0) → ⊥) → (want ≡ (key.1, key.0) → ⊥)
    → router_state vifs unadmitted want (row_of key entry ∷ []) ≡ Nothing
state-other vifs unadmitted want key entry source any one =
    rw (counted-other unadmitted want key entry any one, source) refl

-- so it changes nothing for another want
row-other : (vifs : FinMap nat_cmp VifValue) (key : ℕ × ℕ) (entry : EntryValue) (w : StatedWantValue)
    → (key.0 == 0) ≡ false → (w.want ≡ (key.1, 0) → ⊥) → (w.want ≡ (key.1, key.0) → ⊥)
    → w ≡ want_with_row vifs key entry w
row-other vifs key entry w source any one =
    ap (λ state. record { want = w.want; unadmitted = w.unadmitted; state = state })
    (sym (ap (greater w.state) (state-other vifs w.unadmitted w.want key entry source any one)
    ∙ greater-nothing w.state))

-- and what it changes for these two is what it changes
pub row-at_both : (vifs : FinMap nat_cmp VifValue) (key : ℕ × ℕ) (entry : EntryValue) (w : StatedWantValue)
    → (key.0 == 0) ≡ false
    → want_with_row_if_want (key.1, key.0) vifs key entry (want_with_row_if_want (key.1, 0) vifs key entry w)
    ≡ want_with_row vifs key entry w
row-at_both vifs key entry w source =
    let after : StatedWantValue = want_with_row vifs key entry w in
    let second : StatedWantValue → StatedWantValue = want_with_row_if_want (key.1, key.0) vifs key entry in
    elim (cases_Bool (is_key (key.1, 0) w.want)) [
      | inl any ↦
          let is_any = equal-from_is_key (key.1, 0) w.want any in
          ap (λ b. second (cond b after w)) any
          ∙ elim (cases_Bool (is_key (key.1, key.0) w.want)) [
            | inl one ↦
                let is_one = equal-from_is_key (key.1, key.0) w.want one in
                let zero_is : key.0 ≡ 0 = ap (λ (p : ℕ × ℕ). p.1) (sym is_one ∙ is_any) in
                absurd (false≢true (sym source ∙ ap (λ n. n == 0) zero_is))
            | inr other ↦ ap (λ b. cond b (want_with_row vifs key entry after) after) other
          ]
      | inr not_any ↦
          ap (λ b. second (cond b after w)) not_any
          ∙ elim (cases_Bool (is_key (key.1, key.0) w.want)) [
            | inl one ↦ ap (λ b. cond b after w) one
            | inr not_one ↦
                ap (λ b. cond b after w) not_one
                ∙ row-other vifs key entry w source
                (λ is. false≢true (sym not_any ∙ ap (is_key (key.1, 0)) is
                ∙ is_key-itself (key.1, 0) (key.1, 0) refl))
                (λ is. false≢true (sym not_one ∙ ap (is_key (key.1, key.0)) is
                ∙ is_key-itself (key.1, key.0) (key.1, key.0) refl))
          ]
    ]

-- for all wants
pub rows-at_both : (vifs : FinMap nat_cmp VifValue) (key : ℕ × ℕ) (entry : EntryValue)
    (ws : List StatedWantValue) → (key.0 == 0) ≡ false
    → map (want_with_row_if_want (key.1, key.0) vifs key entry)
    (map (want_with_row_if_want (key.1, 0) vifs key entry) ws)
    ≡ map (want_with_row vifs key entry) ws
rows-at_both vifs key entry [] source = refl
rows-at_both vifs key entry (w ∷ ws) source =
    ap₂ (λ (x : StatedWantValue) (xs : List StatedWantValue). x ∷ xs) (row-at_both vifs key entry w source)
    (rows-at_both vifs key entry ws source)

-- ---- row by row

-- a row that isn't resolved has nothing for a want
state-unresolved : (vifs : FinMap nat_cmp VifValue) (unadmitted : List ℕ) (want : Want) (row : RowValue)
    → row.entry ≡ None → router_state vifs unadmitted want (row ∷ []) ≡ Nothing
state-unresolved vifs unadmitted want row none = rw none refl

-- one row more
stated-one_more : (vifs : FinMap nat_cmp VifValue) (earlier : List RowValue) (row : RowValue)
    (w : Want × List ℕ)
    → greater (router_state vifs w.1 w.0 earlier) (router_state vifs w.1 w.0 (row ∷ []))
    ≡ router_state vifs w.1 w.0 (earlier ++ row ∷ [])
stated-one_more vifs earlier row w = router_state-append vifs w.1 w.0 earlier (row ∷ [])

-- one resolved row more changes each want's state to that by the rows with it
stated-resolved : (vifs : FinMap nat_cmp VifValue) (earlier : List RowValue) (row : RowValue)
    (entry : EntryValue) (ws : List (Want × List ℕ)) → row.entry ≡ Some entry
    → map (want_with_row vifs (row.origin, row.group) entry) (map (want_by_rows vifs earlier) ws)
    ≡ map (want_by_rows vifs (earlier ++ row ∷ [])) ws
stated-resolved vifs earlier row entry [] is = refl
stated-resolved vifs earlier row entry (w ∷ ws) is =
    let whole : row_of (row.origin, row.group) entry ≡ row =
    ap (λ e. record { group = row.group; origin = row.origin; entry = e }) (sym is) in
    ap₂ (λ (x : StatedWantValue) (xs : List StatedWantValue). x ∷ xs)
    (ap (λ state. record { want = w.0; unadmitted = w.1; state = state })
    (ap (λ r. greater (router_state vifs w.1 w.0 earlier) (router_state vifs w.1 w.0 (r ∷ []))) whole
    ∙ stated-one_more vifs earlier row w))
    (stated-resolved vifs earlier row entry ws is)

-- an unresolved row changes no state
stated-unresolved : (vifs : FinMap nat_cmp VifValue) (earlier : List RowValue) (row : RowValue)
    (ws : List (Want × List ℕ)) → row.entry ≡ None
    → map (want_by_rows vifs earlier) ws ≡ map (want_by_rows vifs (earlier ++ row ∷ [])) ws
stated-unresolved vifs earlier row [] none = refl
stated-unresolved vifs earlier row (w ∷ ws) none =
    ap₂ (λ (x : StatedWantValue) (xs : List StatedWantValue). x ∷ xs)
    (ap (λ state. record { want = w.0; unadmitted = w.1; state = state })
    (sym (ap (greater (router_state vifs w.1 w.0 earlier)) (state-unresolved vifs w.1 w.0 row none)
    ∙ greater-nothing (router_state vifs w.1 w.0 earlier)) ∙ stated-one_more vifs earlier row w))
    (stated-unresolved vifs earlier row ws none)

-- so one row more gives the states by the rows with it
states-one_more : (vifs : FinMap nat_cmp VifValue) (ws : List (Want × List ℕ)) (earlier : List RowValue)
    (row : RowValue) (entry : Option EntryValue) → row.entry ≡ entry
    → with_entry states_with_row (states_by_rows vifs ws earlier) (row.origin, row.group) entry
    ≡ states_by_rows vifs ws (earlier ++ row ∷ [])
states-one_more vifs ws earlier row None is =
    ap (λ l. record { vifs = vifs; wants = l }) (stated-unresolved vifs earlier row ws is)
states-one_more vifs ws earlier row (Some entry) is =
    ap (λ l. record { vifs = vifs; wants = l }) (stated-resolved vifs earlier row entry ws is)

-- and all rows, one after another, those by all
states-more : (vifs : FinMap nat_cmp VifValue) (ws : List (Want × List ℕ)) (earlier rows : List RowValue)
    → with_rows states_with_row (states_by_rows vifs ws earlier) rows
    ≡ states_by_rows vifs ws (earlier ++ rows)
states-more vifs ws earlier [] = ap (states_by_rows vifs ws) (sym (append-nil earlier))
states-more vifs ws earlier (row ∷ rows) =
    ap (λ s. with_rows states_with_row s rows) (states-one_more vifs ws earlier row row.entry refl)
    ∙ states-more vifs ws (earlier ++ row ∷ []) rows
    ∙ ap (states_by_rows vifs ws) (append_assoc earlier (row ∷ []) rows)

-- all rows of a router
pub states-of_rows : (vifs : FinMap nat_cmp VifValue) (ws : List (Want × List ℕ)) (rows : List RowValue)
    → with_rows states_with_row (states_start vifs ws) rows ≡ states_by_rows vifs ws rows
states-of_rows vifs ws rows = states-more vifs ws [] rows

-- the wants before the first row are these wants
pub wants-of_unstated : (ws : List (Want × List ℕ))
    → map (λ (w : StatedWantValue). w.want) (map unstated ws) ≡ map (λ (w : Want × List ℕ). w.0) ws
wants-of_unstated [] = refl
wants-of_unstated (w ∷ ws) = ap (λ l. w.0 ∷ l) (wants-of_unstated ws)

-- ---- a row for every source

-- numbers differ either way round
eqb-flip : (m n : ℕ) → (m == n) ≡ false → (n == m) ≡ false
eqb-flip m n other = ne_eqb n m (λ same. false≢true (sym other ∙ eq-eqb m n (sym same)))

-- a row for every source of a group has nothing for wants of another one
row-of_other_group : (vifs : FinMap nat_cmp VifValue) (key : ℕ × ℕ) (entry : EntryValue) (w : StatedWantValue)
    → (key.0 == 0) ≡ true → (key.1 == 0) ≡ false → (w.want.0 == key.1) ≡ false
    → w ≡ want_with_row vifs key entry w
row-of_other_group vifs key entry w every one other =
    ap (λ state. record { want = w.want; unadmitted = w.unadmitted; state = state })
    (sym (ap (greater w.state) (state-of_other_group vifs w.unadmitted w.want key entry every one other)
    ∙ greater-nothing w.state))
  where
    state-of_other_group : (vifs : FinMap nat_cmp VifValue) (unadmitted : List ℕ) (want : Want) (key : ℕ × ℕ)
        (entry : EntryValue) → (key.0 == 0) ≡ true → (key.1 == 0) ≡ false → (want.0 == key.1) ≡ false
        → router_state vifs unadmitted want (row_of key entry ∷ []) ≡ Nothing
    state-of_other_group vifs unadmitted want key entry every one other =
        let differs : (key.1 == want.0) ≡ false = eqb-flip want.0 key.1 other in
        rw (differs, every, one) refl

-- so it counts for those of its group alone
pub rows-of_group : (vifs : FinMap nat_cmp VifValue) (key : ℕ × ℕ) (entry : EntryValue)
    (ws : List StatedWantValue) → (key.0 == 0) ≡ true → (key.1 == 0) ≡ false
    → map (want_with_row_if_group key.1 vifs key entry) ws ≡ map (want_with_row vifs key entry) ws
rows-of_group vifs key entry [] every one = refl
rows-of_group vifs key entry (w ∷ ws) every one =
    ap₂ (λ (x : StatedWantValue) (xs : List StatedWantValue). x ∷ xs)
    (elim (cases_Bool (w.want.0 == key.1)) [
      | inl same ↦ ap (λ b. cond b (want_with_row vifs key entry w) w) same
      | inr other ↦
          ap (λ b. cond b (want_with_row vifs key entry w) w) other
          ∙ row-of_other_group vifs key entry w every one other
    ])
    (rows-of_group vifs key entry ws every one)

-- ---- rows that change nothing

-- whether two wants are the same
abbrev is_same : (want other : Want) → Bool
is_same want other = (other.0 == want.0) && (other.1 == want.1)

-- a want that isn't among the first one and the others is neither
not_among-more : (want first : Want) (others : List Want) → list_any (is_same want) (first ∷ others) ≡ false
    → (first ≡ want → ⊥) × (list_any (is_same want) others ≡ false)
not_among-more want first others none =
    let parts = or_parts (is_same want first) (list_any (is_same want) others) none in
    (λ same. false≢true (sym parts.0 ∙ same_itself want first same), parts.1)
  where
    same_itself : (want other : Want) → other ≡ want → is_same want other ≡ true
    same_itself want other same =
        ap₂ (λ (a b : Bool). a && b) (eq-eqb other.0 want.0 (ap (λ (w : Want). w.0) same))
        (eq-eqb other.1 want.1 (ap (λ (w : Want). w.1) same))

-- where neither of its two wants is there, an entry of one source changes none
rows-of_no_want : (vifs : FinMap nat_cmp VifValue) (key : ℕ × ℕ) (entry : EntryValue)
    (ws : List StatedWantValue) → (key.0 == 0) ≡ false
    → list_any (is_same (key.1, 0)) (map (λ (w : StatedWantValue). w.want) ws) ≡ false
    → list_any (is_same (key.1, key.0)) (map (λ (w : StatedWantValue). w.want) ws) ≡ false
    → map (want_with_row vifs key entry) ws ≡ ws
rows-of_no_want vifs key entry [] source any one = refl
rows-of_no_want vifs key entry (w ∷ ws) source any one =
    let no_any = not_among-more (key.1, 0) w.want (map (λ (w : StatedWantValue). w.want) ws) any in
    let no_one = not_among-more (key.1, key.0) w.want (map (λ (w : StatedWantValue). w.want) ws) one in
    ap₂ (λ (x : StatedWantValue) (xs : List StatedWantValue). x ∷ xs)
    (sym (row-other vifs key entry w source no_any.0 no_one.0))
    (rows-of_no_want vifs key entry ws source no_any.1 no_one.1)

-- no row that is passed over would change a state
pub states-pass_over_others : PassesOverOthers may_change_states states_with_row
states-pass_over_others states key entry none =
    let one_source = or_parts (key.0 == 0) (is_among_wants states (key.1, 0)
    || is_among_wants states (key.1, key.0)) none in
    let neither = or_parts (is_among_wants states (key.1, 0)) (is_among_wants states (key.1, key.0))
    one_source.1 in
    ap (λ (l : List StatedWantValue). record { vifs = states.vifs; wants = l })
    (rows-of_no_want states.vifs key entry states.wants one_source.0 neither.0 neither.1)
