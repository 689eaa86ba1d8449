-- What reading outgoing vifs gives is what their words denote.
use Rattle.std.proofs.Common.{◌≡◌, ℕ, suc, ◌+◌, ◌<◌, true, false, ltb, List, [], ◌∷◌, ◌++◌, length}
use Rattle.std.proofs.Common.{None, Result, Ok, Err, refl, sym, ap, subst, ◌∙◌, inl}
use Rattle.std.proofs.Common.{inr, arith}
use Rattle.std.specs.Prelude.{◌==◌, nat_eq, not, map, is_some}
use Rattle.std.specs.Option.{ok_or}
use Rattle.std.specs.List.{IsDistinct, AllByRecursion, list_all, list_any, slice_split}
use Rattle.std.specs.List.{position_or_len, join_with_byte}
use Rattle.std.specs.Char.{digit_value}
use Rattle.std.specs.Str.Parse.{AllDigits}
use Rattle.std.specs.Ordering.{nat_cmp, eq_by_cmp}
use Rattle.std.specs.Cmp.{unsigned_tied}
use Rattle.std.specs.FinMap as fin
use Rattle.std.proofs.lemmas.Bool.{cases_eq, cases_Bool, ne_eqb, and_parts, or_parts, not-true}
use Rattle.std.proofs.lemmas.Bool.{ltb-true, le-ltb}
use Rattle.std.proofs.lemmas.Cmp.{nat_cmp_total, nat_eq_equiv}
use Rattle.std.proofs.lemmas.List.{map-append}
use Rattle.std.proofs.lemmas.List.Elements.{All-from_recursion}
use Rattle.std.proofs.lemmas.List.Splits.{slice_split_at, slice_split_none}
use Rattle.std.proofs.lemmas.List.Splits.{join_with_byte-slice_split}
use Rattle.std.proofs.lemmas.Map.Keys.{IsDistinct-push}
use Rattle.mc_text.proofs.StepLemmas.{None-from_is_some_false}
use Rattle.mc_tables.specs.declared.cache.entry.Oif.{Oif}
use Rattle.mc_tables.specs.declared.fault.TableFaultKind.{TableFaultKind}
use Rattle.mc_tables.specs.declared.fault.TableFaultKind.TheVariants.{BadOif, BadThreshold}
use Rattle.mc_tables.specs.declared.fault.TableFaultKind.TheVariants.{RepeatedOif}
use Rattle.mc_tables.specs.TableWords.{number_in}
use Rattle.mc_text.specs.Steps.{◌>>=◌}
use Rattle.mc_tables.specs.Steps.{demand}
use Rattle.mc_tables.specs.TableLines.{EachDenotes, rows_after}
use Rattle.mc_tables.specs.CacheTable.{WordDenotesOif, WordsDenoteOifs, to_oif, oifs_by_vif}
use Rattle.mc_tables.specs.CacheReading.{oif_in_parts, oif_in, oif_repeats, oif_after, oifs_in}
use Rattle.mc_tables.specs.OutgoingSteps.{has_vif, insert_oif, oifs_with_word, oifs_after_words}
use Rattle.mc_text.proofs.StepLemmas.{bind_ok, ok_or_ok, ok_injective}
use Rattle.mc_tables.proofs.StepLemmas.{demand-bind_ok}
use Rattle.mc_tables.proofs.WordLemmas.{number_in-denotes, number_in-from_denotes}
use Rattle.mc_tables.proofs.KeyLemmas.{list_any-distinct_middle}
use Rattle.mc_tables.proofs.RowLemmas.{ReadsRows, rows_after-denotes, rows_after-from_denotes}

-- ---- one word

-- no decimal digit is a colon
pub all_digits-no_colon : (word : List ℕ) → AllDigits 10 word
    → AllByRecursion (λ b. (b == 58) ≡ false) word
all_digits-no_colon [] h = tt
all_digits-no_colon (c ∷ cs) h = (
  elim (cases_eq c 58) [
    | inl is ↦ let digit : digit_value 58 < 10 = subst (λ b. digit_value b < 10) is h.0 in
        absurd (omega (arith, digit))
    | inr other ↦ ne_eqb c 58 other
  ],
  all_digits-no_colon cs h.1,
)

-- what the parts of a word give is what the word denotes
oif_in_parts-denotes : (word : List ℕ) (parts : List (List ℕ)) (oif : ℕ × ℕ)
    → slice_split (λ b. b == 58) word ≡ parts → oif_in_parts parts ≡ Ok oif → WordDenotesOif word oif
unfolding oif_in_parts
oif_in_parts-denotes word (vif ∷ threshold ∷ []) oif split e =
    let v = bind_ok (ok_or (number_in 0 31 vif) BadOif) _ oif e in
    let t = bind_ok (ok_or (number_in 1 254 threshold) BadThreshold) _ oif v.2 in
    let made : ℕ × ℕ = (v.0, t.0) in
    let same : made ≡ oif = ok_injective made oif t.2 in
    let writes : WordDenotesOif word made = record {
      vif = vif;
      threshold = threshold;
      colon = sym (join_with_byte-slice_split 58 word) ∙ ap (join_with_byte 58) split;
      vif_number = number_in-denotes 0 31 vif v.0 (ok_or_ok (number_in 0 31 vif) BadOif v.0 v.1);
      threshold_number = number_in-denotes 1 254 threshold t.0
          (ok_or_ok (number_in 1 254 threshold) BadThreshold t.0 t.1);
    } in
    subst (WordDenotesOif word) same writes
oif_in_parts-denotes word parts oif split e = absurd cc

-- the outgoing vif that is read is the one that the word denotes
oif_in-denotes : (word : List ℕ) (oif : ℕ × ℕ) → oif_in word ≡ Ok oif → WordDenotesOif word oif
oif_in-denotes word oif e = oif_in_parts-denotes word (slice_split (λ b. b == 58) word) oif refl e

-- the outgoing vif that the word denotes is read
pub oif_in-from_denotes : (word : List ℕ) (oif : ℕ × ℕ) → WordDenotesOif word oif → oif_in word ≡ Ok oif
unfolding oif_in_parts
oif_in-from_denotes word oif h =
    let one = All-from_recursion (λ b. (b == 58) ≡ false) h.vif
    (all_digits-no_colon h.vif h.vif_number.0.0.1) in
    let none = All-from_recursion (λ b. (b == 58) ≡ false) h.threshold
    (all_digits-no_colon h.threshold h.threshold_number.0.0.1) in
    let split : slice_split (λ b. b == 58) word ≡ h.vif ∷ h.threshold ∷ [] =
    ap (slice_split (λ b. b == 58)) h.colon
    ∙ slice_split_at (λ b. b == 58) h.vif 58 h.threshold one refl
    ∙ ap (λ (parts : List (List ℕ)). h.vif ∷ parts)
    (slice_split_none (λ b. b == 58) h.threshold none) in
    ap oif_in_parts split
    ∙ rw (
      number_in-from_denotes 0 31 h.vif oif.0 h.vif_number,
      number_in-from_denotes 1 254 h.threshold oif.1 h.threshold_number,
    ) refl

-- ---- the list by vif, and the map

-- the vifs of pairs of a vif and a threshold
abbrev vifs_of_pairs : List (ℕ × ℕ) → List ℕ
vifs_of_pairs denoted = map (λ oif. oif.0) denoted

-- a map has a vif exactly if it is among those of its pairs
is_some_find-vifs : (denoted : List (ℕ × ℕ)) (vif : ℕ)
    → is_some (fin.find nat_cmp vif denoted) ≡ list_any (nat_eq vif) (vifs_of_pairs denoted)
is_some_find-vifs [] vif = refl
is_some_find-vifs (oif ∷ denoted) vif =
    let tied = unsigned_tied vif oif.0 in
    elim (cases_Bool (nat_eq vif oif.0)) [
      | inl is ↦ rw (tied, is) refl
      | inr is ↦ rw (tied, is) (is_some_find-vifs denoted vif)
    ]

-- a list of outgoing vifs has a vif exactly if it is among their vifs
has_vif-to_oif : (es : List (ℕ × ℕ)) (vif : ℕ)
    → has_vif (map to_oif es) vif ≡ list_any (eq_by_cmp nat_cmp vif) (vifs_of_pairs es)
has_vif-to_oif [] vif = refl
has_vif-to_oif (e ∷ es) vif =
    rw (unsigned_tied vif e.0, nat_eq_equiv.symm vif e.0, has_vif-to_oif es vif) refl

-- the list by vif has a vif exactly if it is among those of the pairs
has_vif-oifs_by_vif : (denoted : List (ℕ × ℕ)) (vif : ℕ)
    → has_vif (oifs_by_vif (fin.from_entries denoted)) vif ≡ list_any (nat_eq vif) (vifs_of_pairs denoted)
has_vif-oifs_by_vif denoted vif =
    has_vif-to_oif (fin.entries (fin.from_entries denoted)) vif
    ∙ sym (fin.contains_key-keys (fin.from_entries denoted) vif)
    ∙ ap is_some (fin.get-from_entries nat_cmp_total denoted vif) ∙ is_some_find-vifs denoted vif

-- a lesser vif is inserted before a greater one
put-lesser_vif : (vif threshold : ℕ) (e : ℕ × ℕ) (es : List (ℕ × ℕ)) → ltb vif e.0 ≡ true
    → fin.put nat_cmp vif threshold (e ∷ es) ≡ (vif, threshold) ∷ e ∷ es
put-lesser_vif vif threshold e es below = rw below refl

-- a greater vif is inserted after a lesser one
put-greater_vif : (vif threshold : ℕ) (e : ℕ × ℕ) (es : List (ℕ × ℕ)) → ltb vif e.0 ≡ false
    → nat_eq vif e.0 ≡ false → fin.put nat_cmp vif threshold (e ∷ es) ≡ e
    ∷ fin.put nat_cmp vif threshold es
put-greater_vif vif threshold e es below other = rw (below, other) refl

-- and so into the list of outgoing vifs
insert_oif-lesser : (oif : ℕ × ℕ) (first : Oif) (oifs : List Oif) → ltb oif.0 first.vif ≡ true
    → insert_oif (first ∷ oifs) oif ≡ to_oif oif ∷ first ∷ oifs
insert_oif-lesser oif first oifs below = rw below refl

-- and so a greater one
insert_oif-greater : (oif : ℕ × ℕ) (first : Oif) (oifs : List Oif) → ltb oif.0 first.vif ≡ false
    → insert_oif (first ∷ oifs) oif ≡ first ∷ insert_oif oifs oif
insert_oif-greater oif first oifs below =
    let next : 1 + position_or_len (λ other. ltb oif.0 other.vif) oifs
    ≡ suc (position_or_len (λ other. ltb oif.0 other.vif) oifs) = omega arith in
    rw (below, next) refl

-- a vif greater than all is none of them
has_vif-above_all : (oifs : List Oif) (vif : ℕ) → list_all (λ other. ltb other.vif vif) oifs ≡ true
    → has_vif oifs vif ≡ false
has_vif-above_all [] vif e = refl
has_vif-above_all (first ∷ oifs) vif e =
    let p = and_parts (ltb first.vif vif) _ e in
    let less : first.vif < vif = ltb-true first.vif vif p.0 in
    let other : nat_eq first.vif vif ≡ false =
    ne_eqb first.vif vif (λ is. absurd (omega (arith, is, less))) in
    rw (other, has_vif-above_all oifs vif p.1) refl

-- and its place is the last
insert_oif-last : (oifs : List Oif) (oif : ℕ × ℕ) → list_all (λ other. ltb other.vif oif.0) oifs ≡ true
    → insert_oif oifs oif ≡ oifs ++ to_oif oif ∷ []
insert_oif-last [] oif e = refl
insert_oif-last (first ∷ oifs) oif e =
    let p = and_parts (ltb first.vif oif.0) _ e in
    let less : first.vif < oif.0 = ltb-true first.vif oif.0 p.0 in
    insert_oif-greater oif first oifs (le-ltb oif.0 first.vif (omega (arith, less)))
    ∙ ap (λ (os : List Oif). first ∷ os) (insert_oif-last oifs oif p.1)

-- so it is added at the end
pub oifs_with_word-last : (oifs : List Oif) (word : List ℕ) (vif threshold : ℕ)
    → oif_in word ≡ Ok (vif, threshold) → list_all (λ other. ltb other.vif vif) oifs ≡ true
    → oifs_with_word oifs word ≡ Ok (oifs ++ to_oif (vif, threshold) ∷ [])
oifs_with_word-last oifs word vif threshold read above =
    rw (read, has_vif-above_all oifs vif above) (ap Ok (insert_oif-last oifs (vif, threshold) above))

-- a new vif gets the same place in the list as in the map
insert_oif-put : (es : List (ℕ × ℕ)) (vif threshold : ℕ) → has_vif (map to_oif es) vif ≡ false
    → insert_oif (map to_oif es) (vif, threshold) ≡ map to_oif (fin.put nat_cmp vif threshold es)
insert_oif-put [] vif threshold new = refl
insert_oif-put (e ∷ es) vif threshold new =
    let parts = or_parts (nat_eq e.0 vif) _ new in
    let other : nat_eq vif e.0 ≡ false = nat_eq_equiv.symm vif e.0 ∙ parts.0 in
    elim (cases_Bool (ltb vif e.0)) [
      | inl below ↦ insert_oif-lesser (vif, threshold) (to_oif e) (map to_oif es) below
          ∙ sym (ap (map to_oif) (put-lesser_vif vif threshold e es below))
      | inr above ↦ insert_oif-greater (vif, threshold) (to_oif e) (map to_oif es) above
          ∙ ap (λ (os : List Oif). to_oif e ∷ os) (insert_oif-put es vif threshold parts.1)
          ∙ sym (ap (map to_oif) (put-greater_vif vif threshold e es above other))
    ]

-- the list by vif of the pairs with one more is that list with one more at its place
oifs_by_vif-push : (denoted : List (ℕ × ℕ)) (oif : ℕ × ℕ)
    → list_any (nat_eq oif.0) (vifs_of_pairs denoted) ≡ false
    → insert_oif (oifs_by_vif (fin.from_entries denoted)) oif
    ≡ oifs_by_vif (fin.from_entries (denoted ++ oif ∷ []))
oifs_by_vif-push denoted oif new =
    let m = fin.from_entries {R = nat_cmp} denoted in
    let absent : fin.find nat_cmp oif.0 denoted ≡ None =
    None-from_is_some_false _ (is_some_find-vifs denoted oif.0 ∙ new) in
    insert_oif-put (fin.entries m) oif.0 oif.1 (has_vif-oifs_by_vif denoted oif.0 ∙ new)
    ∙ sym (ap (map to_oif) (fin.entries-insert nat_cmp_total m oif.0 oif.1))
    ∙ sym (ap oifs_by_vif (fin.from_entries_push nat_cmp_total fin.nat_cmp-IsAntisymmetric denoted oif.0
    oif.1 absent))

-- ---- all words

-- no earlier word has the vif
abbrev MayFollow : List (ℕ × ℕ) → ℕ × ℕ → Type 0
MayFollow earlier oif = oif_repeats earlier oif ≡ false

-- the vifs differ
abbrev AreValid : List (ℕ × ℕ) → Type 0
AreValid denoted = IsDistinct nat_eq (vifs_of_pairs denoted)

-- an outgoing vif that is read is denoted, and no earlier word has its vif
oif_after-denotes : (earlier : List (ℕ × ℕ)) (word : List ℕ) (oif : ℕ × ℕ)
    → oif_after earlier word ≡ Ok oif → WordDenotesOif word oif × MayFollow earlier oif
oif_after-denotes earlier word oif e =
    let o = bind_ok (oif_in word) _ oif e in
    let d = demand-bind_ok (not (oif_repeats earlier o.0)) RepeatedOif _ oif o.2 in
    let both : WordDenotesOif word o.0 × MayFollow earlier o.0 =
    (oif_in-denotes word o.0 o.1, not-true _ d.0) in
    subst (λ (x : ℕ × ℕ). WordDenotesOif word x × MayFollow earlier x) (ok_injective o.0 oif d.1) both

-- one that is denoted and whose vif no earlier word has is read
oif_after-from_denotes : (earlier : List (ℕ × ℕ)) (word : List ℕ) (oif : ℕ × ℕ) → WordDenotesOif word oif
    → MayFollow earlier oif → oif_after earlier word ≡ Ok oif
oif_after-from_denotes earlier word oif writes new = rw (oif_in-from_denotes word oif writes, new) refl

-- vifs that differ still differ with a new one
oifs-valid_push : (earlier : List (ℕ × ℕ)) (oif : ℕ × ℕ) → AreValid earlier → MayFollow earlier oif
    → AreValid (earlier ++ oif ∷ [])
oifs-valid_push earlier oif valid new = rw map-append (IsDistinct-push nat_eq_equiv _ oif.0 valid new)

-- in vifs that differ each is new after those before it
oifs-may_follow : (earlier : List (ℕ × ℕ)) (oif : ℕ × ℕ) (later : List (ℕ × ℕ))
    → AreValid (earlier ++ oif ∷ later) → MayFollow earlier oif
oifs-may_follow earlier oif later valid =
    list_any-distinct_middle nat_eq_equiv _ oif.0 _ (rw map-append at valid)

-- so words are read as the outgoing vifs that they denote
oif_after-reads_rows : ReadsRows oif_after WordDenotesOif MayFollow AreValid
oif_after-reads_rows = record {
  found = oif_after-denotes;
  only = oif_after-from_denotes;
  grows = oifs-valid_push;
  follows = oifs-may_follow;
}

-- the vifs of the empty list differ
oifs-valid_none : AreValid []
unfolding IsDistinct
oifs-valid_none = tt

-- the outgoing vifs that are read are those that the words denote
pub oifs_in-denotes : (words : List (List ℕ)) (oifs : List Oif) → oifs_in words ≡ Ok oifs
    → WordsDenoteOifs words oifs
oifs_in-denotes words oifs e =
    let b = bind_ok (rows_after oif_after [] words)
    (λ denoted. Ok (oifs_by_vif (fin.from_entries denoted))) oifs e in
    let t = rows_after-denotes oif_after WordDenotesOif MayFollow AreValid oif_after-reads_rows words [] b.0
    oifs-valid_none
    b.1 in
    record {
      denoted = b.0;
      each = subst (EachDenotes WordDenotesOif words) t.1 t.2;
      vifs_differ = t.3;
      ascending = sym (ok_injective (oifs_by_vif (fin.from_entries b.0)) oifs b.2);
    }

-- the outgoing vifs that the words denote are read
pub oifs_in-from_denotes : (words : List (List ℕ)) (oifs : List Oif) → WordsDenoteOifs words oifs
    → oifs_in words ≡ Ok oifs
oifs_in-from_denotes words oifs h =
    rw (rows_after-from_denotes oif_after WordDenotesOif MayFollow AreValid oif_after-reads_rows words []
    h.denoted h.each
    h.vifs_differ) (ap Ok (sym h.ascending))

-- ---- the steps

-- no entries make no outgoing vifs
map_to_oif-none : (es : List (ℕ × ℕ)) → length es ≡ 0 → map to_oif es ≡ []
map_to_oif-none [] e = refl
map_to_oif-none (x ∷ es) e = absurd (omega arith)

-- the empty map makes none
oifs_by_vif-none : oifs_by_vif (fin.from_entries {R = nat_cmp} []) ≡ []
oifs_by_vif-none = map_to_oif-none (fin.entries (fin.empty {K = ℕ} {X = ℕ} {R = nat_cmp}))
    (sym (fin.len-entries (fin.empty {K = ℕ} {X = ℕ} {R = nat_cmp})) ∙ fin.len-empty nat_cmp ℕ)

-- what was read, by vif
abbrev SortedReading : Result (List (ℕ × ℕ)) TableFaultKind → Result (List Oif) TableFaultKind
SortedReading read = read >>= λ denoted. Ok (oifs_by_vif (fin.from_entries denoted))

-- inserting each in order is the same as sorting them at the end
oifs_after_words-sorted_more : (denoted : List (ℕ × ℕ)) (words : List (List ℕ))
    (read : Result (ℕ × ℕ) TableFaultKind)
    → ((more : List (ℕ × ℕ))
    → oifs_after_words (oifs_by_vif (fin.from_entries more)) words
    ≡ SortedReading (rows_after oif_after more words))
    → ((read >>= λ oif. demand
    (not (has_vif (oifs_by_vif (fin.from_entries denoted)) oif.0)) RepeatedOif >>= λ _. Ok
    (insert_oif (oifs_by_vif (fin.from_entries denoted)) oif)) >>= λ more. oifs_after_words more words)
    ≡ SortedReading ((read >>= λ oif. demand (not (oif_repeats denoted oif)) RepeatedOif >>= λ _. Ok oif) >>=
    λ oif. rows_after oif_after (denoted ++ oif ∷ []) words)
oifs_after_words-sorted_more denoted words (Err fault) later = refl
oifs_after_words-sorted_more denoted words (Ok oif) later =
    elim (cases_Bool (oif_repeats denoted oif)) [
      | inl old ↦ rw (has_vif-oifs_by_vif denoted oif.0, old) refl
      | inr new ↦ rw (has_vif-oifs_by_vif denoted oif.0, new)
          (ap (λ oifs. oifs_after_words oifs words) (oifs_by_vif-push denoted oif new)
          ∙ later (denoted ++ oif ∷ []))
    ]

-- the same for all words after the earlier pairs
oifs_after_words-sorted : (words : List (List ℕ)) (denoted : List (ℕ × ℕ))
    → oifs_after_words (oifs_by_vif (fin.from_entries denoted)) words
    ≡ SortedReading (rows_after oif_after denoted words)
oifs_after_words-sorted [] denoted = refl
oifs_after_words-sorted (word ∷ words) denoted =
    oifs_after_words-sorted_more denoted words (oif_in word) (oifs_after_words-sorted words)

-- inserting the outgoing vifs of all words in order is reading them
pub oifs_in_by_steps : (words : List (List ℕ)) → oifs_after_words [] words ≡ oifs_in words
oifs_in_by_steps words =
    subst (λ oifs. oifs_after_words oifs words ≡ oifs_in words) oifs_by_vif-none
    (oifs_after_words-sorted words [])
