-- The pairs of a list that it doesn't want.
use Rattle.std.proofs.Common.{◌≡◌, ℕ, ◌<◌, Bool, false, List, length, map, get_or, Some}
use Rattle.std.proofs.Common.{refl, sym, ap, subst, ◌∙◌}
use Rattle.std.specs.Prelude.{slice_get}
use Rattle.std.proofs.lemmas.List.{get_or_default}
use Rattle.std.proofs.lemmas.Option.{slice_get_read}
use Rattle.mc_igmp.specs.declared.record.Record.{Record}
use Rattle.mc_igmp.specs.Wants.{Wants}
use Rattle.mc_filter.specs.ChannelPlaces.{IsWantedAnswer}
use Rattle.mc_filter.specs.FilterBuilding.{wanted}
use Rattle.mc_filter.proofs.MergedLemmas.{Decides-wanted}
use Rattle.mc_theory.proofs.ListLemmas.{slice_get-map_some}
use Rattle.mc_asked.specs.Unadmitted.{AreMarksOf}
use Rattle.mc_asked.proofs.IndexLemmas.{equal-from_decided}

-- the mark of a pair says whether it passes the test
pub mark-at : (test : ℕ × ℕ → Bool) (pairs : List (ℕ × ℕ)) (marks : List Bool) (place : ℕ) (x : ℕ × ℕ)
    → length marks ≡ length pairs → AreMarksOf test pairs marks → place < length pairs
    → x ≡ get_or pairs place x → get_or marks place false ≡ test x
mark-at test pairs marks place x count are within own =
    let mark = get_or marks place false in
    let inside : place < length marks = subst (λ n. place < n) (sym count) within in
    are place x mark (slice_get_read pairs (length pairs) place x refl within own)
    (slice_get_read marks (length marks) place mark refl inside
    (get_or_default marks place false mark inside))

-- what a list says of the pairs as channels
pub are_marks-of_wanted : (records : List Record) (pairs channels : List (ℕ × ℕ)) (answers : List Bool)
    → channels ≡ map (λ (p : ℕ × ℕ). (p.1, p.0)) pairs
    → ((i : ℕ) (channel : ℕ × ℕ) (is_wanted : Bool) → slice_get channels i ≡ Some channel
    → slice_get answers i ≡ Some is_wanted → IsWantedAnswer records channel is_wanted)
    → AreMarksOf (λ p. wanted records p.0 p.1) pairs answers
are_marks-of_wanted records pairs channels answers are each = λ i pair mark at is.
    let channel : slice_get channels i ≡ Some (pair.1, pair.0) =
    ap (λ l. slice_get l i) are ∙ slice_get-map_some (λ (p : ℕ × ℕ). (p.1, p.0)) pairs i pair at in
    equal-from_decided mark (wanted records pair.0 pair.1) (Wants records pair.0 pair.1)
    (each i (pair.1, pair.0) mark channel is) (Decides-wanted records pair.0 pair.1)
