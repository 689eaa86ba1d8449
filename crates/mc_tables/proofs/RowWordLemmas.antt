-- The words of a cache's row.
use Rattle.std.proofs.Common.{◌≡◌, ℕ, ◌+◌, ◌<◌, true, false, List, [], ◌∷◌, length, take, drop}
use Rattle.std.proofs.Common.{Option, Some, None, Result, Ok, Err, refl, ap, ◌∙◌, arith}
use Rattle.std.specs.Prelude.{◌==◌, position, is_some}
use Rattle.std.specs.List.{slice_split, count_by}
use Rattle.std.specs.Option.{ok_or}
use Rattle.std.proofs.lemmas.List.Elements.{All-from_recursion}
use Rattle.std.proofs.lemmas.List.Splits.{slice_split_none, length-slice_split}
use Rattle.mc_text.specs.declared.text.addr.Order.{Order}
use Rattle.mc_tables.specs.declared.fault.TableFaultKind.{TableFaultKind}
use Rattle.mc_tables.specs.declared.fault.TableFaultKind.TheVariants.{WordCount, BadOif}
use Rattle.mc_tables.specs.declared.fault.TableFaultKind.TheVariants.{BadThreshold}
use Rattle.mc_text.specs.Steps.{◌>>=◌}
use Rattle.mc_tables.specs.TableWords.{number_in}
use Rattle.mc_tables.specs.CacheReading.{oif_in_parts, oif_in, row_in_words}
use Rattle.mc_tables.specs.OutgoingSteps.{threshold_in, oif_at_colon}
use Rattle.mc_tables.proofs.WordLemmas.{number_in-denotes}
use Rattle.mc_text.proofs.Searches.{slice_split-found, slice_split-not_found}
use Rattle.mc_text.proofs.StepLemmas.{None-from_is_some_false}
use Rattle.mc_tables.proofs.ColonLemmas.{is_some-some_from}
use Rattle.mc_tables.proofs.OifLemmas.{all_digits-no_colon}

-- a word without a colon is no outgoing vif
pub oif_in_without_colon : (word : List ℕ) → slice_split (λ b. b == 58) word ≡ word ∷ []
    → oif_in word ≡ Err BadOif
unfolding oif_in_parts
oif_in_without_colon word e = rw e refl

-- whatever the vif is, other than one part after the colon is refused alike
bind-same_err : (vif : Option ℕ) → (let none : Result (ℕ × ℕ) TableFaultKind = Err BadOif in
    none ≡ (ok_or vif BadOif >>= λ _. none))
bind-same_err None = refl
bind-same_err (Some v) = refl

-- the vif is read first, and then the threshold
oif_in_parts-at_colon : (vif : List ℕ) (after : List (List ℕ))
    → oif_in_parts (vif ∷ after) ≡ oif_at_colon vif after
unfolding oif_in_parts
oif_in_parts-at_colon vif (threshold ∷ []) = refl
oif_in_parts-at_colon vif [] = bind-same_err (number_in 0 31 vif)
oif_in_parts-at_colon vif (threshold ∷ more ∷ parts) = bind-same_err (number_in 0 31 vif)

-- a word with a colon is read by what precedes and follows its first one
pub oif_in_at_first_colon : (word vif : List ℕ) (after : List (List ℕ))
    → slice_split (λ b. b == 58) word ≡ vif ∷ after → oif_in word ≡ oif_at_colon vif after
oif_in_at_first_colon word vif after e = ap oif_in_parts e ∙ oif_in_parts-at_colon vif after

-- a word that denotes a threshold has no colon
pub threshold_in_number : (word : List ℕ) (t : ℕ) → number_in 1 254 word ≡ Some t
    → threshold_in (slice_split (λ b. b == 58) word) ≡ Ok t
threshold_in_number word t e =
    let writes = number_in-denotes 1 254 word t e in
    let none = All-from_recursion (λ b. (b == 58) ≡ false) word
    (all_digits-no_colon word writes.0.0.1) in
    ap threshold_in (slice_split_none (λ b. b == 58) word none)
    ∙ ap (λ o. ok_or o BadThreshold) e

-- two or more parts are no threshold
threshold_in-more_parts : (first : List ℕ) (parts : List (List ℕ)) (n : ℕ) → length parts ≡ n + 1
    → threshold_in (first ∷ parts) ≡ Err BadOif
threshold_in-more_parts first [] n e = absurd (omega (arith, e))
threshold_in-more_parts first (second ∷ parts) n e = refl

-- so a word with a colon is none
pub threshold_in-colon : (word : List ℕ) → is_some (position (λ b. b == 58) word) ≡ true
    → threshold_in (slice_split (λ b. b == 58) word) ≡ Err BadOif
threshold_in-colon word e =
    let first = is_some-some_from (λ (b : ℕ). b == 58) (position (λ b. b == 58) word) e in
    let rest = drop (first.0 + 1) word in
    ap threshold_in (slice_split-found (λ b. b == 58) word 0 first.0 first.1)
    ∙ threshold_in-more_parts (take first.0 word) (slice_split (λ b. b == 58) rest)
    (count_by (λ b. b == 58) rest) (length-slice_split (λ b. b == 58) rest)

-- a word without a colon that denotes no number from 1 to 254 is a bad threshold
pub threshold_in-no_number : (word : List ℕ) → number_in 1 254 word ≡ None
    → is_some (position (λ b. b == 58) word) ≡ false
    → threshold_in (slice_split (λ b. b == 58) word) ≡ Err BadThreshold
threshold_in-no_number word none e =
    let nowhere = None-from_is_some_false (position (λ b. b == 58) word) e in
    ap threshold_in (slice_split-not_found (λ b. b == 58) word nowhere)
    ∙ ap (λ o. ok_or o BadThreshold) none

-- both faults of a threshold
pub ruleset threshold_refusals = (threshold_in-colon, threshold_in-no_number)

-- fewer than six words are no row
pub row_in_too_few_words : (order : Order) (words : List (List ℕ)) → length words < 6
    → row_in_words order words ≡ Err WordCount
unfolding row_in_words
row_in_too_few_words order (group ∷ origin ∷ iif ∷ packets ∷ bytes ∷ wrong_if ∷ outgoing) few =
    absurd (omega arith)
row_in_too_few_words order words few = refl
