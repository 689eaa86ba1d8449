-- A text has a line that says yes exactly if the verdict is yes, and it is the last line.
use Rattle.std.proofs.Common.{◌≡◌, ℕ, Bool, true, false, List, [], ◌∷◌, ◌++◌, inl, inr, Some, refl, sym}
use Rattle.std.proofs.Common.{ap, ◌∙◌, arith, Option, Result}
use Rattle.std.specs.Prelude.{codes, drop, slice_index, IfOk, IfSome, IsTrue}
use Rattle.mc_text.proofs.ByteLemmas.{HasNoByte}
use Rattle.mc_shown.proofs.LineFeedLemmas.{no_feed-from_list_all}
use Rattle.mc_commands.specs.CheckRun.{AreYesWords, BundleKeepsHeadline, IsLineStart, IsVerdictText, SaysYes}
use Rattle.mc_commands.specs.CheckRun.{WroteAtStart, WroteYes, yes_object, yes_words}
use Rattle.mc_commands.specs.RunOutput.{IsOutputWritten}
use Rattle.mc_commands.specs.VerdictText.{are_yes, flow_lines, last_line}
use Rattle.mc_commands.specs.declared.fault.RunFault.{RunFault}
use Rattle.mc_commands.specs.declared.run_output.RunOutput.{RunOutput}
use Rattle.mc_commands.proofs.RunLemmas.{IsOutputOf}
use Rattle.mc_commands.proofs.YesRunLemmas.{SaysYesByLine, headline-check_says_yes}
use Rattle.mc_commands.proofs.VerdictLines.{AreLinesWithoutYes, words_at_line_start-cases, no_yes_line-flow_lines}

-- ---- the last line

-- the words of the last line
abbrev pub last_words_of_verdict : (json all : Bool) → List ℕ
last_words_of_verdict json true = yes_words json
last_words_of_verdict true false = codes "{\"verdict\":\"no\"}"
last_words_of_verdict false false = codes "verdict no"

-- they have no line feed
last_words-no_line_feed : (json all : Bool) → HasNoByte 10 (last_words_of_verdict json all)
last_words-no_line_feed true true = no_feed-from_list_all (last_words_of_verdict true true) refl
last_words-no_line_feed true false = no_feed-from_list_all (last_words_of_verdict true false) refl
last_words-no_line_feed false true = no_feed-from_list_all (last_words_of_verdict false true) refl
last_words-no_line_feed false false = no_feed-from_list_all (last_words_of_verdict false false) refl

-- The words of a yes are here: the verdict is yes, and this is the last line.
pub record IsLastLineYes (json all : Bool) (words rest : List ℕ) : Type 0 where
  pub all_are : all ≡ true
  pub these : words ≡ yes_words json
  pub last : rest ≡ codes "\n"

-- a byte of a line that starts with words is theirs
words-byte_in_line : (place : ℕ) (line words rest other : List ℕ) → words ≡ other → line ≡ words ++ rest
    → slice_index line place ≡ slice_index (other ++ rest) place
words-byte_in_line place line words rest other is same =
    ap (λ (xs : List ℕ). slice_index xs place) (same ∙ ap (λ xs. xs ++ rest) is)

-- if the words of a yes begin the last line, it is the line of a yes in this form
yes_words-begin_last_line : (json all : Bool) (words rest : List ℕ) → AreYesWords words
    → last_words_of_verdict json all ++ codes "\n" ≡ words ++ rest → IsLastLineYes json all words rest
yes_words-begin_last_line true true words rest (inl is) same =
    let bad : 123 ≡ 118 = words-byte_in_line 0 _ words rest (codes "verdict yes") is same in
    absurd (omega (arith, bad))
yes_words-begin_last_line true true words rest (inr is) same = record {
  all_are = refl;
  these = is;
  last = sym (ap (λ (xs : List ℕ). drop 17 xs) (same ∙ ap (λ xs. xs ++ rest) is));
}
yes_words-begin_last_line true false words rest (inl is) same =
    let bad : 123 ≡ 118 = words-byte_in_line 0 _ words rest (codes "verdict yes") is same in
    absurd (omega (arith, bad))
yes_words-begin_last_line true false words rest (inr is) same =
    let bad : 110 ≡ 121 = words-byte_in_line 12 _ words rest yes_object is same in
    absurd (omega (arith, bad))
yes_words-begin_last_line false true words rest (inl is) same = record {
  all_are = refl;
  these = is;
  last = sym (ap (λ (xs : List ℕ). drop 11 xs) (same ∙ ap (λ xs. xs ++ rest) is));
}
yes_words-begin_last_line false true words rest (inr is) same =
    let bad : 118 ≡ 123 = words-byte_in_line 0 _ words rest yes_object is same in
    absurd (omega (arith, bad))
yes_words-begin_last_line false false words rest (inl is) same =
    let bad : 110 ≡ 121 = words-byte_in_line 8 _ words rest (codes "verdict yes") is same in
    absurd (omega (arith, bad))
yes_words-begin_last_line false false words rest (inr is) same =
    let bad : 118 ≡ 123 = words-byte_in_line 0 _ words rest yes_object is same in
    absurd (omega (arith, bad))

-- the empty text begins with no byte
yes_words-not_at_start : (b : ℕ) (xs : List ℕ) → [] ≡ b ∷ xs → ⊥
yes_words-not_at_start b xs same = absurd cc

-- nor are the words of a yes in it
yes_words-not_inside : (front words rest : List ℕ) → AreYesWords words → [] ≡ front ++ (words ++ rest) → ⊥
yes_words-not_inside [] words rest (inl is) same = yes_words-not_at_start _ _
    (same ∙ ap (λ xs. xs ++ rest) is)
yes_words-not_inside [] words rest (inr is) same = yes_words-not_at_start _ _
    (same ∙ ap (λ xs. xs ++ rest) is)
yes_words-not_inside (b ∷ front) words rest are same = yes_words-not_at_start b
    (front ++ (words ++ rest)) same

-- ---- lines, and the last one after them

-- the words of a yes at a line's start begin the last line
pub has_line-last_words : (lines words front rest : List ℕ) (json all : Bool) → AreLinesWithoutYes lines
    → AreYesWords words
    → IsLineStart front → lines ++ (last_words_of_verdict json all ++ codes "\n") ≡ front ++ (words ++ rest)
    → IsLastLineYes json all words rest
has_line-last_words lines words front rest json all other are starts same =
    let l = other.left words front rest (last_words_of_verdict json all ++ codes "\n") are starts same in
    elim (words_at_line_start-cases words (last_words_of_verdict json all) [] l.front rest
    (last_words-no_line_feed json all) l.starts l.is) [
      | inl begins ↦ yes_words-begin_last_line json all words rest are begins
      | inr left ↦ absurd (yes_words-not_inside left.front words rest are left.is)
    ]

-- a text whose verdict is yes has that line
pub is_last_line_yes-wrote : (lines written old : List ℕ) (json : Bool) → AreLinesWithoutYes lines
    → written ≡ lines ++ (yes_words json ++ codes "\n")
    → WroteAtStart (yes_words json) (Some old) (Some (old ++ written))
is_last_line_yes-wrote lines written old json other is = (
  lines,
  codes "\n",
  other.starts,
  ap (λ xs. old ++ xs) is,
)

-- ---- the text of verdicts

-- its last line is these words and a line feed
last_words-last_line : (all : Bool) → last_line all ≡ last_words_of_verdict false all ++ codes "\n"
last_words-last_line true = refl
last_words-last_line false = refl

-- the lines of the flows, and the last one after them
verdict_text-lines_and_verdict : (text written : List ℕ) (all : Bool) (v : IsVerdictText text all written)
    → written ≡ flow_lines v.domain.domain.topology v.domain.domain.topology.flows v.holds.verdicts
    ++ (last_words_of_verdict false all ++ codes "\n")
verdict_text-lines_and_verdict text written all v =
    let t = v.domain.domain.topology in
    let lines = flow_lines t t.flows v.holds.verdicts in
    v.holds.spelled
    ∙ ap (λ xs. lines ++ xs) (last_words-last_line (are_yes v.holds.verdicts))
    ∙ ap (λ every. lines ++ (last_words_of_verdict false every ++ codes "\n")) (sym v.holds.answer)

-- a text of verdicts that says yes has the line
pub has_line-check_text : (text written old : List ℕ) → IsVerdictText text true written
    → WroteYes (Some old) (Some (old ++ written))
has_line-check_text text written old v =
    let t = v.domain.domain.topology in
    is_last_line_yes-wrote (flow_lines t t.flows v.holds.verdicts) written old false
    (no_yes_line-flow_lines t t.flows v.holds.verdicts v.means.domain.rules.topology)
    (verdict_text-lines_and_verdict text written true v)

-- if a text of verdicts has the words of a yes at the start of a line, all verdicts are yes, and the line is
-- the last one
pub is_last_line_yes-check_text : (text written front rest : List ℕ) (all : Bool)
    → IsVerdictText text all written
    → IsLineStart front → written ≡ front ++ (codes "verdict yes" ++ rest)
    → (all ≡ true) × (rest ≡ codes "\n")
is_last_line_yes-check_text text written front rest all v starts is =
    let t = v.domain.domain.topology in
    let line = has_line-last_words (flow_lines t t.flows v.holds.verdicts) (codes "verdict yes") front
    rest false all (no_yes_line-flow_lines t t.flows v.holds.verdicts v.means.domain.rules.topology)
    (inl refl) starts (sym (verdict_text-lines_and_verdict text written all v) ∙ is) in
    (line.all_are, line.last)

-- a text of verdicts with such a line belongs to the answer yes
pub says_yes_by_line-verdict_text : SaysYesByLine (codes "verdict yes") IsVerdictText
says_yes_by_line-verdict_text text all written v (front, rest, starts, is) =
    (is_last_line_yes-check_text text written front rest all v starts is).0

-- the headline holds after a check that says yes, by its answer or by that line
pub headline_of_bundle-check_yes : (contents : Option (List ℕ)) (s : Result RunOutput RunFault)
    (r : Result Bool RunFault)
    (old new : Option (List ℕ)) → IsOutputOf contents IsVerdictText s
    → IfOk s (λ run_output. IsTrue run_output.yes → IfSome contents BundleKeepsHeadline)
    → IsOutputWritten s r old new
    → SaysYes r old new → IfSome contents BundleKeepsHeadline
headline_of_bundle-check_yes contents s r old new says keeps is yes_holds =
    headline-check_says_yes contents IsVerdictText BundleKeepsHeadline s r old new
    says_yes_by_line-verdict_text says keeps is yes_holds
