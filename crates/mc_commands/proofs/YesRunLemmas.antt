-- After a run that says yes, by its answer or by what it wrote, the headline holds.
use Rattle.std.proofs.Common.{◌≡◌, ℕ, Bool, true, List, [], ◌∷◌, ◌++◌, length, take, drop, inl, inr}
use Rattle.std.proofs.Common.{Option, Some, None, Result, Ok, Err, refl, sym, ap, subst, ◌∙◌, arith}
use Rattle.std.proofs.Common.{append_assoc}
use Rattle.std.specs.Prelude.{◌<◌, IfOk, IfSome, IsTrue, codes}
use Rattle.std.specs.String.{string_bytes}
use Rattle.std.specs.Io.KnownBytes.{Appends}
use Rattle.std.proofs.lemmas.List.{take_all, length-append, take-append-drop}
use Rattle.mc_commands.specs.declared.fault.RunFault.{RunFault}
use Rattle.mc_commands.specs.declared.run_output.RunOutput.{RunOutput}
use Rattle.mc_commands.specs.CheckRun.{AreYesWords, IsLineStart, SaysYes, WroteAtStart}
use Rattle.mc_commands.specs.RunOutput.{IsOutputWritten}
use Rattle.mc_commands.proofs.RunLemmas.{IsOutputOf}

-- what follows the same front is the same
pub append-cancel_front : (xs ys zs : List ℕ) → xs ++ ys ≡ xs ++ zs → ys ≡ zs
append-cancel_front [] ys zs same = same
append-cancel_front (x ∷ xs) ys zs same = append-cancel_front xs ys zs cc

-- these words are in a text, at the start of a line
abbrev pub HasLineWith : (words text : List ℕ) → Type 0
HasLineWith words text =
    (front rest : List ℕ) × IsLineStart front × (text ≡ front ++ (words ++ rest))

-- the words of a yes aren't empty
yes_words-not_empty : (words : List ℕ) → AreYesWords words → 0 < length words
yes_words-not_empty words (inl is) = omega (arith, ap (λ (w : List ℕ). length w) is)
yes_words-not_empty words (inr is) = omega (arith, ap (λ (w : List ℕ). length w) is)

-- nothing was written if the output is unchanged
wrote_at_start-nothing_written : (words : List ℕ) (old : Option (List ℕ)) → AreYesWords words
    → WroteAtStart words old old → ⊥
wrote_at_start-nothing_written words None are wrote = wrote
wrote_at_start-nothing_written words (Some xs) are (front, rest, starts, same) =
    let size = ap (λ (bytes : List ℕ). length bytes) same in
    let some = yes_words-not_empty words are in
    absurd (omega (
      arith,
      size,
      length-append xs (front ++ (words ++ rest)),
      length-append front (words ++ rest),
      length-append words rest,
    ))

-- if they were written, with a text or a part of it, they are in the text
has_line_with-wrote_at_start : (words text : List ℕ) (k : ℕ) (old new : Option (List ℕ))
    → Appends old new (take k text)
    → WroteAtStart words old new → HasLineWith words text
has_line_with-wrote_at_start words text k None new puts wrote = absurd wrote
has_line_with-wrote_at_start words text k (Some xs) None puts wrote = absurd wrote
has_line_with-wrote_at_start words text k (Some xs) (Some ys) puts (front, rest, starts, is) =
    let more = words ++ rest in
    let part : take k text ≡ front ++ more = append-cancel_front xs _ _ (sym puts ∙ is) in
    let whole : text ≡ front ++ (words ++ (rest ++ drop k text)) =
    sym (take-append-drop k text) ∙ ap (λ zs. zs ++ drop k text) part
    ∙ append_assoc front more (drop k text)
    ∙ ap (λ zs. front ++ zs) (append_assoc words rest (drop k text)) in
    (front, rest ++ drop k text, starts, whole)

-- If a line with these words means yes, and the headline holds after a yes,
abbrev pub SaysYesByLine : {X : Type 0} → (words : List ℕ) → (X → Bool → List ℕ → Type 0) → Type 0
SaysYesByLine {X} words Says =
    (x : X) (answer : Bool) (written : List ℕ) → Says x answer written → HasLineWith words written
    → answer ≡ true

-- the headline holds after a run that wrote them,
pub headline-wrote_yes_line : {X : Type 0} (words : List ℕ) (contents : Option X)
    (Says : X → Bool → List ℕ → Type 0)
    (Headline : X → Type 0) (s : Result RunOutput RunFault) (r : Result Bool RunFault)
    (old new : Option (List ℕ)) → AreYesWords words → SaysYesByLine words Says → IsOutputOf contents Says s
    → IfOk s (λ run_output. IsTrue run_output.yes → IfSome contents Headline) → IsOutputWritten s r old new
    → WroteAtStart words old new → IfSome contents Headline
headline-wrote_yes_line words None Says Headline s r old new are last says keeps is wrote = tt
headline-wrote_yes_line words (Some x) Says Headline (Ok run_output) (Ok answer) old new are last
    says keeps is wrote =
    let text = string_bytes run_output.text in
    let whole = subst (λ (b : List ℕ). Appends old new b)
    (sym (take_all (length text) text (omega arith))) is.1 in
    keeps (last x run_output.yes text says (has_line_with-wrote_at_start words text (length text)
    old new whole wrote))
headline-wrote_yes_line words (Some x) Says Headline (Ok run_output) (Err fault) old new are last
    says keeps is wrote =
    let text = string_bytes run_output.text in
    keeps (last x run_output.yes text says (has_line_with-wrote_at_start words text is.1.0 old new
    is.1.2 wrote))
headline-wrote_yes_line words (Some x) Says Headline (Err cause) (Ok answer) old new are last says
    keeps is wrote =
    absurd is
headline-wrote_yes_line words (Some x) Says Headline (Err cause) (Err fault) old new are last says
    keeps is wrote =
    absurd (wrote_at_start-nothing_written words old are
    (subst (λ (o : Option (List ℕ)). WroteAtStart words old o) is.1 wrote))

-- the headline holds after a run that returns yes, since the answer is that of its text
pub headline-answered_true : (Keeps : Type 0) (s : Result RunOutput RunFault) (r : Result Bool RunFault)
    (old new : Option (List ℕ)) → IfOk s (λ run_output. IsTrue run_output.yes → Keeps)
    → IsOutputWritten s r old new
    → r ≡ Ok true → Keeps
headline-answered_true Keeps (Ok run_output) (Ok answer) old new keeps is ok =
    let true_is : answer ≡ true = cc in
    keeps (sym is.0 ∙ true_is)
headline-answered_true Keeps (Ok run_output) (Err fault) old new keeps is ok = absurd cc
headline-answered_true Keeps (Err cause) (Ok answer) old new keeps is ok = absurd is
headline-answered_true Keeps (Err cause) (Err fault) old new keeps is ok = absurd cc

-- the headline holds after a check that says yes, by its answer or by a line
pub headline-check_says_yes : {X : Type 0} (contents : Option X) (Says : X → Bool → List ℕ → Type 0)
    (Headline : X → Type 0) (s : Result RunOutput RunFault) (r : Result Bool RunFault)
    (old new : Option (List ℕ)) → SaysYesByLine (codes "verdict yes") Says → IsOutputOf contents Says s
    → IfOk s (λ run_output. IsTrue run_output.yes → IfSome contents Headline) → IsOutputWritten s r old new
    → SaysYes r old new → IfSome contents Headline
headline-check_says_yes contents Says Headline s r old new last says keeps is (inl ok) =
    headline-answered_true (IfSome contents Headline) s r old new keeps is ok
headline-check_says_yes contents Says Headline s r old new last says keeps is (inr wrote) =
    headline-wrote_yes_line (codes "verdict yes") contents Says Headline s r old new (inl refl) last
    says keeps is wrote
