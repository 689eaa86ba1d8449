-- A text of an audit has a line that says yes exactly if the verdict is yes, and it is the last line.
use Rattle.std.proofs.Common.{◌≡◌, ℕ, Bool, true, false, List, [], ◌∷◌, ◌++◌, inl, inr, Some, refl, sym}
use Rattle.std.proofs.Common.{ap, ◌∙◌, append_assoc, arith, Option, Result}
use Rattle.std.specs.Prelude.{◌==◌, codes, flat_map, length, IfOk, IfSome, IsTrue}
use Rattle.std.proofs.lemmas.Bool.{and_parts, false≢true, ne_eqb}
use Rattle.json.specs.Print.{escape_byte}
use Rattle.mc_files.specs.Files.{FileText}
use Rattle.mc_forward.specs.ListedTables.{facts}
use Rattle.mc_commands.specs.CheckRun.{AreYesWords, IsLineStart, WroteAtStart, yes_object, yes_words}
use Rattle.mc_commands.specs.RunOutput.{IsOutputWritten}
use Rattle.mc_commands.specs.declared.fault.RunFault.{RunFault}
use Rattle.mc_commands.specs.declared.run_output.RunOutput.{RunOutput}
use Rattle.mc_commands.proofs.RunLemmas.{IsOutputOf}
use Rattle.mc_commands.proofs.VerdictLines.{AreLinesWithoutYes}
use Rattle.mc_commands.proofs.YesLines.{IsLastLineYes, has_line-last_words, is_last_line_yes-wrote}
use Rattle.mc_commands.proofs.YesLines.{last_words_of_verdict}
use Rattle.mc_commands.proofs.YesRunLemmas.{SaysYesByLine, headline-answered_true, headline-wrote_yes_line}
use Rattle.mc_cli.specs.declared.audit_options.AuditOptions.{AuditOptions}
use Rattle.mc_run.specs.AuditBegin.{begin_lines}
use Rattle.mc_run.specs.AuditEnd.{end_lines, verdict_line}
use Rattle.mc_run.specs.AuditedFiles.{LeftOutValue, excluded, is_whole}
use Rattle.mc_run.specs.AuditRun.{IsAuditText, is_yes}
use Rattle.mc_run.specs.AuditYes.{AuditSaysYes}
use Rattle.mc_run.proofs.AuditLines.{no_yes_line-text_before_verdict, text_before_verdict}

-- ---- the text of an audit

-- its last line is these words and a line feed
last_words-verdict_line : (json all : Bool) → verdict_line json all ≡ last_words_of_verdict json all
    ++ codes "\n"
unfolding escape_byte
last_words-verdict_line true true = refl
last_words-verdict_line true false = refl
last_words-verdict_line false true = refl
last_words-verdict_line false false = refl

-- four parts, of which the first three come together
append-assoc_four : (a b c d : List ℕ) → a ++ (b ++ (c ++ d)) ≡ (a ++ (b ++ c)) ++ d
append-assoc_four a b c d = simp append_assoc

-- its lines, and the last one after them
audit_text-lines_and_verdict : (left : LeftOutValue) (files : List FileText) (o : AuditOptions) (all : Bool)
    (written : List ℕ) (a : IsAuditText o left files all written)
    → written ≡ text_before_verdict a.domain o a.holds.answers
    ++ (last_words_of_verdict o.json all ++ codes "\n")
audit_text-lines_and_verdict left files o all written a =
    let v = a.domain in
    let answers = a.holds.answers in
    a.holds.spelled
    ∙ append-assoc_four (begin_lines o (facts v.domain) (excluded v) v.ignored)
    (flat_map (λ b. b.lines) answers)
    (end_lines o v.domain.topology v.summary v.asked (excluded v) (is_whole v) (is_yes v answers) answers)
    (verdict_line o.json (is_yes v answers))
    ∙ ap (λ every. text_before_verdict v o answers ++ verdict_line o.json every) (sym a.holds.answer)
    ∙ ap (λ xs. text_before_verdict v o answers ++ xs) (last_words-verdict_line o.json all)

-- none of these lines says yes
no_yes_line-before_verdict : (left : LeftOutValue) (files : List FileText) (o : AuditOptions) (all : Bool)
    (written : List ℕ) (a : IsAuditText o left files all written)
    → AreLinesWithoutYes (text_before_verdict a.domain o a.holds.answers)
no_yes_line-before_verdict left files o all written a =
    no_yes_line-text_before_verdict a.domain o a.holds.answers a.holds.are_answers
    a.means.means.rules.topology

-- an audit's text that says yes has the line
pub has_line-audit_text : (left : LeftOutValue) (files : List FileText) (o : AuditOptions)
    (written old : List ℕ) → IsAuditText o left files true written
    → WroteAtStart (yes_words o.json) (Some old) (Some (old ++ written))
has_line-audit_text left files o written old a =
    is_last_line_yes-wrote (text_before_verdict a.domain o a.holds.answers) written old o.json
    (no_yes_line-before_verdict left files o true written a)
    (audit_text-lines_and_verdict left files o true written a)

-- if the text of an audit has the words of a yes at the start of a line, they begin its last line
is_last_line_yes-audit_line : (left : LeftOutValue) (files : List FileText) (o : AuditOptions) (all : Bool)
    (words written front rest : List ℕ) → IsAuditText o left files all written → IsLineStart front
    → AreYesWords words → written ≡ front ++ (words ++ rest) → IsLastLineYes o.json all words rest
is_last_line_yes-audit_line left files o all words written front rest a starts are is =
    has_line-last_words (text_before_verdict a.domain o a.holds.answers) words front rest o.json all
    (no_yes_line-before_verdict left files o all written a) are starts
    (sym (audit_text-lines_and_verdict left files o all written a) ∙ is)

-- such a text belongs to the answer yes, has the words in its own form, and the line is the last one
pub is_last_line_yes-audit_text : (left : LeftOutValue) (files : List FileText) (o : AuditOptions)
    (all : Bool)
    (words written front rest : List ℕ) → IsAuditText o left files all written → IsLineStart front
    → AreYesWords words → written ≡ front ++ (words ++ rest)
    → (all ≡ true) × (words ≡ yes_words o.json) × (rest ≡ codes "\n")
is_last_line_yes-audit_text left files o all words written front rest a starts are is =
    let line = is_last_line_yes-audit_line left files o all words written front rest a starts are is in
    (line.all_are, line.these, line.last)

-- a text of an audit with such a line belongs to the answer yes
says_yes_by_line-audit_text : (o : AuditOptions) (left : LeftOutValue) (words : List ℕ) → AreYesWords words
    → SaysYesByLine words (IsAuditText o left)
says_yes_by_line-audit_text o left words are files all written a (front, rest, starts, is) =
    (is_last_line_yes-audit_line left files o all words written front rest a starts are is).all_are

-- in text
pub says_yes_by_line-verdict_yes : (o : AuditOptions) (left : LeftOutValue)
    → SaysYesByLine (codes "verdict yes") (IsAuditText o left)
says_yes_by_line-verdict_yes o left = says_yes_by_line-audit_text o left (codes "verdict yes") (inl refl)

-- in JSON
pub says_yes_by_line-yes_object : (o : AuditOptions) (left : LeftOutValue)
    → SaysYesByLine yes_object (IsAuditText o left)
says_yes_by_line-yes_object o left = says_yes_by_line-audit_text o left yes_object (inr refl)

-- the headline holds after an audit that says yes, by its answer or by a line of text or of JSON
pub headline-audit_says_yes : {X : Type 0} (contents : Option X) (Says : X → Bool → List ℕ → Type 0)
    (Headline : X → Type 0) (s : Result RunOutput RunFault) (r : Result Bool RunFault)
    (old new : Option (List ℕ)) → SaysYesByLine (codes "verdict yes") Says → SaysYesByLine yes_object Says
    → IsOutputOf contents Says s → IfOk s (λ run_output. IsTrue run_output.yes → IfSome contents Headline)
    → IsOutputWritten s r old new → AuditSaysYes r old new → IfSome contents Headline
headline-audit_says_yes contents Says Headline s r old new last object says keeps is (inl ok) =
    headline-answered_true (IfSome contents Headline) s r old new keeps is ok
headline-audit_says_yes contents Says Headline s r old new last object says keeps is (inr (inl wrote)) =
    headline-wrote_yes_line (codes "verdict yes") contents Says Headline s r old new (inl refl) last
    says keeps is wrote
headline-audit_says_yes contents Says Headline s r old new last object says keeps is (inr (inr wrote)) =
    headline-wrote_yes_line yes_object contents Says Headline s r old new (inr refl) object says
    keeps is wrote

-- ---- the audits that say yes

-- names whose number is zero
names-empty : (names : List (List ℕ)) → (length names == 0) ≡ true → names ≡ []
names-empty [] none = refl
names-empty (name ∷ names) none =
    let some : (length (name ∷ names) == 0) ≡ false =
    ne_eqb (length (name ∷ names)) 0 (λ e. omega (arith, e)) in
    absurd (false≢true (sym some ∙ none))

-- those of whole domains
pub audit_yes-no_excluded_router : (left : LeftOutValue) (files : List FileText) (o : AuditOptions)
    (written : List ℕ) → IsAuditText o left files true written → left.routers ≡ []
audit_yes-no_excluded_router left files o written is =
    let whole = (and_parts _ _ (sym is.holds.answer)).0 in
    names-empty left.routers (ap (λ (ns : List (List ℕ)). length ns == 0) (sym is.means.without) ∙ whole)
