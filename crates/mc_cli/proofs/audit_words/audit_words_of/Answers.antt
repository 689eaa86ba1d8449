use Rattle.std.proofs.Common.{◌≡◌, ◌≢◌, ◌∙◌, ℕ, List, Option, Some, None, Result, Err, map}
use Rattle.std.proofs.Common.{ap, refl, subst, sym}
use Rattle.std.specs.Prelude.{IfSome, IsOk, IsSome, unwrap_or}
use Rattle.std.proofs.lemmas.Bool.{false≢true}
use Rattle.mc_cli.specs.AuditWords.{AreAuditWords, AreRanges}
use Rattle.mc_cli.specs.AuditDraft.{AreComplete, AreWholeWords}
use Rattle.mc_cli.specs.GivenWords.{Given}
use Rattle.mc_cli.specs.declared.audit_words.AuditWords.{AuditWords}
use Rattle.mc_cli.specs.declared.audit_words.WholeWords.{WholeWords}
use Rattle.mc_cli.proofs.audit_words.audit_words_of.Goals as goal

-- What is none is not some.
not_IsSome : {X : Type 0} (o : Option X) → ((x : X) → o ≢ Some x) → IsSome o → ⊥
not_IsSome None not some = false≢true some
not_IsSome (Some x) not some = not x refl

-- An error is no success.
not_IsOk : {X Y : Type 0} (r : Result X Y) (y : Y) → r ≡ Err y → IsOk r → ⊥
not_IsOk r y is ok = false≢true (subst (λ r. IsOk r) is ok)

-- What is this value is some.
some-IsSome : {X : Type 0} (o : Option X) (x : X) → o ≡ Some x → IsSome o
some-IsSome o x is = subst (λ o. IsSome o) (sym is) refl

-- The words that give arguments are complete.
are_complete : (words : List (List ℕ)) (audit : AuditWords) → AreAuditWords words audit → AreComplete words
are_complete words audit are = record {
  given = are.whole.given;
  all = are.whole.all;
  complete = record {
    next_word = are.whole.whole.next_word;
    folder = some-IsSome _ _ are.whole.whole.folder;
  };
}

-- the ranges of the arguments are those of the words that were given
ranges-of_parts : (words : List (List ℕ)) (audit : AuditWords) (parts : WholeWords)
    → AreAuditWords words audit → AreWholeWords words parts
    → AreRanges (map (λ range. range.now) parts.ignored.items) audit.ignored.items
ranges-of_parts words audit parts are whole =
    let same : are.whole.given ≡ whole.given =
    ap (λ (o : Option Given). unwrap_or o are.whole.given) (sym are.whole.all ∙ whole.all) in
    subst (λ (texts : List (List ℕ)). AreRanges texts audit.ignored.items)
    (ap (λ (given : Given). given.ignored) same ∙ whole.whole.ignored) are.whole.whole.ignored

-- Words that give arguments are complete, and what is complete isn't refused.
pub returns-in_default-clause-only : goal.returns-in_default-clause-only
returns-in_default-clause-only c = λ audit are.
    absurd (not_IsSome c.in_ok-whole.field-0 c.in_default.not-Some
    (c.in_ok-whole.ensures.only (are_complete _ audit are)))

-- The words of the ranges are the same however they were read, so that ranges which they write are found.
pub returns-clause-only : goal.returns-clause-only
returns-clause-only c = λ audit are.
    let words = map (λ word. word.now) c.args.words.now in
    let found = subst (λ o. IfSome o (AreWholeWords words)) c.in-Some.is c.in_ok-whole.ensures.found in
    let ranges = subst (λ (texts : List _). AreRanges (map (λ range. range.now) texts) audit.ignored.items)
    (sym c.deref-2.ensures.value) (ranges-of_parts words audit c.in-Some.whole are found) in
    absurd (not_IsOk c.in_ok-ignored.field-0 c.in-Err.rule c.in-Err.is
    (c.in_ok-ignored.ensures.only audit.ignored.items ranges))
