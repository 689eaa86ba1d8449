-- Texts that are appended one after the other, while some of a source's calls fail.
use Rattle.std.proofs.Common.{◌≡◌, ℕ, ◌+◌, ◌<◌, List, [], ◌∷◌, ◌++◌, Option, ap, ◌∙◌, refl, sym, subst}
use Rattle.std.proofs.Common.{arith, ◌-◌, Some, Result, IfSome, OnOk, append_assoc, get_or, length, map}
use Rattle.std.proofs.Common.{min, take}
use Rattle.std.proofs.lemmas.List.{append-nil, take_min, take_more}
use Rattle.mc_text.proofs.StepLemmas.{on_ok_map}
use Rattle.mc_files.specs.Files.{FileText}
use Rattle.mc_files.specs.FilePart.{unread_text}
use Rattle.mc_files.specs.declared.unread.Unread.{Unread}
use Rattle.mc_input.specs.RefusedFiles.{AreUnreadFilesMissing, AreRefusedFiles, saturating_failures}
use Rattle.mc_input.specs.RefusedFiles.{refused_files_of, as_judged_file, unread_count}
use Rattle.mc_input.specs.declared.refused_file.Refusal.{Refusal}
use Rattle.mc_input.specs.declared.refused_file.Refusal.TheVariants as refusal
use Rattle.mc_input.specs.declared.refused_file.RefusedFile.{RefusedFile}
use Rattle.mc_commands.specs.RefusalText.{AppendsWithFailures, AreFirst50Lines, AreRefusedFileLines}
use Rattle.mc_commands.specs.RefusalText.{IsRefusalReason, IsRefusedFileLine, IsRefusalText, more_line}

-- no call failed
failures_with-none : (before : ℕ) → before ≡ saturating_failures 0 before
failures_with-none before = omega arith

-- calls that failed first and calls that failed later are counted together, up to the greatest number
failures_with-more : (one more before : ℕ)
    → saturating_failures more (saturating_failures one before) ≡ saturating_failures (one + more) before
failures_with-more one more before = omega arith

-- a text was appended, and no call failed
appends_with_failures-text : (IsRight : (lost : ℕ) → (added : List ℕ) → Type 0)
    (old new text : List ℕ) (before : ℕ)
    → IsRight 0 text → new ≡ old ++ text → AppendsWithFailures IsRight old new before before
appends_with_failures-text IsRight old new text before right whole = record {
  lost = 0;
  added = text;
  right = right;
  whole = whole;
  failures = failures_with-none before;
}

-- one text was appended, and then another
appends_with_failures-append : (IsOne IsMore IsBoth : (lost : ℕ) → (added : List ℕ) → Type 0)
    (old between new : List ℕ)
    (before middle after : ℕ)
    → ((one more : ℕ) (text rest : List ℕ) → IsOne one text → IsMore more rest
    → IsBoth (one + more) (text ++ rest))
    → AppendsWithFailures IsOne old between before middle
    → AppendsWithFailures IsMore between new middle after
    → AppendsWithFailures IsBoth old new before after
appends_with_failures-append IsOne IsMore IsBoth old between new before middle after both one more = record {
  lost = one.lost + more.lost;
  added = one.added ++ more.added;
  right = both one.lost more.lost one.added more.added one.right more.right;
  whole = more.whole ∙ ap (λ text. text ++ more.added) one.whole ∙ append_assoc old one.added more.added;
  failures = more.failures ∙ ap (saturating_failures more.lost) one.failures
      ∙ failures_with-more one.lost more.lost before;
}

-- ---- the lines of files

-- one more file's line
refused_file_lines-push : (contents : Option (List FileText)) (files : List RefusedFile)
    (file : RefusedFile) (one more : ℕ)
    (text line : List ℕ) → AreRefusedFileLines contents files one text
    → IsRefusedFileLine contents file more line
    → AreRefusedFileLines contents (files ++ file ∷ []) (one + more) (text ++ line)
refused_file_lines-push contents [] file one more text line are is = (
  more,
  0,
  line,
  [],
  is,
  (refl, refl),
  omega (arith, are.0),
  ap (λ t. t ++ line) are.1
      ∙ sym (append-nil line),
)
refused_file_lines-push contents (first ∷ files) file one more text line
    (a, b, front, rest, is_first, are, count, whole) is = (
      a,
      b + more,
      front,
      rest ++ line,
      is_first,
      refused_file_lines-push contents files file b more rest line are is,
      omega (arith, count),
      ap (λ t. t ++ line) whole ∙ append_assoc front rest line,
    )

-- the lines of the files before an index and the line of the file there are those of one file more, as the
-- source's contents stay the same
pub refused_file_lines-more : (contents other : Option (List FileText)) (files : List RefusedFile)
    (i : ℕ) (file : RefusedFile)
    (old between new : List ℕ) (before middle after : ℕ) → other ≡ contents → i < length files
    → file ≡ get_or files i file → AppendsWithFailures (AreRefusedFileLines contents (take i files))
    old between before middle
    → AppendsWithFailures (IsRefusedFileLine other file) between new middle after
    → AppendsWithFailures (AreRefusedFileLines contents (take (i + 1) files)) old new before after
refused_file_lines-more contents other files i file old between new before middle after same inside
    at one more =
    appends_with_failures-append (AreRefusedFileLines contents (take i files))
    (IsRefusedFileLine contents file) (AreRefusedFileLines contents (take (i + 1) files))
    old between new before middle after
    (λ lost count text line are is. subst (λ (fs : List RefusedFile). AreRefusedFileLines contents
    fs (lost + count) (text ++ line))
    (sym (take_more files i file inside ∙ ap (λ f. take i files ++ f ∷ []) (sym at)))
    (refused_file_lines-push contents (take i files) file lost count text line are is)) one
    (subst (λ (t : Option (List FileText)). AppendsWithFailures (IsRefusedFileLine t file) between
    new middle after) same more)

-- ---- a file that can't be read, and all files

-- why it can't be read
pub appends_with_failures-unread : {E : Type 0} (contents : Option (List FileText)) (name : List ℕ)
    (unread : Unread) (why : Refusal)
    (r : Result (Unit {0}) E) (old new : List ℕ) (before : ℕ) → why ≡ refusal.Unread unread
    → OnOk r ((words : List ℕ) × IfSome (unread_text unread) (λ known. words ≡ known) × (new ≡ old ++ words))
    → OnOk r (AppendsWithFailures (IsRefusalReason contents name why) old new before before)
appends_with_failures-unread contents name unread why r old new before is there =
    on_ok_map r there (λ put. appends_with_failures-text (IsRefusalReason contents name why) old new
    put.0 before
    (subst (λ (w : Refusal). IsRefusalReason contents name w 0 put.0) (sym is) (refl, put.1)) put.2)

-- the first files, and the number of further ones
pub appends_with_failures-first_50 : {E : Type 0} (contents : Option (List FileText))
    (files : List RefusedFile) (first : ℕ)
    (r : Result (Unit {0}) E) (old between new : List ℕ) (before after : ℕ) → first ≡ min (length files) 50
    → AppendsWithFailures (AreRefusedFileLines contents (take first files)) old between before after
    → OnOk r (new ≡ between ++ more_line (length files - first))
    → OnOk r (AppendsWithFailures (AreFirst50Lines contents files) old new before after)
appends_with_failures-first_50 contents files first r old between new before after is adds there =
    on_ok_map r there (λ more. record {
      lost = adds.lost;
      added = adds.added ++ more_line (length files - 50);
      right = (
        adds.added,
        subst (λ (fs : List RefusedFile). AreRefusedFileLines contents fs adds.lost adds.added)
            fifty adds.right,
        refl,
      );
      whole = more ∙ ap (λ n. between ++ more_line n) rest
          ∙ ap (λ text. text ++ more_line (length files - 50)) adds.whole
          ∙ append_assoc old adds.added (more_line (length files - 50));
      failures = adds.failures;
    })
  where
    fifty : take first files ≡ take 50 files
    fifty = let swapped : first ≡ min 50 (length files) = omega arith in
        ap (λ n. take n files) swapped ∙ take_min 50 files

    rest : length files - first ≡ length files - 50
    rest = omega arith

-- the text of the files that are listed as refused
pub refusal_text : (names : List (List ℕ)) (contents other : Option (List FileText))
    (refused : List RefusedFile)
    (before middle after : ℕ) (old text : List ℕ) → other ≡ contents → old ≡ []
    → ((files : List FileText) → contents ≡ Some files → AreRefusedFiles names files
    (map as_judged_file refused))
    → ((files : List FileText) → contents ≡ Some files → AreUnreadFilesMissing files
    (map as_judged_file refused)
    → map as_judged_file refused ≡ refused_files_of names files)
    → middle ≡ saturating_failures (unread_count (map as_judged_file refused)) before
    → AppendsWithFailures (AreFirst50Lines other refused) old text middle after
    → IsRefusalText names contents before after text
refusal_text names contents other refused before middle after old text same none listed exact unread
    adds = record {
      refused = refused;
      listed = listed;
      exact = exact;
      lost = adds.lost;
      lines = subst (λ (t : Option (List FileText)). AreFirst50Lines t refused adds.lost text) same
          (subst (AreFirst50Lines other refused adds.lost) (sym
          (adds.whole ∙ ap (λ front. front ++ adds.added) none))
          adds.right);
      failures = adds.failures ∙ ap (saturating_failures adds.lost) unread
          ∙ failures_with-more (unread_count (map as_judged_file refused)) adds.lost before;
    }
