-- What follows from the first word after the program's name.
use Rattle.std.proofs.Common.{◌≡◌, ◌∙◌, ℕ, Bool, true, false, List, [], ◌∷◌, Some, None, codes, ap}
use Rattle.std.proofs.Common.{sym, subst, drop, length, map, get_or, refl, ◌≤◌, ◌<◌}
use Rattle.std.specs.Borrow.{Bor}
use Rattle.std.specs.Option.{option_map, option_map_or}
use Rattle.std.specs.List.{slice_get}
use Rattle.std.specs.Prelude.{IfOk, Result, Ok}
use Rattle.std.specs.Str.{bytes_eq}
use Rattle.std.proofs.lemmas.Bool.{false≢true}
use Rattle.std.proofs.lemmas.Option.{none-some, same_Some, slice_get-map, slice_get_past, slice_get_read}
use Rattle.std.proofs.lemmas.Slice.Eq.{bytes_eq-Decides}
use Rattle.clap.proofs.OnLiterals.{clap_on_literals}
use Rattle.clap.specs.Kinds.{Kinds}
use Rattle.clap.specs.Walk.{is_empty}
use Rattle.mc_cli.specs.Commands.{AreAcceptedByClap}
use Rattle.mc_cli.specs.Task.{AskForVersion, IsAskedFor, IsAuditFor, IsFirstWord, IsHelp, is_topic}
use Rattle.mc_cli.specs.declared.task.Task.{Task}
use Rattle.mc_cli.specs.declared.task.Task.TheVariants.{Audit, Help, Version}

-- the word at a place, as it is read there
pub slice_get-map_read : (words : List (Bor (List ℕ))) (place : ℕ) (word : Bor (List ℕ))
    → place < length words
    → word ≡ get_or words place word → slice_get (map (λ word. word.now) words) place ≡ Some word.now
slice_get-map_read words place word within read =
    slice_get-map (λ word. word.now) words place
    ∙ ap (option_map (λ word. word.now)) (slice_get_read words (length words) place word refl within read)

-- the first word is this one exactly where it is equal to it,
pub IsFirstWord-iff_equal : (words : List (List ℕ)) (first word : List ℕ) (result : Bool)
    → slice_get words 1 ≡ Some first
    → result ≡ bytes_eq first word
    → (result ≡ true → IsFirstWord word words) × (IsFirstWord word words → result ≡ true)
IsFirstWord-iff_equal words first word result read test = (
  λ is. read ∙ ap Some ((bytes_eq-Decides first word).0 (sym test ∙ is)),
  λ at. test ∙ (bytes_eq-Decides first word).1 (same_Some _ _ (sym read ∙ at)),
)

-- and there is none where there is only the program's name
pub not_IsFirstWord-only_program_name : (words : List (Bor (List ℕ))) (word : List ℕ) → length words ≤ 1
    → IsFirstWord word (map (λ word. word.now) words) → ⊥
not_IsFirstWord-only_program_name words word few at =
    let none : slice_get (map (λ word. word.now) words) 1 ≡ None =
    slice_get-map (λ word. word.now) words 1
    ∙ ap (option_map (λ word. word.now)) (slice_get_past words 1 few) in
    none-some _ (sym none ∙ at)

-- what holds of no words with this first word, doesn't hold
pub absurd-from_first_word : (words : List (List ℕ)) (word : List ℕ) (P : List (List ℕ) → Type 0)
    → IsFirstWord word words
    → ((name : List ℕ) (rest : List (List ℕ)) → P (name ∷ word ∷ rest) → ⊥) → P words → ⊥
absurd-from_first_word [] word P is never holds = none-some _ is
absurd-from_first_word (name ∷ []) word P is never holds = none-some _ is
absurd-from_first_word (name ∷ other ∷ rest) word P is never holds =
    let Q : List ℕ → Type 0 =
    λ word. P (name ∷ word ∷ rest) in never name rest (subst Q (same_Some other word is) holds)

-- Clap's program here has no command `audit`, so that it finds a fault: computed.
not_accepted-audit : (name : List ℕ) (rest : List (List ℕ)) → AreAcceptedByClap (name ∷ codes "audit" ∷ rest)
    → ⊥
unfolding clap_on_literals
not_accepted-audit name rest taken = false≢true (ap (λ (kinds : Kinds). is_empty kinds) taken)

-- nor a command `help`
not_accepted-help : (name : List ℕ) (rest : List (List ℕ)) → AreAcceptedByClap (name ∷ codes "help" ∷ rest)
    → ⊥
unfolding clap_on_literals
not_accepted-help name rest taken = false≢true (ap (λ (kinds : Kinds). is_empty kinds) taken)

-- clap accepts no words that `audit` or `help` begins
pub not_accepted-audit_words : (words : List (List ℕ)) → IsFirstWord (codes "audit") words
    → AreAcceptedByClap words → ⊥
not_accepted-audit_words words is = absurd-from_first_word words _ AreAcceptedByClap is not_accepted-audit

-- so words that begin with `help` aren't clap's
pub not_accepted-help_words : (words : List (List ℕ)) → IsFirstWord (codes "help") words
    → AreAcceptedByClap words → ⊥
not_accepted-help_words words is = absurd-from_first_word words _ AreAcceptedByClap is not_accepted-help

-- the first word isn't two different words
pub IsFirstWord-unique : (words : List (List ℕ)) (one other : List ℕ) → bytes_eq other one ≡ false
    → bytes_eq one one ≡ true
    → IsFirstWord one words → IsFirstWord other words → ⊥
IsFirstWord-unique words one other differ same is is_other =
    false≢true (sym differ ∙ ap (λ o. option_map_or (λ word. bytes_eq word one) o false) (sym is_other ∙ is)
    ∙ same)

-- what holds of a task, and not of the version, holds of another task
pub not_Version-from_IfOk : {E : Type 0} (r : Result Task E) (P : Task → Type 0) → (P Version → ⊥) → IfOk r P
    → r ≡ Ok Version → ⊥
not_Version-from_IfOk {E} r P never holds is =
    never (let Q : Result Task E → Type 0 = λ r. IfOk r P in subst Q is holds)

-- words that begin with `help`, and then name a topic, ask for a help
pub IsAskedFor-help : (words : List (List ℕ)) → IsFirstWord (codes "help") words → (task : Task)
    → IsHelp task × (is_topic (drop 2 words) ≡ true) → IsAskedFor words task
IsAskedFor-help words first (Help text) (help, topic) = (first, topic)
IsAskedFor-help words first other (help, topic) = absurd help

-- What such words ask for is help alone: clap doesn't accept them, and their first word is no other.
pub is_topic-from_IsAskedFor : (words : List (List ℕ)) → IsFirstWord (codes "help") words
    → (AskForVersion words → ⊥) → (task : Task)
    → IsAskedFor words task → is_topic (drop 2 words) ≡ true
is_topic-from_IsAskedFor words first never (Help text) asked = asked.1
is_topic-from_IsAskedFor words first never Version asked = absurd (never asked)
is_topic-from_IsAskedFor words first never (Audit audit) asked =
    absurd (IsFirstWord-unique words _ _ refl refl first asked.0)
is_topic-from_IsAskedFor words first never other asked = absurd (not_accepted-help_words words first asked.0)

-- what words that begin with `audit` ask for is an audit alone, for the same reasons
pub IsAuditFor-from_IsAskedFor : (words : List (List ℕ)) → IsFirstWord (codes "audit") words
    → (AskForVersion words → ⊥) → (task : Task)
    → IsAskedFor words task → IsAuditFor (drop 2 words) task
IsAuditFor-from_IsAskedFor words first never (Audit audit) asked = asked.1
IsAuditFor-from_IsAskedFor words first never Version asked = absurd (never asked)
IsAuditFor-from_IsAskedFor words first never (Help text) asked =
    absurd (IsFirstWord-unique words _ _ refl refl first asked.0)
IsAuditFor-from_IsAskedFor words first never other asked =
    absurd (not_accepted-audit_words words first asked.0)
