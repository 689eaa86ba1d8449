-- What the words after `audit` give before ranges are read. Only contracts inside this crate use these
-- definitions.
use Rattle.std.specs.Prelude.{◌≡◌, ℕ, Bool, false, List, map}
use Rattle.std.specs.Prelude.{Option, Some, option_map, IsSome}
use Rattle.std.specs.Bool.{then_some}
use Rattle.mc_cli.specs.declared.audit_words.WholeWords.{WholeWords}
use Rattle.mc_cli.specs.declared.draft.Draft.{Draft}
use Rattle.mc_cli.specs.GivenWords.{Given, nothing_given, with_words}
use Rattle.mc_cli.specs.GivenWords.{is_value_expected}

-- what a draft has been given
abbrev pub given_of : Draft → Given
given_of draft = record {
  folder = option_map (λ folder. folder.now) draft.folder;
  options = draft.options;
  without = map (λ router. router.now) draft.without.items;
  ignored = map (λ range. range.now) draft.ignored.items;
  next_word = draft.next_word;
}

-- With the next word this is given, where `right` says that the word is valid; otherwise the word isn't
-- valid.
abbrev pub IsNextGiven : Bool → Option Given → Given → Type 0
IsNextGiven right next given = next ≡ then_some right given

-- A folder was given, and no option still needs its value.
pub record IsComplete (given : Given) : Type 0 where
  pub next_word : is_value_expected given.next_word ≡ false
  pub folder : IsSome given.folder

-- The words are valid and complete.
pub record AreComplete (words : List (List ℕ)) : Type 0 where
  pub given : Given
  pub all : with_words (Some nothing_given) words ≡ Some given
  pub complete : IsComplete given

-- What was given is complete: this folder, these options, these excluded routers, and these words of ignored
-- ranges.
pub record IsWholeDraft (given : Given) (parts : WholeWords) : Type 0 where
  pub next_word : is_value_expected given.next_word ≡ false
  pub folder : given.folder ≡ Some parts.folder.now
  pub options : given.options ≡ parts.options
  pub without : given.without ≡ map (λ router. router.now) parts.without.items
  pub ignored : given.ignored ≡ map (λ range. range.now) parts.ignored.items

-- The words are valid and complete, and give these parts.
pub record AreWholeWords (words : List (List ℕ)) (parts : WholeWords) : Type 0 where
  pub given : Given
  pub all : with_words (Some nothing_given) words ≡ Some given
  pub whole : IsWholeDraft given parts
