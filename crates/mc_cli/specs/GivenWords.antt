-- What the words after `audit` give, word by word (docs/FORMATS.md, the section "The program").
use Rattle.std.specs.Prelude.{ℕ, not, Bool, true, false, List, [], ◌∷◌, ◌++◌, take, drop}
use Rattle.std.specs.Prelude.{codes, if◌then◌else◌, Option, Some, None, is_some, option_map}
use Rattle.std.specs.Bool.{then_some}
use Rattle.std.specs.List.{list_any}
use Rattle.std.specs.Str.{bytes_eq}
use Rattle.mc_cli.specs.AuditOptionWords.{faults_word, json_word, strict_word, travel_word, unlisted_word}
use Rattle.mc_cli.specs.AuditOptionWords.{ignore_word, without_word}
use Rattle.mc_cli.specs.declared.audit_options.AuditOptions.{AuditOptions}
use Rattle.mc_cli.specs.declared.draft.NextWord.{NextWord}
use Rattle.mc_cli.specs.declared.draft.NextWord.TheVariants.{Options, Router, Range, FolderOnly}

-- whether the word is one of these
abbrev pub is_among : List ℕ → List (List ℕ) → Bool
is_among word words = list_any (λ other. bytes_eq other word) words

-- whether the word begins with `-`, as options do
abbrev pub is_option : List ℕ → Bool
is_option word = bytes_eq (take 1 word) (codes "-")

-- What the words so far have given.
pub record Given : Type 0 where
  -- the folder, if one was given
  pub folder : Option (List ℕ)
  -- the options without a value that were given
  pub options : AuditOptions
  -- the excluded routers
  pub without : List (List ℕ)
  -- the words of the ignored ranges
  pub ignored : List (List ℕ)
  -- what the next word may be
  pub next_word : NextWord

-- before the first word nothing is given
abbrev pub nothing_given : Given
nothing_given = record {
  folder = None;
  options = record {
    travels = false;
    faults = false;
    unlisted = false;
    strict = false;
    json = false;
  };
  without = [];
  ignored = [];
  next_word = Options;
}

-- the options with one more, or none if that one was given before
abbrev pub unless_given : Bool → AuditOptions → Option AuditOptions
unless_given given options = then_some (not given) options

-- the options with the one that this word names; none if it names no option, or one that was given before
abbrev pub with_option : List ℕ → AuditOptions → Option AuditOptions
with_option word options =
    if bytes_eq word travel_word then unless_given options.travels (record options { travels = true })
    else (if bytes_eq word faults_word then unless_given options.faults (record options { faults = true })
    else (if bytes_eq word unlisted_word
    then unless_given options.unlisted (record options { unlisted = true })
    else (if bytes_eq word strict_word then unless_given options.strict (record options { strict = true })
    else (if bytes_eq word json_word then unless_given options.json (record options { json = true })
    else None))))

-- what is given with this folder, of which there may be one
abbrev pub with_folder : List ℕ → Given → Option Given
with_folder word given =
    if is_some given.folder then None else Some (record given { folder = Some word })

-- what is given with this excluded router
abbrev pub with_router : List ℕ → Given → Given
with_router word given =
    record given { without = given.without ++ word ∷ []; next_word = Options }

-- what is given with this ignored range
abbrev pub with_range : List ℕ → Given → Given
with_range word given =
    record given { ignored = given.ignored ++ word ∷ []; next_word = Options }

-- the router in `--without=ROUTER`, if the word is of this form
abbrev pub router_after_equals : List ℕ → Option (List ℕ)
router_after_equals word =
    if bytes_eq (take 10 word) (codes "--without=") then Some (drop 10 word) else None

-- the range in `--ignore=RANGE`, if the word is of this form
abbrev pub range_after_equals : List ℕ → Option (List ℕ)
range_after_equals word =
    if bytes_eq (take 9 word) (codes "--ignore=") then Some (drop 9 word) else None

-- what is given with a word: this range, if the word is `--ignore=RANGE`, and otherwise an option without a
-- value, or the folder
abbrev pub with_range_or_other : Option (List ℕ) → List ℕ → Given → Option Given
with_range_or_other (Some range) word given = Some (with_range range given)
with_range_or_other None word given = if is_option word
    then option_map (λ options. record given { options = options }) (with_option word given.options)
    else with_folder word given

-- what is given with a word: this router, if the word is `--without=ROUTER`, and otherwise a range, an option
-- or the folder
abbrev pub with_router_or_other : Option (List ℕ) → List ℕ → Given → Option Given
with_router_or_other (Some router) word given = Some (with_router router given)
with_router_or_other None word given = with_range_or_other (range_after_equals word) word given

-- what is given with a word that comes neither after `--without` or `--ignore` nor after `--`
abbrev pub with_option_or_folder : List ℕ → Given → Option Given
with_option_or_folder word given =
    if bytes_eq word (codes "--") then Some (record given { next_word = FolderOnly })
    else (if bytes_eq word without_word then Some (record given { next_word = Router })
    else (if bytes_eq word ignore_word then Some (record given { next_word = Range })
    else with_router_or_other (router_after_equals word) word given))

-- what is given with the next word; none if the word isn't valid there
abbrev pub with_word : NextWord → List ℕ → Given → Option Given
with_word Options word given = with_option_or_folder word given
with_word Router word given = Some (with_router word given)
with_word Range word given = Some (with_range word given)
with_word FolderOnly word given = with_folder word given

-- what is given with these words, one after another
unfoldable pub with_words : Option Given → List (List ℕ) → Option Given
with_words None words = None
with_words (Some given) [] = Some given
with_words (Some given) (word ∷ words) = with_words (with_word given.next_word word given) words

-- whether the next word is the router of a `--without`, or the range of an `--ignore`
abbrev pub is_value_expected : NextWord → Bool
is_value_expected Router = true
is_value_expected Range = true
is_value_expected Options = false
is_value_expected FolderOnly = false
