-- The arguments that the words after `audit` give (docs/FORMATS.md, the section "The program"): the relation
-- to trust is AreAuditWords, at the end.
use Rattle.std.specs.Prelude.{◌≡◌, ℕ, ◌&&◌, not, Bool, true, false, List, [], ◌∷◌, map}
use Rattle.std.specs.Prelude.{Some}
use Rattle.std.specs.List.{All}
use Rattle.std.specs.List.Sorted.{IsPermutation, IsSorted}
use Rattle.std.specs.Ordering.{nat_cmp, ordering_then}
use Rattle.std.specs.declared.cmp.Ordering.{Ordering}
use Rattle.mc_topology.specs.Names.{is_name}
use Rattle.mc_text.specs.GroupRange.{IsGroupRange, range_text}
use Rattle.mc_cli.specs.declared.audit_words.AuditWords.{AuditWords}
use Rattle.mc_cli.specs.GivenWords.{is_among, is_option, Given, nothing_given, with_words}
use Rattle.mc_cli.specs.GivenWords.{is_value_expected}

-- ranges are ordered by address, and then by length
abbrev pub range_cmp : ℕ × ℕ → ℕ × ℕ → Ordering
range_cmp first second = ordering_then (nat_cmp first.0 second.0) (nat_cmp first.1 second.1)

-- whether each word can be a router's name, and none is there twice
unfoldable pub are_distinct_router_names : List (List ℕ) → Bool
are_distinct_router_names [] = true
are_distinct_router_names (word ∷ after) =
    (is_name word && not (is_among word after)) && are_distinct_router_names after

-- whether no word is there twice
abbrev pub are_distinct : List (List ℕ) → Bool
are_distinct [] = true
are_distinct (word ∷ words) = not (is_among word words) && are_distinct words

-- The words are those of valid ranges, each once, and these are the ranges in ascending order.
pub record AreRanges (words : List (List ℕ)) (ranges : List (ℕ × ℕ)) : Type 0 where
  pub given : List (ℕ × ℕ)
  pub written : words ≡ map range_text given
  pub valid : All IsGroupRange given
  pub once : are_distinct words ≡ true
  pub same : IsPermutation given ranges
  pub ascending : IsSorted range_cmp ranges

-- What was given is complete, and makes these arguments, where the words of ignored ranges are read as
-- ranges.
pub record IsCompleteDraft (given : Given) (audit : AuditWords) : Type 0 where
  pub next_word : is_value_expected given.next_word ≡ false
  pub folder : given.folder ≡ Some audit.folder.now
  pub options : given.options ≡ audit.options
  pub without : given.without ≡ map (λ router. router.now) audit.without.items
  pub ignored : AreRanges given.ignored audit.ignored.items

-- The words are valid and complete, and make these arguments.
pub record AreCompleteAuditWords (words : List (List ℕ)) (audit : AuditWords) : Type 0 where
  pub given : Given
  pub all : with_words (Some nothing_given) words ≡ Some given
  pub whole : IsCompleteDraft given audit

-- The words after `audit` give these arguments: one folder, which doesn't begin with `-`; before and after it
-- any options, each once, but none after `--`; after each `--without` a router, each once, whatever its name
-- begins with; and after each `--ignore` a range of groups, each once.
pub record AreAuditWords (words : List (List ℕ)) (audit : AuditWords) : Type 0 where
  pub whole : AreCompleteAuditWords words audit
  pub folder : is_option audit.folder.now ≡ false
  pub routers : are_distinct_router_names (map (λ router. router.now) audit.without.items) ≡ true
