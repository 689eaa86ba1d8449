-- Pairs and wants that numbers take, of which only the order and no repeat counts. Only contracts of private
-- functions use these definitions.
use Rattle.std.specs.Prelude.{◌≡◌, ℕ, List, ◌++◌, filter, map, not}
use Rattle.mc_text.specs.Pair.{pair_of}
use Rattle.mc_igmp.specs.declared.record.Record.{Record}
use Rattle.mc_tables.specs.Summary.{in_order}
use Rattle.mc_asked.specs.Answers.{AnswersValue, is_answered}
use Rattle.mc_asked.specs.Indexes.{IsIndexOfWantedGroups}
use Rattle.mc_asked.specs.ListWants.{Want}

-- The new numbers are the old ones and those of these pairs, but for their order and repeats: put in order
-- beside any others, they are the same pairs.
abbrev pub TakesPairs : (old new : List ℕ) → (pairs : List (ℕ × ℕ)) → Type 0
TakesPairs old new pairs = (others : List (ℕ × ℕ)) →
    in_order (map pair_of new ++ others) ≡ in_order (map pair_of old ++ (pairs ++ others))

-- The numbers take those of these wants that no flow answers, where these are the groups of which a list wants
-- flows.
abbrev pub TakesUnanswered : AnswersValue → (wanted_groups old new : List ℕ) → List Want → Type 0
TakesUnanswered answers wanted_groups old new wants = (records : List Record) →
    IsIndexOfWantedGroups answers.flows records wanted_groups →
    TakesPairs old new (filter (λ want. not (is_answered answers records want)) wants)
