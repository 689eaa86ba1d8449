-- The sources that the filter of none of a want's LANs admits (Unadmitted), worked out LAN by LAN. What is
-- kept after some LANs is AreSourcesBelow; AreBeforeFirstLan, AddsLan and AreAskedAfterLast say of the three
-- steps that they begin it, keep it with one LAN more, and end it.
use Rattle.std.specs.Prelude.{◌≡◌, ℕ, ◌+◌, ◌==◌, ◌&&◌, Bool, false, true, not, List, [], ◌∷◌}
use Rattle.std.specs.Prelude.{length, map, slice_get, take, Some}
use Rattle.mc_igmp.specs.declared.record.Record.{Record}
use Rattle.mc_asked.specs.Answers.{AnswersValue}
use Rattle.mc_asked.specs.AskedLines.{asked_lines, lan_wants_from, wants_of_lans}
use Rattle.mc_asked.specs.LanWants.{LanWantsValue}
use Rattle.mc_asked.specs.ListWants.{Want, any_source}
use Rattle.mc_asked.specs.PairParts.{with_parts}
use Rattle.mc_asked.specs.Unadmitted.{with_unadmitted}
use Rattle.mc_asked.specs.WantSources.{WantSourcesValue}

-- ---- by the lists of all LANs

-- whether the list is empty
abbrev pub is_empty : List ℕ → Bool
is_empty [] = true
is_empty (lan ∷ lans) = false

-- what is kept of a want after some of its LANs
abbrev pub sources_so_far : List (List Record) → Want × List ℕ → WantSourcesValue
sources_so_far lists line = record {
  want = line.0;
  is_begun = not (is_empty line.1) && (line.0.1 == any_source);
  unadmitted = (with_unadmitted lists line).1;
}

-- the wants that are kept of each LAN below a number
abbrev pub wants_below : (all : Bool) → AnswersValue → List (List Record) → (lan : ℕ) → List (List Want)
wants_below all answers lists lan = take lan (wants_of_lans (lan_wants_from all answers 0 lists))

-- This is what is kept of each of these wants after the LANs below a number.
abbrev pub AreSourcesBelow : (all : Bool) → AnswersValue → List (List Record) → (lan : ℕ) → List Want
    → List WantSourcesValue → Type 0
AreSourcesBelow all answers lists lan wants sources =
    sources ≡ map (λ want. sources_so_far lists (with_parts (wants_below all answers lists lan) want)) wants

-- ---- whatever the lists of the LANs are, and what answers wants

-- this is what is kept of each of these wants before the first LAN
abbrev pub AreBeforeFirstLan : List Want → List WantSourcesValue → Type 0
AreBeforeFirstLan wants sources = (all : Bool) (answers : AnswersValue) (lists : List (List Record)) →
    AreSourcesBelow all answers lists 0 wants sources

-- where the old sources are those below this LAN, of whose list `own` is kept, the new ones are those with it
abbrev pub AddsLan : LanWantsValue → (old new : List WantSourcesValue) → List (List Record) → (lan : ℕ)
    → Type 0
AddsLan own old new lists lan = (all : Bool) (answers : AnswersValue) (wants : List Want) →
    slice_get (lan_wants_from all answers 0 lists) lan ≡ Some own
    → AreSourcesBelow all answers lists lan wants old →
    AreSourcesBelow all answers lists (lan + 1) wants new

-- where the sources are those with all LANs, these are the wants of lines, each with what is unadmitted
abbrev pub AreAskedAfterLast : List WantSourcesValue → List (Want × List ℕ) → Type 0
AreAskedAfterLast sources asked = (all : Bool) (answers : AnswersValue) (lists : List (List Record))
    (lines : List (Want × List ℕ)) → lines ≡ asked_lines all (lan_wants_from all answers 0 lists) →
    AreSourcesBelow all answers lists (length lists) (map (λ line. line.0) lines) sources →
    asked ≡ map (with_unadmitted lists) lines
