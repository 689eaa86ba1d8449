-- The wants of all LANs that no flow answers, each with its LANs, and the services that LANs ask for
-- (docs/FORMATS.md, "What hosts ask for and no flow answers").
use Rattle.std.specs.Prelude.{◌≡◌, ℕ, ◌-◌, Bool, List, filter, length, map, sum_by, Some}
use Rattle.std.specs.Prelude.{true, not, suc, [], ◌∷◌}
use Rattle.std.specs.List.Sorted.{IsStrictlySortedBy}
use Rattle.mc_igmp.specs.declared.record.Record.{Record}
use Rattle.mc_tables.specs.CacheTable.{key_cmp}
use Rattle.mc_tables.specs.ListedRows.{is_listed}
use Rattle.mc_asked.specs.Answers.{AnswersValue}
use Rattle.mc_asked.specs.declared.asked_lines.AskedLines.{AskedLines}
use Rattle.mc_asked.specs.LanWants.{LanWantsValue, asked_wants, lan_wants}
use Rattle.mc_asked.specs.ListWants.{Want, any_source}
use Rattle.mc_asked.specs.PairParts.{shared_pairs}

-- ---- wants

-- the wants that are kept of each LAN's list
abbrev pub wants_of_lans : List LanWantsValue → List (List Want)
wants_of_lans lans = map (λ own. own.lowest) lans

-- the shown wants, all or the 20 lowest, each with the LANs whose want it is
abbrev pub asked_lines : (all : Bool) → List LanWantsValue → List (Want × List ℕ)
asked_lines all lans = shared_pairs all (wants_of_lans lans)

-- how many wants all LANs have, where a LAN and a want count one
abbrev pub count_wants : List LanWantsValue → ℕ
count_wants lans = sum_by (λ own. own.count) lans

-- how many of these the shown lines have
abbrev pub count_shown : List (Want × List ℕ) → ℕ
count_shown lines = sum_by (λ line. length line.1) lines

-- how many of these the shown lines don't have
abbrev pub further_wants : (all : Bool) → List LanWantsValue → ℕ
further_wants all lans = count_wants lans - count_shown (asked_lines all lans)

-- ---- services

-- the services that a LAN asks for, as wants of any source
abbrev pub service_pairs : LanWantsValue → List Want
service_pairs own = map (λ group. (group, any_source)) own.services

-- the services that each LAN asks for, as wants of any source
abbrev pub services_of_lans : List LanWantsValue → List (List Want)
services_of_lans lans = map service_pairs lans

-- the groups of services that LANs ask for, in ascending order, each with the LANs that do
abbrev pub service_lines : List LanWantsValue → List (Want × List ℕ)
service_lines lans = shared_pairs true (services_of_lans lans)

-- ---- what the code makes of them

-- The lines are those of the shown wants, in ascending order, and the number is that of the further wants.
pub record AreAskedLines (all : Bool) (lans : List LanWantsValue) (asked : AskedLines) : Type 0 where
  pub lines : asked.lines.items ≡ asked_lines all lans
  pub ascending : IsStrictlySortedBy key_cmp (map (λ line. line.0) asked.lines.items)
  pub further : asked.further ≡ further_wants all lans

-- ---- by the lists of all LANs

-- the wants of the class `Asked` in each list, where the lists are those of the LANs from this number on
abbrev pub asked_from : AnswersValue → (lan : ℕ) → List (List Record) → List (List Want)
asked_from answers lan [] = []
asked_from answers lan (records ∷ lists) = asked_wants answers lan records
    ∷ asked_from answers (suc lan) lists

-- what is kept of each of these lists
abbrev pub lan_wants_from : (all : Bool) → AnswersValue → (lan : ℕ) → List (List Record) → List LanWantsValue
lan_wants_from all answers lan [] = []
lan_wants_from all answers lan (records ∷ lists) =
    lan_wants all answers lan records ∷ lan_wants_from all answers (suc lan) lists

-- how many of a LAN's wants are none of the shown ones
abbrev pub count_others : (shown : List Want) → List Want → ℕ
count_others shown wants = length (filter (λ want. not (is_listed (Some shown) want)) wants)
