-- What an audit keeps of the wants of a LAN's list: those of the lines `asked`, and the groups of services
-- (docs/FORMATS.md, "What hosts ask for and no flow answers").
use Rattle.std.specs.Prelude.{ℕ, Bool, List, map, filter, length}
use Rattle.std.specs.List.{dedup}
use Rattle.std.specs.Prelude.{nat_eq}
use Rattle.mc_igmp.specs.declared.record.Record.{Record}
use Rattle.mc_tables.specs.Summary.{shown_pairs}
use Rattle.mc_asked.specs.Answers.{AnswersValue, class_of}
use Rattle.mc_asked.specs.ListWants.{Want, wants_in}
use Rattle.mc_asked.specs.ClassifiedWants.{is_asked_class, is_service_class}

-- the wants of a list that no flow answers, nor the LAN itself, and that are neither ignored nor a service's
abbrev pub asked_wants : AnswersValue → (lan : ℕ) → List Record → List Want
asked_wants answers lan records = filter (λ want. is_asked_class (class_of answers lan records want))
    (wants_in records)

-- the group of each want of a list that is a service's
abbrev pub service_groups : AnswersValue → (lan : ℕ) → List Record → List ℕ
service_groups answers lan records =
    map (λ want. want.0) (filter (λ want. is_service_class (class_of answers lan records want))
    (wants_in records))

-- What is kept: the wants of the class `Asked`, all or the 20 lowest; how many there are; and the groups of
-- services.
pub record LanWantsValue : Type 0 where
  pub lowest : List Want
  pub count : ℕ
  pub services : List ℕ

-- what is kept of these wants and groups, each group once
abbrev pub kept_wants : (all : Bool) → (asked : List Want) → (groups : List ℕ) → LanWantsValue
kept_wants all asked groups = record {
  lowest = shown_pairs all asked;
  count = length asked;
  services = dedup nat_eq groups;
}

-- what is kept of a LAN's list
abbrev pub lan_wants : (all : Bool) → AnswersValue → (lan : ℕ) → List Record → LanWantsValue
lan_wants all answers lan records =
    kept_wants all (asked_wants answers lan records) (service_groups answers lan records)
