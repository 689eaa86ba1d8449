-- Which class each want of a LAN's list is of (docs/FORMATS.md, "What hosts ask for and no flow answers"):
-- the first of the classes that holds. Each flow is given as its source and its group, each source as its
-- address and its LAN.
use Rattle.std.specs.Prelude.{ℕ, ◌==◌, ◌&&◌, not, Bool, is_some, List, map, if◌then◌else◌}
use Rattle.std.specs.List.{list_any}
use Rattle.mc_igmp.specs.declared.record.Record.{Record}
use Rattle.mc_text.specs.GroupRange.{has_group}
use Rattle.mc_topology.specs.SectionRows.{SourceRow}
use Rattle.mc_filter.specs.FilterBuilding.{wanted}
use Rattle.mc_asked.specs.declared.want_class.WantClass.{WantClass}
use Rattle.mc_asked.specs.declared.want_class.WantClass.TheVariants.{Answered, OnLan, Ignored, Service, Asked}
use Rattle.mc_asked.specs.ListWants.{Want, any_source}
use Rattle.mc_asked.specs.Services.{service_name}

-- What answers wants: the listed flows, the listed sources, and the ranges of groups that `--ignore` takes
-- out, each as its first address and its length.
pub record AnswersValue : Type 0 where
  pub flows : List (ℕ × ℕ)
  pub sources : List (ℕ × ℕ)
  pub ignored : List (ℕ × ℕ)

-- the sources of the topology as pairs
abbrev pub source_pairs : List SourceRow → List (ℕ × ℕ)
source_pairs sources = map (λ row. (row.address, row.lan)) sources

-- Whether a flow answers a want of its group: one of a single source if that is the flow's, and one of any
-- source if the records admit the flow's source.
abbrev pub is_answer : List Record → Want → ℕ × ℕ → Bool
is_answer records want flow =
    if want.1 == any_source then (flow.1 == want.0) && wanted records want.0 flow.0
    else (flow.0 == want.1) && (flow.1 == want.0)

-- whether some listed flow answers the want
abbrev pub is_answered : AnswersValue → List Record → Want → Bool
is_answered answers records want = list_any (is_answer records want) answers.flows

-- whether the LAN itself answers the want: the topology lists its source on that LAN
abbrev pub is_on_lan : AnswersValue → (lan : ℕ) → Want → Bool
is_on_lan answers lan want = list_any (λ source. (source.0 == want.1) && (source.1 == lan)) answers.sources

-- whether a range that `--ignore` takes out has the want's group
abbrev pub is_ignored : AnswersValue → Want → Bool
is_ignored answers want = list_any (λ range. has_group range want.0) answers.ignored

-- whether a listed flow has the group
abbrev pub is_group_of_flow : AnswersValue → ℕ → Bool
is_group_of_flow answers group = list_any (λ flow. flow.1 == group) answers.flows

-- whether the want's group is a service's, and no listed flow has it
abbrev pub is_of_service : AnswersValue → Want → Bool
is_of_service answers want = is_some (service_name want.0) && not (is_group_of_flow answers want.0)

-- the class of a want of the LAN's list
abbrev pub class_of : AnswersValue → (lan : ℕ) → List Record → Want → WantClass
class_of answers lan records want =
    if is_answered answers records want then Answered
    else (if is_on_lan answers lan want then OnLan
    else (if is_ignored answers want then Ignored
    else (if is_of_service answers want then Service else Asked)))
