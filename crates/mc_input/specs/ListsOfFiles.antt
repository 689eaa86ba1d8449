-- The lists of reports in a folder's files, and what is kept of what they ask for and no flow answers
-- (docs/FORMATS.md, "What hosts ask for and no flow answers").
use Rattle.std.specs.Prelude.{◌≡◌, ℕ, Bool, List, length, Ok}
use Rattle.mc_bundle.specs.Bundle.{PartText}
use Rattle.mc_igmp.specs.ReadingList.{read_list}
use Rattle.mc_igmp.specs.declared.record.Record.{Record}
use Rattle.mc_topology.specs.Topology.{TopologyValue}
use Rattle.mc_files.specs.FilePart.{file_part}
use Rattle.mc_files.specs.Files.{FileText}
use Rattle.mc_files.specs.Layout.{reports_slot}
use Rattle.mc_forward.specs.Assembling.{RelatedAtEachIndex}
use Rattle.mc_forward.specs.ListedTables.{flow_pairs}
use Rattle.mc_asked.specs.Answers.{AnswersValue, source_pairs}
use Rattle.mc_asked.specs.AskedLines.{lan_wants_from}
use Rattle.mc_asked.specs.LanWants.{LanWantsValue}

-- These are the records of the list in the LAN's file `igmp-<lan>`.
pub record IsListOf (files : List FileText) (lan : List ℕ) (records : List Record) : Type 0 where
  pub part : PartText
  pub made : file_part files (reports_slot lan) ≡ Ok part
  pub read : read_list part.bytes ≡ Ok records

-- There is one such list for each LAN, in the topology's order.
pub record AreListsOf (files : List FileText) (topology : TopologyValue)
    (lists : List (List Record)) : Type 0 where
  pub count : length lists ≡ length topology.lans
  pub each : RelatedAtEachIndex (IsListOf files) topology.lans lists

-- What answers wants: the topology's flows and sources. Wants of the `ignored` ranges of groups are left out.
abbrev pub answers_of : TopologyValue → (ignored : List (ℕ × ℕ)) → AnswersValue
answers_of topology ignored =
    record { flows = flow_pairs topology.flows; sources = source_pairs topology.sources; ignored = ignored }

-- This is kept, LAN by LAN, of what the lists ask for: with `all` each want that no flow answers, and
-- otherwise the lowest ones of each LAN.
pub record AreWantsOf (all : Bool) (ignored : List (ℕ × ℕ)) (files : List FileText)
    (topology : TopologyValue) (wants : List LanWantsValue) : Type 0 where
  pub lists : List (List Record)
  pub of : AreListsOf files topology lists
  pub kept : wants ≡ lan_wants_from all (answers_of topology ignored) 0 lists
