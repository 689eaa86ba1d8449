-- What hosts ask for and no flow answers (docs/FORMATS.md, "What hosts ask for and no flow answers"), by the
-- lists of reports and the caches in a folder's files.
use Rattle.std.specs.Prelude.{◌≡◌, ℕ, Bool, List, map}
use Rattle.mc_files.specs.Files.{FileText}
use Rattle.mc_forward.specs.Domains.{DomainValue}
use Rattle.mc_asked.specs.AskedLines.{asked_lines, count_wants, further_wants, service_lines}
use Rattle.mc_asked.specs.LanWants.{LanWantsValue}
use Rattle.mc_asked.specs.ListWants.{Want}
use Rattle.mc_asked.specs.Unadmitted.{with_unadmitted}
use Rattle.mc_asked.specs.declared.forwarding.RouterState.{RouterState}
use Rattle.mc_input.specs.ListsOfFiles.{AreWantsOf}
use Rattle.mc_input.specs.StatesOfFiles.{AreStatesOf}

-- What hosts ask for and no flow answers, as an audit shows it.
pub record UnansweredWantsValue : Type 0 where
  -- the shown wants, each with its LANs
  pub lines : List (Want × List ℕ)
  -- how many wants of LANs no flow answers
  pub count : ℕ
  -- how many of these the shown wants leave out
  pub further : ℕ
  -- the groups of services that hosts ask for, each with its LANs
  pub services : List (Want × List ℕ)
  -- for each router, in the topology's order, what it has for each shown want
  pub states : List (List RouterState)

-- This is what the files' hosts ask for and no flow answers. With `all` each want is shown, and otherwise the
-- lowest; wants of the `ignored` ranges of groups are left out. What a router has for a want of any source is
-- by entries for sources that the filter of at least one of the want's LANs admits.
pub record IsAskedOf (all : Bool) (ignored : List (ℕ × ℕ)) (files : List FileText) (domain : DomainValue)
    (asked : UnansweredWantsValue) : Type 0 where
  pub wants : List LanWantsValue
  pub of : AreWantsOf all ignored files domain.topology wants
  pub lines : asked.lines ≡ asked_lines all wants
  pub count : asked.count ≡ count_wants wants
  pub further : asked.further ≡ further_wants all wants
  pub services : asked.services ≡ service_lines wants
  pub states : AreStatesOf files (map (with_unadmitted of.lists) asked.lines) domain asked.states
