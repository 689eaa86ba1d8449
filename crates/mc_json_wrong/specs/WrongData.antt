-- The members of a flow with a finding, in JSON (docs/FORMATS.md, "What `audit --json` writes"), in ascending
-- order of their keys. Flows are numbered from 0 here, from 1 in JSON.
use Rattle.std.specs.Prelude.{ℕ, ◌+◌, Bool, true, false, List, [], ◌∷◌, ◌++◌, Option, Some, None, codes}
use Rattle.mc_text.specs.Addr.{dotted}
use Rattle.mc_topology.specs.declared.flow.Flow.{Flow}
use Rattle.mc_explain.specs.declared.causes.explanation.Certainty.{Certainty}
use Rattle.serde_json.specs.Data.{Data, null, boolean, string}
use Rattle.mc_json.specs.RowData.{count_data, list_data, object_data}

-- that the flow isn't right, or null where that isn't known
abbrev pub wrong_mark : (known : Bool) → Data
wrong_mark true = boolean false
wrong_mark false = null

-- the TTL from which on packets show a finding; null where none is given
abbrev pub shown_from_data : Option ℕ → Data
shown_from_data None = null
shown_from_data (Some ttl) = count_data ttl

-- the members of a flow with a finding from `flow` on, in the order of keys
abbrev pub each_wrong_members : (number : ℕ) → Flow → Certainty → (found_ttl : ℕ) → (wanted why : List Data)
    → List (List ℕ × Data)
each_wrong_members number flow certainty found_ttl wanted why =
    (codes "flow", count_data (number + 1))
    ∷ (codes "found_ttl", count_data found_ttl)
    ∷ (codes "group", string (dotted flow.group))
    ∷ (codes "right", wrong_mark certainty.known)
    ∷ (codes "shown_from", shown_from_data certainty.shown_by.from)
    ∷ (codes "source", string (dotted flow.source))
    ∷ (codes "ttl", count_data flow.ttl)
    ∷ (codes "wanted", list_data wanted)
    ∷ (codes "why", list_data why) ∷ []

-- What is written of a flow with a finding, beside its number, addresses and TTL.
pub record WrongFlow : Type 0 where
  -- how certain the finding is
  pub certainty : Certainty
  -- the LANs that were also missed
  pub also : List Data
  -- what a packet with the flow's own TTL meets
  pub at_flow_ttl : Data
  -- what is behind a stray
  pub behind : Data
  -- the travel's events, if they are asked for
  pub events : Option (List Data)
  -- the finding
  pub finding : Data
  -- the TTL of the packet that shows it
  pub found_ttl : ℕ
  -- the LANs that want the flow
  pub wanted : List Data
  -- the causes
  pub why : List Data

-- the member `events`, if the travel's events are asked for
abbrev pub events_member : Option (List Data) → List (List ℕ × Data)
events_member None = []
events_member (Some events) = (codes "events", list_data events) ∷ []

-- all members of a flow with a finding
abbrev pub wrong_members : (number : ℕ) → Flow → WrongFlow → List (List ℕ × Data)
wrong_members number flow wrong =
    (codes "also", list_data wrong.also)
    ∷ (codes "at_ttl", wrong.at_flow_ttl)
    ∷ (codes "behind", wrong.behind)
    ∷ (events_member wrong.events
    ++ ((codes "finding", wrong.finding) ∷ each_wrong_members number flow wrong.certainty wrong.found_ttl
    wrong.wanted wrong.why))

-- a flow with a finding
abbrev pub wrong_data : (number : ℕ) → Flow → WrongFlow → Data
wrong_data number flow wrong = object_data (wrong_members number flow wrong)
