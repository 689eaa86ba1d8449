-- The lines of an explanation (docs/FORMATS.md, "The explanation of a finding" and "What `audit --json`
-- writes"): what is the same of each in text and in JSON.
use Rattle.std.specs.Prelude.{ℕ, Bool, List}

-- What a fact of a line is about. LANs, routers and interfaces of the topology are given by their numbers.
pub data FactValue : Type 0 where
  -- the name of a LAN
  Lan : (lan : ℕ) → FactValue
  -- the name of a router
  Router : (router : ℕ) → FactValue
  -- the device of a router's vif
  Device : (router vif : ℕ) → FactValue
  -- the device of an interface of the topology
  Interface : (interface : ℕ) → FactValue
  -- the device of the incoming vif of a router's row
  IncomingDevice : (router : ℕ) → FactValue
  -- the number of that vif
  IncomingVif : (router : ℕ) → FactValue
  -- a router's row, written as the entry that it is
  Row : (router : ℕ) → FactValue
  -- a router's entry for every source
  EverySourceRow : (router : ℕ) → FactValue
  -- whether something holds
  Flag : Bool → FactValue
  -- a number
  Number : ℕ → FactValue
  -- the names of routers
  Routers : List ℕ → FactValue

-- A line: its kind, its sentences, in which `{key}` refers to the fact with that key, and its facts with
-- their keys.
pub record Line : Type 0 where
  pub kind : List ℕ
  pub sentences : List (List ℕ)
  pub facts : List (List ℕ × FactValue)

-- the line with this kind, these sentences and these facts
abbrev pub line : (kind : List ℕ) → (sentences : List (List ℕ)) → List (List ℕ × FactValue) → Line
line kind sentences facts = record { kind = kind; sentences = sentences; facts = facts }
