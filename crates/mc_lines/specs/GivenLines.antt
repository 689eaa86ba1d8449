-- Lines (Lines) as the code gives them to whatever takes lines (`LineSink`).
use Rattle.std.specs.Prelude.{ℕ, List, map}
use Rattle.std.specs.Borrow.{Bor}
use Rattle.mc_lines.specs.declared.facts.fact.Fact.{Fact}
use Rattle.mc_lines.specs.declared.facts.fact.Fact.TheVariants.{Lan as lan_fact, Router as router_fact}
use Rattle.mc_lines.specs.declared.facts.fact.Fact.TheVariants.{Device as device_fact}
use Rattle.mc_lines.specs.declared.facts.fact.Fact.TheVariants.{Interface as interface_fact}
use Rattle.mc_lines.specs.declared.facts.fact.Fact.TheVariants.{IncomingDevice as incoming_device_fact}
use Rattle.mc_lines.specs.declared.facts.fact.Fact.TheVariants.{IncomingVif as incoming_vif_fact}
use Rattle.mc_lines.specs.declared.facts.fact.Fact.TheVariants.{Row as row_fact}
use Rattle.mc_lines.specs.declared.facts.fact.Fact.TheVariants.{EverySourceRow as every_source_row_fact}
use Rattle.mc_lines.specs.declared.facts.fact.Fact.TheVariants.{Flag as flag_fact, Number as number_fact}
use Rattle.mc_lines.specs.declared.facts.fact.Fact.TheVariants.{Routers as routers_fact}
use Rattle.mc_lines.specs.Lines.{FactValue, Line, line}
use Rattle.mc_lines.specs.Lines.FactValue.{Lan, Router, Device, Interface, IncomingDevice, IncomingVif, Row}
use Rattle.mc_lines.specs.Lines.FactValue.{EverySourceRow, Flag, Number, Routers}

-- a fact of the code as one of the definitions
abbrev pub fact_value : Fact → FactValue
fact_value (lan_fact lan) = Lan lan
fact_value (router_fact router) = Router router
fact_value (device_fact router vif) = Device router vif
fact_value (interface_fact interface) = Interface interface
fact_value (incoming_device_fact router) = IncomingDevice router
fact_value (incoming_vif_fact router) = IncomingVif router
fact_value (row_fact router) = Row router
fact_value (every_source_row_fact router) = EverySourceRow router
fact_value (flag_fact flag) = Flag flag
fact_value (number_fact n) = Number n
fact_value (routers_fact routers) = Routers routers.now

-- a text as it is given
abbrev pub given_text : Bor (List ℕ) → List ℕ
given_text text = text.now

-- a fact with its key
abbrev pub named_fact : Bor (List ℕ) × Fact → List ℕ × FactValue
named_fact f = (f.0.now, fact_value f.1)

-- the line that is given with this kind, these sentences and these facts
abbrev pub given_line : (kind : List ℕ) → List (Bor (List ℕ)) → List (Bor (List ℕ) × Fact) → Line
given_line kind sentences facts = line kind (map given_text sentences) (map named_fact facts)
