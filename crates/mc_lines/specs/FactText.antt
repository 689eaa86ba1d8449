-- The text of a line's fact (Lines), with the names of the topology and of the vif tables.
use Rattle.std.specs.Prelude.{ℕ, Bool, true, false, List, [], codes, decimal}
use Rattle.mc_theory.specs.Nets.{Row as NetRow}
use Rattle.mc_topology.specs.Topology.{TopologyValue, lan_name, router_name}
use Rattle.mc_shown.specs.EverySourceText.{every_source_text}
use Rattle.mc_shown.specs.ShownNames.{routers_text}
use Rattle.mc_shown.specs.RowText.{device_name_text, device_text, flow_row_text, incoming_text}
use Rattle.mc_shown.specs.RowText.{of_entry_or}
use Rattle.mc_search.specs.TopologyLans.{interface_at}
use Rattle.mc_lines.specs.FlowContext.{FlowContext, flow_of, row_for_flow}
use Rattle.mc_lines.specs.Lines.{FactValue}
use Rattle.mc_lines.specs.Lines.FactValue.{Lan, Router, Device, Interface, IncomingDevice, IncomingVif, Row}
use Rattle.mc_lines.specs.Lines.FactValue.{EverySourceRow, Flag, Number, Routers}

-- the device of an interface of the topology
abbrev pub interface_text : TopologyValue → (interface : ℕ) → List ℕ
interface_text topology interface = device_name_text (interface_at topology interface).device

-- the number of a row's incoming vif; nothing for a row without one
abbrev pub incoming_number_text : NetRow → List ℕ
incoming_number_text row = of_entry_or [] (λ incoming pairs. decimal incoming) row

-- whether something holds, as `true` or `false`
abbrev pub flag_text : Bool → List ℕ
flag_text true = codes "true"
flag_text false = codes "false"

-- the text of a fact, in a line about a flow
abbrev pub fact_text : FlowContext → FactValue → List ℕ
fact_text context (Lan lan) = lan_name context.domain.topology lan
fact_text context (Router router) = router_name context.domain.topology router
fact_text context (Device router vif) = device_text context.domain router vif
fact_text context (Interface interface) = interface_text context.domain.topology interface
fact_text context (IncomingDevice router) = incoming_text context.domain router
    (row_for_flow context router)
fact_text context (IncomingVif router) = incoming_number_text (row_for_flow context router)
fact_text context (Row router) = flow_row_text context.domain context.flow router
fact_text context (EverySourceRow router) = every_source_text context.domain context.summary
    (flow_of context).group router
fact_text context (Flag flag) = flag_text flag
fact_text context (Number number) = decimal number
fact_text context (Routers routers) = routers_text context.domain.topology routers
