-- The facts of a line of an explanation as JSON values (docs/FORMATS.md, the member `why`), with the names of
-- the topology and of the vif tables.
use Rattle.serde_json.specs.Data.{Data, boolean, string}
use Rattle.mc_lines.specs.FactText.{interface_text}
use Rattle.mc_lines.specs.FlowContext.{FlowContext, flow_of, row_for_flow}
use Rattle.mc_lines.specs.Lines.{FactValue}
use Rattle.mc_lines.specs.Lines.FactValue.{Lan, Router, Device, Interface, IncomingDevice, IncomingVif, Row}
use Rattle.mc_lines.specs.Lines.FactValue.{EverySourceRow, Flag, Number, Routers}
use Rattle.mc_json.specs.EndData.{routers_data}
use Rattle.mc_json.specs.RowData.{lan_data, router_data}
use Rattle.mc_json.specs.RowData.{count_data, device_data, every_source_data, flow_row_data}
use Rattle.mc_json.specs.RowData.{incoming_device, incoming_vif}

-- the value of a fact, in a line about a flow
abbrev pub fact_data : FlowContext → FactValue → Data
fact_data context (Lan lan) = lan_data context.domain.topology lan
fact_data context (Router router) = router_data context.domain.topology router
fact_data context (Device router vif) = device_data context.domain router vif
fact_data context (Interface interface) = string (interface_text context.domain.topology interface)
fact_data context (IncomingDevice router) = incoming_device context.domain router
    (row_for_flow context router)
fact_data context (IncomingVif router) = incoming_vif (row_for_flow context router)
fact_data context (Row router) = flow_row_data context.domain context.flow router
fact_data context (EverySourceRow router) = every_source_data context.domain context.summary
    (flow_of context).group router
fact_data context (Flag flag) = boolean flag
fact_data context (Number number) = count_data number
fact_data context (Routers routers) = routers_data context.domain.topology routers
