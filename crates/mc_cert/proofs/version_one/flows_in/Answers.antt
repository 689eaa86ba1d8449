use Rattle.std.proofs.Common.{map}
use Rattle.serde_json.specs.View.{view}
use Rattle.mc_cert.proofs.CertificateTexts.{IsWritableTree-from_flow_rows}
use Rattle.mc_cert.proofs.version_one.flows_in.Goals as goal

-- A flow whose entries are read is a tree that a text can have.
pub from_flows-requires-clause-lists : goal.from_flows-requires-clause-lists
from_flows-requires-clause-lists c =
    IsWritableTree-from_flow_rows c.args.topology.now (map view c.in_ok-rows.rows.now)
    (map (λ f. f.items) c.in_ok-flows.flows.items) c.in_ok-flows.ensures.rows
