use Rattle.std.proofs.Common.{◌≡◌, length, map, arith}
use Rattle.std.proofs.lemmas.List.{length-map}
use Rattle.serde_json.specs.Data.{array}
use Rattle.mc_cert.proofs.FieldLemmas.{DenotesFlows-from_rows}
use Rattle.mc_cert.proofs.tokens.flow.flows_value.Goals as goal

-- The rows of the list denote the trees of the flows one by one, and are as many as the flows.
pub returns : goal.returns
returns c =
    let t = c.args.topology.now in
    let (ds, reads, each) = c.in_ok-flows.ensures.rows in
    let flows = map (λ es. es.items) c.in_ok-flows.flows.items in
    let count : length flows ≡ length t.flows =
    omega (arith, length-map c.in_ok-flows.flows.items (λ es. es.items)) in
    (array ds, reads, DenotesFlows-from_rows t ds flows count each)
