use Rattle.std.proofs.Common.{◌≡◌, map, Some, ap, arith}
use Rattle.std.specs.Prelude.{option_map}
use Rattle.std.proofs.lemmas.List.{length-map}
use Rattle.mc_cert.proofs.FieldLemmas.{IsWritableTree-from_flows}
use Rattle.mc_cert.proofs.tokens.version_one.VersionOneFields.certificate.Goals as goal

-- There is a tree for each flow of the topology, which has at most 4,096.
pub from_flows-requires-clause-few : goal.from_flows-requires-clause-few
from_flows-requires-clause-few c =
    let (ms, held) = c.requires.read in
    let is : c.args.self.flows ≡ Some c.in-Some-Some.flows = grind arith in
    let flows = c.in-Some-Some.flows.items in
    let (_, count) = IsWritableTree-from_flows c.args.topology.now c.args.self.version _
    (map (λ es. es.items) flows) ms held (ap (option_map (λ fs. map (λ es. es.items) fs.items)) is) in
    omega (arith, length-map flows (λ es. es.items), count, c.flows-rules.ensures.rules.few_flows)

-- What a flow's value denotes is a tree that a text can have.
pub from_flows-requires-clause-lists : goal.from_flows-requires-clause-lists
from_flows-requires-clause-lists c =
    let (ms, held) = c.requires.read in
    let is : c.args.self.flows ≡ Some c.in-Some-Some.flows = grind arith in
    (IsWritableTree-from_flows c.args.topology.now c.args.self.version _
    (map (λ es. es.items) c.in-Some-Some.flows.items) ms held
    (ap (option_map (λ fs. map (λ es. es.items) fs.items)) is)).0
