use Rattle.serde_json.specs.Data.{object}
use Rattle.mc_cert.proofs.FieldLemmas.{HoldsFlow-none}
use Rattle.mc_cert.proofs.tokens.flow.flow_value.Goals as goal

-- Of an object without members no field was read.
pub read_object-requires : goal.read_object-requires
read_object-requires c = rw c.new.ensures (record { empty = HoldsFlow-none c.args.topology.now })

-- The fields were read of an object with these members, which denotes the flow's tree.
pub returns : goal.returns
returns c =
    let (ms, reads, held) = c.in_ok-fields.ensures in
    (object ms, reads, c.in-Some.ensures ms held)
