use Rattle.std.proofs.Common.{map, arith}
use Rattle.std.proofs.lemmas.List.{length-map}
use Rattle.serde_json.specs.Data.{array}
use Rattle.mc_cert.proofs.FieldLemmas.{DenotesTrees-from_rows}
use Rattle.mc_cert.proofs.tokens.version_two.trees_value.Goals as goal

-- The rows of the list denote the trees one by one, and are at most 4,096.
pub returns : goal.returns
returns c =
    let (ds, reads, each) = c.in_ok-trees.ensures.rows in
    let trees = map (λ es. es.items) c.in_ok-trees.trees.items in (
      array ds,
      reads,
      DenotesTrees-from_rows c.args.topology.now ds trees
          (omega (arith, length-map c.in_ok-trees.trees.items (λ es. es.items), c.in_ok-trees.ensures.few))
          each,
    )
