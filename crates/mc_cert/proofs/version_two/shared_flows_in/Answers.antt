use Rattle.std.proofs.Common.{◌≡◌, ◌<◌, ◌∙◌, ℕ, All, Ok, ap, map, length, subst, arith}
use Rattle.std.proofs.lemmas.List.{map-id}
use Rattle.serde_json.specs.View.{view}
use Rattle.mc_cert.proofs.CertificateTexts.{IsWritableTree-from_tree_rows, tree_numbers-below_count}
use Rattle.mc_cert.proofs.version_two.shared_flows_in.Goals as goal

-- A tree whose entries are read is one that a text can have.
pub from_trees-requires-clause-lists : goal.from_trees-requires-clause-lists
from_trees-requires-clause-lists c =
    IsWritableTree-from_tree_rows c.args.topology.now (map view c.in_ok-listed.listed.now)
    (map (λ t. t.items) c.in_ok-trees.trees.items) c.in_ok-trees.ensures.rows

-- Each number that is read is below the count of trees.
pub from_trees-requires-clause-named : goal.from_trees-requires-clause-named
from_trees-requires-clause-named c =
    let long : c.len.result ≡ length c.in_ok-trees.trees.items = omega arith in
    subst (λ (n : ℕ). All (λ m. m < n) c.in_ok-numbers.numbers.items) long
    (tree_numbers-below_count c.args.topology.now c.len.result (map view c.in_ok-rows.rows.now)
    c.in_ok-numbers.numbers.items
    (c.in_ok-numbers.ensures.rows ∙ ap Ok (map-id c.in_ok-numbers.numbers.items)))

-- There are as many rows as flows.
pub from_trees-requires-clause-few : goal.from_trees-requires-clause-few
from_trees-requires-clause-few c = grind arith
