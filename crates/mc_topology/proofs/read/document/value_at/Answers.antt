use Rattle.toml.proofs.Views.{table_get}
use Rattle.mc_topology.proofs.read.document.value_at.Goals as goal

-- The table has under a key what the member of that name has.
pub returns : goal.returns
returns c = table_get c.get.result c.args.key.now c.args.table.now.entries c.get.ensures.value
