use Rattle.std.proofs.Common.{arith}
use Rattle.mc_cert.proofs.KeyLemmas.{bytes_3, bytes_4, bytes_5, bytes_6, bytes_7}
use Rattle.mc_cert.proofs.key.Key.of_name.Goals as goal

-- The name was compared byte by byte, so that it is the key's name.
pub returns-in-flows : goal.returns-in-flows
returns-in-flows c =
    bytes_5 c.args.name.now (grind arith) (grind arith) (grind arith) (grind arith) (grind arith)
    (grind arith)

pub returns-in-group : goal.returns-in-group
returns-in-group c =
    bytes_5 c.args.name.now (grind arith) (grind arith) (grind arith) (grind arith) (grind arith)
    (grind arith)

pub returns-in-lan : goal.returns-in-lan
returns-in-lan c =
    bytes_3 c.args.name.now (grind arith) (grind arith) (grind arith) (grind arith)

pub returns-in-need : goal.returns-in-need
returns-in-need c =
    bytes_4 c.args.name.now (grind arith) (grind arith) (grind arith) (grind arith) (grind arith)

pub returns-in-rank : goal.returns-in-rank
returns-in-rank c =
    bytes_4 c.args.name.now (grind arith) (grind arith) (grind arith) (grind arith) (grind arith)

pub returns-in-reached : goal.returns-in-reached
returns-in-reached c =
    bytes_7 c.args.name.now (grind arith) (grind arith) (grind arith) (grind arith) (grind arith)
    (grind arith) (grind arith) (grind arith)

pub returns-in-router : goal.returns-in-router
returns-in-router c =
    bytes_6 c.args.name.now (grind arith) (grind arith) (grind arith) (grind arith) (grind arith)
    (grind arith) (grind arith)

pub returns-in-source : goal.returns-in-source
returns-in-source c =
    bytes_6 c.args.name.now (grind arith) (grind arith) (grind arith) (grind arith) (grind arith)
    (grind arith) (grind arith)

pub returns-in-tree : goal.returns-in-tree
returns-in-tree c =
    bytes_4 c.args.name.now (grind arith) (grind arith) (grind arith) (grind arith) (grind arith)

pub returns-in-trees : goal.returns-in-trees
returns-in-trees c =
    bytes_5 c.args.name.now (grind arith) (grind arith) (grind arith) (grind arith) (grind arith)
    (grind arith)

pub returns-in-version : goal.returns-in-version
returns-in-version c =
    bytes_7 c.args.name.now (grind arith) (grind arith) (grind arith) (grind arith) (grind arith)
    (grind arith) (grind arith) (grind arith)

pub returns-in-vif : goal.returns-in-vif
returns-in-vif c =
    bytes_3 c.args.name.now (grind arith) (grind arith) (grind arith) (grind arith)
