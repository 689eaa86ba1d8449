-- The names of the keys of a certificate's objects.
use Rattle.std.specs.Prelude.{ℕ, List, codes}
use Rattle.mc_cert.specs.declared.key.Key.{Key}
use Rattle.mc_cert.specs.declared.key.Key.TheVariants.{Flows, Group, Lan, Need, Rank, Reached, Router, Source}
use Rattle.mc_cert.specs.declared.key.Key.TheVariants.{Tree, Trees, Version, Vif}

-- the name of a key
abbrev pub key_name : Key → List ℕ
key_name Flows = codes "flows"
key_name Group = codes "group"
key_name Lan = codes "lan"
key_name Need = codes "need"
key_name Rank = codes "rank"
key_name Reached = codes "reached"
key_name Router = codes "router"
key_name Source = codes "source"
key_name Tree = codes "tree"
key_name Trees = codes "trees"
key_name Version = codes "version"
key_name Vif = codes "vif"
