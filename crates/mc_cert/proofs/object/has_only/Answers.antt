use Rattle.std.proofs.Common.{ap, map, ◌∙◌}
use Rattle.std.specs.Map.{keys_of}
use Rattle.mc_topology.specs.Document.{are_known}
use Rattle.mc_topology.proofs.Tables.{are_known-now}
use Rattle.mc_cert.proofs.Objects.{keys_in-view}
use Rattle.mc_cert.proofs.object.has_only.Goals as goal

-- The keys of the map are those of its members.
pub returns : goal.returns
returns c =
    c.has_known_keys.ensures ∙ are_known-now c.args.known.now (keys_of c.args.object.now.entries)
    ∙ ap (are_known (map (λ k. k.now) c.args.known.now)) (keys_in-view c.args.object.now.entries)
