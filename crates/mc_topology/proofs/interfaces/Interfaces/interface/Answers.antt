use Rattle.std.proofs.Common.{◌<◌, length, map}
use Rattle.std.proofs.lemmas.List.{length-map}
use Rattle.mc_topology.specs.Lookup.{interface_row}
use Rattle.mc_topology.proofs.Places.{slice_get-row}
use Rattle.mc_topology.proofs.interfaces.Interfaces.interface.Goals as goal

-- The map's keys and its values stand in the order of the rows, so that those at one index make up
-- that row.
pub returns : goal.returns
returns c = record {
  item = (
      let entries = c.self.inside.lans.entries in
      let rows : c.args.interface < length (map interface_row entries) =
      rw c.self.view_is c.requires.known in
      let within : c.args.interface < length entries = rw length-map at rows in
      let is = rw (c.as_slice.ensures, c.keys-keys.ensures.rest) at c.index-as_slice-interface.is in
      let at = slice_get-row interface_row entries c.args.interface c.index-as_slice-interface.result
      c.index.result.now within is c.index.ensures in
      rw (← c.self.view_is, c.as_slice-2.ensures.value) at);
}
