use Rattle.std.proofs.Common.{◌<◌, length, map}
use Rattle.std.proofs.lemmas.List.{length-map}
use Rattle.mc_topology.specs.SectionRows.{router_row}
use Rattle.mc_topology.proofs.Places.{slice_get-router_name}
use Rattle.mc_topology.proofs.routers.Routers.name.Goals as goal

-- The map's keys stand in the order of the rows, so that the one at an index is that row's name.
pub returns : goal.returns
returns c = record {
  item = (
      let entries = c.self.inside.orders.entries in
      let rows : c.args.router < length (map router_row entries) = rw c.self.view_is c.requires.known in
      let within : c.args.router < length entries = rw length-map at rows in
      let is = rw (c.as_slice.ensures, c.keys-names.ensures.rest, c.router.view_is) at
      c.index-as_slice-router.is in
      let at = slice_get-router_name entries c.args.router c.index-as_slice-router.result within is in
      rw (← c.self.view_is, c.as_str.ensures.value) at);
}
