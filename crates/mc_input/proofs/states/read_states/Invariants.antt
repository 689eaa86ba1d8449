use Rattle.std.proofs.Common.{◌≡◌, ◌<◌, ℕ, Bool, List, Some, length, slice_get}
use Rattle.std.specs.FinMap.{FinMap}
use Rattle.std.specs.Ordering.{nat_cmp}
use Rattle.mc_tables.specs.Summary.{SummaryValue}
use Rattle.mc_tables.specs.VifTable.{VifValue}
use Rattle.mc_topology.specs.SectionRows.{RouterRow}
use Rattle.mc_files.specs.Files.{FileText}
use Rattle.mc_asked.specs.declared.forwarding.RouterState.{RouterState}
use Rattle.mc_input.specs.ExcludedRouters.{files_without}
use Rattle.mc_input.specs.StatesOfFiles.{AreStatesOfRouter}
use Rattle.mc_input.specs.SummariesOfFiles.{AreSummariesOf}
use Rattle.mc_input.proofs.states.read_states.Given as goal

-- The states so far are those of the routers so far.
abbrev pub invariant-loop-router : goal.invariant-loop-router
invariant-loop-router g l = record {
  room : 0 < length l.buffer;
  end : l.router-end ≡ length l.domain.topology.routers;
  count : length l.states.items ≡ l.router;
  same : g.F.FileSource.borrows l.files ≡ g.F.FileSource.borrows l.fn.files;
  kept : g.F.FileSource.contents l.files ≡ g.F.FileSource.contents l.fn.files;
  failures : g.F.FileSource.failed l.files ≡ g.F.FileSource.failed l.fn.files;
  each : (all : Bool) (contents : List FileText) (summary : List SummaryValue)
      → g.F.FileSource.contents l.fn.files ≡ Some contents
      → AreSummariesOf all (files_without l.without contents) l.domain.topology summary
      → (router : ℕ) (r : RouterRow) (vifs : FinMap nat_cmp VifValue) (own : List RouterState)
      → slice_get l.domain.topology.routers router ≡ Some r → slice_get l.domain.vifs router ≡ Some vifs
      → slice_get l.states.items router ≡ Some own
      → AreStatesOfRouter (files_without l.without contents) l.wants vifs r own;
}
