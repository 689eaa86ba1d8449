use Rattle.std.proofs.Common.{◌≡◌, ◌<◌, length, map, take}
use Rattle.std.specs.Prelude.{flat_map}
use Rattle.mc_input.specs.RefusedFiles.{JudgesFiles, judged_tables, as_judged_file}
use Rattle.mc_input.proofs.each_file.judge_routers.Given as goal

-- The files of the routers so far were judged.
abbrev pub invariant-loop-router : goal.invariant-loop-router
invariant-loop-router g l = record {
  count : l.router-end ≡ length l.fn.topology.routers;
  room : 0 < length l.buffer;
  same : g.F.FileSource.borrows l.files ≡ g.F.FileSource.borrows l.fn.files;
  kept : g.F.FileSource.contents l.files ≡ g.F.FileSource.contents l.fn.files;
  judged : JudgesFiles (g.F.FileSource.contents l.fn.files)
      (λ known. flat_map (judged_tables (map (λ n. n.now) l.fn.without) known)
      (take l.router l.fn.topology.routers))
      (map as_judged_file l.fn.refused.items) (map as_judged_file l.refused.items)
      (g.F.FileSource.failed l.fn.files) (g.F.FileSource.failed l.files);
}
