use Rattle.std.proofs.Common.{◌≡◌, ◌<◌, length, map, take}
use Rattle.mc_input.specs.RefusedFiles.{JudgesFiles, judged_reports, as_judged_file}
use Rattle.mc_input.proofs.each_file.judge_lans.Given as goal

-- The files of the LANs so far were judged.
abbrev pub invariant-loop-lan : goal.invariant-loop-lan
invariant-loop-lan g l = record {
  count : l.lan-end ≡ length l.fn.topology.lans;
  room : 0 < length l.buffer;
  same : g.F.FileSource.borrows l.files ≡ g.F.FileSource.borrows l.fn.files;
  kept : g.F.FileSource.contents l.files ≡ g.F.FileSource.contents l.fn.files;
  judged : JudgesFiles (g.F.FileSource.contents l.fn.files)
      (λ known. map (judged_reports known) (take l.lan l.fn.topology.lans))
      (map as_judged_file l.fn.refused.items) (map as_judged_file l.refused.items)
      (g.F.FileSource.failed l.fn.files) (g.F.FileSource.failed l.files);
}
