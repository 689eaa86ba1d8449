use Rattle.std.proofs.Common.{◌≡◌, ◌<◌, Bool, List, Some, length, map}
use Rattle.mc_igmp.specs.declared.record.Record.{Record}
use Rattle.mc_files.specs.Files.{FileText}
use Rattle.mc_asked.specs.Answers.{AnswersValue}
use Rattle.mc_asked.specs.AskedLines.{lan_wants_from}
use Rattle.mc_asked.specs.UnadmittedSoFar.{AreSourcesBelow}
use Rattle.mc_input.specs.ExcludedRouters.{files_without}
use Rattle.mc_input.specs.ListsOfFiles.{AreListsOf}
use Rattle.mc_input.proofs.unanswered.read_asked_wants.Given as goal

-- with the LANs so far
abbrev pub invariant-loop-lan : goal.invariant-loop-lan
invariant-loop-lan g l = record {
  room : 0 < length l.buffer;
  end : l.lan-end ≡ length l.fn.topology.lans;
  same : g.F.FileSource.borrows l.files ≡ g.F.FileSource.borrows l.fn.files;
  kept : g.F.FileSource.contents l.files ≡ g.F.FileSource.contents l.fn.files;
  failures : g.F.FileSource.failed l.files ≡ g.F.FileSource.failed l.fn.files;
  sources : (all : Bool) (a : AnswersValue) (lists : List (List Record)) (contents : List FileText)
      → g.F.FileSource.contents l.fn.files ≡ Some contents
      → AreListsOf (files_without l.fn.without contents) l.fn.topology lists
      → l.fn.wants ≡ lan_wants_from all a 0 lists
      → AreSourcesBelow all a lists l.lan (map (λ line. line.0) l.fn.lines) l.sources;
}
