use Rattle.std.proofs.Common.{◌≡◌, ◌<◌, length, take}
use Rattle.std.specs.String.{string_bytes}
use Rattle.mc_commands.specs.RefusalText.{AppendsWithFailures, AreRefusedFileLines}
use Rattle.mc_commands.proofs.refusals.refusal_text.push_refused_files.Given as goal

-- the lines of the files so far are written
abbrev pub invariant-loop-file : goal.invariant-loop-file
invariant-loop-file g l = record {
  same : g.F.FileSource.borrows l.files ≡ g.F.FileSource.borrows l.fn.files;
  kept : g.F.FileSource.contents l.files ≡ g.F.FileSource.contents l.fn.files;
  room : 0 < length l.buffer;
  adds : AppendsWithFailures (AreRefusedFileLines (g.F.FileSource.contents l.fn.files)
      (take l.file-index l.fn.refused))
      (string_bytes l.fn.text) (string_bytes l.text)
      (g.F.FileSource.failed l.fn.files) (g.F.FileSource.failed l.files);
}
