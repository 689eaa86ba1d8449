use Rattle.std.proofs.Common.{rules, ◌∙◌}
use Rattle.std.specs.String.{string_bytes}
use Rattle.mc_commands.proofs.RefusalTextLemmas.{refused_file_lines-more}
use Rattle.mc_commands.proofs.refusals.refusal_text.push_refused_files.Goals as goal

-- The line of the next file is appended to those before it; its failed calls come after theirs.
pub loop-file-preserved : goal.loop-file-preserved
loop-file-preserved g c = record {
  same = c.in_ok-push_refused_file.ensures.same ∙ c.loop-file.invariant.same;
  kept = c.in_ok-push_refused_file.ensures.kept ∙ c.loop-file.invariant.kept;
  room = search rules;
  adds = refused_file_lines-more (g.F.FileSource.contents c.args.files.now)
      (g.F.FileSource.contents c.loop-file.files)
      c.args.refused.now c.loop-file.file-index c.file-item.result (string_bytes c.args.text.now)
      (string_bytes c.loop-file.text) (string_bytes c.push_refused_file.new.text)
      (g.F.FileSource.failed c.args.files.now) (g.F.FileSource.failed c.loop-file.files)
      (g.F.FileSource.failed c.push_refused_file.new.files) c.loop-file.invariant.kept c.loop-file-test.true
      c.file-item.is c.loop-file.invariant.adds c.in_ok-push_refused_file.ensures.adds;
}
