use Rattle.std.proofs.Common.{ℕ, List, map}
use denote.Ref.{Bor}
use Rattle.std.specs.String.{string_bytes}
use Rattle.mc_commands.proofs.RefusalTextLemmas.{refusal_text}
use Rattle.mc_commands.proofs.refusals.refusal_text.refusal_lines.Goals as goal

-- The text starts empty, and has the lines of the refused files that were collected, while the source's
-- contents stayed the same.
pub returns-clause-text : goal.returns-clause-text
returns-clause-text g c =
    refusal_text (map (λ (n : Bor (List ℕ)). n.now) c.args.without.now)
    (g.F.FileSource.contents c.args.files.now)
    (g.F.FileSource.contents c.refused_files.new.files) c.in_ok-refused.refused.items
    (g.F.FileSource.failed c.args.files.now) (g.F.FileSource.failed c.refused_files.new.files)
    (g.F.FileSource.failed c.push_first_files.new.files) (string_bytes c.new-text.result)
    (string_bytes c.push_first_files.new.text) c.in_ok-refused.ensures.kept c.new-text.ensures.bytes
    c.in_ok-refused.ensures.refused c.in_ok-refused.ensures.exact c.in_ok-refused.ensures.failures
    (rw c.deref.ensures.value at c.in_ok-push_first_files.ensures.adds)
