use Rattle.std.proofs.Common.{append-nil, sym}
use Rattle.std.specs.Prelude.{not}
use Rattle.std.specs.String.{string_bytes}
use Rattle.mc_theory.specs.Lists.{below}
use Rattle.mc_run.specs.AuditAsked.{numbered_asked_line}
use Rattle.mc_run.specs.AuditPieces.{audited_value}
use Rattle.mc_run.specs.AuditedFiles.{is_whole}
use Rattle.mc_run.proofs.AuditAskedLemmas.{flat_map_below-more}
use Rattle.mc_run.proofs.audit.audit_asked.push_asked_lines.Goals as goal

-- No line is below 0, and nothing was appended.
pub loop-number-init : goal.loop-number-init
unfolding below
loop-number-init c = sym (append-nil (string_bytes c.args.text.now))

-- The next line is appended to those below it.
pub loop-number-preserved : goal.loop-number-preserved
loop-number-preserved c =
    let v = audited_value c.args.audited.now in
    flat_map_below-more (numbered_asked_line c.args.json v.domain.topology (not (is_whole v)) v.asked)
    c.loop-number.number _ _ _ c.loop-number.invariant c.in_ok-push_numbered_line.ensures
