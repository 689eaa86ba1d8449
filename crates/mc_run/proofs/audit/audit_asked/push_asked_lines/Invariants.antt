use Rattle.std.proofs.Common.{◌≡◌, ◌++◌, flat_map}
use Rattle.std.specs.Prelude.{not}
use Rattle.std.specs.String.{string_bytes}
use Rattle.mc_theory.specs.Lists.{below}
use Rattle.mc_run.specs.AuditAsked.{numbered_asked_line}
use Rattle.mc_run.specs.AuditPieces.{audited_value}
use Rattle.mc_run.specs.AuditedFiles.{is_whole}
use Rattle.mc_run.proofs.audit.audit_asked.push_asked_lines.Given as goal

-- the lines so far
abbrev pub invariant-loop-number : goal.invariant-loop-number
invariant-loop-number l =
    string_bytes l.text ≡ string_bytes l.fn.text ++ flat_map (numbered_asked_line l.json
    (audited_value l.audited).domain.topology (not (is_whole (audited_value l.audited)))
    (audited_value l.audited).asked) (below l.number)
