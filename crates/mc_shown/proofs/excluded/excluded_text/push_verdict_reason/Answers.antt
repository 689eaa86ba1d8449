-- Some router is excluded, so the line isn't left out.
use Rattle.std.proofs.Common.{List, ℕ, ◌++◌, ◌∙◌, ap, sym}
use Rattle.std.specs.String.{string_bytes}
use Rattle.mc_shown.proofs.ShownNameLemmas.{verdict_reason-some_router}
use Rattle.mc_shown.proofs.excluded.excluded_text.push_verdict_reason.Goals as goal

pub returns-in_ok-writeln : goal.returns-in_ok-writeln
returns-in_ok-writeln c =
    c.in_ok-writeln.ensures.bytes
    ∙ ap (λ (line : List ℕ). string_bytes c.args.text.now ++ line)
    (verdict_reason-some_router c.args.topology.now c.args.routers.now
    (sym c.is_empty.ensures ∙ c.if-not-is_empty.true))
