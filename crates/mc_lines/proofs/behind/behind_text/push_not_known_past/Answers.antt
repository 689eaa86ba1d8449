-- There is such a router, so the line isn't left out.
use Rattle.std.proofs.Common.{List, ℕ, ◌++◌, ◌∙◌, ap, sym}
use Rattle.std.specs.String.{string_bytes}
use Rattle.mc_lines.proofs.LeakLineLemmas.{not_known_past_text-some_router}
use Rattle.mc_lines.proofs.behind.behind_text.push_not_known_past.Goals as goal

pub returns-in_ok-writeln : goal.returns-in_ok-writeln
returns-in_ok-writeln c =
    c.in_ok-writeln.ensures.bytes
    ∙ ap (λ (line : List ℕ). string_bytes c.args.text.now ++ line)
    (not_known_past_text-some_router c.args.topology.now c.args.routers.now (sym c.is_empty.ensures
    ∙ c.if-not-is_empty.true))
