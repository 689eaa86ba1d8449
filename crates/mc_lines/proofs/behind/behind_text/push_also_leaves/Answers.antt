-- There is such an interface, so the line isn't left out.
use Rattle.std.proofs.Common.{List, ℕ, ◌++◌, ◌∙◌, ap, sym}
use Rattle.std.specs.String.{string_bytes}
use Rattle.mc_forward.specs.ListedTables.{facts}
use Rattle.mc_lines.proofs.LeakLineLemmas.{also_leaves_text-some_leak}
use Rattle.mc_lines.proofs.behind.behind_text.push_also_leaves.Goals as goal

pub returns-in_ok-writeln : goal.returns-in_ok-writeln
returns-in_ok-writeln c =
    c.in_ok-writeln.ensures.bytes
    ∙ ap (λ (line : List ℕ). string_bytes c.args.text.now ++ line)
    (also_leaves_text-some_leak (facts c.args.view.now.domain) c.args.strays.now (sym c.is_empty.ensures
    ∙ c.if-not-is_empty.true))
