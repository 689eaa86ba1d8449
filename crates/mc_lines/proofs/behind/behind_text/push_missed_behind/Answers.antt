-- There is such a LAN, so the line isn't left out.
use Rattle.std.proofs.Common.{List, ℕ, ◌++◌, ◌∙◌, ap, sym}
use Rattle.std.specs.String.{string_bytes}
use Rattle.mc_lines.proofs.LeakLineLemmas.{missed_behind_text-some_lan}
use Rattle.mc_lines.proofs.behind.behind_text.push_missed_behind.Goals as goal

pub returns-in_ok-writeln : goal.returns-in_ok-writeln
returns-in_ok-writeln c =
    c.in_ok-writeln.ensures.bytes
    ∙ ap (λ (line : List ℕ). string_bytes c.args.text.now ++ line)
    (missed_behind_text-some_lan c.args.topology.now c.args.lans.now (sym c.is_empty.ensures
    ∙ c.if-not-is_empty.true))
