-- Some LAN wants the flow, so the line is the one that names LANs.
use Rattle.std.proofs.Common.{List, ℕ, ◌++◌, ◌∙◌, ap, sym}
use Rattle.std.specs.String.{string_bytes}
use Rattle.mc_shown.proofs.ShownNameLemmas.{wanted_text-some_lan}
use Rattle.mc_shown.proofs.wanted.wanted_text.push_wanted.Goals as goal

pub returns-in_ok-writeln : goal.returns-in_ok-writeln
returns-in_ok-writeln c =
    c.in_ok-writeln.ensures.bytes
    ∙ ap (λ (line : List ℕ). string_bytes c.args.text.now ++ line)
    (wanted_text-some_lan c.args.topology.now c.args.lans.now (sym c.is_empty.ensures ∙ c.if-is_empty.false))
