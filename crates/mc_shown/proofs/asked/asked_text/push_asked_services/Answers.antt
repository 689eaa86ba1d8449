-- There is a service, so the line of the services isn't left out, and is what was written.
use Rattle.std.proofs.Common.{List, ℕ, ◌++◌, ◌∙◌, ap, sym}
use Rattle.std.specs.String.{string_bytes}
use Rattle.mc_shown.proofs.AskedLemmas.{services_text-some_service}
use Rattle.mc_shown.proofs.asked.asked_text.push_asked_services.Goals as goal

pub returns-in_ok-writeln : goal.returns-in_ok-writeln
returns-in_ok-writeln c =
    c.in_ok-writeln.ensures.bytes
    ∙ ap (λ (line : List ℕ). string_bytes c.args.text.now ++ line)
    (services_text-some_service c.args.services.now (sym c.is_empty.ensures ∙ c.if-not-is_empty.true))
