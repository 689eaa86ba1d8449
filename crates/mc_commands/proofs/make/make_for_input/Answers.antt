use Rattle.std.specs.String.{string_bytes}
use Rattle.mc_commands.specs.MakeRun.{IsMakeOutput}
use Rattle.mc_input.specs.Meaning.{MeansUncertifiedDomain}
use Rattle.mc_commands.proofs.RunInputLemmas.{of_domain-meant}
use Rattle.mc_commands.proofs.make.make_for_input.Goals as goal

-- The text is made for the domain that was read, which is the one that the bundle means.
pub returns-in-Ok-clause-text : goal.returns-in-Ok-clause-text
returns-in-Ok-clause-text g c =
    let written = string_bytes c.in-Ok.run_output.text in
    of_domain-meant MeansUncertifiedDomain (λ d. IsMakeOutput d c.in-Ok.run_output.yes written)
    (g.R.Input.remaining c.args.input.now) c.in_ok-domain.domain
    c.in_ok-domain.ensures.means c.in-Ok.ensures
