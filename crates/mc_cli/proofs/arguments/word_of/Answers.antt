use Rattle.std.proofs.Common.{ap, refl, ◌∙◌}
use Rattle.clap.specs.Matches.{found_of}
use Rattle.clap.proofs.WalkLemmas.{first_value-rows}
use Rattle.mc_cli.proofs.ArgumentLemmas.{unwrap_or-now}
use Rattle.mc_cli.proofs.arguments.word_of.Goals as goal

-- The rows that clap finds have the value that its matches answer; where there is none, both are empty.
pub returns : goal.returns
returns c =
    ap (λ word. word.now) c.unwrap_or.ensures
    ∙ unwrap_or-now c.get_str.result _ _
    (c.get_str.ensures ∙ first_value-rows (found_of c.args.matches.now) c.args.argument.now) refl
