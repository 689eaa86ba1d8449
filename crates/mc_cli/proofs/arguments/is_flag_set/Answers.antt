use Rattle.std.proofs.Common.{◌∙◌}
use Rattle.clap.specs.Matches.{found_of}
use Rattle.clap.proofs.WalkLemmas.{one_text-rows}
use Rattle.mc_cli.proofs.arguments.is_flag_set.Goals as goal

-- The rows that clap finds have what its matches answer, for one value as for none.
pub returns : goal.returns
returns c =
    let rows = one_text-rows (found_of c.args.matches.now) c.args.flag.now in
    record {
      set = λ found. c.get_flag.ensures.value (rows ∙ found);
      unset = λ found. c.get_flag.ensures.other (rows ∙ found);
      absent = λ none. c.get_flag.ensures.none (rows ∙ none);
    }
