use Rattle.std.proofs.Common.{◌∙◌}
use Rattle.std.specs.Str.{bytes_eq}
use Rattle.clap.proofs.WalkLemmas.{list_any-map}
use Rattle.mc_cli.proofs.audit_words.is_among.Goals as goal

-- Words are equal exactly where their bytes are.
pub returns : goal.returns
returns c =
    c.contains.ensures.value
    ∙ list_any-map (λ other. bytes_eq other c.args.word.now) (λ other. other.now) c.args.words.now
