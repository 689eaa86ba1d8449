use Rattle.std.proofs.Common.{map, sym, ◌∙◌, ap}
use Rattle.std.proofs.lemmas.List.{drop-map}
use Rattle.mc_cli.proofs.task.words_from.Goals as goal

-- Dropping words drops their texts.
pub returns : goal.returns
returns c =
    ap (map (λ word. word.now)) c.split_at.ensures.back
    ∙ sym (drop-map (λ word. word.now) c.args.place c.args.words.now)
