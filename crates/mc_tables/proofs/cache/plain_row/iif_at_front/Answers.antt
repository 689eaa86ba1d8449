use Rattle.std.proofs.Common.{◌∙◌, ◌∷◌, ap}
use Rattle.std.proofs.lemmas.List.{take_rest}
use Rattle.mc_text.specs.Lines.{words_of}
use Rattle.mc_tables.proofs.PlainRowLemmas.{iif_is_first_word}
use Rattle.mc_tables.proofs.cache.plain_row.iif_at_front.Goals as goal

-- One or two digits and a space are the first word, and their number is at most 31.
pub returns-clause-word : goal.returns-clause-word
returns-clause-word c =
    let starts = c.starts_with_iif.ensures c.if-not-starts_with_iif.false in
    let found = iif_is_first_word c.args.line.now c.iif_of_bytes-iif.result c.if-line-lt3.false starts
    (c.is_iif.ensures c.if-not-is_iif.false) (c.iif_of_bytes-iif.ensures.one starts.first)
    (c.iif_of_bytes-iif.ensures.two starts.first) in
    (found.0, found.1 ∙ ap (λ rest. found.0 ∷ words_of rest) (take_rest c.args.line.now 3), found.2, found.3)
