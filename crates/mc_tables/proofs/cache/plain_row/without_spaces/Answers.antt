-- Spaces in front of the first word belong to no word.
use Rattle.std.proofs.Common.{◌∙◌, ◌-◌, length, drop, sym, ap, arith}
use Rattle.std.proofs.lemmas.List.{take_all, length-drop}
use Rattle.mc_text.specs.Lines.{words_of}
use Rattle.mc_tables.proofs.PlainRowLemmas.{words_of_without_spaces}
use Rattle.mc_tables.proofs.cache.plain_row.without_spaces.Goals as goal

pub returns-in-Some-clause-words : goal.returns-in-Some-clause-words
returns-in-Some-clause-words c =
    let line = c.args.line.now in
    let start = c.in-Some.start in
    let size = length-drop start line in
    ap words_of (take_all (length line - start) (drop start line) (omega (arith, size)))
    ∙ words_of_without_spaces line start (sym c.in-Some.ensures)
