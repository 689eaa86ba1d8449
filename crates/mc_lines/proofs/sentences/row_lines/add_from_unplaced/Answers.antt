-- The kind and the sentence are those of the reason that the row's incoming vif has.
use Rattle.mc_lines.proofs.sentences.row_lines.add_from_unplaced.Goals as goal

pub returns : goal.returns
returns g c = rw (c.incoming_words.ensures.kind, c.incoming_words.ensures.sentence, c.incoming_reason.ensures)
    at c.add_line.ensures
