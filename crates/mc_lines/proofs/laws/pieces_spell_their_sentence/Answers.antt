use Rattle.mc_lines.proofs.PieceLemmas.{flat_map-piece_spelling}
use Rattle.mc_lines.proofs.laws.pieces_spell_their_sentence.Goals as goal

-- Each byte of a sentence is in one piece: a brace that opens and one that closes are spelled with their key.
pub returns : goal.returns
returns c = flat_map-piece_spelling
