use Rattle.mc_cert.proofs.PieceLemmas.{need_and_rank-pieces}
use Rattle.mc_cert.proofs.compact_entry.read_numbers.Goals as goal

-- The four pieces that were read are the two keys, each with its number, in the order of the text.
pub returns-clause-text : goal.returns-clause-text
returns-clause-text c =
    need_and_rank-pieces _ _ _ _ _ _ _ c.in_ok-rest.ensures c.in_ok-need.ensures.text
    c.in_ok-rest-2.ensures c.in_ok-rank.ensures.text
