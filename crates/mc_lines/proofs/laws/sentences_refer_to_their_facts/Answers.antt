-- Kind by kind: each sentence is given byte by byte, and the facts with their keys, so that it can be tried
-- whether it is well formed.
use Rattle.mc_lines.proofs.WellFormedLemmas.{well_formed-cause_lines, well_formed-reach_lines}
use Rattle.mc_lines.proofs.WellFormedLemmas.{well_formed-shown_line}
use Rattle.mc_lines.proofs.laws.sentences_refer_to_their_facts.Goals as goal

pub returns-clause-causes : goal.returns-clause-causes
returns-clause-causes c = λ context cause. well_formed-cause_lines context cause

pub returns-clause-search : goal.returns-clause-search
returns-clause-search c = λ context l. well_formed-shown_line context l

pub returns-clause-reach : goal.returns-clause-reach
returns-clause-reach c = λ sent_on took_none. well_formed-reach_lines sent_on took_none
