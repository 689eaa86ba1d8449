-- The names of a valid topology have no line feed, and neither has a well-formed sentence. So the only line
-- feed of each line is the one at its end, and each begins with its own spaces.
use Rattle.mc_lines.proofs.IndentedLemmas.{are_indented-causes_text, are_indented-deeper_causes_text}
use Rattle.mc_lines.proofs.IndentedLemmas.{are_indented-line_text, are_indented-search_text}
use Rattle.mc_lines.proofs.laws.explained_lines_begin_with_two_spaces.Goals as goal

pub returns-clause-causes : goal.returns-clause-causes
returns-clause-causes c = λ d summary flow causes ok. are_indented-causes_text d summary flow causes ok

pub returns-clause-deeper : goal.returns-clause-deeper
returns-clause-deeper c = are_indented-deeper_causes_text

pub returns-clause-search : goal.returns-clause-search
returns-clause-search c = λ d ok summary flow found. are_indented-search_text d summary flow found ok

pub returns-clause-each : goal.returns-clause-each
returns-clause-each c = λ context l ok well. are_indented-line_text context l ok well
