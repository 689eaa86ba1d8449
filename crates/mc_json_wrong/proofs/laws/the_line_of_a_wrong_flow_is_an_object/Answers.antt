-- The line is the compact text of an object and a line feed, and has no other line feed.
use Rattle.mc_json_wrong.proofs.WrongObjectLemmas.{are_object_lines-wrong_flow}
use Rattle.mc_json_wrong.proofs.laws.the_line_of_a_wrong_flow_is_an_object.Goals as goal

pub returns : goal.returns
returns c = λ number f w. are_object_lines-wrong_flow number f w
