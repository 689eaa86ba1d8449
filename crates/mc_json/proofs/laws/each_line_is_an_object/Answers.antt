-- Each line is the compact text of an object and a line feed, and has no other line feed: strings escape
-- theirs, and the texts of numbers, names and words have none.
use Rattle.mc_json.proofs.EachLineLemmas.{are_object_lines-domain, are_object_lines-right}
use Rattle.mc_json.proofs.EachLineLemmas.{are_object_lines-summary, are_object_lines-tree}
use Rattle.mc_json.proofs.EachLineLemmas.{are_object_lines-all_unlisted, are_object_lines-without}
use Rattle.mc_json.proofs.EachLineLemmas.{are_object_lines-asked, are_object_lines-asked_more}
use Rattle.mc_json.proofs.EachLineLemmas.{are_object_lines-asked_services}
use Rattle.mc_json.proofs.laws.each_line_is_an_object.Goals as goal

pub returns-clause-domain : goal.returns-clause-domain
returns-clause-domain c = λ d words. are_object_lines-domain d words

pub returns-clause-tree : goal.returns-clause-tree
returns-clause-tree c = λ t n es tree. are_object_lines-tree t n es tree

pub returns-clause-right : goal.returns-clause-right
returns-clause-right c = λ number f copies tree wanted. are_object_lines-right number f copies tree wanted

pub returns-clause-unlisted : goal.returns-clause-unlisted
returns-clause-unlisted c = λ all t summary. are_object_lines-all_unlisted all t summary

pub returns-clause-without : goal.returns-clause-without
returns-clause-without c = λ t excluded. are_object_lines-without t excluded

pub returns-clause-asked : goal.returns-clause-asked
returns-clause-asked c = are_object_lines-asked

pub returns-clause-asked_more : goal.returns-clause-asked_more
returns-clause-asked_more c = are_object_lines-asked_more

pub returns-clause-asked_services : goal.returns-clause-asked_services
returns-clause-asked_services c = are_object_lines-asked_services

pub returns-clause-summary : goal.returns-clause-summary
returns-clause-summary c = are_object_lines-summary
