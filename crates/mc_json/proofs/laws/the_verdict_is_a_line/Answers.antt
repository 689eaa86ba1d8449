-- The object of a verdict has no part that varies, so that printing it computes to the letters.
use Rattle.std.proofs.Common.{refl}
use Rattle.json.specs.Print.{escape_byte}
use Rattle.mc_json.proofs.laws.the_verdict_is_a_line.Goals as goal

pub returns-clause-yes : goal.returns-clause-yes
unfolding escape_byte
returns-clause-yes c = refl

pub returns-clause-no : goal.returns-clause-no
unfolding escape_byte
returns-clause-no c = refl
