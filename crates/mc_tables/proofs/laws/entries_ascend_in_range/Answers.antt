-- An outgoing vif out of range, or one that repeats another, is refused, and each is put in its place.
use Rattle.mc_tables.proofs.TableRuleLemmas.{cache-is_valid}
use Rattle.mc_tables.proofs.laws.entries_ascend_in_range.Goals as goal

pub returns : goal.returns
returns c = λ order text table denotes. (cache-is_valid order text table denotes).entries
