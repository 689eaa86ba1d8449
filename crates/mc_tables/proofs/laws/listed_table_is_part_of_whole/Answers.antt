-- All rows are read and checked, whether they are kept or not;
-- those that aren't listed are left out after that.
use Rattle.mc_tables.proofs.ListedPartLemmas.{listed_in-is_part, listed_in-same_fault}
use Rattle.mc_tables.proofs.laws.listed_table_is_part_of_whole.Goals as goal

pub returns-clause-part : goal.returns-clause-part
returns-clause-part c = listed_in-is_part

pub returns-clause-fault : goal.returns-clause-fault
returns-clause-fault c = listed_in-same_fault
