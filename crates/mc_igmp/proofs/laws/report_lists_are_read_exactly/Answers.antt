-- Reading checks just what makes a text a report list, and answers its records.
use Rattle.mc_igmp.proofs.ListLemmas.{read_list-sound, read_list-complete}
use Rattle.mc_igmp.proofs.laws.report_lists_are_read_exactly.Goals as goal

pub returns : goal.returns
returns c = λ text records. (read_list-sound text records, read_list-complete text records)
