-- No bytes are no records.
use Rattle.std.proofs.Common.{[], refl}
use Rattle.mc_igmp.specs.Records.{records_in}
use Rattle.mc_igmp.proofs.RecordsLemmas.{after_records-none}
use Rattle.mc_igmp.proofs.record_bytes.RecordBytes.none.Goals as goal

pub invariant_of-result : goal.invariant_of-result
invariant_of-result c = rw c.new.ensures.items (after_records-none 0 1 [] refl)

pub returns : goal.returns
unfolding records_in
returns c = refl
