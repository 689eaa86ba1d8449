-- No bytes are no records.
use Rattle.std.proofs.Common.{[], refl}
use Rattle.mc_igmp.specs.Records.{records_in}
use Rattle.mc_igmp.proofs.RecordsLemmas.{after_records-none}
use Rattle.mc_igmp.proofs.record_bytes.RecordBytes.clear.Goals as goal

pub invariant_of-self : goal.invariant_of-self
invariant_of-self c = rw c.clear.ensures.items (after_records-none 0 1 [] refl)

pub returns : goal.returns
unfolding records_in
returns c = refl
