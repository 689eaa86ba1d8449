use Rattle.std.proofs.Common.{refl}
use Rattle.std.proofs.lemmas.Nat.{from_be_bytes-to_be_bytes_4}
use Rattle.mc_igmp.specs.Addresses.{addresses_in}
use Rattle.mc_igmp.specs.Kind.{kind_of}
use Rattle.mc_igmp.specs.Record.{read_record}
use Rattle.mc_igmp.specs.Records.{records_in, after_records}
use Rattle.mc_igmp.proofs.record_bytes.older_record_bytes.Goals as goal

-- The eight bytes have no sources and no auxiliary data, so that they end with the group.
pub returns-clause-whole : goal.returns-clause-whole
unfolding after_records read_record
returns-clause-whole c = refl

-- Type 2 is Exclude, and the octets of the group are the group's.
pub returns-clause-record : goal.returns-clause-record
unfolding records_in read_record kind_of addresses_in
returns-clause-record c = rw (
  c.octets.ensures.octets,
  from_be_bytes-to_be_bytes_4 c.args.group
      c.octets.ensures.in_range,
) refl
