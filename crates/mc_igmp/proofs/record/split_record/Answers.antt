use Rattle.std.proofs.Common.{◌+◌, ◌*◌, arith, ◌∙◌, refl}
use Rattle.mc_igmp.proofs.RecordsLemmas.{big_number-at, read_record-none, read_record-from_parts}
use Rattle.mc_igmp.proofs.record.split_record.Goals as goal

-- A record has eight bytes at least.
pub returns-then-bytes-lt-HEADER_LEN : goal.returns-then-bytes-lt-HEADER_LEN
returns-then-bytes-lt-HEADER_LEN c = read_record-none c.args.bytes.now (omega arith)

-- The sources and the auxiliary data, as its header counts them, don't end within the bytes.
pub returns-then-bytes-end : goal.returns-then-bytes-end
returns-then-bytes-end c =
    let count = c.read_u16.ensures ∙ big_number-at c.args.bytes.now 2 in
    read_record-none c.args.bytes.now (omega arith)

-- The header, as many sources as it counts, and the auxiliary data after them are the record.
pub returns : goal.returns
returns c =
    let count = c.read_u16.ensures ∙ big_number-at c.args.bytes.now 2 in
    let sources_end = 8 + 4 * c.from.result in
    read_record-from_parts c.args.bytes.now sources_end (sources_end + 4 * c.from-2.result) _
    (omega arith) (omega arith) (omega arith) c.from_type.ensures c.group_of.ensures.value refl
