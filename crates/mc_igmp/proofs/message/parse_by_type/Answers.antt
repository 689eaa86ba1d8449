use Rattle.std.proofs.Common.{get_or, sym, arith}
use Rattle.mc_igmp.proofs.MessageLemmas.{read_by_type-version_3_report, read_by_type-older_report}
use Rattle.mc_igmp.proofs.MessageLemmas.{read_by_type-other_type}
use Rattle.mc_igmp.proofs.message.parse_by_type.Goals as goal

-- A Version 3 report has the records that its count says, or the fault of the first that doesn't end.
pub returns-in-34 : goal.returns-in-34
returns-in-34 c = record {
  value = (
      read_by_type-version_3_report c.args.bytes.now c.read_u16-count.result c.read.result c.map.result
      c.map_err.result
      c.in-34.is c.read_u16-count.ensures c.read.ensures
      (c.map.ensures.cases, c.map_err.ensures.cases));
}

-- An older report is one record for the group in bytes 4 to 7.
pub returns-in-18 : goal.returns-in-18
returns-in-18 c = record {
  value = (rw (c.of_older_report.ensures, c.group_of.ensures.value)
      (sym (read_by_type-older_report c.args.bytes.now (get_or c.args.bytes.now 0 0) assumption)));
}

-- Other types are no reports.
pub returns-in_default : goal.returns-in_default
returns-in_default c =
    record { value = sym (read_by_type-other_type c.args.bytes.now _ (λ is. grind (arith, is))) }
