use Rattle.std.proofs.Common.{◌-◌, ◌*◌, ap, sym, ◌∙◌, Some, arith}
use Rattle.mc_files.proofs.SlotLemmas.{router_slot, slots-reports_slot, slots-certificate_slot}
use Rattle.mc_files.proofs.slot_order.slot_at.Goals as goal

-- Behind the topology's slot are those of the routers, two of each.
pub returns-then-number-tables : goal.returns-then-number-tables
returns-then-number-tables c =
    sym (router_slot c.args.certified c.args.topology.now c.args.number (c.args.number - 1)
    c.router_slot.result (omega (arith, c.if-number-eq0.false)) c.router_slot.ensures.item)

-- Behind those of the routers are those of the LANs.
pub returns-then-lan-lans : goal.returns-then-lan-lans
returns-then-lan-lans c =
    ap Some c.reports.ensures.value
    ∙ sym (slots-reports_slot c.args.certified c.args.topology.now c.args.number
    (c.args.number - 1 - 2 * c.routers-tables.result) c.lan_name.result.now
    (omega (arith, c.routers-tables.ensures.count, c.if-number-tables.false))
    c.lan_name.ensures.name)

-- The number is below the count, so that it can only be that of the certificate's slot, the last.
pub returns : goal.returns
returns c =
    ap Some c.certificate.ensures
    ∙ sym (slots-certificate_slot c.args.certified c.args.topology.now c.args.number
    (omega (
      arith,
      c.routers-tables.ensures.count,
      c.lans.ensures.count,
      c.if-number-tables.false,
      c.if-lan-lans.false,
    ))
    (omega (arith, c.slot_count.ensures.count, c.if-number-slot_count.false)))
