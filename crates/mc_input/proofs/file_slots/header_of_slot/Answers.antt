use Rattle.mc_input.specs.ExcludedRouters.{names_of}
use Rattle.mc_input.proofs.HeaderLemmas.{sees-other, sees-table}
use Rattle.mc_input.proofs.file_slots.header_of_slot.Goals as goal

-- The slot is one of a router's tables, whose file is seen as the header alone if the router is
-- excluded.
pub returns-in-Some-clause-header : goal.returns-in-Some-clause-header
returns-in-Some-clause-header c = λ files place at.
    sees-table (names_of c.args.without.now) files c.args.slot.now c.in-Some.vifs c.in-Some.router.now _
    c.in-Some.ensures.table c.header_of_excluded.ensures.header

-- The slot is of no router's table, so that no exclusion changes its file.
pub returns-in-None-clause-header : goal.returns-in-None-clause-header
returns-in-None-clause-header c = λ files place at.
    sees-other (names_of c.args.without.now) files place.topology place.number c.args.slot.now at
    (c.router_table.ensures.none c.in-None.is)
