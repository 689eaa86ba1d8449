use Rattle.std.proofs.Common.{sym}
use Rattle.mc_cert.proofs.PieceLemmas.{router_name-from_router_no_of}
use Rattle.mc_cert.proofs.compact_names.find_router.Goals as goal

-- The router that is found by a name has this name.
pub returns-clause-text : goal.returns-clause-text
returns-clause-text c =
    router_name-from_router_no_of c.args.topology.now c.in_ok-router.router c.args.text.now
    c.in_ok-name.name.now
    c.in_ok-name.rest.now c.in_ok-name.ensures (sym c.in_ok-router.ensures.number)
