use Rattle.std.proofs.Common.{sym}
use Rattle.mc_cert.proofs.PieceLemmas.{lan_name-from_index_of}
use Rattle.mc_cert.proofs.compact_names.find_lan.Goals as goal

-- The LAN that is found by a name has this name.
pub returns-clause-text : goal.returns-clause-text
returns-clause-text c =
    lan_name-from_index_of c.args.topology.now c.in_ok-lan.lan c.args.text.now c.in_ok-name.name.now
    c.in_ok-name.rest.now c.in_ok-name.ensures (sym c.in_ok-lan.ensures.number)
