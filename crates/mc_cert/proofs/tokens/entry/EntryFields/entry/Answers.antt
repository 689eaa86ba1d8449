use Rattle.mc_cert.proofs.FieldLemmas.{DenotesEntry-from_found}
use Rattle.mc_cert.proofs.tokens.entry.EntryFields.entry.Goals as goal

-- The three required keys were read, and the forwarder's two both or neither: those are the rules of an
-- entry.
pub returns : goal.returns
returns c = λ t ms held.
    let f = c.args.self in
    DenotesEntry-from_found t f.lan f.need f.rank c.in_ok-lan.lan c.in_ok-need.need c.in_ok-rank.rank f.router
    f.vif c.in_ok-forwarder.forwarder ms c.in_ok-lan.was c.in_ok-need.was c.in_ok-rank.was
    c.in_ok-forwarder.ensures held
