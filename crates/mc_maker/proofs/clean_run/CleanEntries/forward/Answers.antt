-- A row has one pair for each vif.
use Rattle.std.proofs.Common.{◌≡◌, All, List, ap, subst, sym}
use Rattle.mc_tables.specs.CacheTable.{EntryValue}
use Rattle.mc_tables.specs.declared.cache.entry.Oif.{Oif}
use Rattle.mc_theory.specs.CertificateOfCopies.{row_pairs, threshold_of}
use Rattle.mc_forward.specs.FlightsInDomain.{net_in}
use Rattle.mc_forward.proofs.DomainLemmas.{is_net-net_of}
use Rattle.mc_maker.proofs.CleanRunLemmas.{thresholds-of_row}
use Rattle.mc_maker.proofs.clean_run.CleanEntries.forward.Goals as goal

pub send_all-requires-clause-thresholds : goal.send_all-requires-clause-thresholds
send_all-requires-clause-thresholds c =
    let view = c.args.view.now in
    let net = net_in view in
    let entry = c.in-Exact.entry in
    subst (λ (os : List Oif). All (λ (o : Oif). threshold_of o.vif (row_pairs (net.row c.args.router))
    ≡ o.threshold) os) (sym (ap (λ (e : EntryValue). e.oifs) c.entry.view_is))
    (thresholds-of_row net c.args.router entry.iif entry.oifs
    (is_net-net_of view.domain view.flow c.topology-rules.ensures.rules.domain) (sym c.in-Exact.ensures.row))
