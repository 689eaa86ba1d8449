use Rattle.std.proofs.Common.{◌<◌, length, subst, sym}
use Rattle.mc_forward.specs.Domains.{DomainValue}
use Rattle.mc_run.proofs.ExplanationLemmas.{missed_lan-of_domain}
use Rattle.mc_run.proofs.audit.reasons.search_if_missed.Goals as goal

-- A LAN that a finished travel misses wants the packet, and only LANs of the domain do.
pub search-requires-clause-missed : goal.search-requires-clause-missed
search-requires-clause-missed c =
    let lan = c.in-Missed.lan in
    subst (λ (d : DomainValue). lan < length d.topology.lans) (sym c.requires.ended.domain)
    (missed_lan-of_domain c.args.audited.now.domain.now c.args.flow 255 lan c.args.ended.now
    c.requires.ended c.in-Missed.is)
