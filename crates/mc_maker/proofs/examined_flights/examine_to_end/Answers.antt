-- A fault of either travel shows that the flow isn't right. If the travel at TTL 255 finds none, its copies
-- make a certificate, unless one of them comes to its LAN too late for the flow's TTL.
use Rattle.std.proofs.Common.{All, ℕ, ap, subst, sym, refl, arith}
use Rattle.mc_cert.specs.Certificate.{IsEntryOf}
use Rattle.std.specs.Prelude.{◌≢◌, IfNone, IfSome, Option, None, Some}
use Rattle.mc_theory.specs.Certificates.{IsAccepted, IsReordering}
use Rattle.mc_theory.specs.CertificateOfCopies.{entries_of}
use Rattle.mc_forward.specs.Domains.{net_of, ttl_of}
use Rattle.mc_forward.proofs.DomainLemmas.{ttl-at_most_255}
use Rattle.mc_replay.specs.FindingValues.{finding_value}
use Rattle.mc_maker.specs.Examined.{FindsFault, IsFirstPickTravel}
use Rattle.mc_maker.proofs.CleanLemmas.{are_clean_copies-of_run, is_clean_run-of_travel}
use Rattle.mc_maker.proofs.ExaminedLemmas.{is_right-accepted, finding_value-not_clean}
use Rattle.mc_maker.proofs.ExaminedLemmas.{ttl_of-listed_flow}
use Rattle.mc_maker.proofs.ExaminedLemmas.{flow_view-same_domain_and_flow}
use Rattle.mc_maker.proofs.ExaminedLemmas.{is_ttl_of_fault-255, is_ttl_of_fault-flow_ttl, not_right-by_fault}
use Rattle.mc_maker.proofs.examined_flights.examine_to_end.Goals as goal

-- What holds of a value that is none holds where no other case is left.
if_none-no_some : {X : Type 0} {P : Type 0} (o : Option X) → ((x : X) → o ≢ Some x) → IfNone o P → P
if_none-no_some None not p = p
if_none-no_some (Some x) not p = absurd (not x refl)

-- Entries that are accepted certify the flow: it is right.
pub returns-in-Some-clause-right : goal.returns-in-Some-clause-right
returns-in-Some-clause-right c = (
  (λ _. is_right-accepted c.args.domain.now c.args.flow c.in-Some.entries.items
      c.topology-topology.ensures.rules c.requires.known
      (subst (λ o. IfSome o (λ es. IsAccepted (net_of c.args.domain.now c.args.flow) es.items)) c.in-Some.is
      c.in_ok-entries.ensures.accepted)),
  (λ _. refl),
)

-- The travel at TTL 255 finds nothing, so its copies are clean: their entries keep the rules of a
-- certificate, and each LAN that wants the flow carried one.
pub certificate_of-requires : goal.certificate_of-requires
certificate_of-requires c = record {
  valid = (
      let d = c.args.domain.now in
      let view = flow_view-same_domain_and_flow d c.args.flow c.in_ok-greatest.greatest.flight
      c.flow_with_rows.result.now
      c.in_ok-greatest.ensures.domain c.in_ok-greatest.ensures.flow c.flow_with_rows.ensures in
      rw view (are_clean_copies-of_run d c.args.flow c.copies.result.now c.topology-topology.ensures.rules
      c.requires.known
      (is_clean_run-of_travel d c.args.flow c.in_ok-greatest.greatest.travel
      c.in_ok-greatest.greatest.flight.flight c.copies.result.now c.in_ok-greatest.ensures.run
      (ap finding_value c.in-Clean.is) c.copies.ensures.copies)));
}

-- The travel at TTL 255 finds a fault, and a right flow has none at any TTL.
pub returns-in_default-finding : goal.returns-in_default-finding
returns-in_default-finding c =
    let d = c.args.domain.now in
    let t = c.in_ok-greatest.greatest.travel in
    let ok = c.topology-topology.ensures.rules in
    let is : IsFirstPickTravel d c.args.flow 255 t =
    (c.in_ok-greatest.greatest.flight.flight, c.in_ok-greatest.ensures.run) in
    let fault : FindsFault t = finding_value-not_clean t.finding c.in_default-finding.not-Clean in
    record {
      accepted = tt;
      ascending = tt;
      listed = tt;
      writable = tt;
      made = tt;
      flights = record {
        domain = c.in_ok-greatest.ensures.domain;
        flow_of_flight = c.in_ok-greatest.ensures.flow;
        run = c.in_ok-greatest.ensures.run;
      };
      fault = fault;
      ttl = is_ttl_of_fault-255 d c.args.flow t is fault;
      right = (
        (λ e. absurd cc),
        (λ r. absurd (not_right-by_fault d c.args.flow 255 t ok
            (ttl-at_most_255 d c.args.flow ok c.requires.known)
            (omega arith) is fault r)),
      );
    }

-- The entries are accepted for the net of the flight's flow, which is this flow.
pub returns-in-Some-2-clause-accepted : goal.returns-in-Some-2-clause-accepted
returns-in-Some-2-clause-accepted c =
    let d = c.args.domain.now in
    let view = flow_view-same_domain_and_flow d c.args.flow c.in_ok-greatest.greatest.flight
    c.flow_with_rows.result.now
    c.in_ok-greatest.ensures.domain c.in_ok-greatest.ensures.flow c.flow_with_rows.ensures in
    let made = rw view at c.in_ok-entries-2.ensures in
    subst (λ o. IfSome o (λ es. IsAccepted (net_of d c.args.flow) es.items)) c.in-Some-2.is
    made.accepted

-- The copies are of the flow of this domain, so their entries name its LANs and routers.
pub returns-in-Some-2-clause-listed : goal.returns-in-Some-2-clause-listed
returns-in-Some-2-clause-listed c =
    let d = c.args.domain.now in
    let view = flow_view-same_domain_and_flow d c.args.flow c.in_ok-greatest.greatest.flight
    c.flow_with_rows.result.now
    c.in_ok-greatest.ensures.domain c.in_ok-greatest.ensures.flow c.flow_with_rows.ensures in
    let made = rw view at c.in_ok-entries-2.ensures in
    subst (λ o. IfSome o (λ es. All (IsEntryOf d.topology) es.items)) c.in-Some-2.is made.listed

-- The entries are those of the carried copies, in another order.
pub returns-in-Some-2-clause-made : goal.returns-in-Some-2-clause-made
returns-in-Some-2-clause-made c =
    let d = c.args.domain.now in
    let view = flow_view-same_domain_and_flow d c.args.flow c.in_ok-greatest.greatest.flight
    c.flow_with_rows.result.now
    c.in_ok-greatest.ensures.domain c.in_ok-greatest.ensures.flow c.flow_with_rows.ensures in
    let made = rw view at c.in_ok-entries-2.ensures in
    let cs = c.copies.result.now in
    record {
      copies = cs;
      run = is_clean_run-of_travel d c.args.flow c.in_ok-greatest.greatest.travel
          c.in_ok-greatest.greatest.flight.flight cs c.in_ok-greatest.ensures.run
          (ap finding_value c.in-Clean.is) c.copies.ensures.copies;
      entries = subst (λ o. IfSome o (λ es. IsReordering (entries_of (net_of d c.args.flow) cs) es.items))
          c.in-Some-2.is made.entries;
    }

-- Entries that are accepted certify the flow: it is right.
pub returns-in-Some-2-clause-right : goal.returns-in-Some-2-clause-right
returns-in-Some-2-clause-right c =
    let d = c.args.domain.now in (
      (λ _. is_right-accepted d c.args.flow c.in-Some-2.entries.items c.topology-topology.ensures.rules
          c.requires.known (returns-in-Some-2-clause-accepted c)),
      (λ _. refl),
    )

-- The travel at TTL 255 found nothing, so the fault is one at the flow's TTL.
pub returns-clause-ttl : goal.returns-clause-ttl
returns-clause-ttl c =
    let d = c.args.domain.now in
    let t = c.in_ok-greatest.greatest.travel in
    let is : IsFirstPickTravel d c.args.flow 255 t =
    (c.in_ok-greatest.greatest.flight.flight, c.in_ok-greatest.ensures.run) in
    is_ttl_of_fault-flow_ttl d c.args.flow t is (ap finding_value c.in-Clean.is)

-- The entries leave a LAN unserved, so the travel at the flow's TTL finds a fault, and the flow isn't
-- right.
pub returns-clause-right : goal.returns-clause-right
returns-clause-right c =
    let d = c.args.domain.now in
    let ok = c.topology-topology.ensures.rules in
    let t = c.in_ok-least.least.travel in
    let is : IsFirstPickTravel d c.args.flow (ttl_of d c.args.flow) t =
    subst (λ (n : ℕ). IsFirstPickTravel d c.args.flow n t)
    (sym (ttl_of-listed_flow d c.args.flow c.topology-topology.result.now c.flow.result.now
    c.topology-topology.ensures.topology c.flow.ensures.flow))
    (c.in_ok-least.least.flight.flight, c.in_ok-least.ensures.run) in
    let view = flow_view-same_domain_and_flow d c.args.flow c.in_ok-greatest.greatest.flight
    c.flow_with_rows.result.now
    c.in_ok-greatest.ensures.domain c.in_ok-greatest.ensures.flow c.flow_with_rows.ensures in
    let made = rw view at c.in_ok-entries-2.ensures in
    let fault : FindsFault t =
    if_none-no_some c.in_ok-entries-2.field-0 c.in_default-2.not-Some made.none t is in (
      (λ e. absurd cc),
      (λ r. absurd (not_right-by_fault d c.args.flow (ttl_of d c.args.flow) t ok (omega arith)
          (ttl-at_most_255 d c.args.flow ok c.requires.known) is fault r)),
    )
