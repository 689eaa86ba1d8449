-- The entries are those of the copies of a clean run at TTL 255, so they keep the rules of a certificate; that
-- they serve each LAN that wants the flow was tested.
use Rattle.std.proofs.Common.{◌≡◌, List, true, All, subst}
use Rattle.mc_theory.specs.Certificates.{Entry}
use Rattle.mc_forward.specs.Domains.{net_of}
use Rattle.mc_maker.specs.EntriesByLan.{serves}
use Rattle.mc_maker.proofs.ExaminedLemmas.{entries-of_clean_run, found-of_flow, lans_below_count-of_clean_run}
use Rattle.mc_maker.proofs.examined_flights.certify.Goals as goal

pub serves_all-requires : goal.serves_all-requires
serves_all-requires c =
    let made = found-of_flow (λ v. v.items) c.args.domain.now c.args.flow c.new-view.result
    c.in_ok-entries.field-0 c.in-Some.entries c.new-view.ensures.flow c.in_ok-entries.ensures c.in-Some.is in
    record {
      within = rw (c.new-view.ensures.flow, c.deref.ensures.value) (lans_below_count-of_clean_run
          c.args.domain.now c.args.flow c.in-Some.entries.items c.topology-rules.ensures.rules
          c.requires.known made);
    }

pub returns : goal.returns
returns c =
    let net = net_of c.args.domain.now c.args.flow in
    let tested = rw c.new-view.ensures.flow at c.serves_all.ensures in
    let served = subst (λ (es : List Entry). All (λ (e : Entry). serves net e ≡ true) es) c.deref.ensures.value
    (tested.each c.if-not-serves_all.false) in
    let all = entries-of_clean_run c.args.domain.now c.args.flow c.in-Some.entries.items
    c.topology-rules.ensures.rules c.requires.known (found-of_flow (λ v. v.items) c.args.domain.now c.args.flow
    c.new-view.result c.in_ok-entries.field-0 c.in-Some.entries c.new-view.ensures.flow
    c.in_ok-entries.ensures c.in-Some.is) in
    record {
      accepted = all.0 served;
      ascending = all.1;
      listed = all.2;
      writable = all.3;
      made = all.4;
    }
