-- The entries are those of the copies in another order, that of their LANs: what holds of each entry, or of
-- the whole tree whatever its order, holds of them too.
use Rattle.std.proofs.Common.{◌∙◌, List, subst}
use Rattle.mc_theory.specs.Certificates.{Entry, IsAccepted}
use Rattle.mc_forward.specs.FlightsInDomain.{net_in}
use Rattle.mc_maker.proofs.CleanLemmas.{all_of_topology-reordered, is_writable_tree-reordered}
use Rattle.mc_maker.proofs.CleanLemmas.{lans_below_count-reordered}
use Rattle.mc_maker.proofs.ExaminedLemmas.{finds_fault-held_entries, is_reordering-held_entries}
use Rattle.mc_maker.proofs.ExaminedLemmas.{ascending-entries_by_lan}
use Rattle.mc_maker.proofs.ExaminedLemmas.{is_accepted-held_entries}
use Rattle.mc_maker.proofs.examined_flights.certificate_of.Goals as goal

pub serves_all-requires : goal.serves_all-requires
serves_all-requires c = record {
  within = rw c.view.ensures (
      lans_below_count-reordered c.args.flow.now.domain c.args.flow.now.flow c.args.copies.now
      c.deref.result.now
      c.requires.valid (is_reordering-held_entries c.args.flow.now c.args.copies.now c.in_ok-by_lan.by_lan
      c.deref.result.now c.requires.valid c.in_ok-by_lan.ensures.ok
      (c.deref.ensures.value ∙ c.in_ok-entries.ensures)));
}

-- A packet with the flow's TTL doesn't come to a LAN whose entry needs more. So where such a LAN wants the
-- flow, the travel at the flow's TTL misses it.
pub returns-then-not-serves_all-clause-none : goal.returns-then-not-serves_all-clause-none
returns-then-not-serves_all-clause-none c =
    let tested = rw c.view.ensures at c.serves_all.ensures in
    finds_fault-held_entries c.args.flow.now c.args.copies.now c.in_ok-by_lan.by_lan c.deref.result.now
    tested.rules c.requires.valid c.in_ok-by_lan.ensures.ok
    (c.deref.ensures.value ∙ c.in_ok-entries.ensures)
    (tested.some c.if-not-serves_all.true)

-- The copies' entries keep all rules of a certificate but the last, that each LAN is served, which was
-- tested.
pub returns-clause-accepted : goal.returns-clause-accepted
returns-clause-accepted c =
    let tested = rw c.view.ensures at c.serves_all.ensures in
    subst (λ (es : List Entry). IsAccepted (net_in c.args.flow.now) es) c.deref.ensures.value
    (is_accepted-held_entries c.args.flow.now c.args.copies.now c.in_ok-by_lan.by_lan c.deref.result.now
    c.requires.valid c.in_ok-by_lan.ensures.ok (c.deref.ensures.value ∙ c.in_ok-entries.ensures)
    (tested.each c.if-not-serves_all.false))

-- Each entry is at the place with the number of its LAN, and the places are read in order.
pub returns-clause-ascending : goal.returns-clause-ascending
returns-clause-ascending c =
    ascending-entries_by_lan c.args.flow.now c.args.copies.now c.in_ok-by_lan.by_lan
    c.in_ok-entries.entries.items c.in_ok-by_lan.ensures.ok c.in_ok-entries.ensures

-- The copies are on different LANs, so each entry has a place of its own, and none is lost.
pub returns-clause-entries : goal.returns-clause-entries
returns-clause-entries c =
    is_reordering-held_entries c.args.flow.now c.args.copies.now c.in_ok-by_lan.by_lan
    c.in_ok-entries.entries.items c.requires.valid c.in_ok-by_lan.ensures.ok c.in_ok-entries.ensures

pub returns-clause-listed : goal.returns-clause-listed
returns-clause-listed c =
    all_of_topology-reordered c.args.flow.now.domain c.args.flow.now.flow c.args.copies.now
    c.in_ok-entries.entries.items c.requires.valid (returns-clause-entries c)

pub returns-clause-writable : goal.returns-clause-writable
returns-clause-writable c =
    let tested = rw c.view.ensures at c.serves_all.ensures in
    is_writable_tree-reordered c.args.flow.now.domain c.args.flow.now.flow c.args.copies.now
    c.in_ok-entries.entries.items tested.rules.domain c.requires.valid
    (returns-clause-entries c)
