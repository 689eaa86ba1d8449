-- A copy's need is worked out from the entry of the LAN that it was taken from, which an earlier copy has
-- brought there.
use Rattle.std.proofs.Common.{◌≡◌, ◌<◌, length, ap, sym, subst, arith}
use Rattle.mc_theory.specs.Flights.{Copy}
use Rattle.mc_theory.specs.Certificates.{Entry}
use Rattle.mc_forward.specs.FlightsInDomain.{net_in}
use Rattle.mc_maker.proofs.FilledLemmas.{entries_so_far-none, entries_so_far-more}
use Rattle.mc_maker.proofs.FilledLemmas.{entries_so_far-all, need_by_held-at_most_255}
use Rattle.mc_maker.proofs.entries.put_entries.Goals as goal

-- Before the first copy no place is filled.
pub loop-copy-init : goal.loop-copy-init
loop-copy-init c = entries_so_far-none (net_in c.args.flow.now) c.args.by_lan.now c.args.copies.now
    c.requires.empty

-- All copies are done, so the places hold the entries of all.
pub returns : goal.returns
returns c = record {
  entries = (
      entries_so_far-all (net_in c.args.flow.now) c.loop-copy.by_lan c.args.by_lan.now c.args.copies.now
      c.loop-copy.copy-index c.loop-copy.invariant
      (omega (arith, c.loop-copy-test.false)));
}

-- The need that is worked out by the places is the need of the copy's entry, which is at most 255.
pub entry_of_copy-entry-requires : goal.entry_of_copy-entry-requires
entry_of_copy-entry-requires c = record {
  bounded = (
      need_by_held-at_most_255 (net_in c.args.flow.now) c.loop-copy.by_lan c.args.by_lan.now c.args.copies.now
      c.loop-copy.copy-index c.copy-item.result c.loop-copy.invariant
      c.loop-copy-test.true c.copy-item.is c.requires.needs);
}

-- The first entry for a LAN is stored at its number, and a later one changes nothing.
pub loop-copy-preserved : goal.loop-copy-preserved
loop-copy-preserved c =
    let cs = c.args.copies.now in
    let k = c.loop-copy.copy-index in
    let x = c.copy-item.result in
    let e = c.entry_of_copy-entry.result in
    let lan : c.entry.inside.lan ≡ e.lan = ap (λ (y : Entry). y.lan) c.entry.view_is in
    let put_ok = rw lan at c.put_first-free.ensures in
    let within : x.lan < length c.args.by_lan.now =
    subst (λ (y : Copy). y.lan < length c.args.by_lan.now) (sym c.copy-item.is)
    (c.requires.lans k x c.loop-copy-test.true) in
    entries_so_far-more (net_in c.args.flow.now) c.loop-copy.by_lan c.put_first-free.new.self
    c.args.by_lan.now
    cs k x e c.put_first-free.result c.loop-copy.invariant c.loop-copy-test.true
    c.copy-item.is within c.entry_of_copy-entry.ensures.value put_ok.free
    put_ok.put put_ok.earlier put_ok.kept
