-- The entry is that of the copy that is sent on.
use Rattle.std.proofs.Common.{◌≡◌, ◌≤◌, ap, arith}
use Rattle.mc_theory.specs.Certificates.{Entry}
use Rattle.mc_theory.specs.CertificateOfCopies.{need_after}
use Rattle.mc_forward.specs.FlightsInDomain.{net_in}
use Rattle.mc_maker.proofs.CleanRunLemmas.{grows-one_more, need_after-taken}
use Rattle.mc_maker.proofs.clean_run.CleanEntries.send.Goals as goal

pub returns-in_ok-put-in-Some-clause-entries : goal.returns-in_ok-put-in-Some-clause-entries
returns-in_ok-put-in-Some-clause-entries c first =
    let net = net_in c.args.view.now in
    let base = c.args.base.now in
    let far = c.args.self.now in
    let x : Entry = c.entry_over.result in
    let is = c.entry_over.ensures.value in
    let rank : x.rank ≤ 255 = omega (
      arith,
      ap (λ (e : Entry). e.rank) is,
      c.if-base-oif.false,
      ap (λ (e : Entry). e.rank) c.base.view_is,
    ) in
    let need : x.need ≡ need_after net far.entries x.forwarder = rw is (need_after-taken net far.entries base
    c.args.router c.args.oif.now.vif c.args.oif.now.threshold c.requires.taken c.requires.first
    c.requires.threshold) in
    rw (c.in_ok-put-in-Some.ensures first) (grows-one_more net far x rank need)
