-- One outgoing vif more.
use Rattle.std.proofs.Common.{◌≡◌, ◌∙◌, [], ap, arith, drop, length}
use Rattle.std.proofs.lemmas.List.{drop_more}
use Rattle.std.proofs.Math.Seq.{drop-length}
use Rattle.mc_forward.specs.FlightsInDomain.{net_in}
use Rattle.mc_maker.specs.CleanRuns.{copies_so_far}
use Rattle.mc_maker.proofs.CleanRunLemmas.{grows-then, leads-here, leads-then}
use Rattle.mc_maker.proofs.clean_run.CleanEntries.send_all.Goals as goal

pub loop-oif-preserved : goal.loop-oif-preserved
loop-oif-preserved c =
    let net = net_in c.args.view.now in
    let sent = c.in_ok-send.ensures.run c.if-not-branch.false in
    let grown = c.in_ok-send.ensures.entries c.if-not-branch.false in
    record {
      rest = λ new later. c.loop-oif.invariant.rest new
          (rw (drop_more c.args.oifs.now c.loop-oif.oif-index (record { vif = 0; threshold = 0 })
          c.loop-oif-test.true)
          (leads-then net _ _ (copies_so_far c.loop-oif.self) (copies_so_far c.send.new.self) new sent later));
      lans = sent.lans ∙ c.loop-oif.invariant.lans;
      first = grown.kept c.args.base.now.lan c.args.base.now c.loop-oif.invariant.first;
      grows = grows-then net c.args.self.now c.loop-oif.self c.send.new.self c.loop-oif.invariant.grows grown;
    }

pub returns-clause-run : goal.returns-clause-run
returns-clause-run c clean =
    let last : c.loop-oif.oif-index ≡ length c.args.oifs.now =
    omega (arith, c.loop-oif-test.false, c.loop-oif.auto.oif-index-end) in
    let none : drop c.loop-oif.oif-index c.args.oifs.now ≡ [] =
    ap (λ k. drop k c.args.oifs.now) last ∙ drop-length c.args.oifs.now in
    c.loop-oif.invariant.rest (copies_so_far c.loop-oif.self)
    (rw none (leads-here (net_in c.args.view.now) (copies_so_far c.loop-oif.self)))
