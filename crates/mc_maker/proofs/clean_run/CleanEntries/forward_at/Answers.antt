-- The interface that sent the copy doesn't hear it.
use Rattle.std.proofs.Common.{◌≡◌, ◌∙◌, ap, sym, false}
use Rattle.mc_theory.specs.Flights.{Copy, is_sender}
use Rattle.mc_forward.specs.FlightsInDomain.{net_in}
use Rattle.mc_maker.specs.CleanRuns.{copies_so_far, copy_of}
use Rattle.mc_maker.proofs.CleanRunLemmas.{goes_past-hearer}
use Rattle.mc_maker.proofs.clean_run.CleanEntries.forward_at.Goals as goal

pub returns-clause-run : goal.returns-clause-run
returns-clause-run c clean =
    let net = net_in c.args.view.now in
    let copy = copy_of c.args.base.now in
    let other : is_sender copy.sender c.args.interface ≡ false =
    ap (λ (x : Copy). is_sender x.sender c.args.interface) (sym c.copy_of.ensures)
    ∙ sym c.is_sent_by.ensures ∙ c.if-is_sent_by.false in
    goes_past-hearer net copy c.args.interface (copies_so_far c.args.self.now)
    (copies_so_far c.forward.new.self) other c.len-count.ensures.rules (c.in_ok-forward.ensures.run clean)
