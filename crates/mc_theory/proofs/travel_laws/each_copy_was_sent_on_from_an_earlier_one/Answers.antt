-- By induction over the picks.
use Rattle.mc_theory.specs.Flights.{start}
use Rattle.mc_theory.proofs.CopyOrigins.{is_in_order-of_run, all_heard-start, in_sending_order-start}
use Rattle.mc_theory.proofs.travel_laws.each_copy_was_sent_on_from_an_earlier_one.Goals as goal

pub returns : goal.returns
returns c = λ n t ps. is_in_order-of_run n ps (start n t) (all_heard-start n t) (in_sending_order-start n t)
