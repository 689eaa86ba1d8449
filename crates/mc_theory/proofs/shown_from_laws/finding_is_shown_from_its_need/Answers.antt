-- Each path of the travel's copies carries a copy in each complete run, by the same last sender.
use Rattle.mc_theory.proofs.ShownFrom.{each_complete_run_has_fault, has_need-travel}
use Rattle.mc_theory.proofs.shown_from_laws.finding_is_shown_from_its_need.Goals as goal

pub returns-clause-shown : goal.returns-clause-shown
returns-clause-shown c = λ n count s t k x net numbers last is travel r le.
    each_complete_run_has_fault n count s t k numbers last is x x net travel r le

pub returns-clause-exists : goal.returns-clause-exists
returns-clause-exists c = λ n count s x net wants low fault numbers last is travel.
    has_need-travel n count s numbers last is x net wants low travel fault
