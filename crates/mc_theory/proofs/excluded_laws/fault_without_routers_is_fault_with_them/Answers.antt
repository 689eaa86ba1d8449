-- By the corresponding run of the whole net.
use Rattle.mc_theory.proofs.ExcludedRouters.{not_right-from_unclean_run, not_right-from_unclean_travel}
use Rattle.mc_theory.proofs.excluded_laws.fault_without_routers_is_fault_with_them.Goals as goal

pub returns-clause-runs : goal.returns-clause-runs
returns-clause-runs c = λ out part whole without t ps low high range.
    not_right-from_unclean_run out part whole t ps without low high range

pub returns-clause-travels : goal.returns-clause-travels
returns-clause-travels c = λ out part whole count t x without low high fault numbers last is travel.
    not_right-from_unclean_travel out part whole count t numbers last is x without low high travel fault
