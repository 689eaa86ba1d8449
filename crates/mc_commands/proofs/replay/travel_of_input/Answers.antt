use Rattle.mc_commands.specs.ReplayRun.{IsTextOfTravel}
use Rattle.std.specs.String.{string_bytes}
use Rattle.mc_commands.proofs.ReplayLemmas.{is_no_device_fault-no_travel, is_replay_refused-no_travel}
use Rattle.mc_input.specs.Meaning.{MeansUncertifiedDomain}
use Rattle.mc_commands.proofs.RunInputLemmas.{of_domain-ok_result}
use Rattle.mc_commands.proofs.RunLemmas.{is_write_fault-other_fault, counted_reads-no_device_fault}
use Rattle.std.proofs.Common.{◌∙◌}
use Rattle.std.proofs.lemmas.Result.{err_from_is_err_and}
use Rattle.mc_commands.proofs.FaultLemmas.{is_fault_of_replay-make}
use Rattle.mc_commands.proofs.replay.travel_of_input.Goals as goal

-- The packet travels in the domain that the bundle means.
pub returns-clause-text : goal.returns-clause-text
returns-clause-text g c =
    of_domain-ok_result MeansUncertifiedDomain (λ run_output d. IsTextOfTravel d c.args.flow
    c.args.ttl _ run_output.yes
    (string_bytes run_output.text)) (g.R.Input.remaining c.args.input.now) c.in_ok-domain.domain
    c.travel_in_domain.result c.in_ok-domain.ensures.means c.travel_in_domain.ensures.text

-- Without a travel the flow isn't listed in that domain, or memory ran out.
pub returns-clause-refused : goal.returns-clause-refused
returns-clause-refused g c =
    is_replay_refused-no_travel (g.R.Input.remaining c.args.input.now) c.args.flow c.in_ok-domain.domain
    c.travel_in_domain.result c.in_ok-domain.ensures.means c.travel_in_domain.ensures.none

-- Neither of these is a device's fault,
pub returns-clause-no_write : goal.returns-clause-no_write
returns-clause-no_write g c =
    is_write_fault-other_fault c.travel_in_domain.result
    (is_no_device_fault-no_travel c.in_ok-domain.domain c.args.flow
    c.travel_in_domain.result c.travel_in_domain.ensures.none)

-- so that the failures are those of reading.
pub returns-clause-failures : goal.returns-clause-failures
returns-clause-failures g c =
    c.in_ok-domain.ensures.failures ∙ counted_reads-no_device_fault c.travel_in_domain.result _
    (is_no_device_fault-no_travel
    c.in_ok-domain.domain c.args.flow c.travel_in_domain.result c.travel_in_domain.ensures.none)

-- A fault of `make`'s input is one of `replay`, too.
pub returns-in_err-domain-clause-faults : goal.returns-in_err-domain-clause-faults
returns-in_err-domain-clause-faults g c =
    let p = err_from_is_err_and c.from_residual.result c.from_residual.ensures.1 in
    rw (p.1, p.2) (is_fault_of_replay-make c.args.flow c.in_err-domain.field-0.0
    c.in_err-domain.ensures.faults)
