use Rattle.std.proofs.Common.{arith, sym, ◌∙◌}
use Rattle.mc_topology.proofs.NameLemmas.{device_length-at_most_15}
use Rattle.mc_topology.proofs.read.interfaces.interface_of_values.Goals as goal

-- A device's name has at most 15 bytes, so that the key has room for it.
pub returns-in_default-new-clause-interface : goal.returns-in_default-new-clause-interface
returns-in_default-new-clause-interface c =
    let device = c.args.device.now in
    let long = rw c.as_bytes.ensures.value at c.in_default-new.ensures in
    let short = device_length-at_most_15 device (sym c.is_device.ensures ∙ c.if-not-is_device.false) in
    absurd (omega (arith, long, short))
