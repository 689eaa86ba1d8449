use Rattle.std.proofs.Common.{◌≤◌, arith}
use Rattle.mc_replay.proofs.ShownLemmas.{end_shows_finding, walks_end_at_source, shows_wrong_flow}
use Rattle.mc_replay.proofs.travel.replay.Goals as goal

-- What a finding means is a theorem on every flight that has it; the travel ends with such a one.
pub returns-clause-shown : goal.returns-clause-shown
returns-clause-shown g c =
    end_shows_finding c.args.domain.now c.args.flow c.args.ttl (g.P.Picker.choices c.args.picker.now)
    c.in_ok-ended.ended.travel c.in_ok-ended.ended.flight.flight
    c.topology-rules.ensures.rules c.in_ok-ended.ensures.run

-- A copy was taken from a LAN that had carried one before it, so the walk back goes to ever earlier copies,
-- and ends at the source's.
pub returns-clause-walks : goal.returns-clause-walks
returns-clause-walks g c =
    walks_end_at_source c.args.domain.now c.args.flow c.args.ttl (g.P.Picker.choices c.args.picker.now)
    c.in_ok-ended.ended.travel c.in_ok-ended.ended.flight.flight
    c.in_ok-ended.ensures.run

-- In a right flow no packet with at least the flow's TTL meets a fault.
pub returns-clause-wrong : goal.returns-clause-wrong
returns-clause-wrong g c =
    let high : c.args.ttl ≤ 255 = omega (arith, c.ranges.ttl.fits) in
    shows_wrong_flow c.args.domain.now c.args.flow c.args.ttl (g.P.Picker.choices c.args.picker.now)
    c.in_ok-ended.ended.travel c.in_ok-ended.ended.flight.flight
    c.topology-rules.ensures.rules high c.in_ok-ended.ensures.run
