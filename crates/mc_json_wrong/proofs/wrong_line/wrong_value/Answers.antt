use Rattle.std.proofs.Common.{refl}
use Rattle.mc_json_wrong.proofs.wrong_line.wrong_value.Goals as goal

-- No events are asked for, and the object has the members of a finding without them.
pub returns-in_ok-object-in-None : goal.returns-in_ok-object-in-None
returns-in_ok-object-in-None c = record {
  value = rw c.in-None.is
      (rw (
        c.topology-topology.ensures.topology,
        c.flow.ensures,
        c.in_ok-behind.ensures,
        c.in_ok-why.ensures,
        c.in_ok-wanted.ensures,
        ← c.requires.number,
      ) at (c.in_ok-object-in-None.ensures _ (c.value-fields.ensures _ _ (c.value-2.ensures _ _
      (c.value.ensures _ _ (c.list.ensures _ _ c.wrong_fields.ensures c.lan_names.ensures)
      c.optional_finding_value-at_flow_ttl.ensures) refl)
      c.finding_value.ensures)));
}

-- The events are added as one more member.
pub returns-in_ok-object-in-Some : goal.returns-in_ok-object-in-Some
returns-in_ok-object-in-Some c = record {
  value = rw c.in-Some.is
      (rw (
        c.topology-topology.ensures.topology,
        c.flow.ensures,
        c.in_ok-behind.ensures,
        c.in_ok-why.ensures,
        c.in_ok-wanted.ensures,
        ← c.requires.number,
      ) at (c.in_ok-object-in-Some.ensures _
      (c.list-in-Some.ensures _ _ (c.value-fields.ensures _ _ (c.value-2.ensures _ _
      (c.value.ensures _ _ (c.list.ensures _ _ c.wrong_fields.ensures c.lan_names.ensures)
      c.optional_finding_value-at_flow_ttl.ensures) refl)
      c.finding_value.ensures) c.event_values-events.ensures)));
}
