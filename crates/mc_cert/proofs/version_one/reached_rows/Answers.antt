use Rattle.mc_cert.specs.VersionOne.{reached_rows}
use Rattle.mc_cert.proofs.version_one.reached_rows.Goals as goal

-- Each step ended as the definition's, so that what is left of it is the last test.
pub returns-clause-rows : goal.returns-clause-rows
unfolding reached_rows
returns-clause-rows c = rw (
  c.in_ok-object.ensures,
  c.in_ok-group.ensures,
  c.in_ok-rows.ensures,
  c.in_ok-source.ensures,
  ← c.if-not-are_texts_of_flow.ensures.value,
) c.at_most.ensures.rows
