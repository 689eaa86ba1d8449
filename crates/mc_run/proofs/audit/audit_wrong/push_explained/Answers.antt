use Rattle.mc_run.proofs.audit.audit_wrong.push_explained.Goals as goal

-- With the option JSON the lines are the object, as in the definition,
pub returns-then-options : goal.returns-then-options
returns-then-options c = record { added = rw c.if-options.true c.push_wrong_object.ensures.added }

-- and else they are the text.
pub returns-else-options : goal.returns-else-options
returns-else-options c = record { added = rw c.if-options.false c.push_wrong_lines.ensures.added }
