use Rattle.std.proofs.Common.{[], ◌∷◌, ap₂, ◌∙◌}
use Rattle.mc_asked.specs.Forwarding.{greater, row_of}
use Rattle.mc_asked.proofs.ForwardingLemmas.{router_state-append}
use Rattle.mc_asked.proofs.forwarding.state_with_row.Goals as goal

-- What rows have for a want is the greater one of what two parts of them have, and this row alone is the
-- second part.
pub returns-clause-rows : goal.returns-clause-rows
returns-clause-rows c = λ rows is.
    c.greater.ensures ∙ ap₂ greater is c.state_of_row.ensures
    ∙ router_state-append c.args.vifs.now c.args.unadmitted.now c.args.want.now rows
    (row_of c.args.key.now c.args.entry.now ∷ [])
