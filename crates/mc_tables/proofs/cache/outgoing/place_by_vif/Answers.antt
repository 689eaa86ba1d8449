-- Without a greater vif the place is the end.
use Rattle.std.proofs.Common.{◌∙◌, ap, length}
use Rattle.std.specs.Prelude.{unwrap_or}
use Rattle.mc_tables.proofs.ColonLemmas.{unwrap_or-position}
use Rattle.mc_tables.proofs.cache.outgoing.place_by_vif.Goals as goal

pub returns-clause-place : goal.returns-clause-place
returns-clause-place c =
    c.unwrap_or.ensures ∙ ap (λ o. unwrap_or o (length c.args.oifs.now)) c.first_above.ensures
    ∙ unwrap_or-position _ c.args.oifs.now
