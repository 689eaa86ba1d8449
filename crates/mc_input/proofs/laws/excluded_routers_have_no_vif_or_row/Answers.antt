use Rattle.mc_input.proofs.HasNoVifOrRowLemmas.{HasNoVifOrRow-excluded}
use Rattle.mc_input.proofs.laws.excluded_routers_have_no_vif_or_row.Goals as goal

-- An excluded router's files are their headers alone, which have no vif and no row.
pub returns : goal.returns
returns c = λ names files d router means has.
    HasNoVifOrRow-excluded names files d router has.0 means has.1 has.2
