use Rattle.std.proofs.Common.{arith}
use Rattle.mc_filter.proofs.FilterLemmas.{Decides-FilterAdmits}
use Rattle.mc_filter.proofs.filter.Filter.admits.Goals as goal

-- INCLUDE admits what is in its list, which is what the test computes.
pub returns-in-Include : goal.returns-in-Include
returns-in-Include c =
    grind (arith, c.self.view_is, Decides-FilterAdmits c.args.self.now c.args.source)

-- EXCLUDE admits what isn't in its list, which is what the test computes.
pub returns-in-Exclude : goal.returns-in-Exclude
returns-in-Exclude c =
    grind (arith, c.self.view_is, Decides-FilterAdmits c.args.self.now c.args.source)
