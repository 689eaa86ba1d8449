use Rattle.std.proofs.Common.{arith}
use Rattle.std.proofs.lemmas.Result.{on_ok_weaker}
use Rattle.mc_filter.proofs.FilterLemmas.{Decides-FilterAdmits, Decides-Admits}
use Rattle.mc_filter.proofs.filter.Filter.merge.Goals as goal

-- What `merge_list` says by tests that compute is said here by relations: each test decides its
-- relation.
pub returns-clause-admits : goal.returns-clause-admits
returns-clause-admits c =
    on_ok_weaker c.merge_list.result
    (λ merged s.
    let new = Decides-FilterAdmits c.merge_list.new.self s in
    let old = Decides-FilterAdmits c.args.self.now s in
    grind (arith, new, old, Decides-Admits c.args.group_record.now s, merged s))
    c.merge_list.ensures.admits
