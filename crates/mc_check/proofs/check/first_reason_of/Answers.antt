-- No entry is referred to yet.
use Rattle.std.proofs.Common.{Bor}
use Rattle.mc_theory.specs.Certificates.{Entry}
use Rattle.mc_forward.proofs.PerLanLemmas.{holds_first-start}
use Rattle.mc_check.proofs.FirstEntriesLemmas.{none-copied}
use Rattle.mc_check.proofs.check.first_reason_of.Goals as goal

pub put_first_entries-requires-clause-empty : goal.put_first_entries-requires-clause-empty
put_first_entries-requires-clause-empty c = λ number.
    none-copied c.in_ok-firsts.firsts number
    (holds_first-start (λ (entry : Bor Entry). entry.now.lan) c.in_ok-firsts.firsts c.lans.result
    c.in_ok-firsts.ensures number)
