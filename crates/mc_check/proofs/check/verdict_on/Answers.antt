-- A list against which there is no reason is accepted, and the theory of certificates promises the rest of
-- an accepted list.
use Rattle.mc_check.proofs.CheckAllLemmas.{is_correct_verdict-verdict_by}
use Rattle.mc_check.proofs.VerdictLemmas.{is_first_reason-of_domain, entry_count_fits}
use Rattle.mc_check.proofs.check.verdict_on.Goals as goal

-- A list without a reason against it names each LAN at most once, so it has no more entries than the domain
-- has LANs: the number fits in 32 bits.
pub verdict_by-requires : goal.verdict_by-requires
verdict_by-requires c = record {
  bounded = (
      let d = c.args.domain.now in
      let ok = c.topology-rules.ensures.rules in
      entry_count_fits d c.args.flow c.args.entries.now c.in_ok-reason.reason ok
      (is_first_reason-of_domain d c.args.flow c.args.entries.now c.in_ok-reason.reason ok c.requires.flow
      c.in_ok-reason.ensures.ok) c.requires.lans);
}

-- The verdict is made from the first reason against the list.
pub returns : goal.returns
returns c = record {
  ok = (
      is_correct_verdict-verdict_by c.args.domain.now c.args.flow c.args.entries.now
      c.in_ok-reason.reason c.verdict_by.result
      c.topology-rules.ensures.rules c.requires.flow c.in_ok-reason.ensures.ok c.verdict_by.ensures.value);
}
