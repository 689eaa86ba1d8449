-- The flow is certified exactly if it is right, and in a right flow no travel finds a fault.
use Rattle.std.proofs.Common.{ap, sym, ◌∙◌, refl, arith}
use Rattle.mc_forward.specs.Domains.{ttl_of}
use Rattle.mc_forward.proofs.DomainLemmas.{ttl-at_most_255}
use Rattle.mc_maker.specs.Examined.{is_certified}
use Rattle.mc_maker.proofs.ExaminedLemmas.{is_right-both_travels_clean, finds_nothing-right_flow}
use Rattle.mc_maker.proofs.examination.make.Goals as goal

-- The flow is right, so neither travel finds a fault, and there are entries.
pub returns-in-Certified-clause-travels : goal.returns-in-Certified-clause-travels
returns-in-Certified-clause-travels c = λ first second a b.
    (let d = c.args.domain.now in
    let ok = c.topology-rules.ensures.rules in
    let high = ttl-at_most_255 d c.args.flow ok c.requires.known in
    let is_right = c.in_ok-entries.ensures.right.0 (ap is_certified c.in-Certified.is) in (
      (λ _. (
        finds_nothing-right_flow d c.args.flow 255 first ok high (omega arith) is_right a,
        finds_nothing-right_flow d c.args.flow (ttl_of d c.args.flow) second ok
            (omega arith) high is_right b,
      )),
      (λ _. refl),
    ))

-- There are no entries, so the flow isn't right. If both travels found nothing, it would be.
pub returns-clause-travels : goal.returns-clause-travels
returns-clause-travels c = λ first second a b.
    (let d = c.args.domain.now in
    let ok = c.topology-rules.ensures.rules in (
      (λ e. absurd cc),
      (λ both. sym (ap is_certified c.in-Found.is)
          ∙ c.in_ok-entries.ensures.right.1 (is_right-both_travels_clean d c.args.flow first second
          ok c.requires.known a b
          both.0 both.1)),
    ))
