use Rattle.std.proofs.Common.{ℕ, List, subst, arith}
use Rattle.mc_forward.specs.Assembling.{AreChannelsWanted}
use Rattle.mc_forward.proofs.wants.FlowChannels.wanted.Goals as goal

-- There is an answer for each channel, and each is right for its own.
pub returns-clause-wanted : goal.returns-clause-wanted
returns-clause-wanted c =
    let wants = c.in_ok-wants.wants in
    subst (λ (own : List (ℕ × ℕ)). AreChannelsWanted own c.args.list.now wants.wanted.items) c.self.view_is
    (record {
      count = omega (arith, wants.wanted.ok.0, c.in_ok-wants.ensures.count);
      each = c.in_ok-wants.ensures.each;
    })
