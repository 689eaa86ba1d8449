-- What the text of `mcaudit replay` says of the bundle that was read.
use Rattle.std.proofs.Common.{◌≡◌, ℕ, ◌+◌, inl, inr, Bool, List, Option, Some, None, Result, Ok, Err}
use Rattle.std.proofs.Common.{refl, ap, subst, ◌∙◌}
use Rattle.std.specs.Prelude.{IfErr, IfSome, slice_get}
use Rattle.mc_topology.specs.declared.flow.Flow.{Flow}
use Rattle.mc_topology.specs.Topology.{TopologyValue}
use Rattle.mc_theory.specs.Findings.{Choices}
use Rattle.mc_forward.specs.Domains.{DomainValue}
use Rattle.mc_replay.specs.Travels.{IsRunOfChoices, replay_of}
use Rattle.mc_replay.specs.declared.travel.Travel.{Travel}
use Rattle.mc_commands.specs.declared.run_output.RunOutput.{RunOutput}
use Rattle.mc_commands.specs.declared.fault.RunFault.{RunFault}
use Rattle.mc_input.specs.Meaning.{MeansUncertifiedDomain}
use Rattle.mc_commands.specs.Failures.{IsNoDeviceFault}
use Rattle.mc_commands.specs.ReplayRun.{HasNoTravel, IsReplayRefused, IsTextOfTravel, is_clean, replay_text}

-- the text of a travel through a domain
pub is_text_of_travel-replayed : (d : DomainValue) (flow ttl : ℕ) (choices : Choices) (place : ℕ)
    (t : TopologyValue) (f : Flow) (travel : Travel) (clean : Bool) (written : List ℕ)
    → flow ≡ place + 1 → t ≡ d.topology → slice_get t.flows place ≡ Some f
    → IsRunOfChoices (replay_of d place ttl choices) travel → clean ≡ is_clean travel.finding
    → written ≡ replay_text t f ttl travel → IsTextOfTravel d flow ttl choices clean written
is_text_of_travel-replayed d flow ttl choices place t f travel clean written counted same matches runs answer
    spelled =
    record {
      place = place;
      listed = f;
      travel = travel;
      counted = counted;
      matches = subst (λ (x : TopologyValue). slice_get x.flows place ≡ Some f) same matches;
      runs = runs;
      answer = answer;
      spelled = spelled ∙ ap (λ x. replay_text x f ttl travel) same;
    }

-- the domain's topology lists no such flow, or memory ran out
pub is_replay_refused-no_travel : (contents : Option (List ℕ)) (flow : ℕ) (d : DomainValue)
    (r : Result RunOutput RunFault) → IfSome contents (λ text. MeansUncertifiedDomain text d)
    → IfErr r (HasNoTravel d flow) → IfErr r (λ f. IfSome contents (λ text. IsReplayRefused flow text f))
is_replay_refused-no_travel contents flow d (Ok run_output) means is = tt
is_replay_refused-no_travel None flow d (Err f) means is = tt
is_replay_refused-no_travel (Some text) flow d (Err f) means (inl is) =
    rw (is.0) (
      refl,
      record {
        domain = d;
        means = means;
        holds = is.1;
      },
    )
is_replay_refused-no_travel (Some text) flow d (Err f) means (inr is) = rw is tt

pub is_no_device_fault-no_travel : (d : DomainValue) (flow : ℕ) (r : Result RunOutput RunFault)
    → IfErr r (HasNoTravel d flow) → IfErr r IsNoDeviceFault
is_no_device_fault-no_travel d flow (Ok run_output) is = tt
is_no_device_fault-no_travel d flow (Err f) (inl is) = rw (is.0) (refl, refl)
is_no_device_fault-no_travel d flow (Err f) (inr is) = rw is (refl, refl)
