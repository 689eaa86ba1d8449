-- No value of a flow with a finding has a fraction, where none of its parts has one.
use Rattle.std.proofs.Common.{◌≡◌, ℕ, Bool, true, false, List, Option, Some, None, map, option_map, refl}
use Rattle.mc_topology.specs.Topology.{TopologyValue}
use Rattle.mc_topology.specs.declared.flow.Flow.{Flow}
use Rattle.mc_theory.specs.Events.{Event}
use Rattle.mc_theory.specs.Nets.{Net}
use Rattle.mc_explain.specs.declared.causes.explanation.Certainty.{Certainty}
use Rattle.serde_json.specs.Data.{Data}
use Rattle.serde_json.specs.Written.{has_float}
use Rattle.mc_json.specs.FlowData.{event_data}
use Rattle.mc_json.proofs.NoFloatLemmas.{HaveNoFloat, no_float-events}
use Rattle.mc_json_wrong.specs.WrongData.{shown_from_data, wrong_data, wrong_mark}

-- the events, if they are written
abbrev pub EventsHaveNoFloat : Option (List Data) → Type 0
EventsHaveNoFloat None = Unit {0}
EventsHaveNoFloat (Some es) = HaveNoFloat es

-- whether a fault is known
no_float-wrong_mark : (known : Bool) → has_float (wrong_mark known) ≡ false
no_float-wrong_mark true = refl
no_float-wrong_mark false = refl

-- the TTL from which on packets show it, or null
pub no_float-shown_from : (shown_from : Option ℕ) → has_float (shown_from_data shown_from) ≡ false
no_float-shown_from None = refl
no_float-shown_from (Some ttl) = refl

-- a flow with a finding, of members without a fraction
pub no_float-wrong_data : (number : ℕ) (f : Flow) (certainty : Certainty) (also : List Data)
    (at_flow_ttl behind : Data)
    (events : Option (List Data)) (finding : Data) (found_ttl : ℕ) (wanted why : List Data)
    → HaveNoFloat also → has_float at_flow_ttl ≡ false → has_float behind ≡ false → EventsHaveNoFloat events
    → has_float finding ≡ false → HaveNoFloat wanted → HaveNoFloat why
    → has_float (wrong_data number f (record {
      certainty = certainty;
      also = also;
      at_flow_ttl = at_flow_ttl;
      behind = behind;
      events = events;
      finding = finding;
      found_ttl = found_ttl;
      wanted = wanted;
      why = why;
    })) ≡ false
no_float-wrong_data number f certainty also below past None finding found_ttl wanted why plain own further
    causes found lans
    because =
    rw (
      plain,
      own,
      further,
      found,
      no_float-wrong_mark certainty.known,
      no_float-shown_from certainty.shown_by.from,
      lans,
      because,
    )
no_float-wrong_data number f certainty also below past (Some es) finding found_ttl wanted why plain own
    further causes found lans
    because =
    rw (
      plain,
      own,
      further,
      causes,
      found,
      no_float-wrong_mark certainty.known,
      no_float-shown_from certainty.shown_by.from,
      lans,
      because,
    )

-- events, if they are asked for
pub no_float-events_if_asked : (t : TopologyValue) (n : Net) (events : Option (List Event))
    → EventsHaveNoFloat (option_map (map (event_data t n)) events)
no_float-events_if_asked t n (Some events) = no_float-events t n events
no_float-events_if_asked t n None = tt
