-- The routers by what they have for a want (docs/FORMATS.md, "What hosts ask for and no flow answers").
use Rattle.std.specs.Prelude.{ℕ, List}
use Rattle.mc_asked.specs.Forwarding.{routers_in}
use Rattle.mc_asked.specs.declared.forwarding.RouterState.{RouterState}
use Rattle.mc_asked.specs.declared.forwarding.RouterState.TheVariants.{EverySource, NoneOut, Forwards}
use Rattle.mc_shown.specs.declared.asked.routers_by_state.RoutersByState.{RoutersByState}

-- The routers that have something for a want, each list in the topology's order.
pub record RoutersForWant : Type 0 where
  -- those with an entry that goes out to a LAN
  pub forwards : List ℕ
  -- those with an entry, and none that goes out to a LAN
  pub none_out : List ℕ
  -- those with a (*,G) or (*,*) entry alone
  pub every_source : List ℕ

-- the routers, as the code keeps them
abbrev pub routers_value : RoutersByState → RoutersForWant
routers_value routers = record {
  forwards = routers.forwards.items;
  none_out = routers.none_out.items;
  every_source = routers.every_source.items;
}

-- the routers, by the state of each
abbrev pub routers_by_state : List RouterState → RoutersForWant
routers_by_state states = record {
  forwards = routers_in Forwards states;
  none_out = routers_in NoneOut states;
  every_source = routers_in EverySource states;
}
