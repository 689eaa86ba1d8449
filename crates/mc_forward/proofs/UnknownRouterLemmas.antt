-- A domain has nothing of a router that isn't in its topology.
use Rattle.std.proofs.Common.{◌≡◌, ℕ, ◌≤◌, List, [], length, get_or, Option, None}
use Rattle.std.proofs.Common.{ap, arith}
use Rattle.std.specs.Prelude.{option_and_then}
use Rattle.std.specs.FinMap as finite
use Rattle.std.proofs.lemmas.List.{get_or_past}
use Rattle.std.proofs.lemmas.Option.{slice_get_past}
use Rattle.mc_theory.specs.Nets.{Row}
use Rattle.mc_theory.specs.Nets.Row.{NoRow}
use Rattle.mc_forward.specs.Domains.{VifsValue, DomainValue, AreRows, AreVifs, lan_of_vif, placed_of}
use Rattle.mc_forward.specs.Domains.{row_of}

-- a router past the last has no table of vifs,
pub placed_of-none_past_last_router : (d : DomainValue) → AreVifs d.topology d.vifs → (router vif : ℕ)
    → length d.topology.routers ≤ router → placed_of d router vif ≡ None
placed_of-none_past_last_router d ok router vif past =
    ap (λ (o : Option VifsValue). option_and_then (lan_of_vif d.topology router)
    (option_and_then (λ own. finite.get own vif) o))
    (slice_get_past d.vifs router (omega (arith, ok.routers)))

-- and no row
pub row_of-none_past_last_router : (d : DomainValue) → AreRows d.topology d.rows → (flow router : ℕ)
    → length d.topology.routers ≤ router → row_of d flow router ≡ NoRow
row_of-none_past_last_router d ok flow router past =
    ap (λ (own : List Row). get_or own flow NoRow)
    (get_or_past d.rows router [] (omega (arith, ok.routers)))
