-- The walk back from a copy, over the first copies on LANs.
use Rattle.std.proofs.Common.{◌≡◌, ℕ, suc, ◌+◌, ◌<◌, Bool, true, false, cond, ◌==◌, ◌||◌, List}
use Rattle.std.proofs.Common.{[], ◌∷◌, length, drop, Option, Some, refl, ap, ◌∙◌}
use Rattle.std.specs.Prelude.{option_and_then}
use Rattle.std.proofs.lemmas.List.{drop_more}
use Rattle.mc_theory.specs.Nets.{Net, Interface}
use Rattle.mc_theory.specs.Flights.{Copy}
use Rattle.mc_theory.specs.Findings.{first_copy_on, from_lan, walk_visits, is_lan_or, sender_on}

-- the sender of the first copy on a LAN
pub sender-copy_on : (cs : List Copy) (l : ℕ) → option_and_then (λ (c : Copy). c.sender)
    (first_copy_on cs l) ≡ sender_on cs l
sender-copy_on [] l = refl
sender-copy_on (c ∷ cs) l = by (c.lan == l) (sender-copy_on cs l)
  where
    by : (b : Bool) → option_and_then (λ (x : Copy). x.sender) (first_copy_on cs l) ≡ sender_on cs l
        → option_and_then (λ (x : Copy). x.sender) (cond b (Some c) (first_copy_on cs l))
        ≡ cond b c.sender (sender_on cs l)
    by true rest = refl
    by false rest = rest

-- the walk goes on from a LAN that isn't the copy's own
pub walk_visits-next_lan : (n : Net) (cs : List Copy) (l k : ℕ) (x : Option Interface) (p : ℕ)
    → from_lan n x ≡ Some p → (p == l) ≡ false → walk_visits n cs l (suc k) x
    ≡ walk_visits n cs l k (sender_on cs p)
walk_visits-next_lan n cs l k x p from other =
    ap (is_lan_or l (λ q. walk_visits n cs l k (sender_on cs q))) from
    ∙ ap (λ (b : Bool). b || walk_visits n cs l k (sender_on cs p)) other

-- one step fewer is left
pub length-drop_one_more : (cs : List Copy) (i : ℕ) (c : Copy) → i < length cs
    → length (drop i cs) ≡ suc (length (drop (i + 1) cs))
length-drop_one_more cs i c lt = ap length (drop_more cs i c lt)
