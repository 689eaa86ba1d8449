-- How many slots a domain has, and how many answers.
use Rattle.std.specs.Prelude.{◌≡◌, ℕ, zero, suc, ◌+◌, Bool, List, [], ◌∷◌, ◌++◌, length, slice_get}
use Rattle.std.specs.Prelude.{Some}
use Rattle.std.proofs.Common.{arith, subst}
use Rattle.mc_topology.specs.Topology.{TopologyValue}
use Rattle.mc_files.specs.Layout.{slots, certificate_slots}
use Rattle.mc_files.proofs.SlotLemmas.{length-slots_after_topology}
use Rattle.mc_input.specs.PartsOneByOne.{certificate_number}

-- the slots before the certificate's, and that one, if there is one, are all
pub length-slots_from_certificate_number : (certified : Bool) (t : TopologyValue)
    → certificate_number t + length (certificate_slots certified) ≡ length (slots certified t)
length-slots_from_certificate_number certified t = omega (arith, length-slots_after_topology certified t)

-- an answer more, of so many flows
pub length-answers_push : (n : ℕ) (wants : List (List Bool)) (wanted : List Bool)
    → ((lan : ℕ) (ws : List Bool) → slice_get wants lan ≡ Some ws → length ws ≡ n)
    → length wanted ≡ n
    → (lan : ℕ) (ws : List Bool) → slice_get (wants ++ wanted ∷ []) lan ≡ Some ws → length ws ≡ n
length-answers_push n [] wanted each one zero ws at = let same : wanted ≡ ws = cc in
    subst (λ (xs : List Bool). length xs ≡ n) same one
length-answers_push n [] wanted each one (suc lan) ws at = absurd cc
length-answers_push n (w ∷ wants) wanted each one zero ws at = each 0 ws at
length-answers_push n (w ∷ wants) wanted each one (suc lan) ws at =
    length-answers_push n wants wanted (λ k xs here. each (suc k) xs here) one lan ws at
