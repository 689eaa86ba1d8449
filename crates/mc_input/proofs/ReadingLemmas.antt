-- Reading parts one after another, whatever their source.
use Rattle.std.specs.Prelude.{◌≡◌, ℕ, zero, suc, ◌+◌, List, [], ◌∷◌, drop}
use Rattle.std.specs.Prelude.{slice_get, Some, Result, Ok, refl}
use Rattle.std.proofs.Common.{add-one}
use Rattle.mc_bundle.specs.Bundle.{PartText}
use Rattle.mc_topology.specs.Topology.{TopologyValue}
use Rattle.mc_files.specs.Layout.{Slot, topology_slot}
use Rattle.mc_input.specs.PartsReading.{read_part}
use Rattle.mc_input.specs.PartsReading.{read_tables_and_reports}
use Rattle.mc_input.specs.PartsReading.{read_input, topology_of}
use Rattle.mc_input.specs.declared.fault.InputFault.{InputFault}

-- a list from an index on begins with the item there
drop-slice_get_suc : {A : Type 0} (xs : List A) (i : ℕ) (x : A) → slice_get xs i ≡ Some x
    → drop i xs ≡ x ∷ drop (suc i) xs
drop-slice_get_suc [] i x e = absurd (cc)
drop-slice_get_suc (y ∷ ys) zero x e = cc
drop-slice_get_suc (y ∷ ys) (suc i) x e = drop-slice_get_suc ys i x e

-- the same with the next index as a sum
pub drop-slice_get : {A : Type 0} (xs : List A) (i : ℕ) (x : A) → slice_get xs i ≡ Some x
    → drop i xs ≡ x ∷ drop (i + 1) xs
drop-slice_get xs i x e = rw (add-one) (drop-slice_get_suc xs i x e)

module _ {F : Type 0} (as_ours : InputFault → F) (source : ℕ → Slot → Result PartText F) where
  -- where the check passes, the result is that of the contents
  pub read_input-judged : (judge : TopologyValue → Result (Unit {0}) F) (t : TopologyValue) (x : Unit {0})
      → read_part as_ours (source 0 topology_slot) topology_of ≡ Ok t → judge t ≡ Ok x
      → read_input as_ours source judge ≡ read_tables_and_reports as_ours source t
  unfolding read_input
  read_input-judged judge t x topology names = rw (topology, names) refl
