-- What is seen of a slot's file, where routers are excluded.
use Rattle.std.specs.Prelude.{◌≡◌, ◌≢◌, ℕ, zero, suc, Bool, true, false, List, [], ◌∷◌, ◌++◌, Option, Some}
use Rattle.std.specs.Prelude.{None, cond, flat_map, map, refl, slice_get}
use Rattle.std.proofs.Common.{◌∙◌, subst, sym}
use Rattle.mc_topology.specs.SectionRows.{RouterRow}
use Rattle.mc_topology.specs.Topology.{TopologyValue}
use Rattle.mc_files.specs.Files.{FileText, file_named}
use Rattle.mc_files.specs.Layout.{Slot, cache_slot, file_name, reports_slot, router_slots, slots, table_slot}
use Rattle.mc_files.specs.Layout.{vif_slot}
use Rattle.mc_input.specs.ExcludedRouters.{files_with_exclusions, header_of_excluded}
use Rattle.mc_input.specs.Feeding.{header_or_file}
use Rattle.mc_input.proofs.ExcludedLemmas.{IsSameFile-reports_slot, IsSameFile-topology_slot}
use Rattle.mc_input.proofs.ExcludedLemmas.{file_named-cache_slot, file_named-vif_slot, is_excluded_name}

-- a header that is there only for an excluded router
header_or_file-by_case : (out : Bool) (header : List ℕ) (found : Option (List ℕ))
    → cond out (Some header) found ≡ header_or_file (cond out (Some header) None) found
header_or_file-by_case true header found = refl
header_or_file-by_case false header found = refl

module _ (names : List (List ℕ)) (files : List FileText) where
  -- the slot's file is seen as this header, if there is one, and else as the folder's
  abbrev Sees : Option (List ℕ) → Slot → Type 0
  Sees header s = file_named (files_with_exclusions names files) (file_name s)
      ≡ header_or_file header (file_named files (file_name s))

  -- of a router's table its header is seen, if the router is excluded, and otherwise the file
  pub sees-table : (slot : Slot) (vifs : Bool) (name : List ℕ) (header : Option (List ℕ))
      → slot ≡ table_slot vifs name → header ≡ header_of_excluded names name vifs → Sees header slot
  sees-table slot vifs name header is own =
      subst (Sees header) (sym is) (subst (λ h. Sees h (table_slot vifs name)) (sym own) (by vifs))
    where
      by : (vifs : Bool) → Sees (header_of_excluded names name vifs) (table_slot vifs name)
      by true = file_named-vif_slot names files name ∙ header_or_file-by_case (is_excluded_name names name) _
          (file_named files (file_name (vif_slot name)))
      by false = file_named-cache_slot names files name
          ∙ header_or_file-by_case (is_excluded_name names name) _
          (file_named files (file_name (cache_slot name)))

  one_slot : {x y : Slot} → Some x ≡ Some y → x ≡ y
  one_slot e = cc

  -- of another slot after the topology's its file is seen
  sees-reports : (rs : List RouterRow) (lans : List (List ℕ)) (n : ℕ) (slot : Slot)
      → slice_get (flat_map router_slots rs ++ (map reports_slot lans ++ [])) n ≡ Some slot
      → ((vifs : Bool) (name : List ℕ) → slot ≢ table_slot vifs name) → Sees None slot
  sees-reports (r ∷ rs) lans zero slot at other = absurd (other true r.name (one_slot (sym at)))
  sees-reports (r ∷ rs) lans (suc zero) slot at other = absurd (other false r.name (one_slot (sym at)))
  sees-reports (r ∷ rs) lans (suc (suc n)) slot at other = sees-reports rs lans n slot at other
  sees-reports [] (lan ∷ lans) zero slot at other =
      subst (Sees None) (one_slot at) (IsSameFile-reports_slot names files lan)
  sees-reports [] (lan ∷ lans) (suc n) slot at other = sees-reports [] lans n slot at other
  sees-reports [] [] n slot at other = absurd cc

  -- so is that of any slot but those of routers' tables
  pub sees-other : (t : TopologyValue) (n : ℕ) (slot : Slot) → slice_get (slots false t) n ≡ Some slot
      → ((vifs : Bool) (name : List ℕ) → slot ≢ table_slot vifs name) → Sees None slot
  sees-other t zero slot at other = subst (Sees None) (one_slot at) (IsSameFile-topology_slot names files)
  sees-other t (suc n) slot at other = sees-reports t.routers t.lans n slot at other
