-- Oifs of lower vifs don't change whether a table entry feeds a LAN by a vif.
use Rattle.std.proofs.Common.{◌≡◌, ℕ, ◌<◌, ◌==◌, Bool, false, ◌&&◌, ◌||◌, List, [], ◌∷◌, ◌++◌}
use Rattle.std.proofs.Common.{Some, refl, sym, ap, ◌∙◌, arith}
use Rattle.std.specs.List.{AllByRecursion}
use Rattle.mc_tables.specs.declared.cache.entry.Oif.{Oif}
use Rattle.mc_theory.specs.Certificates.{Entry, is_live}
use Rattle.mc_theory.specs.Reasons.{feeds_from}
use Rattle.mc_forward.specs.Domains.{oif_pairs}

-- oifs of lower vifs in front feed nothing by this vif
feeds_from-append_lower : (base : Entry) (vif : ℕ) (lower rest : List Oif)
    → AllByRecursion (λ (o : Oif). o.vif < vif) lower
    → feeds_from vif (oif_pairs rest) (Some base) ≡ feeds_from vif (oif_pairs (lower ++ rest)) (Some base)
feeds_from-append_lower base vif [] rest are = refl
feeds_from-append_lower base vif (o ∷ lower) rest are =
    feeds_from-append_lower base vif lower rest are.1
    ∙ (let other : (o.vif == vif) ≡ false = grind arith in
    ap (λ (b : Bool). (b && is_live base.rank o.threshold)
    || feeds_from vif (oif_pairs (lower ++ rest)) (Some base)) (sym other))

-- so the oifs from the vif on feed as all do
pub feeds_from-outgoing_from : (base : Entry) (vif : ℕ) (rest oifs : List Oif)
    → (lower : List Oif) × (lower ++ rest ≡ oifs)
    × AllByRecursion (λ (o : Oif). o.vif < vif) lower
    → feeds_from vif (oif_pairs rest) (Some base) ≡ feeds_from vif (oif_pairs oifs) (Some base)
feeds_from-outgoing_from base vif rest oifs found =
    feeds_from-append_lower base vif found.0 rest found.2
    ∙ ap (λ (os : List Oif). feeds_from vif (oif_pairs os) (Some base)) found.1
