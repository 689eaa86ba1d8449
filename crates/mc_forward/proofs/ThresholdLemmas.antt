-- The threshold of a vif's pair is found behind lower vifs.
use Rattle.std.proofs.Common.{◌≡◌, ℕ, ◌<◌, ◌==◌, false, cond, List, [], ◌∷◌, ◌++◌, refl, sym, ap, ◌∙◌, arith}
use Rattle.std.specs.List.{AllByRecursion}
use Rattle.mc_tables.specs.declared.cache.entry.Oif.{Oif}
use Rattle.mc_theory.specs.CertificateOfCopies.{threshold_of}
use Rattle.mc_forward.specs.Domains.{oif_pairs}

-- lower vifs in front don't change a vif's threshold
threshold_of-append_lower_more : (vif : ℕ) (lower rest : List Oif)
    → AllByRecursion (λ (o : Oif). o.vif < vif) lower
    → threshold_of vif (oif_pairs rest) ≡ threshold_of vif (oif_pairs (lower ++ rest))
threshold_of-append_lower_more vif [] rest are = refl
threshold_of-append_lower_more vif (o ∷ lower) rest are =
    threshold_of-append_lower_more vif lower rest are.1
    ∙ (let other : (o.vif == vif) ≡ false = grind arith in
    ap (λ b. cond b o.threshold (threshold_of vif (oif_pairs (lower ++ rest)))) (sym other))

-- so it is the same with what is in front of the rest
pub threshold_of-append_lower : (vif : ℕ) (rest oifs : List Oif)
    → (lower : List Oif) × (lower ++ rest ≡ oifs)
    × AllByRecursion (λ (o : Oif). o.vif < vif) lower
    → threshold_of vif (oif_pairs rest) ≡ threshold_of vif (oif_pairs oifs)
threshold_of-append_lower vif rest oifs found =
    threshold_of-append_lower_more vif found.0 rest found.2
    ∙ ap (λ (os : List Oif). threshold_of vif (oif_pairs os)) found.1
