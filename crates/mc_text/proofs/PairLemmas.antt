-- Sources and groups as numbers.
use Rattle.std.proofs.Common.{◌≡◌, ℕ, ap, arith}
use Rattle.mc_text.specs.Pair.{pair_of}

-- two numbers of the same pair are equal
pub pair_of-injective : (m n : ℕ) → pair_of m ≡ pair_of n → m ≡ n
pair_of-injective m n same =
    omega (arith, ap (λ (p : ℕ × ℕ). p.0) same, ap (λ (p : ℕ × ℕ). p.1) same)
