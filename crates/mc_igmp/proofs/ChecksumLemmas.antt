-- The sum of a message's words, taken word by word or piece by piece.
use Rattle.std.proofs.Common.{◌≡◌, ℕ, zero, suc, ◌+◌, ◌*◌, ◌%◌, ◌<◌, ◌≤◌, List, [], ◌∷◌, length}
use Rattle.std.proofs.Common.{get_or, take, drop, refl, arith}
use Rattle.mc_igmp.specs.Checksum.{word_sum}
use Rattle.mc_igmp.proofs.AddressLemmas.{IsBytes, IsBytes-drop}

-- the sum is the first word and the sum of the others
pub word_sum-cons : (s : List ℕ) → 2 ≤ length s
    → word_sum s ≡ 256 * get_or s 0 0 + get_or s 1 0 + word_sum (drop 2 s)
unfolding word_sum
word_sum-cons (a ∷ b ∷ rest) h = refl
word_sum-cons _ h = absurd (omega arith)

-- the sum is the first four words and the sum of the others
pub word_sum-eight : (s : List ℕ) → 8 ≤ length s
    → word_sum s ≡ (256 * get_or s 0 0 + get_or s 1 0) + ((256 * get_or s 2 0 + get_or s 3 0)
    + ((256 * get_or s 4 0 + get_or s 5 0) + ((256 * get_or s 6 0 + get_or s 7 0)
    + word_sum (drop 8 s))))
unfolding word_sum
word_sum-eight (a ∷ b ∷ c ∷ d ∷ e ∷ f ∷ g ∷ h ∷ rest) l = refl
word_sum-eight _ l = absurd (omega arith)

-- the sum is the first eight words and the sum of the others
pub word_sum-sixteen : (s : List ℕ) → 16 ≤ length s
    → word_sum s ≡ (256 * get_or s 0 0 + get_or s 1 0) + ((256 * get_or s 2 0 + get_or s 3 0)
    + ((256 * get_or s 4 0 + get_or s 5 0) + ((256 * get_or s 6 0 + get_or s 7 0)
    + ((256 * get_or s 8 0 + get_or s 9 0) + ((256 * get_or s 10 0 + get_or s 11 0)
    + ((256 * get_or s 12 0 + get_or s 13 0) + ((256 * get_or s 14 0 + get_or s 15 0)
    + word_sum (drop 16 s))))))))
unfolding word_sum
word_sum-sixteen (a ∷ b ∷ c ∷ d ∷ e ∷ f ∷ g ∷ h ∷ i ∷ j ∷ k ∷ l ∷ m ∷ n ∷ o ∷ p ∷ rest) long = refl
word_sum-sixteen _ long = absurd (omega arith)

-- the sum of an odd last byte, or of none
pub word_sum-last : (s : List ℕ) → length s < 2 → word_sum s ≡ 256 * get_or s 0 0
unfolding word_sum
word_sum-last [] h = refl
word_sum-last (a ∷ []) h = refl
word_sum-last _ h = absurd (omega arith)

-- the sum is that of the first n bytes and of the others, if no word is split
pub word_sum-take_drop : (n : ℕ) (s : List ℕ) → (n < length s → n % 2 ≡ 0)
    → word_sum s ≡ word_sum (take n s) + word_sum (drop n s)
unfolding word_sum
word_sum-take_drop zero s even = omega arith
word_sum-take_drop (suc n) [] even = refl
word_sum-take_drop (suc zero) (a ∷ []) even = omega arith
word_sum-take_drop (suc zero) (a ∷ b ∷ rest) even = absurd (omega (arith, even (omega arith)))
word_sum-take_drop (suc (suc n)) (a ∷ []) even = omega arith
word_sum-take_drop (suc (suc n)) (a ∷ b ∷ rest) even =
    omega (arith, word_sum-take_drop n rest (λ more. omega (arith, even (omega arith))))

-- the sum is at most 65,535 for each word
pub word_sum-bound : (s : List ℕ) → IsBytes s → 2 * word_sum s ≤ 65535 * (length s + 1)
unfolding word_sum
word_sum-bound [] fits = omega arith
word_sum-bound (a ∷ []) fits = omega (arith, fits 0)
word_sum-bound (a ∷ b ∷ rest) fits =
    let others = word_sum-bound rest (IsBytes-drop 2 (a ∷ b ∷ rest) fits) in
    omega (arith, fits 0, fits 1, others)
