-- Addresses written as bytes, and read from them.
use Rattle.std.proofs.Common.{◌≡◌, ℕ, zero, suc, ◌+◌, ◌*◌, ◌<◌, ◌≤◌, List, [], ◌∷◌, ◌++◌, length}
use Rattle.std.proofs.Common.{get_or, take, drop, refl, ap, arith}
use Rattle.std.specs.Int.{w32, from_be_bytes}
use Rattle.std.specs.List.{flat_map, AllByRecursion}
use Rattle.std.proofs.lemmas.List.{length-take, get_or-drop, get_or-take, get_or_past}
use Rattle.std.proofs.lemmas.Nat.{from_be_bytes-to_be_bytes_4}
use Rattle.mc_text.specs.Addr.{IsAddr, octets_of}
use Rattle.mc_text.proofs.AddrLemmas.{octets_of-from_be_bytes, from_be_bytes-below_2_32}
use Rattle.mc_igmp.specs.Addresses.{addresses_in}

-- every element is a byte
abbrev pub IsBytes : List ℕ → Type 0
IsBytes bytes = (i : ℕ) → get_or bytes i 0 < 256

pub IsBytes-drop : (n : ℕ) (bytes : List ℕ) → IsBytes bytes → IsBytes (drop n bytes)
IsBytes-drop n bytes h i = rw get_or-drop (h (n + i))

pub IsBytes-take_drop : (m n : ℕ) (bytes : List ℕ) → IsBytes bytes → IsBytes (take m (drop n bytes))
IsBytes-take_drop m n bytes h i = grind (arith, get_or-take, get_or_past, get_or-drop, length-take)

-- the first address is in the first four bytes
pub addresses_in-first : (s : List ℕ) → 4 ≤ length s → addresses_in s
    ≡ from_be_bytes w32 (get_or s 0 0 ∷ get_or s 1 0 ∷ get_or s 2 0 ∷ get_or s 3 0 ∷ [])
    ∷ addresses_in (drop 4 s)
unfolding addresses_in
addresses_in-first (a ∷ b ∷ c ∷ d ∷ rest) h = refl
addresses_in-first _ h = absurd (omega arith)

-- fewer than four bytes have no address
pub addresses_in-short : (s : List ℕ) → length s < 4 → addresses_in s ≡ []
unfolding addresses_in
addresses_in-short (a ∷ b ∷ c ∷ d ∷ rest) h = absurd (omega arith)
addresses_in-short _ h = refl

-- the bytes are those of n addresses: they are that many, and the addresses in them are written as them
pub record HoldsAddresses (n : ℕ) (s : List ℕ) : Type 0 where
  pub spelled : flat_map octets_of (addresses_in s) ≡ s
  pub count : length (addresses_in s) ≡ n
  pub fit : AllByRecursion IsAddr (addresses_in s)

pub addresses_in-whole : (n : ℕ) (s : List ℕ) → IsBytes s → length s ≡ 4 * n → HoldsAddresses n s
unfolding addresses_in
addresses_in-whole zero [] fits len = record { spelled = refl; count = refl; fit = tt }
addresses_in-whole (suc n) (a ∷ b ∷ c ∷ d ∷ rest) fits len =
    let four = a ∷ b ∷ c ∷ d ∷ [] in
    let front : IsBytes four = IsBytes-take_drop 4 0 (a ∷ b ∷ c ∷ d ∷ rest) fits in
    let rest_fits = IsBytes-drop 4 (a ∷ b ∷ c ∷ d ∷ rest) fits in
    let others = addresses_in-whole n rest rest_fits (omega arith) in
    record {
      spelled = λ i. octets_of-from_be_bytes four refl front i ++ others.spelled i;
      count = ap suc others.count;
      fit = (from_be_bytes-below_2_32 four front, others.fit);
    }
addresses_in-whole _ _ fits len = absurd (omega arith)

-- the addresses in the octets of addresses are these
pub addresses_in-octets_of : (xs : List ℕ) → AllByRecursion IsAddr xs
    → addresses_in (flat_map octets_of xs) ≡ xs
unfolding addresses_in
addresses_in-octets_of [] h = refl
addresses_in-octets_of (x ∷ xs) h =
    λ i. from_be_bytes-to_be_bytes_4 x h.0 i ∷ addresses_in-octets_of xs h.1 i

pub length-octets_of_addresses : (xs : List ℕ) → length (flat_map octets_of xs) ≡ 4 * length xs
length-octets_of_addresses [] = refl
length-octets_of_addresses (x ∷ xs) = omega (arith, length-octets_of_addresses xs)
