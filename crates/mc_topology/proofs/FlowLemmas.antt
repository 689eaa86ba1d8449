-- Times to live.
use Rattle.std.proofs.Common.{◌≡◌, ℤ, pos, negsuc, ◌≤ℤ◌, ◌<ℤ◌, ◌<◌, ◌≤◌, ◌&&◌, Bool, true, false}
use Rattle.std.proofs.Common.{le-leb, Ok, Err, refl, arith}
use Rattle.std.specs.Ordering.{is_le, int_cmp}
use Rattle.std.specs.declared.cmp.Ordering.{Ordering}
use Rattle.std.specs.declared.cmp.Ordering.TheVariants.{Less, Equal, Greater}
use Rattle.std.proofs.lemmas.Cmp.{int_ranked}
use Rattle.std.proofs.lemmas.Int.{ints}
use Rattle.std.proofs.lemmas.Bool.Decides.{nat_tests}
use lib.IntN.{nat_abs}
use Rattle.mc_topology.specs.declared.fault.TopologyFaultKind.TheVariants.{BadTtl}
use Rattle.mc_topology.specs.Flows.{ttl_of}

-- a number of 1 to 255 is a time to live, and no other is
pub ttl_of-within : (z : ℤ) → pos 1 ≤ℤ z → z ≤ℤ pos 255 → ttl_of z ≡ Ok (nat_abs z)
unfolding ttl_of
ttl_of-within (pos n) low high =
    let l : 1 ≤ n = omega (arith, ints) in
    let h : n ≤ 255 = omega (arith, ints) in
    rw (le-leb 1 n l, le-leb n 255 h) refl
ttl_of-within (negsuc n) low high = absurd (omega (arith, ints))

-- a number below 1 is none,
pub ttl_of-low : (z : ℤ) → z <ℤ pos 1 → ttl_of z ≡ Err BadTtl
unfolding ttl_of
ttl_of-low (pos n) low = let none : n ≡ 0 = omega (arith, ints) in rw none refl
ttl_of-low (negsuc n) low = refl

-- and neither is one over 255
pub ttl_of-high : (z : ℤ) → pos 255 <ℤ z → ttl_of z ≡ Err BadTtl
unfolding ttl_of
ttl_of-high (pos n) high =
    let h : 255 < n = omega (arith, ints) in
    grind (arith, nat_tests, h)
ttl_of-high (negsuc n) high = refl

-- ---- tests of a number's range

-- if the test that x is less or equal passes, it is
le-from_is_le : (x y : ℤ) (r : Ordering) → r ≡ int_cmp x y → is_le r ≡ true → x ≤ℤ y
le-from_is_le x y Less e is = let below : x <ℤ y = int_ranked x y Less e in omega (arith, ints)
le-from_is_le x y Equal e is = let same : x ≡ y = int_ranked x y Equal e in omega (arith, ints)
le-from_is_le x y Greater e is = absurd cc

-- and if it fails, y is less
lt-from_not_is_le : (x y : ℤ) (r : Ordering) → r ≡ int_cmp x y → is_le r ≡ false → y <ℤ x
lt-from_not_is_le x y Less e is = absurd cc
lt-from_not_is_le x y Equal e is = absurd cc
lt-from_not_is_le x y Greater e is = int_ranked x y Greater e

-- a number that is 1 to 255
pub ttl_of-from_both_tests : (z : ℤ) → is_le (int_cmp (pos 1) z) ≡ true → is_le (int_cmp z (pos 255)) ≡ true
    → ttl_of z ≡ Ok (nat_abs z)
ttl_of-from_both_tests z low high =
    ttl_of-within z (le-from_is_le (pos 1) z _ refl low) (le-from_is_le z (pos 255) _ refl high)

-- and one that isn't
ttl_of-from_failed_test_by_cases : (z : ℤ) (low high : Bool) → is_le (int_cmp (pos 1) z) ≡ low
    → is_le (int_cmp z (pos 255)) ≡ high
    → (low && high) ≡ false → ttl_of z ≡ Err BadTtl
ttl_of-from_failed_test_by_cases z true true at_low at_high e = absurd cc
ttl_of-from_failed_test_by_cases z true false at_low at_high e =
    ttl_of-high z (lt-from_not_is_le z (pos 255) _ refl at_high)
ttl_of-from_failed_test_by_cases z false high at_low at_high e =
    ttl_of-low z (lt-from_not_is_le (pos 1) z _ refl at_low)

-- so a number that fails one of the two tests is no time to live
pub ttl_of-from_failed_test : (z : ℤ) → (is_le (int_cmp (pos 1) z) && is_le (int_cmp z (pos 255))) ≡ false
    → ttl_of z ≡ Err BadTtl
ttl_of-from_failed_test z e =
    ttl_of-from_failed_test_by_cases z (is_le (int_cmp (pos 1) z)) (is_le (int_cmp z (pos 255))) refl refl e
