-- What an address and a time to live in a topology's text are read as.
use Rattle.std.proofs.Common.{◌≡◌, ℕ, ℤ, pos, negsuc, ◌≤◌, Bool, true}
use Rattle.std.proofs.Common.{List, Option, Some, None, Ok}
use Rattle.std.proofs.Common.{nat_le, ◌&&◌, le-leb, refl, ap, arith}
use Rattle.std.proofs.lemmas.Bool.{leb-true, and_parts}
use Rattle.mc_text.specs.Addr.{IsAddr, IsSource, IsForwardedGroup, dotted}
use Rattle.mc_text.specs.AddressReading.{address_of_text}
use Rattle.mc_text.specs.Addr.{is_source, is_forwarded_group}
use Rattle.mc_text.proofs.AddressReading.{address_of_text-sound, address_of_text-complete}
use Rattle.mc_text.proofs.AddressTests.{is_source-sound, is_source-complete, is_forwarded_group-sound}
use Rattle.mc_text.proofs.AddressTests.{is_forwarded_group-complete}
use Rattle.mc_topology.specs.declared.fault.TopologyFaultKind.TheVariants.{BadAddress, BadTtl}
use Rattle.mc_topology.specs.Addresses.{checked_address, source_address_of, group_address_of}
use Rattle.mc_topology.specs.Flows.{ttl_of}
use Rattle.mc_topology.proofs.Steps.{checked_ok}

-- an address that passes is there, and passes the test
checked_address-Ok : (p : ℕ → Bool) (o : Option ℕ) (a : ℕ) → checked_address p o ≡ Ok a → (o ≡ Some a)
    × (p a ≡ true)
checked_address-Ok p None a e = absurd cc
checked_address-Ok p (Some b) a e =
    let (same, passed) = checked_ok p BadAddress b a e in
    (ap Some same, passed)

-- a text that is read as a source's address is that address, dotted
pub dotted-from_source_address_of : (text : List ℕ) (a : ℕ) → source_address_of text ≡ Ok a → (text ≡ dotted a)
    × IsAddr a × IsSource a
unfolding source_address_of
dotted-from_source_address_of text a e =
    let p = checked_address-Ok is_source (address_of_text text) a e in
    let at = address_of_text-sound text a p.0 in
    (at.1, at.0, is_source-sound a p.1)

-- and the dotted address of a source is read
pub source_address_of-dotted : (a : ℕ) → IsAddr a → IsSource a → source_address_of (dotted a) ≡ Ok a
unfolding source_address_of
source_address_of-dotted a is may =
    rw (address_of_text-complete (dotted a) a is refl) (rw (is_source-complete a may) refl)

-- a text that is read as a group's address is that address, dotted
pub dotted-from_group_address_of : (text : List ℕ) (a : ℕ) → group_address_of text ≡ Ok a → (text ≡ dotted a)
    × IsForwardedGroup a
unfolding group_address_of
dotted-from_group_address_of text a e =
    let p = checked_address-Ok is_forwarded_group (address_of_text text) a e in
    ((address_of_text-sound text a p.0).1, is_forwarded_group-sound a p.1)

-- and the dotted address of a group is read
pub group_address_of-dotted : (a : ℕ) → IsForwardedGroup a → group_address_of (dotted a) ≡ Ok a
unfolding group_address_of
group_address_of-dotted a is = rw (address_of_text-complete (dotted a) a (omega (arith, is.1)) refl)
    (rw (is_forwarded_group-complete a is) refl)

-- a number that is read as a time to live is 1 to 255
pub range-from_ttl_of : (z : ℤ) (n : ℕ) → ttl_of z ≡ Ok n → (z ≡ pos n) × (1 ≤ n) × (n ≤ 255)
unfolding ttl_of
range-from_ttl_of (pos m) n e =
    let (same, passed) = checked_ok (λ k. nat_le 1 k && nat_le k 255) BadTtl m n e in
    let (low, high) = and_parts _ _ passed in
    (ap pos same, leb-true _ _ low, leb-true _ _ high)
range-from_ttl_of (negsuc m) n e = absurd cc

-- and a number of 1 to 255 is read
pub ttl_of-in_range : (n : ℕ) → 1 ≤ n → n ≤ 255 → ttl_of (pos n) ≡ Ok n
unfolding ttl_of
ttl_of-in_range n low high = rw (le-leb 1 n low, le-leb n 255 high) refl
