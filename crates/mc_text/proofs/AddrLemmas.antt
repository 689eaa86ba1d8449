-- Addresses, their octets, and the two texts that they are read from.
use Rattle.std.proofs.Common.{◌≡◌, ℕ, ◌<◌, List, [], ◌∷◌, length, get_or, Ok}
use Rattle.std.proofs.Common.{refl, sym, ap, ◌∙◌, arith}
use Rattle.std.specs.Int.{w32, from_be_bytes}
use Rattle.std.specs.Net.Text.{ipv4_text}
use Rattle.std.specs.Net.Grammar.{IsDotted}
use Rattle.std.specs.declared.net.ipv4_addr.Ipv4Addr.{Ipv4Addr}
use Rattle.std.proofs.NetLemmas.Texts.{IsDotted-ipv4_text}
use Rattle.std.proofs.NetLemmas.Theorems.{IsIpv4Text_unique}
use Rattle.std.proofs.lemmas.Nat.{be_bytes_4, from_be_bytes-to_be_bytes_4}
use Rattle.hex.specs.Hex.{decode_of}
use Rattle.hex.proofs.HexLemmas.{decode_of-ok}
use Rattle.mc_text.specs.declared.text.addr.Order.{Order}
use Rattle.mc_text.specs.declared.text.addr.Order.TheVariants.{Little, Big}
use Rattle.mc_text.specs.Addr.{IsAddr, octets_of, dotted}
use Rattle.mc_text.specs.AddressWord.{printed_octets}

-- if four numbers are below 256, so is the one at each place
four_octets_below_256 : (a b c d k : ℕ) → a < 256 → b < 256 → c < 256 → d < 256
    → get_or (a ∷ b ∷ c ∷ d ∷ []) k 0 < 256
four_octets_below_256 a b c d k p q r s = grind arith

-- each octet of an address is below 256
pub octets_of-below_256 : (a k : ℕ) → get_or (octets_of a) k 0 < 256
octets_of-below_256 a k =
    four_octets_below_256 _ _ _ _ k (omega arith) (omega arith) (omega arith) (omega arith)

-- the octets of the address of four octets are these
pub octets_of-from_be_bytes : (octets : List ℕ) → length octets ≡ 4 → ((k : ℕ) → get_or octets k 0 < 256)
    → octets_of (from_be_bytes w32 octets) ≡ octets
octets_of-from_be_bytes octets four fit = be_bytes_4 octets _ four fit refl

-- the address of four octets is below 2^32
pub from_be_bytes-below_2_32 : (octets : List ℕ) → ((k : ℕ) → get_or octets k 0 < 256)
    → IsAddr (from_be_bytes w32 octets)
from_be_bytes-below_2_32 octets fit = omega (arith, fit 0, fit 1, fit 2, fit 3)

-- a dotted text of octets is that of their address
pub dotted-from_be_bytes : (text octets : List ℕ) → IsDotted text octets
    → text ≡ dotted (from_be_bytes w32 octets)
dotted-from_be_bytes text octets d =
    let fit : (k : ℕ) → get_or octets k 0 < 256 =
    λ k. rw d.value (four_octets_below_256 d.a d.b d.c d.d k d.fit.0 d.fit.1 d.fit.2 d.fit.3) in
    d.spelled ∙ ap ipv4_text (sym (octets_of-from_be_bytes octets (ap length d.value) fit ∙ d.value))

-- an address's text is the dotted text of its octets
pub IsDotted-dotted : (a : ℕ) → IsDotted (dotted a) (octets_of a)
IsDotted-dotted a = IsDotted-ipv4_text (octets_of a) refl (octets_of-below_256 a)

-- a dotted text of octets is that of one address, the one with these octets
pub from_be_bytes-dotted : (text octets : List ℕ) (a : ℕ) → IsAddr a → IsDotted text octets → text ≡ dotted a
    → from_be_bytes w32 octets ≡ a
from_be_bytes-dotted text octets a fits d e =
    let own : IsDotted text (octets_of a) = rw e (IsDotted-dotted a) in
    let same = IsIpv4Text_unique text (record { octets = octets })
    (record { octets = octets_of a }) d own in
    ap (λ (x : Ipv4Addr). from_be_bytes w32 x.octets) same ∙ from_be_bytes-to_be_bytes_4 a fits

-- digits are decoded to bytes
pub decode_of-below_256 : (word octets : List ℕ) → decode_of word ≡ Ok octets → (k : ℕ)
    → get_or octets k 0 < 256
decode_of-below_256 word octets e = (decode_of-ok word octets e).3

-- a word has four bytes, in either order
pub length-printed_octets : (order : Order) (a : ℕ) → length (printed_octets order a) ≡ 4
length-printed_octets Little a = refl
length-printed_octets Big a = refl
