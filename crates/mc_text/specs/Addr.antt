-- IPv4 addresses (RFC 791, section 2.3). An address is a number of 32 bits, whose most significant
-- octet is its first: addresses are ordered as their octets are.
use Rattle.std.specs.Prelude.{◌≢◌, ℕ, ◌+◌, ◌*◌, ◌/◌, ◌<◌, ◌≤◌, ◌^◌, ◌==◌, ◌&&◌, not, nat_lt, nat_le}
use Rattle.std.specs.Prelude.{Bool, List}
use Rattle.std.specs.Int.{w32, to_be_bytes}
use Rattle.std.specs.Net.Text.{ipv4_text}

-- a number of 32 bits
abbrev pub IsAddr : ℕ → Type 0
IsAddr address = address < 2 ^ 32

-- the four octets of an address, the first one first
abbrev pub octets_of : ℕ → List ℕ
octets_of address = to_be_bytes w32 address

-- how an address is written: its octets in decimal without leading zeros, with dots between them
-- (RFC 1123, section 2.1)
abbrev pub dotted : ℕ → List ℕ
dotted address = ipv4_text (octets_of address)

-- a group that routers forward: 224.0.1.0 to 239.255.255.255 (RFC 5771, section 4)
abbrev pub IsForwardedGroup : ℕ → Type 0
IsForwardedGroup group = (224 * 2 ^ 24 + 2 ^ 8 ≤ group) × (group < 240 * 2 ^ 24)

-- whether an address is a group that routers forward, as a test that computes
abbrev pub is_forwarded_group : ℕ → Bool
is_forwarded_group group = nat_le (224 * 2 ^ 24 + 2 ^ 8) group && nat_lt group (240 * 2 ^ 24)

-- the first octet of an address
abbrev pub first_octet : ℕ → ℕ
first_octet address = address / 2 ^ 24

-- an address that a host may send from: its first octet is 1 to 223, and not 127 (RFC 1122, section
-- 3.2.1.3)
abbrev pub IsSource : ℕ → Type 0
IsSource address = (1 ≤ first_octet address) × (first_octet address ≤ 223) × (first_octet address ≢ 127)

-- whether an address is one that a host may send from, as a test that computes
abbrev pub is_source : ℕ → Bool
is_source address =
    (nat_le 1 (first_octet address) && nat_le (first_octet address) 223) && not (first_octet address == 127)
