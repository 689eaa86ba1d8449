-- Ranges of multicast groups, as an operator writes them: an address, a slash, and how many of its
-- leading bits all groups of the range have in common (RFC 4632, section 3.1).
use Rattle.std.specs.Prelude.{◌≡◌, ℕ, ◌-◌, ◌*◌, ◌%◌, ◌^◌, ◌<◌, ◌≤◌, ◌&&◌, nat_lt, nat_le}
use Rattle.std.specs.Prelude.{Bool, List, ◌++◌, codes, decimal}
use Rattle.mc_text.specs.Addr.{dotted}

-- how many groups a range of this length has
abbrev pub range_size : ℕ → ℕ
range_size length = 2 ^ (32 - length)

-- A range is its first address and its length, the number of leading bits. It is all of 224.0.0.0/4
-- or a part of it (RFC 5771, section 3), and the bits of its address past its length are zero.
pub record IsGroupRange (range : ℕ × ℕ) : Type 0 where
  pub low : 224 * 2 ^ 24 ≤ range.0
  pub high : range.0 < 240 * 2 ^ 24
  pub shortest : 4 ≤ range.1
  pub longest : range.1 ≤ 32
  pub host_bits : range.0 % range_size range.1 ≡ 0

-- how a range is written: `239.0.0.0/8`
abbrev pub range_text : ℕ × ℕ → List ℕ
range_text range = dotted range.0 ++ (codes "/" ++ decimal range.1)

-- whether the range has the group
abbrev pub has_group : (range : ℕ × ℕ) → (group : ℕ) → Bool
has_group range group = nat_le range.0 group && nat_lt (group - range.0) (range_size range.1)
