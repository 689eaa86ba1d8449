-- Well-formed messages. The checksum is the 16-bit one's complement of the one's complement sum of
-- the whole message (RFC 3376, section 4.2.2; RFC 1071). So the receiver's sum, with the checksum
-- among its words, has ones in all 16 bits: it is a multiple of 65,535 other than zero.
use Rattle.std.specs.Prelude.{ℕ, ◌+◌, ◌*◌, ◌%◌, ◌≤◌, ◌==◌, ◌&&◌, nat_lt, Bool, IsTrue, List, [], ◌∷◌}
use Rattle.std.specs.Prelude.{length}

-- the sum of the message's 16-bit words, of which the high byte comes first; an odd last byte is
-- the high byte of a word
unfoldable pub word_sum : List ℕ → ℕ
word_sum [] = 0
word_sum (last ∷ []) = 256 * last
word_sum (high ∷ low ∷ rest) = 256 * high + low + word_sum rest

-- whether the checksum is right: the one's complement sum of the words has ones in all 16 bits
abbrev pub is_checksum_right : List ℕ → Bool
is_checksum_right bytes = nat_lt 0 (word_sum bytes) && (word_sum bytes % 65535 == 0)

-- a message is well formed: it has at least the 8 bytes of every IGMP message (RFC 2236, section
-- 2), and its checksum is right
pub record IsWellFormed (bytes : List ℕ) : Type 0 where
  pub long_enough : 8 ≤ length bytes
  pub checksum : IsTrue (is_checksum_right bytes)
