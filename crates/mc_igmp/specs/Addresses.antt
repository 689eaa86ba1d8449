-- Consecutive addresses, as those of the sources in a group record (RFC 3376, section 4.2.9): each
-- of four bytes, the most significant first.
use Rattle.std.specs.Prelude.{ℕ, List, [], ◌∷◌}
use Rattle.std.specs.Int.{w32, from_be_bytes}

-- the addresses that the bytes are, one after another; up to three bytes at the end are ignored
unfoldable pub addresses_in : List ℕ → List ℕ
addresses_in (a ∷ b ∷ c ∷ d ∷ rest) = from_be_bytes w32 (a ∷ b ∷ c ∷ d ∷ []) ∷ addresses_in rest
addresses_in _ = []
