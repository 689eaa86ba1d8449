-- Which texts can be the names of LANs, routers and devices (docs/FORMATS.md).
use Rattle.std.specs.Prelude.{ℕ, ◌==◌, ◌&&◌, not, nat_le, Bool, List, length, position, codes}
use Rattle.std.specs.Prelude.{Option}
use Rattle.std.specs.List.{list_all}
use Rattle.std.specs.Str.{bytes_eq}
use Rattle.mc_text.specs.Names.{is_device_name, is_part_byte}

-- whether a byte may be in a name: a letter, a digit, `-`, `_` or `.`, which are the bytes of a
-- part's name in a bundle, but for `/`
abbrev pub is_name_byte : ℕ → Bool
is_name_byte byte = is_part_byte byte && not (byte == 47)

-- whether a LAN or a router can have the name: 1 to 32 letters, digits, `-`, `_` or `.`
unfoldable pub is_name : List ℕ → Bool
is_name text = (nat_le 1 (length text) && nat_le (length text) 32) && list_all is_name_byte text

-- whether a device can have the name; none has `none`, which the kernel writes for a vif without a
-- device
unfoldable pub is_device : List ℕ → Bool
is_device text = is_device_name text && not (bytes_eq text (codes "none"))

-- the place of the text among the names, counted from 0
abbrev pub index_of : List ℕ → List (List ℕ) → Option ℕ
index_of text names = position (λ name. bytes_eq name text) names
