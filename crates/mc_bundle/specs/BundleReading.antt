-- What a text is read as, from its front: the parts of a bundle (docs/FORMATS.md), or the first
-- fault.
use Rattle.std.specs.Prelude.{ℕ, zero, suc, ◌+◌, ◌-◌, ◌==◌, ◌&&◌, ◌||◌, nat_lt, nat_le}
use Rattle.std.specs.Prelude.{Bool, List, [], ◌∷◌, length, take, drop, slice_index, position, codes}
use Rattle.std.specs.Prelude.{Option, Some, None, Result, Ok, Err, if◌then◌else◌}
use Rattle.std.specs.List.{list_all}
use Rattle.std.specs.Str.{bytes_eq}
use Rattle.std.specs.Str.Parse.{digits_value}
use Rattle.mc_bundle.specs.declared.bundle_fault.BundleFault.{BundleFault}
use Rattle.mc_bundle.specs.declared.bundle_fault.BundleFault.TheVariants as faults
use Rattle.mc_text.specs.Number.{is_plain_decimal}
use Rattle.mc_text.specs.Steps as Steps
use Rattle.mc_text.specs.Steps.{◌>>=◌}
use Rattle.mc_text.specs.Names.{is_part_byte}
use Rattle.mc_bundle.specs.Bundle.{PartText, max_name, max_line, max_part, max_bundle}
use Rattle.mc_bundle.specs.Bundle.{max_parts}

-- the fault is that memory ran out, which may happen with every text
abbrev pub IsMemory : BundleFault → Type 0
IsMemory faults.Memory = Unit {0}
IsMemory fault = ⊥

-- the function's result, seen through a view, is the result of reading, unless memory ran out
abbrev pub Gives : {X Y : Type 0} → (X → Y) → Result X BundleFault → Result Y BundleFault → Type 0
Gives = Steps.Gives IsMemory

-- ---- lines

-- The bytes before the line feed at a place, and those after it. Without a line feed the text ends
-- too early if fewer bytes are left than the longest line has, and else the line is too long.
abbrev pub cut_line : List ℕ → Option ℕ → Result (List ℕ × List ℕ) BundleFault
cut_line rest (Some place) = Ok (take place rest, drop (place + 1) rest)
cut_line rest None =
    if nat_lt (length rest) max_line then Err faults.NoEnd else Err faults.BadPartLine

-- the line at the front of the bytes, and the bytes after its line feed
unfoldable pub line_at : List ℕ → Result (List ℕ × List ℕ) BundleFault
line_at rest = cut_line rest (position (λ byte. byte == 10) (take max_line rest))

-- whether the bytes are a part's name: 1 to 64 letters, digits, `-`, `_`, `.` and `/`
abbrev pub is_part_name : List ℕ → Bool
is_part_name name =
    nat_le 1 (length name) && nat_le (length name) max_name && list_all is_part_byte name

-- the name and the length that two words write, if the first is a part's name and the second a
-- number without leading zeros
abbrev pub name_and_length : (name word : List ℕ) → Option (List ℕ × ℕ)
name_and_length name word =
    if is_part_name name && is_plain_decimal word then Some (name, digits_value 10 word) else None

-- the name before the space at a place and the length after it, if they are a name and a length
abbrev pub cut_words : List ℕ → Option ℕ → Option (List ℕ × ℕ)
cut_words words None = None
cut_words words (Some place) = name_and_length (take place words) (drop (place + 1) words)

-- the name and the length in a part's line without its `part `, on both sides of the first space
unfoldable pub parse_name_and_length : List ℕ → Option (List ℕ × ℕ)
parse_name_and_length words = cut_words words (position (λ byte. byte == 32) words)

-- the name and the length in a line, if it is a part's line
unfoldable pub parse_part_line : List ℕ → Option (List ℕ × ℕ)
parse_part_line line =
    if bytes_eq (take 5 line) (codes "part ") then parse_name_and_length (drop 5 line) else None

-- ---- places

-- a place in a bundle: how many parts and how many bytes may still come, and the bytes that follow
pub record BundlePlace : Type 0 where
  pub parts : ℕ
  pub room : ℕ
  pub rest : List ℕ

-- the bytes of a part of this size at the front, and those after the line feed that follows them
unfoldable pub part_bytes_at : (size : ℕ) → (rest : List ℕ) → Result (List ℕ × List ℕ) BundleFault
part_bytes_at size rest =
    if nat_le (length rest) size then Err faults.Truncated
    else if slice_index rest size == 10 then Ok (take size rest, drop (size + 1) rest)
    else Err faults.BadPartLine

-- how many bytes a part of this size and its line take, each with its line feed
abbrev pub part_room : (line : List ℕ) → (size : ℕ) → ℕ
part_room line size = length line + 1 + (size + 1)

-- whether this part is over a limit: no more parts may come, it is larger than any may be, or it
-- doesn't fit into the room that the bundle has left
abbrev pub is_too_large : BundlePlace → (line : List ℕ) → (size : ℕ) → Bool
is_too_large place line size =
    (place.parts == 0) || nat_lt max_part size || nat_lt place.room (part_room line size)

-- the place after a part that took `taken` bytes with its line, where `rest` follows
abbrev pub place_after : BundlePlace → (taken : ℕ) → (rest : List ℕ) → BundlePlace
place_after place taken rest =
    record { parts = place.parts - 1; room = place.room - taken; rest = rest }

-- the part that begins with a line of this name and length, before the bytes `after`, and the place
-- after it
abbrev pub part_for_line : BundlePlace → (line after : List ℕ) → Option (List ℕ × ℕ)
    → Result (Option (PartText × BundlePlace)) BundleFault
part_for_line place line after None = Err faults.BadPartLine
part_for_line place line after (Some header) =
    if is_too_large place line header.1 then Err faults.TooLarge
    else (part_bytes_at header.1 after >>= λ found.
    let part : PartText = record { name = header.0; bytes = found.0 } in
    Ok (Some (part, place_after place (part_room line header.1) found.1)))

-- nothing, at the line `end`: its four bytes have to fit into the bundle, and no byte may follow
abbrev pub end_for_line : BundlePlace → List ℕ → Result (Option (PartText × BundlePlace)) BundleFault
end_for_line place after =
    if nat_lt place.room 4 then Err faults.TooLarge
    else if length after == 0 then Ok None
    else Err faults.AfterEnd

-- the part at a place, and the place after it, or nothing at the end of the bundle
unfoldable pub next_part_from : BundlePlace → Result (Option (PartText × BundlePlace)) BundleFault
next_part_from place =
    line_at place.rest >>= λ cut.
    if bytes_eq cut.0 (codes "end") then end_for_line place cut.1
    else part_for_line place cut.0 cut.1 (parse_part_line cut.0)

-- the part that was found at a place, and after it those that follow; at the end there are none
abbrev pub with_parts_after : Option (PartText × BundlePlace)
    → (BundlePlace → Result (List PartText) BundleFault)
    → Result (List PartText) BundleFault
with_parts_after None next = Ok []
with_parts_after (Some found) next = next found.1 >>= λ parts. Ok (found.0 ∷ parts)

-- the parts at the front of the bytes `rest`, of which no more than `parts` may come, and no more
-- than `room` bytes with their lines
unfoldable pub parts_from : (parts room : ℕ) → (rest : List ℕ) → Result (List PartText) BundleFault
parts_from zero room rest = next_part_from (record { parts = 0; room = room; rest = rest }) >>= λ _. Ok []
parts_from (suc fewer) room rest =
    next_part_from (record { parts = suc fewer; room = room; rest = rest }) >>= λ found.
    with_parts_after found (λ place. parts_from fewer place.room place.rest)

-- the parts of the bundle that a text is, which begins with a line of 17 bytes
unfoldable pub bundle_of : List ℕ → Result (List PartText) BundleFault
bundle_of text =
    if bytes_eq (take 17 text) (codes "mcaudit bundle 1\n")
    then parts_from max_parts (max_bundle - 17) (drop 17 text)
    else Err faults.NoMagic
