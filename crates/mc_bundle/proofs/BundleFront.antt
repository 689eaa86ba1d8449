-- The first bytes of a text, as many as the greatest bundle and the longest line have, decide what
-- bundle it is read as.
use Rattle.std.proofs.Common.{◌≡◌, ℕ, zero, suc, ◌+◌, ◌-◌, ◌<◌, ◌≤◌, Bool, true, false, List, []}
use Rattle.std.proofs.Common.{◌∷◌}
use Rattle.std.proofs.Common.{cond, length, take, drop, Option, Some, None, Result, Ok, Err}
use Rattle.std.proofs.Common.{refl, sym, ap, subst, ◌∙◌, arith, inl, inr, length-take, slice_index}
use Rattle.std.specs.Prelude.{◌==◌, ◌||◌, nat_lt, nat_le, codes, position, if◌then◌else◌}
use Rattle.std.specs.Str.{bytes_eq}
use Rattle.std.proofs.lemmas.Bool.{cases_lt, or_parts, ltb-false, leb-true, leb-false, le-ltb}
use Rattle.std.proofs.lemmas.Bool.{lt-leb, ne_eqb}
use Rattle.std.proofs.lemmas.List.{take_all, take-take, drop-take, get_or-take}
use Rattle.std.proofs.lemmas.List.Quantifiers.{position-Some}
use Rattle.mc_bundle.specs.declared.bundle_fault.BundleFault.{BundleFault}
use Rattle.mc_bundle.specs.declared.bundle_fault.BundleFault.TheVariants as faults
use Rattle.mc_text.specs.Steps.{◌>>=◌}
use Rattle.mc_bundle.specs.Bundle.{PartText}
use Rattle.mc_bundle.specs.BundleReading.{BundlePlace, line_at, cut_line, parse_part_line, part_bytes_at}
use Rattle.mc_bundle.specs.BundleReading.{part_room, is_too_large, part_for_line, end_for_line}
use Rattle.mc_bundle.specs.BundleReading.{next_part_from, with_parts_after, parts_from, bundle_of}

-- ---- a part

-- a part, and the bytes after it cut to k
abbrev truncated_part : ℕ → Result (List ℕ × List ℕ) BundleFault → Result (List ℕ × List ℕ) BundleFault
truncated_part k (Ok found) = Ok (found.0, take k found.1)
truncated_part k (Err e) = Err e

abbrev part_or_fault : Bool → List ℕ → List ℕ → Result (List ℕ × List ℕ) BundleFault
part_or_fault ends bytes rest = if ends then Ok (bytes, rest) else Err faults.BadPartLine

part_or_fault-truncated : (k : ℕ) (ends : Bool) (bytes rest : List ℕ)
    → part_or_fault ends bytes (take k rest) ≡ truncated_part k (part_or_fault ends bytes rest)
part_or_fault-truncated k true bytes rest = refl
part_or_fault-truncated k false bytes rest = refl

part_bytes_at-truncated_by : (size k : ℕ) (rest : List ℕ) (short : Bool) → nat_le (length rest) size ≡ short
    → part_bytes_at size (take (size + 1 + k) rest) ≡ truncated_part k (part_bytes_at size rest)
unfolding part_bytes_at
part_bytes_at-truncated_by size k rest true is =
    let short = leb-true (length rest) size is in
    rw (take_all (size + 1 + k) rest (omega (arith, short)), is) refl
part_bytes_at-truncated_by size k rest false is =
    let long = leb-false (length rest) size is in
    let longer : nat_le (length (take (size + 1 + k) rest)) size ≡ false =
    lt-leb _ _ (omega (arith, long, length-take (size + 1 + k) rest)) in
    rw (
      longer,
      is,
      get_or-take (size + 1 + k) rest size 0 (omega arith),
      take-take size (size + 1 + k) rest (omega arith),
      drop-take (size + 1) k rest,
    ) (part_or_fault-truncated k (slice_index rest size == 10) (take size rest) (drop (size + 1) rest))

-- a part that ends before the cut is read as without the cut
part_bytes_at-truncated : (size k : ℕ) (rest : List ℕ)
    → part_bytes_at size (take (size + 1 + k) rest) ≡ truncated_part k (part_bytes_at size rest)
part_bytes_at-truncated size k rest = part_bytes_at-truncated_by size k rest (nat_le (length rest) size) refl

-- ---- a place

-- the bytes that may matter: the room that is left, and a line
abbrev readable_bytes : ℕ → ℕ
readable_bytes room = room + 96

-- the place, with its bytes cut to those that may matter
abbrev truncated : BundlePlace → BundlePlace
truncated p = record { parts = p.parts; room = p.room; rest = take (readable_bytes p.room) p.rest }

abbrev truncated_found : Option (PartText × BundlePlace) → Option (PartText × BundlePlace)
truncated_found None = None
truncated_found (Some found) = Some (found.0, truncated found.1)

abbrev truncated_result : Result (Option (PartText × BundlePlace)) BundleFault
    → Result (Option (PartText × BundlePlace)) BundleFault
truncated_result (Ok found) = Ok (truncated_found found)
truncated_result (Err e) = Err e

-- the part that was read, with the place after it
abbrev part_with_place : BundlePlace → List ℕ → List ℕ × ℕ → List ℕ × List ℕ
    → Result (Option (PartText × BundlePlace)) BundleFault
part_with_place p line header found =
    Ok (Some (
      record { name = header.0; bytes = found.0 },
      record {
        parts = p.parts - 1;
        room = p.room - part_room line header.1;
        rest = found.1;
      },
    ))

part_with_place-truncated : (p : BundlePlace) (line : List ℕ) (header : List ℕ × ℕ)
    (part : Result (List ℕ × List ℕ) BundleFault)
    → (truncated_part (readable_bytes (p.room - part_room line header.1)) part >>= part_with_place
    (truncated p) line header)
    ≡ truncated_result (part >>= part_with_place p line header)
part_with_place-truncated p line header (Ok found) = refl
part_with_place-truncated p line header (Err e) = refl

-- how many bytes are kept after a line, of which a part takes some
readable_bytes-after_line : (room line size : ℕ) → line < 96 → line + 1 + (size + 1) ≤ room
    → room + 96 - (line + 1) ≡ size + 1 + (room - (line + 1 + (size + 1)) + 96)
readable_bytes-after_line room line size short within = omega (arith, short, within)

-- a part that isn't too large is within the room
part_room-within_room : (p : BundlePlace) (line : List ℕ) (size : ℕ) → is_too_large p line size ≡ false
    → part_room line size ≤ p.room
part_room-within_room p line size is =
    let parts = or_parts ((p.parts == 0) || nat_lt 16777216 size)
    (nat_lt p.room (part_room line size)) is in
    ltb-false p.room (part_room line size) parts.1

part_for_line-truncated_by_size : (p : BundlePlace) (line after : List ℕ) (header : List ℕ × ℕ) (large : Bool)
    → length line < 96 → is_too_large p line header.1 ≡ large
    → part_for_line (truncated p) line (take (readable_bytes p.room - (length line + 1)) after) (Some header)
    ≡ truncated_result (part_for_line p line after (Some header))
part_for_line-truncated_by_size p line after header true short is = rw is refl
part_for_line-truncated_by_size p line after header false short is =
    let within : part_room line header.1 ≤ p.room = part_room-within_room p line header.1 is in
    rw (
      is,
      readable_bytes-after_line p.room (length line) header.1 short within,
      part_bytes_at-truncated header.1 (readable_bytes (p.room - part_room line header.1)) after,
    ) (part_with_place-truncated p line header (part_bytes_at header.1 after))

part_for_line-truncated : (p : BundlePlace) (line after : List ℕ) (header : Option (List ℕ × ℕ))
    → length line < 96
    → part_for_line (truncated p) line (take (readable_bytes p.room - (length line + 1)) after) header
    ≡ truncated_result (part_for_line p line after header)
part_for_line-truncated p line after None short = refl
part_for_line-truncated p line after (Some header) short =
    part_for_line-truncated_by_size p line after header (is_too_large p line header.1) short refl

suc-not_zero : (n : ℕ) → (suc n == 0) ≡ false
suc-not_zero n = ne_eqb (suc n) 0 (λ e. omega (arith, e))

length-take_is_zero : (k : ℕ) (after : List ℕ) → 0 < k
    → (length (take k after) == 0) ≡ (length after == 0)
length-take_is_zero zero after some = absurd (omega (arith, some))
length-take_is_zero (suc k) [] some = refl
length-take_is_zero (suc k) (b ∷ after) some = suc-not_zero (length (take k after))
    ∙ sym (suc-not_zero (length after))

abbrev end_or_fault : Bool → Result (Option (PartText × BundlePlace)) BundleFault
end_or_fault ended = if ended then Ok None else Err faults.AfterEnd

end_or_fault-truncated : (ended : Bool) → end_or_fault ended ≡ truncated_result (end_or_fault ended)
end_or_fault-truncated true = refl
end_or_fault-truncated false = refl

-- the end is read alike, if its line is within the room
end_for_line-truncated : (p : BundlePlace) (line after : List ℕ) (full : Bool) → length line < 96
    → nat_lt p.room 4 ≡ full
    → end_for_line (truncated p) (take (readable_bytes p.room - (length line + 1)) after)
    ≡ truncated_result (end_for_line p after)
end_for_line-truncated p line after true short is = rw is refl
end_for_line-truncated p line after false short is =
    let some = ltb-false p.room 4 is in
    rw (
      is,
      length-take_is_zero (readable_bytes p.room - (length line + 1)) after (omega (arith, some, short)),
    ) (end_or_fault-truncated (length after == 0))

end_or_part-truncated : (p : BundlePlace) (line after : List ℕ) (ends : Bool) → length line < 96
    → (cond ends (end_for_line (truncated p) (take (readable_bytes p.room - (length line + 1)) after))
    (part_for_line (truncated p) line (take (readable_bytes p.room - (length line + 1)) after)
    (parse_part_line line)))
    ≡ truncated_result (cond ends (end_for_line p after) (part_for_line p line after (parse_part_line line)))
end_or_part-truncated p line after true short =
    end_for_line-truncated p line after (nat_lt p.room 4) short refl
end_or_part-truncated p line after false short =
    part_for_line-truncated p line after (parse_part_line line) short

-- ---- a line

is_short-take : (k : ℕ) (rest : List ℕ) → 96 ≤ k
    → nat_lt (length (take k rest)) 96 ≡ nat_lt (length rest) 96
is_short-take k rest within =
    elim (cases_lt (length rest) 96) [
      | inl less ↦ ap (λ (bytes : List ℕ). nat_lt (length bytes) 96)
          (take_all k rest (omega (arith, less, within)))
      | inr more ↦
          le-ltb (length (take k rest)) 96 (omega (arith, more, within, length-take k rest))
          ∙ sym (le-ltb (length rest) 96 more)
    ]

drop-take_le : {A : Type 0} (n k : ℕ) (xs : List A) → n ≤ k
    → drop n (take k xs) ≡ take (k - n) (drop n xs)
drop-take_le n k xs within =
    let whole : n + (k - n) ≡ k = omega (arith, within) in
    subst (λ j. drop n (take j xs) ≡ take (k - n) (drop n xs)) whole (drop-take n (k - n) xs)

-- the part or the end after a line that was read
abbrev part_or_end_after : BundlePlace → Result (List ℕ × List ℕ) BundleFault
    → Result (Option (PartText × BundlePlace)) BundleFault
part_or_end_after p line =
    line >>= λ truncated. if bytes_eq truncated.0 (codes "end") then end_for_line p truncated.1
    else part_for_line p truncated.0 truncated.1 (parse_part_line truncated.0)

part_or_end_after-no_line : (p : BundlePlace) (short : Bool)
    → part_or_end_after (truncated p) (if short then Err faults.NoEnd else Err faults.BadPartLine)
    ≡ truncated_result (part_or_end_after p (if short then Err faults.NoEnd else Err faults.BadPartLine))
part_or_end_after-no_line p true = refl
part_or_end_after-no_line p false = refl

part_or_end_after-truncated : (p : BundlePlace) (at : Option ℕ)
    → position (λ b. b == 10) (take 96 p.rest) ≡ at
    → part_or_end_after (truncated p) (cut_line (truncated p).rest at)
    ≡ truncated_result (part_or_end_after p (cut_line p.rest at))
part_or_end_after-truncated p None is =
    rw (is_short-take (readable_bytes p.room) p.rest (omega arith))
    (part_or_end_after-no_line p (nat_lt (length p.rest) 96))
part_or_end_after-truncated p (Some n) is =
    let found = (position-Some (λ b. b == 10) (take 96 p.rest) n 0 is).0 in
    let short : n < 96 = omega (arith, found, length-take 96 p.rest) in
    let size : length (take n p.rest) ≡ n =
    omega (arith, found, length-take 96 p.rest, length-take n p.rest) in
    rw (
      take-take n (readable_bytes p.room) p.rest (omega (arith, short)),
      drop-take_le (n + 1) (readable_bytes p.room) p.rest (omega (arith, short)),
    ) (subst (λ (j : ℕ). part_or_end_after (truncated p)
    (Ok (take n p.rest, take (readable_bytes p.room - (j + 1)) (drop (n + 1) p.rest)))
    ≡ truncated_result (part_or_end_after p (Ok (take n p.rest, drop (n + 1) p.rest)))) size
    (end_or_part-truncated p (take n p.rest) (drop (n + 1) p.rest)
    (bytes_eq (take n p.rest) (codes "end")) (omega (arith, size, short))))

-- a place with its bytes cut to those that may matter is read as with all
next_part_from-truncated : (p : BundlePlace)
    → next_part_from (truncated p) ≡ truncated_result (next_part_from p)
unfolding next_part_from line_at
next_part_from-truncated p =
    rw (take-take 96 (readable_bytes p.room) p.rest (omega arith))
    (part_or_end_after-truncated p (position (λ b. b == 10) (take 96 p.rest)) refl)

-- ---- the whole

-- the part that was read at a place, and those after it
abbrev found_and_parts_after : ℕ → Result (Option (PartText × BundlePlace)) BundleFault
    → Result (List PartText) BundleFault
found_and_parts_after n found =
    found >>= λ found. with_parts_after found (λ place. parts_from n place.room place.rest)

abbrev found_and_no_parts_after : Result (Option (PartText × BundlePlace)) BundleFault
    → Result (List PartText) BundleFault
found_and_no_parts_after found = found >>= λ _. Ok []

found_and_no_parts_after-truncated : (found : Result (Option (PartText × BundlePlace)) BundleFault)
    → found_and_no_parts_after (truncated_result found) ≡ found_and_no_parts_after found
found_and_no_parts_after-truncated (Ok found) = refl
found_and_no_parts_after-truncated (Err e) = refl

found_and_parts_after-truncated : (n : ℕ) (found : Result (Option (PartText × BundlePlace)) BundleFault)
    → ((room : ℕ) (rest : List ℕ)
    → parts_from n room (take (readable_bytes room) rest) ≡ parts_from n room rest)
    → found_and_parts_after n (truncated_result found) ≡ found_and_parts_after n found
found_and_parts_after-truncated n (Err e) same = refl
found_and_parts_after-truncated n (Ok None) same = refl
found_and_parts_after-truncated n (Ok (Some found)) same =
    ap (λ (read : Result (List PartText) BundleFault). read >>= λ parts. Ok (found.0 ∷ parts))
    (same found.1.room found.1.rest)

parts_from-truncated : (n room : ℕ) (rest : List ℕ)
    → parts_from n room (take (readable_bytes room) rest) ≡ parts_from n room rest
unfolding parts_from
parts_from-truncated zero room rest =
    rw (next_part_from-truncated (record { parts = 0; room = room; rest = rest }))
    (found_and_no_parts_after-truncated (next_part_from (record { parts = 0; room = room; rest = rest })))
parts_from-truncated (suc n) room rest =
    rw (next_part_from-truncated (record { parts = suc n; room = room; rest = rest }))
    (found_and_parts_after-truncated n (next_part_from (record { parts = suc n; room = room; rest = rest }))
    (parts_from-truncated n))

abbrev parts_if_magic : Bool → List ℕ → Result (List PartText) BundleFault
parts_if_magic magic rest = if magic then parts_from 1538 268435439 rest else Err faults.NoMagic

parts_if_magic-truncated : (magic : Bool) (rest : List ℕ)
    → parts_if_magic magic (take (readable_bytes 268435439) rest) ≡ parts_if_magic magic rest
parts_if_magic-truncated true rest = parts_from-truncated 1538 268435439 rest
parts_if_magic-truncated false rest = refl

-- a text is read as its first 268,435,552 bytes are
pub bundle_of-take : (text : List ℕ) → bundle_of (take 268435552 text) ≡ bundle_of text
unfolding bundle_of
bundle_of-take text =
    rw (
      take-take 17 268435552 text (omega arith),
      drop-take_le 17 268435552 text (omega arith),
    ) (parts_if_magic-truncated (bytes_eq (take 17 text) (codes "mcaudit bundle 1\n")) (drop 17 text))
