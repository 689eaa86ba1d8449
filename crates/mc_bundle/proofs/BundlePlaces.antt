-- The places of a bundle: a part with the place after it, or the end.
use Rattle.std.proofs.Common.{arith, ◌≡◌, ℕ, suc, ◌+◌, ◌<◌, ◌≤◌, Bool, true, false, cond, List, ◌∷◌, ◌++◌}
use Rattle.std.proofs.Common.{length, Option, Some, None, Ok, Err, refl, sym, append_assoc}
use Rattle.std.specs.Prelude.{codes}
use Rattle.std.specs.Fmt.{decimal}
use Rattle.std.specs.Str.{bytes_eq}
use Rattle.std.proofs.Math.Seq.{drop-append-add, get_or-append_seam}
use Rattle.std.proofs.lemmas.Bool.{le-ltb}
use Rattle.std.proofs.lemmas.Bool.Decides.{nat_tests}
use Rattle.std.proofs.lemmas.Fmt.{length-decimal-le}
use Rattle.std.proofs.lemmas.List.{take_at, length-append, length-take, nil_from_length}
use Rattle.std.proofs.lemmas.Slice.Eq.{bytes_eq-Decides}
use Rattle.mc_bundle.specs.declared.bundle_fault.BundleFault.{BundleFault}
use Rattle.mc_bundle.specs.Bundle.{PartText, IsPartName, part_line, part_spelling, max_line, max_part}
use Rattle.mc_bundle.specs.BundleReading.{IsMemory, BundlePlace, line_at, parse_part_line}
use Rattle.mc_bundle.specs.BundleReading.{part_bytes_at, part_room}
use Rattle.mc_bundle.specs.BundleReading.{is_too_large, place_after, part_for_line, end_for_line}
use Rattle.mc_bundle.specs.BundleReading.{next_part_from}
use Rattle.mc_text.proofs.StepLemmas.{bind_ok}
use Rattle.mc_text.proofs.ByteLemmas.{split_at_byte}
use Rattle.mc_bundle.proofs.BundleWords.{IsLine, line_at-sound, line_at-complete}
use Rattle.mc_bundle.proofs.BundleWords.{parse_part_line-sound}
use Rattle.mc_bundle.proofs.BundleWords.{parse_part_line-complete, HasNoByte-part_line}

-- ---- a part's bytes

-- the bytes that are read as a part's are at the front, before a line feed and the rest
part_bytes_at-sound : (size : ℕ) (rest : List ℕ) (taken : List ℕ × List ℕ)
    → part_bytes_at size rest ≡ Ok taken
    → (length taken.0 ≡ size) × (rest ≡ taken.0 ++ (codes "\n" ++ taken.1))
unfolding part_bytes_at
part_bytes_at-sound size rest taken e =
    grind (arith, nat_tests, length-take size rest, split_at_byte 10 rest size)

-- bytes at the front, before a line feed, are read as a part's
pub part_bytes_at-complete : (bytes after : List ℕ)
    → part_bytes_at (length bytes) (bytes ++ (codes "\n" ++ after)) ≡ Ok (bytes, after)
unfolding part_bytes_at
part_bytes_at-complete bytes after =
    let whole = take_at bytes (10 ∷ after) (length bytes) refl in
    let back = drop-append-add bytes (10 ∷ after) 1 in
    grind (arith, nat_tests, length-append, whole, get_or-append_seam bytes 10 after 0, back)

-- ---- places

-- the part is at the place, and `next` is the place after it
pub record HasPart (place : BundlePlace) (part : PartText) (next : BundlePlace) : Type 0 where
  pub named : IsPartName part.name
  -- the part is small enough
  pub small : length part.bytes ≤ max_part
  pub counted : place.parts ≡ suc next.parts
  -- there is room for it
  pub room : place.room ≡ length (part_spelling part) + next.room
  pub rest : place.rest ≡ part_spelling part ++ next.rest

-- the last line is at the place, and nothing follows it
pub record IsLastLine (place : BundlePlace) : Type 0 where
  pub room : 4 ≤ place.room
  pub rest : place.rest ≡ codes "end\n"

-- the part is at the place with the place after it, or the end is
abbrev pub IsPartOrEnd : BundlePlace → Option (PartText × BundlePlace) → Type 0
IsPartOrEnd place None = IsLastLine place
IsPartOrEnd place (Some found) = HasPart place found.0 found.1

-- the length of a part with its line
length-part_spelling : (part : PartText)
    → length (part_spelling part) ≡ part_room (part_line part.name (length part.bytes))
    (length part.bytes)
length-part_spelling part = simp length-append (omega arith)

-- a part before other bytes, with its line cut off or as a whole
append-line_and_bytes : (line bytes after : List ℕ)
    → line ++ (codes "\n" ++ (bytes ++ (codes "\n" ++ after)))
    ≡ ((line ++ codes "\n") ++ (bytes ++ codes "\n")) ++ after
append-line_and_bytes line bytes after = sym (simp append_assoc)

-- a part line and bytes that are not too large are read as the part at the place
part_for_line-has_part : (place : BundlePlace) (line name bytes back after : List ℕ) (size : ℕ)
    → IsPartName name
    → line ≡ part_line name size → length bytes ≡ size → back ≡ bytes ++ (codes "\n" ++ after)
    → is_too_large place line size ≡ false → place.rest ≡ line ++ (codes "\n" ++ back)
    → HasPart place (record { name = name; bytes = bytes })
    (place_after place (part_room line size) after)
part_for_line-has_part place line name bytes back after size named spelled long back-is fits rest =
    let part : PartText = record { name = name; bytes = bytes } in
    let taken : length (part_spelling part) ≡ part_room line size =
    rw (spelled, ← long) (length-part_spelling part) in
    grind (arith, nat_tests, append-line_and_bytes line bytes after)

-- the part that is read for a line is at the place
part_for_line-sound : (place : BundlePlace) (line after : List ℕ) (header : List ℕ × ℕ)
    (found : Option (PartText × BundlePlace)) → parse_part_line line ≡ Some header
    → IsLine place.rest line after
    → part_for_line place line after (Some header) ≡ Ok found → IsPartOrEnd place found
part_for_line-sound place line after header found header-is cut e =
    let bytes = part_bytes_at-sound header.1 after in
    grind (
      arith,
      nat_tests,
      bytes,
      parse_part_line-sound line header header-is,
      part_for_line-has_part place
          line header.0,
    )

-- the end that is read for a line is at the place
end_for_line-sound : (place : BundlePlace) (after : List ℕ) (found : Option (PartText × BundlePlace))
    → place.rest ≡ codes "end" ++ (codes "\n" ++ after) → end_for_line place after ≡ Ok found
    → IsPartOrEnd place found
end_for_line-sound place after found rest e =
    grind (arith, nat_tests, nil_from_length after)

-- what is read for a line, a part or the end, is at the place
end_or_part-sound : (place : BundlePlace) (cut : List ℕ × List ℕ) (ends : Bool) (header : Option (List ℕ × ℕ))
    (found : Option (PartText × BundlePlace)) → bytes_eq cut.0 (codes "end") ≡ ends
    → parse_part_line cut.0 ≡ header → IsLine place.rest cut.0 cut.1
    → cond ends (end_for_line place cut.1) (part_for_line place cut.0 cut.1 header) ≡ Ok found
    → IsPartOrEnd place found
end_or_part-sound place cut ends header found ended header-is line e =
    let end = (bytes_eq-Decides cut.0 (codes "end")).0 in
    grind (arith, end_for_line-sound place cut.1 found, part_for_line-sound place cut.0 cut.1, end)

-- what is read at a place is there
pub next_part_from-sound : (place : BundlePlace) (found : Option (PartText × BundlePlace))
    → next_part_from place ≡ Ok found
    → IsPartOrEnd place found
unfolding next_part_from
next_part_from-sound place found e =
    let cut = bind_ok (line_at place.rest) _ found e in
    end_or_part-sound place cut.0 _ _ found refl refl (line_at-sound place.rest cut.0 cut.1) cut.2

-- the end at a place is read
pub next_part_from-at_end : (place : BundlePlace) → IsLastLine place → next_part_from place ≡ Ok None
unfolding next_part_from line_at
next_part_from-at_end place h = rw (h.rest, le-ltb _ _ h.room) refl

-- a part's line is shorter than the greatest line
length-part_line : (name : List ℕ) (size : ℕ) → IsPartName name → size ≤ max_part
    → length (part_line name size) < max_line
length-part_line name size h small =
    let digits : length (decimal size) ≤ 8 =
    length-decimal-le 8 size (omega arith) (omega arith) (omega arith) in
    simp length-append (omega (arith, h.short, digits))

-- the part at a place is read
pub next_part_from-at_part : (place : BundlePlace) (part : PartText) (next : BundlePlace)
    → HasPart place part next
    → next_part_from place ≡ Ok (Some (part, next))
unfolding next_part_from
next_part_from-at_part place part next h =
    let size = length part.bytes in
    let line = part_line part.name size in
    let after = part.bytes ++ (codes "\n" ++ next.rest) in
    let wide : size < 18446744073709551616 = omega (arith, h.small) in
    let cut : line_at place.rest ≡ Ok (line, after) =
    rw (h.rest, ← append-line_and_bytes line part.bytes next.rest)
    (line_at-complete line after (HasNoByte-part_line part.name size h.named wide)
    (length-part_line part.name size h.named h.small)) in
    let header = parse_part_line-complete part.name size h.named wide in
    let taken = length-part_spelling part in
    grind (arith, nat_tests, cut, header, taken, part_bytes_at-complete part.bytes next.rest)

-- ---- faults at a place

-- a fault of the line at a place is the fault of the place
pub next_part_from-line_fault : (place : BundlePlace) (fault : BundleFault)
    → (¬ IsMemory fault → line_at place.rest ≡ Err fault)
    → ¬ IsMemory fault → next_part_from place ≡ Err fault
unfolding next_part_from
next_part_from-line_fault place fault h not_oom = rw (h not_oom) refl

-- a fault of the end at a place is the fault of the place
pub next_part_from-end_fault : (place : BundlePlace) (line after : List ℕ) (fault : BundleFault)
    → line_at place.rest ≡ Ok (line, after) → bytes_eq line (codes "end") ≡ true
    → (¬ IsMemory fault → end_for_line place after ≡ Err fault)
    → ¬ IsMemory fault → next_part_from place ≡ Err fault
unfolding next_part_from
next_part_from-end_fault place line after fault at is h not_oom = rw (at, is, h not_oom) refl
