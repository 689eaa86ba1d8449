-- A scan over a text, byte by byte.
use Rattle.std.proofs.Common.{◌≡◌, ℕ, ◌+◌, ◌-◌, ◌*◌, ◌<◌, ◌≤◌, Bool, true, false, List, length, drop}
use Rattle.std.proofs.Common.{slice_index_or, sym, ◌∙◌, arith, refl}
use Rattle.std.specs.Prelude.{◌==◌, ◌&&◌, ◌||◌, nat_le, fold, if◌then◌else◌}
use Rattle.std.proofs.lemmas.List.{at_drop_more, at_drop_all}
use Rattle.mc_topology.specs.declared.read.bounds.Scan.{Scan}
use Rattle.mc_topology.specs.declared.read.bounds.LinePart.{LinePart}
use Rattle.mc_topology.specs.declared.read.bounds.LinePart.TheVariants.{Margin, Header, Rest}
use Rattle.mc_topology.specs.declared.read.bounds.LexState.{LexState}
use Rattle.mc_topology.specs.Bounds.{after_byte, is_outside, is_skipped_in_header, nesting_after}
use Rattle.mc_topology.specs.Bounds.{header_after, is_mark, with_byte, initial_scan, is_bounded}

-- after this many bytes, scanning the rest from this scan is scanning the whole text
pub record IsScannedTo (text : List ℕ) (scan : Scan) (place : ℕ) : Type 0 where
  pub same : fold with_byte scan (drop place text) ≡ fold with_byte initial_scan text
  pub nested : scan.nesting ≤ place
  pub short : scan.header ≤ place
  pub cheap : scan.compared ≤ place * 16777216
  pub few : scan.marks ≤ place

-- a number that a byte increases by one at most,
if-le_one_more : (b : Bool) (n m : ℕ) → m ≤ n + 1 → (if b then m else n) ≤ n + 1
if-le_one_more true n m h = h
if-le_one_more false n m h = omega arith

-- or by another number
if_add-le : (b : Bool) (n m : ℕ) → (if b then n + m else n) ≤ n + m
if_add-le true n m = omega arith
if_add-le false n m = omega arith

-- or decreases by one,
if_sub-le_one_more : (b : Bool) (n : ℕ) → (if b then n - 1 else n) ≤ n + 1
if_sub-le_one_more true n = omega arith
if_sub-le_one_more false n = omega arith

-- or either,
nested_if-le_one_more : (b d : Bool) (n : ℕ) → (if b then n + 1 else if d then n - 1 else n) ≤ n + 1
nested_if-le_one_more true d n = omega arith
nested_if-le_one_more false d n = if_sub-le_one_more d n

-- so that a header grows by at most one byte
header_after-le_one_more : (part : LinePart) (header : ℕ) (state : LexState) (c : ℕ)
    → header_after part header state c ≤ header + 1
header_after-le_one_more Margin header state c = if-le_one_more (c == 91) header 1 (omega arith)
header_after-le_one_more Header header state c = kept (is_skipped_in_header state c) header
  where
    kept : (b : Bool) (n : ℕ) → (if b then n else n + 1) ≤ n + 1
    kept true n = omega arith
    kept false n = omega arith
header_after-le_one_more Rest header state c = omega arith

-- how much a byte increases each number of a scan at most
pub with_byte-growth : (scan : Scan) (c : ℕ) → ((with_byte scan c).nesting ≤ scan.nesting + 1)
    × ((with_byte scan c).header ≤ scan.header + 1)
    × ((with_byte scan c).compared ≤ scan.compared + scan.header)
    × ((with_byte scan c).marks ≤ scan.marks + 1)
unfolding with_byte
with_byte-growth scan c =
    let state = after_byte scan.state c in
    let outside = is_outside state in (
      if-le_one_more outside scan.nesting (nesting_after scan.nesting c)
          (nested_if-le_one_more (c == 91 || c == 123) (c == 93 || c == 125) scan.nesting),
      header_after-le_one_more scan.part scan.header state c,
      if_add-le (outside && c == 61) scan.compared scan.header,
      if-le_one_more (outside && is_mark c) scan.marks (scan.marks + 1) (omega arith),
    )

-- one more byte is scanned, by which each count grows by no more than its bound
pub IsScannedTo-more : (text : List ℕ) (scan : Scan) (place : ℕ) → IsScannedTo text scan place
    → place < length text → length text ≤ 16777216
    → IsScannedTo text (with_byte scan (slice_index_or text place 0)) (place + 1)
IsScannedTo-more text scan place is inside small =
    let grown = with_byte-growth scan (slice_index_or text place 0) in
    record {
      same =
          sym (at_drop_more (λ rest. fold with_byte scan rest) text place 0 inside) ∙ is.same;
      nested = omega (arith, grown.0, is.nested);
      short = omega (arith, grown.1, is.short);
      cheap = omega (arith, grown.2, is.cheap, is.short, inside, small);
      few = omega (arith, grown.3, is.few);
    }

-- when all bytes are scanned, the scan is that of the whole text
IsScannedTo-all : (text : List ℕ) (scan : Scan) (place : ℕ) → IsScannedTo text scan place
    → length text ≤ place → scan ≡ fold with_byte initial_scan text
IsScannedTo-all text scan place is ended =
    sym (at_drop_all (λ rest. fold with_byte scan rest) text place ended) ∙ is.same

-- the bounds are tested by the scan of the whole text
pub is_bounded-all : (text : List ℕ) (scan : Scan) (place : ℕ) → IsScannedTo text scan place
    → length text ≤ place
    → is_bounded text ≡ (nat_le scan.marks 131072 && nat_le scan.compared 268435456)
unfolding is_bounded
is_bounded-all text scan place is ended = rw (IsScannedTo-all text scan place is ended) refl
