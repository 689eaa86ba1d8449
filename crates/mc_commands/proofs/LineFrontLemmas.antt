-- How a byte of a text changes the front of a line that is read from it.
use Rattle.std.proofs.Common.{◌≡◌, ℕ, zero, suc, ◌+◌, ◌-◌, ◌≤◌, true, false, List, [], ◌∷◌, ◌++◌, length}
use Rattle.std.proofs.Common.{take, Bool, Option, Some, None, Result, Ok, Err, IfOk, IfSome, option_map}
use Rattle.std.proofs.Common.{ap, ◌∙◌, refl, sym, arith}
use Rattle.std.proofs.Math.Seq.{take-append-add}
use Rattle.std.specs.Io.KnownBytes.{Consumes, IsAtEnd}
use Rattle.std.proofs.lemmas.List.{append-nil, take-append-le, take_all}
use Rattle.mc_files.specs.Files.{FileText, file_named}
use Rattle.mc_commands.specs.LineFront.{TakesPiece, front_after_more, line_after_feeds, line_front}
use Rattle.mc_commands.specs.LineFront.{first_100_bytes}
use Rattle.mc_commands.specs.RefusalText.{IsFrontInFile}
use Rattle.mc_commands.specs.declared.refusals.line_front.LineFront.{LineFront}

-- the front is complete where the line ends, or the text,
front_after_more-whole_front : (front : List ℕ) → length front ≤ 100 → first_100_bytes (front ++ []) ≡ front
front_after_more-whole_front front few = ap (take 100) (append-nil front) ∙ take_all 100 front few

-- the line ends at a line feed
pub takes_piece-line_feed : (s : LineFront) (b : ℕ) → s.before ≡ 0 → b ≡ 10 → length s.front.items ≤ 100
    → TakesPiece s s (b ∷ []) true
takes_piece-line_feed s b here feed few = λ more.
    ap (λ c. first_100_bytes (s.front.items ++ line_after_feeds s.before (c ∷ more))) feed
    ∙ ap (λ n. first_100_bytes (s.front.items ++ line_after_feeds n (10 ∷ more))) here
    ∙ front_after_more-whole_front s.front.items few

-- or the front has its greatest length
pub takes_piece-front_full : (s : LineFront) (b : ℕ) → 100 ≤ length s.front.items → length s.front.items ≤ 100
    → TakesPiece s s (b ∷ []) true
takes_piece-front_full s b full few = λ more.
    take-append-le 100 s.front.items (line_after_feeds s.before (b ∷ more)) full
    ∙ take_all 100 s.front.items few

-- if nothing more comes, the front is what was taken so far
pub front_after_more-nothing : (s : LineFront) → length s.front.items ≤ 100 → front_after_more s []
    ≡ s.front.items
front_after_more-nothing s few = by s.before
  where
    by : (n : ℕ) → first_100_bytes (s.front.items ++ line_after_feeds n []) ≡ s.front.items
    by zero = front_after_more-whole_front s.front.items few
    by (suc n) = front_after_more-whole_front s.front.items few

-- ---- in a file that is read in pieces

-- the bytes after a piece, if they are known
pub left_after_piece-known : (old new : Option (List ℕ)) (rest piece : List ℕ) → old ≡ Some rest
    → Consumes old new piece
    → (next : List ℕ) × (new ≡ Some next) × (rest ≡ piece ++ next)
left_after_piece-known None new rest piece is read = absurd cc
left_after_piece-known (Some bytes) None rest piece is read = absurd read
left_after_piece-known (Some bytes) (Some next) rest piece is read =
    let same : bytes ≡ rest = cc in (next, refl, sym same ∙ read)

-- at the end none are left
pub take-none_left : (old new : Option (List ℕ)) (rest piece : List ℕ) → old ≡ Some rest
    → Consumes old new piece
    → piece ≡ [] → IsAtEnd new → rest ≡ []
take-none_left old new rest piece is read none end = by new
    (left_after_piece-known old new rest piece is read) end
  where
    by : (new : Option (List ℕ)) → (next : List ℕ) × (new ≡ Some next) × (rest ≡ piece ++ next) → IsAtEnd new
        → rest ≡ []
    by None (next, known, whole) end = absurd cc
    by (Some bytes) (next, known, whole) end =
        let same : bytes ≡ next = cc in whole ∙ ap (λ p. p ++ next) none ∙ sym same ∙ end

-- what may still be read is a piece, and what may be read after it
take-piece : (piece next rest : List ℕ) (room : ℕ) → length piece ≤ room → rest ≡ piece ++ next
    → take room rest ≡ piece ++ take (room - length piece) next
take-piece piece next rest room within whole =
    let sum : room ≡ length piece + (room - length piece) = omega arith in
    ap (take room) whole ∙ ap (λ n. take n (piece ++ next)) sum
    ∙ take-append-add piece next (room - length piece)

module _ (first old : LineFront) (room : ℕ) (rest all : List ℕ)
    (so_far : front_after_more old (take room rest) ≡ front_after_more first all) where
  -- all was read
  pub front-at_end : length old.front.items ≤ 100 → take room rest ≡ [] → old.front.items
      ≡ front_after_more first all
  front-at_end few none = sym (front_after_more-nothing old few)
      ∙ ap (front_after_more old) (sym none) ∙ so_far

  -- the front was complete within a piece,
  pub front-in_piece : (new : LineFront) (piece next : List ℕ) (found : Bool) → length piece ≤ room
      → rest ≡ piece ++ next → found ≡ true → TakesPiece old new piece found → new.front.items
      ≡ front_after_more first all
  front-in_piece new piece next found within whole is takes =
      sym (rw is at (takes (take (room - length piece) next)))
      ∙ ap (front_after_more old) (sym (take-piece piece next rest room within whole)) ∙ so_far

  -- or it is completed later
  pub front-after_piece : (new : LineFront) (piece next : List ℕ) (found : Bool) → length piece ≤ room
      → rest ≡ piece ++ next → found ≡ false → TakesPiece old new piece found
      → front_after_more new (take (room - length piece) next) ≡ front_after_more first all
  front-after_piece new piece next found within whole is takes =
      sym (rw is at (takes (take (room - length piece) next)))
      ∙ ap (front_after_more old) (sym (take-piece piece next rest room within whole)) ∙ so_far

-- the front from a file that a source gives is the front of the line in the file with this name
pub is_front_in_file-found : {V E : Type 0} (items : V → List ℕ) (contents : Option (List FileText))
    (left : Option (List ℕ))
    (name : List ℕ) (line : ℕ) (r : Result (Option V) E)
    → IfSome contents (λ files. (bytes : List ℕ) × (file_named files name ≡ Some bytes) × (left ≡ Some bytes))
    → IfOk r (λ found. IfSome found (λ front. length (items front) ≤ 100))
    → ((text : List ℕ) → left ≡ Some text
    → IfOk r (λ found. IfSome found (λ front. items front ≡ line_front line (take 16777216 text))))
    → IfOk r (λ found. IfSome (option_map items found) (IsFrontInFile contents name line))
is_front_in_file-found items contents left name line (Err fault) opened few known = tt
is_front_in_file-found items contents left name line (Ok None) opened few known = tt
is_front_in_file-found items contents left name line (Ok (Some front)) opened few known = record {
  bounded = few;
  known = λ files is. by contents opened files is;
}
  where
    by : (contents : Option (List FileText))
        → IfSome contents (λ files. (bytes : List ℕ) × (file_named files name ≡ Some bytes)
        × (left ≡ Some bytes))
        → (files : List FileText) → contents ≡ Some files
        → (bytes : List ℕ) × (file_named files name ≡ Some bytes)
        × (items front ≡ line_front line (take 16777216 bytes))
    by None opened files is = absurd cc
    by (Some own) (bytes, named, given) files is =
        let same : own ≡ files = cc in
        (bytes, ap (λ fs. file_named fs name) (sym same) ∙ named, known bytes given)
