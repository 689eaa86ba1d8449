-- The lowest mark is that of the first byte that is the one searched.
use Rattle.std.proofs.Common.{◌≡◌, ℕ, ◌+◌, ◌<◌, Bool, sym, ap, ◌∙◌, arith, get_or, w64}
use Rattle.std.specs.Prelude.{◌==◌, not}
use Rattle.std.specs.Int.{trailing_zeros}
use Rattle.std.specs.Int.Count.{count_trailing_zeros}
use Rattle.std.specs.List.{prefix_len}
use Rattle.std.specs.Simd.Lanes.{chunk}
use Rattle.std.proofs.lemmas.Nat.Bits.{bit_at-trailing_zeros}
use Rattle.std.proofs.lemmas.Simd.{trailing_mask_l, length-chunk, run_in_chunk_fails, run_in_chunk_stops}
use Rattle.mc_text.proofs.Searches.{position-first}
use Rattle.mc_text.proofs.text.byte_search.find_near_byte.Goals as goal

pub returns : goal.returns
returns c = record {
  place = (
      let text = c.args.text.now in
      let is : ℕ → Bool = λ b. b == c.args.byte in
      let lanes = chunk 0 64 text in
      let marks = c.marks_of_byte-marks in
      let place = trailing_zeros w64 marks.result in
      let some : 0 < marks.result = omega (arith, c.if-marks-eq0.false) in
      let near : place < 64 = (bit_at-trailing_zeros w64 marks.result some marks.type_inv).0 in
      let before : place ≡ prefix_len (λ b. not (is b)) lanes =
      ap (count_trailing_zeros 64) marks.ensures.marks
      ∙ trailing_mask_l is 64 lanes (omega (arith, length-chunk 0 64 text c.requires.within))
      (omega (arith, some, marks.ensures.marks)) in
      let front : 0 + place ≡ place = omega arith in
      position-first is text 0 place (omega (arith, near, c.requires.within))
      (λ k less. run_in_chunk_fails is text 0 64 place 0 c.requires.within before k (omega arith)
      (omega (arith, less)))
      (ap (λ at. is (get_or text at 0)) (sym front)
      ∙ run_in_chunk_stops is text 0 64 place 0 c.requires.within before near));
}
