-- A byte is a digit exactly if it lies less than 10 above `0`, where lesser bytes wrap round.
use Rattle.std.proofs.Common.{◌+◌, ◌-◌, ◌%◌, ltb, map, replicate, refl, ap, ◌∙◌, arith, w8, length}
use Rattle.std.proofs.lemmas.List.{length-map}
use Rattle.std.proofs.lemmas.Simd.{bitmask_splat, length-chunk, zip2_splat, map-map}
use Rattle.std.specs.Char.{is_ascii_digit}
use Rattle.std.specs.Simd.Lanes.{chunk, mask_l, zip2}
use Rattle.mc_tables.proofs.MarkedLemmas.{mask-are_marks}
use Rattle.mc_tables.proofs.lines.marked_line.digit_marks.Goals as goal

pub returns : goal.returns
returns c = record {
  marks = (
      let line = c.args.line.now in
      let lanes = chunk 0 32 line in
      let size = length-chunk 0 32 line c.requires.within in
      let above = zip2_splat (λ a b. (a + (256 - b)) % 256) lanes 32 48 size in
      let many = ap length above ∙ length-map lanes (λ a. (a + 208) % 256) ∙ size in
      mask-are_marks (λ b. ltb ((b + 208) % 256) 10) is_ascii_digit line _ c.requires.within c.type_inv.line
      (bitmask_splat w8 ltb (zip2 (λ a b. (a + (256 - b)) % 256) lanes (replicate 32 48)) 32 10 many
      (omega arith)
      ∙ ap (λ vs. mask_l (map (λ a. ltb a 10) vs)) above
      ∙ ap mask_l (map-map (λ a. ltb a 10) (λ b. (b + 208) % 256) lanes)) refl);
}
