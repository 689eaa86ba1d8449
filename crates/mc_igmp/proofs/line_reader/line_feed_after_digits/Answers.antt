use Rattle.std.proofs.Common.{◌∙◌, ap, sym, length, arith, ℕ, eqb}
use Rattle.std.specs.Prelude.{position}
use Rattle.std.proofs.lemmas.Slice.{between_to_end}
use Rattle.mc_igmp.proofs.DecodeAheadLemmas.{position-line_feed_after_digits}
use Rattle.mc_igmp.proofs.DecodeAheadLemmas.{position-no_line_feed_after_digits}
use Rattle.mc_igmp.proofs.line_reader.line_feed_after_digits.Goals as goal

-- No digit is a line feed, and neither is a byte after the digits.
pub returns-in_err-place : goal.returns-in_err-place
returns-in_err-place c = record {
  value = (
      let text = c.args.text.now in
      let part = between_to_end text c.args.digits (length text) (omega (arith, c.requires.within)) in
      c.from_residual.ensures
      ∙ sym (position-no_line_feed_after_digits c.args.digits text c.requires.within c.requires.digits
      (ap (position (λ (b : ℕ). eqb b 10)) (sym part) ∙ sym c.in_err-place.ensures)));
}

-- No digit is a line feed, so that the first one after the digits is the first of all.
pub returns : goal.returns
returns c = record {
  value = (
      let text = c.args.text.now in
      let part = between_to_end text c.args.digits (length text) (omega (arith, c.requires.within)) in
      sym (position-line_feed_after_digits c.args.digits text c.in_ok-place.place c.requires.within
      c.requires.digits
      (ap (position (λ (b : ℕ). eqb b 10)) (sym part) ∙ sym c.in_ok-place.ensures)));
}
