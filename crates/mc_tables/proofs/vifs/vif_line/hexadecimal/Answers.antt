use Rattle.std.proofs.Common.{ℕ, List, ◌∙◌, sym, ap, subst}
use Rattle.std.specs.Result.{result_ok}
use Rattle.std.specs.Str.Parse.{ParsesUnsigned}
use Rattle.mc_text.proofs.ResultLemmas.{result_ok-none_not_bad, result_ok-some}
use Rattle.mc_tables.proofs.HexadecimalLemmas.{is_utf8-hexadecimal, parse-hexadecimal}
use Rattle.mc_tables.proofs.vifs.vif_line.hexadecimal.Goals as goal

-- Hexadecimal digits are ASCII, and so UTF-8.
pub returns-in_err-text : goal.returns-in_err-text
returns-in_err-text c = record {
  value = (
      absurd (result_ok-none_not_bad _ _ _ c.from_utf8.result
      (sym c.ok.ensures.value ∙ c.in_err-text.was) c.from_utf8.ensures.cases
      (is_utf8-hexadecimal c.args.digits.now c.requires.digits)));
}

-- One to eight hexadecimal digits fit in 32 bits, so that they are read.
pub returns : goal.returns
returns c = record {
  value = (
      let same = (result_ok-some _ _ c.from_utf8.result c.in_ok-text.text
      (sym c.in_ok-text.was ∙ c.ok.ensures.value) c.from_utf8.ensures.cases).0 in
      let parses = subst (λ (w : List ℕ). ParsesUnsigned 32 16 w c.from_str_radix.result) same
      c.from_str_radix.ensures.value in
      c.ok-2.ensures.value ∙ ap result_ok
      (parse-hexadecimal c.args.digits.now c.from_str_radix.result c.requires.nonempty c.requires.at_most_8
      c.requires.digits parses));
}
