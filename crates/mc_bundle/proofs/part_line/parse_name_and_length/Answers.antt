use Rattle.std.proofs.Common.{◌+◌, refl, sym}
use Rattle.std.proofs.lemmas.Bool.{and_right, and_from}
use Rattle.std.proofs.lemmas.List.{take_rest}
use Rattle.mc_bundle.specs.BundleReading.{parse_name_and_length}
use Rattle.mc_bundle.proofs.BundleWords.{is_part_name-false, is_part_name-complete}
use Rattle.mc_bundle.proofs.part_line.parse_name_and_length.Goals as goal

-- Without a space the words are no name and length.
pub returns-in_err-space : goal.returns-in_err-space
unfolding parse_name_and_length
returns-in_err-space c = rw (c.from_residual.ensures, ← c.in_err-space.ensures) refl

-- `PartName::new` refuses only what is no name.
pub returns-in_err-name : goal.returns-in_err-name
unfolding parse_name_and_length
returns-in_err-name c =
    let refused = is_part_name-false _ c.in_err-name.ensures.only in
    rw (c.from_residual-in_err-name.ensures, ← c.in_ok-space.ensures, refused) refl

-- The bytes after the space are no decimal number without a needless zero.
pub returns-then-not-is_plain_decimal : goal.returns-then-not-is_plain_decimal
unfolding parse_name_and_length
returns-then-not-is_plain_decimal c =
    let number = take_rest c.args.words.now (c.in_ok-space.space + 1) in
    let refused = rw number at c.if-not-is_plain_decimal.ensures in
    rw (← c.in_ok-space.ensures, and_right _ _ (sym refused)) refl

-- Both words are well formed. A number over `u64::MAX` is read as that, as the minimum of both.
pub returns : goal.returns
unfolding parse_name_and_length
returns c =
    let number = take_rest c.args.words.now (c.in_ok-space.space + 1) in
    let long = rw number at c.if-not-is_plain_decimal.ensures in
    let name = c.in_ok-name.ensures.found in
    let named = rw name at (is_part_name-complete c.in_ok-name.name c.in_ok-name.ensures.is_name) in
    rw (c.length_or_max.ensures.value, number, ← c.in_ok-space.ensures, and_from _ _ named (sym long), name)
    refl
