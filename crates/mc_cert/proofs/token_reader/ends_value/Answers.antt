use Rattle.std.proofs.Common.{◌≡◌, get_or, refl, arith, inl, inr}
use Rattle.mc_cert.proofs.TokenReaderLemmas.{begins-skipped, no_colon-before}
use Rattle.mc_cert.proofs.token_reader.ends_value.Goals as goal

-- A comma, a brace or a bracket is the next lexeme, and none of them is a colon.
pub returns-in-44 : goal.returns-in-44
returns-in-44 c = λ _.
    let skipped = c.skip_space.result.now in
    let first : get_or skipped 0 0 ≡ 44 = grind arith in
    no_colon-before 44 c.args.text.now _ (inl refl)
    (begins-skipped 44 c.args.text.now skipped c.skip_space.ensures c.in-44.len_at_least first)

pub returns-in-125 : goal.returns-in-125
returns-in-125 c = λ _.
    let skipped = c.skip_space.result.now in
    let first : get_or skipped 0 0 ≡ 125 = grind arith in
    no_colon-before 125 c.args.text.now _ (inr (inl refl))
    (begins-skipped 125 c.args.text.now skipped c.skip_space.ensures c.in-125.len_at_least first)

pub returns-in-93 : goal.returns-in-93
returns-in-93 c = λ _.
    let skipped = c.skip_space.result.now in
    let first : get_or skipped 0 0 ≡ 93 = grind arith in
    no_colon-before 93 c.args.text.now _ (inr (inr refl))
    (begins-skipped 93 c.args.text.now skipped c.skip_space.ensures c.in-93.len_at_least first)
