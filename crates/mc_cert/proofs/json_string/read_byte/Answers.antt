use Rattle.std.proofs.Common.{◌≡◌, true, ◌∙◌, ◌∷◌, arith}
use Rattle.json.specs.Run.{is_plain}
use Rattle.mc_cert.proofs.JsonStringLemmas.{DenotesByte-plain, DenotesByte-short}
use Rattle.mc_cert.proofs.json_string.read_byte.Goals as goal

-- A byte that isn't escaped denotes itself.
pub returns-then-is_plain : goal.returns-then-is_plain
returns-then-is_plain c =
    let x = c.in_ok-first.first.now in
    let rest = c.in_ok-first.rest.now in
    let plain : is_plain x ≡ true = grind arith in
    DenotesByte-plain x rest c.args.text.now plain c.in_ok-first.ensures.cases.0

-- A backslash and this letter denote the byte.
pub returns : goal.returns
returns c =
    let x = c.in_ok-letter.letter.now in
    let rest = c.in_ok-letter.rest.now in
    let first : c.in_ok-first.first.now ≡ 92 = grind arith in
    let begins = c.in_ok-first.ensures.cases.0 ∙ (λ i. first i ∷ c.in_ok-letter.ensures.cases.0 i) in
    DenotesByte-short x c.in_ok-byte.byte rest c.args.text.now c.in_ok-byte.ensures begins
