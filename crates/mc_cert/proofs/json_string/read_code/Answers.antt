use Rattle.std.proofs.Common.{◌≡◌, ap, ◌∙◌, ◌∷◌, arith}
use Rattle.mc_cert.proofs.JsonStringLemmas.{DenotesByte-code}
use Rattle.mc_cert.proofs.json_string.read_code.Goals as goal

-- The two hex digits are the byte's, which is below 128 and so has this one byte in UTF-8.
pub returns : goal.returns
returns c =
    let x = c.in_ok-first.first.now in
    let y = c.in_ok-second.second.now in
    let rest = c.in_ok-second.rest.now in
    let begins : c.args.text.now ≡ x ∷ y ∷ rest =
    c.in_ok-first.ensures.cases.0 ∙ ap (λ t. x ∷ t) c.in_ok-second.ensures.cases.0 in
    DenotesByte-code x y c.in_ok-high.high c.in_ok-low.low rest c.args.text.now c.in_ok-high.ensures
    c.in_ok-low.ensures
    (omega arith) begins
