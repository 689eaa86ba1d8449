use Rattle.std.proofs.Common.{◌∷◌, refl, sym, ap, ◌∙◌}
use Rattle.json.specs.Token.{string as string_token}
use Rattle.serde_json.specs.Data.{string}
use Rattle.mc_cert.proofs.TokenLemmas.{Reads-string}
use Rattle.mc_cert.proofs.tokens.value.find_lan.Goals as goal

-- The text is the name by which the LAN was found.
pub returns : goal.returns
returns c =
    let name = c.in-Some.name.now in
    let rest = c.text.new.self in (
      string name,
      Reads-string c.args.reader.now name rest
          (c.in_ok-text.ensures ∙ ap (λ s. string_token s ∷ rest) (sym c.in-Some.ensures)),
      (name, refl, sym c.in-Some-lan_no.ensures.number),
    )
