use Rattle.std.proofs.Common.{◌≡◌, ap, arith}
use Rattle.serde_json.specs.Data.{string}
use Rattle.mc_text.specs.Addr.{dotted}
use Rattle.mc_cert.specs.JsonString.{text_bytes}
use Rattle.mc_cert.proofs.TokenLemmas.{Reads-string}
use Rattle.mc_cert.proofs.tokens.value.address_value.Goals as goal

-- The text is the dotted form of the address that was parsed from it.
pub returns : goal.returns
returns c =
    let text = text_bytes c.in_ok-text.text in
    let shown : text ≡ dotted c.in-Some.address = grind (arith, c.as_bytes.ensures, c.in-Some.ensures.found)
    in (
      string text,
      Reads-string c.args.reader.now text c.text.new.self c.in_ok-text.ensures,
      ap string shown,
    )
