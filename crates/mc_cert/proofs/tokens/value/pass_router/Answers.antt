use Rattle.std.proofs.Common.{refl}
use Rattle.serde_json.specs.Data.{string}
use Rattle.mc_cert.proofs.TokenLemmas.{Reads-string, match_bool-map}
use Rattle.mc_cert.proofs.tokens.value.pass_router.Goals as goal

-- The text that was passed is the name of the one with this number.
pub returns : goal.returns
returns c =
    let name = c.router_name.result.now in
    match_bool-map c.pass_name.result _ _ _ (λ next. (
      string name,
      Reads-string c.args.reader.now name c.pass_name.new.self next,
      (name, refl, c.router_name.ensures.number),
    )) c.pass_name.ensures
