-- The place of a LAN is empty exactly where the LAN carried no copy.
use Rattle.std.proofs.Common.{◌≡◌, Bool, ap, rules, ◌∙◌}
use Rattle.std.specs.Prelude.{◌&&◌, is_none}
use Rattle.mc_theory.specs.Findings.{first_copy_on}
use Rattle.mc_forward.specs.FlightsInDomain.{net_in}
use Rattle.mc_forward.proofs.PerLanLemmas.{first_with_key-first_copy_on}
use Rattle.mc_explain.proofs.causes.behind.is_missed.Goals as goal

pub returns : goal.returns
returns c = λ copies are.
    (let n = net_in c.args.view.now in
    let lan = c.args.lan in
    let none : c.is_none.result ≡ is_none c.on.result = search rules in
    let on : c.on.result ≡ first_copy_on copies lan = c.on.ensures ∙ (are lan
    ∙ first_with_key-first_copy_on copies lan) in
    ap (λ (w : Bool). w && c.is_none.result) c.wants.ensures.value
    ∙ ap (λ (b : Bool). n.wants lan && b) (none ∙ ap is_none on))
