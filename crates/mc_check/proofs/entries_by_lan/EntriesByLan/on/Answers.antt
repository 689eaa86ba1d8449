-- What is stored at a LAN's number is the first entry of the list that names the LAN: so says the invariant
-- of the type.
use Rattle.std.proofs.Common.{List, ap, sym, ◌∙◌}
use Rattle.std.specs.Option.{option_copied}
use Rattle.mc_theory.specs.Certificates.{Entry}
use Rattle.mc_theory.specs.Reasons.{entry_on}
use Rattle.mc_forward.proofs.PerLanLemmas.{first_with_key-entry_on}
use Rattle.mc_check.proofs.FirstEntriesLemmas.{item_on_lan-copied}
use Rattle.mc_check.proofs.entries_by_lan.EntriesByLan.on.Goals as goal

pub returns : goal.returns
returns c =
    c.copied.ensures ∙ ap option_copied c.on.ensures
    ∙ sym (item_on_lan-copied c.self.inside.firsts c.args.lan)
    ∙ (c.self.invariant c.args.lan
    ∙ (first_with_key-entry_on c.self.inside.entries.now c.args.lan
    ∙ ap (λ (es : List Entry). entry_on es c.args.lan) c.self.view_is))
