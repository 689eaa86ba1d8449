use Rattle.std.proofs.Common.{ℕ, List, rules, ◌∙◌}
use Rattle.std.specs.Str.{bytes_eq}
use denote.Ref.{Bor}
use Rattle.std.proofs.lemmas.Iterator.{YieldsList-from_slice}
use Rattle.std.proofs.lemmas.Iterator.Search.{any_from_yields_List}
use Rattle.mc_input.proofs.ExcludedLemmas.{list_any-map_now}
use Rattle.mc_input.proofs.excluded.is_excluded.Goals as goal

-- The names are compared by their bytes, borrowed or not.
pub returns : goal.returns
returns c =
    any_from_yields_List (λ (name : Bor (List ℕ)). bytes_eq name.now c.args.router.now) _ _ c.any.result
    c.any.ensures.ran (YieldsList-from_slice c.args.without.now (cc)) (λ x b q k. search rules)
    ∙ list_any-map_now (λ name. bytes_eq name c.args.router.now) c.args.without.now
