use Rattle.std.proofs.Common.{◌∷◌, ◌++◌, [], ap, map, sym, ◌∙◌, List}
use Rattle.std.proofs.lemmas.List.{map-append}
use Rattle.mc_theory.specs.Lists.{below}
use Rattle.mc_forward.proofs.BelowLemmas.{below-more}
use Rattle.serde_json.specs.Data.{Data}
use Rattle.serde_json.specs.View.{view as data_of}
use Rattle.mc_json.specs.DomainData.{router_with_order}
use Rattle.mc_json.proofs.domain_line.router_values.Goals as goal

-- No router is below 0, and the list is empty.
pub loop-number-init : goal.loop-number-init
unfolding below
loop-number-init c = ap (map data_of) c.new-values.ensures.items

-- The object of the next router is appended to those of the routers below it.
pub loop-number-preserved : goal.loop-number-preserved
loop-number-preserved c =
    let of = router_with_order c.args.topology.now in
    let n = c.loop-number.number in
    let old = c.loop-number.values.items in
    let value = c.in_ok-router_value.field-0 in
    ap (map data_of) c.in_ok-push.ensures.items ∙ map-append data_of old (value ∷ [])
    ∙ ap (λ (d : Data). map data_of old ++ d ∷ []) c.in_ok-router_value.ensures.value
    ∙ ap (λ (ds : List Data). ds ++ of n ∷ []) c.loop-number.invariant
    ∙ sym (ap (map of) (below-more n) ∙ map-append of (below n) (n ∷ []))
