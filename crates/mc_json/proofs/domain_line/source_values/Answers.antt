use Rattle.std.proofs.Common.{◌∷◌, ◌++◌, [], ap, map, ◌∙◌}
use Rattle.std.proofs.lemmas.List.{map-append}
use Rattle.serde_json.specs.Data.{Data}
use Rattle.serde_json.specs.View.{view as data_of}
use Rattle.mc_json.specs.DomainData.{source_data}
use Rattle.mc_json.proofs.LoopStepLemmas.{map-take_more}
use Rattle.mc_json.proofs.domain_line.source_values.Goals as goal

-- The object of the source at this place is appended to those of the sources before it.
pub loop-number-preserved : goal.loop-number-preserved
loop-number-preserved c =
    let t = c.args.topology.now in
    let old = c.loop-number.values.items in
    let value = c.in_ok-source_value.field-0 in
    map-take_more (source_data t) t.sources c.source.result (map data_of old)
    (map data_of c.push.new.self.items) c.loop-number.number c.source.ensures.source
    c.loop-number.invariant
    (ap (map data_of) c.in_ok-push.ensures.items ∙ map-append data_of old (value ∷ [])
    ∙ ap (λ (d : Data). map data_of old ++ d ∷ []) c.in_ok-source_value.ensures)
