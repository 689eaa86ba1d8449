use Rattle.std.proofs.Common.{◌≡◌, ℕ, ◌+◌, List, [], ◌∷◌, ◌++◌, map, take, ap, sym, ◌∙◌}
use Rattle.std.proofs.lemmas.List.{map-append, take_more}
use Rattle.std.proofs.lemmas.Option.{get_or_from_slice_get, slice_get_within}
use Rattle.mc_topology.specs.SectionRows.{SourceRow}
use Rattle.mc_asked.proofs.answers.sources_of.Goals as goal

-- The source that is pushed is the topology's next one.
pub loop-number-preserved : goal.loop-number-preserved
loop-number-preserved c =
    let sources = c.args.topology.now.sources in
    let number = c.loop-number.number in
    let source : SourceRow = c.source-source.result in
    let pair : SourceRow → ℕ × ℕ = λ s. (s.address, s.lan) in
    let at = c.source-source.ensures.source in
    let next : take (number + 1) sources ≡ take number sources ++ source ∷ [] =
    take_more sources number source (slice_get_within sources number source at)
    ∙ ap (λ (s : SourceRow). take number sources ++ s ∷ [])
    (get_or_from_slice_get sources number source source at) in
    c.in_ok-push.ensures.items
    ∙ ap (λ (s : SourceRow). c.loop-number.sources.items ++ (s.address, s.lan) ∷ []) c.source.view_is
    ∙ ap (λ (ps : List (ℕ × ℕ)). ps ++ (source.address, source.lan) ∷ []) c.loop-number.invariant
    ∙ sym (map-append pair (take number sources) (source ∷ []))
    ∙ ap (map pair) (sym next)
