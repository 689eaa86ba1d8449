use Rattle.std.proofs.Common.{ℕ, ◌∙◌, List, ap, map, subst, sym}
use Rattle.std.specs.List.Sorted.{IsStrictlySortedBy}
use Rattle.mc_tables.specs.CacheTable.{key_cmp}
use Rattle.mc_asked.specs.WantSources.{WantSourcesValue, without_sources}
use Rattle.mc_asked.proofs.LanByLanLemmas.{sources-before_first, wants-of_without_sources}
use Rattle.mc_asked.proofs.unadmitted_sources.UnadmittedSources.of_lines.Goals as goal

-- The entries are made of the keys, one of each, and the keys ascend as required.
pub invariant_of-result : goal.invariant_of-result
invariant_of-result c = (
  sym (ap (map (λ (s : WantSourcesValue). s.want)) (c.in_ok-sources.ensures
      ∙ ap (map without_sources) c.deref.ensures.value)
      ∙ wants-of_without_sources c.in_ok-keys.keys.items),
  subst (IsStrictlySortedBy key_cmp) (sym c.in_ok-keys.ensures) c.requires.sorted,
)

-- Before the first LAN no want has begun, and none has a source: that is what the definition gives for no
-- LANs.
pub returns : goal.returns
returns c = λ all a lists.
    c.in_ok-sources.ensures ∙ ap (map without_sources) (c.deref.ensures.value ∙ c.in_ok-keys.ensures)
    ∙ sources-before_first all a lists (map (λ (line : (ℕ × ℕ) × List ℕ). line.0) c.args.lines.now)
