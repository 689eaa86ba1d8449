use Rattle.std.proofs.Common.{◌∙◌, ap, filter}
use Rattle.mc_filter.specs.SourceFilter.{has}
use Rattle.mc_filter.proofs.AscendingLemmas.{filter-ascending}
use Rattle.mc_asked.proofs.want_sources.WantSources.add_lan.Goals as goal

-- The LAN's sources ascend, and so do those of them that are kept.
pub invariant_of-self : goal.invariant_of-self
invariant_of-self c =
    (filter-ascending (has c.deref.result.now) c.args.own.items c.in_ok-self-inside.field-0.items
    c.requires.ascending
    (c.in_ok-self-inside.ensures ∙ ap (filter (has c.deref.result.now)) c.deref-then-self.ensures.value)).0
