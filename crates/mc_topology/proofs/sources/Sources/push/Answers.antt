use Rattle.std.proofs.Common.{◌≡◌, false, sym, subst}
use Rattle.mc_topology.specs.SectionRows.{SourceRow}
use Rattle.mc_topology.specs.Sources.{has_source}
use Rattle.mc_topology.proofs.InsertedRows.{source_rows-insert_new}
use Rattle.mc_topology.proofs.sources.Sources.push.Goals as goal

-- No source has the new address, so that the map puts it behind the others.
pub returns-clause-added : goal.returns-clause-added
returns-clause-added c =
    let new = subst (λ (s : SourceRow). has_source s.address c.args.self.now ≡ false)
    (sym c.source.view_is) c.requires.absent in
    rw (c.in_ok-insert.ensures.entries, ← c.source.view_is)
    (source_rows-insert_new c.self.inside.lans c.source.inside.address c.source.inside.lan c.args.self.now
    c.self.view_is new)
