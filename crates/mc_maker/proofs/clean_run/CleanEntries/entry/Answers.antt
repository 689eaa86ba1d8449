-- No two entries are of one LAN.
use Rattle.std.proofs.Common.{◌≡◌, ap, sym, None, map, []}
use Rattle.mc_theory.specs.Findings.{first_double}
use Rattle.mc_maker.specs.CleanRuns.{EntriesSoFar, copy_of}
use Rattle.mc_maker.proofs.CleanRunLemmas.{copy-at, entry-read, entry_on-at}
use Rattle.mc_maker.proofs.clean_run.CleanEntries.entry.Goals as goal

pub returns-clause-copy : goal.returns-clause-copy
returns-clause-copy c =
    let same = ap (λ (far : EntriesSoFar). far.entries) c.self.view_is in
    copy-at c.args.self.now.entries c.args.place c.index.result.now
    (entry-read c.self.inside.entries.items c.args.self.now.entries c.args.place c.index.result.now same
    c.requires.within c.index.ensures)

pub returns-clause-first : goal.returns-clause-first
returns-clause-first c =
    let same = ap (λ (far : EntriesSoFar). far.entries) c.self.view_is in
    let once : first_double [] (map copy_of c.args.self.now.entries) ≡ None =
    rw (sym same) c.self.invariant.1 in
    entry_on-at c.args.self.now.entries c.args.place c.index.result.now once
    (entry-read c.self.inside.entries.items c.args.self.now.entries c.args.place c.index.result.now same
    c.requires.within c.index.ensures)
