use Rattle.std.proofs.Common.{ap, refl}
use Rattle.std.proofs.lemmas.Result.{err_from_is_err_and}
use Rattle.mc_forward.specs.RouterTables.{RouterTablesValue}
use Rattle.mc_input.specs.Stream.{read_contents, read_routers}
use Rattle.mc_input.proofs.WalkLemmas.{IsFaultOfStream-implied, read_contents-Ok, read_contents-reports_Err}
use Rattle.mc_input.proofs.WalkLemmas.{read_contents-tables_Err}
use Rattle.mc_input.proofs.walk.read_contents.Goals as goal

-- The routers' parts come first, so that a fault of theirs is the first of all.
pub returns-in_err-tables-clause-fault : goal.returns-in_err-tables-clause-fault
returns-in_err-tables-clause-fault g c =
    let p = err_from_is_err_and c.from_residual.result c.from_residual.ensures.1 in
    let t = c.args.topology.now in
    rw (p.1, p.2) (IsFaultOfStream-implied (read_routers t.routers) (read_contents t)
    (read_contents-tables_Err t)
    (g.S.Slots.gives c.args.slots.now t 1) c.in_err-tables.field-0.0 c.in_err-tables.ensures.fault)

-- The routers' parts were read, so that the first fault of the LANs' is that of all.
pub returns-in_err-wants-clause-fault : goal.returns-in_err-wants-clause-fault
returns-in_err-wants-clause-fault g c =
    let p = err_from_is_err_and c.from_residual-in_err-wants.result
    c.from_residual-in_err-wants.ensures.1 in
    rw (p.1, p.2) (λ stream known loud.
    let x = c.in_ok-tables.ensures.tables stream known in
    read_contents-reports_Err c.args.topology.now stream x.0 x.1 c.in_err-wants.field-0.0 x.5
    (c.in_err-wants.ensures.fault x.0 x.2 loud))

-- The LANs' parts follow those of the routers, and what is kept of both is kept of the whole input.
pub returns-clause-read : goal.returns-clause-read
returns-clause-read g c = λ stream known.
    let x = c.in_ok-tables.ensures.tables stream known in
    let y = c.in_ok-wants.ensures.wants x.0 x.2 in (
      y.0,
      (x.1, y.1),
      y.2,
      record {
        topology = refl;
        vifs_kept = ap (λ (k : RouterTablesValue). k.vifs) x.3;
        rows_kept = ap (λ (k : RouterTablesValue). k.rows) x.3;
        wanted = y.3;
      },
      x.4,
      y.4,
      read_contents-Ok c.args.topology.now stream x.0 y.0 x.1 y.1 x.5 y.5,
    )
