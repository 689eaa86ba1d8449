-- The entry is the first of its LAN.
use Rattle.std.proofs.Common.{ap, arith}
use Rattle.mc_theory.specs.Certificates.{Entry}
use Rattle.mc_forward.proofs.PerLanLemmas.{holds_first-put}
use Rattle.mc_maker.specs.CleanRuns.{EntriesSoFar}
use Rattle.mc_maker.proofs.CleanRunLemmas.{double-none_more}
use Rattle.mc_maker.proofs.clean_run.CleanEntries.put.Goals as goal

pub invariant_of-self-2 : goal.invariant_of-self-2
invariant_of-self-2 c =
    let free = c.put_first.ensures.free c.if-not-put_first.false in
    let put = c.put_first.ensures.put c.if-not-put_first.false in
    let x : Entry = record {
      lan = c.entry.inside.lan;
      rank = c.entry.inside.rank;
      need = c.entry.inside.need;
      forwarder = c.entry.inside.forwarder;
    } in
    rw (c.push_reserved.ensures.items, c.in_ok-reserve.ensures.items, put) (
      holds_first-put (λ (e : Entry). e.lan) c.self.inside.by_lan c.self.inside.entries.items x
          (omega (
            arith,
            c.requires.listed_lan,
            ap (λ (far : EntriesSoFar). far.lans) c.self.view_is,
            ap (λ (e : Entry). e.lan) c.entry.view_is,
          )) c.self.invariant.0 free,
      double-none_more c.self.inside.by_lan c.self.inside.entries.items x c.self.invariant.0
          c.self.invariant.1 free,
    )
