use Rattle.std.proofs.Common.{refl}
use Rattle.mc_files.proofs.NameLemmas.{bytes_eq-joined}
use Rattle.mc_files.proofs.slot.is_joined.Goals as goal

-- Behind the first text the bytes are the rest, so that only this is left to compare.
pub returns-in-Some : goal.returns-in-Some
returns-in-Some c =
    rw (
      bytes_eq-joined c.args.front.now c.args.bytes.now c.args.rest.now,
      c.in-Some.ensures.cases.0,
      ← c.in-Some.ensures.cases.1,
    ) c.eq.ensures

-- Bytes that don't begin with the first text aren't both.
pub returns-in-None : goal.returns-in-None
returns-in-None c = rw (
  bytes_eq-joined c.args.front.now c.args.bytes.now c.args.rest.now,
  c.in-None.ensures.cases,
) refl
