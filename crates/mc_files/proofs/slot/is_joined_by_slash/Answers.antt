use Rattle.std.proofs.Common.{◌++◌, codes, refl}
use Rattle.mc_files.proofs.NameLemmas.{bytes_eq-joined}
use Rattle.mc_files.proofs.slot.is_joined_by_slash.Goals as goal

-- Behind the first text the bytes are the rest, so that only the slash and the second text are left to
-- compare.
pub returns-in-Some : goal.returns-in-Some
returns-in-Some c =
    rw (
      bytes_eq-joined c.args.kind.now c.args.bytes.now (codes "/" ++ c.args.owner.now),
      c.in-Some.ensures.cases.0,
      ← c.in-Some.ensures.cases.1,
    ) c.is_joined.ensures

-- Bytes that don't begin with the first text aren't all three.
pub returns-in-None : goal.returns-in-None
returns-in-None c = rw (
  bytes_eq-joined c.args.kind.now c.args.bytes.now (codes "/" ++ c.args.owner.now),
  c.in-None.ensures.cases,
) refl
