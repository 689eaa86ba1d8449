use Rattle.std.proofs.Common.{◌≡◌, ◌≤◌, ◌++◌, ℕ, List, drop}
use Rattle.std.specs.Prelude.{vec_len}
use Rattle.mc_commands.specs.LineFront.{front_after_more}
use Rattle.mc_commands.proofs.refusals.line_front.LineFront.take.Given as goal

-- the front in the end is what the rest of the piece and the bytes after it make of the present one
abbrev pub invariant-loop-byte : goal.invariant-loop-byte
invariant-loop-byte l = record {
  bounded : vec_len l.self.front ≤ 100;
  takes : (more : List ℕ) → front_after_more l.self (drop l.byte-index l.fn.piece ++ more)
      ≡ front_after_more l.fn.self (l.fn.piece ++ more);
}
