use Rattle.std.proofs.Common.{◌≡◌, length}
use Rattle.json.specs.Lex.{between, lex}
use Rattle.mc_cert.proofs.token_reader.skip_space.Given as goal

-- The rest has the lexemes of the text.
abbrev pub invariant-loop-rest : goal.invariant-loop-rest
invariant-loop-rest l = lex between l.text ≡ lex between l.rest

-- Each step shortens the rest by a byte.
abbrev pub decreases-loop-rest : goal.decreases-loop-rest
decreases-loop-rest l = length l.rest
