use Rattle.std.proofs.Common.{arith}
use Rattle.mc_commands.proofs.LineFrontLemmas.{takes_piece-line_feed, takes_piece-front_full}
use Rattle.mc_commands.proofs.refusals.line_front.LineFront.take_shown.Goals as goal

-- A line feed ends the line, and what comes after it doesn't change the front.
pub returns-then-byte-eq10-clause-takes : goal.returns-then-byte-eq10-clause-takes
returns-then-byte-eq10-clause-takes c =
    takes_piece-line_feed c.args.self.now c.args.byte c.requires.here c.if-byte-eq10.true
    (omega (arith, c.requires.bounded, c.args.self.now.front.ok.0))

-- The front has all the bytes that it may have, and no further byte changes it.
pub returns-then-len-ge-MAX_SHOWN-clause-takes : goal.returns-then-len-ge-MAX_SHOWN-clause-takes
returns-then-len-ge-MAX_SHOWN-clause-takes c =
    takes_piece-front_full c.args.self.now c.args.byte
    (omega (arith, c.if-len-ge-MAX_SHOWN.true, c.len.ensures, c.args.self.now.front.ok.0))
    (omega (arith, c.requires.bounded, c.args.self.now.front.ok.0))
