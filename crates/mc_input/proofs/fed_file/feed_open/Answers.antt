use Rattle.std.proofs.Common.{◌≡◌, ◌+◌, ◌≤◌, ◌++◌, length, take, ap, ◌∙◌, sym, arith}
use Rattle.std.proofs.Common.{rules, length-take, append_assoc}
use Rattle.std.proofs.lemmas.List.{length-append}
use Rattle.mc_bundle.specs.Bundle.{max_part}
use Rattle.mc_bundle.proofs.PartsMeaning.{split-from_Consumes}
use Rattle.mc_bundle.proofs.FedPieceLemmas.{result_after-append_piece}
use Rattle.mc_input.proofs.fed_file.feed_open.Goals as goal

-- The next piece goes from the bytes that are left to those that were fed, and the limit is counted
-- down by its length.
pub pieces-preserved : goal.pieces-preserved
pieces-preserved g c =
    let count = c.in_ok-count.count in
    let piece = take count c.read_piece.new.buffer in
    let long : length piece ≡ count =
    omega (arith, length-take count c.read_piece.new.buffer, c.in_ok-count.ensures.bound) in
    record {
      room = search rules;
      same = c.read_piece.ensures.same ∙ c.pieces.invariant.same;
      kept = c.read_piece.ensures.kept ∙ c.pieces.invariant.kept;
      failures = c.in_ok-count.ensures.failures ∙ c.pieces.invariant.failures;
      part = λ bytes is.
          let known = c.pieces.invariant.part bytes is in
          let next = split-from_Consumes _ _ piece known.1 c.in_ok-count.ensures.bytes.0 known.2 in (
            known.0 ++ piece,
            next.0,
            next.1,
            known.3 ∙ ap (λ l. known.0 ++ l) next.2 ∙ sym (append_assoc known.0 piece next.0),
            omega (arith, known.4, c.feed_piece.ensures.size, length-append known.0 piece),
            omega (arith, known.5, long, length-append known.0 piece, c.in_ok-left.ensures.left),
            λ more within.
                let fits : length known.0 + length (piece ++ more) ≤ c.args.limit =
                omega (arith, within, length-append piece more, length-append known.0 piece) in
                let room : g.P.PieceReader.size c.pieces.reader + length (piece ++ more) ≤ max_part =
                omega (arith, fits, known.4, c.requires.limit) in
                result_after-append_piece (g.P.PieceReader.result_after c.args.reader.now)
                (g.P.PieceReader.result_after c.pieces.reader)
                (g.P.PieceReader.result_after c.feed_piece.new.reader)
                known.0 piece more (known.6 (piece ++ more) fits)
                (c.in_ok-left.ensures.fed more room),
          );
    }
