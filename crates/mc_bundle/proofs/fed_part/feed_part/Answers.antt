use Rattle.std.proofs.Common.{◌≡◌, ◌+◌, ◌≤◌, ◌++◌, [], true, length, not, take, ap, sym, ◌∙◌, arith}
use Rattle.std.proofs.Common.{rules, length-take}
use Rattle.std.specs.Prelude.{is_ok}
use Rattle.std.proofs.lemmas.List.{append-nil, length-append}
use Rattle.mc_text.specs.Lines.{max_text}
use Rattle.mc_bundle.proofs.RestOfBundleLemmas.{advances, parts_from_current-in_part}
use Rattle.mc_bundle.proofs.FedPieceLemmas.{result_after-append_piece, fact-from_OnOk}
use Rattle.mc_bundle.proofs.fed_part.feed_part.Goals as goal

-- A read that fails takes no more bytes than may come, as the reads before it.
pub returns-in_err-count-clause-advances : goal.returns-in_err-count-clause-advances
returns-in_err-count-clause-advances g c =
    advances c.args.parts.now c.pieces.parts c.read.new.self c.pieces.invariant.advances
    (sym c.in_err-count.ensures.borrows) c.in_err-count.ensures.consumed

-- A read of 0 bytes into a buffer with room means that none of the part is left: the pieces fed are the part.
pub returns-then-count-eq0-clause-part : goal.returns-then-count-eq0-clause-part
returns-then-count-eq0-clause-part g c = λ text remaining.
    let known = c.pieces.invariant.part text remaining in
    let done = known.1 in
    let new = c.read.new.self in
    let name = c.requires.opened in
    let same = c.in_ok-count.ensures.same in
    let none : c.in_ok-count.count ≡ 0 = c.if-count-eq0.true in
    let piece = take c.in_ok-count.count c.read.new.buffer in
    let read = c.in_ok-count.ensures.bytes known.0 done known.2 in
    let left = c.in_ok-count.ensures.left c.pieces.invariant.opened in
    let end = c.in_ok-count.ensures.end none c.pieces.invariant.opened in
    let last : new.left ≡ 0 = grind arith in
    let empty : piece ≡ [] = ap (λ n. take n c.read.new.buffer) none in
    let whole = known.3 ∙ read.3 ∙ parts_from_current-in_part new name.0 (done ++ piece) read.0
    (same.0 ∙ c.pieces.invariant.opened) (same.1 ∙ c.pieces.invariant.name ∙ name.1.named) in
    let bytes : (done ++ piece) ++ take new.left read.0 ≡ done ++ [] =
    ap (λ n. (done ++ piece) ++ take n read.0) last ∙ append-nil (done ++ piece)
    ∙ ap (λ l. done ++ l) empty in (
      read.0,
      record { name = name.0; bytes = (done ++ piece) ++ take new.left read.0 },
      read.1,
      whole,
      name.1.named,
      omega (arith, ap length bytes, length-append done [], known.5),
      ap (g.P.PieceReader.result_after c.args.reader.now) bytes ∙ known.6 [] (omega (arith, known.5)),
    )

-- The bytes of the piece that the reader refused were taken from the input all the same.
pub returns-then-is_err-clause-advances : goal.returns-then-is_err-clause-advances
returns-then-is_err-clause-advances g c =
    advances c.args.parts.now c.pieces.parts c.read.new.self c.pieces.invariant.advances
    (sym c.in_ok-count.ensures.borrows) c.in_ok-count.ensures.consumed

-- The piece moves from the bytes to come to the bytes fed. It is no longer than what is left of the part, and
-- so within the limit of a text, under which the reader's result goes on.
pub pieces-preserved : goal.pieces-preserved
pieces-preserved g c =
    let same = c.in_ok-count.ensures.same in
    let new = c.read.new.self in
    let count = c.in_ok-count.count in
    let piece = take count c.read.new.buffer in
    let left = c.in_ok-count.ensures.left c.pieces.invariant.opened in
    let taken : is_ok c.take.result ≡ true = c.is_err.ensures.negation ∙ ap not c.if-is_err.false in
    let long : length piece ≡ count =
    omega (arith, length-take count c.read.new.buffer, c.in_ok-count.ensures.bound) in
    record {
      advances = advances c.args.parts.now c.pieces.parts new c.pieces.invariant.advances
          (sym c.in_ok-count.ensures.borrows) c.in_ok-count.ensures.consumed;
      failures = c.in_ok-count.ensures.failures ∙ c.pieces.invariant.failures;
      opened = same.0 ∙ c.pieces.invariant.opened;
      name = same.1 ∙ c.pieces.invariant.name;
      room = search rules;
      part = λ text remaining.
          let known = c.pieces.invariant.part text remaining in
          let read = c.in_ok-count.ensures.bytes known.0 known.1 known.2 in (
            read.0,
            known.1 ++ piece,
            read.1,
            known.3 ∙ read.3,
            omega (arith, known.4, c.take.ensures.size, length-append known.1 piece),
            omega (arith, known.5, long, left, length-append known.1 piece),
            λ more within.
                let fits : length known.1 + length (piece ++ more) ≤ max_text =
                omega (arith, within, length-append piece more, length-append known.1 piece) in
                let room : g.P.PieceReader.size c.pieces.reader + length (piece ++ more) ≤ max_text =
                omega (arith, fits, known.4) in
                result_after-append_piece (g.P.PieceReader.result_after c.args.reader.now)
                (g.P.PieceReader.result_after c.pieces.reader) (g.P.PieceReader.result_after c.take.new.self)
                known.1 piece more (known.6 (piece ++ more) fits)
                (fact-from_OnOk c.take.result taken (c.take.ensures.goes_on more room)),
          );
    }
