use Rattle.std.proofs.Common.{◌≡◌, ◌+◌, ℕ, List, true, take, sym, subst, arith, length-take}
use Rattle.std.specs.Str.{bytes_eq}
use Rattle.mc_bundle.proofs.PartsLimitLemmas.{consumes_within-fault, length-end_line}
use Rattle.mc_bundle.proofs.parts_input.open_next.Goals as goal

-- The line `end` has 4 bytes with its line feed, and one more was looked for: within the room and a line.
pub returns-in_err-read_end-clause-consumed : goal.returns-in_err-read_end-clause-consumed
returns-in_err-read_end-clause-consumed g c =
    let line = take c.in_ok-count.count c.read_line.new.line in
    let short = length-end_line line (subst (λ (l : List ℕ). bytes_eq line l ≡ true) c.as_slice.ensures
    (sym c.if-eq.ensures)) in
    consumes_within-fault _ _ _ _ (c.in_ok-count.count + 1) 1 (c.args.room + 96)
    c.from_residual-in_err-read_end.ensures.0 c.in_ok-count.ensures.taken
    c.in_err-read_end.ensures.consumed
    (omega (
      arith,
      short,
      c.in_ok-count.ensures.bound,
      c.read_line.array_long,
      length-take c.in_ok-count.count c.read_line.new.line,
    ))

-- What was taken is the line, and `open_part` reckoned it off the room.
pub returns-clause-consumed : goal.returns-clause-consumed
returns-clause-consumed g c =
    let line = c.in_ok-count.ensures.taken in (
      line.0,
      omega (
        arith,
        line.1,
        c.in_ok-open.ensures.room,
        c.in_ok-count.ensures.bound,
        c.read_line.array_long,
        length-take c.in_ok-count.count c.read_line.new.line,
      ),
      line.2,
    )
