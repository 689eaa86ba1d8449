use Rattle.std.proofs.Common.{ℕ, ◌≡◌, Bool, true, false, cond, [], List, sym, ap, ◌∙◌}
use Rattle.mc_tables.specs.Summary.{in_order}
use Rattle.mc_tables.specs.SummarySoFar.{KeptPairs}
use Rattle.mc_tables.proofs.LowestLemmas.{in_order-none}
use Rattle.mc_tables.proofs.summary.shown_pairs.ShownPairs.new.Goals as goal

-- no pairs are none in order, and are kept either way
cond-none_kept : (all : Bool) (every lowest : List (ℕ × ℕ)) → every ≡ [] → lowest ≡ []
    → cond all (in_order every) lowest ≡ []
cond-none_kept true every lowest none least = ap in_order none ∙ sym in_order-none
cond-none_kept false every lowest none least = least

-- Whichever list is shown, it is empty.
pub returns : goal.returns
returns c =
    let kept : List (ℕ × ℕ) → KeptPairs = λ pairs. record { all = c.args.all; pairs = pairs } in
    ap kept (cond-none_kept c.args.all c.new.result.items c.new-2.result c.new.ensures.items c.new-2.ensures)
