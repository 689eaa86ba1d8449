use Rattle.std.proofs.Common.{ℕ, ◌≡◌, ◌∷◌, ◌++◌, Bool, true, cond, [], List, ap, ◌∙◌}
use Rattle.mc_tables.specs.Summary.{in_order, shown_pairs}
use Rattle.mc_tables.specs.SummarySoFar.{KeptPairs, with_pair, put_pair}
use Rattle.mc_tables.proofs.LowestLemmas.{shown_pairs-push}
use Rattle.mc_tables.proofs.summary.shown_pairs.ShownPairs.add.Goals as goal

-- one more pair behind the others, where all are kept
shown_pairs-push_every : (all : Bool) (every more lowest : List (ℕ × ℕ)) (pair : ℕ × ℕ) → all ≡ true
    → more ≡ every ++ pair ∷ []
    → cond all (in_order more) lowest
    ≡ shown_pairs all (put_pair pair (cond all (in_order every) lowest))
shown_pairs-push_every all every more lowest pair is one =
    rw (is, one) (shown_pairs-push true every pair)

-- All pairs are kept, and put in order only when they are shown.
pub returns-then-self : goal.returns-then-self
returns-then-self c =
    let inside = c.self.inside in
    let kept : List (ℕ × ℕ) → KeptPairs = λ pairs. record { all = inside.all; pairs = pairs } in
    ap kept (shown_pairs-push_every inside.all inside.every.items c.push.new.self.items inside.lowest
    c.args.pair
    c.if-self.true c.in_ok-push.ensures.items)
    ∙ ap (with_pair c.args.pair) c.self.view_is
