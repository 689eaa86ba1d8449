use Rattle.std.proofs.Common.{◌≡◌, ℕ, List, [], ◌∷◌, true, ap, refl, ◌∙◌, arith}
use Rattle.std.specs.Prelude.{◌↔◌, Contains}
use Rattle.mc_tables.specs.SummaryReading.{summary_if, summary_in}
use Rattle.mc_tables.proofs.PieceLemmas.{whole_if-is}
use Rattle.mc_tables.proofs.cache.text_pairs.summary_of_text.Goals as goal

-- a list that contains what the empty list contains is empty
none_listed : (listed : List (ℕ × ℕ)) → ((pair : ℕ × ℕ) → Contains listed pair ↔ Contains [] pair)
    → listed ≡ []
none_listed [] same = refl
none_listed (pair ∷ listed) same =
    let there = (same pair).0 (0, omega arith, refl) in absurd (omega (arith, there.1))

-- The reader was given no pairs, and its reading is that of the whole text.
pub returns : goal.returns
returns c = λ there.
    c.read_whole.ensures.table there
    ∙ whole_if-is (summary_if c.new.result) c.args.text.now
    (summary_in true c.args.order c.in_ok-none.none c.args.text.now)
    (c.new.ensures.reads c.args.text.now) (λ more. rw more refl)
    ∙ ap (λ (listed : List (ℕ × ℕ)). summary_in true c.args.order listed c.args.text.now)
    (none_listed c.in_ok-none.none c.in_ok-none.ensures)
