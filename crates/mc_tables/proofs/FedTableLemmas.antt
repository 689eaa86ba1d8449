-- A reader of a table, which keeps its fault, as a reader that is fed in pieces.
use Rattle.std.specs.Prelude.{◌≡◌, ◌≢◌, ℕ, ◌+◌, ◌≤◌, List, ◌++◌, length, Option, Some, None}
use Rattle.std.specs.Prelude.{Result, Ok, Err}
use Rattle.std.specs.Prelude.{IfErr, IfSome, OnOk, if◌then◌else◌, is_some, refl}
use Rattle.std.proofs.Common.{ap, ◌∙◌, sym, arith}
use Rattle.mc_text.specs.Lines.{LineText, max_text}
use Rattle.mc_text.specs.declared.memory.Memory.{Memory}
use Rattle.mc_tables.specs.LinesSoFar.{read_after}
use Rattle.mc_tables.specs.Steps.{out_of_memory, unless_fault}
use Rattle.mc_tables.specs.TableSoFar.{TableSoFar, table_if}
use Rattle.mc_tables.specs.declared.fault.TableFault.{TableFault}

-- how many bytes count towards the limit: after a fault none
abbrev pub counted_size : Option TableFault → ℕ → ℕ
counted_size fault size = if is_some fault then 0 else size

counted_size-at_most : (fault : Option TableFault) (size : ℕ) → counted_size fault size ≤ size
counted_size-at_most None size = omega arith
counted_size-at_most (Some fault) size = omega arith

module _ {R A : Type 0} (first : List ℕ) (read : R → List LineText → Result A TableFault)
    (old new : TableSoFar R) (fed : Result (Unit {0}) TableFault)
    (again : IfSome old.fault (λ own. (fed ≡ Err own) × (new ≡ old))) where
  -- whatever bytes follow, the result is the same
  pub result_after-kept_fault : (piece more : List ℕ) (r : Result (Unit {0}) Memory)
      → OnOk r (fed ≢ Err out_of_memory)
      → (fed ≢ Err out_of_memory → old.lines.size + length (piece ++ more) ≤ max_text
      → table_if first read new more ≡ table_if first read old (piece ++ more))
      → counted_size old.fault old.lines.size + length (piece ++ more) ≤ max_text
      → OnOk r (table_if first read new more ≡ table_if first read old (piece ++ more))
  result_after-kept_fault piece more r loud goes within = by r loud old.fault refl again within
    where
      by : (r : Result (Unit {0}) Memory) → OnOk r (fed ≢ Err out_of_memory)
          → (known : Option TableFault) → old.fault ≡ known
          → IfSome known (λ own. (fed ≡ Err own) × (new ≡ old))
          → counted_size known old.lines.size + length (piece ++ more) ≤ max_text
          → OnOk r (table_if first read new more ≡ table_if first read old (piece ++ more))
      by (Ok u) loud None is again within = goes loud within
      by (Ok u) loud (Some own) is again within =
          ap (λ s. table_if first read s more) again.1
          ∙ ap (λ f. unless_fault f (read_after first (read old.rows) old.lines more)) is
          ∙ sym (ap (λ f. unless_fault f (read_after first (read old.rows) old.lines (piece ++ more))) is)
      by (Err own) loud known is again within = tt

  -- no byte counts twice towards the limit
  pub counted_size-more : (n : ℕ) → OnOk fed (new.lines.size ≡ old.lines.size + n)
      → IfErr fed (λ own. new.fault ≡ Some own)
      → counted_size new.fault new.lines.size ≤ counted_size old.fault old.lines.size + n
  counted_size-more n grown kept = by fed old.fault again grown kept
    where
      by : (fed : Result (Unit {0}) TableFault) (known : Option TableFault)
          → IfSome known (λ own. (fed ≡ Err own) × (new ≡ old))
          → OnOk fed (new.lines.size ≡ old.lines.size + n) → IfErr fed (λ own. new.fault ≡ Some own)
          → counted_size new.fault new.lines.size ≤ counted_size known old.lines.size + n
      by (Ok u) None again grown kept = omega (arith, grown, counted_size-at_most new.fault new.lines.size)
      by (Ok u) (Some own) again grown kept = absurd (let e = again.0 in cc)
      by (Err own) known again grown kept =
          let none : counted_size new.fault new.lines.size ≡ 0 =
          ap (λ f. counted_size f new.lines.size) kept in
          omega (arith, none)
