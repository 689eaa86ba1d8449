use Rattle.std.proofs.Common.{◌≡◌, ℕ, List, length, subst, arith}
use Rattle.std.proofs.lemmas.List.{map-id}
use Rattle.serde_json.specs.Data.{array}
use Rattle.mc_cert.specs.Denotation.{EachDenotes}
use Rattle.mc_cert.specs.Object.{rows_in}
use Rattle.mc_cert.specs.Tokens.{DenotesNumber}
use Rattle.mc_cert.proofs.FieldLemmas.{DenotesNumbers-from_rows}
use Rattle.mc_cert.proofs.tokens.shared_flow.tree_numbers_value.Goals as goal

-- The rows of the list denote the numbers of the flows' trees one by one, and are as many as the flows.
pub returns : goal.returns
returns c =
    let t = c.args.topology.now in
    let (ds, reads, each) = c.in_ok-numbers.ensures.rows in
    let numbers = c.in_ok-numbers.numbers.items in
    let count : length numbers ≡ length t.flows = omega arith in (
      array ds,
      reads,
      DenotesNumbers-from_rows t ds numbers count
          (subst (λ (ns : List ℕ). EachDenotes (DenotesNumber t) 0 (rows_in ds) ns) (map-id numbers) each),
    )
