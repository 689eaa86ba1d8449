use Rattle.std.proofs.Common.{subst, arith}
use Rattle.std.proofs.lemmas.List.{map-id}
use Rattle.serde_json.specs.Data.{array}
use Rattle.mc_cert.specs.Certificate.{Tree}
use Rattle.mc_cert.specs.Denotation.{EachDenotes, DenotesEntry}
use Rattle.mc_cert.specs.Object.{rows_in}
use Rattle.mc_cert.proofs.FieldLemmas.{DenotesTree-from_rows}
use Rattle.mc_cert.proofs.tokens.entry.entries_value.Goals as goal

-- The rows of the list denote the entries one by one, and are at most 1,024.
pub returns : goal.returns
returns c =
    let t = c.args.topology.now in
    let (ds, reads, each) = c.in_ok-entries.ensures.rows in
    let es = c.in_ok-entries.entries.items in (
      array ds,
      reads,
      DenotesTree-from_rows t ds es (omega (arith, c.in_ok-entries.ensures.few))
          (subst (λ (xs : Tree). EachDenotes (λ _. DenotesEntry t) 0 (rows_in ds) xs) (map-id es) each),
    )
