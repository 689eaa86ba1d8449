use Rattle.std.proofs.Common.{◌≡◌, ◌+◌, ◌-◌, sym, subst, ◌∙◌, arith, not, false}
use Rattle.std.proofs.lemmas.Bool.{and_parts}
use Rattle.mc_igmp.specs.Kind.{is_change}
use Rattle.mc_igmp.specs.Records.{records_in, HaveNoChanges}
use Rattle.mc_igmp.proofs.RecordsLemmas.{after_records-first, after_records-none, records_in-first}
use Rattle.mc_igmp.proofs.group_records.skip_records.Goals as goal

-- The first record of the rest doesn't end within the bytes, and
-- its number is how many came before it, plus one.
pub returns-in_default : goal.returns-in_default
returns-in_default c =
    let i = c.loop-index.index in
    let first = after_records-first (c.args.count - i) (c.args.count - (i + 1)) (i + 1)
    c.loop-index.rest.now (omega arith) in
    rw c.from.ensures (sym c.loop-index.invariant.after ∙ (rw (← c.in_default.ensures) at first))

-- Skipping a record and then the others is skipping them all; if
-- neither it nor the others report a change, none of them does.
pub loop-index-preserved : goal.loop-index-preserved
loop-index-preserved c =
    let i = c.loop-index.index in
    let first = after_records-first (c.args.count - i) (c.args.count - (i + 1)) (i + 1)
    c.loop-index.rest.now (omega arith) in
    let records = records_in-first (c.args.count - i) (c.args.count - (i + 1)) c.loop-index.rest.now
    (omega arith) in
    let parts = rw (← c.in-Some.ensures) at records in
    record {
      after = sym (rw (← c.in-Some.ensures) at first) ∙ c.loop-index.invariant.after;
      lasting = λ so_far others.
          let both = and_parts c.loop-index.no_changes (not c.is_change.result) so_far in
          let lasts : is_change c.in-Some.record.kind ≡ false = grind (arith, both.1) in
          c.loop-index.invariant.lasting both.0 (subst HaveNoChanges (sym parts) (lasts, others));
    }

-- No record is left to skip.
pub returns : goal.returns
unfolding records_in
returns c =
    let i = c.loop-index.index in
    let none : c.args.count - i ≡ 0 = omega arith in
    let after = sym c.loop-index.invariant.after
    ∙ after_records-none (c.args.count - i) (i + 1) c.loop-index.rest.now none in
    (after, λ lasting. c.loop-index.invariant.lasting lasting (rw none tt))
