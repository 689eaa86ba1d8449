-- The distinct records are the same as all.
use Rattle.std.proofs.lemmas.Result.{IfOk-weaker}
use Rattle.mc_filter.proofs.SameRecordLemmas.{is_tally_of-same, keep_to_channels-same}
use Rattle.mc_filter.proofs.channels.tally_of.Goals as goal

pub returns-clause-each : goal.returns-clause-each
returns-clause-each c = IfOk-weaker c.tally_of_records.result _ _ (λ tally counts.
    is_tally_of-same c.args.groups.now c.args.channels.now c.distinct_records.result c.args.reports.now tally
    c.distinct_records.ensures counts) c.tally_of_records.ensures.each

pub returns-clause-more : goal.returns-clause-more
returns-clause-more c = IfOk-weaker c.tally_of_records.result _ _ (λ tally keep.
    keep_to_channels-same c.args.groups.now c.args.channels.now c.distinct_records.result c.args.reports.now
    tally c.distinct_records.ensures keep) c.tally_of_records.ensures.more
