-- A listed key gets a number, whichever it is, and so joins the keys that have one.
use Rattle.std.proofs.Common.{◌∙◌, Some, ap}
use Rattle.std.specs.FinSet as set
use Rattle.mc_tables.specs.CacheTable.{key_cmp}
use Rattle.mc_tables.specs.ListedRows.{ListedSet}
use Rattle.mc_tables.specs.SummarySoFar.{SummarySoFar, summary_with_unresolved}
use Rattle.mc_tables.proofs.SummaryStepLemmas.{number_inserted-same_listed, numbered_keys}
use Rattle.mc_tables.proofs.SummaryStepLemmas.{numbered_keys-inserted}
use Rattle.mc_tables.proofs.summary.summary_so_far.SummarySoFar.add_unresolved.Goals as goal

pub returns-clause-summarized : goal.returns-clause-summarized
returns-clause-summarized c =
    let key = c.args.key.now in
    let inside = c.self.inside in
    let numbered = c.in_ok-add.ensures.numbered in
    let make : ListedSet → set.FinSet key_cmp → SummarySoFar = λ listed unresolved. record {
      listed = listed;
      unresolved = unresolved;
      first = inside.first;
      unlisted = inside.unlisted;
      lowest = inside.lowest;
    } in
    ap (λ (listed : ListedSet). make listed (numbered_keys c.add.new.self.numbers))
    (number_inserted-same_listed key 0 inside.unresolved c.add.new.self c.in_ok-add.field-0 numbered)
    ∙ ap (make inside.unresolved.listed)
    (numbered_keys-inserted key 0 inside.unresolved c.add.new.self c.in_ok-add.field-0 numbered)
    ∙ ap (λ (s : SummarySoFar). summary_with_unresolved s (Some key)) c.self.view_is
