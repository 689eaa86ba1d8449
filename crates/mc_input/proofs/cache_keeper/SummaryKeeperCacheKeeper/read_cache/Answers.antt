use Rattle.std.proofs.Common.{◌≡◌, ℕ, ◌+◌, ◌∙◌, ◌++◌, ◌∷◌, [], List, Ok, ap, subst, sym}
use Rattle.std.proofs.lemmas.Result.{err_from_is_err_and}
use Rattle.mc_text.specs.Steps.{map_fault}
use Rattle.mc_tables.specs.Summary.{SummaryValue}
use Rattle.mc_tables.specs.SummaryReading.{summary_in}
use Rattle.mc_tables.specs.declared.summary.summarized_cache.SummarizedCache.{SummarizedCache}
use Rattle.mc_forward.specs.ListedTables.{Pairwise, flow_pairs}
use Rattle.mc_forward.proofs.ListedTableLemmas.{pairwise-more}
use Rattle.mc_input.specs.Stream.{cache_and_text, read_first, router_read}
use Rattle.mc_input.specs.SummariesOfFiles.{IsSummaryOfRead}
use Rattle.mc_input.specs.declared.fault.InputFault.TheVariants.{Cache}
use Rattle.mc_input.proofs.CacheLemmas.{cache_and_text-from_summary, cache_and_text-summary_Err}
use Rattle.mc_input.proofs.CacheLemmas.{summary_of_part}
use Rattle.mc_input.proofs.SummaryLemmas.{summary_in-same_pairs}
use Rattle.mc_input.proofs.WalkLemmas.{IsFaultOfStream-implied, KeepsOfFirst-implied, read_first-Err_implied}
use Rattle.mc_input.proofs.cache_keeper.SummaryKeeperCacheKeeper.read_cache.Goals as goal

-- A cache is refused for the same fault whether it is summarized or not.
pub returns-in_err-read-clause-fault : goal.returns-in_err-read-clause-fault
returns-in_err-read-clause-fault g c =
    let p = err_from_is_err_and c.from_residual-in_err-read.result c.from_residual-in_err-read.ensures.1 in
    let t = c.args.slot.now.topology in
    let order = c.args.order in
    let all = c.args.self.now.all in
    let pairs = flow_pairs t.flows in
    let read = summary_of_part all order pairs in
    rw (p.1, p.2) (IsFaultOfStream-implied (read_first read) (read_first (cache_and_text order))
    (read_first-Err_implied read (cache_and_text order) (cache_and_text-summary_Err order pairs all))
    (g.S.Slots.gives c.args.slots.now t c.args.slot.now.number) c.in_err-read.field-0.0
    (c.in_err-read.ensures.fault read (λ part small. ap (map_fault (Cache part.name))
    (c.new-reader.ensures.reads part.bytes small
    ∙ ap (λ (ps : List (ℕ × ℕ)). summary_in all order ps part.bytes) c.in_ok-clone.ensures.cases
    ∙ summary_in-same_pairs all order c.args.self.now.listed pairs part.bytes c.requires.listed))))

-- The reader lists the flows' pairs and summarizes the others, and this summary is pushed behind those
-- of the routers before.
pub returns-clause-cache : goal.returns-clause-cache
returns-clause-cache g c =
    let t = c.args.slot.now.topology in
    let n = c.args.slot.now.number in
    let order = c.args.order in
    let all = c.args.self.now.all in
    let pairs = flow_pairs t.flows in
    let read = summary_of_part all order pairs in
    let own = c.in_ok-read.read in
    let before = c.args.self.now.summary.items in
    KeepsOfFirst-implied (g.S.Slots.gives c.args.slots.now t n)
    (g.S.Slots.gives c.read_slot.new.slots t (n + 1)) read
    (cache_and_text order) (λ value. own ≡ value) _ (λ part value is same.
    let whole = cache_and_text-from_summary order pairs all part own
    (subst (λ (v : SummarizedCache). read part ≡ Ok v) (sym same) is) in (
      (whole.0, part.bytes),
      whole.1,
      (
        whole.2,
        λ reads vifs entries old.
            subst (λ (s : List SummaryValue). Pairwise (IsSummaryOfRead all pairs)
            (reads ++ router_read vifs entries order part.bytes ∷ []) s) (sym c.in_ok-push.ensures.items)
            (pairwise-more (IsSummaryOfRead all pairs) reads before
            (router_read vifs entries order part.bytes) own.summary old whole.3),
      ),
    ))
    (c.in_ok-read.ensures.value read (λ part small. ap (map_fault (Cache part.name))
    (c.new-reader.ensures.reads part.bytes small
    ∙ ap (λ (ps : List (ℕ × ℕ)). summary_in all order ps part.bytes) c.in_ok-clone.ensures.cases
    ∙ summary_in-same_pairs all order c.args.self.now.listed pairs part.bytes c.requires.listed)))
