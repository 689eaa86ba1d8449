use Rattle.std.proofs.Common.{◌≡◌, ℕ, ◌+◌, ◌∙◌, List, Some, ap, subst, sym}
use Rattle.mc_text.specs.Steps.{map_fault}
use Rattle.mc_text.proofs.StepLemmas.{if_ok_map}
use Rattle.mc_tables.specs.CacheTable.{CacheValue}
use Rattle.mc_tables.specs.ListedRows.{IsListedPart}
use Rattle.mc_tables.specs.RowsSoFar.{cache_start}
use Rattle.mc_forward.specs.ListedTables.{flow_pairs}
use Rattle.mc_input.specs.Stream.{KeepsCacheText, KeepsOfFirst, cache_and_text, read_first}
use Rattle.mc_input.specs.declared.fault.InputFault.TheVariants.{Cache}
use Rattle.mc_input.proofs.CacheLemmas.{cache_and_text-from_listed, cache_and_text-listed_Err, listed_part}
use Rattle.mc_input.proofs.PartResultLemmas.{cache_if-listed_in, cache_start-same_pairs}
use Rattle.mc_input.proofs.WalkLemmas.{IfErr-IsFaultOfStream_implied, KeepsOfFirst-implied}
use Rattle.mc_input.proofs.WalkLemmas.{read_first-Err_implied}
use Rattle.mc_input.proofs.cache_keeper.ListedPairsCacheKeeper.read_cache.Goals as goal

-- The reader lists the flows' pairs, so that what it keeps of the whole cache is the rows of those; it
-- keeps nothing else.
pub returns-clause-cache : goal.returns-clause-cache
returns-clause-cache g c =
    let t = c.args.slot.now.topology in
    let n = c.args.slot.now.number in
    let order = c.args.order in
    let pairs = flow_pairs t.flows in
    let read = listed_part order pairs in
    let gives = g.S.Slots.gives in
    let start = cache_start-same_pairs order c.args.self.now pairs c.new-reader.result
    (c.new-reader.ensures.start
    ∙ ap (λ (ps : List (ℕ × ℕ)). cache_start order (Some ps)) c.in_ok-clone.ensures.cases)
    c.requires.listed in
    if_ok_map (λ kept. KeepsOfFirst (gives c.args.slots.now t n) (gives c.read_slot.new.slots t (n + 1)) read
    (λ value. kept ≡ value))
    (λ kept. KeepsOfFirst (gives c.args.slots.now t n) (gives c.read_slot.new.slots t (n + 1))
    (cache_and_text order) (λ found. IsListedPart (Some pairs) kept found.0
    × KeepsCacheText (λ _. Unit {0}) (λ _. Unit {0}) order found.1))
    c.read_slot.result (c.read_slot.ensures.value read (λ part small. ap (map_fault (Cache part.name))
    (cache_if-listed_in order pairs c.new-reader.result start part.bytes small)))
    (λ kept keeps. KeepsOfFirst-implied (gives c.args.slots.now t n)
    (gives c.read_slot.new.slots t (n + 1)) read
    (cache_and_text order) (λ value. kept ≡ value) _ (λ part value is same.
    let whole = cache_and_text-from_listed order pairs part value is in (
      (whole.0, part.bytes),
      whole.1,
      (
        subst (λ (v : CacheValue). IsListedPart (Some pairs) v whole.0) (sym same) whole.2,
        λ reads vifs entries old. tt,
      ),
    )) keeps)

-- A cache is refused for the same fault whichever of its rows are listed.
pub returns-clause-fault : goal.returns-clause-fault
returns-clause-fault g c =
    let t = c.args.slot.now.topology in
    let order = c.args.order in
    let pairs = flow_pairs t.flows in
    let read = listed_part order pairs in
    let start = cache_start-same_pairs order c.args.self.now pairs c.new-reader.result
    (c.new-reader.ensures.start
    ∙ ap (λ (ps : List (ℕ × ℕ)). cache_start order (Some ps)) c.in_ok-clone.ensures.cases)
    c.requires.listed in
    IfErr-IsFaultOfStream_implied (read_first read) (read_first (cache_and_text order))
    (read_first-Err_implied read (cache_and_text order) (cache_and_text-listed_Err order pairs))
    (g.S.Slots.gives c.args.slots.now t c.args.slot.now.number) c.read_slot.result
    (c.read_slot.ensures.fault read (λ part small. ap (map_fault (Cache part.name))
    (cache_if-listed_in order pairs c.new-reader.result start part.bytes small)))
