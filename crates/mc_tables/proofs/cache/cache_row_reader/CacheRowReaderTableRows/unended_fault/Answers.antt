-- A line without a line feed is refused, but for a repeat in an earlier line, which comes first.
use Rattle.std.proofs.Common.{Err, ◌∙◌, ap}
use Rattle.mc_tables.proofs.RowsSoFarLemmas.{table_from-unended}
use Rattle.mc_tables.proofs.cache.cache_row_reader.CacheRowReaderTableRows.unended_fault.Goals as goal

pub returns : goal.returns
returns c = λ bytes.
    table_from-unended c.args.self.now c.args.number bytes
    ∙ ap Err (c.earliest_fault.ensures.first (λ is. cc))
