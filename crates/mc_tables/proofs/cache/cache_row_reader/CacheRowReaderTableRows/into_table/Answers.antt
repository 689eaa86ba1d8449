-- At the text's end only a repeat among the rows that aren't kept can refuse the table of the others.
use Rattle.std.proofs.Common.{Ok, ◌∙◌, ap}
use Rattle.mc_text.specs.Steps.{◌>>=◌}
use Rattle.mc_tables.proofs.cache.cache_row_reader.CacheRowReaderTableRows.into_table.Goals as goal

pub returns : goal.returns
returns c = record {
  table = ap Ok (c.from_rows.ensures.value ∙ c.into_kept.ensures ∙ c.in_ok-check_repeats.ensures.table)
      ∙ ap (λ r. r >>= λ _. Ok c.args.self.rows.table) c.in_ok-check_repeats.ensures.repeats;
}
