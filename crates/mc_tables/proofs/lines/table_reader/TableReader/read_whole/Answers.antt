use Rattle.std.proofs.Common.{[], ap, sym}
use Rattle.std.specs.Prelude.{Err}
use Rattle.std.proofs.lemmas.Result.{err_from_is_err_and}
use Rattle.mc_text.proofs.StepLemmas.{err_injective}
use Rattle.mc_tables.specs.LinesSoFar.{read_after}
use Rattle.mc_tables.specs.Steps.{unless_fault}
use Rattle.mc_tables.specs.TableSoFar.{table_if}
use Rattle.mc_tables.proofs.PieceLemmas.{whole_if-only_piece}
use Rattle.mc_tables.proofs.lines.table_reader.TableReader.read_whole.Goals as goal

-- The text was fed as one piece and ended: the result is that of the whole, as it isn't too large.
pub returns : goal.returns
returns g c = record {
  table = λ _.
      let read = table_if g.R.TableRows.header g.R.TableRows.table in
      whole_if-only_piece (read c.args.self) (read c.feed.new.self) c.args.text.now c.args.self.lines.size
      c.finish.result c.requires.size (λ fits. c.in_ok-feed.ensures.goes_on [] (λ is. cc) fits)
      c.finish.ensures
      (λ more. absurd (let refused = c.in_ok-feed.ensures.too_large c.requires.sound more in cc));
}

-- The fault of the only piece is that of the whole text, or that it is too large.
pub returns-in_err-feed : goal.returns-in_err-feed
returns-in_err-feed g c = record {
  table = (
      let read = table_if g.R.TableRows.header g.R.TableRows.table in
      let new = c.feed.new.self in
      let p = err_from_is_err_and c.from_residual.result c.from_residual.ensures.1 in
      rw (p.1, p.2) (λ there.
      whole_if-only_piece (read c.args.self) (read new) c.args.text.now c.args.self.lines.size
      (Err c.in_err-feed.field-0.0) c.requires.size
      (λ fits. c.in_err-feed.ensures.goes_on [] (λ is. there (ap Err (err_injective is))) fits)
      (ap (λ fault. unless_fault fault
      (read_after g.R.TableRows.header (g.R.TableRows.table new.rows) new.lines []))
      (sym c.in_err-feed.ensures.fault))
      (λ more. ap Err (err_injective (c.in_err-feed.ensures.too_large c.requires.sound more)))));
}
