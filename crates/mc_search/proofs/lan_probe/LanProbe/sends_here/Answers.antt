-- Neither an open row nor the lack of one has a pair by which it could send.
use Rattle.std.proofs.Common.{inl, inr, sym, ap, ◌∙◌}
use Rattle.mc_forward.specs.RowValues.{row_value}
use Rattle.mc_search.proofs.ProbeLemmas.{list_any_sends-open_row, list_any_sends-no_row}
use Rattle.mc_search.proofs.lan_probe.LanProbe.sends_here.Goals as goal

pub returns-in-Open : goal.returns-in-Open
returns-in-Open c = elim c.in-Open.is [
  | inl e ↦ sym (list_any_sends-open_row _ c.args.interfaces.now (sym c.row.ensures.row ∙ ap row_value e))
  | inr e ↦ sym (list_any_sends-no_row _ c.args.interfaces.now (sym c.row.ensures.row ∙ ap row_value e))
]
