use Rattle.std.proofs.Common.{take, flat_map}
use Rattle.std.specs.Fmt.{HasWritten, IsPlainFormatter}
use Rattle.mc_forward.specs.Domains.{oif_pairs}
use Rattle.mc_forward.specs.ListedTables.{facts}
use Rattle.mc_shown.specs.RowText.{oif_text}
use Rattle.mc_shown.proofs.row_text.ShownOifsDisplay.fmt.Given as goal

-- the outgoing vifs so far are written
abbrev pub invariant-loop-oif : goal.invariant-loop-oif
invariant-loop-oif g l =
    IsPlainFormatter l.initial.f
    → HasWritten g.W.Write.write_str_gives l.initial.f
    (flat_map (oif_text (facts l.fn.self.view.now.domain) l.fn.self.router)
    (oif_pairs (take l.oif-index l.oif-items))) l.f
