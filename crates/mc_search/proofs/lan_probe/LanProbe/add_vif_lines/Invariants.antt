use Rattle.std.proofs.Common.{◌≡◌, ◌++◌, take, flat_map}
use Rattle.mc_forward.specs.Domains.{oif_pairs}
use Rattle.mc_search.specs.LanProbe.{search_in}
use Rattle.mc_search.specs.SearchLine.{vif_lines}
use Rattle.mc_search.specs.declared.listed_interface.ListedInterface.{ListedInterface}
use Rattle.mc_search.proofs.lan_probe.LanProbe.add_vif_lines.Given as goal

-- the lines of the vifs of the interfaces so far were added
abbrev pub invariant-loop-interface : goal.invariant-loop-interface
invariant-loop-interface l = l.lines.items ≡ l.fn.lines.items
    ++ flat_map (λ (i : ListedInterface). vif_lines (search_in l.fn.self) l.fn.lan l.fn.router l.fn.from
    (oif_pairs l.fn.entry.oifs) i.vif) (take l.interface-index l.fn.interfaces)
