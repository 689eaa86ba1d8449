use Rattle.std.proofs.Common.{◌≡◌, ◌++◌, take, flat_map}
use Rattle.mc_search.specs.LanProbe.{search_in}
use Rattle.mc_search.specs.SearchLine.{device_lines}
use Rattle.mc_search.specs.declared.listed_interface.ListedInterface.{ListedInterface}
use Rattle.mc_search.proofs.lan_probe.LanProbe.add_device_lines.Given as goal

-- the lines of the interfaces so far were added
abbrev pub invariant-loop-listed : goal.invariant-loop-listed
invariant-loop-listed l = l.lines.items ≡ l.fn.lines.items
    ++ flat_map (λ (i : ListedInterface). device_lines (search_in l.fn.self) l.fn.lan i i.vif)
    (take l.listed-index l.fn.interfaces)
