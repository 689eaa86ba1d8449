use Rattle.std.proofs.Common.{◌≡◌, length}
use Rattle.mc_forward.proofs.VifLanLemmas.{HaveVifs}
use Rattle.mc_forward.proofs.interfaces.add_router.Given as goal

-- Each list has grown by those of the router's vifs so far that are placed on its LAN.
abbrev pub invariant-loop-vif : goal.invariant-loop-vif
invariant-loop-vif l = record {
  count : length l.lists.items ≡ length l.fn.lists.items;
  have : HaveVifs l.fn.lists.items l.lists.items l.fn.vif_lans l.fn.router l.vif;
}
