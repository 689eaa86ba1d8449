use Rattle.std.proofs.Common.{◌≡◌, ◌+◌, ◌-◌, length, min, ap, rules}
use Rattle.mc_tables.specs.CacheTable.{EntryValue}
use Rattle.mc_forward.proofs.OutgoingLemmas.{append-lower_vifs_and_rest}
use Rattle.mc_forward.proofs.outgoing.outgoing_from.Goals as goal

-- Vifs ascend from at least 0 and none is over 31, so that of n of them at least vif + n - 32 are
-- lower than vif.
pub returns : goal.returns
returns c = record {
  rest = (
      let oifs = c.entry.inside.oifs.now in
      let is : c.min.result ≡ min (c.args.vif + length oifs - 32) (length oifs) = search rules in
      append-lower_vifs_and_rest c.args.entry.now oifs c.args.vif c.min.result c.requires.valid
      (ap (λ (e : EntryValue). e.oifs) c.entry.view_is) is);
}
