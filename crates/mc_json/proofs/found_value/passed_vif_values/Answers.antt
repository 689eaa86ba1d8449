use Rattle.mc_json.proofs.SentVifLemmas.{vif_data-take_more}
use Rattle.mc_json.proofs.found_value.passed_vif_values.Goals as goal

-- The vif at this place is added exactly if the packet's TTL passes its threshold.
pub loop-oif-preserved : goal.loop-oif-preserved
loop-oif-preserved c =
    vif_data-take_more c.args.ttl c.args.oifs.now _ c.loop-oif.oif-index _ _ c.loop-oif-test.true
    c.loop-oif.invariant c.in_ok-push_passed_vif.ensures
