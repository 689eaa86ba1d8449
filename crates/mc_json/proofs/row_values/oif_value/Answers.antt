use Rattle.mc_json.proofs.row_values.oif_value.Goals as goal

-- The three members are the device, the threshold and the vif.
pub returns : goal.returns
returns c = c.object.ensures _ (c.count-2.ensures _ (c.count.ensures _ (c.value.ensures _ _
    c.new.ensures c.device_value.ensures)))
