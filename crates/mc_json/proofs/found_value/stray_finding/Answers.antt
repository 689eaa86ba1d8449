use Rattle.mc_json.proofs.found_value.stray_finding.Goals as goal

-- The three members are the kind of the finding, the router, and the vif by which the copy left.
pub returns : goal.returns
returns c = c.object.ensures _ (c.count.ensures _ (c.router.ensures _ (c.text.ensures _
    c.new.ensures)))
