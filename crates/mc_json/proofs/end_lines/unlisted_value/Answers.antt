use Rattle.mc_json.proofs.end_lines.unlisted_value.Goals as goal

-- Each call adds the member of its name to those of the calls before it; the pair's group, source and routers
-- are those of its value.
pub returns : goal.returns
returns c = rw (c.group-group.ensures, c.source-source.ensures, c.routers.ensures) at
    (c.object.ensures _ (c.value.ensures _ _ c.new-2.ensures (c.object-inner.ensures _
    (c.string-2.ensures _ _ (c.list.ensures _ _ (c.string.ensures _ _ c.new.ensures
    c.format.ensures.ok) c.router_names.ensures) c.format-2.ensures.ok))))
