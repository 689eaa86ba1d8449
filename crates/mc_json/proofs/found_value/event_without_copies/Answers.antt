use Rattle.std.proofs.Common.{[], ap, map}
use Rattle.serde_json.specs.View.{view as data_of}
use Rattle.mc_json.proofs.found_value.event_without_copies.Goals as goal

-- Each call adds the member of its name, and the list of copies is empty.
pub returns : goal.returns
returns c = rw (← c.event.view_is) (c.object.ensures _ (c.count-2.ensures _ (c.count.ensures _
    (c.router.ensures _ (c.text.ensures _ (c.list.ensures _ [] c.new.ensures
    (ap (map data_of) c.new-2.ensures.items)))))))
