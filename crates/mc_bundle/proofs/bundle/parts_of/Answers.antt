use Rattle.std.proofs.Common.{◌≡◌, ap, true, not, ◌∙◌}
use Rattle.std.specs.Prelude.{is_ok}
use Rattle.std.proofs.lemmas.List.{map_push}
use Rattle.mc_bundle.specs.BundleView.{part_text, part_texts}
use Rattle.mc_bundle.specs.BundleView.{place_text}
use Rattle.mc_bundle.proofs.BundleLaws.{next_part_from-fewer_parts, read_parts_more, read_parts_all}
use Rattle.mc_bundle.proofs.BundleLaws.{read_parts_fault}
use Rattle.mc_bundle.proofs.bundle.parts_of.Goals as goal

-- Each part takes one from the number of parts that may still come.
pub places-smaller : goal.places-smaller
places-smaller c = let found = rw c.in-Ok-Some.field-0-is at c.in-Ok-Some.ensures in
    next_part_from-fewer_parts (place_text c.places.place) _ _ found

-- The parts read so far and those from this place are all parts:
-- the new one goes from the second list to the first.
pub places-preserved : goal.places-preserved
places-preserved c =
    let found = rw c.in-Ok-Some.field-0-is at c.in-Ok-Some.ensures in
    let pushed : is_ok c.push.result ≡ true = c.is_err.ensures.negation
    ∙ ap not c.if-is_err.false in
    let items = rw pushed at c.push.ensures.items in
    let texts = map_push part_text c.places.parts.items c.in-Ok-Some.part in
    rw (items, texts) (read_parts_more (part_texts c.places.parts.items) (place_text c.places.place) _ _ _
    found c.places.invariant)

-- At the line `end` no part follows, so that the parts read so far are all.
pub returns-in-Ok-None : goal.returns-in-Ok-None
returns-in-Ok-None c =
    let found = rw c.in-Ok-None.field-0-is at c.in-Ok-None.ensures in
    read_parts_all (part_texts c.places.parts.items) (place_text c.places.place) _ found c.places.invariant

-- The parts from this place end with this fault, and parts in front of it don't change a fault.
pub returns-in-Err : goal.returns-in-Err
returns-in-Err c = read_parts_fault (part_texts c.places.parts.items) (place_text c.places.place) _
    c.in-Err.fault c.in-Err.ensures c.places.invariant
