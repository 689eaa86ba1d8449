use Rattle.std.proofs.Common.{◌≡◌, ◌-◌}
use Rattle.mc_bundle.specs.Bundle.{max_bundle, max_parts}
use Rattle.mc_bundle.specs.BundleReading.{parts_from}
use Rattle.mc_bundle.specs.BundleView.{part_texts}
use Rattle.mc_bundle.specs.BundleView.{place_text}
use Rattle.mc_text.proofs.StepLemmas.{with_front}
use Rattle.mc_bundle.proofs.BundleLaws.{parts_at}
use Rattle.mc_bundle.proofs.bundle.parts_of.Given as goal

-- The parts so far and then those from this place are those of the whole text.
abbrev pub invariant-places : goal.invariant-places
invariant-places l = with_front (part_texts l.parts.items) (parts_at (place_text l.place))
    ≡ parts_from max_parts (max_bundle - 17) l.text

-- Each part leaves fewer that may come.
abbrev pub decreases-places : goal.decreases-places
decreases-places l = l.place.parts
