-- What contracts see of a part and of a place in a bundle: plain data, with lists of bytes.
use Rattle.mc_bundle.specs.declared.part.Part.{Part}
use Rattle.mc_bundle.specs.declared.bundle.BundlePlace.{BundlePlace}
use Rattle.mc_bundle.specs.Bundle.{PartText}
use Rattle.mc_bundle.specs.BundleReading.{BundlePlace as BundlePlaceText}
use Rattle.std.specs.Prelude.{List, map}

-- what a part is in contracts
abbrev pub part_text : Part → PartText
part_text part = record { name = part.name; bytes = part.bytes.now }

-- what parts are in contracts, one by one
abbrev pub part_texts : List Part → List PartText
part_texts parts = map part_text parts

-- what a place in a bundle is in contracts
abbrev pub place_text : BundlePlace → BundlePlaceText
place_text place = record { parts = place.parts; room = place.room; rest = place.rest.now }

-- what a part and the place after it are in contracts
abbrev pub part_and_place_text : Part × BundlePlace → PartText × BundlePlaceText
part_and_place_text found = (part_text found.0, place_text found.1)
