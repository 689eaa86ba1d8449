-- A part that was opened and collected to its end is read.
use Rattle.std.proofs.Common.{◌≡◌, ℕ, List, [], ◌∷◌, ◌++◌, take, Option, Some, ap, ◌∙◌, sym, refl}
use Rattle.std.proofs.lemmas.List.{append-nil}
use Rattle.mc_bundle.specs.Bundle.{PartText}
use Rattle.mc_bundle.specs.PartsReading.{PartsState, prepend_parts, is_read as is_failed, parts_from_current}
use Rattle.mc_bundle.specs.RestOfBundle.{rest_of_bundle}
use Rattle.mc_bundle.specs.declared.bundle_fault.BundleFault.{BundleFault}
use Rattle.mc_bundle.specs.declared.bundle_fault.BundleFault.TheVariants as bundle
use Rattle.mc_bundle.specs.declared.stage.Stage.TheVariants as stages
use Rattle.mc_bundle.proofs.RestOfBundleLemmas.{parts_from_current-in_part}
use Rattle.mc_input.specs.SourceFault.{is_read, from_bundle_fault}

-- two names of one part are one
pub Some-injective : {x y : List ℕ} → (let n : Option (List ℕ) = Some x in n) ≡ Some y → x ≡ y
Some-injective e = cc

-- a part with a name that was opened, of which these bytes were collected, up to its end
pub rest_of_bundle-part_collected : (old s new : PartsState) (name bytes items text : List ℕ)
    → (middle : List ℕ) × (s.remaining ≡ Some middle)
    × (rest_of_bundle old text ≡ parts_from_current s [] middle)
    → ((t done : List ℕ) → s.remaining ≡ Some t → (later : List ℕ) × (new.remaining ≡ Some later)
    × (parts_from_current s done t ≡ parts_from_current new (done ++ items) later))
    → (new.stage ≡ stages.Part) × (new.name ≡ s.name) × (new.left ≡ 0)
    → new.name ≡ Some name → bytes ≡ items
    → (later : List ℕ) × (new.remaining ≡ Some later) × (rest_of_bundle old text
    ≡ prepend_parts (record { name = name; bytes = bytes } ∷ []) (rest_of_bundle new later))
rest_of_bundle-part_collected old s new name bytes items text next collects whole named same =
    let read = collects next.0 [] next.1 in
    let all : items ++ take new.left read.0 ≡ bytes =
    ap (λ n. items ++ take n read.0) whole.2 ∙ append-nil items ∙ sym same in (
      read.0,
      read.1,
      next.2 ∙ read.2 ∙ parts_from_current-in_part new name items read.0 whole.0 named
          ∙ ap (λ (b : List ℕ). let p : PartText = record { name = name; bytes = b } in
          prepend_parts (p ∷ []) (rest_of_bundle new read.0)) all,
    )

-- a fault in the middle of a part is the source's where it is the input's
pub is_failed-from_bundle_fault : (fault : BundleFault) → is_failed fault ≡ is_read (from_bundle_fault fault)
is_failed-from_bundle_fault bundle.Read = refl
is_failed-from_bundle_fault bundle.Memory = refl
is_failed-from_bundle_fault fault = refl
