-- What reading a bundle answers, by what the bundle denotes.
use Rattle.std.specs.Prelude.{◌≡◌, ℕ, Bool, List, Option, is_some, Result, Ok, Err}
use Rattle.std.proofs.Common.{subst}
use Rattle.mc_bundle.specs.Bundle.{PartText}
use Rattle.mc_bundle.specs.BundleReading.{bundle_of}
use Rattle.mc_text.specs.Steps.{◌>>=◌, map_fault}
use Rattle.mc_bundle.proofs.BundleLaws.{bundle_of-sound, bundle_of-complete}
use Rattle.mc_text.proofs.StepLemmas.{bind_ok}
use Rattle.mc_files.proofs.PartLemmas.{Ok-from_refused_as}
use Rattle.mc_input.specs.Input.{InputValue, DenotesInput, PartsDenoteInput}
use Rattle.mc_input.specs.InputReading.{certificate_in, input_of_parts, input_of_bundle}
use Rattle.mc_input.specs.PartsOneByOne.{InputAndCertificate, read_all_parts}
use Rattle.mc_input.specs.declared.fault.InputFault.{InputFault}
use Rattle.mc_input.specs.declared.fault.InputFault.TheVariants.{Bundle}
use Rattle.mc_input.proofs.BundleDenotesInputLemmas.{PartsDenoteInput-from_input_of_parts, input_of_parts-Ok}

-- equal results have equal values
pub Ok-injective : {A E : Type 0} {x y : A} → (let r : Result A E = Ok x in r) ≡ Ok y → x ≡ y
Ok-injective e = cc

-- an input with its certificate
abbrev with_certificate_text : (certified : Bool) → List PartText → InputValue
    → Result InputAndCertificate InputFault
with_certificate_text certified parts v = Ok (v, certificate_in certified parts v.topology)

-- ---- a bundle

-- the result for a text
abbrev pub read_bundle : (certified : Bool) → List ℕ → Result InputAndCertificate InputFault
read_bundle certified text = map_fault Bundle (bundle_of text) >>= read_all_parts certified

-- a bundle denotes what it is read as
pub DenotesInput-from_read_bundle : (certified : Bool) (text : List ℕ) (v : InputValue) (c : Option (List ℕ))
    → read_bundle certified text ≡ Ok (v, c) → DenotesInput text v c
DenotesInput-from_read_bundle certified text v c e =
    let parts = bind_ok (map_fault Bundle (bundle_of text)) (read_all_parts certified) (v, c) e in
    let bundle = bundle_of-sound text parts.0 (Ok-from_refused_as Bundle (bundle_of text) parts.0 parts.1) in
    let input = bind_ok (input_of_parts certified parts.0) (with_certificate_text certified parts.0) (v, c)
    parts.2 in
    let both : (let p : InputAndCertificate =
    (input.0, certificate_in certified parts.0 input.0.topology) in p)
    ≡ (v, c) = Ok-injective input.2 in
    let denotes = PartsDenoteInput-from_input_of_parts certified parts.0 input.0 input.1 in
    let P : InputAndCertificate → Type 0 = λ p. PartsDenoteInput parts.0 p.0 p.1 in
    record {
      parts = parts.0;
      bundle = bundle;
      parts_denote = subst P both denotes;
    }

-- and is refused where its parts are
Err-from_with_certificate_text : (certified : Bool) (parts : List PartText) (r : Result InputValue InputFault)
    (fault : InputFault) → (r >>= with_certificate_text certified parts) ≡ Err fault → r ≡ Err fault
Err-from_with_certificate_text certified parts (Ok v) fault e = absurd cc
Err-from_with_certificate_text certified parts (Err other) fault e = cc

-- so the bundle's input is refused with the same fault
pub input_of_bundle-Err_from_read_bundle : (certified : Bool) (text : List ℕ) (fault : InputFault)
    → read_bundle certified text ≡ Err fault → input_of_bundle certified text ≡ Err fault
unfolding input_of_bundle
input_of_bundle-Err_from_read_bundle certified text fault e = by (map_fault Bundle (bundle_of text)) e
  where
    by : (r : Result (List PartText) InputFault) → (r >>= read_all_parts certified) ≡ Err fault
        → (r >>= input_of_parts certified) ≡ Err fault
    by (Ok parts) e = Err-from_with_certificate_text certified parts (input_of_parts certified parts) fault e
    by (Err other) e = cc

-- a bundle that denotes an input is read as that
pub input_of_bundle-Ok : (certified : Bool) (text : List ℕ) (v : InputValue) (c : Option (List ℕ))
    → is_some c ≡ certified → DenotesInput text v c → input_of_bundle certified text ≡ Ok v
unfolding input_of_bundle
input_of_bundle-Ok certified text v c is h =
    rw (bundle_of-complete text h.parts h.bundle)
    (input_of_parts-Ok certified h.parts v c is h.parts_denote).0
