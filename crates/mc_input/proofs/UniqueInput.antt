-- A text, or the files of a folder, denote at most one input, and the bundle packed of the files
-- denotes the same one.
use Rattle.std.specs.Prelude.{◌≡◌, ℕ, false, List, [], ◌∷◌, Option, is_some, None, Some, Ok, refl}
use Rattle.std.proofs.Common.{ap, ◌∙◌, sym, subst}
use Rattle.mc_bundle.specs.Bundle.{PartText, IsBundle}
use Rattle.mc_bundle.proofs.BundleLaws.{bundle_of-complete}
use Rattle.mc_topology.specs.Topology.{TopologyValue}
use Rattle.mc_topology.specs.Reading.{parse_topology}
use Rattle.mc_topology.proofs.TopologyTexts.{parse_topology-from_denotes}
use Rattle.mc_files.specs.Files.{FileText}
use Rattle.mc_files.specs.Layout.{Slot, part_name, slots, topology_slot}
use Rattle.mc_files.specs.Packing.{ArePacked, IsPacked}
use Rattle.mc_input.specs.Input.{InputValue, DenotesInput}
use Rattle.mc_input.specs.InputReading.{input_of_parts, certificate_in}
use Rattle.mc_input.specs.FilesInput.{FilesDenoteInput}
use Rattle.mc_input.proofs.BundleDenotesInputLemmas.{input_of_parts-Ok}
use Rattle.mc_input.proofs.FilesDenoteInputLemmas.{input_of_files-Ok}
use Rattle.mc_input.proofs.ReadLemmas.{Ok-injective}

-- two inputs of one text, and their certificates
pub DenotesInput-unique : (text : List ℕ) (a b : InputValue) (c d : Option (List ℕ))
    → is_some d ≡ is_some c → DenotesInput text a c → DenotesInput text b d → (a ≡ b) × (c ≡ d)
DenotesInput-unique text a b c d is h k =
    let same : k.parts ≡ h.parts = Ok-injective (sym (bundle_of-complete text k.parts k.bundle)
    ∙ bundle_of-complete text h.parts h.bundle) in
    let P : List PartText → Type 0 = λ ps. (input_of_parts (is_some c) ps ≡ Ok b)
    × (certificate_in (is_some c) ps b.topology ≡ d) in
    let ours = input_of_parts-Ok (is_some c) h.parts a c refl h.parts_denote in
    let theirs : P h.parts = subst P same (input_of_parts-Ok (is_some c) k.parts b d is k.parts_denote) in
    let value_is : a ≡ b = Ok-injective (sym ours.0 ∙ theirs.0) in
    let moved = ap (λ (v : InputValue). certificate_in (is_some c) h.parts v.topology) value_is in
    (value_is, sym ours.1 ∙ moved ∙ theirs.1)

-- two inputs of the same files
pub FilesDenoteInput-unique : (files : List FileText) (a b : InputValue) → FilesDenoteInput files a
    → FilesDenoteInput files b → a ≡ b
FilesDenoteInput-unique files a b h k =
    Ok-injective (sym (input_of_files-Ok files a h) ∙ input_of_files-Ok files b k)

Some-injective : {A : Type 0} {x y : A} → (let o : Option A = Some x in o) ≡ Some y → x ≡ y
Some-injective e = cc

-- the parts that are packed by these names
ArePacked-unique : (files : List FileText) (names : List Slot) (ps qs : List PartText)
    → ArePacked files names ps → ArePacked files names qs → ps ≡ qs
ArePacked-unique files [] [] [] p q = refl
ArePacked-unique files [] [] (b ∷ qs) p q = absurd q
ArePacked-unique files [] (a ∷ ps) qs p q = absurd p
ArePacked-unique files (n ∷ ns) [] qs p q = absurd p
ArePacked-unique files (n ∷ ns) (a ∷ ps) [] p q = absurd q
ArePacked-unique files (n ∷ ns) (a ∷ ps) (b ∷ qs) p q =
    let name : a.name ≡ b.name = p.0 ∙ sym q.0 in
    let bytes : a.bytes ≡ b.bytes = Some-injective (sym p.1 ∙ q.1) in
    part_is a b ps qs name bytes (ArePacked-unique files ns ps qs p.2 q.2)
  where
    part_is : (a b : PartText) (ps qs : List PartText) → a.name ≡ b.name → a.bytes ≡ b.bytes
        → ps ≡ qs → a ∷ ps ≡ b ∷ qs
    part_is a b ps qs name bytes rest =
        ap (λ x. (let p : PartText = record { name = x; bytes = a.bytes } in p) ∷ ps) name
        ∙ ap (λ x. (let p : PartText = record { name = b.name; bytes = x } in p) ∷ ps) bytes
        ∙ ap (λ xs. b ∷ xs) rest

-- the parts that are packed of files that denote an input
pub DenotesInput-from_packed : (files : List FileText) (parts : List PartText) (text : List ℕ)
    (v : InputValue) → FilesDenoteInput files v → IsPacked files false parts → IsBundle text parts
    → DenotesInput text v None
DenotesInput-from_packed files parts text v h p bundle =
    let top : PartText = record { name = part_name topology_slot; bytes = h.parts_denote.topology } in
    let front : ArePacked files (slots false v.topology)
    (top ∷ h.parts_denote.of_routers) = subst (λ ps. ArePacked files
    (slots false v.topology) ps) h.parts_denote.in_order h.packed in
    let bytes : h.parts_denote.topology ≡ p.text = Some-injective (sym front.1 ∙ p.first) in
    let ours = subst (λ bs. parse_topology bs ≡ Ok v.topology) bytes
    (parse_topology-from_denotes h.parts_denote.topology v.topology h.parts_denote.topology_denoted) in
    let topology : p.topology ≡ v.topology =
    Ok-injective (sym (parse_topology-from_denotes p.text p.topology p.denotes) ∙ ours) in
    let each = subst (λ (t : TopologyValue). ArePacked files
    (slots false t) parts) topology p.each in
    let same : parts ≡ h.parts = ArePacked-unique files
    (slots false v.topology) parts h.parts each h.packed in
    record {
      parts = h.parts;
      bundle = subst (IsBundle text) same bundle;
      parts_denote = h.parts_denote;
    }
