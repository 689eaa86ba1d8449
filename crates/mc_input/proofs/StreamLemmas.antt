-- What the two sources give, slot by slot.
use Rattle.std.specs.Prelude.{◌≡◌, ℕ, ◌+◌, Bool, true, false, List, [], ◌∷◌, drop, map, slice_get, option_map}
use Rattle.std.specs.Prelude.{Option, Some, None, Result, Ok, Err, refl}
use Rattle.std.proofs.Common.{ap, arith, ◌∙◌, sym}
use Rattle.mc_bundle.specs.Bundle.{PartText}
use Rattle.mc_bundle.specs.PartsReading.{PartsState, prepend_parts}
use Rattle.mc_bundle.specs.RestOfBundle.{ReadsPart, rest_of_bundle}
use Rattle.mc_text.specs.Steps.{◌>>=◌, map_fault}
use Rattle.mc_bundle.specs.declared.bundle_fault.BundleFault.{BundleFault}
use Rattle.mc_topology.specs.Topology.{TopologyValue}
use Rattle.mc_files.specs.FilePart.{IsFailedOrMemory, file_part}
use Rattle.mc_files.specs.Files.{FileText}
use Rattle.mc_files.specs.Layout.{Slot, certificate_slot, part_name, slots}
use Rattle.mc_files.specs.declared.fault.FileFault.{FileFault}
use Rattle.mc_files.proofs.SlotLemmas.{length-slots_after_topology, slots-certificate_slot}
use Rattle.mc_input.specs.PartsOneByOne.{HasNameOfSlot, certificate_number, check_names_from, read_rest}
use Rattle.mc_input.specs.SourceFault.{IsReadOrMemory, from_file_fault}
use Rattle.mc_input.specs.Stream.{IsFaultOfStream, ReadsFirst, Stream, bundle_gives, files_give, first_part}
use Rattle.mc_input.specs.Stream.{part_then}
use Rattle.mc_input.specs.declared.fault.InputFault.{InputFault}
use Rattle.mc_input.specs.declared.fault.InputFault.TheVariants.{Bundle}
use Rattle.mc_input.specs.declared.source_fault.SourceFault.{SourceFault}
use Rattle.mc_input.specs.declared.source_fault.SourceFault.TheVariants.{Input}
use Rattle.mc_input.proofs.FilesLemmas.{IsReadOrMemory-from_file_fault}
use Rattle.mc_input.proofs.ReadRestLemmas.{read_rest-checked_part_passed, read_rest-names_Err}
use Rattle.mc_input.proofs.ReadingLemmas.{drop-slice_get}

some_injective : {A : Type 0} {x y : A} → Some x ≡ Some y → x ≡ y
some_injective e = cc

-- ---- a bundle

module _ (s : PartsState) (certified : Bool) (t : TopologyValue) (n : ℕ) where
  -- where a name or the framing is refused, all is
  bundle_gives-names_Err : (text : List ℕ) (own : SourceFault)
      → map_fault Input (read_rest s text (check_names_from n (drop n (slots certified t)))) ≡ Err own
      → bundle_gives s certified t n text ≡ Err own
  bundle_gives-names_Err text own e =
      rw (read_rest-names_Err s text (check_names_from n (drop n (slots certified t)))
      (λ parts. Ok parts) own e)
      refl

  pub gives-names_Err : (own : SourceFault)
      → ((text : List ℕ) → s.remaining ≡ Some text → ¬ IsReadOrMemory own
      → map_fault Input (read_rest s text (check_names_from n (drop n (slots certified t)))) ≡ Err own)
      → (stream : Stream) → option_map (bundle_gives s certified t n) s.remaining ≡ Some stream
      → ¬ IsReadOrMemory own → stream ≡ Err own
  gives-names_Err own refused stream known loud = by s.remaining refl known
    where
      by : (o : Option (List ℕ)) → s.remaining ≡ o
          → option_map (bundle_gives s certified t n) o ≡ Some stream → stream ≡ Err own
      by None is known = absurd cc
      by (Some text) is known =
          sym (some_injective known) ∙ bundle_gives-names_Err text own (refused text is loud)

  -- a part that is read comes first
  bundle_gives-part_passed : (new : PartsState) (text later : List ℕ) (part : PartText)
      → rest_of_bundle s text ≡ prepend_parts (part ∷ []) (rest_of_bundle new later)
      → HasNameOfSlot certified t n part.name
      → bundle_gives s certified t n text ≡ part_then part (bundle_gives new certified t (n + 1) later)
  bundle_gives-part_passed new text later part e at =
      ap (λ (r : Result (List PartText) InputFault). map_fault Input r >>= λ parts.
      (let g : Stream = Ok (map (λ p. Ok p) parts) in g))
      (read_rest-checked_part_passed certified t n s new text later part (λ parts. Ok parts) e at)
      ∙ in_front (map_fault Bundle (rest_of_bundle new later))
    where
      names : List PartText → Result (Unit {0}) InputFault
      names = check_names_from (n + 1) (drop (n + 1) (slots certified t))

      by : (parts : List PartText) (checked : Result (Unit {0}) InputFault)
          → (map_fault Input (checked >>= λ _. Ok (part ∷ parts))
          >>= λ ps. (let g : Stream = Ok (map (λ p. Ok p) ps) in g))
          ≡ part_then part (map_fault Input (checked >>= λ _. Ok parts) >>= λ ps. Ok (map (λ p. Ok p) ps))
      by parts (Ok u) = refl
      by parts (Err fault) = refl

      in_front : (r : Result (List PartText) InputFault)
          → (map_fault Input (r >>= λ parts. names parts >>= λ _. Ok (part ∷ parts))
          >>= λ parts. (let g : Stream = Ok (map (λ p. Ok p) parts) in g))
          ≡ part_then part (map_fault Input (r >>= λ parts. names parts >>= λ _. Ok parts)
          >>= λ parts. Ok (map (λ p. Ok p) parts))
      in_front (Err fault) = refl
      in_front (Ok parts) = by parts (names parts)

  -- so the stream's first part is the one that the bundle's reader passes
  pub ReadsFirst-of_bundle : (new : PartsState) (Holds : PartText → Type 0)
      → ReadsPart s new (λ part. HasNameOfSlot certified t n part.name × Holds part)
      → ReadsFirst (option_map (bundle_gives s certified t n) s.remaining)
      (option_map (bundle_gives new certified t (n + 1)) new.remaining) Holds
  ReadsFirst-of_bundle new Holds passes = λ stream known. by s.remaining refl stream known
    where
      by : (o : Option (List ℕ)) → s.remaining ≡ o → (stream : Stream)
          → option_map (bundle_gives s certified t n) o ≡ Some stream
          → (later : Stream) × (part : PartText)
          × (option_map (bundle_gives new certified t (n + 1)) new.remaining ≡ Some later)
          × (stream ≡ part_then part later) × Holds part
      by None is stream known = absurd cc
      by (Some text) is stream known =
          let x = passes text is in (
            bundle_gives new certified t (n + 1) x.0,
            x.1,
            ap (option_map (bundle_gives new certified t (n + 1))) x.2,
            sym (some_injective known) ∙ bundle_gives-part_passed new text x.0 x.1 x.3 x.4.0,
            x.4.1,
          )

  -- after the last slot no part may come
  bundle_gives-ended : (text : List ℕ) (u : Unit {0}) → drop n (slots certified t) ≡ []
      → map_fault Input (read_rest s text (check_names_from n (drop n (slots certified t)))) ≡ Ok u
      → bundle_gives s certified t n text ≡ Ok []
  bundle_gives-ended text u none e = by (drop n (slots certified t)) none (rest_of_bundle s text) e
    where
      by : (ss : List Slot) → ss ≡ [] → (r : Result (List PartText) BundleFault)
          → map_fault Input (map_fault Bundle r >>= check_names_from n ss) ≡ Ok u
          → (map_fault Input (map_fault Bundle r >>= λ parts. check_names_from n ss parts >>= λ _. Ok parts)
          >>= λ parts. (let g : Stream = Ok (map (λ p. Ok p) parts) in g)) ≡ Ok []
      by [] is (Ok []) e = refl
      by [] is (Ok (part ∷ parts)) e = absurd cc
      by [] is (Err fault) e = absurd cc
      by (slot ∷ ss) is r e = absurd cc

  -- the same of the stream, if the bundle's bytes are known
  pub gives-ended : (u : Unit {0}) → drop n (slots certified t) ≡ []
      → ((text : List ℕ) → s.remaining ≡ Some text
      → map_fault Input (read_rest s text (check_names_from n (drop n (slots certified t)))) ≡ Ok u)
      → (stream : Stream) → option_map (bundle_gives s certified t n) s.remaining ≡ Some stream
      → stream ≡ Ok []
  gives-ended u none right stream known = by s.remaining refl known
    where
      by : (o : Option (List ℕ)) → s.remaining ≡ o
          → option_map (bundle_gives s certified t n) o ≡ Some stream → stream ≡ Ok []
      by None is known = absurd cc
      by (Some text) is known = sym (some_injective known) ∙ bundle_gives-ended text u none (right text is)

-- the part of the last slot is the certificate's
pub certificate_part-named : (certified : Bool) (t : TopologyValue) (n : ℕ) (part : PartText) (bytes : List ℕ)
    → certified ≡ true → n ≡ certificate_number t → HasNameOfSlot certified t n part.name → part.bytes ≡ bytes
    → part ≡ record { name = part_name certificate_slot; bytes = bytes }
certificate_part-named false t n part bytes is number at same = absurd cc
certificate_part-named true t n part bytes is number at same =
    let last = slots-certificate_slot true t n (omega (arith, number))
    (omega (arith, number, length-slots_after_topology true t)) in
    let slot : at.0 ≡ certificate_slot = some_injective (sym at.1 ∙ last) in
    let named : part.name ≡ part_name certificate_slot = at.2 ∙ ap part_name slot in
    λ i. record { name = named i; bytes = same i }

-- ---- a folder

module _ (t : TopologyValue) (n : ℕ) (slot : Slot) (at : slice_get (slots false t) n ≡ Some slot) where
  -- the slot's own file is the first part,
  files_give-file : (files : List FileText) (part : PartText) → file_part files slot ≡ Ok part
      → files_give t n files ≡ part_then part (files_give t (n + 1) files)
  files_give-file files part made = rw (drop-slice_get (slots false t) n slot at, made) refl

  -- and its fault is that of the first part
  files_give-file_Err : (files : List FileText) (own : FileFault) → file_part files slot ≡ Err own
      → (files_give t n files >>= first_part) ≡ Err (from_file_fault own)
  files_give-file_Err files own made = rw (drop-slice_get (slots false t) n slot at, made) refl

  -- what is seen of the files
  module _ (seen : List FileText → List FileText) where
    -- the fault of the slot's file is that of the stream's first part
    pub IsFaultOfStream-of_file : (contents : Option (List FileText)) (own : FileFault)
        → ((files : List FileText) → contents ≡ Some files → (¬ IsFailedOrMemory own)
        → file_part (seen files) slot ≡ Err own)
        → IsFaultOfStream (option_map (λ files. files_give t n (seen files)) contents) first_part
        (from_file_fault own)
    IsFaultOfStream-of_file None own refused = λ stream e loud. absurd cc
    IsFaultOfStream-of_file (Some files) own refused = λ stream e loud.
        let made = refused files refl (λ silent. loud (IsReadOrMemory-from_file_fault own silent)) in
        ap (λ (s : Stream). s >>= first_part) (sym (some_injective e))
        ∙ files_give-file_Err (seen files) own made

    -- the part of the slot's file is the stream's first part
    pub ReadsFirst-of_file : (contents later : Option (List FileText)) (Holds : PartText → Type 0)
        → later ≡ contents
        → ((files : List FileText) → contents ≡ Some files
        → (part : PartText) × (file_part (seen files) slot ≡ Ok part) × Holds part)
        → ReadsFirst (option_map (λ files. files_give t n (seen files)) contents)
        (option_map (λ files. files_give t (n + 1) (seen files)) later) Holds
    ReadsFirst-of_file None later Holds same made = λ stream e. absurd cc
    ReadsFirst-of_file (Some files) later Holds same made = λ stream e.
        let x = made files refl in (
          files_give t (n + 1) (seen files),
          x.0,
          ap (option_map (λ files. files_give t (n + 1) (seen files))) same,
          sym (some_injective e) ∙ files_give-file (seen files) x.0 x.1,
          x.2,
        )
