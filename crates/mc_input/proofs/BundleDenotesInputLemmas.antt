-- A bundle's parts denote what they are read as.
use Rattle.std.specs.Prelude.{◌≡◌, ℕ, zero, suc, ◌+◌, Bool, true, false, List, [], ◌∷◌, ◌++◌, length}
use Rattle.std.specs.Prelude.{drop, map, flat_map, slice_get, Option, Some, None, is_some}
use Rattle.std.specs.Prelude.{Ok, refl}
use Rattle.std.specs.Str.{bytes_eq}
use Rattle.std.proofs.Common.{ap, ◌∙◌, sym, arith, subst, append_assoc, append-nil}
use Rattle.std.proofs.lemmas.Slice.Eq.{bytes_eq-Decides}
use Rattle.mc_bundle.specs.Bundle.{PartText}
use Rattle.mc_text.proofs.StepLemmas.{if_ok}
use Rattle.mc_igmp.specs.declared.record.Record.{Record}
use Rattle.mc_topology.specs.SectionRows.{RouterRow}
use Rattle.mc_topology.specs.Topology.{TopologyValue}
use Rattle.mc_files.specs.PartMismatch.{first_part_mismatch, first_mismatch}
use Rattle.mc_files.specs.Layout.{Slot, part_name, reports_slot, router_slots, certificate_slot}
use Rattle.mc_files.specs.Layout.{certificate_slots, slots, topology_slot}
use Rattle.mc_files.proofs.PartMismatchLemmas.{same_names-from_first_mismatch, first_mismatch-same_names}
use Rattle.mc_forward.specs.Domains.{TablesValue}
use Rattle.mc_input.specs.Input.{InputValue, PartsDenoteInput, PartsDenoteTables}
use Rattle.mc_input.specs.Input.{PartsDenoteReports, PartsDenoteCertificate}
use Rattle.mc_input.specs.InputReading.{named, part_with_slot_name, part_name_fault, check_part_names}
use Rattle.mc_input.specs.InputReading.{input_of_parts, certificate_in}
use Rattle.mc_input.specs.declared.fault.InputFault.TheVariants.{Parts}
use Rattle.mc_input.proofs.ReadingLemmas.{drop-slice_get}
use Rattle.mc_input.proofs.SourceOfPartsLemmas.{Serves, GivesSlotNames, judged-from_read_input}
use Rattle.mc_input.proofs.SourceOfPartsLemmas.{HasInputParts-from_read_input, read_input-denoted}

-- ---- one part

-- a part that is there and has the name
has_name-from_named : (o : Option PartText) (name : List ℕ) (n : ℕ) (part : PartText)
    → named o name n ≡ Ok part → (o ≡ Some part) × (part.name ≡ name)
has_name-from_named None name n part e = absurd (cc)
has_name-from_named (Some p) name n part e =
    let test = if_ok (bytes_eq p.name name) (Parts (n + 1)) p part e in (
      ap Some test.1,
      subst (λ (q : PartText). q.name ≡ name) test.1 ((bytes_eq-Decides p.name name).0 test.0),
    )

-- a bundle gives a part for a slot only under the slot's name
GivesSlotNames-part_with_slot_name : (parts : List PartText) → GivesSlotNames (part_with_slot_name parts)
GivesSlotNames-part_with_slot_name parts n slot part e =
    (has_name-from_named (slice_get parts n) (part_name slot) n part e).1

-- and gives it where there is one
pub part_with_slot_name-Ok : (parts : List PartText) (n : ℕ) (slot : Slot) (part : PartText)
    → slice_get parts n ≡ Some part → part.name ≡ part_name slot
    → part_with_slot_name parts n slot ≡ Ok part
part_with_slot_name-Ok parts n slot part at is =
    rw (at, (bytes_eq-Decides part.name (part_name slot)).1 is) refl

-- the item at an index is the first one from that index on
pub slice_get-from_drop : {A : Type 0} (xs : List A) (i : ℕ) (y : A) (ys : List A) → drop i xs ≡ y ∷ ys
    → slice_get xs i ≡ Some y
slice_get-from_drop [] zero y ys e = absurd (cc)
slice_get-from_drop [] (suc i) y ys e = absurd (cc)
slice_get-from_drop (x ∷ xs) zero y ys e = let same : x ≡ y = cc in ap (λ z. Some z) same
slice_get-from_drop (x ∷ xs) (suc i) y ys e = slice_get-from_drop xs i y ys e

pub drop-more : {A : Type 0} (xs : List A) (i : ℕ) (y : A) (ys : List A) → drop i xs ≡ y ∷ ys
    → drop (i + 1) xs ≡ ys
drop-more xs i y ys e =
    let whole : y ∷ drop (i + 1) xs ≡ y ∷ ys =
    sym (drop-slice_get xs i y (slice_get-from_drop xs i y ys e)) ∙ e in cc

-- ---- the parts of a bundle, one after the other

-- those that are given are the bundle's
drop-from_Serves : (parts : List PartText) (n : ℕ) (slots : List Slot) (here end : List PartText)
    → Serves (part_with_slot_name parts) n slots here end → end ≡ drop (n + length slots) parts
    → here ≡ drop n parts
drop-from_Serves parts n [] here end h is =
    let same : n + 0 ≡ n = omega arith in h ∙ is ∙ ap (λ (k : ℕ). drop k parts) same
drop-from_Serves parts n (slot ∷ more) [] end h is = absurd h
drop-from_Serves parts n (slot ∷ more) (part ∷ here) end h is =
    let found = has_name-from_named (slice_get parts n) (part_name slot) n part h.0 in
    let same : n + length (slot ∷ more) ≡ n + 1 + length more = omega arith in
    let rest = drop-from_Serves parts (n + 1) more here end h.1
    (is ∙ ap (λ (k : ℕ). drop k parts) same) in
    ap (λ (ps : List PartText). part ∷ ps) rest ∙ sym (drop-slice_get parts n part found.0)

-- and those with the names of the slots are given for them
Serves-from_names : (parts : List PartText) (n : ℕ) (slots more : List Slot) (here : List PartText)
    → drop n parts ≡ here → map (λ part. part.name) here ≡ map part_name (slots ++ more)
    → Serves (part_with_slot_name parts) n slots here (drop (n + length slots) parts)
Serves-from_names parts n [] more here e names =
    let same : n ≡ n + 0 = omega arith in sym e ∙ ap (λ (k : ℕ). drop k parts) same
Serves-from_names parts n (slot ∷ slots) more [] e names = absurd (cc)
Serves-from_names parts n (slot ∷ slots) more (part ∷ here) e names =
    let first : part.name ≡ part_name slot = cc in
    let rest : map (λ (p : PartText). p.name) here ≡ map part_name (slots ++ more) = cc in
    let same : n + 1 + length slots ≡ n + length (slot ∷ slots) = omega arith in (
      part_with_slot_name-Ok parts n slot part (slice_get-from_drop parts n part here e) first,
      subst (λ (k : ℕ). Serves (part_with_slot_name parts) (n + 1) slots here (drop k parts)) same
          (Serves-from_names parts (n + 1) slots more here (drop-more parts n part here e) rest),
    )

-- ---- the names of parts that denote an input

names-PartsDenoteTables : (rs : List RouterRow) (here : List PartText) (ts : List TablesValue)
    (rest : List PartText) (more : List Slot) → PartsDenoteTables rs here ts rest
    → map (λ part. part.name) rest ≡ map part_name more
    → map (λ part. part.name) here ≡ map part_name (flat_map router_slots rs ++ more)
names-PartsDenoteTables [] here [] rest more h after =
    ap (λ (ps : List PartText). map (λ (part : PartText). part.name) ps) h ∙ after
names-PartsDenoteTables [] here (t ∷ ts) rest more h after = absurd h
names-PartsDenoteTables (r ∷ rs) [] ts rest more h after = absurd h
names-PartsDenoteTables (r ∷ rs) (vif ∷ []) ts rest more h after = absurd h
names-PartsDenoteTables (r ∷ rs) (vif ∷ cache ∷ here) [] rest more h after = absurd h
names-PartsDenoteTables (r ∷ rs) (vif ∷ cache ∷ here) (t ∷ ts) rest more h after =
    rw (h.0.vif_named, h.0.cache_named, names-PartsDenoteTables rs here ts rest more h.1 after) refl

names-PartsDenoteReports : (lans : List (List ℕ)) (here : List PartText) (all : List (List Record))
    (rest : List PartText) (more : List Slot) → PartsDenoteReports lans here all rest
    → map (λ part. part.name) rest ≡ map part_name more
    → map (λ part. part.name) here ≡ map part_name (map reports_slot lans ++ more)
names-PartsDenoteReports [] here [] rest more h after =
    ap (λ (ps : List PartText). map (λ (part : PartText). part.name) ps) h ∙ after
names-PartsDenoteReports [] here (records ∷ all) rest more h after = absurd h
names-PartsDenoteReports (lan ∷ lans) [] all rest more h after = absurd h
names-PartsDenoteReports (lan ∷ lans) (part ∷ here) [] rest more h after = absurd h
names-PartsDenoteReports (lan ∷ lans) (part ∷ here) (records ∷ all) rest more h after =
    rw (h.0.named, names-PartsDenoteReports lans here all rest more h.1 after) refl

names-PartsDenoteCertificate : (certified : Bool) (last : List PartText) (certificate : Option (List ℕ))
    → is_some certificate ≡ certified → PartsDenoteCertificate last certificate
    → map (λ part. part.name) last ≡ map part_name (certificate_slots certified)
names-PartsDenoteCertificate true last None is h = absurd (cc)
names-PartsDenoteCertificate false last None is h = rw h refl
names-PartsDenoteCertificate true last (Some text) is h = rw h refl
names-PartsDenoteCertificate false last (Some text) is h = absurd (cc)

names-PartsDenoteInput : (certified : Bool) (parts : List PartText) (v : InputValue)
    (certificate : Option (List ℕ)) → is_some certificate ≡ certified
    → PartsDenoteInput parts v certificate
    → map (λ part. part.name) parts ≡ map part_name (slots certified v.topology)
names-PartsDenoteInput certified parts v certificate is h =
    let last = names-PartsDenoteCertificate certified h.last certificate is h.certificate_denoted in
    let reports = names-PartsDenoteReports v.topology.lans h.of_lans v.reports h.last
    (certificate_slots certified) h.reports last in
    let tables = names-PartsDenoteTables v.topology.routers h.of_routers v.tables h.of_lans
    (map reports_slot v.topology.lans ++ certificate_slots certified) h.tables reports in
    ap (λ (ps : List PartText). map (λ (part : PartText). part.name) ps) h.in_order
    ∙ ap (λ (names : List (List ℕ)). part_name topology_slot ∷ names) tables

-- the certificate's slot is behind the others
append-certificate_slots : (certified : Bool) (t : TopologyValue)
    → slots false t ++ certificate_slots certified ≡ slots certified t
append-certificate_slots certified t =
    ap (λ (ss : List Slot). topology_slot ∷ ss) (
    append_assoc (flat_map router_slots t.routers) (map reports_slot t.lans ++ [])
    (certificate_slots certified)
    ∙ ap (λ (ss : List Slot). flat_map router_slots t.routers ++ ss)
    (ap (λ (ss : List Slot). ss ++ certificate_slots certified)
    (append-nil (map reports_slot t.lans)))
    )

-- ---- the certificate

-- the names behind those of the first slots
names-behind_first_slots : (slots more : List Slot) (parts : List PartText)
    → map part_name (slots ++ more) ≡ map (λ part. part.name) parts
    → map part_name more ≡ map (λ part. part.name) (drop (length slots) parts)
names-behind_first_slots [] more parts e = e
names-behind_first_slots (slot ∷ slots) more [] e = absurd (cc)
names-behind_first_slots (slot ∷ slots) more (part ∷ parts) e =
    let rest : map part_name (slots ++ more) ≡ map (λ (p : PartText). p.name) parts = cc in
    names-behind_first_slots slots more parts rest

PartsDenoteCertificate-certificate_in : (certified : Bool) (parts : List PartText) (t : TopologyValue)
    (last : List PartText) → drop (length (slots false t)) parts ≡ last
    → map part_name (certificate_slots certified) ≡ map (λ part. part.name) last
    → PartsDenoteCertificate last (certificate_in certified parts t)
PartsDenoteCertificate-certificate_in false parts t [] is e = refl
PartsDenoteCertificate-certificate_in false parts t (part ∷ last) is e = absurd (cc)
PartsDenoteCertificate-certificate_in true parts t [] is e = absurd (cc)
PartsDenoteCertificate-certificate_in true parts t (part ∷ (other ∷ last)) is e = absurd (cc)
PartsDenoteCertificate-certificate_in true parts t (part ∷ []) is e =
    let first : part.name ≡ part_name certificate_slot = cc in
    let at = slice_get-from_drop parts (length (slots false t)) part [] is in
    rw at (ap (λ (x : List ℕ). let q : PartText = record { name = x; bytes = part.bytes } in
    q ∷ []) first)

certificate_in-denoted : (certified : Bool) (parts : List PartText) (t : TopologyValue)
    (certificate : Option (List ℕ)) → is_some certificate ≡ certified
    → PartsDenoteCertificate (drop (length (slots false t)) parts) certificate
    → certificate_in certified parts t ≡ certificate
certificate_in-denoted false parts t None is h = refl
certificate_in-denoted true parts t None is h = absurd (cc)
certificate_in-denoted false parts t (Some text) is h = absurd (cc)
certificate_in-denoted true parts t (Some text) is h =
    let part : PartText = record { name = part_name certificate_slot; bytes = text } in
    rw (slice_get-from_drop parts (length (slots false t)) part [] h) refl

-- ---- the whole

None-from_part_name_fault : (o : Option ℕ) → part_name_fault o ≡ Ok tt → o ≡ None
None-from_part_name_fault None e = refl
None-from_part_name_fault (Some n) e = absurd (cc)

-- parts that pass the check have the names of the slots
pub names-from_check_part_names : (certified : Bool) (parts : List PartText) (t : TopologyValue)
    → check_part_names certified parts t ≡ Ok tt
    → map part_name (slots certified t) ≡ map (λ part. part.name) parts
names-from_check_part_names certified parts t e =
    same_names-from_first_mismatch (map part_name (slots certified t)) (map (λ part. part.name) parts)
    (None-from_part_name_fault (first_part_mismatch certified t parts) e)

check_part_names-Ok : (certified : Bool) (parts : List PartText) (t : TopologyValue)
    → map (λ part. part.name) parts ≡ map part_name (slots certified t)
    → check_part_names certified parts t ≡ Ok tt
check_part_names-Ok certified parts t e =
    let names : List (List ℕ) = map part_name (slots certified t) in
    let none : first_part_mismatch certified t parts ≡ None =
    subst (λ (others : List (List ℕ)). first_mismatch names others ≡ None) (sym e)
    (first_mismatch-same_names names)
    in rw none refl

-- parts that are read as an input denote it
pub PartsDenoteInput-from_input_of_parts : (certified : Bool) (parts : List PartText) (v : InputValue)
    → input_of_parts certified parts ≡ Ok v → PartsDenoteInput parts v
    (certificate_in certified parts v.topology)
PartsDenoteInput-from_input_of_parts certified parts v e =
    let t = v.topology in
    let judged = judged-from_read_input (λ fault. fault) (part_with_slot_name parts)
    (check_part_names certified parts) v e in
    let last = drop (length (slots false t)) parts in
    let names = names-behind_first_slots (slots false t) (certificate_slots certified) parts
    (ap (λ (ss : List Slot). map part_name ss) (append-certificate_slots certified t)
    ∙ names-from_check_part_names certified parts t judged) in
    let denoted = PartsDenoteCertificate-certificate_in certified parts t last refl names in
    let all = HasInputParts-from_read_input (λ fault. fault) (part_with_slot_name parts)
    (GivesSlotNames-part_with_slot_name parts)
    (check_part_names certified parts) v last (certificate_in certified parts t) e denoted in
    let none : length (slots false t) ≡ 0 + length (slots false t) = omega arith in
    let same : all.parts ≡ parts = drop-from_Serves parts 0 (slots false t) all.parts last all.served
    (ap (λ (k : ℕ). drop k parts) none) in
    subst (λ (ps : List PartText). PartsDenoteInput ps v (certificate_in certified parts t)) same
    all.parts_denote

-- and parts that denote one are read as it, with the last as the certificate
pub input_of_parts-Ok : (certified : Bool) (parts : List PartText) (v : InputValue)
    (certificate : Option (List ℕ)) → is_some certificate ≡ certified
    → PartsDenoteInput parts v certificate
    → (input_of_parts certified parts ≡ Ok v) × (certificate_in certified parts v.topology ≡ certificate)
input_of_parts-Ok certified parts v certificate is h =
    let t = v.topology in
    let names = names-PartsDenoteInput certified parts v certificate is h in
    let served = Serves-from_names parts 0 (slots false t) (certificate_slots certified) parts refl
    (names ∙ ap (λ (ss : List Slot). map part_name ss) (sym (append-certificate_slots certified t))) in
    let read = read_input-denoted (λ fault. fault) (part_with_slot_name parts)
    (check_part_names certified parts) parts v certificate h (drop (0 + length (slots false t)) parts) served
    (check_part_names-Ok certified parts t names) in
    let none : 0 + length (slots false t) ≡ length (slots false t) = omega arith in
    let last : h.last ≡ drop (length (slots false t)) parts =
    read.1 ∙ ap (λ (k : ℕ). drop k parts) none in (
      read.0,
      certificate_in-denoted certified parts t certificate is
          (subst (λ (ps : List PartText). PartsDenoteCertificate ps certificate) last h.certificate_denoted),
    )
