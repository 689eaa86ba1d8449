-- What a bundle gives after its topology, as the definitions read it of all parts.
use Rattle.std.specs.Prelude.{◌≡◌, ℕ, suc, zero, ◌+◌, Bool, true, false, List, [], ◌∷◌, drop, length, map}
use Rattle.std.specs.Prelude.{slice_get, Option, Some, None, Result, Ok, Err, is_some, refl, unwrap_or}
use Rattle.std.specs.FinMap.{FinMap}
use Rattle.std.specs.Ordering.{nat_cmp}
use Rattle.std.proofs.Common.{ap, ◌∙◌, arith, sym}
use Rattle.std.proofs.lemmas.Slice.Eq.{bytes_eq-Decides}
use Rattle.mc_bundle.specs.Bundle.{PartText}
use Rattle.mc_bundle.specs.PartsReading.{PartsState, prepend_parts}
use Rattle.mc_bundle.specs.RestOfBundle.{rest_of_bundle}
use Rattle.mc_text.specs.Steps.{◌>>=◌, map_fault}
use Rattle.mc_text.specs.declared.text.addr.Order.{Order}
use Rattle.mc_igmp.specs.declared.record.Record.{Record}
use Rattle.mc_tables.specs.CacheTable.{CacheValue}
use Rattle.mc_tables.specs.VifTable.{VifValue}
use Rattle.mc_topology.specs.SectionRows.{RouterRow}
use Rattle.mc_topology.specs.Topology.{TopologyValue}
use Rattle.mc_files.specs.Layout.{Slot, cache_slot, certificate_slot, certificate_slots, part_name}
use Rattle.mc_files.specs.Layout.{reports_slot, slots, slots_after_topology, topology_slot, vif_slot}
use Rattle.mc_files.proofs.SlotLemmas.{slots-certificate_slot, length-slots_after_topology}
use Rattle.mc_files.specs.Layout.{first_lan_number}
use Rattle.mc_forward.specs.Domains.{TablesValue}
use Rattle.mc_input.specs.Input.{InputValue}
use Rattle.mc_input.specs.InputReading.{certificate_in, check_part_names}
use Rattle.mc_input.specs.InputReading.{part_with_slot_name}
use Rattle.mc_input.specs.PartsOneByOne.{InputAndCertificate, certificate_number, check_names_from}
use Rattle.mc_input.specs.PartsOneByOne.{IsFaultOf, read_all_parts, read_first_topology, read_rest}
use Rattle.mc_input.specs.PartsReading.{all_reports, all_tables, cache_of, read_input}
use Rattle.mc_input.specs.PartsReading.{read_part, read_tables_and_reports, reports_of, router_tables}
use Rattle.mc_input.specs.PartsReading.{topology_of, vifs_of}
use Rattle.mc_input.specs.Stream.{ContentsRead, NextParts, Stream, bundle_gives, certificate_parts}
use Rattle.mc_input.specs.Stream.{certificate_text_of, input_of_contents}
use Rattle.mc_input.specs.Stream.{parts_of_slots, read_after_topology, read_contents, read_stream}
use Rattle.mc_input.specs.Stream.{value_and_rest}
use Rattle.mc_input.specs.declared.fault.InputFault.{InputFault}
use Rattle.mc_input.specs.declared.fault.InputFault.TheVariants.{Bundle}
use Rattle.mc_input.specs.declared.source_fault.SourceFault.{SourceFault}
use Rattle.mc_input.specs.declared.source_fault.SourceFault.TheVariants.{Input}
use Rattle.mc_input.proofs.BundleDenotesInputLemmas.{drop-more, part_with_slot_name-Ok, slice_get-from_drop}
use Rattle.mc_input.proofs.ContentsLemmas.{read_contents-source}
use Rattle.mc_input.proofs.OneByOneLemmas.{check_names_from-zero, names-from_check_names_from}
use Rattle.mc_input.proofs.ReadRestLemmas.{read_rest-both_Err, read_rest-part_passed}
use Rattle.mc_input.proofs.WalkLemmas.{read_stream-Err_implied}

-- ---- a source whose faults are those of an input

module _ (source : ℕ → Slot → Result PartText InputFault) where
  -- the source, with its faults made those of reading a domain
  abbrev converted : ℕ → Slot → Result PartText SourceFault
  converted n slot = map_fault Input (source n slot)

  -- a part that it gives is read as before, but for the kind of the fault
  read_part-converted : {X : Type 0} (given : Result PartText InputFault)
      (read : PartText → Result X InputFault)
      → read_part Input (map_fault Input given) read ≡ map_fault Input (read_part (λ fault. fault) given read)
  read_part-converted (Ok part) read = by (read part)
    where
      by : {X : Type 0} (r : Result X InputFault)
          → map_fault Input r ≡ map_fault Input (map_fault (λ (fault : InputFault). fault) r)
      by (Ok x) = refl
      by (Err fault) = refl
  read_part-converted (Err fault) read = refl

  -- so are a router's two parts,
  router_tables-converted : (n : ℕ) (name : List ℕ) (order : Order)
      → router_tables Input converted n name order
      ≡ map_fault Input (router_tables (λ fault. fault) source n name order)
  unfolding router_tables
  router_tables-converted n name order =
      rw (
        read_part-converted (source n (vif_slot name)) vifs_of,
        read_part-converted (source (n + 1) (cache_slot name)) (cache_of order),
      )
      (by (read_part (λ fault. fault) (source n (vif_slot name)) vifs_of)
      (read_part (λ fault. fault) (source (n + 1) (cache_slot name)) (cache_of order)))
    where
      by : (a : Result (FinMap nat_cmp VifValue) InputFault) (b : Result CacheValue InputFault)
          → (map_fault Input a >>= λ x. map_fault Input b
          >>= λ y. (let r : Result TablesValue SourceFault = Ok (record { vifs = x; cache = y }) in r))
          ≡ map_fault Input (a >>= λ x. b >>= λ y. Ok (record { vifs = x; cache = y }))
      by (Ok x) (Ok y) = refl
      by (Ok x) (Err fault) = refl
      by (Err fault) b = refl

  -- those of all routers,
  all_tables-converted : (n : ℕ) (rs : List RouterRow)
      → all_tables Input converted n rs ≡ map_fault Input (all_tables (λ fault. fault) source n rs)
  unfolding all_tables
  all_tables-converted n [] = refl
  all_tables-converted n (r ∷ rs) =
      rw (router_tables-converted n r.name r.order, all_tables-converted (n + 2) rs)
      (by (router_tables (λ fault. fault) source n r.name r.order)
      (all_tables (λ fault. fault) source (n + 2) rs))
    where
      by : (a : Result TablesValue InputFault) (b : Result (List TablesValue) InputFault)
          → (map_fault Input a >>= λ x. map_fault Input b
          >>= λ xs. (let r : Result (List TablesValue) SourceFault = Ok (x ∷ xs) in r))
          ≡ map_fault Input (a >>= λ x. b >>= λ xs. Ok (x ∷ xs))
      by (Ok x) (Ok xs) = refl
      by (Ok x) (Err fault) = refl
      by (Err fault) b = refl

  -- those of all LANs,
  all_reports-converted : (n : ℕ) (lans : List (List ℕ))
      → all_reports Input converted n lans ≡ map_fault Input (all_reports (λ fault. fault) source n lans)
  unfolding all_reports
  all_reports-converted n [] = refl
  all_reports-converted n (lan ∷ lans) =
      rw (read_part-converted (source n (reports_slot lan)) reports_of, all_reports-converted (n + 1) lans)
      (by (read_part (λ fault. fault) (source n (reports_slot lan)) reports_of)
      (all_reports (λ fault. fault) source (n + 1) lans))
    where
      by : (a : Result (List Record) InputFault) (b : Result (List (List Record)) InputFault)
          → (map_fault Input a >>= λ x. map_fault Input b
          >>= λ xs. (let r : Result (List (List Record)) SourceFault = Ok (x ∷ xs) in r))
          ≡ map_fault Input (a >>= λ x. b >>= λ xs. Ok (x ∷ xs))
      by (Ok x) (Ok xs) = refl
      by (Ok x) (Err fault) = refl
      by (Err fault) b = refl

  -- and all together
  read_tables_and_reports-converted : (t : TopologyValue) → read_tables_and_reports Input converted t
      ≡ map_fault Input (read_tables_and_reports (λ fault. fault) source t)
  unfolding read_tables_and_reports
  read_tables_and_reports-converted t =
      rw (all_tables-converted 1 t.routers, all_reports-converted (first_lan_number t) t.lans)
      (by (all_tables (λ fault. fault) source 1 t.routers)
      (all_reports (λ fault. fault) source (first_lan_number t) t.lans))
    where
      by : (a : Result (List TablesValue) InputFault) (b : Result (List (List Record)) InputFault)
          → (map_fault Input a >>= λ x. map_fault Input b >>= λ y. (let r : Result InputValue SourceFault =
          Ok (record { topology = t; tables = x; reports = y }) in r))
          ≡ map_fault Input (a >>= λ x. b >>= λ y. Ok (record { topology = t; tables = x; reports = y }))
      by (Ok x) (Ok y) = refl
      by (Ok x) (Err fault) = refl
      by (Err fault) b = refl

-- ---- the parts of a bundle, whose names are right

module _ (whole : List PartText) where
  -- the bundle as a source of parts: each has to have the name of its slot
  abbrev of_bundle : ℕ → Slot → Result PartText SourceFault
  of_bundle n slot = map_fault Input (part_with_slot_name whole n slot)

  -- where the names are right, it gives the bundle's parts
  parts_of_slots-named : (n : ℕ) (ss : List Slot) (here : List PartText) → drop n whole ≡ here
      → map (λ part. part.name) here ≡ map part_name ss
      → parts_of_slots of_bundle n ss ≡ map (λ part. Ok part) here
  parts_of_slots-named n [] [] e names = refl
  parts_of_slots-named n [] (part ∷ here) e names = absurd cc
  parts_of_slots-named n (slot ∷ ss) [] e names = absurd cc
  parts_of_slots-named n (slot ∷ ss) (part ∷ here) e names =
      let first : part.name ≡ part_name slot = cc in
      let rest : map (λ (p : PartText). p.name) here ≡ map part_name ss = cc in
      rw (part_with_slot_name-Ok whole n slot part (slice_get-from_drop whole n part here e) first)
      (ap (λ (ps : NextParts). Ok part ∷ ps)
      (parts_of_slots-named (n + 1) ss here (drop-more whole n part here e) rest))

  -- the part of a slot is there, with the slot's name
  part-at_slot : (ss : List Slot) (parts : List PartText) (n : ℕ) (slot : Slot)
      → map (λ part. part.name) parts ≡ map part_name ss → slice_get ss n ≡ Some slot
      → (part : PartText) × (slice_get parts n ≡ Some part) × (part.name ≡ part_name slot)
  part-at_slot [] parts n slot names at = absurd cc
  part-at_slot (s ∷ ss) [] n slot names at = absurd cc
  part-at_slot (s ∷ ss) (part ∷ parts) zero slot names at =
      let same : s ≡ slot = cc in
      let own : part.name ≡ part_name s = cc in (part, refl, own ∙ ap part_name same)
  part-at_slot (s ∷ ss) (part ∷ parts) (suc n) slot names at =
      let rest : map (λ (p : PartText). p.name) parts ≡ map part_name ss = cc in
      part-at_slot ss parts n slot rest at

  -- the certificate is that of the last slot
  certificate_text_of-certificate_in : (certified : Bool) (t : TopologyValue)
      → map (λ part. part.name) whole ≡ map part_name (slots certified t)
      → certificate_text_of certified
      (parts_of_slots of_bundle (certificate_number t) (certificate_slots certified))
      ≡ certificate_in certified whole t
  certificate_text_of-certificate_in false t names = refl
  certificate_text_of-certificate_in true t names =
      let count : certificate_number t ≡ length (slots false t) =
      omega (arith, length-slots_after_topology false t) in
      let at = slots-certificate_slot true t (certificate_number t) (omega arith)
      (omega (arith, length-slots_after_topology true t)) in
      let part = part-at_slot (slots true t) whole (certificate_number t) certificate_slot names at in
      ap (λ (given : Result PartText SourceFault). certificate_text_of true (given ∷ []))
      (ap (map_fault Input)
      (part_with_slot_name-Ok whole (certificate_number t) certificate_slot part.0 part.1 part.2))
      ∙ ap (λ (o : Option PartText). Some (unwrap_or o (record { name = []; bytes = [] })).bytes)
      (sym part.1 ∙ ap (slice_get whole) count)

-- ---- after the topology

module _ (certified : Bool) (t : TopologyValue) (part : PartText) (here : List PartText)
    (name : part.name ≡ part_name topology_slot) where
  -- all parts: the topology's and those after it
  abbrev all : List PartText
  all = part ∷ here

  -- the input of this topology, from all parts
  abbrev read_all : Result InputValue InputFault
  read_all = read_tables_and_reports (λ fault. fault) (part_with_slot_name all) t

  -- an input that is read has the topology
  read_all-topology : (read_all >>= λ v. (let r : Result InputAndCertificate InputFault =
      Ok (v, certificate_in certified all v.topology) in r))
      ≡ (read_all >>= λ v. Ok (v, certificate_in certified all t))
  unfolding read_tables_and_reports
  read_all-topology =
      by (all_tables (λ fault. fault) (part_with_slot_name all) 1 t.routers)
      (all_reports (λ fault. fault) (part_with_slot_name all) (first_lan_number t) t.lans)
    where
      by : (a : Result (List TablesValue) InputFault) (b : Result (List (List Record)) InputFault)
          → ((a >>= λ x. b >>= λ y. (let r : Result InputValue InputFault =
          Ok (record { topology = t; tables = x; reports = y }) in r))
          >>= λ v. (let r : Result InputAndCertificate InputFault =
          Ok (v, certificate_in certified all v.topology) in r))
          ≡ ((a >>= λ x. b >>= λ y. (let r : Result InputValue InputFault =
          Ok (record { topology = t; tables = x; reports = y }) in r))
          >>= λ v. Ok (v, certificate_in certified all t))
      by (Ok x) (Ok y) = refl
      by (Ok x) (Err fault) = refl
      by (Err fault) b = refl

  -- the names are right
  read_named : map (λ p. p.name) here ≡ map part_name (slots_after_topology certified t)
      → map_fault Input (read_all >>= λ v. Ok (v, certificate_in certified all v.topology))
      ≡ read_after_topology certified t (map (λ p. Ok p) here)
  read_named rest =
      let names : map (λ (p : PartText). p.name) all ≡ map part_name (slots certified t) = cc in
      ap (map_fault Input) read_all-topology ∙ sym (lifted read_all)
      ∙ ap (λ (r : Result InputValue SourceFault). r
      >>= λ v. (let q : Result InputAndCertificate SourceFault =
      Ok (v, certificate_in certified all t) in q))
      (sym (read_tables_and_reports-converted (part_with_slot_name all) t))
      ∙ ap (λ (c : Option (List ℕ)). read
      >>= λ v. (let q : Result InputAndCertificate SourceFault = Ok (v, c) in q))
      (sym (certificate_text_of-certificate_in all certified t names))
      ∙ sym (with_rest read)
      ∙ ap (λ (r : Result (InputValue × NextParts) SourceFault). r >>= λ v.
      (let q : Result InputAndCertificate SourceFault = Ok (v.0, certificate_text_of certified v.1) in q))
      (sym (read_contents-source (of_bundle all) certified t))
      ∙ sym (split (read_contents t (parts_of_slots (of_bundle all) 1 (slots_after_topology certified t))))
      ∙ ap (read_after_topology certified t)
      (parts_of_slots-named all 1 (slots_after_topology certified t) here refl rest)
    where
      read : Result InputValue SourceFault
      read = read_tables_and_reports Input (of_bundle all) t

      last_parts : NextParts
      last_parts = parts_of_slots (of_bundle all) (certificate_number t) (certificate_slots certified)

      lifted : (r : Result InputValue InputFault)
          → (map_fault Input r >>= λ v. (let q : Result InputAndCertificate SourceFault =
          Ok (v, certificate_in certified all t) in q))
          ≡ map_fault Input (r >>= λ v. Ok (v, certificate_in certified all t))
      lifted (Ok v) = refl
      lifted (Err fault) = refl

      with_rest : (r : Result InputValue SourceFault)
          → ((r >>= λ v. (let q : Result (InputValue × NextParts) SourceFault = Ok (v, last_parts) in q))
          >>= λ v. (let q : Result InputAndCertificate SourceFault =
          Ok (v.0, certificate_text_of certified v.1) in q))
          ≡ (r >>= λ v. Ok (v, certificate_text_of certified last_parts))
      with_rest (Ok v) = refl
      with_rest (Err fault) = refl

      split : (r : Result (ContentsRead × NextParts) SourceFault)
          → (r >>= λ read. (let q : Result InputAndCertificate SourceFault =
          Ok (input_of_contents t read.0, certificate_text_of certified read.1) in q))
          ≡ ((r >>= λ read. (let q : Result (InputValue × NextParts) SourceFault =
          Ok (input_of_contents t read.0, read.1) in q))
          >>= λ v. Ok (v.0, certificate_text_of certified v.1))
      split (Ok read) = refl
      split (Err fault) = refl

  check_part_names-first_passed : check_part_names certified all t
      ≡ check_names_from 1 (slots_after_topology certified t) here
  check_part_names-first_passed =
      sym (check_names_from-zero certified t all)
      ∙ rw ((bytes_eq-Decides part.name (part_name topology_slot)).1 name) refl

  read_all_parts-after_topology : topology_of part ≡ Ok t
      → map_fault Input (read_all_parts certified all)
      ≡ (map_fault Input (check_names_from 1 (slots_after_topology certified t) here)
      >>= λ _. read_after_topology certified t (map (λ p. Ok p) here))
  unfolding read_input
  read_all_parts-after_topology topology =
      let names : check_part_names certified all t
      ≡ check_names_from 1 (slots_after_topology certified t) here =
      check_part_names-first_passed in
      ap (λ (given : Result PartText InputFault).
      map_fault Input ((read_part (λ fault. fault) given topology_of
      >>= λ u. check_part_names certified all u
      >>= λ _. read_tables_and_reports (λ fault. fault) (part_with_slot_name all) u)
      >>= λ v. (let r : Result InputAndCertificate InputFault =
      Ok (v, certificate_in certified all v.topology) in r)))
      (part_with_slot_name-Ok all 0 topology_slot part refl name)
      ∙ ap (λ (r : Result TopologyValue InputFault).
      map_fault Input ((map_fault (λ (fault : InputFault). fault) r
      >>= λ u. check_part_names certified all u
      >>= λ _. read_tables_and_reports (λ fault. fault) (part_with_slot_name all) u)
      >>= λ v. (let q : Result InputAndCertificate InputFault =
      Ok (v, certificate_in certified all v.topology) in q)))
      topology
      ∙ ap (λ (names : Result (Unit {0}) InputFault). map_fault Input ((names >>= λ _. read_all)
      >>= λ v. (let q : Result InputAndCertificate InputFault =
      Ok (v, certificate_in certified all v.topology) in q)))
      names
      ∙ by (check_names_from 1 (slots_after_topology certified t) here) refl
    where
      by : (names : Result (Unit {0}) InputFault)
          → check_names_from 1 (slots_after_topology certified t) here ≡ names
          → map_fault Input ((names >>= λ _. read_all)
          >>= λ v. (let r : Result InputAndCertificate InputFault =
          Ok (v, certificate_in certified all v.topology) in r))
          ≡ (map_fault Input names >>= λ _. read_after_topology certified t (map (λ p. Ok p) here))
      by (Ok u) is =
          read_named (names-from_check_names_from 1 (slots_after_topology certified t) here
          (is ∙ ap Ok (unit_is u)))
        where
          unit_is : (u : Unit {0}) → u ≡ tt
          unit_is u = refl
      by (Err fault) is = refl

-- the result after the topology
pub read_rest-after_topology : (certified : Bool) (s new : PartsState) (text later : List ℕ) (part : PartText)
    (t : TopologyValue) → rest_of_bundle s text ≡ prepend_parts (part ∷ []) (rest_of_bundle new later)
    → part.name ≡ part_name topology_slot → topology_of part ≡ Ok t
    → map_fault Input (read_rest s text (read_all_parts certified))
    ≡ read_stream (read_after_topology certified t) (bundle_gives new certified t 1 later)
read_rest-after_topology certified s new text later part t e name topology =
    ap (map_fault Input) (read_rest-part_passed s new text later part (read_all_parts certified) e)
    ∙ by (map_fault Bundle (rest_of_bundle new later))
  where
    checked : (here : List PartText) (names : Result (Unit {0}) InputFault)
        → (map_fault Input names >>= λ _. read_after_topology certified t (map (λ p. Ok p) here))
        ≡ read_stream (read_after_topology certified t) (map_fault Input (names >>= λ _. Ok here)
        >>= λ parts. (let g : Stream = Ok (map (λ p. Ok p) parts) in g))
    checked here (Ok u) = refl
    checked here (Err fault) = refl

    by : (r : Result (List PartText) InputFault)
        → map_fault Input (r >>= λ parts. read_all_parts certified (part ∷ parts))
        ≡ read_stream (read_after_topology certified t) (map_fault Input (r >>= λ parts.
        check_names_from 1 (slots_after_topology certified t) parts >>= λ _. Ok parts)
        >>= λ parts. (let g : Stream = Ok (map (λ p. Ok p) parts) in g))
    by (Ok here) =
        read_all_parts-after_topology certified t part here name topology
        ∙ checked here (check_names_from 1 (slots_after_topology certified t) here)
    by (Err fault) = refl

-- where the topology is refused, so is all
read_all_parts-topology_Err : (certified : Bool) (parts : List PartText) (fault : InputFault)
    → read_first_topology parts ≡ Err fault → read_all_parts certified parts ≡ Err fault
unfolding read_input
read_all_parts-topology_Err certified parts fault e =
    rw (by (part_with_slot_name parts 0 topology_slot) e) refl
  where
    by : (given : Result PartText InputFault) → (given >>= topology_of) ≡ Err fault
        → read_part (λ (own : InputFault). own) given topology_of ≡ Err fault
    by (Ok part) e = rw e refl
    by (Err other) e = cc

pub IsFaultOf-read_all_parts : (certified : Bool) (s : PartsState) (own : SourceFault)
    → IsFaultOf s read_first_topology own → IsFaultOf s (read_all_parts certified) own
IsFaultOf-read_all_parts certified s own refused = λ text remaining loud.
    read_rest-both_Err s text read_first_topology (read_all_parts certified) own
    (read_all_parts-topology_Err certified) (refused text remaining loud)

-- ---- the certificate

-- the certificate that was read is that of the stream
pub certificate_text_of-parts : (certified : Bool) (certificate : Option (List ℕ))
    → is_some certificate ≡ certified
    → certificate_text_of certified (certificate_parts certificate) ≡ certificate
certificate_text_of-parts true (Some text) is = refl
certificate_text_of-parts true None is = absurd cc
certificate_text_of-parts false (Some text) is = absurd cc
certificate_text_of-parts false None is = refl

module _ (certified : Bool) (t : TopologyValue) where
  pub read_after_topology-contents_Err : (parts : NextParts) (fault : SourceFault)
      → read_contents t parts ≡ Err fault → read_after_topology certified t parts ≡ Err fault
  read_after_topology-contents_Err parts fault e = rw e refl

  pub read_after_topology-end_Err : (stream later : Stream) (read : ContentsRead) (own : SourceFault)
      → read_stream (read_contents t) stream ≡ value_and_rest read later → later ≡ Err own
      → read_stream (read_after_topology certified t) stream ≡ Err own
  read_after_topology-end_Err stream later read own e is =
      read_stream-Err_implied (read_contents t) (read_after_topology certified t)
      read_after_topology-contents_Err stream own (e ∙ ap (value_and_rest read) is)

  pub read_after_topology-Ok : (stream later : Stream) (read : ContentsRead) (certificate : Option (List ℕ))
      → read_stream (read_contents t) stream ≡ value_and_rest read later
      → later ≡ Ok (certificate_parts certificate) → is_some certificate ≡ certified
      → read_stream (read_after_topology certified t) stream ≡ Ok (input_of_contents t read, certificate)
  read_after_topology-Ok (Ok parts) later read certificate e ends is =
      let whole : read_contents t parts ≡ Ok (read, certificate_parts certificate) =
      e ∙ ap (value_and_rest read) ends in
      rw whole (ap (λ (c : Option (List ℕ)). Ok (input_of_contents t read, c))
      (certificate_text_of-parts certified certificate is))
  read_after_topology-Ok (Err fault) later read certificate e ends is =
      absurd (never (e ∙ ap (value_and_rest read) ends))
    where
      never : {x : ContentsRead × NextParts}
          → (let r : Result (ContentsRead × NextParts) SourceFault = Err fault in r) ≡ Ok x → ⊥
      never e = cc
