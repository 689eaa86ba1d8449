-- Reading one record, and consecutive records: the functions agree with the relations.
use Rattle.std.proofs.Common.{◌≡◌, ℕ, ◌+◌, ◌-◌, ◌*◌, ◌<◌, ◌≤◌, false, ltb, List, [], ◌∷◌, ◌++◌}
use Rattle.std.proofs.Common.{length, get_or, take, drop, Some, None, refl, sym, ap, ◌∙◌}
use Rattle.std.proofs.Common.{append_assoc, arith, zero, suc, Ok, zero-add}
use Rattle.std.specs.Int.{w16, to_be_bytes}
use Rattle.std.specs.List.{flat_map}
use Rattle.std.proofs.lemmas.Bool.{le-ltb, lt-ltb}
use Rattle.std.proofs.lemmas.List.{take_at, drop_at, length-append, length-take, length-drop}
use Rattle.std.proofs.lemmas.List.{take_rest, get_or-drop, drop-append-le, take-append-le}
use Rattle.std.proofs.lemmas.List.{append-nil, take-append-drop}
use Rattle.std.proofs.lemmas.Nat.{be_bytes_2, from_be_bytes-to_be_bytes_2}
use Rattle.std.proofs.lemmas.Nat.{from_be_bytes-to_be_bytes_4}
use Rattle.std.proofs.Math.Seq.{take-add}
use Rattle.byteorder.specs.Endian.{big_number}
use Rattle.mc_text.specs.Addr.{octets_of}
use Rattle.mc_text.proofs.AddrLemmas.{octets_of-from_be_bytes, from_be_bytes-below_2_32}
use Rattle.mc_igmp.specs.declared.record.Record.{Record}
use Rattle.mc_igmp.specs.Kind.{kind_of}
use Rattle.mc_igmp.specs.Addresses.{addresses_in}
use Rattle.mc_igmp.specs.Record.{IsRecord, group_at, source_count, record_size, record_at}
use Rattle.mc_igmp.specs.Record.{read_record}
use Rattle.mc_igmp.proofs.AddressLemmas.{IsBytes, IsBytes-take_drop, IsBytes-drop, addresses_in-whole}
use Rattle.mc_igmp.proofs.AddressLemmas.{addresses_in-octets_of, length-octets_of_addresses}
use Rattle.std.proofs.lemmas.Bool.Decides.{nat_tests}
use Rattle.mc_text.proofs.StepLemmas.{ok_injective}
use Rattle.mc_igmp.specs.Records.{AreRecords, records_in, after_records, AreWholeRecords, with_other_records}
use Rattle.mc_igmp.specs.Records.{after_other_records}

-- ---- one record

-- no record is read if it would end past the bytes
pub read_record-none : (bytes : List ℕ) → length bytes < record_size bytes
    → None ≡ read_record bytes
unfolding read_record
read_record-none bytes short = rw (lt-ltb _ _ short) refl

-- the record at the front is spelled by its bytes
record_at-spelled : (bytes : List ℕ) → IsBytes bytes → record_size bytes ≤ length bytes
    → IsRecord (take (record_size bytes) bytes) (record_at bytes)
record_at-spelled (a ∷ w ∷ x ∷ y ∷ d ∷ e ∷ f ∷ g ∷ rest) fits within =
    let bytes = a ∷ w ∷ x ∷ y ∷ d ∷ e ∷ f ∷ g ∷ rest in
    let n = source_count bytes in
    let body = take (4 * n) rest in
    let auxiliary = take (4 * w) (drop (8 + 4 * n) bytes) in
    let held = addresses_in-whole n body (IsBytes-take_drop (4 * n) 8 bytes fits)
    (omega (arith, length-take (4 * n) rest)) in
    let two = x ∷ y ∷ [] in
    let counted : to_be_bytes w16 (length (addresses_in body)) ≡ two =
    be_bytes_2 two _ refl (IsBytes-take_drop 2 2 bytes fits) (omega (arith, held.count)) in
    let four = d ∷ e ∷ f ∷ g ∷ [] in
    let group_fits : IsBytes four = IsBytes-take_drop 4 4 bytes fits in
    let group = octets_of-from_be_bytes four refl group_fits in
    let parts : take (record_size bytes) bytes ≡ (a ∷ w ∷ two) ++ four ++ body ++ auxiliary =
    take-add (8 + 4 * n) (4 * w) bytes
    ∙ ap (λ (front : List ℕ). front ++ auxiliary) (take-add 8 (4 * n) bytes) in
    record {
      type = a;
      auxiliary_words = w;
      auxiliary = auxiliary;
      kind = refl;
      group_fits = from_be_bytes-below_2_32 four group_fits;
      sources_fit = held.fit;
      count_fits = omega (arith, held.count, fits 2, fits 3);
      auxiliary_length = omega (arith, length-take {A = ℕ}, length-drop (8 + 4 * n) bytes);
      spelled = parts ∙ sym (λ i. (a ∷ w ∷ counted i) ++ group i ++ held.spelled i ++ auxiliary);
    }
record_at-spelled _ fits within = absurd (omega arith)

-- a record's bytes are read as it, whatever follows them
read_record-complete : (own rest : List ℕ) (r : Record) → IsRecord own r
    → read_record (own ++ rest) ≡ Some (r, rest)
unfolding read_record
read_record-complete own rest r h =
    let n = length r.sources in
    let body = flat_map octets_of r.sources in
    let spelled = (h.type ∷ h.auxiliary_words ∷ to_be_bytes w16 n) ++ octets_of r.group ++ body
    ++ h.auxiliary in
    let bytes = spelled ++ rest in
    let count : source_count bytes ≡ n =
    omega (arith, from_be_bytes-to_be_bytes_2 n h.count_fits) in
    let taken = length-octets_of_addresses r.sources in
    let size : length spelled ≡ record_size bytes =
    omega (arith, count, taken, h.auxiliary_length, length-append body h.auxiliary) in
    let within : ltb (length bytes) (record_size bytes) ≡ false =
    le-ltb _ _ (omega (arith, size, length-append spelled rest)) in
    let body_is : take (4 * source_count bytes) (drop 8 bytes) ≡ body =
    rw (count, append_assoc body h.auxiliary rest)
    (take_at body (h.auxiliary ++ rest) (4 * n) taken) in
    let group = from_be_bytes-to_be_bytes_4 r.group h.group_fits in
    let at : record_at bytes ≡ r = rw (body_is, addresses_in-octets_of r.sources h.sources_fit)
    (λ i. record { kind = sym h.kind i; group = group i; sources = r.sources }) in
    rw (h.spelled, within, at, drop_at spelled rest (record_size bytes) size) refl

-- the record that the code takes off the front is the one that is read
pub read_record-from_parts : (bytes : List ℕ) (sources_end end : ℕ) (r : Record)
    → sources_end ≡ 8 + 4 * source_count bytes → end ≡ sources_end + 4 * get_or bytes 1 0
    → end ≤ length bytes → r.kind ≡ kind_of (get_or bytes 0 0) → r.group ≡ group_at bytes
    → r.sources ≡ addresses_in (take (sources_end - 8) (drop 8 bytes))
    → Some (r, take (length bytes - end) (drop end bytes)) ≡ read_record bytes
unfolding read_record
read_record-from_parts bytes sources_end end r sources_end_is end_is within kind group sources =
    grind (arith, nat_tests, take_rest bytes end)

-- the sixteen-bit number at a place
pub big_number-at : (bytes : List ℕ) (n : ℕ) → big_number 2 (take (length bytes - n) (drop n bytes))
    ≡ 256 * get_or bytes n 0 + get_or bytes (n + 1) 0
big_number-at bytes n =
    grind (arith, take_rest bytes n, get_or-drop n bytes)

-- more bytes after a record don't change it
pub read_record-append : (a b : List ℕ) → record_size a ≤ length a
    → read_record (a ++ b) ≡ Some (record_at a, drop (record_size a) a ++ b)
unfolding read_record
read_record-append (t ∷ w ∷ x ∷ y ∷ d ∷ e ∷ f ∷ g ∷ rest) b within =
    let a = t ∷ w ∷ x ∷ y ∷ d ∷ e ∷ f ∷ g ∷ rest in
    let long : ltb (length (a ++ b)) (record_size a) ≡ false =
    le-ltb _ _ (omega (arith, length-append a b)) in
    let body = take-append-le (4 * source_count a) rest b (omega arith) in
    rw (long, body, drop-append-le (record_size a) a b within) refl
read_record-append _ b within = absurd (omega arith)

-- ---- records one after another

-- if records were read, the first of them was
after_records-first_read : (number count : ℕ) (bytes rest : List ℕ)
    → after_records number (suc count) bytes ≡ Ok rest
    → (record_size bytes ≤ length bytes)
    × (read_record bytes ≡ Some (record_at bytes, drop (record_size bytes) bytes))
    × (after_records (number + 1) count (drop (record_size bytes) bytes) ≡ Ok rest)
unfolding after_records read_record
after_records-first_read number count bytes rest e =
    grind (arith, nat_tests)

-- the bytes after `count` records don't depend on the number of the first
pub after_records-any_number : (count j k : ℕ) (bytes rest : List ℕ)
    → after_records j count bytes ≡ Ok rest → after_records k count bytes ≡ Ok rest
unfolding after_records
after_records-any_number zero j k bytes rest e = e
after_records-any_number (suc count) j k bytes rest e =
    let (within, read, later) = after_records-first_read j count bytes rest e in
    rw read (after_records-any_number count (j + 1) (k + 1) (drop (record_size bytes) bytes) rest
    later)

-- the bytes of records are read as them, whatever follows them
pub records_in-complete : (k : ℕ) (rs : List Record) (own ignored : List ℕ) → AreRecords own rs
    → (after_records k (length rs) (own ++ ignored) ≡ Ok ignored)
    × (records_in (length rs) (own ++ ignored) ≡ rs)
unfolding records_in after_records
records_in-complete k [] own ignored h = (rw h refl, refl)
records_in-complete k (r ∷ rs) own ignored (first, rest, parts, is, later) =
    let read : read_record (own ++ ignored) ≡ Some (r, rest ++ ignored) =
    rw (parts, append_assoc first rest ignored) (read_record-complete first (rest ++ ignored) r is) in
    let (after, records) = records_in-complete (k + 1) rs rest ignored later in
    (rw read after, rw (read, records) refl)

-- the bytes before `rest` are the records that are read
pub record HoldsRecords (count : ℕ) (bytes rest : List ℕ) : Type 0 where
  pub own : List ℕ
  pub parts : bytes ≡ own ++ rest
  pub whole : AreRecords own (records_in count bytes)
  pub counted : length (records_in count bytes) ≡ count

pub after_records-sound : (k count : ℕ) (bytes rest : List ℕ) → IsBytes bytes
    → after_records k count bytes ≡ Ok rest → HoldsRecords count bytes rest
unfolding records_in after_records
after_records-sound k zero bytes rest fits e =
    record { own = []; parts = ok_injective {E = ℕ} bytes rest e; whole = refl; counted = refl }
after_records-sound k (suc count) bytes rest fits e =
    let (within, read, later) = after_records-first_read k count bytes rest e in
    let front = take (record_size bytes) bytes in
    let back = drop (record_size bytes) bytes in
    let others = after_records-sound (k + 1) count back rest (IsBytes-drop _ bytes fits) later in
    record {
      own = front ++ others.own;
      parts = sym (take-append-drop (record_size bytes) bytes)
          ∙ ap (λ (l : List ℕ). front ++ l) others.parts ∙ sym (append_assoc front others.own rest);
      whole = rw read (front, others.own, refl, record_at-spelled bytes fits within, others.whole);
      counted = rw read (ap suc others.counted);
    }

-- the bytes before the rest, alone, are read as the same records
pub records_in-own_bytes : (count : ℕ) (bytes rest own : List ℕ) → IsBytes bytes
    → after_records 1 count bytes ≡ Ok rest → own ≡ take (length bytes - length rest) bytes
    → AreWholeRecords count own × (records_in count own ≡ records_in count bytes)
records_in-own_bytes count bytes rest own fits e own_is =
    let found = after_records-sound 1 count bytes rest fits e in
    let long : length found.own ≡ length bytes - length rest =
    omega (arith, ap length found.parts, length-append found.own rest) in
    let same : own ≡ found.own ++ [] = own_is
    ∙ ap (take (length bytes - length rest)) found.parts ∙ take_at found.own rest _ long
    ∙ sym (append-nil found.own) in
    let again = records_in-complete 1 (records_in count bytes) found.own [] found.whole in
    rw same (rw found.counted at again)

-- ---- one record off the front

-- the records in the bytes are the first one and the others
pub records_in-first : (left count : ℕ) (bytes : List ℕ) → left ≡ suc count
    → records_in left bytes ≡ with_other_records (read_record bytes) (records_in count)
unfolding records_in
records_in-first left count bytes left_is = rw left_is refl

-- the bytes after the other records are those after all
pub after_records-first : (left count number : ℕ) (bytes : List ℕ) → left ≡ suc count
    → after_records number left bytes
    ≡ after_other_records number (read_record bytes) (after_records (number + 1) count)
unfolding after_records
after_records-first left count number bytes left_is = rw left_is refl

pub AreWholeRecords-rest : (left count : ℕ) (bytes rest : List ℕ) (r : Record) → left ≡ suc count
    → read_record bytes ≡ Some (r, rest) → AreWholeRecords left bytes → AreWholeRecords count rest
unfolding after_records
AreWholeRecords-rest left count bytes rest r left_is e whole =
    after_records-any_number count 2 1 rest [] (rw (left_is, e) at whole)

pub after_records-none : (left number : ℕ) (bytes : List ℕ) → left ≡ 0
    → after_records number left bytes ≡ Ok bytes
unfolding after_records
after_records-none left number bytes left_is = rw left_is refl

-- ---- two parts, one after another

-- the records of bytes joined are the records of each
pub records_in-append : (k count more : ℕ) (a b rest end : List ℕ) → after_records k count a ≡ Ok rest
    → after_records 1 more (rest ++ b) ≡ Ok end → (after_records k (count + more) (a ++ b) ≡ Ok end)
    × (records_in (count + more) (a ++ b) ≡ records_in count a ++ records_in more (rest ++ b))
unfolding records_in after_records
records_in-append k zero more a b rest end e f = rw (zero-add more, ok_injective {E = ℕ} a rest e)
    (after_records-any_number more 1 k (rest ++ b) end f, refl)
records_in-append k (suc count) more a b rest end e f =
    let (within, read, later) = after_records-first_read k count a rest e in
    let counted : suc count + more ≡ suc (count + more) = omega arith in
    let both = records_in-append (k + 1) count more (drop (record_size a) a) b rest end later f in
    rw (counted, read_record-append a b within) (both.0, rw (both.1, read) refl)

-- each record takes at least eight bytes
pub length-after_records : (k count : ℕ) (bytes rest : List ℕ) → after_records k count bytes ≡ Ok rest
    → 8 * count + length rest ≤ length bytes
unfolding after_records
length-after_records k zero bytes rest e = omega (arith, ap length (ok_injective {E = ℕ} bytes rest e))
length-after_records k (suc count) bytes rest e =
    let (within, read, later) = after_records-first_read k count bytes rest e in
    let others = length-after_records (k + 1) count (drop (record_size bytes) bytes) rest later in
    omega (arith, within, length-drop (record_size bytes) bytes, others)
