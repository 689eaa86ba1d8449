-- What is read of the slots' parts one after another, whatever gives them.
use Rattle.std.specs.Prelude.{◌≡◌, ◌≢◌, ℕ, List, [], ◌∷◌, ◌++◌, Option, Some, None, Result, Ok, Err}
use Rattle.std.specs.Prelude.{IfOk, IfErr, map, option_map, refl}
use Rattle.std.specs.FinMap.{FinMap}
use Rattle.std.specs.Ordering.{nat_cmp}
use Rattle.std.proofs.Common.{ap, ◌∙◌, sym, subst, inr, append_assoc, append-nil}
use Rattle.mc_bundle.specs.Bundle.{PartText}
use Rattle.mc_text.specs.Steps.{◌>>=◌, map_fault}
use Rattle.mc_text.specs.declared.text.addr.Order.{Order}
use Rattle.mc_igmp.specs.declared.record.Record.{Record}
use Rattle.mc_tables.specs.CacheTable.{CacheValue}
use Rattle.mc_tables.specs.VifTable.{VifValue}
use Rattle.mc_topology.specs.SectionRows.{RouterRow}
use Rattle.mc_topology.specs.Topology.{TopologyValue}
use Rattle.mc_input.specs.PartsOneByOne.{IsPartResult}
use Rattle.mc_forward.specs.Domains.{TablesValue}
use Rattle.mc_input.specs.PartsReading.{read_part, reports_of, vifs_of}
use Rattle.mc_input.specs.SourceFault.{IsReadOrMemory}
use Rattle.mc_input.specs.Stream.{IsFaultBeforeOrOwn, IsFaultOfStream, IsFedPart, IsReaderOf, KeepsOfFirst}
use Rattle.mc_input.specs.Stream.{NextParts, ReadsFirst, Stream, first_part, part_then, read_each, read_first}
use Rattle.mc_input.specs.Stream.{ContentsRead, RouterRead, cache_and_text, read_contents, read_lan}
use Rattle.mc_input.specs.Stream.{read_lans, read_router, read_routers, read_stream, router_read}
use Rattle.mc_input.specs.Stream.{value_and_rest}
use Rattle.mc_input.specs.declared.fault.InputFault.{InputFault}
use Rattle.mc_input.specs.declared.fault.InputFault.TheVariants as input
use Rattle.mc_input.specs.declared.source_fault.SourceFault.{SourceFault}
use Rattle.mc_input.specs.declared.source_fault.SourceFault.TheVariants.{Input}
use Rattle.mc_input.proofs.PartResultLemmas.{Err-from_part_result, Ok-from_IsPartResult}

-- these values, then what is read for each of these items, and the parts after it
abbrev pub read_each_after : {A X : Type 0} → (A → NextParts → Result (X × NextParts) SourceFault)
    → List X → List A → NextParts → Result (List X × NextParts) SourceFault
read_each_after read front xs parts = read_each read xs parts >>= λ found. Ok (front ++ found.0, found.1)

-- ---- a fault

-- where one reading is refused, so is one that begins with it
module _ {X Y : Type 0} (a : NextParts → Result X SourceFault) (b : NextParts → Result Y SourceFault)
    (each : (parts : NextParts) (fault : SourceFault) → a parts ≡ Err fault → b parts ≡ Err fault) where
  -- in one stream,
  pub read_stream-Err_implied : (stream : Stream) (own : SourceFault) → read_stream a stream ≡ Err own
      → read_stream b stream ≡ Err own
  read_stream-Err_implied (Ok parts) own e = each parts own e
  read_stream-Err_implied (Err fault) own e = cc

  -- in a stream that may be known,
  pub IsFaultOfStream-implied : (gives : Option Stream) (own : SourceFault) → IsFaultOfStream gives a own
      → IsFaultOfStream gives b own
  IsFaultOfStream-implied gives own refused = λ stream known loud.
      read_stream-Err_implied stream own (refused stream known loud)

  -- and as a clause of a call
  pub IfErr-IsFaultOfStream_implied : {K : Type 0} (gives : Option Stream) (r : Result K SourceFault)
      → IfErr r (IsFaultOfStream gives a) → IfErr r (IsFaultOfStream gives b)
  IfErr-IsFaultOfStream_implied gives (Ok kept) refused = tt
  IfErr-IsFaultOfStream_implied gives (Err own) refused = IsFaultOfStream-implied gives own refused

-- where there is no part, nothing is read of it
pub read_first-first_part_Err : {X : Type 0} (read : PartText → Result X InputFault) (parts : NextParts)
    (fault : SourceFault) → first_part parts ≡ Err fault → read_first read parts ≡ Err fault
read_first-first_part_Err read parts fault e = rw e refl

-- a first part that is refused by one reader is refused by another
pub read_first-Err_implied : {X Y : Type 0} (a : PartText → Result X InputFault)
    (b : PartText → Result Y InputFault)
    → ((part : PartText) (fault : InputFault) → a part ≡ Err fault → b part ≡ Err fault)
    → (parts : NextParts) (fault : SourceFault) → read_first a parts ≡ Err fault
    → read_first b parts ≡ Err fault
read_first-Err_implied {X = X} a b each parts fault e = by (first_part parts) e
  where
    by_part : (part : PartText) (r : Result X InputFault) → a part ≡ r → map_fault Input r ≡ Err fault
        → map_fault Input (b part) ≡ Err fault
    by_part part (Ok x) is e = absurd cc
    by_part part (Err own) is e =
        let same : Input own ≡ fault = cc in rw (each part own is) (ap Err same)

    by : (given : Result PartText SourceFault) → read_part Input given a ≡ Err fault
        → read_part Input given b ≡ Err fault
    by (Ok part) e = by_part part (a part) refl e
    by (Err own) e = cc

-- ---- one part

module _ {Y K : Type 0} (read : PartText → Result Y InputFault) (Keeps : K → Y → Type 0)
    (old between : Option Stream) (part_result : Result K InputFault)
    (passes : ReadsFirst old between (λ part. IsPartResult Keeps part_result (read part))) where
  -- this is kept of it
  pub KeepsOfFirst-from_part_result : {S : Type 0} (gives : S → Option Stream) (s new : S)
      (r : Result K SourceFault) → gives s ≡ between → IfOk r (λ kept. (part_result ≡ Ok kept) × (new ≡ s))
      → IfOk r (λ kept. KeepsOfFirst old (gives new) read (Keeps kept))
  KeepsOfFirst-from_part_result gives s new (Ok kept) here is = λ stream known.
      let x = passes stream known in
      let own = Ok-from_IsPartResult Keeps part_result (read x.1) kept x.4 is.0 in
      (x.0, x.1, ap gives is.1 ∙ here ∙ x.2, x.3, own)
  KeepsOfFirst-from_part_result gives s new (Err fault) here is = tt

  -- or it is refused
  pub IsFaultOfStream-from_part_result : (r : Result K SourceFault)
      → ((stream : Stream) → between ≡ Some stream → IfErr r (λ fault. ¬ IsReadOrMemory fault →
      (own : InputFault) × (part_result ≡ Err own) × IsFaultBeforeOrOwn stream own fault))
      → IfErr r (IsFaultOfStream old (read_first read))
  IsFaultOfStream-from_part_result (Ok kept) answers = tt
  IsFaultOfStream-from_part_result (Err fault) answers = λ stream known loud.
      let x = passes stream known in
      let y = answers x.0 x.2 loud in
      ap (read_stream (read_first read)) x.3 ∙ by x.0 x.1 y.0 loud y.1 x.4 y.2
    where
      by : (later : Stream) (part : PartText) (own : InputFault) → ¬ IsReadOrMemory fault
          → part_result ≡ Err own → IsPartResult Keeps part_result (read part)
          → IsFaultBeforeOrOwn later own fault
          → read_stream (read_first read) (part_then part later) ≡ Err fault
      by (Ok parts) part own loud is reads e =
          let real : own ≢ input.Memory =
          λ memory. loud (inr (e ∙ ap (λ (f : InputFault). Input f) memory)) in
          rw (Err-from_part_result Keeps part_result (read part) own reads is real) (ap Err (sym e))
      by (Err before) part own loud is reads e = ap Err (sym e)

-- a part that was fed to a reader whole is read with the reader's result
pub ReadsFirst-part_result : {X Y : Type 0} (old between : Option Stream) (part_result : Result Y InputFault)
    (own read : PartText → Result Y InputFault) (name : List ℕ) (before after : List ℕ → X)
    → IsReaderOf own read
    → ((bytes : List ℕ) → before bytes ≡ after [] → IsPartResult (λ kept value. kept ≡ value) part_result
    (own (record { name = name; bytes = bytes })))
    → ReadsFirst old between (IsFedPart name before after)
    → ReadsFirst old between (λ part. IsPartResult (λ kept value. kept ≡ value) part_result (read part))
ReadsFirst-part_result old between part_result own read name before after same finished passes =
    λ stream known.
    let x = passes stream known in (
      x.0,
      x.1,
      x.2,
      x.3,
      subst (λ r. IsPartResult (λ kept value. kept ≡ value) part_result r) (same x.1 x.4.1)
          (subst (λ (part : PartText). IsPartResult (λ kept value. kept ≡ value) part_result (own part))
          (named x.1 x.4.0) (finished x.1.bytes x.4.2)),
    )
  where
    named : (part : PartText) → part.name ≡ name
        → (let fed : PartText = record { name = name; bytes = part.bytes } in fed) ≡ part
    named part is =
        ap (λ (n : List ℕ). let fed : PartText = record { name = n; bytes = part.bytes } in fed) (sym is)

-- what is kept of a part is kept of another reading of it
pub KeepsOfFirst-implied : {Y Z : Type 0} (old new : Option Stream) (a : PartText → Result Y InputFault)
    (b : PartText → Result Z InputFault) (Keeps : Y → Type 0) (Other : Z → Type 0)
    → ((part : PartText) (y : Y) → a part ≡ Ok y → Keeps y → (z : Z) × (b part ≡ Ok z) × Other z)
    → KeepsOfFirst old new a Keeps → KeepsOfFirst old new b Other
KeepsOfFirst-implied old new a b Keeps Other each keeps = λ stream known.
    let x = keeps stream known in
    (x.0, x.1, x.2, x.3, each x.1 x.4.0 x.4.1 x.4.2)

-- ---- several parts

module _ {A X : Type 0} (read : A → NextParts → Result (X × NextParts) SourceFault) where
  -- before the first item nothing is read,
  pub read_each-start : (xs : List A) (stream : Stream)
      → read_stream (read_each read xs) stream ≡ read_stream (read_each_after read [] xs) stream
  read_each-start xs (Ok parts) = by (read_each read xs parts)
    where
      by : (r : Result (List X × NextParts) SourceFault) → r ≡ (r >>= λ found. Ok ([] ++ found.0, found.1))
      by (Ok found) = refl
      by (Err fault) = refl
  read_each-start xs (Err fault) = refl

  -- after the last one all is,
  pub read_each-end : (front : List X) (stream : Stream)
      → read_stream (read_each_after read front []) stream ≡ value_and_rest front stream
  unfolding read_each
  read_each-end front (Ok parts) = ap (λ (ts : List X). Ok (ts, parts)) (append-nil front)
  read_each-end front (Err fault) = refl

  module _ (front : List X) (x : A) (xs : List A) where
    -- an item that is refused refuses the rest,
    pub read_each-Err : (parts : NextParts) (fault : SourceFault) → read x parts ≡ Err fault
        → read_each_after read front (x ∷ xs) parts ≡ Err fault
    unfolding read_each
    read_each-Err parts fault e = rw e refl

    -- and one that is read goes behind those before it
    pub read_each-more : (stream later : Stream) (own : X)
        → read_stream (read x) stream ≡ value_and_rest own later
        → read_stream (read_each_after read front (x ∷ xs)) stream
        ≡ read_stream (read_each_after read (front ++ own ∷ []) xs) later
    unfolding read_each
    read_each-more (Ok parts) (Ok others) own e = rw e (by (read_each read xs others))
      where
        by : (found : Result (List X × NextParts) SourceFault)
            → ((found >>= λ others. (let b : Result (List X × NextParts) SourceFault =
            Ok (own ∷ others.0, others.1) in b))
            >>= λ all. (let b : Result (List X × NextParts) SourceFault = Ok (front ++ all.0, all.1) in b))
            ≡ (found >>= λ all. Ok ((front ++ own ∷ []) ++ all.0, all.1))
        by (Ok all) = ap (λ (ts : List X). Ok (ts, all.1)) (sym (append_assoc front (own ∷ []) all.0))
        by (Err fault) = refl
    read_each-more (Ok parts) (Err fault) own e = rw e refl
    read_each-more (Err fault) (Ok others) own e = absurd cc
    read_each-more (Err fault) (Err other) own e = cc

-- ---- a router, and a LAN

module _ (order : Order) where
  -- a router is refused for its vifs first,
  pub read_router-vifs_Err : (parts : NextParts) (fault : SourceFault) → read_first vifs_of parts ≡ Err fault
      → read_router order parts ≡ Err fault
  read_router-vifs_Err parts fault e = rw e refl

  -- then for its cache,
  pub read_router-cache_Err : (later : Stream) (part : PartText) (vifs : FinMap nat_cmp VifValue)
      (own : SourceFault) → vifs_of part ≡ Ok vifs
      → read_stream (read_first (cache_and_text order)) later ≡ Err own
      → read_stream (read_router order) (part_then part later) ≡ Err own
  read_router-cache_Err (Ok parts) part vifs own known e = rw (known, e) refl
  read_router-cache_Err (Err fault) part vifs own known e = cc

  -- and is read of its two parts otherwise
  pub read_router-Ok : (later : Stream) (vif cache : PartText) (vifs : FinMap nat_cmp VifValue)
      (found : CacheValue × List ℕ) → vifs_of vif ≡ Ok vifs → cache_and_text order cache ≡ Ok found
      → read_stream (read_router order) (part_then vif (part_then cache later))
      ≡ value_and_rest (router_read vifs found.0 order found.1) later
  read_router-Ok (Ok parts) vif cache vifs found known own = rw (known, own) refl
  read_router-Ok (Err fault) vif cache vifs found known own = refl

-- a router's byte order is that of its row,
pub order-at : (o : Option RouterRow) (r : RouterRow) (order : Order)
    → option_map (λ q. q.order) o ≡ Some order → o ≡ Some r → order ≡ r.order
order-at None r order e is = absurd cc
order-at (Some q) r order e is = cc

-- and so is its name
pub name-at : (o : Option RouterRow) (r : RouterRow) (name : List ℕ)
    → option_map (λ q. q.name) o ≡ Some name → o ≡ Some r → name ≡ r.name
name-at None r name e is = absurd cc
name-at (Some q) r name e is = cc

-- a LAN is refused for its one part
pub read_lan-Err : (parts : NextParts) (fault : SourceFault) → read_first reports_of parts ≡ Err fault
    → read_lan parts ≡ Err fault
read_lan-Err parts fault e = rw e refl

-- and is read of it otherwise
pub read_lan-Ok : (later : Stream) (part : PartText) (records : List Record) → reports_of part ≡ Ok records
    → read_stream read_lan (part_then part later) ≡ value_and_rest records later
read_lan-Ok (Ok parts) part records known = rw known refl
read_lan-Ok (Err fault) part records known = refl

-- ---- all contents

module _ (t : TopologyValue) where
  -- the contents are refused for the routers' parts first,
  pub read_contents-tables_Err : (parts : NextParts) (fault : SourceFault)
      → read_routers t.routers parts ≡ Err fault → read_contents t parts ≡ Err fault
  read_contents-tables_Err parts fault e = rw e refl

  -- then for the LANs',
  pub read_contents-reports_Err : (stream later : Stream) (routers : List RouterRead) (own : SourceFault)
      → read_stream (read_routers t.routers) stream ≡ value_and_rest routers later
      → read_stream (read_lans t.lans) later ≡ Err own → read_stream (read_contents t) stream ≡ Err own
  read_contents-reports_Err (Ok parts) (Ok others) routers own e refused = rw (e, refused) refl
  read_contents-reports_Err (Ok parts) (Err fault) routers own e refused =
      rw e (ap Err (let f : fault ≡ own = cc in f))
  read_contents-reports_Err (Err fault) (Ok others) routers own e refused = absurd cc
  read_contents-reports_Err (Err fault) (Err other) routers own e refused = cc

  -- and are read of both otherwise
  pub read_contents-Ok : (stream between later : Stream) (routers : List RouterRead)
      (reports : List (List Record))
      → read_stream (read_routers t.routers) stream ≡ value_and_rest routers between
      → read_stream (read_lans t.lans) between ≡ value_and_rest reports later
      → read_stream (read_contents t) stream
      ≡ value_and_rest (let read : ContentsRead = (routers, reports) in read) later
  read_contents-Ok (Ok parts) (Ok others) (Ok more) routers reports e next = rw (e, next) refl
  read_contents-Ok (Ok parts) (Ok others) (Err fault) routers reports e next = rw (e, next) refl
  read_contents-Ok (Ok parts) (Err fault) (Ok more) routers reports e next = absurd cc
  read_contents-Ok (Ok parts) (Err fault) (Err other) routers reports e next =
      rw e (ap Err (let f : fault ≡ other = cc in f))
  read_contents-Ok (Err fault) (Ok others) later routers reports e next = absurd cc
  read_contents-Ok (Err fault) (Err other) (Ok more) routers reports e next = absurd cc
  read_contents-Ok (Err fault) (Err other) (Err last) routers reports e next =
      let one : fault ≡ other = cc in let two : other ≡ last = cc in ap Err (one ∙ two)

-- the tables of one router more
pub map-tables_push : (reads : List RouterRead) (own : RouterRead)
    → map (λ read. read.tables) (reads ++ own ∷ []) ≡ map (λ read. read.tables) reads ++ own.tables ∷ []
map-tables_push [] own = refl
map-tables_push (read ∷ reads) own =
    ap (λ (ts : List TablesValue). read.tables ∷ ts) (map-tables_push reads own)
