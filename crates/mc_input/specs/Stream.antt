-- What a source gives of a domain's parts, from one slot on, and what is read from them one after another
-- (docs/FORMATS.md, "The parts of a domain"). Of a bundle the framing and the names of all parts are judged
-- before any content is, and of a folder each file as its turn comes. So the outer result is what is judged
-- before all contents, and the inner ones are what is judged slot by slot.
use Rattle.std.specs.Prelude.{◌≡◌, ◌≤◌, ℕ, ◌+◌, Bool, true, false, List, [], ◌∷◌, ◌++◌, drop, length, map}
use Rattle.std.specs.Prelude.{Option, Some, None, Result, Ok, Err}
use Rattle.std.specs.FinMap.{FinMap}
use Rattle.std.specs.Ordering.{nat_cmp}
use Rattle.mc_bundle.specs.Bundle.{PartText}
use Rattle.mc_text.specs.Lines.{max_text}
use Rattle.mc_bundle.specs.PartsReading.{PartsState}
use Rattle.mc_text.specs.Steps.{◌>>=◌, map_fault}
use Rattle.mc_text.specs.declared.text.addr.Order.{Order}
use Rattle.mc_tables.specs.CacheTable.{CacheValue}
use Rattle.mc_tables.specs.VifTable.{VifValue}
use Rattle.mc_igmp.specs.declared.record.Record.{Record}
use Rattle.mc_topology.specs.SectionRows.{RouterRow}
use Rattle.mc_topology.specs.Topology.{TopologyValue}
use Rattle.mc_files.specs.Files.{FileText}
use Rattle.mc_files.specs.Layout.{Slot, certificate_slot, part_name, slots}
use Rattle.mc_forward.specs.Domains.{TablesValue}
use Rattle.mc_input.specs.FilesReading.{files_as_source}
use Rattle.mc_input.specs.Input.{InputValue}
use Rattle.mc_input.specs.InputView.{input_with}
use Rattle.mc_input.specs.PartsOneByOne.{InputAndCertificate, check_names_then, read_rest}
use Rattle.mc_input.specs.PartsReading.{cache_of, read_part, reports_of, vifs_of}
use Rattle.mc_input.specs.SourceFault.{IsReadOrMemory}
use Rattle.mc_input.specs.declared.fault.InputFault.{InputFault}
use Rattle.mc_input.specs.declared.source_fault.SourceFault.{SourceFault}
use Rattle.mc_input.specs.declared.source_fault.SourceFault.TheVariants.{Input, Read}

-- for each slot, in order, its part or the fault for which there is none
abbrev pub NextParts : Type 0
NextParts = List (Result PartText SourceFault)

-- a stream: these parts, or the fault by which all of them are refused, whatever they hold
abbrev pub Stream : Type 0
Stream = Result NextParts SourceFault

-- the stream of this part and of those that come later
abbrev pub part_then : PartText → Stream → Stream
part_then part later = later >>= λ others. Ok (Ok part ∷ others)

-- the first part; after the last slot there is none, which counts as a failed read
abbrev pub first_part : NextParts → Result PartText SourceFault
first_part [] = Err Read
first_part (given ∷ others) = given

-- the result of reading the first part
abbrev pub read_first : {X : Type 0} → (PartText → Result X InputFault) → NextParts → Result X SourceFault
read_first read parts = read_part Input (first_part parts) read

-- the result of reading the parts of a stream
abbrev pub read_stream : {X : Type 0} → (NextParts → Result X SourceFault) → Stream → Result X SourceFault
read_stream read stream = stream >>= read

-- a value that was read, and the parts that come later
abbrev pub value_and_rest : {X : Type 0} → X → Stream → Result (X × NextParts) SourceFault
value_and_rest value later = later >>= λ parts. Ok (value, parts)

-- ---- the two sources

-- the parts that a source gives of these slots, of which the first has this number
abbrev pub parts_of_slots : (ℕ → Slot → Result PartText SourceFault) → ℕ → List Slot → NextParts
parts_of_slots source number [] = []
parts_of_slots source number (slot ∷ others) = source number slot
    ∷ parts_of_slots source (number + 1) others

-- what a bundle gives from the slot with this number on: its framing and its parts' names are judged first
abbrev pub bundle_gives : PartsState → (certified : Bool) → TopologyValue → ℕ → List ℕ → Stream
bundle_gives s certified topology number text =
    map_fault Input (read_rest s text (check_names_then certified topology number (λ parts. Ok parts)))
    >>= λ parts. Ok (map (λ part. Ok part) parts)

-- what a folder gives from the slot with this number on: each file is judged by itself
abbrev pub files_give : TopologyValue → ℕ → List FileText → Stream
files_give topology number files = Ok (parts_of_slots (files_as_source files) number
    (drop number (slots false topology)))

-- ---- the contents of several parts

-- What is read of a router: its tables, its byte order, and the text of its cache.
pub record RouterRead : Type 0 where
  pub tables : TablesValue
  pub order : Order
  pub cache_text : List ℕ

-- what is read of a router with these vifs, this cache, this byte order and this text of the cache
abbrev pub router_read : FinMap nat_cmp VifValue → CacheValue → Order → (text : List ℕ) → RouterRead
router_read vifs entries order text =
    record { tables = record { vifs = vifs; cache = entries }; order = order; cache_text = text }

-- the forwarding cache that a part has, and the part's text
abbrev pub cache_and_text : Order → PartText → Result (CacheValue × List ℕ) InputFault
cache_and_text order part = cache_of order part >>= λ entries. Ok (entries, part.bytes)

-- a router with this byte order, read from two parts, and the parts after them
abbrev pub read_router : Order → NextParts → Result (RouterRead × NextParts) SourceFault
read_router order parts =
    read_first vifs_of parts >>= λ vifs. read_first (cache_and_text order) (drop 1 parts)
    >>= λ cache. Ok (router_read vifs cache.0 order cache.1, drop 2 parts)

-- a LAN's reports, read from one part, and the parts after it
abbrev pub read_lan : NextParts → Result (List Record × NextParts) SourceFault
read_lan parts = read_first reports_of parts >>= λ records. Ok (records, drop 1 parts)

-- what is read for each of these items, one after another, and the parts after it
unfoldable pub read_each : {A X : Type 0} → (A → NextParts → Result (X × NextParts) SourceFault) → List A
    → NextParts → Result (List X × NextParts) SourceFault
read_each read [] parts = Ok ([], parts)
read_each read (x ∷ xs) parts =
    read x parts >>= λ own. read_each read xs own.1 >>= λ others. Ok (own.0 ∷ others.0, others.1)

-- what is read of these routers, and the parts after it
abbrev pub read_routers : List RouterRow → NextParts → Result (List RouterRead × NextParts) SourceFault
read_routers rows = read_each (λ row. read_router row.order) rows

-- the reports of these LANs, and the parts after them
abbrev pub read_lans : List (List ℕ) → NextParts → Result (List (List Record) × NextParts) SourceFault
read_lans lans = read_each (λ lan. read_lan) lans

-- all contents: those of the routers, and then the LANs' reports
abbrev pub ContentsRead : Type 0
ContentsRead = List RouterRead × List (List Record)

-- all contents of a topology's parts, and the parts after them
abbrev pub read_contents : TopologyValue → NextParts → Result (ContentsRead × NextParts) SourceFault
read_contents topology parts =
    read_routers topology.routers parts >>= λ routers. read_lans topology.lans routers.1
    >>= λ reports. Ok ((routers.0, reports.0), reports.1)

-- the input of these contents
abbrev pub input_of_contents : TopologyValue → ContentsRead → InputValue
input_of_contents topology read = input_with topology (map (λ router. router.tables) read.0) read.1

-- the text of the certificate, if there is to be one: that of the first part
abbrev pub certificate_text_of : (certified : Bool) → NextParts → Option (List ℕ)
certificate_text_of true (Ok part ∷ parts) = Some part.bytes
certificate_text_of certified parts = None

-- the input and the certificate, from the parts after the topology's
abbrev pub read_after_topology : (certified : Bool) → TopologyValue → NextParts
    → Result InputAndCertificate SourceFault
read_after_topology certified topology parts =
    read_contents topology parts
    >>= λ read. Ok (input_of_contents topology read.0, certificate_text_of certified read.1)

-- the part of a certificate with this text; none without a text
abbrev pub certificate_parts : Option (List ℕ) → NextParts
certificate_parts None = []
certificate_parts (Some text) = Ok (record { name = part_name certificate_slot; bytes = text }) ∷ []

-- ---- what contracts of calls say

-- The stream's first part was read, and this holds of it.
abbrev pub ReadsFirst : (old new : Option Stream) → (PartText → Type 0) → Type 0
ReadsFirst old new Holds =
    (stream : Stream) → old ≡ Some stream →
    (later : Stream) × (part : PartText) × (new ≡ Some later) × (stream ≡ part_then part later) × Holds part

-- The part has this name, and was fed to a reader whole. The reader is seen by the result that it would give
-- if further bytes were fed.
abbrev pub IsFedPart : {R : Type 0} → (name : List ℕ) → (before after : List ℕ → R) → PartText → Type 0
IsFedPart name before after part =
    (part.name ≡ name) × (length part.bytes ≤ max_text) × (before part.bytes ≡ after [])

-- The stream's first part was read, and this is kept of its value.
abbrev pub KeepsOfFirst : {Y : Type 0} → (old new : Option Stream) → (PartText → Result Y InputFault)
    → (Y → Type 0) → Type 0
KeepsOfFirst {Y = Y} old new read Keeps =
    ReadsFirst old new (λ part. (y : Y) × (read part ≡ Ok y) × Keeps y)

-- Reading the stream gives this fault, unless the source failed or memory ran out.
abbrev pub IsFaultOfStream : {X : Type 0} → Option Stream → (NextParts → Result X SourceFault)
    → SourceFault → Type 0
IsFaultOfStream gives read fault =
    (stream : Stream) → gives ≡ Some stream → ¬ IsReadOrMemory fault → read_stream read stream ≡ Err fault

-- The fault is that of a content, or the one by which the whole stream is refused before any content.
abbrev pub IsFaultBeforeOrOwn : Stream → (own : InputFault) → SourceFault → Type 0
IsFaultBeforeOrOwn (Ok parts) own fault = fault ≡ Input own
IsFaultBeforeOrOwn (Err before) own fault = fault ≡ before

-- A reader gives this result for each part that is no larger than a text may be.
abbrev pub IsReaderOf : {X : Type 0} → (PartText → Result X InputFault) → (PartText → Result X InputFault)
    → Type 0
IsReaderOf result read = (part : PartText) → length part.bytes ≤ max_text → result part ≡ read part

-- If `old` holds of what was read of the routers so far, `new` holds of that and one router more, whose cache
-- has this text.
abbrev pub KeepsCacheText : (old new : List RouterRead → Type 0) → Order → (text : List ℕ) → Type 0
KeepsCacheText old new order text =
    (reads : List RouterRead) (vifs : FinMap nat_cmp VifValue) (entries : CacheValue) → old reads
    → new (reads ++ router_read vifs entries order text ∷ [])
