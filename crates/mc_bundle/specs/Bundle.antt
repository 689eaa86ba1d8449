-- The bundle, a domain's files as named parts of one text (docs/FORMATS.md):
--
--     mcaudit bundle 1
--     part <name> <length>
--     <length bytes>
--     ...
--     end
use Rattle.std.specs.Prelude.{◌≡◌, ℕ, ◌≤◌, Bool, List, ◌++◌, length, codes}
use Rattle.std.specs.Fmt.{decimal}
use Rattle.std.specs.List.{AllByRecursion, AllPass, flat_map}
use Rattle.std.specs.Prelude.{true, false, Option}
use Rattle.std.specs.Io.KnownBytes.{Appends}
use Rattle.mc_text.specs.Names.{is_part_byte}
use Rattle.mc_bundle.specs.declared.bundle_fault.BundleFault.{BundleFault}
use Rattle.mc_bundle.specs.declared.bundle_fault.BundleFault.TheVariants as faults

-- the most bytes of a part's name
abbrev pub max_name : ℕ
max_name = 64

-- the most bytes of a line, with its line feed
abbrev pub max_line : ℕ
max_line = 96

-- the most bytes of a part
abbrev pub max_part : ℕ
max_part = 16777216

-- the most bytes of a bundle
abbrev pub max_bundle : ℕ
max_bundle = 268435456

-- how many bytes at the front of a text decide how it is read: those of the largest bundle, and of
-- the longest line after it
abbrev pub max_input : ℕ
max_input = 268435552

-- the most parts of a bundle
abbrev pub max_parts : ℕ
max_parts = 1538

-- a part: its name and its bytes
pub record PartText : Type 0 where
  pub name : List ℕ
  pub bytes : List ℕ

-- a part's name: 1 to 64 bytes that may be in one
pub record IsPartName (name : List ℕ) : Type 0 where
  pub some : 1 ≤ length name
  pub short : length name ≤ max_name
  pub bytes : AllPass is_part_byte name

-- the line that begins a part, without its line feed; the length is in decimal without a leading
-- zero
abbrev pub part_line : List ℕ → ℕ → List ℕ
part_line name size = codes "part " ++ (name ++ (codes " " ++ decimal size))

-- how a part is written: its line and its bytes, each followed by a line feed
abbrev pub part_spelling : PartText → List ℕ
part_spelling part =
    (part_line part.name (length part.bytes) ++ codes "\n") ++ (part.bytes ++ codes "\n")

-- how a bundle is written: the first line, the parts in order, and the last line
abbrev pub bundle_spelling : List PartText → List ℕ
bundle_spelling parts =
    codes "mcaudit bundle 1\n" ++ (flat_map part_spelling parts ++ codes "end\n")

-- the parts are within the limits: each has at most 16,777,216 bytes, and their bundle at most
-- 268,435,456 bytes and 1,538 parts
pub record AreWithinLimits (parts : List PartText) : Type 0 where
  pub sizes : AllByRecursion (λ part. length part.bytes ≤ max_part) parts
  pub count : length parts ≤ max_parts
  pub size : length (bundle_spelling parts) ≤ max_bundle

-- the text is a bundle of these parts
pub record IsBundle (text : List ℕ) (parts : List PartText) : Type 0 where
  pub names : AllByRecursion (λ part. IsPartName part.name) parts
  pub limits : AreWithinLimits parts
  pub spelled : text ≡ bundle_spelling parts

-- whether the fault is that a write failed
abbrev pub is_write : BundleFault → Bool
is_write faults.Write = true
is_write _ = false

-- a bundle of these parts was appended to what an output had taken
abbrev pub AppendsBundle : Option (List ℕ) → Option (List ℕ) → List PartText → Type 0
AppendsBundle old new parts = (text : List ℕ) × IsBundle text parts × Appends old new text
