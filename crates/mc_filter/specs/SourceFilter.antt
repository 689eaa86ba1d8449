-- Source filters: from which sources a group is wanted (RFC 3376, section 3.2).
use Rattle.std.specs.Prelude.{ℕ, ◌==◌, Bool, not, List, [], Contains}
use Rattle.mc_igmp.specs.declared.record.Kind.{Kind}
use Rattle.mc_igmp.specs.declared.record.Kind.TheVariants as kind
use Rattle.mc_filter.specs.declared.filter.Mode.{Mode}
use Rattle.mc_filter.specs.declared.filter.Mode.TheVariants.{Include, Exclude}
use Rattle.std.specs.List.{list_any}

-- whether the list has the address
abbrev pub has : List ℕ → ℕ → Bool
has addresses address = list_any (λ listed. listed == address) addresses

-- a filter: its mode, and the addresses of its list of sources
pub record SourceFilter : Type 0 where
  pub mode : Mode
  pub sources : List ℕ

-- the filter that admits no source: INCLUDE of an empty list
abbrev pub include_nothing : SourceFilter
include_nothing = record { mode = Include; sources = [] }

-- a filter of this mode with this list admits a source: INCLUDE admits the sources in the list, and
-- EXCLUDE all others
abbrev pub AdmitsIn : Mode → List ℕ → ℕ → Type 0
AdmitsIn Include sources source = Contains sources source
AdmitsIn Exclude sources source = ¬ (Contains sources source)

-- the filter admits the source
abbrev pub FilterAdmits : SourceFilter → ℕ → Type 0
FilterAdmits filter source = AdmitsIn filter.mode filter.sources source

-- a record of this kind changes no filter: its type is neither 1 nor 2
abbrev pub ChangesNoFilter : Kind → Type 0
ChangesNoFilter kind.Include = ⊥
ChangesNoFilter kind.Exclude = ⊥
ChangesNoFilter (kind.Change type) = Unit {0}
ChangesNoFilter (kind.Unknown type) = Unit {0}

-- whether a filter of this mode admits a source, by whether its list has the source
abbrev pub admits_by : Mode → Bool → Bool
admits_by Include listed = listed
admits_by Exclude listed = not listed

-- whether the filter admits the source, as a test that computes
abbrev pub admits : SourceFilter → ℕ → Bool
admits filter source = admits_by filter.mode (has filter.sources source)
