-- The tests of what a filter and a record admit.
use Rattle.std.proofs.Common.{◌≡◌, ℕ, arith}
use Rattle.std.specs.Bool.{Decides}
use Rattle.mc_igmp.specs.declared.record.Record.{Record}
use Rattle.mc_igmp.specs.declared.record.Kind.{Kind}
use Rattle.mc_igmp.specs.declared.record.Kind.TheVariants as kind
use Rattle.mc_igmp.specs.Wants.{Admits}
use Rattle.mc_filter.specs.declared.filter.Mode.{Mode}
use Rattle.mc_filter.specs.declared.filter.Mode.TheVariants.{Exclude}
use Rattle.mc_filter.specs.SourceFilter.{has}
use Rattle.mc_filter.specs.SourceFilter.{SourceFilter, FilterAdmits, admits}
use Rattle.mc_filter.specs.FilterBuilding.{kind_admits, is_exclude, is_exclude_mode}
use Rattle.mc_filter.proofs.AscendingLemmas.{Decides-has}

-- the test of a filter decides whether it admits the source
pub Decides-FilterAdmits : (filter : SourceFilter) (s : ℕ)
    → Decides (admits filter s) (FilterAdmits filter s)
Decides-FilterAdmits filter s = grind (arith, Decides-has filter.sources s)

-- the test of a record decides whether it admits the source
pub Decides-Admits : (r : Record) (s : ℕ)
    → Decides (kind_admits r.kind (has r.sources s)) (Admits r s)
Decides-Admits r s = grind (arith, Decides-has r.sources s)

-- the test of a mode decides whether it is EXCLUDE
pub Decides-is_exclude_mode : (mode : Mode) → Decides (is_exclude_mode mode) (mode ≡ Exclude)
Decides-is_exclude_mode mode = grind arith

-- the test of a kind decides whether it is that of an EXCLUDE record
pub Decides-is_exclude : (kind_of_record : Kind)
    → Decides (is_exclude kind_of_record) (kind_of_record ≡ kind.Exclude)
Decides-is_exclude kind_of_record = grind arith

-- rules that turn the tests into their facts
pub ruleset filter_tests = (
  Decides-FilterAdmits,
  Decides-Admits,
  Decides-is_exclude_mode,
  Decides-is_exclude,
)
