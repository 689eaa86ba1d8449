-- The types of a group record, and the kinds that they are (RFC 3376, section 4.2.12).
use Rattle.std.specs.Prelude.{ℕ, ◌==◌, ◌&&◌, nat_le, Bool, true, false, if◌then◌else◌}
use Rattle.mc_igmp.specs.declared.record.Kind.{Kind}
use Rattle.mc_igmp.specs.declared.record.Kind.TheVariants.{Include, Exclude, Change, Unknown}

-- The kind of a type: 1 is MODE_IS_INCLUDE and 2 is MODE_IS_EXCLUDE; 3 to 6 report a change, as
-- CHANGE_TO_INCLUDE_MODE, CHANGE_TO_EXCLUDE_MODE, ALLOW_NEW_SOURCES and BLOCK_OLD_SOURCES; other
-- types are unknown.
unfoldable pub kind_of : ℕ → Kind
kind_of type =
    if type == 1 then Include
    else if type == 2 then Exclude
    else if nat_le 3 type && nat_le type 6 then Change type
    else Unknown type

-- whether a record of this kind reports a change
abbrev pub is_change : Kind → Bool
is_change Include = false
is_change Exclude = false
is_change (Change type) = true
is_change (Unknown type) = false
