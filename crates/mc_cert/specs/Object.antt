-- The values of a JSON object by their keys, each of the type that a rule asks for, or else a
-- fault.
use Rattle.std.specs.Prelude.{ℕ, nat_le, ◌&&◌, Bool, List, [], ◌∷◌, length, Option, Some, None}
use Rattle.std.specs.Prelude.{Result, Ok, Err, ok_or, if◌then◌else◌}
use Rattle.serde_json.specs.Data.{Num, Data, Items, no_items, item, Members, no_members, member}
use Rattle.serde_json.specs.Find.{get_member, as_str, as_number, as_array, as_object, as_u64}
use Rattle.mc_cert.specs.declared.fault.CertFaultKind.{CertFaultKind}
use Rattle.mc_cert.specs.declared.fault.CertFaultKind.TheVariants.{MissingKey, UnknownKey, BadKind}
use Rattle.mc_cert.specs.declared.fault.CertFaultKind.TheVariants.{BadNumber, TooMany}
use Rattle.mc_text.specs.Steps.{◌>>=◌}
use Rattle.mc_topology.specs.Document.{are_known}

-- the keys of an object, in their order
abbrev pub keys_in : Members → List (List ℕ)
keys_in no_members = []
keys_in (member key d ms) = key ∷ keys_in ms

-- whether the object has no other keys than the known ones
abbrev pub has_only : List (List ℕ) → Members → Bool
has_only known members = are_known known (keys_in members)

-- the values of a list, in their order
abbrev pub rows_in : Items → List Data
rows_in no_items = []
rows_in (item d ds) = d ∷ rows_in ds

-- the text that a value has to be (else BadKind)
abbrev pub text_of : Data → Result (List ℕ) CertFaultKind
text_of value = ok_or (as_str value) BadKind

-- the number that a value has to be (else BadKind)
abbrev pub number_of : Data → Result Num CertFaultKind
number_of value = ok_or (as_number value) BadKind

-- the values of the list that a value has to be (else BadKind)
abbrev pub list_of : Data → Result (List Data) CertFaultKind
list_of value = ok_or (as_array value) BadKind >>= λ items. Ok (rows_in items)

-- the object that a value has to be (else BadKind), with no other keys than the known ones
-- (UnknownKey)
unfoldable pub object_of : List (List ℕ) → Data → Result Members CertFaultKind
object_of known value = ok_or (as_object value) BadKind
    >>= λ table_members. if has_only known table_members then Ok table_members else Err UnknownKey

-- the value under a key, which has to be there (else MissingKey)
abbrev pub at_key : List ℕ → Members → Result Data CertFaultKind
at_key key members = ok_or (get_member key members) MissingKey

-- the text under a key, which has to be there
unfoldable pub text_at : List ℕ → Members → Result (List ℕ) CertFaultKind
text_at key members = at_key key members >>= text_of

-- the number under a key, which has to be there
unfoldable pub number_at : List ℕ → Members → Result Num CertFaultKind
number_at key members = at_key key members >>= number_of

-- the list under a key, which has to be there
unfoldable pub list_at : List ℕ → Members → Result (List Data) CertFaultKind
list_at key members = at_key key members >>= list_of

-- the number, which has to be whole, and from `low` to `high` (else BadNumber)
abbrev pub in_range : ℕ → ℕ → Option ℕ → Result ℕ CertFaultKind
in_range low high None = Err BadNumber
in_range low high (Some number) = if nat_le low number && nat_le number high then Ok number
    else Err BadNumber

-- the whole number from `low` to `high` under a key, which has to be there
unfoldable pub whole_at : List ℕ → ℕ → ℕ → Members → Result ℕ CertFaultKind
whole_at key low high members = number_at key members >>= λ integer. in_range low high (as_u64 integer)

-- the rows, which have to be at most `most` (else TooMany)
unfoldable pub at_most : ℕ → List Data → Result (List Data) CertFaultKind
at_most most rows = if nat_le (length rows) most then Ok rows else Err TooMany
