-- The values of a TOML table by their keys, each of the type that a rule asks for, or else a fault.
use Rattle.std.specs.Prelude.{ℕ, ℤ, nat_le, length, Bool, List, [], ◌∷◌, Option, Some, None, Result}
use Rattle.std.specs.Prelude.{Ok, Err, ok_or, if◌then◌else◌}
use Rattle.std.specs.List.{list_all, list_any}
use Rattle.std.specs.Str.{bytes_eq}
use Rattle.toml.specs.Data.{Data, Items, no_items, item, Members, no_members, member, get_member}
use Rattle.toml.specs.Data.{as_str, as_integer, as_table, as_array}
use Rattle.mc_topology.specs.declared.fault.TopologyFaultKind.{TopologyFaultKind}
use Rattle.mc_topology.specs.declared.fault.TopologyFaultKind.TheVariants.{MissingKey, BadKind}
use Rattle.mc_topology.specs.declared.fault.TopologyFaultKind.TheVariants.{UnknownKey, TooMany}
use Rattle.mc_text.specs.Steps.{◌>>=◌}

-- the keys of a table, in their order
abbrev pub keys_in : Members → List (List ℕ)
keys_in no_members = []
keys_in (member key d ms) = key ∷ keys_in ms

-- whether each key is one of the known ones
abbrev pub are_known : List (List ℕ) → List (List ℕ) → Bool
are_known known keys = list_all (λ key. list_any (λ known_key. bytes_eq known_key key) known) keys

-- whether the table has no other keys than the known ones
abbrev pub has_only : List (List ℕ) → Members → Bool
has_only known members = are_known known (keys_in members)

-- the values of a list, in their order
abbrev pub rows_in : Items → List Data
rows_in no_items = []
rows_in (item d ds) = d ∷ rows_in ds

-- the text that a value has to be (else BadKind)
abbrev pub text_of : Data → Result (List ℕ) TopologyFaultKind
text_of value = ok_or (as_str value) BadKind

-- the whole number that a value has to be (else BadKind)
abbrev pub number_of : Data → Result ℤ TopologyFaultKind
number_of value = ok_or (as_integer value) BadKind

-- the values of the list that a value has to be (else BadKind)
abbrev pub list_of : Data → Result (List Data) TopologyFaultKind
list_of value = ok_or (as_array value) BadKind >>= λ items. Ok (rows_in items)

-- the table that a value has to be (else BadKind), with no other keys than the known ones
-- (UnknownKey)
unfoldable pub known_table : List (List ℕ) → Data → Result Members TopologyFaultKind
known_table known value =
    ok_or (as_table value) BadKind >>= λ members.
    if has_only known members then Ok members else Err UnknownKey

-- the value under a key, which has to be there (else MissingKey)
abbrev pub at_key : List ℕ → Members → Result Data TopologyFaultKind
at_key key members = ok_or (get_member key members) MissingKey

-- the text under a key, which has to be there
unfoldable pub text_at : List ℕ → Members → Result (List ℕ) TopologyFaultKind
text_at key members = at_key key members >>= text_of

-- the whole number under a key, which has to be there
unfoldable pub number_at : List ℕ → Members → Result ℤ TopologyFaultKind
number_at key members = at_key key members >>= number_of

-- the list under a key, which has to be there
unfoldable pub list_at : List ℕ → Members → Result (List Data) TopologyFaultKind
list_at key members = at_key key members >>= list_of

-- the text that a value has to be, if there is a value
abbrev pub text_or_none : Option Data → Result (Option (List ℕ)) TopologyFaultKind
text_or_none None = Ok None
text_or_none (Some value) = text_of value >>= λ text. Ok (Some text)

-- the list that a value has to be; without a value the empty one
abbrev pub list_or_empty : Option Data → Result (List Data) TopologyFaultKind
list_or_empty None = Ok []
list_or_empty (Some value) = list_of value

-- the text under a key that may be missing
unfoldable pub optional_text_at : List ℕ → Members → Result (Option (List ℕ)) TopologyFaultKind
optional_text_at key members = text_or_none (get_member key members)

-- the list under a key; where the key is missing, the empty one
unfoldable pub optional_list_at : List ℕ → Members → Result (List Data) TopologyFaultKind
optional_list_at key members = list_or_empty (get_member key members)

-- the list under a key that may be missing, which has at most `most` values (else TooMany)
unfoldable pub rows_at : List ℕ → ℕ → Members → Result (List Data) TopologyFaultKind
rows_at key most members = do
  rows ← optional_list_at key members
  if nat_le (length rows) most then Ok rows else Err TooMany
