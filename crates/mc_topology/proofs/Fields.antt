-- What is read under a key is the key's value, and the key's value is read.
use Rattle.std.proofs.Common.{◌≡◌, ℕ, ℤ, ◌≤◌, Bool, true, false, cond, List, [], length, codes}
use Rattle.std.proofs.Common.{Option, Some, None, Ok, Err, nat_le, le-leb, refl, sym, ap, ◌∙◌, arith}
use Rattle.std.specs.Option.{ok_or}
use Rattle.std.specs.Str.{bytes_eq}
use Rattle.std.proofs.lemmas.Bool.{leb-true}
use Rattle.std.proofs.lemmas.Slice.Eq.{bytes_eq-Decides}
use Rattle.toml.specs.Data.{Data, string, integer, array, Items}
use Rattle.toml.specs.Data.{Members, get_member, as_str, as_integer, as_array, as_table}
use Rattle.toml.proofs.Lines.{data_of_array, data_of_table}
use Rattle.mc_text.specs.declared.text.addr.Order.{Order}
use Rattle.mc_text.specs.declared.text.addr.Order.TheVariants.{Little, Big}
use Rattle.mc_topology.specs.declared.fault.TopologyFaultKind.TheVariants.{MissingKey, BadKind}
use Rattle.mc_topology.specs.declared.fault.TopologyFaultKind.TheVariants.{UnknownKey, TooMany}
use Rattle.mc_topology.specs.Document.{has_only, rows_in, text_of, number_of, list_of}
use Rattle.mc_topology.specs.Document.{list_or_empty, text_or_none, known_table, text_at, number_at}
use Rattle.mc_topology.specs.Document.{list_at, optional_text_at, optional_list_at, rows_at, at_key}
use Rattle.mc_topology.specs.Routers.{order_of}
use Rattle.mc_topology.specs.Denotation.{IsTable, AreRows, DenotesOrder, order_text}
use Rattle.mc_topology.proofs.Steps.{bind_ok, checked_ok, ok_or_ok, ok_injective}

-- a value that is taken as a text is one, and so for a whole number
string-from_as_str : (d : Data) (s : List ℕ) → as_str d ≡ Some s → d ≡ string s
string-from_as_str d s e = grind (arith, e)

integer-from_as_integer : (d : Data) (z : ℤ) → as_integer d ≡ Some z → d ≡ integer z
integer-from_as_integer d z e = grind (arith, e)

-- ---- texts and numbers

-- a text that is read of a value is that value
pub string-from_text_of : (d : Data) (text : List ℕ) → text_of d ≡ Ok text → d ≡ string text
string-from_text_of d text e = string-from_as_str d text (ok_or_ok (as_str d) BadKind text e)

-- a text that is read under a key is the key's
pub HasText-from_text_at : (key : List ℕ) (ms : Members) (text : List ℕ) → text_at key ms ≡ Ok text
    → get_member key ms ≡ Some (string text)
unfolding text_at
HasText-from_text_at key ms text e =
    let a = bind_ok (at_key key ms) text_of text e in
    ok_or_ok (get_member key ms) MissingKey a.0 a.1 ∙ ap Some (string-from_text_of a.0 text a.2)

-- and the key's text is read
pub text_at-from_HasText : (key : List ℕ) (ms : Members) (text : List ℕ)
    → get_member key ms ≡ Some (string text) → text_at key ms ≡ Ok text
unfolding text_at
text_at-from_HasText key ms text e = rw e refl

-- a whole number that is read under a key is the key's
pub HasNumber-from_number_at : (key : List ℕ) (ms : Members) (z : ℤ) → number_at key ms ≡ Ok z
    → get_member key ms ≡ Some (integer z)
unfolding number_at
HasNumber-from_number_at key ms z e =
    let a = bind_ok (at_key key ms) number_of z e in
    ok_or_ok (get_member key ms) MissingKey a.0 a.1
    ∙ ap Some (integer-from_as_integer a.0 z (ok_or_ok (as_integer a.0) BadKind z a.2))

-- and the key's whole number is read
pub number_at-from_HasNumber : (key : List ℕ) (ms : Members) (z : ℤ) → get_member key ms ≡ Some (integer z)
    → number_at key ms ≡ Ok z
unfolding number_at
number_at-from_HasNumber key ms z e = rw e refl

-- ---- tables

-- a value that is read as a table of known keys is one
pub IsTable-from_known_table : (known : List (List ℕ)) (d : Data) (ms : Members)
    → known_table known d ≡ Ok ms → IsTable known d ms
unfolding known_table
IsTable-from_known_table known d ms e =
    let a = bind_ok (ok_or (as_table d) BadKind)
    (λ ns. cond (has_only known ns) (Ok ns) (Err UnknownKey)) ms e in
    let (same, keys) = checked_ok (has_only known) UnknownKey a.0 ms a.2 in
    record {
      members = data_of_table d ms (ok_or_ok (as_table d) BadKind a.0 a.1 ∙ ap Some same);
      keys = keys;
    }

-- and such a table is read
pub known_table-from_IsTable : (known : List (List ℕ)) (d : Data) (ms : Members) → IsTable known d ms
    → known_table known d ≡ Ok ms
unfolding known_table
known_table-from_IsTable known d ms is = rw (is.members, is.keys) refl

-- ---- lists

-- rows that are read of a value are those of a list that it is
array-from_list_of : (d : Data) (rows : List Data) → list_of d ≡ Ok rows → (items : Items)
    × (d ≡ array items) × (rows ≡ rows_in items)
array-from_list_of d rows e =
    let a = bind_ok (ok_or (as_array d) BadKind) (λ items. Ok (rows_in items)) rows e in (
      a.0,
      data_of_array d a.0 (ok_or_ok (as_array d) BadKind a.0 a.1),
      sym (ok_injective (rows_in a.0) rows a.2),
    )

-- rows that are read under a key are those of a list there
pub array-from_list_at : (key : List ℕ) (ms : Members) (rows : List Data) → list_at key ms ≡ Ok rows
    → (items : Items) × (get_member key ms ≡ Some (array items)) × (rows ≡ rows_in items)
unfolding list_at
array-from_list_at key ms rows e =
    let a = bind_ok (at_key key ms) list_of rows e in
    let l = array-from_list_of a.0 rows a.2 in
    (l.0, ok_or_ok (get_member key ms) MissingKey a.0 a.1 ∙ ap Some l.1, l.2)

-- and the rows of a list there are read
pub list_at-from_array : (key : List ℕ) (ms : Members) (items : Items)
    → get_member key ms ≡ Some (array items) → list_at key ms ≡ Ok (rows_in items)
unfolding list_at
list_at-from_array key ms items e = rw e refl

-- rows that are read of a value that may be missing are its rows
AreRows-from_list_or_empty : (o : Option Data) (rows : List Data) → list_or_empty o ≡ Ok rows → AreRows o rows
AreRows-from_list_or_empty None rows e = sym (ok_injective [] rows e)
AreRows-from_list_or_empty (Some d) rows e = array-from_list_of d rows e

-- and its rows are read
pub list_or_empty-from_AreRows : (o : Option Data) (rows : List Data) → AreRows o rows
    → list_or_empty o ≡ Ok rows
list_or_empty-from_AreRows None rows is = ap Ok (sym is)
list_or_empty-from_AreRows (Some d) rows is = rw (is.1, is.2) refl

-- rows that are read under a key that may be missing are those there
pub AreRows-from_optional_list_at : (key : List ℕ) (ms : Members) (rows : List Data)
    → optional_list_at key ms ≡ Ok rows → AreRows (get_member key ms) rows
unfolding optional_list_at
AreRows-from_optional_list_at key ms rows e = AreRows-from_list_or_empty (get_member key ms) rows e

-- and the rows there are read
pub optional_list_at-from_AreRows : (key : List ℕ) (ms : Members) (rows : List Data)
    → AreRows (get_member key ms) rows → optional_list_at key ms ≡ Ok rows
unfolding optional_list_at
optional_list_at-from_AreRows key ms rows is = list_or_empty-from_AreRows (get_member key ms) rows is

-- rows that are read under such a key are those there, and no more than the most
pub AreRows-from_rows_at : (key : List ℕ) (most : ℕ) (ms : Members) (rows : List Data)
    → rows_at key most ms ≡ Ok rows → AreRows (get_member key ms) rows × (length rows ≤ most)
unfolding rows_at
AreRows-from_rows_at key most ms rows e =
    let a = bind_ok (optional_list_at key ms)
    (λ rs. cond (nat_le (length rs) most) (Ok rs) (Err TooMany)) rows e in
    let (same, few) = checked_ok (λ (rs : List Data). nat_le (length rs) most) TooMany a.0 rows a.2 in
    (AreRows-from_optional_list_at key ms rows (a.1 ∙ ap Ok same), leb-true (length rows) most few)

-- and rows there that are no more than the most are read
pub rows_at-from_AreRows : (key : List ℕ) (most : ℕ) (ms : Members) (rows : List Data)
    → AreRows (get_member key ms) rows → length rows ≤ most → rows_at key most ms ≡ Ok rows
unfolding rows_at
rows_at-from_AreRows key most ms rows is few =
    rw (optional_list_at-from_AreRows key ms rows is, le-leb (length rows) most few) refl

-- ---- byte orders

-- a text that is compared with both orders' texts is that of the resulting order
order_text-from_tests : (b c : Bool) (text : List ℕ) (order : Order) → bytes_eq text (codes "little") ≡ b
    → bytes_eq text (codes "big") ≡ c
    → cond b (Ok Little) (cond c (Ok Big) (Err BadKind)) ≡ Ok order → text ≡ order_text order
order_text-from_tests true c text order is_little is_big e =
    let same : Little ≡ order = cc in
    rw (← same) ((bytes_eq-Decides text (codes "little")).0 is_little)
order_text-from_tests false true text order is_little is_big e =
    let same : Big ≡ order = cc in
    rw (← same) ((bytes_eq-Decides text (codes "big")).0 is_big)
order_text-from_tests false false text order is_little is_big e = absurd cc

-- an order is read of its text
order_of-order_text : (order : Order) → order_of (Some (order_text order)) ≡ Ok order
unfolding order_of
order_of-order_text Little = refl
order_of-order_text Big = refl

-- an order that is read of a value that may be missing is the value's
DenotesOrder-from_order_of : (m : Option Data) (text : Option (List ℕ)) (order : Order)
    → text_or_none m ≡ Ok text
    → order_of text ≡ Ok order → DenotesOrder m order
unfolding order_of
DenotesOrder-from_order_of None text order e named =
    let none : None ≡ text = ok_injective None text e in
    let little : order_of None ≡ Ok order = ap order_of none ∙ named in
    sym (ok_injective Little order little)
DenotesOrder-from_order_of (Some d) text order e named =
    let a = bind_ok (text_of d) (λ t. Ok (Some t)) text e in
    let some : Some a.0 ≡ text = ok_injective (Some a.0) text a.2 in
    let at : order_of (Some a.0) ≡ Ok order = ap order_of some ∙ named in
    string-from_text_of d a.0 a.1 ∙ ap string (order_text-from_tests _ _ a.0 order refl refl at)

-- and the value's order is read
order_of-from_DenotesOrder : (m : Option Data) (order : Order) → DenotesOrder m order
    → (text : Option (List ℕ))
    × (text_or_none m ≡ Ok text) × (order_of text ≡ Ok order)
unfolding order_of
order_of-from_DenotesOrder None order is = (None, refl, ap Ok (sym is))
order_of-from_DenotesOrder (Some d) order is =
    (Some (order_text order), rw is refl, order_of-order_text order)

-- an order that is read under a key that may be missing is that of the value there
pub DenotesOrder-from_optional_text_at : (key : List ℕ) (ms : Members) (text : Option (List ℕ))
    (order : Order)
    → optional_text_at key ms ≡ Ok text → order_of text ≡ Ok order
    → DenotesOrder (get_member key ms) order
unfolding optional_text_at
DenotesOrder-from_optional_text_at key ms text order e named =
    DenotesOrder-from_order_of (get_member key ms) text order e named

-- and the order of the value there is read
pub optional_text_at-from_DenotesOrder : (key : List ℕ) (ms : Members) (order : Order)
    → DenotesOrder (get_member key ms) order → (text : Option (List ℕ))
    × (optional_text_at key ms ≡ Ok text) × (order_of text ≡ Ok order)
unfolding optional_text_at
optional_text_at-from_DenotesOrder key ms order is = order_of-from_DenotesOrder (get_member key ms) order is
