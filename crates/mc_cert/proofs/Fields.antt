-- What is read under a key is the key's value, and the key's value is read.
use Rattle.std.proofs.Common.{◌≡◌, ℕ, ◌≤◌, cond, List, length, Option, Some, None, Ok, Err, nat_le}
use Rattle.std.proofs.Common.{◌&&◌, le-leb, refl, sym, ap, ◌∙◌, arith}
use Rattle.std.specs.Option.{ok_or}
use Rattle.std.proofs.lemmas.Bool.{leb-true, and_parts}
use Rattle.serde_json.specs.Data.{Num, unsigned, Data, number, string, array, object, Items, Members}
use Rattle.serde_json.specs.Find.{get_member, as_str, as_number, as_array, as_object, as_u64}
use Rattle.mc_topology.proofs.Steps.{bind_ok, checked_ok, ok_or_ok, ok_injective}
use Rattle.mc_cert.specs.declared.fault.CertFaultKind.TheVariants.{MissingKey, BadKind, BadNumber}
use Rattle.mc_cert.specs.declared.fault.CertFaultKind.TheVariants.{UnknownKey, TooMany}
use Rattle.mc_cert.specs.Object.{has_only, rows_in, text_of, number_of, list_of, object_of, at_key}
use Rattle.mc_cert.specs.Object.{text_at, number_at, list_at, in_range, whole_at, at_most}
use Rattle.mc_cert.specs.Denotation.{IsObject, AreRows, HasRows, HasText, HasNumber}

-- a value that is taken as one of a type is one
string-from_as_str : (d : Data) (s : List ℕ) → as_str d ≡ Some s → d ≡ string s
string-from_as_str d s e = grind (arith, e)

-- a value that is read as a number is one
number-from_as_number : (d : Data) (n : Num) → as_number d ≡ Some n → d ≡ number n
number-from_as_number d n e = grind (arith, e)

-- a value that is read as a list is one
array-from_as_array : (d : Data) (ds : Items) → as_array d ≡ Some ds → d ≡ array ds
array-from_as_array d ds e = grind (arith, e)

-- a value that is taken as an object is that object
pub object-from_as_object : (d : Data) (ms : Members) → as_object d ≡ Some ms → d ≡ object ms
object-from_as_object d ms e = grind (arith, e)

-- a number that is taken as a whole one is that number
pub unsigned-from_as_u64 : (n : Num) (m : ℕ) → as_u64 n ≡ Some m → n ≡ unsigned m
unsigned-from_as_u64 n m e = grind (arith, e)

-- ---- texts and numbers

-- a value that is read as a text is that text
pub string-from_text_of : (d : Data) (text : List ℕ) → text_of d ≡ Ok text → d ≡ string text
string-from_text_of d text e = string-from_as_str d text (ok_or_ok (as_str d) BadKind text e)

-- a value that is read as a number is that number
pub number-from_number_of : (d : Data) (n : Num) → number_of d ≡ Ok n → d ≡ number n
number-from_number_of d n e = number-from_as_number d n (ok_or_ok (as_number d) BadKind n e)

-- a text that is read under a key is there
pub HasText-from_text_at : (key : List ℕ) (ms : Members) (text : List ℕ) → text_at key ms ≡ Ok text
    → HasText key ms text
unfolding text_at
HasText-from_text_at key ms text e =
    let a = bind_ok (at_key key ms) text_of text e in
    ok_or_ok (get_member key ms) MissingKey a.0 a.1 ∙ ap Some (string-from_text_of a.0 text a.2)

-- and a text that is there is read
pub text_at-from_HasText : (key : List ℕ) (ms : Members) (text : List ℕ) → HasText key ms text
    → text_at key ms ≡ Ok text
unfolding text_at
text_at-from_HasText key ms text e = rw e refl

-- a number that is read under a key is there
pub HasNumber-from_number_at : (key : List ℕ) (ms : Members) (n : Num) → number_at key ms ≡ Ok n
    → get_member key ms ≡ Some (number n)
unfolding number_at
HasNumber-from_number_at key ms n e =
    let a = bind_ok (at_key key ms) number_of n e in
    ok_or_ok (get_member key ms) MissingKey a.0 a.1 ∙ ap Some (number-from_number_of a.0 n a.2)

-- and a number that is there is read
pub number_at-from_HasNumber : (key : List ℕ) (ms : Members) (n : Num) → get_member key ms ≡ Some (number n)
    → number_at key ms ≡ Ok n
unfolding number_at
number_at-from_HasNumber key ms n e = rw e refl

-- ---- whole numbers

-- a number that is accepted is whole, and from `low` to `high`
pub in_range-sound : (low high : ℕ) (o : Option ℕ) (n : ℕ) → in_range low high o ≡ Ok n
    → (o ≡ Some n) × (low ≤ n) × (n ≤ high)
in_range-sound low high None n e = absurd cc
in_range-sound low high (Some m) n e =
    let (same, passed) = checked_ok (λ k. nat_le low k && nat_le k high) BadNumber m n e in
    let (from, to) = and_parts _ _ passed in
    (ap Some same, leb-true _ _ from, leb-true _ _ to)

-- and such a number is accepted
pub in_range-complete : (low high n : ℕ) → low ≤ n → n ≤ high → in_range low high (Some n) ≡ Ok n
in_range-complete low high n from to = rw (le-leb low n from, le-leb n high to) refl

-- a whole number that is read under a key is there, and from `low` to `high`
pub HasNumber-from_whole_at : (key : List ℕ) (low high : ℕ) (ms : Members) (n : ℕ)
    → whole_at key low high ms ≡ Ok n → HasNumber key ms n × (low ≤ n) × (n ≤ high)
unfolding whole_at
HasNumber-from_whole_at key low high ms n e =
    let a = bind_ok (number_at key ms) (λ m. in_range low high (as_u64 m)) n e in
    let w = in_range-sound low high (as_u64 a.0) n a.2 in (
      HasNumber-from_number_at key ms a.0 a.1
          ∙ ap (λ m. Some (number m)) (unsigned-from_as_u64 a.0 n w.0),
      w.1,
      w.2,
    )

-- and such a number that is there is read
pub whole_at-from_HasNumber : (key : List ℕ) (low high : ℕ) (ms : Members) (n : ℕ) → HasNumber key ms n
    → low ≤ n → n ≤ high → whole_at key low high ms ≡ Ok n
unfolding whole_at
whole_at-from_HasNumber key low high ms n has from to = rw (number_at-from_HasNumber key ms (unsigned n) has)
    (in_range-complete low high n from to)

-- ---- objects

-- a value that is read as an object is one with known keys
pub IsObject-from_object_of : (known : List (List ℕ)) (d : Data) (ms : Members) → object_of known d ≡ Ok ms
    → IsObject known d ms
unfolding object_of
IsObject-from_object_of known d ms e =
    let a = bind_ok (ok_or (as_object d) BadKind)
    (λ ns. cond (has_only known ns) (Ok ns) (Err UnknownKey)) ms e in
    let (same, keys) = checked_ok (has_only known) UnknownKey a.0 ms a.2 in
    record {
      members = object-from_as_object d ms (ok_or_ok (as_object d) BadKind a.0 a.1 ∙ ap Some same);
      keys = keys;
    }

-- and such an object is read
pub object_of-from_IsObject : (known : List (List ℕ)) (d : Data) (ms : Members) → IsObject known d ms
    → object_of known d ≡ Ok ms
unfolding object_of
object_of-from_IsObject known d ms is = rw (is.members, is.keys) refl

-- ---- lists

-- a value that is read as a list is a list of these rows
pub AreRows-from_list_of : (d : Data) (rows : List Data) → list_of d ≡ Ok rows → AreRows d rows
AreRows-from_list_of d rows e =
    let a = bind_ok (ok_or (as_array d) BadKind) (λ items. Ok (rows_in items)) rows e in (
      a.0,
      array-from_as_array d a.0 (ok_or_ok (as_array d) BadKind a.0 a.1),
      sym (ok_injective (rows_in a.0) rows a.2),
    )

-- and a list of rows is read
pub list_of-from_AreRows : (d : Data) (rows : List Data) → AreRows d rows → list_of d ≡ Ok rows
list_of-from_AreRows d rows are = rw (are.1, are.2) refl

-- a list that is read under a key is there
pub HasRows-from_list_at : (key : List ℕ) (ms : Members) (rows : List Data) → list_at key ms ≡ Ok rows
    → HasRows key ms rows
unfolding list_at
HasRows-from_list_at key ms rows e =
    let a = bind_ok (at_key key ms) list_of rows e in
    (a.0, ok_or_ok (get_member key ms) MissingKey a.0 a.1, AreRows-from_list_of a.0 rows a.2)

-- and a list that is there is read
pub list_at-from_HasRows : (key : List ℕ) (ms : Members) (rows : List Data) → HasRows key ms rows
    → list_at key ms ≡ Ok rows
unfolding list_at
list_at-from_HasRows key ms rows has = rw has.1 (list_of-from_AreRows has.0 rows has.2)

-- rows that are accepted are as they were given, and not too many
pub at_most-sound : (most : ℕ) (rows taken : List Data) → at_most most rows ≡ Ok taken
    → (rows ≡ taken) × (length taken ≤ most)
unfolding at_most
at_most-sound most rows taken e =
    let (same, few) = checked_ok (λ (rs : List Data). nat_le (length rs) most) TooMany rows taken e in
    (same, leb-true (length taken) most few)

-- and rows that aren't too many are accepted
pub at_most-complete : (most : ℕ) (rows : List Data) → length rows ≤ most → at_most most rows ≡ Ok rows
unfolding at_most
at_most-complete most rows few = rw (le-leb (length rows) most few) refl
