-- The values of lists and objects, read from JSON's tokens one after the other.
use Rattle.std.proofs.Common.{◌≡◌, ℕ, ◌+◌, ◌-◌, ◌<◌, ◌≤◌, List, [], ◌∷◌, ◌++◌, length}
use Rattle.std.proofs.Common.{Option, Some, None, option_map, option_and_then, decimal, ◌^◌, refl, ap}
use Rattle.std.proofs.Common.{subst, ◌∙◌, Bool, true, false}
use Rattle.std.proofs.Common.{arith, append-nil}
use Rattle.std.specs.Prelude.{MatchBool}
use Rattle.json.specs.Token.{Token}
use Rattle.json.specs.Json as json
use Rattle.json.specs.Json.{parse_map, after_end_array, read_key, items, members, value, if_last}
use Rattle.json.specs.Lex.{tokens}
use Rattle.json.proofs.Grammar.{left, value-begin_array, value-begin_object, value_is, items_end, items_more}
use Rattle.json.proofs.Grammar.{members_end, members_more, skip_value-shorter, read_key-shorter}
use Rattle.serde_json.specs.Data.{Data, unsigned, number, string, array, object, Items, no_items, item}
use Rattle.serde_json.specs.Data.{Members, no_members, put}
use Rattle.serde_json.specs.Read.{number_of, of_json, of_items, of_members, converted, max_depth, read}
use Rattle.serde_json.specs.View.{items_of}
use Rattle.serde_json.proofs.Numbers.{number_of-decimal}
use Rattle.mc_cert.specs.Denotation.{EachDenotes}
use Rattle.mc_cert.specs.Object.{rows_in}
use Rattle.mc_cert.specs.Tokens.{Reads}

-- ---- what is read, under a conversion

-- the value, or this one where there is none
abbrev or_given : {A : Type 0} → A → Option A → A
or_given a None = a
or_given a (Some b) = b

-- a value beside the rest of the tokens, by parts
paired : {B : Type 0} (r s : List Token) (x : Option B) (b : B)
    → option_map {U = B × List Token} (λ y. (y, r)) x ≡ Some (b, s) → (r ≡ s) × (x ≡ Some b)
paired r s None b e = absurd cc
paired r s (Some y) b e =
    let same = ap (or_given (y, r)) e in (ap (λ p. p.1) same, ap (λ p. Some p.0) same)

-- what was converted was read
pub converted-Some : {A B : Type 0} (f : A → Option B) (o : Option (A × List Token)) (b : B) (r : List Token)
    → converted f o ≡ Some (b, r) → (a : A) × (o ≡ Some (a, r)) × (f a ≡ Some b)
converted-Some f None b r e = absurd cc
converted-Some f (Some p) b r e =
    let both = paired p.1 r (f p.0) b e in (p.0, ap (λ s. Some (p.0, s)) both.0, both.1)

-- changing a value leaves the rest of the tokens
option_map-parse_map : {A B : Type 0} (g : A → B) (r : List Token) (x : Option A)
    → option_map (λ b. (b, r)) (option_map g x) ≡ parse_map g (option_map (λ a. (a, r)) x)
option_map-parse_map g r None = refl
option_map-parse_map g r (Some a) = refl

-- a list is converted by its items
converted-array : (o : Option (json.Items × List Token))
    → converted of_json (parse_map json.array o) ≡ parse_map array (converted of_items o)
converted-array None = refl
converted-array (Some p) = option_map-parse_map array p.1 (of_items p.0)

-- an object is converted by its members
converted-object : (o : Option (json.Members × List Token))
    → converted of_json (parse_map json.object o)
    ≡ parse_map object (converted (λ ms. of_members ms no_members) o)
converted-object None = refl
converted-object (Some p) = option_map-parse_map object p.1 (of_members p.0 no_members)

-- an item is converted before those behind it
converted-item : (j : json.Json) (d : Data) → of_json j ≡ Some d → (o : Option (json.Items × List Token))
    → converted of_items (parse_map (json.item j) o) ≡ parse_map (item d) (converted of_items o)
converted-item j d e None = refl
converted-item j d e (Some p) = rw e (option_map-parse_map (item d) p.1 (of_items p.0))

-- a member is put among those before it
converted-member : (k : List ℕ) (j : json.Json) (d : Data) (ms : Members) → of_json j ≡ Some d
    → (o : Option (json.Members × List Token))
    → converted (λ m. of_members m ms) (parse_map (json.member k j) o)
    ≡ converted (λ m. of_members m (put k d ms)) o
converted-member k j d ms e None = refl
converted-member k j d ms e (Some p) = rw e refl

-- a value takes at least one token
pub shorter-from_Reads : (levels : ℕ) (ts : List Token) (d : Data) (rest : List Token)
    → Reads levels ts d rest → length rest < length ts
shorter-from_Reads levels ts d rest is =
    let j = converted-Some of_json (value levels ts) d rest (is.read levels (omega arith)) in
    skip_value-shorter levels ts rest (ap left j.1)

-- a value that nests less deep
pub Reads-deeper : (k m : ℕ) (ts : List Token) (d : Data) (rest : List Token) → k ≤ m → Reads k ts d rest
    → Reads m ts d rest
Reads-deeper k m ts d rest le is = record { read = λ depth deep. is.read depth (omega (arith, le, deep)) }

-- ---- lists

-- these values in front of the other items
abbrev pub items_before : List Data → Items → Items
items_before [] rest = rest
items_before (d ∷ ds) rest = item d (items_before ds rest)

-- the items before none are the list of them
items_before-no_items : (ds : List Data) → items_before ds no_items ≡ items_of ds
items_before-no_items [] = refl
items_before-no_items (d ∷ ds) = ap (item d) (items_before-no_items ds)

-- an item moves from the front of the rest to the end of those before
items_before-item : (ds : List Data) (d : Data) (rest : Items)
    → items_before ds (item d rest) ≡ items_before (ds ++ d ∷ []) rest
items_before-item [] d rest = refl
items_before-item (e ∷ ds) d rest = ap (item e) (items_before-item ds d rest)

-- the same where the rest is still to be parsed
parse_map-item : (ds : List Data) (d : Data) (r : Option (Items × List Token))
    → parse_map (items_before ds) (parse_map (item d) r) ≡ parse_map (items_before (ds ++ d ∷ [])) r
parse_map-item ds d None = refl
parse_map-item ds d (Some p) = ap (λ js. Some (js, p.1)) (items_before-item ds d p.0)

-- before no items a parse is unchanged
parse_map-none_before : (r : Option (Items × List Token)) → r ≡ parse_map (items_before []) r
parse_map-none_before None = refl
parse_map-none_before (Some p) = refl

-- of the list whose items begin at these tokens these values were read, and it goes on at those
pub record ListSoFar (levels : ℕ) (start : List Token) (ds : List Data) (ts : List Token) : Type 0 where
  pub turns : ℕ
  pub enough : length ts ≤ turns
  pub same : (depth : ℕ) → levels ≤ depth
      → converted of_items (items (value depth) (length start) start)
      ≡ parse_map (items_before ds) (converted of_items (items (value depth) turns ts))

-- at the first token of a list no value was read
pub ListSoFar-none : (levels : ℕ) (ts : List Token) → ListSoFar levels ts [] ts
ListSoFar-none levels ts = record {
  turns = length ts;
  enough = omega arith;
  same = λ depth le. parse_map-none_before _;
}

-- one value more is read
pub ListSoFar-more : (levels : ℕ) (start : List Token) (ds : List Data) (ts rest : List Token) (d : Data)
    → ListSoFar levels start ds ts → after_end_array ts ≡ None → Reads levels ts d rest
    → ListSoFar levels start (ds ++ d ∷ []) rest
ListSoFar-more levels start ds ts rest d old going is =
    let less = shorter-from_Reads levels ts d rest is in
    record {
      turns = old.turns - 1;
      enough = omega (arith, less, old.enough);
      same = λ depth le.
          let j = converted-Some of_json (value depth ts) d rest (is.read depth le) in
          old.same depth le
          ∙ ap (λ o. parse_map (items_before ds) (converted of_items o))
          (items_more (value depth) old.turns ts rest j.0 (omega (arith, less, old.enough)) going j.1)
          ∙ ap (parse_map (items_before ds)) (converted-item j.0 d j.2 _)
          ∙ parse_map-item ds d _;
    }

-- at the end of the list, the tokens begin with the list of the values that were read
pub Reads-array : (levels : ℕ) (ts start : List Token) (ds : List Data) (last rest : List Token)
    → ts ≡ Token.begin_array ∷ start → ListSoFar levels start ds last → after_end_array last ≡ Some rest
    → Reads (levels + 1) ts (array (items_of ds)) rest
Reads-array levels ts start ds last rest opened old closed = record {
  read = λ depth le.
      ap (λ t. converted of_json (value depth t)) opened
      ∙ ap (converted of_json) (value-begin_array depth start (omega arith))
      ∙ converted-array (items (value (depth - 1)) (length start) start)
      ∙ ap (parse_map array) (old.same (depth - 1) (omega arith)
      ∙ ap (λ o. parse_map (items_before ds) (converted of_items o))
      (items_end (value (depth - 1)) old.turns last rest old.enough closed))
      ∙ ap (λ js. Some (array js, rest)) (items_before-no_items ds);
}

-- the rows of a list of values are the values
pub rows_in-items_of : (ds : List Data) → rows_in (items_of ds) ≡ ds
rows_in-items_of [] = refl
rows_in-items_of (d ∷ ds) = ap (λ (es : List Data). d ∷ es) (rows_in-items_of ds)

module _ {X : Type 0} (Denotation : ℕ → Data → X → Type 0) where
  -- one more row
  pub EachDenotes-more : (n m : ℕ) (ds : List Data) (xs : List X) (d : Data) (x : X)
      → EachDenotes Denotation n ds xs → n + length xs ≡ m → Denotation m d x
      → EachDenotes Denotation n (ds ++ d ∷ []) (xs ++ x ∷ [])
  EachDenotes-more n m [] [] d x all count is = (subst (λ k. Denotation k d x) (omega (arith, count)) is, tt)
  EachDenotes-more n m [] (y ∷ xs) d x all count is = absurd all
  EachDenotes-more n m (e ∷ ds) [] d x all count is = absurd all
  EachDenotes-more n m (e ∷ ds) (y ∷ xs) d x all count is =
      (all.0, EachDenotes-more (n + 1) m ds xs d x all.1 (omega (arith, count)) is)

-- ---- objects

-- of the object whose members begin at these tokens these were read, and it goes on at those
pub record ObjectSoFar (levels : ℕ) (start : List Token) (ms : Members) (ts : List Token) : Type 0 where
  pub turns : ℕ
  pub enough : length ts ≤ turns
  pub same : (depth : ℕ) → levels ≤ depth
      → converted (λ m. of_members m no_members) (members (value depth) (length start) start)
      ≡ converted (λ m. of_members m ms) (members (value depth) turns ts)

-- one key with its value more is read
pub ObjectSoFar-more : (levels : ℕ) (start : List Token) (ms : Members) (k : List ℕ) (ts s rest : List Token)
    (d : Data) → ObjectSoFar levels start ms ts → read_key ts ≡ Some (Some k, s) → Reads levels s d rest
    → ObjectSoFar levels start (put k d ms) rest
ObjectSoFar-more levels start ms k ts s rest d old key is =
    let less = shorter-from_Reads levels s d rest is in
    let lesser = read_key-shorter ts (Some k) s key in
    record {
      turns = old.turns - 1;
      enough = omega (arith, less, lesser, old.enough);
      same = λ depth le.
          let j = converted-Some of_json (value depth s) d rest (is.read depth le) in
          old.same depth le
          ∙ ap (converted (λ m. of_members m ms))
          (members_more (value depth) old.turns k ts s rest j.0 (omega (arith, less, lesser, old.enough)) key
          j.1)
          ∙ converted-member k j.0 d ms j.2 _;
    }

-- at the end of the object, the tokens begin with the object of the members that were read
pub Reads-object : (levels : ℕ) (ts start : List Token) (ms : Members) (last rest : List Token)
    → ts ≡ Token.begin_object ∷ start → ObjectSoFar levels start ms last → read_key last ≡ Some (None, rest)
    → Reads (levels + 1) ts (object ms) rest
Reads-object levels ts start ms last rest opened old closed = record {
  read = λ depth le.
      ap (λ t. converted of_json (value depth t)) opened
      ∙ ap (converted of_json) (value-begin_object depth start (omega arith))
      ∙ converted-object (members (value (depth - 1)) (length start) start)
      ∙ ap (parse_map object) (old.same (depth - 1) (omega arith)
      ∙ ap (converted (λ m. of_members m ms))
      (members_end (value (depth - 1)) old.turns last rest old.enough closed));
}

-- ---- texts and numbers

-- the token of a text is read as that text
pub Reads-string : (ts : List Token) (text : List ℕ) (rest : List Token) → ts ≡ Token.string text ∷ rest
    → Reads 0 ts (string text) rest
Reads-string ts text rest is = record {
  read = λ depth le.
      ap (λ t. converted of_json (value depth t)) is
      ∙ ap (converted of_json) (value_is depth (Token.string text ∷ rest));
}

-- the digits of a number
pub Reads-decimal : (ts : List Token) (digits rest : List ℕ) (n : ℕ) (after : List Token)
    → ts ≡ Token.number digits ∷ after → digits ≡ decimal n ++ rest → length rest ≡ 0 → n < 2 ^ 64
    → Reads 0 ts (number (unsigned n)) after
Reads-decimal ts digits [] n after is same none small = record {
  read = λ depth le.
      ap (λ t. converted of_json (value depth t)) is
      ∙ ap (converted of_json) (value_is depth (Token.number digits ∷ after))
      ∙ ap (λ o. option_map {U = Data × List Token} (λ d. (d, after)) (option_map number o))
      (ap number_of (same ∙ append-nil (decimal n)) ∙ number_of-decimal n small);
}
Reads-decimal ts digits (b ∷ rest) n after is same none small = absurd (omega (arith, none))

-- ---- the text as a whole

-- a text whose tokens are those of one value
pub read-from_Reads : (levels : ℕ) (text : List ℕ) (d : Data) (rest : List Token) → levels ≤ 127
    → Reads levels (tokens text) d rest → rest ≡ [] → read text ≡ Some d
read-from_Reads levels text d rest le is none =
    let j = converted-Some of_json (value max_depth (tokens text)) d rest (is.read max_depth le) in
    ap (λ o. option_and_then of_json (option_and_then (λ p. if_last p.0 p.1) o))
    (j.1 ∙ ap (λ r. Some (j.0, r)) none)
    ∙ j.2

-- what follows from the first of two cases
pub match_bool-map : (b : Bool) (A B C : Type 0) → (A → B) → MatchBool b A C → MatchBool b B C
match_bool-map true A B C f is = f is
match_bool-map false A B C f is = is
