-- JSON values that are read back from their own text.
use Rattle.std.proofs.Common.{◌≡◌, ℕ, zero, suc, ◌^◌, ◌<◌, ◌≤◌, All, Bool, true, false, List, []}
use Rattle.std.proofs.Common.{◌∷◌, ◌++◌, length, get_or, decimal, Option, Some, option_map}
use Rattle.std.proofs.Common.{option_and_then, IsUtf8, inl, inr, ◌⊎◌, refl, sym, ap, ap₂, subst}
use Rattle.std.proofs.Common.{◌∙◌, arith, append-nil}
use Rattle.std.specs.List.{list_all, AllByRecursion}
use Rattle.std.proofs.lemmas.Bool.{and_parts, cases_lt}
use Rattle.std.proofs.lemmas.Bool.Decides.{nat_tests}
use Rattle.std.proofs.lemmas.List.{get_or_past}
use Rattle.std.proofs.lemmas.Fmt.{IsAscii-decimal}
use Rattle.std.proofs.lemmas.Str.{IsUtf8-append, IsUtf8-from_ascii}
use Rattle.std.proofs.NetLemmas.Alphabet.{All-ipv4_text, IsDigitOrDot}
use Rattle.json.specs.Json as json
use Rattle.json.specs.Lex.{tokens}
use Rattle.json.specs.Print.{escape, quoted}
use Rattle.json.specs.Token.{Token}
use Rattle.json.specs.Tree as tree
use Rattle.json.proofs.Printed.Decimals.{IsNumber-decimal}
use Rattle.json.proofs.Printed.Strings.{escape_byte_plain}
use Rattle.json.proofs.Printed.Tokens.{tokens-print}
use Rattle.json.proofs.Printed.Trees.{value-json_tokens, ArePrintable-json_tokens}
use Rattle.json.proofs.Printed.Utf8.{IsUtf8-are_ascii, IsUtf8-quoted}
use Rattle.serde_json.specs.Data.{Data, unsigned, number, string, array, object, Items, no_items}
use Rattle.serde_json.specs.Data.{item, Members, no_members, member}
use Rattle.serde_json.specs.Read.{read, max_depth, of_json, of_items, of_members}
use Rattle.serde_json.specs.Written.{outline, items_outline, members_outline, compact_text}
use Rattle.serde_json.specs.Written.{items_text, members_text, comma_if}
use Rattle.serde_json.proofs.Numbers.{number_of-decimal}
use Rattle.serde_json.proofs.Texts.{print-outline}
use Rattle.mc_text.specs.Addr.{octets_of, dotted}
use Rattle.mc_text.proofs.AddrLemmas.{octets_of-below_256}
use Rattle.mc_topology.specs.Names.{is_name, is_name_byte}

-- ---- texts that JSON writes as they are

-- a byte of ASCII that is no control character, no quotation mark and no backslash
pub record IsPlain (b : ℕ) : Type 0 where
  pub from : 32 ≤ b
  pub to : b < 128
  pub no_quote : b ≡ 34 → ⊥
  pub no_backslash : b ≡ 92 → ⊥

-- JSON writes plain bytes as they are
pub escape-plain : (s : List ℕ) → All IsPlain s → escape s ≡ s
escape-plain [] all = refl
escape-plain (x ∷ s) all =
    let here = all zero 0 (omega arith) in
    ap₂ (λ a b. a ++ b) (escape_byte_plain x here.no_quote here.no_backslash here.from)
    (escape-plain s (λ k d lt. all (suc k) d (omega (arith, lt))))

-- plain bytes are UTF-8
pub IsUtf8-from_IsPlain : (s : List ℕ) → All IsPlain s → IsUtf8 s
IsUtf8-from_IsPlain s all = IsUtf8-from_ascii s (λ i. small i (cases_lt i (length s))) where
  small : (i : ℕ) → (i < length s) ⊎ (length s ≤ i) → get_or s i 0 < 128
  small i (inl lt) = (all i 0 lt).to
  small i (inr past) = rw (get_or_past s i 0 past) (omega arith)

-- letters, digits and the other bytes of names need no escape
IsPlain-from_is_name_byte : (b : ℕ) → is_name_byte b ≡ true → IsPlain b
IsPlain-from_is_name_byte b e =
    record {
      from = grind (arith, nat_tests);
      to = grind (arith, nat_tests);
      no_quote = λ q. let bad : is_name_byte 34 ≡ true =
          subst (λ (x : ℕ). is_name_byte x ≡ true) q e in absurd cc;
      no_backslash = λ q. let bad : is_name_byte 92 ≡ true =
          subst (λ (x : ℕ). is_name_byte x ≡ true) q e in absurd cc;
    }

-- so names need none
IsPlain-from_name_bytes : (s : List ℕ) → list_all is_name_byte s ≡ true → All IsPlain s
IsPlain-from_name_bytes [] e k d lt = absurd (omega (arith, lt))
IsPlain-from_name_bytes (x ∷ s) e zero d lt = IsPlain-from_is_name_byte x
    (and_parts (is_name_byte x) (list_all is_name_byte s) e).0
IsPlain-from_name_bytes (x ∷ s) e (suc k) d lt = IsPlain-from_name_bytes s
    (and_parts (is_name_byte x) (list_all is_name_byte s) e).1 k d (omega (arith, lt))

-- the name of a LAN or a router
pub IsPlain-from_is_name : (s : List ℕ) → is_name s ≡ true → All IsPlain s
unfolding is_name
IsPlain-from_is_name s e = IsPlain-from_name_bytes s (and_parts _ (list_all is_name_byte s) e).1

-- nor do the bytes of addresses
IsPlain-from_IsDigitOrDot : (b : ℕ) → IsDigitOrDot b → IsPlain b
IsPlain-from_IsDigitOrDot b (inl range) = record {
  from = omega (arith, range);
  to = omega (arith, range);
  no_quote = λ q. omega (arith, range);
  no_backslash = λ q. omega (arith, range);
}
IsPlain-from_IsDigitOrDot b (inr dot) = record {
  from = omega (arith, dot);
  to = omega (arith, dot);
  no_quote = λ q. omega (arith, dot);
  no_backslash = λ q. omega (arith, dot);
}

-- an address
pub IsPlain-dotted : (a : ℕ) → All IsPlain (dotted a)
IsPlain-dotted a k d lt =
    IsPlain-from_IsDigitOrDot _ (All-ipv4_text (octets_of a) (octets_of-below_256 a) k d lt)

-- ---- values

-- the value is read back from its text, and nests at most `n` deep
pub record IsReadBack (n : ℕ) (d : Data) : Type 0 where
  pub reads : of_json (outline d) ≡ Some d
  pub numbers : tree.HasNumbers (outline d)
  pub shallow : tree.depth (outline d) ≤ n
  pub utf8 : IsUtf8 (compact_text d)

-- a text of plain bytes is read back
pub IsReadBack-string : (n : ℕ) (s : List ℕ) → All IsPlain s → IsReadBack n (string s)
IsReadBack-string n s plain = record {
  reads = refl;
  numbers = tt;
  shallow = omega arith;
  utf8 =
      IsUtf8-quoted s (IsUtf8-from_IsPlain s plain);
}

-- a number of at most 64 bits is read back
pub IsReadBack-number : (n k : ℕ) → k < 2 ^ 64 → IsReadBack n (number (unsigned k))
IsReadBack-number n k small =
    record {
      reads = ap (option_map number) (number_of-decimal k small);
      numbers = IsNumber-decimal k small;
      shallow = omega arith;
      utf8 = IsUtf8-from_ascii (decimal k) (IsAscii-decimal k small);
    }

-- a comma, or nothing, is UTF-8
IsUtf8-comma_if : (later : Bool) → IsUtf8 (comma_if later)
IsUtf8-comma_if true = IsUtf8-are_ascii (44 ∷ []) refl
IsUtf8-comma_if false = IsUtf8-are_ascii [] refl

-- ---- lists

-- the values of a list are read back from their text, and nest at most `n` deep
pub record AreReadBack (n : ℕ) (ds : Items) : Type 0 where
  pub reads : of_items (items_outline ds) ≡ Some ds
  pub numbers : tree.ItemsHaveNumbers (items_outline ds)
  pub shallow : tree.items_depth (items_outline ds) ≤ n
  pub utf8 : (later : Bool) → IsUtf8 (items_text later ds)

-- a list of values that are read back is itself read back
pub IsReadBack-array : (n : ℕ) (ds : Items) → AreReadBack n ds → IsReadBack (suc n) (array ds)
IsReadBack-array n ds good =
    record {
      reads = ap (option_map array) good.reads;
      numbers = good.numbers;
      shallow = omega (arith, good.shallow);
      utf8 = IsUtf8-append (91 ∷ []) (items_text false ds) (IsUtf8-are_ascii (91 ∷ []) refl)
          (good.utf8 false);
    }

module _ {A : Type 0} (f : A → Data) where
  -- the values of a list
  abbrev pub items_from : List A → Items
  items_from [] = no_items
  items_from (x ∷ xs) = item (f x) (items_from xs)

  -- so it is where the value of each item of a list is read back
  pub AreReadBack-items_from : (n : ℕ) (xs : List A) → AllByRecursion (λ x. IsReadBack n (f x)) xs
      → AreReadBack n (items_from xs)
  AreReadBack-items_from n [] all = record {
    reads = refl;
    numbers = tt;
    shallow = omega arith;
    utf8 =
        λ later. IsUtf8-are_ascii (93 ∷ []) refl;
  }
  AreReadBack-items_from n (x ∷ xs) (here, all) =
      let rest = AreReadBack-items_from n xs all in
      record {
        reads = rw (here.reads, rest.reads) refl;
        numbers = (here.numbers, rest.numbers);
        shallow = omega (arith, here.shallow, rest.shallow);
        utf8 = λ later. IsUtf8-append (comma_if later) _ (IsUtf8-comma_if later)
            (IsUtf8-append (compact_text (f x)) _ here.utf8 (rest.utf8 true));
      }

-- ---- objects

-- the members of an object have numbers as JSON writes them, nest at most `n` deep, and are UTF-8
pub record HasReadBack (n : ℕ) (ms : Members) : Type 0 where
  pub numbers : tree.MembersHaveNumbers (members_outline ms)
  pub shallow : tree.members_depth (members_outline ms) ≤ n
  pub utf8 : (later : Bool) → IsUtf8 (members_text later ms)

-- so it is where there are no members
pub HasReadBack-none : (n : ℕ) → HasReadBack n no_members
HasReadBack-none n = record {
  numbers = tt;
  shallow = omega arith;
  utf8 =
      λ later. IsUtf8-are_ascii (125 ∷ []) refl;
}

-- and with one member more
pub HasReadBack-member : (n : ℕ) (k : List ℕ) (d : Data) (ms : Members) → IsUtf8 k → IsReadBack n d
    → HasReadBack n ms → HasReadBack n (member k d ms)
HasReadBack-member n k d ms key here rest =
    record {
      numbers = (here.numbers, rest.numbers);
      shallow = omega (arith, here.shallow, rest.shallow);
      utf8 = λ later.
          IsUtf8-append (comma_if later) _ (IsUtf8-comma_if later)
          (IsUtf8-append (quoted k) _ (IsUtf8-quoted k key)
          (IsUtf8-append (58 ∷ []) _ (IsUtf8-are_ascii (58 ∷ []) refl)
          (IsUtf8-append (compact_text d) _ here.utf8 (rest.utf8 true))));
    }

-- an object of such members, which is read from their outline, is read back
pub IsReadBack-object : (n : ℕ) (ms : Members) → of_members (members_outline ms) no_members ≡ Some ms
    → HasReadBack n ms → IsReadBack (suc n) (object ms)
IsReadBack-object n ms reads good =
    record {
      reads = ap (option_map object) reads;
      numbers = good.numbers;
      shallow = omega (arith, good.shallow);
      utf8 = IsUtf8-append (123 ∷ []) (members_text false ms) (IsUtf8-are_ascii (123 ∷ []) refl)
          (good.utf8 false);
    }

-- ---- the text as a whole

-- the value that JSON's tokens are read as, without what comes behind it
abbrev data_of_tokens : Option (json.Json × List Token) → Option Data
data_of_tokens o = option_and_then of_json (option_and_then (λ p. json.if_last p.0 p.1) o)

-- a value that is read back is read from its compact text
pub read-compact_text : (d : Data) → IsReadBack 127 d → read (compact_text d) ≡ Some d
read-compact_text d good =
    let same = ap tokens (sym (print-outline d))
    ∙ tokens-print (tree.json_tokens (outline d))
    (ArePrintable-json_tokens (outline d) good.numbers) in
    ap data_of_tokens (ap (json.value max_depth) (same ∙ sym (append-nil (tree.json_tokens (outline d))))
    ∙ value-json_tokens (outline d) max_depth [] good.shallow) ∙ good.reads
