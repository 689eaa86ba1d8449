-- Texts that JSON writes as they are: the names of keys, and those of LANs and routers.
use Rattle.std.proofs.Common.{◌≡◌, ℕ, true, List, [], ◌∷◌, ◌++◌, Some, refl, sym, ap, subst, ◌∙◌, arith}
use Rattle.std.specs.List.{list_all}
use Rattle.std.specs.Cmp.Derive.{both_true}
use Rattle.std.proofs.lemmas.Bool.{and_parts}
use Rattle.std.proofs.lemmas.Bool.Decides.{nat_tests}
use Rattle.json.specs.Lex.{between, in_string, lex}
use Rattle.json.specs.Run.{is_plain}
use Rattle.json.specs.Text.{content, plain, prepend}
use Rattle.mc_topology.specs.Names.{is_name, is_name_byte}
use Rattle.mc_cert.specs.Keys.{key_name}
use Rattle.mc_cert.specs.declared.key.Key.{Key}
use Rattle.mc_cert.specs.declared.key.Key.TheVariants.{Flows, Group, Lan, Need, Rank, Reached, Router, Source}
use Rattle.mc_cert.specs.declared.key.Key.TheVariants.{Tree, Trees, Version, Vif}
use Rattle.mc_cert.proofs.JsonStringLemmas.{lex-plain, content-plain_byte}

-- Behind its opening quotation mark a text is a string of these bytes, after which `rest` comes.
pub record IsString (bytes text rest : List ℕ) : Type 0 where
  pub content : content plain text ≡ Some bytes
  pub lexemes : lex in_string text ≡ lex between rest

-- plain bytes before a quotation mark are a string of these bytes
IsString-plain : (bytes rest : List ℕ) → list_all is_plain bytes ≡ true
    → IsString bytes (bytes ++ 34 ∷ rest) rest
unfolding content lex
IsString-plain [] rest all = record { content = refl; lexemes = refl }
IsString-plain (x ∷ bytes) rest all =
    let both = and_parts (is_plain x) (list_all is_plain bytes) all in
    let others = IsString-plain bytes rest both.1 in
    record {
      content = content-plain_byte x (bytes ++ 34 ∷ rest) both.0 ∙ ap (prepend (x ∷ [])) others.content;
      lexemes = lex-plain x (bytes ++ 34 ∷ rest) both.0 ∙ others.lexemes;
    }

-- the names of keys are plain
is_plain-key_name : (key : Key) → list_all is_plain (key_name key) ≡ true
is_plain-key_name Flows = refl
is_plain-key_name Group = refl
is_plain-key_name Lan = refl
is_plain-key_name Need = refl
is_plain-key_name Rank = refl
is_plain-key_name Reached = refl
is_plain-key_name Router = refl
is_plain-key_name Source = refl
is_plain-key_name Tree = refl
is_plain-key_name Trees = refl
is_plain-key_name Version = refl
is_plain-key_name Vif = refl

-- a text that begins with a key's name and a quotation mark
pub IsString-key : (key : Key) (text rest : List ℕ) → text ≡ key_name key ++ 34 ∷ rest
    → IsString (key_name key) text rest
IsString-key key text rest is = subst (λ t. IsString (key_name key) t rest) (sym is)
    (IsString-plain (key_name key) rest (is_plain-key_name key))

-- a byte of a name is plain
is_plain-name_byte : (b : ℕ) → is_name_byte b ≡ true → is_plain b ≡ true
is_plain-name_byte b is = grind (arith, nat_tests)

-- so are the bytes of a name
is_plain-name_bytes : (bytes : List ℕ) → list_all is_name_byte bytes ≡ true → list_all is_plain bytes ≡ true
is_plain-name_bytes [] all = refl
is_plain-name_bytes (x ∷ bytes) all =
    let both = and_parts (is_name_byte x) (list_all is_name_byte bytes) all in
    both_true (is_plain-name_byte x both.0) (is_plain-name_bytes bytes both.1)

-- a text that begins with a name and a quotation mark
pub IsString-name : (name text rest : List ℕ) → is_name name ≡ true → text ≡ name ++ 34 ∷ rest
    → IsString name text rest
unfolding is_name
IsString-name name text rest named is = subst (λ t. IsString name t rest) (sym is)
    (IsString-plain name rest (is_plain-name_bytes name (and_parts _ (list_all is_name_byte name) named).1))
