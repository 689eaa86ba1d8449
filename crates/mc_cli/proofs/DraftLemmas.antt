-- What words give, by the first of them and the rest.
use Rattle.std.proofs.Common.{◌≡◌, ◌≢◌, ◌∙◌, ℕ, ◌+◌, ◌<◌, ◌≤◌, true, false, List, ◌++◌, length, drop}
use Rattle.std.proofs.Common.{take, map, get_or, ap, sym, refl, Bool, Option, Some, None, codes, cond}
use Rattle.std.specs.Borrow.{Bor}
use Rattle.std.specs.Bool.{then_some}
use Rattle.std.specs.Option.{option_map}
use Rattle.std.specs.Prelude.{MatchOption}
use Rattle.std.specs.Str.{bytes_eq}
use Rattle.std.specs.Str.Pattern.{FindsTextPrefix, StripsPrefix}
use Rattle.std.proofs.lemmas.List.{at_drop_all, at_drop_more, take-append-drop}
use Rattle.std.proofs.lemmas.Slice.Eq.{bytes_eq-Decides}
use Rattle.mc_cli.specs.GivenWords.{Given, router_after_equals}
use Rattle.mc_cli.specs.GivenWords.{with_word, with_words}

-- the words from a place on give what the first gives and then the rest,
pub with_words-more : {X : Type 0} (f : X → List ℕ) (xs : List X) (i : ℕ) (d : X) (given : Given)
    (next : Option Given) → i < length xs → with_word given.next_word (f (get_or xs i d)) given ≡ next
    → with_words (Some given) (map f (drop i xs)) ≡ with_words next (map f (drop (i + 1) xs))
unfolding with_words
with_words-more f xs i d given next lt is =
    at_drop_more (λ rest. with_words (Some given) (map f rest)) xs i d lt
    ∙ ap (λ given. with_words given (map f (drop (i + 1) xs))) is

-- nothing where a word before them isn't valid,
pub with_words-None : (words : List (List ℕ)) → with_words None words ≡ None
unfolding with_words
with_words-None words = refl

-- and what was given at the end.
pub with_words-all : {X : Type 0} (f : X → List ℕ) (xs : List X) (i : ℕ) (given : Given) → length xs ≤ i
    → with_words (Some given) (map f (drop i xs)) ≡ Some given
unfolding with_words
with_words-all f xs i given le = at_drop_all (λ rest. with_words (Some given) (map f rest)) xs i le

-- the word `--without=`
abbrev without_equals_text : List ℕ
without_equals_text = codes "--without="

-- the router is what comes behind the ten bytes of the prefix, where the test finds it
router_after_equals-cond : (word : List ℕ) (test : Bool) → bytes_eq (take 10 word) without_equals_text ≡ test
    → cond test (Some (drop 10 word)) None ≡ router_after_equals word
router_after_equals-cond word test is = ap (λ test. cond test (Some (drop 10 word)) None) (sym is)

-- a word that doesn't begin with the prefix fails the test
router_after_equals-no_prefix : (word : List ℕ) (test : Bool)
    → bytes_eq (take 10 word) without_equals_text ≡ test
    → ((rest : List ℕ) → word ≢ without_equals_text ++ rest) → None ≡ cond test (Some (drop 10 word)) None
router_after_equals-no_prefix word false is lacks = refl
router_after_equals-no_prefix word true is lacks =
    let front = (bytes_eq-Decides (take 10 word) without_equals_text).0 is in
    absurd (lacks (drop 10 word) (sym (take-append-drop 10 word) ∙ ap (λ front. front ++ drop 10 word) front))

-- what follows `--without=` is the router
pub router_after_equals-strip_prefix : (read : Option (Bor (List ℕ))) (word : List ℕ)
    → MatchOption read (FindsTextPrefix without_equals_text word None)
    (λ rest. StripsPrefix (FindsTextPrefix without_equals_text) word rest.now)
    → option_map (λ router. router.now) read ≡ router_after_equals word
router_after_equals-strip_prefix None word lacks =
    router_after_equals-no_prefix word (bytes_eq (take 10 word) without_equals_text) refl lacks
    ∙ router_after_equals-cond word (bytes_eq (take 10 word) without_equals_text) refl
router_after_equals-strip_prefix (Some router) word strips =
    let whole = strips.1.1 in
    let after : strips.0 ≡ 10 = strips.1.0 in
    let test : bytes_eq (take 10 word) without_equals_text ≡ true =
    ap (λ w. bytes_eq (take 10 w) without_equals_text) whole in
    ap Some (strips.2 ∙ ap (λ n. drop n word) after)
    ∙ router_after_equals-cond word true test

-- what is given by whether the next word is valid
pub Some-from_IsNextGiven : (right : Bool) (next : Option Given) (given : Given) → right ≡ true
    → next ≡ then_some right given
    → next ≡ Some given
Some-from_IsNextGiven right next given is says = says ∙ ap (λ right. then_some right given) is

-- a word that isn't valid gives nothing
pub None-from_IsNextGiven : (right : Bool) (next : Option Given) (given : Given) → right ≡ false
    → next ≡ then_some right given
    → next ≡ None
None-from_IsNextGiven right next given is says = says ∙ ap (λ right. then_some right given) is
