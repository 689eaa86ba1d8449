-- The vector of first copies, filled copy by copy.
use Rattle.std.proofs.Common.{◌≡◌, ℕ, ◌+◌, ◌-◌, ◌<◌, ◌≤◌, Bool, true, false, cond}
use Rattle.std.proofs.Common.{List, [], ◌∷◌, ◌++◌, length, take, drop, get_or}
use Rattle.std.proofs.Common.{Option, Some, None, is_some, refl, ap, sym, subst, ◌∙◌, arith}
use Rattle.std.proofs.Common.{append-nil}
use Rattle.std.specs.Prelude.{slice_set, not, IsTrue, IsFalse, IsSome}
use Rattle.std.proofs.lemmas.List.{append_assoc, length-drop, get_or-drop, take_all, drop_all, take_rest}
use Rattle.std.proofs.lemmas.List.{take_more, drop_more, take-append-drop}
use Rattle.mc_theory.specs.Flights.{Copy}
use Rattle.mc_theory.specs.Findings.{first_copy_on, first_double}
use Rattle.mc_forward.specs.PerLan.{item_on_lan, HoldsFirstOfEachKey}
use Rattle.mc_forward.proofs.PerLanLemmas.{first_with_key-first_copy_on, holds_first-more, length-after_put}

-- ---- the first second copy, with more copies

-- the earlier one, or else the later one
abbrev pub first_some : {A : Type 0} → Option A → Option A → Option A
first_some None y = y
first_some (Some x) y = Some x

-- the first double copy of two lists is that of the first one, or else that of the second, after the first
pub double-append : (earlier xs ys : List Copy) → first_double earlier (xs ++ ys)
    ≡ first_some (first_double earlier xs) (first_double (earlier ++ xs) ys)
double-append earlier [] ys = ap (λ es. first_double es ys) (sym (append-nil earlier))
double-append earlier (x ∷ xs) ys = by (is_some (first_copy_on earlier x.lan))
    (double-append (earlier ++ x ∷ []) xs ys)
  where
    by : (b : Bool) → first_double (earlier ++ x ∷ []) (xs ++ ys) ≡ first_some
        (first_double (earlier ++ x ∷ []) xs) (first_double ((earlier ++ x ∷ []) ++ xs) ys)
        → cond b (Some x) (first_double (earlier ++ x ∷ []) (xs ++ ys))
        ≡ first_some (cond b (Some x) (first_double (earlier ++ x ∷ []) xs))
        (first_double (earlier ++ x ∷ xs) ys)
    by true rest = refl
    by false rest = rest ∙ ap (λ es. first_some (first_double (earlier ++ x ∷ []) xs) (first_double es ys))
        (append_assoc earlier (x ∷ []) xs)

-- ---- copy by copy

-- the first second copy so far, and one copy more, which is a second one or isn't
abbrev pub second_copy_so_far : Option Copy → Bool → Copy → Option Copy
second_copy_so_far (Some d) is_second_copy c = Some d
second_copy_so_far None true c = Some c
second_copy_so_far None false c = None

-- where none was found before, a second copy is the first one
pub second_copy_so_far-found_now : (o : Option Copy) (is_second_copy : Bool) (c : Copy)
    → is_second_copy ≡ true → is_some o ≡ false
    → second_copy_so_far o is_second_copy c ≡ Some c
second_copy_so_far-found_now None true c e none = refl
second_copy_so_far-found_now None false c e none = absurd cc
second_copy_so_far-found_now (Some d) is_second_copy c e none = absurd cc

-- one that was found before stays the first
pub second_copy_so_far-found_before : (o : Option Copy) (is_second_copy : Bool) (c : Copy) → is_some o ≡ true
    → second_copy_so_far o is_second_copy c ≡ o
second_copy_so_far-found_before None is_second_copy c some = absurd cc
second_copy_so_far-found_before (Some d) is_second_copy c some = refl

-- a copy that is no second one changes nothing
pub second_copy_so_far-first_on_lan : (o : Option Copy) (is_second_copy : Bool) (c : Copy)
    → is_second_copy ≡ false
    → second_copy_so_far o is_second_copy c ≡ o
second_copy_so_far-first_on_lan None true c e = absurd cc
second_copy_so_far-first_on_lan None false c e = refl
second_copy_so_far-first_on_lan (Some d) is_second_copy c e = refl

-- the first k copies are stored, and this is the first second copy among them
pub record FirstCopiesSoFar (firsts old : List (Option Copy)) (cs : List Copy) (k : ℕ)
    (found : Option Copy) : Type 0 where
  pub count : length firsts ≡ length old
  pub filled : HoldsFirstOfEachKey (λ (c : Copy). c.lan) firsts (take k cs)
  pub second : first_some found (first_double (take k cs) (drop k cs)) ≡ first_double [] cs

-- before the copies after the first k are looked at, no second copy is found, where the first k are on as
-- many LANs
pub first_copies_so_far-none : (firsts : List (Option Copy)) (cs : List Copy) (k : ℕ)
    → HoldsFirstOfEachKey (λ (c : Copy). c.lan) firsts (take k cs) → first_double [] (take k cs)
    ≡ None → FirstCopiesSoFar firsts firsts cs k None
first_copies_so_far-none firsts cs k filled once = record {
  count = refl;
  filled = filled;
  second = sym (ap (first_double []) (sym (take-append-drop k cs))
      ∙ (double-append [] (take k cs) (drop k cs)
      ∙ ap (λ o. first_some o (first_double (take k cs) (drop k cs))) once));
}

-- what is found with one copy more, and then among the rest, is what was to be found before
second_copy_so_far-more : (second : Option Copy) (earlier cs : List Copy) (c : Copy) (b : Bool)
    → is_some (first_copy_on earlier c.lan) ≡ b
    → first_some (second_copy_so_far second b c) (first_double (earlier ++ c ∷ []) cs)
    ≡ first_some second (first_double earlier (c ∷ cs))
second_copy_so_far-more (Some d) earlier cs c b q = refl
second_copy_so_far-more None earlier cs c true q =
    sym (ap (λ (x : Bool). cond x (Some c) (first_double (earlier ++ c ∷ []) cs)) q)
second_copy_so_far-more None earlier cs c false q =
    sym (ap (λ (x : Bool). cond x (Some c) (first_double (earlier ++ c ∷ []) cs)) q)

-- the copy is a second one, or isn't
is_second_copy : (o : Option Copy) (put : Bool) → (IsTrue put → o ≡ None) → (IsFalse put → IsSome o)
    → is_some o ≡ not put
is_second_copy o true free earlier = ap is_some (free refl)
is_second_copy o false free earlier = earlier refl

-- one copy more: it is put into its LAN's place where that is free, and is a second copy where it isn't
pub first_copies_so_far-more : (firsts firsts' old : List (Option Copy)) (cs : List Copy) (k : ℕ)
    (second second' : Option Copy) (c : Copy) (put : Bool)
    → FirstCopiesSoFar firsts old cs k second → k < length cs → c ≡ get_or cs k c → c.lan < length old
    → (IsTrue put → item_on_lan firsts c.lan ≡ None)
    → (IsTrue put → firsts' ≡ slice_set firsts c.lan (Some c))
    → (IsFalse put → IsSome (item_on_lan firsts c.lan)) → (IsFalse put → firsts' ≡ firsts)
    → second' ≡ second_copy_so_far second (not put) c → FirstCopiesSoFar firsts' old cs (k + 1) second'
first_copies_so_far-more firsts firsts' old cs k second second' c put t lt at within free is earlier
    kept found =
    let more : take (k + 1) cs ≡ take k cs ++ c ∷ [] = take_more cs k c lt
    ∙ ap (λ x. take k cs ++ x ∷ []) (sym at) in
    let rest : drop k cs ≡ c ∷ drop (k + 1) cs = drop_more cs k c lt
    ∙ ap (λ x. x ∷ drop (k + 1) cs) (sym at) in
    let within_now : c.lan < length firsts = omega (arith, t.count, within) in
    let has_copy_on_lan : is_some (first_copy_on (take k cs) c.lan) ≡ not put =
    ap is_some (sym (t.filled c.lan ∙ first_with_key-first_copy_on (take k cs) c.lan))
    ∙ is_second_copy (item_on_lan firsts c.lan) put free earlier in
    record {
      count = length-after_put firsts firsts' c.lan c put is kept ∙ t.count;
      filled = subst (HoldsFirstOfEachKey (λ (x : Copy). x.lan) firsts') (sym more)
          (holds_first-more (λ (x : Copy). x.lan) firsts firsts' (take k cs) c put within_now t.filled
          free is earlier kept);
      second = ap (λ xs. first_some second' (first_double xs (drop (k + 1) cs))) more
          ∙ (ap (λ o. first_some o (first_double (take k cs ++ c ∷ []) (drop (k + 1) cs))) found
          ∙ (second_copy_so_far-more second (take k cs) (drop (k + 1) cs) c (not put) has_copy_on_lan
          ∙ (ap (λ xs. first_some second (first_double (take k cs) xs)) (sym rest) ∙ t.second)));
    }

-- where nothing comes later, the earlier one is left
first_some-none : (o : Option Copy) → first_some o None ≡ o
first_some-none None = refl
first_some-none (Some c) = refl

-- after all copies, what was found is the first double copy
pub second_copy_so_far-all : (firsts old : List (Option Copy)) (cs : List Copy) (k : ℕ) (second : Option Copy)
    → FirstCopiesSoFar firsts old cs k second → length cs ≤ k → second ≡ first_double [] cs
second_copy_so_far-all firsts old cs k second t le = sym (first_some-none second)
    ∙ (ap (λ xs. first_some second (first_double (take k cs) xs)) (sym (drop_all k cs le)) ∙ t.second)

-- after all copies, each place holds the first copy on its LAN
pub first_copies_so_far-all : (firsts old : List (Option Copy)) (cs : List Copy) (k : ℕ)
    (second : Option Copy)
    → FirstCopiesSoFar firsts old cs k second → length cs ≤ k
    → HoldsFirstOfEachKey (λ (c : Copy). c.lan) firsts cs
first_copies_so_far-all firsts old cs k second t le = subst (HoldsFirstOfEachKey
    (λ (c : Copy). c.lan) firsts) (take_all k cs le) t.filled

-- ---- the copies from a place on

-- an item of those from place k on is one of all
pub get_or-take_drop : (cs : List Copy) (k i : ℕ) (c : Copy)
    → i < length (take (length cs - k) (drop k cs))
    → c ≡ get_or (take (length cs - k) (drop k cs)) i c
    → (k + i < length cs) × (c ≡ get_or cs (k + i) c)
get_or-take_drop cs k i c lt at = (
  (let e = ap length (take_rest cs k) in omega (arith, lt, e, length-drop k cs)),
  at ∙ (ap (λ (xs : List Copy). get_or xs i c) (take_rest cs k) ∙ get_or-drop k cs i c),
)

-- where at most i copies come after the first k, there are at most k + i
pub length-take_drop_end : (cs : List Copy) (k i : ℕ) → length (take (length cs - k) (drop k cs)) ≤ i
    → length cs ≤ k + i
length-take_drop_end cs k i le = let e = ap length (take_rest cs k) in omega
    (arith, le, e, length-drop k cs)
