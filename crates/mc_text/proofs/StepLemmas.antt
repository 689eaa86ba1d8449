-- Steps that succeeded, options with and without a value, and lists that are read in two parts.
use Rattle.std.proofs.Common.{◌≡◌, Bool, true, false, cond, List, [], ◌++◌, Option, Some, None, Result, Ok}
use Rattle.std.proofs.Common.{Err, refl, sym, append_assoc, arith}
use Rattle.std.specs.Prelude.{IfSome, IfOk, OnOk, OnErr}
use Rattle.std.specs.Option.{ok_or, is_some}
use Rattle.mc_text.specs.Steps.{◌>>=◌}

module _ {A E : Type 0} where
  -- equal `Ok`s have equal values
  pub ok_injective : (x y : A) → (let r : Result A E = Ok x in r) ≡ Ok y → x ≡ y
  ok_injective x y e = cc

  -- equal `Err`s have equal faults
  pub err_injective : {x y : E} → (let r : Result A E = Err x in r) ≡ Err y → x ≡ y
  err_injective e = cc

  -- if two steps gave a value, the first did
  pub bind_ok : {B : Type 0} (r : Result A E) (f : A → Result B E) (y : B) → (r >>= f) ≡ Ok y
      → (x : A) × (r ≡ Ok x) × (f x ≡ Ok y)
  bind_ok (Ok x) f y e = (x, refl, e)
  bind_ok (Err d) f y e = absurd cc

  -- a step may be replaced by one that gives the same for each value
  pub bind-same : {B : Type 0} (r : Result A E) (f g : A → Result B E) → ((x : A) → f x ≡ g x)
      → (r >>= f) ≡ (r >>= g)
  bind-same (Ok x) f g same = same x
  bind-same (Err e) f g same = refl

  -- if a test gave a value, it was passed
  pub if_ok : (b : Bool) (d : E) (x y : A) → cond b (Ok x) (Err d) ≡ Ok y → (b ≡ true) × (x ≡ y)
  if_ok b d x y e = grind arith

  -- if `ok_or` gave a value, the option had it
  pub ok_or_ok : (o : Option A) (d : E) (x : A) → ok_or o d ≡ Ok x → o ≡ Some x
  ok_or_ok None d x e = absurd cc
  ok_or_ok (Some y) d x e = cc

  -- what follows from a fact of an `Ok` holds of the `Ok`
  pub on_ok_map : {P Q : Type 0} (r : Result A E) → OnOk r P → (P → Q) → OnOk r Q
  on_ok_map (Ok x) there then = then there
  on_ok_map (Err e) there then = tt

  -- a fact that holds anyway holds of an `Err`
  pub OnErr-from : (r : Result A E) (P : Type 0) → P → OnErr r P
  OnErr-from r P holds = grind arith

  -- what follows from a fact of any value holds of the value of an `Ok`
  pub if_ok_map : (P Q : A → Type 0) (r : Result A E) → IfOk r P → ((x : A) → P x → Q x) → IfOk r Q
  if_ok_map P Q (Ok x) there then = then x there
  if_ok_map P Q (Err e) there then = tt

  -- the items that were read before those that are read
  abbrev pub with_front : List A → Result (List A) E → Result (List A) E
  with_front front read = read >>= λ rest. Ok (front ++ rest)

  -- no items before change nothing
  pub with_front-none : (read : Result (List A) E) → with_front [] read ≡ read
  with_front-none read = grind arith

  -- items before, in two parts
  pub with_front-more : (front more : List A) (read : Result (List A) E)
      → with_front front (with_front more read) ≡ with_front (front ++ more) read
  with_front-more front more read = grind (arith, append_assoc)

module _ {A : Type 0} where
  -- an option without a value is `None`
  pub None-from_is_some_false : (o : Option A) → is_some o ≡ false → o ≡ None
  None-from_is_some_false None e = refl
  None-from_is_some_false (Some x) e = absurd cc

  -- a result of which P and Q hold, and which is given wherever they do, equals the function's value,
  -- if that is the one value of which they hold
  pub answer_is_value : (P Q : A → Type 0) (answer value : Option A) → IfSome answer P → IfSome answer Q
      → ((x : A) → P x → Q x → answer ≡ Some x) → ((x : A) → value ≡ Some x → P x × Q x)
      → ((x : A) → P x → Q x → value ≡ Some x) → answer ≡ value
  answer_is_value P Q (Some x) value p q only found again = sym (again x p q)
  answer_is_value P Q None None p q only found again = refl
  answer_is_value P Q None (Some x) p q only found again =
      let holds = found x refl in only x holds.0 holds.1
