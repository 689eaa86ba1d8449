-- What rows have for a want, row by row.
use Rattle.std.proofs.Common.{◌≡◌, ℕ, Bool, true, false, cond, not, List, [], ◌∷◌, ◌++◌, Result, Ok, Err}
use Rattle.std.proofs.Common.{refl, sym, ap, ap₂, ◌∙◌}
use Rattle.std.specs.Prelude.{◌==◌, ◌&&◌, ◌||◌}
use Rattle.std.specs.FinMap.{FinMap}
use Rattle.std.specs.List.{list_any}
use Rattle.std.specs.Ordering.{nat_cmp}
use Rattle.std.specs.Result.{is_ok, is_err}
use Rattle.mc_filter.specs.SourceFilter.{has}
use Rattle.mc_tables.specs.CacheTable.{RowValue}
use Rattle.mc_tables.specs.VifTable.{VifValue}
use Rattle.mc_asked.specs.declared.forwarding.RouterState.{RouterState}
use Rattle.mc_asked.specs.declared.forwarding.RouterState.TheVariants.{Nothing, EverySource, NoneOut}
use Rattle.mc_asked.specs.declared.forwarding.RouterState.TheVariants.{Forwards}
use Rattle.mc_asked.specs.Forwarding.{greater, is_counted, is_counted_source, is_for_every_source}
use Rattle.mc_asked.specs.Forwarding.{is_forwarded, router_state}
use Rattle.mc_asked.specs.ListWants.{Want}

-- a result is an error exactly if it is no success
pub is_err-not_ok : {T E : Type 0} (r : Result T E) → is_err r ≡ not (is_ok r)
is_err-not_ok (Ok x) = refl
is_err-not_ok (Err e) = refl

-- a source counts for a want of any, unless it is unadmitted
pub counted_any : (unadmitted : List ℕ) (want : Want) (origin : ℕ) → (want.1 == 0) ≡ true
    → not (has unadmitted origin) ≡ is_counted_source unadmitted want origin
counted_any unadmitted want origin any =
    sym (ap (λ (b : Bool). cond b (not (has unadmitted origin)) (origin == want.1)) any)

-- the state by what some row has
abbrev state_by : (forwards counts stars : Bool) → RouterState
state_by forwards counts stars = cond forwards Forwards (cond counts NoneOut (cond stars EverySource Nothing))

-- The greater one of two states is that of both, by each of the three tests.
state_by-or : (a b c x y z : Bool) → greater (state_by a b c) (state_by x y z)
    ≡ state_by (a || x) (b || y) (c || z)
state_by-or true b c x y z = refl
state_by-or false true c true y z = refl
state_by-or false true c false true z = refl
state_by-or false true c false false true = refl
state_by-or false true c false false false = refl
state_by-or false false true true y z = refl
state_by-or false false true false true z = refl
state_by-or false false true false false true = refl
state_by-or false false true false false false = refl
state_by-or false false false x y z = refl

-- some element of two lists passes if one of either does
list_any-append : {X : Type 0} (p : X → Bool) (xs ys : List X)
    → (list_any p xs || list_any p ys) ≡ list_any p (xs ++ ys)
list_any-append p [] ys = refl
list_any-append p (x ∷ xs) ys = or_first (p x) (list_any p xs) (list_any p ys)
    ∙ ap (λ (b : Bool). p x || b) (list_any-append p xs ys)
  where
    or_first : (a b c : Bool) → ((a || b) || c) ≡ (a || (b || c))
    or_first true b c = refl
    or_first false b c = refl

-- the state of rows and others is the greater one of both
pub router_state-append : (vifs : FinMap nat_cmp VifValue) (unadmitted : List ℕ) (want : Want)
    (rows others : List RowValue)
    → greater (router_state vifs unadmitted want rows) (router_state vifs unadmitted want others)
    ≡ router_state vifs unadmitted want (rows ++ others)
router_state-append vifs unadmitted want rows others =
    let forwards : RowValue → Bool = λ row. is_counted unadmitted want row && is_forwarded vifs row.entry in
    let counts : RowValue → Bool = is_counted unadmitted want in
    let stars : RowValue → Bool = is_for_every_source want in
    state_by-or (list_any forwards rows) (list_any counts rows) (list_any stars rows)
    (list_any forwards others) (list_any counts others) (list_any stars others)
    ∙ ap₂ (λ (a b : Bool). state_by a b (list_any stars rows || list_any stars others))
    (list_any-append forwards rows others) (list_any-append counts rows others)
    ∙ ap (state_by (list_any forwards (rows ++ others)) (list_any counts (rows ++ others)))
    (list_any-append stars rows others)
