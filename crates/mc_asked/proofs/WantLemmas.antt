-- The wants of a list, one after another.
use Rattle.std.proofs.Common.{◌≡◌, ℕ, ◌+◌, ◌<◌, Bool, true, false, cond, List, [], ◌∷◌, ◌++◌, length, map}
use Rattle.std.proofs.Common.{filter, take, get_or, not, refl, sym, ap, ap₂, ◌∙◌, arith}
use Rattle.std.specs.Prelude.{◌&&◌, ◌↔◌, ◌==◌, IsTrue, Contains}
use Rattle.std.specs.Bool.{Decides}
use Rattle.std.proofs.lemmas.List.{map-append, take_more}
use Rattle.std.proofs.lemmas.List.Elements.{filter-append}
use Rattle.mc_igmp.specs.declared.record.Record.{Record}
use Rattle.mc_text.specs.Addr.{is_forwarded_group}
use Rattle.mc_filter.specs.FilterBuilding.{has_exclude}
use Rattle.mc_filter.specs.SourceFilter.{has}
use Rattle.mc_filter.proofs.AscendingLemmas.{Decides-has}
use Rattle.mc_asked.specs.Indexes.{IsIndexOfExcludes, is_of_merged_filter_by}
use Rattle.mc_asked.specs.ListWants.{Want, is_of_merged_filter}

-- ---- one more element

-- the filter of one element more, by parts
filter-take : {X : Type 0} (p : X → Bool) (xs : List X) (i : ℕ) (x : X) → i < length xs → x ≡ get_or xs i x
    → filter p (take (i + 1) xs) ≡ filter p (take i xs) ++ filter p (x ∷ [])
filter-take {X} p xs i x within own =
    ap (filter p) (take_more xs i x within ∙ ap (λ (y : X). take i xs ++ y ∷ []) (sym own))
    ∙ filter-append p (take i xs) (x ∷ [])

-- the filter of one element more, by whether the element passes
pub filter-take_more : {X : Type 0} (p : X → Bool) (xs : List X) (i : ℕ) (x : X) (ys : List X) (b : Bool)
    → i < length xs → x ≡ get_or xs i x → b ≡ p x → ys ≡ filter p (take i xs)
    → ys ++ cond b (x ∷ []) [] ≡ filter p (take (i + 1) xs)
filter-take_more {X} p xs i x ys b within own is before =
    ap₂ (λ (zs : List X) (t : Bool). zs ++ cond t (x ∷ []) []) before is
    ∙ sym (filter-take p xs i x within own)

-- an element that may be missing, changed
map-cond : {X Y : Type 0} (f : X → Y) (b : Bool) (x : X)
    → cond b (f x ∷ []) [] ≡ map f (cond b (x ∷ []) [])
map-cond f true x = refl
map-cond f false x = refl

-- the same with each kept element changed
pub map_filter-take_more : {X Y : Type 0} (f : X → Y) (p : X → Bool) (xs : List X) (i : ℕ) (x : X)
    (ys : List Y) (b : Bool) → i < length xs → x ≡ get_or xs i x → b ≡ p x
    → ys ≡ map f (filter p (take i xs))
    → ys ++ cond b (f x ∷ []) [] ≡ map f (filter p (take (i + 1) xs))
map_filter-take_more {X} {Y} f p xs i x ys b within own is before =
    ap₂ (λ (zs : List Y) (t : Bool). zs ++ cond t (f x ∷ []) []) before is
    ∙ ap (λ (l : List Y). map f (filter p (take i xs)) ++ l) (map-cond f (p x) x)
    ∙ sym (map-append f (filter p (take i xs)) (filter p (x ∷ [])))
    ∙ ap (map f) (sym (filter-take p xs i x within own))

-- ---- the merged filter

-- two tests of one fact are equal
equal_to_decided : (a b : Bool) (P : Type 0) → Decides a P → (P ↔ IsTrue b) → a ≡ b
equal_to_decided a b P decided is = grind arith

-- the same wants are kept by the index of groups
pub is_of_merged_filter-by_index : (records : List Record) (excluded : List ℕ)
    → IsIndexOfExcludes records excluded → (want : Want)
    → is_of_merged_filter_by excluded want ≡ is_of_merged_filter records want
is_of_merged_filter-by_index records excluded index want =
    ap (λ (b : Bool). is_forwarded_group want.0 && not (not (want.1 == 0) && b))
    (equal_to_decided (has excluded want.0) (has_exclude records want.0) (Contains excluded want.0)
    (Decides-has excluded want.0) (index want.0))

-- equal tests filter alike
pub filter-equal_tests : {X : Type 0} (p q : X → Bool) (xs : List X) → ((x : X) → p x ≡ q x)
    → filter p xs ≡ filter q xs
filter-equal_tests p q [] same = refl
filter-equal_tests {X} p q (x ∷ xs) same =
    ap₂ (λ (b : Bool) (ys : List X). cond b (x ∷ ys) ys) (same x) (filter-equal_tests p q xs same)
