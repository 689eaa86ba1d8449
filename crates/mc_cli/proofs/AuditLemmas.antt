-- Whether words are names of routers, each once, by the first of them and the rest.
use Rattle.std.proofs.Common.{◌≡◌, ℕ, ◌+◌, ◌<◌, ◌&&◌, true, false, not, List, length, drop, map}
use Rattle.std.proofs.Common.{get_or, ap, ap₂, sym, subst, ◌∙◌, take, ◌++◌, ◌∷◌, []}
use Rattle.std.proofs.lemmas.List.{at_drop_more, get_or-map, length-map, map_more, map_push}
use Rattle.mc_text.specs.GroupRange.{range_text}
use Rattle.mc_topology.specs.Names.{is_name}
use Rattle.mc_cli.specs.AuditWords.{are_distinct, are_distinct_router_names}
use Rattle.mc_cli.specs.GivenWords.{is_among}

-- the words from a place on aren't where the first is no name,
pub are_distinct_router_names-not_a_name : {X : Type 0} (f : X → List ℕ) (xs : List X) (i : ℕ) (d : X)
    → i < length xs
    → is_name (f (get_or xs i d)) ≡ false → are_distinct_router_names (map f (drop i xs)) ≡ false
unfolding are_distinct_router_names
are_distinct_router_names-not_a_name f xs i d lt refused =
    let after = map f (drop (i + 1) xs) in
    at_drop_more (λ rest. are_distinct_router_names (map f rest)) xs i d lt
    ∙ ap (λ named. (named && not (is_among (f (get_or xs i d)) after)) && are_distinct_router_names after)
    refused

-- nor where the first is repeated after itself,
pub are_distinct_router_names-repeated : {X : Type 0} (f : X → List ℕ) (xs after : List X) (i : ℕ) (d : X)
    → i < length xs
    → is_name (f (get_or xs i d)) ≡ true → after ≡ drop (i + 1) xs
    → is_among (f (get_or xs i d)) (map f after) ≡ true
    → are_distinct_router_names (map f (drop i xs)) ≡ false
unfolding are_distinct_router_names
are_distinct_router_names-repeated f xs after i d lt name tail again =
    let rest = map f (drop (i + 1) xs) in
    at_drop_more (λ rest. are_distinct_router_names (map f rest)) xs i d lt
    ∙ ap (λ named. (named && not (is_among (f (get_or xs i d)) rest)) && are_distinct_router_names rest) name
    ∙ ap (λ twice. (true && not twice) && are_distinct_router_names rest) (rw tail at again)

-- and else they are where the rest are
pub are_distinct_router_names-more : {X : Type 0} (f : X → List ℕ) (xs after : List X) (i : ℕ) (d : X)
    → i < length xs
    → is_name (f (get_or xs i d)) ≡ true → after ≡ drop (i + 1) xs
    → is_among (f (get_or xs i d)) (map f after) ≡ false
    → are_distinct_router_names (map f (drop i xs)) ≡ are_distinct_router_names (map f (drop (i + 1) xs))
unfolding are_distinct_router_names
are_distinct_router_names-more f xs after i d lt name tail once =
    let rest = map f (drop (i + 1) xs) in
    at_drop_more (λ rest. are_distinct_router_names (map f rest)) xs i d lt
    ∙ ap (λ named. (named && not (is_among (f (get_or xs i d)) rest)) && are_distinct_router_names rest) name
    ∙ ap (λ twice. (true && not twice) && are_distinct_router_names rest) (rw tail at once)

-- words from a place on aren't distinct where the first is repeated after itself,
pub are_distinct-repeated : {X : Type 0} (f : X → List ℕ) (xs after : List X) (i : ℕ) (d : X) → i < length xs
    → after ≡ drop (i + 1) xs → is_among (f (get_or xs i d)) (map f after) ≡ true
    → are_distinct (map f (drop i xs)) ≡ false
are_distinct-repeated f xs after i d lt tail again =
    let rest = map f (drop (i + 1) xs) in
    at_drop_more (λ rest. are_distinct (map f rest)) xs i d lt
    ∙ ap (λ twice. not twice && are_distinct rest) (rw tail at again)

-- and else they are where the rest are
pub are_distinct-more : {X : Type 0} (f : X → List ℕ) (xs after : List X) (i : ℕ) (d : X) → i < length xs
    → after ≡ drop (i + 1) xs → is_among (f (get_or xs i d)) (map f after) ≡ false
    → are_distinct (map f (drop i xs)) ≡ are_distinct (map f (drop (i + 1) xs))
are_distinct-more f xs after i d lt tail once =
    let rest = map f (drop (i + 1) xs) in
    at_drop_more (λ rest. are_distinct (map f rest)) xs i d lt
    ∙ ap (λ twice. not twice && are_distinct rest) (rw tail at once)

-- ---- ranges

-- texts that are those of ranges, one by one
pub text-of_range : {X : Type 0} (f : X → List ℕ) (xs : List X) (ranges : List (ℕ × ℕ)) (i : ℕ) (d : X)
    → map f xs ≡ map range_text ranges → i < length xs
    → f (get_or xs i d) ≡ range_text (get_or ranges i (0, 0))
text-of_range f xs ranges i d written within =
    let size : length xs ≡ length ranges =
    sym (length-map xs f) ∙ ap length written ∙ length-map ranges range_text in
    sym (get_or-map f xs i d [] within) ∙ ap (λ ts. get_or ts i []) written
    ∙ get_or-map range_text ranges i (0, 0) [] (subst (λ n. i < n) size within)

-- there are as many ranges as words
pub range-within : {X : Type 0} (f : X → List ℕ) (xs : List X) (ranges : List (ℕ × ℕ)) (i : ℕ)
    → map f xs ≡ map range_text ranges → i < length xs → i < length ranges
range-within f xs ranges i written within =
    subst (λ n. i < n) (sym (length-map xs f) ∙ ap length written ∙ length-map ranges range_text) within

-- and one more
pub texts-one_more : {X : Type 0} (f : X → List ℕ) (xs : List X) (ranges more : List (ℕ × ℕ)) (range : ℕ × ℕ)
    (i : ℕ) (d : X) → map f (take i xs) ≡ map range_text ranges → i < length xs
    → f (get_or xs i d) ≡ range_text range → more ≡ ranges ++ range ∷ []
    → map f (take (i + 1) xs) ≡ map range_text more
texts-one_more f xs ranges more range i d so_far within is all =
    map_more f xs i d within ∙ ap₂ (λ (ts : List (List ℕ)) (t : List ℕ). ts ++ t ∷ []) so_far is
    ∙ sym (map_push range_text ranges range) ∙ ap (map range_text) (sym all)
