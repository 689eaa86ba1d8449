-- The rules of a certificate hold of the tree of each flow.
use Rattle.std.proofs.Common.{◌≡◌, ℕ, ◌<◌, All, List, [], length, get_or, map, Option, Some, None}
use Rattle.std.proofs.Common.{refl, sym, ap, subst, ◌∙◌, arith}
use Rattle.std.specs.Prelude.{slice_get, unwrap_or}
use Rattle.std.proofs.lemmas.List.Elements.{All-map}
use Rattle.std.proofs.lemmas.Option.{get_or_from_slice_get, slice_get-get_or, slice_get_within}
use Rattle.std.proofs.lemmas.Option.{unwrap_or-slice_get}
use Rattle.mc_cert.specs.Certificate.{Tree, tree_at, trees_by_flow, IsWritableTree, IsValidCertificate}

-- what holds of all elements of a list holds of the one with a number
pub All-at_number : {X : Type 0} (P : X → Type 0) (xs : List X) (n : ℕ) (x : X) → All P xs
    → slice_get xs n ≡ Some x → P x
All-at_number P xs n x all e =
    subst P (get_or_from_slice_get xs n x x e) (all n x (slice_get_within xs n x e))

-- an element that exists is the same with any default
pub slice_get-unwrap_or : {X : Type 0} (xs : List X) (n : ℕ) (d : X) → n < length xs
    → slice_get xs n ≡ Some (unwrap_or (slice_get xs n) d)
slice_get-unwrap_or xs n d lt = slice_get-get_or xs n d lt ∙ ap Some (sym (unwrap_or-slice_get xs n d))

-- a text can have a tree without entries
IsWritableTree-none : IsWritableTree []
IsWritableTree-none = record { few = omega arith; each = λ k d lt. absurd (omega (arith, lt)) }

-- so it can have the tree at any number: one of these, or the empty one
IsWritableTree-unwrap_or : (trees : List Tree) (o : Option Tree) (n : ℕ) → slice_get trees n ≡ o
    → All IsWritableTree trees
    → IsWritableTree (unwrap_or o [])
IsWritableTree-unwrap_or trees None n e all = IsWritableTree-none
IsWritableTree-unwrap_or trees (Some es) n e all = All-at_number IsWritableTree trees n es all e

-- a text can have each flow's tree of a certificate in memory
pub IsWritableTree-from_valid : (trees : List Tree) (numbers : Option (List ℕ)) (n : ℕ) (es : Tree)
    → IsValidCertificate trees numbers → slice_get (trees_by_flow trees numbers) n ≡ Some es
    → IsWritableTree es
IsWritableTree-from_valid trees None n es kept e = All-at_number IsWritableTree trees n es kept.lists e
IsWritableTree-from_valid trees (Some ns) n es kept e =
    All-at_number IsWritableTree (map (tree_at trees) ns) n es
    (All-map IsWritableTree (tree_at trees) ns (λ k d lt.
    IsWritableTree-unwrap_or trees (slice_get trees (get_or ns k d)) (get_or ns k d) refl kept.lists)) e
