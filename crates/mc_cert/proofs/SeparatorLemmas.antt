-- Texts with commas between them, which a loop reads one by one.
use Rattle.std.proofs.Common.{◌≡◌, ℕ, All, List, [], ◌∷◌, ◌++◌, length, map, codes, Some, refl, sym}
use Rattle.std.proofs.Common.{ap, ap₂, subst, ◌∙◌, append_assoc, append-nil}
use Rattle.std.specs.Prelude.{slice_get}
use Rattle.std.specs.List.{zip}
use Rattle.std.proofs.lemmas.List.{map_push}
use Rattle.std.proofs.lemmas.List.Elements.{All-push}
use Rattle.mc_topology.specs.declared.flow.Flow.{Flow}
use Rattle.mc_cert.specs.CertificateText.{listed_after, listed, flow_text, flow_texts}

-- ---- the separator

-- the separator before the next item: this text before the first one, and a comma before each other
abbrev separator_after : {A : Type 0} → List ℕ → List A → List ℕ
separator_after first [] = first
separator_after first (x ∷ xs) = codes ","

-- the separator before the next item, with nothing before the first one
abbrev pub separator_of : {A : Type 0} → List A → List ℕ
separator_of [] = []
separator_of (x ∷ xs) = codes ","

-- after an item the separator is a comma
separator_of-push : {A : Type 0} (xs : List A) (x : A) → separator_of (xs ++ x ∷ []) ≡ codes ","
separator_of-push [] x = refl
separator_of-push (y ∷ xs) x = refl

-- with a comma before the first item, there is one before each
separator_after-comma : {A : Type 0} (xs : List A) → separator_after (codes ",") xs ≡ codes ","
separator_after-comma [] = refl
separator_after-comma (x ∷ xs) = refl

-- the separator depends on whether there are items, and not on their texts
separator_of-map : {A : Type 0} (f : A → List ℕ) (xs : List A)
    → separator_after [] (map f xs) ≡ separator_of xs
separator_of-map f [] = refl
separator_of-map f (x ∷ xs) = refl

-- ---- the next item

-- the text of items and an added one is theirs, the separator, and that of the added one
listed_after-push : (first : List ℕ) (xs : List (List ℕ)) (x : List ℕ)
    → listed_after first (xs ++ x ∷ []) ≡ listed_after first xs ++ (separator_after first xs ++ x)
listed_after-push first [] x = append-nil (first ++ x)
listed_after-push first (y ∷ ys) x =
    ap (λ later. (first ++ y) ++ later) (listed_after-push (codes ",") ys x
    ∙ ap (λ c. listed_after (codes ",") ys ++ (c ++ x)) (separator_after-comma ys))
    ∙ sym (append_assoc (first ++ y) (listed_after (codes ",") ys) (codes "," ++ x))

module _ {A : Type 0} (f : A → List ℕ) where
  -- the next item of a list is read
  pub listed-push : (s before after later separator : List ℕ) (xs new : List A) (x : A)
      → new ≡ xs ++ x ∷ [] → s ≡ listed (map f xs) ++ before → before ≡ separator ++ after
      → after ≡ f x ++ later → separator ≡ separator_of xs → s ≡ listed (map f new) ++ later
  listed-push s before after later separator xs new x made e cut piece is =
      let all = listed (map f xs) in
      e ∙ ap (λ r. all ++ r) (cut ∙ ap₂ (λ c r. c ++ r) is piece
      ∙ sym (append_assoc (separator_of xs) (f x) later))
      ∙ sym (append_assoc all (separator_of xs ++ f x) later)
      ∙ ap (λ l. l ++ later)
      (ap (λ c. all ++ (c ++ f x)) (sym (separator_of-map f xs))
      ∙ sym (listed_after-push [] (map f xs) (f x))
      ∙ ap listed (sym (map_push f xs x) ∙ ap (map f) (sym made)))

-- after it the separator is a comma
pub separator_of-comma_next : {A : Type 0} (xs new : List A) (x : A) → new ≡ xs ++ x ∷ []
    → codes "," ≡ separator_of new
separator_of-comma_next {A} xs new x made =
    sym (separator_of-push xs x) ∙ ap (λ (l : List A). separator_of l) (sym made)

-- what holds of the items and of the added one holds of all
pub All-next : {A : Type 0} (P : A → Type 0) (xs new : List A) (x : A) → new ≡ xs ++ x ∷ []
    → All P xs → P x → All P new
All-next {A} P xs new x made all here =
    subst (λ (l : List A). All P l) (sym made) (All-push P xs x all here)

-- the images of the items and of the added one
pub map-next : {A B : Type 0} (g : A → B) (xs new : List A) (x : A) → new ≡ xs ++ x ∷ []
    → map g new ≡ map g xs ++ g x ∷ []
map-next g xs new x made = ap (map g) made ∙ map_push g xs x

-- ---- flows, each with the number of its tree

-- paired with no items there are no pairs
zip-none : {A : Type 0} (B : Type 0) (xs : List A) → let none : List B = [] in zip xs none ≡ []
zip-none B [] = refl
zip-none B (x ∷ xs) = refl

-- an added item is paired with the one at its number
zip-push : {A : Type 0} {B : Type 0} (xs : List A) (ys : List B) (x : A) (y : B)
    → slice_get xs (length ys) ≡ Some x → zip xs (ys ++ y ∷ []) ≡ zip xs ys ++ (x, y) ∷ []
zip-push [] ys x y e = absurd cc
zip-push (z ∷ xs) [] x y e =
    let same : z ≡ x = cc in
    ap₂ (λ w l. (w, y) ∷ l) same (zip-none _ xs)
zip-push (z ∷ xs) (w ∷ ys) x y e = ap (λ l. (z, w) ∷ l) (zip-push xs ys x y e)

-- before the first flow nothing is read, and there is no separator
pub flow_texts-none : (flows : List Flow) (s : List ℕ) → s ≡ listed (flow_texts flows []) ++ s
flow_texts-none [] s = refl
flow_texts-none (f ∷ flows) s = refl

-- before the first flow there is no separator
pub separator_of-none : (flows : List Flow) → let none : List ℕ = [] in
    [] ≡ separator_of (zip flows none)
separator_of-none [] = refl
separator_of-none (f ∷ flows) = refl

-- the next flow is read, with the number of its tree, and then the separator is a comma
pub flow_texts-push : (s before after later separator : List ℕ) (flows : List Flow)
    (tree_numbers new : List ℕ) (f : Flow) (tree_no n : ℕ) → n ≡ length tree_numbers
    → slice_get flows n ≡ Some f → new ≡ tree_numbers ++ tree_no ∷ []
    → s ≡ listed (flow_texts flows tree_numbers) ++ before → before ≡ separator ++ after
    → after ≡ flow_text f tree_no ++ later → separator ≡ separator_of (zip flows tree_numbers)
    → (s ≡ listed (flow_texts flows new) ++ later) × (codes "," ≡ separator_of (zip flows new))
flow_texts-push s before after later separator flows tree_numbers new f tree_no n long here made e cut piece
    is =
    let there : slice_get flows (length tree_numbers) ≡ Some f =
    ap (slice_get flows) (sym long) ∙ here in
    let grown : zip flows new ≡ zip flows tree_numbers ++ (f, tree_no) ∷ [] =
    ap (λ (l : List ℕ). zip flows l) made ∙ zip-push flows tree_numbers f tree_no there in (
      listed-push (λ (p : Flow × ℕ). flow_text p.0 p.1) s before after later separator
          (zip flows tree_numbers) (zip flows new) (f, tree_no) grown e cut piece is,
      separator_of-comma_next (zip flows tree_numbers) (zip flows new) (f, tree_no) grown,
    )
