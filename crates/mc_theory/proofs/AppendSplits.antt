-- Two splits of a list at an element: they are one, or the first comes after the second, or before.
use Rattle.std.proofs.Common.{◌≡◌, ◌⊎◌, inl, inr, List, [], ◌∷◌, ◌++◌, refl, ap, sym, ap₂}

abbrev pub AppendSplitCases : {A : Type 0} → List A → A → List A → List A → A → List A → Type 0
AppendSplitCases {A} ws x xs vs y ys =
    ((ws ≡ vs) × (x ≡ y) × (xs ≡ ys))
    ⊎ (((zs : List A) × (ws ≡ vs ++ y ∷ zs) × (ys ≡ zs ++ x ∷ xs))
    ⊎ ((zs : List A) × (vs ≡ ws ++ x ∷ zs) × (xs ≡ zs ++ y ∷ ys)))

pub append_split-cases : {A : Type 0} (ws : List A) (x : A) (xs vs : List A) (y : A) (ys : List A) →
    ws ++ x ∷ xs ≡ vs ++ y ∷ ys → AppendSplitCases ws x xs vs y ys
append_split-cases [] x xs [] y ys e = inl (refl, cc, cc)
append_split-cases [] x xs (v ∷ vs) y ys e =
    let head : v ≡ x = cc in
    let tail : xs ≡ vs ++ y ∷ ys = cc in
    inr (inr (vs, ap (λ z. z ∷ vs) head, tail))
append_split-cases (w ∷ ws) x xs [] y ys e =
    let head : w ≡ y = cc in
    let tail : ys ≡ ws ++ x ∷ xs = cc in
    inr (inl (ws, ap (λ z. z ∷ ws) head, tail))
append_split-cases (w ∷ ws) x xs (v ∷ vs) y ys e =
    let head : w ≡ v = cc in
    let tail : ws ++ x ∷ xs ≡ vs ++ y ∷ ys = cc in
    elim (append_split-cases ws x xs vs y ys tail) [
      | inl q ↦ inl (ap₂ (λ z zs. z ∷ zs) head q.0, q.1, q.2)
      | inr (inl q) ↦ inr (inl (q.0, ap₂ (λ z zs. z ∷ zs) head q.1, q.2))
      | inr (inr q) ↦ inr (inr (q.0, ap₂ (λ z zs. z ∷ zs) (sym head) q.1, q.2))
    ]
