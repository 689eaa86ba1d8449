-- Texts that are written piece by piece.
use Rattle.std.proofs.Common.{◌≡◌, ℕ, ◌+◌, ◌<◌, List, ◌∷◌, ◌++◌, length, get_or, drop, map, codes}
use Rattle.std.proofs.Common.{Some, sym, ap, ◌∙◌, append_assoc}
use Rattle.std.specs.Prelude.{slice_get}
use Rattle.std.proofs.lemmas.List.{drop_more}
use Rattle.std.proofs.lemmas.Option.{get_or_from_slice_get, slice_get_within}
use Rattle.mc_topology.specs.declared.flow.Flow.{Flow}
use Rattle.mc_cert.specs.CertificateText.{listed_after, flow_text, flow_texts}

-- the next text is written after its separator
listed_after-text_more : (separator before written now s : List ℕ) (rest : List (List ℕ))
    → now ≡ (before ++ separator) ++ s → before ++ listed_after separator (s ∷ rest) ≡ written
    → now ++ listed_after (codes ",") rest ≡ written
listed_after-text_more separator before written now s rest e so_far =
    let later = listed_after (codes ",") rest in
    ap (λ t. t ++ later) e ∙ append_assoc (before ++ separator) s later
    ∙ append_assoc before separator (s ++ later)
    ∙ ap (λ t. before ++ t) (sym (append_assoc separator s later)) ∙ so_far

module _ {A : Type 0} (text_of : A → List ℕ) where
  -- the next item of a list
  pub listed_after-more : (separator before written now : List ℕ) (items : List A) (i : ℕ) (item : A)
      → i < length items → item ≡ get_or items i item
      → now ≡ (before ++ separator) ++ text_of item
      → before ++ listed_after separator (map text_of (drop i items)) ≡ written
      → now ++ listed_after (codes ",") (map text_of (drop (i + 1) items)) ≡ written
  listed_after-more separator before written now items i item lt is e so_far =
      listed_after-text_more separator before written now (text_of item) (map text_of (drop (i + 1) items)) e
      (rw (drop_more items i item lt, ← is) at so_far)

-- the next flow, with the number of its tree
pub flow_texts-more : (separator before written now : List ℕ) (flows : List Flow) (tree_numbers : List ℕ)
    (i : ℕ) (f : Flow) → slice_get flows i ≡ Some f → i < length tree_numbers
    → now ≡ (before ++ separator) ++ flow_text f (get_or tree_numbers i 0)
    → before ++ listed_after separator (flow_texts (drop i flows) (drop i tree_numbers)) ≡ written
    → now ++ listed_after (codes ",") (flow_texts (drop (i + 1) flows) (drop (i + 1) tree_numbers))
    ≡ written
flow_texts-more separator before written now flows tree_numbers i f here lt e so_far =
    let flows_left : drop i flows ≡ f ∷ drop (i + 1) flows =
    drop_more flows i f (slice_get_within flows i f here)
    ∙ ap (λ g. g ∷ drop (i + 1) flows) (get_or_from_slice_get flows i f f here) in
    listed_after-text_more separator before written now (flow_text f (get_or tree_numbers i 0))
    (flow_texts (drop (i + 1) flows) (drop (i + 1) tree_numbers)) e
    (rw (flows_left, drop_more tree_numbers i 0 lt) at so_far)
