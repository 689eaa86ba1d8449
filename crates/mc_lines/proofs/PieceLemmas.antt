-- The pieces of a sentence spell it.
use Rattle.std.proofs.Common.{◌≡◌, ◌==◌, ℕ, Bool, true, false, List, [], ◌∷◌, ◌++◌, codes, flat_map, refl}
use Rattle.std.proofs.Common.{ap, sym, ◌∙◌, append_assoc, append-nil}
use Rattle.std.proofs.lemmas.Bool.{eqb-true}
use Rattle.mc_lines.specs.Sentences.{piece_spelling, pieces, pieces_from_key}

-- What follows is spelled by its pieces: as words, and from within a key on.
record IsSpelled (s : List ℕ) : Type 0 where
  words : flat_map piece_spelling (pieces s) ≡ s
  after_brace : (key : List ℕ)
      → flat_map piece_spelling (pieces_from_key key s) ≡ codes "{" ++ (key ++ s)

-- the next byte is one of words, or an opening brace
spelled-words : (b : ℕ) (bs : List ℕ) (t : Bool) → (b == 123) ≡ t → IsSpelled bs
    → flat_map piece_spelling (pieces (b ∷ bs)) ≡ b ∷ bs
spelled-words b bs true is more =
    let brace : b ≡ 123 = eqb-true b 123 is in
    rw is (more.after_brace [] ∙ ap (λ (x : ℕ). x ∷ bs) (sym brace))
spelled-words b bs false is more = rw is (ap (λ (l : List ℕ). b ∷ l) more.words)

-- the next byte is one of a key, or the brace that closes it
spelled-after_brace : (key : List ℕ) (b : ℕ) (bs : List ℕ) (t : Bool) → (b == 125) ≡ t → IsSpelled bs
    → flat_map piece_spelling (pieces_from_key key (b ∷ bs)) ≡ codes "{" ++ (key ++ b ∷ bs)
spelled-after_brace key b bs true is more =
    let brace : b ≡ 125 = eqb-true b 125 is in
    rw is (ap (λ (l : List ℕ). codes "{" ++ ((key ++ codes "}") ++ l)) more.words
    ∙ ap (λ (l : List ℕ). codes "{" ++ l) (append_assoc key (codes "}") bs)
    ∙ ap (λ (x : ℕ). codes "{" ++ (key ++ x ∷ bs)) (sym brace))
spelled-after_brace key b bs false is more =
    rw is (more.after_brace (key ++ b ∷ [])
    ∙ ap (λ (l : List ℕ). codes "{" ++ l) (append_assoc key (b ∷ []) bs))

-- so it is for each text
is_spelled : (s : List ℕ) → IsSpelled s
is_spelled [] = record {
  words = refl;
  after_brace = λ key. append-nil (codes "{" ++ key)
      ∙ ap (λ (k : List ℕ). codes "{" ++ k) (sym (append-nil key));
}
is_spelled (b ∷ bs) =
    let more = is_spelled bs in
    record {
      words = spelled-words b bs (b == 123) refl more;
      after_brace = λ key. spelled-after_brace key b bs (b == 125) refl more;
    }

-- the pieces of a sentence spell it
pub flat_map-piece_spelling : (s : List ℕ) → flat_map piece_spelling (pieces s) ≡ s
flat_map-piece_spelling s = (is_spelled s).words
