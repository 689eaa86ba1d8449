-- Names that are compared in two pieces.
use Rattle.std.specs.Prelude.{◌≡◌, ℕ, ◌&&◌, nat_eq, List, [], ◌∷◌, ◌++◌, length, take, drop, refl}
use Rattle.std.proofs.Common.{ap, sym, ◌∙◌}
use Rattle.std.proofs.Math.Bool.{and_assoc}
use Rattle.std.specs.Str.{bytes_eq}

-- bytes are two texts, one after the other, if their front is the one and the rest the other
pub bytes_eq-joined : (front bytes rest : List ℕ)
    → bytes_eq bytes (front ++ rest)
    ≡ (bytes_eq (take (length front) bytes) front && bytes_eq (drop (length front) bytes) rest)
bytes_eq-joined [] bytes rest = refl
bytes_eq-joined (y ∷ ys) [] rest = refl
bytes_eq-joined (y ∷ ys) (x ∷ xs) rest =
    ap (λ b. nat_eq x y && b) (bytes_eq-joined ys xs rest)
    ∙ sym (and_assoc (nat_eq x y) (bytes_eq (take (length ys) xs) ys)
    (bytes_eq (drop (length ys) xs) rest))
