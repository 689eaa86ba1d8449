-- A name of known length, by its bytes.
use Rattle.std.proofs.Common.{◌≡◌, ◌<◌, ◌+◌, ℕ, List, [], ◌∷◌, length, drop, get_or, ◌∙◌, arith}
use Rattle.std.proofs.lemmas.List.{drop_more, drop_all}

-- the bytes from this one on, where those after it are known
byte_before : {x : ℕ} (s rest : List ℕ) (i : ℕ) → i < length s → get_or s i 0 ≡ x → drop (i + 1) s ≡ rest
    → drop i s ≡ x ∷ rest
byte_before s rest i within is others = drop_more s i 0 within ∙ (λ j. is j ∷ others j)

-- a text of 3 bytes, by each of its bytes
pub bytes_3 : {a b c : ℕ} (s : List ℕ) → length s ≡ 3
    → get_or s 0 0 ≡ a → get_or s 1 0 ≡ b → get_or s 2 0 ≡ c
    → s ≡ a ∷ b ∷ c ∷ []
bytes_3 {a = a} {b = b} {c = c} s count is_a is_b is_c =
    let from_3 = drop_all 3 s (omega (arith, count)) in
    let from_2 = byte_before s [] 2 (omega (arith, count)) is_c from_3 in
    let from_1 = byte_before s (c ∷ []) 1 (omega (arith, count)) is_b from_2 in
    byte_before s (b ∷ c ∷ []) 0 (omega (arith, count)) is_a from_1

-- a text of 4 bytes
pub bytes_4 : {a b c d : ℕ} (s : List ℕ) → length s ≡ 4
    → get_or s 0 0 ≡ a → get_or s 1 0 ≡ b → get_or s 2 0 ≡ c → get_or s 3 0 ≡ d
    → s ≡ a ∷ b ∷ c ∷ d ∷ []
bytes_4 {a = a} {b = b} {c = c} {d = d} s count is_a is_b is_c is_d =
    let from_4 = drop_all 4 s (omega (arith, count)) in
    let from_3 = byte_before s [] 3 (omega (arith, count)) is_d from_4 in
    let from_2 = byte_before s (d ∷ []) 2 (omega (arith, count)) is_c from_3 in
    let from_1 = byte_before s (c ∷ d ∷ []) 1 (omega (arith, count)) is_b from_2 in
    byte_before s (b ∷ c ∷ d ∷ []) 0 (omega (arith, count)) is_a from_1

-- a text of 5 bytes
pub bytes_5 : {a b c d e : ℕ} (s : List ℕ) → length s ≡ 5
    → get_or s 0 0 ≡ a → get_or s 1 0 ≡ b → get_or s 2 0 ≡ c → get_or s 3 0 ≡ d → get_or s 4 0 ≡ e
    → s ≡ a ∷ b ∷ c ∷ d ∷ e ∷ []
bytes_5 {a = a} {b = b} {c = c} {d = d} {e = e} s count is_a is_b is_c is_d is_e =
    let from_5 = drop_all 5 s (omega (arith, count)) in
    let from_4 = byte_before s [] 4 (omega (arith, count)) is_e from_5 in
    let from_3 = byte_before s (e ∷ []) 3 (omega (arith, count)) is_d from_4 in
    let from_2 = byte_before s (d ∷ e ∷ []) 2 (omega (arith, count)) is_c from_3 in
    let from_1 = byte_before s (c ∷ d ∷ e ∷ []) 1 (omega (arith, count)) is_b from_2 in
    byte_before s (b ∷ c ∷ d ∷ e ∷ []) 0 (omega (arith, count)) is_a from_1

-- a text of 6 bytes
pub bytes_6 : {a b c d e f : ℕ} (s : List ℕ) → length s ≡ 6
    → get_or s 0 0 ≡ a → get_or s 1 0 ≡ b → get_or s 2 0 ≡ c → get_or s 3 0 ≡ d → get_or s 4 0 ≡ e
    → get_or s 5 0 ≡ f
    → s ≡ a ∷ b ∷ c ∷ d ∷ e ∷ f ∷ []
bytes_6 {a = a} {b = b} {c = c} {d = d} {e = e} {f = f} s count is_a is_b is_c is_d is_e is_f =
    let from_6 = drop_all 6 s (omega (arith, count)) in
    let from_5 = byte_before s [] 5 (omega (arith, count)) is_f from_6 in
    let from_4 = byte_before s (f ∷ []) 4 (omega (arith, count)) is_e from_5 in
    let from_3 = byte_before s (e ∷ f ∷ []) 3 (omega (arith, count)) is_d from_4 in
    let from_2 = byte_before s (d ∷ e ∷ f ∷ []) 2 (omega (arith, count)) is_c from_3 in
    let from_1 = byte_before s (c ∷ d ∷ e ∷ f ∷ []) 1 (omega (arith, count)) is_b from_2 in
    byte_before s (b ∷ c ∷ d ∷ e ∷ f ∷ []) 0 (omega (arith, count)) is_a from_1

-- a text of 7 bytes
pub bytes_7 : {a b c d e f g : ℕ} (s : List ℕ) → length s ≡ 7
    → get_or s 0 0 ≡ a → get_or s 1 0 ≡ b → get_or s 2 0 ≡ c → get_or s 3 0 ≡ d → get_or s 4 0 ≡ e
    → get_or s 5 0 ≡ f → get_or s 6 0 ≡ g
    → s ≡ a ∷ b ∷ c ∷ d ∷ e ∷ f ∷ g ∷ []
bytes_7 {a = a} {b = b} {c = c} {d = d} {e = e} {f = f} {g = g} s count is_a is_b is_c is_d is_e is_f is_g =
    let from_7 = drop_all 7 s (omega (arith, count)) in
    let from_6 = byte_before s [] 6 (omega (arith, count)) is_g from_7 in
    let from_5 = byte_before s (g ∷ []) 5 (omega (arith, count)) is_f from_6 in
    let from_4 = byte_before s (f ∷ g ∷ []) 4 (omega (arith, count)) is_e from_5 in
    let from_3 = byte_before s (e ∷ f ∷ g ∷ []) 3 (omega (arith, count)) is_d from_4 in
    let from_2 = byte_before s (d ∷ e ∷ f ∷ g ∷ []) 2 (omega (arith, count)) is_c from_3 in
    let from_1 = byte_before s (c ∷ d ∷ e ∷ f ∷ g ∷ []) 1 (omega (arith, count)) is_b from_2 in
    byte_before s (b ∷ c ∷ d ∷ e ∷ f ∷ g ∷ []) 0 (omega (arith, count)) is_a from_1
