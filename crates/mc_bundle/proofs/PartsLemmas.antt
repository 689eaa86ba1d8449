-- Reading a bundle part by part from an input.
use Rattle.std.proofs.Common.{◌≡◌, ℕ, ◌+◌, ◌<◌, ◌≤◌, false, eqb, List, [], ◌∷◌, ◌++◌}
use Rattle.std.proofs.Common.{length, take, Option, Some, None, Ok, Err, refl, sym, ap}
use Rattle.std.proofs.Common.{◌∙◌, arith, length-take, inl, inr, ltb, leb}
use Rattle.std.proofs.lemmas.Bool.{cases_Bool, ltb-true, ltb-false, lt-ltb, le-ltb, le-leb, lt-leb}
use Rattle.std.proofs.lemmas.Bool.Decides.{nat_tests}
use Rattle.std.specs.Prelude.{codes}
use Rattle.std.specs.Io.KnownBytes.{Consumes, IsAtEnd}
use Rattle.std.specs.Str.{bytes_eq}
use Rattle.std.proofs.Math.Seq.{take-append-add, take-append_seam, get_or-append_seam}
use Rattle.std.proofs.lemmas.List.{append-nil, take-append-le, take_all, length-append}
use Rattle.mc_bundle.specs.declared.bundle_fault.BundleFault.TheVariants as faults
use Rattle.mc_bundle.specs.PartsReading.{ReadsAs, magic_of, rest_of_part}
use Rattle.mc_text.specs.Steps.{◌>>=◌}
use Rattle.mc_bundle.specs.BundleReading.{line_at, part_bytes_at}
use Rattle.mc_text.proofs.Searches.{position-none_passes}
use Rattle.mc_text.proofs.ByteLemmas.{HasNoByte}
use Rattle.mc_bundle.proofs.BundleWords.{line_at-complete}
use Rattle.mc_bundle.proofs.BundlePlaces.{part_bytes_at-complete}

-- the bytes of a buffer after a read behind its first n bytes
pub take-filled_buffer : (xs ys rest : List ℕ) (n more : ℕ) → n ≤ length xs → more ≤ length ys
    → take (n + more) (take n xs ++ (ys ++ rest)) ≡ take n xs ++ take more ys
take-filled_buffer xs ys rest n more within fits =
    let long : length (take n xs) ≡ n = omega (arith, length-take n xs) in
    ap (λ k. take (k + more) (take n xs ++ (ys ++ rest))) (sym long)
    ∙ take-append-add (take n xs) (ys ++ rest) more
    ∙ ap (λ l. take n xs ++ l) (take-append-le more ys rest fits)

-- they are no more than the buffer has
pub length-filled_buffer : (xs ys rest : List ℕ) (n more : ℕ) → n ≤ length xs → more ≤ length ys
    → n + more ≤ length (take n xs ++ (ys ++ rest))
length-filled_buffer xs ys rest n more within fits =
    simp length-append (omega (arith, length-take n xs))

-- the bytes that were read, up to a size or to the text's end, are its first bytes
pub take-read_bytes : (text taken later : List ℕ) (size : ℕ) → text ≡ taken ++ later
    → length taken ≤ size → (length taken < size → later ≡ []) → take size text ≡ taken
take-read_bytes text taken later size is within end = elim (cases_Bool (ltb (length taken) size)) [
  | inl less ↦
      let none : later ≡ [] = end (ltb-true (length taken) size less) in
      let whole : text ≡ taken = is ∙ ap (λ l. taken ++ l) none ∙ append-nil taken in
      ap (take size) whole ∙ take_all size taken within
  | inr full ↦
      let same : size ≡ length taken = omega (arith, ltb-false (length taken) size full) in
      ap (take size) is ∙ ap (λ n. take n (taken ++ later)) same ∙ take-append_seam taken later
]

-- a first line other than the magic is read as the fault `NoMagic`
pub reads_as-no_magic : (old new : Option (List ℕ)) (buffer : List ℕ) (n : ℕ) → length buffer ≡ 17
    → n ≤ length buffer → Consumes old new (take n buffer) → (n < length buffer → IsAtEnd new)
    → bytes_eq (take n buffer) (codes "mcaudit bundle 1\n") ≡ false
    → ReadsAs {X = Unit {0}} {Y = Unit {0}} (λ x. x) old new (Err faults.NoMagic) magic_of
reads_as-no_magic None new buffer n size within taken end other = tt
reads_as-no_magic (Some text) None buffer n size within taken end other = absurd taken
reads_as-no_magic (Some text) (Some later) buffer n size within taken end other =
    let long : length (take n buffer) ≡ n = omega (arith, length-take n buffer) in
    let front : take 17 text ≡ take n buffer = take-read_bytes text (take n buffer) later 17 taken
    (omega arith) (λ less. end (omega arith)) in
    rw (front, other) refl

-- ---- lines

-- fewer than 96 bytes without a line feed, to the input's end, are read as the fault `NoEnd`
line_at-no_end : (text : List ℕ) → HasNoByte 10 text → length text < 96 → line_at text ≡ Err faults.NoEnd
unfolding line_at
line_at-no_end text without short =
    let whole : take 96 text ≡ text = take_all 96 text (omega arith) in
    rw (whole, position-none_passes (λ b. eqb b 10) text without, lt-ltb (length text) 96 short) refl

-- 96 bytes without a line feed are read as the fault `BadPartLine`
line_at-too_long : (taken later : List ℕ) → HasNoByte 10 taken → length taken ≡ 96
    → line_at (taken ++ later) ≡ Err faults.BadPartLine
unfolding line_at
line_at-too_long taken later without long =
    let front : take 96 (taken ++ later) ≡ taken =
    ap (λ n. take n (taken ++ later)) (sym long) ∙ take-append_seam taken later in
    let enough : ltb (length (taken ++ later)) 96 ≡ false =
    le-ltb (length (taken ++ later)) 96 (omega (arith, long, length-append taken later)) in
    rw (front, position-none_passes (λ b. eqb b 10) taken without, enough) refl

-- fewer than 96 bytes without a line feed, up to the input's end, are read as `NoEnd`
pub reads_as-no_end : {X : Type 0} (view : X → List ℕ) (old mid new : Option (List ℕ)) (taken : List ℕ)
    → Consumes old mid taken → Consumes mid new [] → IsAtEnd new → HasNoByte 10 taken
    → length taken < 96 → ReadsAs view old new (Err faults.NoEnd) line_at
reads_as-no_end view None mid new taken first second end without short = tt
reads_as-no_end view (Some text) None new taken first second end without short = absurd first
reads_as-no_end view (Some text) (Some between) None taken first second end without short = absurd second
reads_as-no_end view (Some text) (Some between) (Some later) taken first second end without short =
    let whole : text ≡ taken =
    first ∙ ap (λ l. taken ++ l) (second ∙ end) ∙ append-nil taken in
    ap line_at whole ∙ line_at-no_end taken without short

-- 96 bytes without a line feed are read as `BadPartLine`, whatever follows
pub reads_as-line_too_long : {X : Type 0} (view : X → List ℕ) (old new : Option (List ℕ)) (taken : List ℕ)
    → Consumes old new taken → HasNoByte 10 taken → length taken ≡ 96
    → ReadsAs view old new (Err faults.BadPartLine) line_at
reads_as-line_too_long view None new taken first without long = tt
reads_as-line_too_long view (Some text) None taken first without long = absurd first
reads_as-line_too_long view (Some text) (Some later) taken first without long =
    ap line_at first ∙ line_at-too_long taken later without long

-- bytes without a line feed, and then one, are read as a line
pub reads_as-line : {X : Type 0} (view : X → List ℕ) (old mid new : Option (List ℕ)) (x : X)
    (taken : List ℕ) → view x ≡ taken → Consumes old mid taken → Consumes mid new (10 ∷ [])
    → HasNoByte 10 taken → length taken < 96 → ReadsAs view old new (Ok x) line_at
reads_as-line view None mid new x taken is first second without short = tt
reads_as-line view (Some text) None new x taken is first second without short = absurd first
reads_as-line view (Some text) (Some between) None x taken is first second without short = absurd second
reads_as-line view (Some text) (Some between) (Some later) x taken is first second without short =
    ap line_at (first ∙ ap (λ l. taken ++ l) second) ∙ line_at-complete taken later without short
    ∙ ap (λ (t : List ℕ). Ok (t, later)) (sym is)

-- ---- the rest of a part

-- a text that ends within the rest of a part, or before its line feed, is truncated
rest_of_part-truncated : (left : ℕ) (text : List ℕ) → length text ≤ left
    → rest_of_part left text ≡ Err faults.Truncated
unfolding part_bytes_at
rest_of_part-truncated left text less = rw (le-leb (length text) left less) refl

-- an input that ends within the rest of a part is read as `Truncated`
pub reads_as-rest_truncated : (old mid new : Option (List ℕ)) (left : ℕ) (bytes more : List ℕ)
    → Consumes old mid bytes → Consumes mid new more → IsAtEnd new
    → length bytes + length more ≤ left
    → ReadsAs {X = Unit {0}} {Y = Unit {0}} (λ x. x) old new (Err faults.Truncated) (rest_of_part left)
reads_as-rest_truncated None mid new left bytes more first second end less = tt
reads_as-rest_truncated (Some text) None new left bytes more first second end less = absurd first
reads_as-rest_truncated (Some text) (Some between) None left bytes more first second end less = absurd second
reads_as-rest_truncated (Some text) (Some between) (Some later) left bytes more first second end less =
    let whole : text ≡ bytes ++ more =
    first ∙ ap (λ l. bytes ++ l) (second ∙ ap (λ l. more ++ l) end ∙ append-nil more) in
    rest_of_part-truncated left text (rw whole (omega (arith, less, length-append bytes more)))

-- the rest of a part with its line feed is read
pub reads_as-rest : (old mid new : Option (List ℕ)) (left : ℕ) (bytes : List ℕ) (u : Unit {0})
    → Consumes old mid bytes → Consumes mid new (10 ∷ []) → length bytes ≡ left
    → ReadsAs {X = Unit {0}} {Y = Unit {0}} (λ x. x) old new (Ok u) (rest_of_part left)
reads_as-rest None mid new left bytes u first second long = tt
reads_as-rest (Some text) None new left bytes u first second long = absurd first
reads_as-rest (Some text) (Some between) None left bytes u first second long = absurd second
reads_as-rest (Some text) (Some between) (Some later) left bytes u first second long =
    let whole : text ≡ bytes ++ (10 ∷ later) = first ∙ ap (λ l. bytes ++ l) second in
    ap (rest_of_part left) whole ∙ ap (λ n. rest_of_part n (bytes ++ (10 ∷ later))) (sym long)
    ∙ ap (λ r. r >>= λ found. Ok (tt, found.1)) (part_bytes_at-complete bytes later)

-- another byte than a line feed after the rest of a part is a fault
rest_of_part-other_byte : (bytes later : List ℕ) (b : ℕ) → eqb b 10 ≡ false
    → rest_of_part (length bytes) (bytes ++ b ∷ later) ≡ Err faults.BadPartLine
unfolding part_bytes_at
rest_of_part-other_byte bytes later b other =
    let longer : leb (length (bytes ++ b ∷ later)) (length bytes) ≡ false =
    lt-leb (length (bytes ++ b ∷ later)) (length bytes)
    (omega (arith, length-append bytes (b ∷ later))) in
    rw (longer, get_or-append_seam bytes b later 0, other) refl

-- another byte than a line feed after a part is read as `BadPartLine`
pub reads_as-rest_other_byte : (old mid new : Option (List ℕ)) (left : ℕ) (bytes : List ℕ) (b : ℕ)
    → Consumes old mid bytes → Consumes mid new (b ∷ []) → length bytes ≡ left → eqb b 10 ≡ false
    → ReadsAs {X = Unit {0}} {Y = Unit {0}} (λ x. x) old new (Err faults.BadPartLine) (rest_of_part left)
reads_as-rest_other_byte None mid new left bytes b first second long other = tt
reads_as-rest_other_byte (Some text) None new left bytes b first second long other = absurd first
reads_as-rest_other_byte (Some text) (Some between) None left bytes b first second long other = absurd second
reads_as-rest_other_byte (Some text) (Some between) (Some later) left bytes b first second long other =
    let whole : text ≡ bytes ++ (b ∷ later) = first ∙ ap (λ l. bytes ++ l) second in
    ap (rest_of_part left) whole ∙ ap (λ n. rest_of_part n (bytes ++ (b ∷ later))) (sym long)
    ∙ rest_of_part-other_byte bytes later b other

-- the test whether two distinct numbers are equal is false
pub eqb-of_distinct : (a b : ℕ) → (a ≡ b → ⊥) → eqb a b ≡ false
eqb-of_distinct a b other = grind (arith, nat_tests)
