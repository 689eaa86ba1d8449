-- Writing a text piece by piece, and a bundle part by part.
use Rattle.std.proofs.Common.{arith, ◌≡◌, ℕ, zero, suc, ◌+◌, ◌<◌, ◌≤◌, List, [], ◌∷◌, ◌++◌, length}
use Rattle.std.proofs.Common.{get_or, take, drop, refl, sym, ap, ◌∙◌, append_assoc, Result}
use Rattle.std.specs.Prelude.{Option, OnErr, codes}
use Rattle.std.specs.Io.KnownBytes.{Appends}
use Rattle.std.specs.List.{AllByRecursion, flat_map}
use Rattle.std.proofs.KnownBytes.{Appends-trans}
use Rattle.std.proofs.Math.Seq.{take-append-add}
use Rattle.std.proofs.lemmas.Grind.{flat_map-append}
use Rattle.std.proofs.lemmas.List.{append-nil, length-append, take-append-drop, take-append-le}
use Rattle.std.proofs.lemmas.List.{drop_more, take_more}
use Rattle.std.proofs.lemmas.List.Folds.{flat_map-map}
use Rattle.std.proofs.lemmas.Result.{on_err_weaker}
use Rattle.mc_bundle.specs.declared.part.Part.{Part}
use Rattle.mc_bundle.specs.Bundle.{PartText, IsPartName, part_spelling, bundle_spelling, max_part}
use Rattle.mc_bundle.specs.Device.{AppendsProperPrefix}
use Rattle.mc_bundle.specs.BundleView.{part_text, part_texts}

-- ---- the pieces of a list

module _ {X : Type 0} (f : X → List ℕ) (xs : List X) (i : ℕ) (d : X) where
  -- the pieces of the first i + 1 items are those of the first i and the next
  flat_map-take_more : i < length xs
      → flat_map f (take (i + 1) xs) ≡ flat_map f (take i xs) ++ f (get_or xs i d)
  flat_map-take_more within = rw (take_more xs i d within) (simp (flat_map-append, append-nil))

  -- the pieces before one, that one, and those after it
  pub flat_map-split_at : i < length xs
      → flat_map f xs ≡ flat_map f (take i xs)
      ++ (f (get_or xs i d) ++ flat_map f (drop (i + 1) xs))
  flat_map-split_at within = ap (flat_map f) (sym (take-append-drop i xs))
      ∙ rw (drop_more xs i d within) (flat_map-append f (take i xs) _)

-- ---- what was written

-- a front that was written, and then a proper prefix of the rest, are a proper prefix of the whole
pub appends_prefix-after_front : (a b c : Option (List ℕ)) (front text rest whole : List ℕ)
    → Appends a b front
    → AppendsProperPrefix b c text → whole ≡ front ++ (text ++ rest) → AppendsProperPrefix a c whole
appends_prefix-after_front a b c front text rest whole first (k, short, taken) is =
    let size = simp length-append at (ap length is) in
    let cut : take (length front + k) whole ≡ front ++ take k text =
    let part = take-append-le k text rest (omega arith) in
    rw (is, take-append-add front (text ++ rest) k, part) refl in
    (length front + k, omega arith, rw cut (Appends-trans a b c front (take k text) first taken))

-- if the last call fails, what was written is a proper prefix of the whole
pub appends_prefix-last : {X E : Type 0} (r : Result X E) (a b c : Option (List ℕ))
    (front text whole : List ℕ) → Appends a b front → OnErr r (AppendsProperPrefix b c text)
    → whole ≡ front ++ text → OnErr r (AppendsProperPrefix a c whole)
appends_prefix-last r a b c front text whole first h is =
    on_err_weaker r (λ cut. appends_prefix-after_front a b c front text []
    whole first cut (is ∙ ap (λ (l : List ℕ). front ++ l) (sym (append-nil text)))) h

-- ---- the bundle of the parts

-- the parts are named and within the limits, and `total` is the size of their bundle
pub record IsSizeSoFar (texts : List PartText) (total : ℕ) : Type 0 where
  pub size : total ≡ 21 + length (flat_map part_spelling texts)
  pub sizes : AllByRecursion (λ part. length part.bytes ≤ max_part) texts
  pub names : AllByRecursion (λ part. IsPartName part.name) texts

-- parts of which one is too large are not within the limits
pub part_too_large : (parts : List Part) (i : ℕ) (d : Part) → i < length parts
    → max_part < length (get_or parts i d).bytes.now
    → AllByRecursion (λ part. length part.bytes ≤ max_part) (part_texts parts) → ⊥
part_too_large [] i d within wide small = absurd (omega arith)
part_too_large (part ∷ parts) zero d within wide small = omega (arith, wide, small.0)
part_too_large (part ∷ parts) (suc i) d within wide small =
    part_too_large parts i d (omega arith) wide small.1

-- the bytes of a part in memory, with its line
abbrev pub spelled : Part → List ℕ
spelled part = part_spelling (part_text part)

-- the first line of a bundle and these parts
abbrev pub front_of_bundle : List Part → List ℕ
front_of_bundle parts = codes "mcaudit bundle 1\n" ++ flat_map spelled parts

-- the bundle is the first line, all parts and the last line
pub bundle_spelling-front_of_bundle : (parts : List Part)
    → bundle_spelling (part_texts parts) ≡ front_of_bundle parts ++ codes "end\n"
bundle_spelling-front_of_bundle parts = rw (flat_map-map part_spelling part_text parts) refl

-- a text with another after it, cut before and after one piece
append-piece_then_last : (before text after last : List ℕ)
    → (before ++ (text ++ after)) ++ last ≡ before ++ (text ++ (after ++ last))
append-piece_then_last before text after last = simp append_assoc

module _ (parts : List Part) (i : ℕ) (part : Part) where
  -- the front with one more part
  pub front_of_bundle_more : i < length parts → part ≡ get_or parts i part
      → front_of_bundle (take i parts) ++ spelled part ≡ front_of_bundle (take (i + 1) parts)
  front_of_bundle_more within is = rw (flat_map-take_more spelled parts i part within, ← is)
      (append_assoc (codes "mcaudit bundle 1\n") (flat_map spelled (take i parts)) (spelled part))

  -- a bundle is the bytes before a part, the part, and the bytes after it
  pub bundle_spelling-split_at_part : i < length parts → part ≡ get_or parts i part
      → bundle_spelling (part_texts parts) ≡ front_of_bundle (take i parts)
      ++ (spelled part ++ (flat_map spelled (drop (i + 1) parts) ++ codes "end\n"))
  bundle_spelling-split_at_part within is = bundle_spelling-front_of_bundle parts
      ∙ rw (flat_map-split_at spelled parts i part within, ← is)
      (ap (λ (l : List ℕ). codes "mcaudit bundle 1\n" ++ l)
      (append-piece_then_last (flat_map spelled (take i parts)) (spelled part) _ (codes "end\n")))
