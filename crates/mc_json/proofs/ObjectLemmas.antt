-- Lines that are objects other than the verdict: one, and a sequence of them.
use Rattle.std.proofs.Common.{◌≡◌, ◌==◌, ℕ, false, List, [], ◌∷◌, ◌++◌, drop, take, flat_map, inl, inr}
use Rattle.std.proofs.Common.{codes, refl, ap, ap₂, sym, subst, ◌∙◌, append-nil, take-append-drop}
use Rattle.std.specs.Prelude.{slice_index_or}
use Rattle.std.proofs.lemmas.Bool.{false≢true}
use Rattle.std.proofs.lemmas.Grind.{flat_map-append}
use Rattle.mc_theory.proofs.ListLemmas.{in-append_cases}
use Rattle.mc_shown.specs.Indented.{HasNoLineFeed}
use Rattle.mc_shown.specs.UnlistedLines.{with_line_feed}
use Rattle.mc_shown.proofs.IndentedLemmas.{has_no_line_feed-from_no_byte}
use Rattle.serde_json.specs.Data.{Data}
use Rattle.serde_json.specs.Written.{compact_text}
use Rattle.mc_json.specs.ObjectLines.{AreObjectLines, BeginsObject, IsNotVerdict}
use Rattle.mc_json.specs.RowData.{line_of}
use Rattle.mc_json.proofs.NoFeedLemmas.{no_feed-compact_text}

-- ---- one

-- by its first two bytes, and by the first one of its first key
pub are_object_lines-one : (d : Data) → take 2 (compact_text d) ≡ codes "{\""
    → (slice_index_or (compact_text d) 2 0 == 118) ≡ false → AreObjectLines (line_of d)
are_object_lines-one d starts differs = record {
  lines = compact_text d ∷ [];
  begins = λ line h. elim h [
    | inl e ↦ subst BeginsObject e (
      drop 2 (compact_text d),
      sym (take-append-drop 2 (compact_text d))
          ∙ ap (λ (front : List ℕ). front ++ drop 2 (compact_text d)) starts,
    )
    | inr k ↦ absurd k
  ];
  other = λ line h. elim h [
    | inl e ↦ subst IsNotVerdict e (λ rest is. false≢true
        (sym differs ∙ ap (λ (text : List ℕ). slice_index_or text 2 0 == 118) is))
    | inr k ↦ absurd k
  ];
  feedless = λ line h. elim h [
    | inl e ↦ subst HasNoLineFeed e (has_no_line_feed-from_no_byte (compact_text d) (no_feed-compact_text d))
    | inr k ↦ absurd k
  ];
  spelled = sym (append-nil (line_of d));
}

-- ---- several

-- no lines
pub are_object_lines-none : AreObjectLines []
are_object_lines-none = record {
  lines = [];
  begins = λ line h. absurd h;
  other = λ line h. absurd h;
  feedless = λ line h. absurd h;
  spelled = refl;
}

-- lines after lines
pub are_object_lines-append : (xs ys : List ℕ) → AreObjectLines xs → AreObjectLines ys
    → AreObjectLines (xs ++ ys)
are_object_lines-append xs ys p q = record {
  lines = p.lines ++ q.lines;
  begins = λ line h. elim (in-append_cases line p.lines q.lines h) [
    | inl left ↦ p.begins line left
    | inr right ↦ q.begins line right
  ];
  other = λ line h. elim (in-append_cases line p.lines q.lines h) [
    | inl left ↦ p.other line left
    | inr right ↦ q.other line right
  ];
  feedless = λ line h. elim (in-append_cases line p.lines q.lines h) [
    | inl left ↦ p.feedless line left
    | inr right ↦ q.feedless line right
  ];
  spelled = ap₂ (λ (us vs : List ℕ). us ++ vs) p.spelled q.spelled
      ∙ sym (flat_map-append with_line_feed p.lines q.lines);
}

-- lines of each item
pub are_object_lines-flat_map : {A : Type 0} (f : A → List ℕ) (xs : List A) → ((x : A) → AreObjectLines (f x))
    → AreObjectLines (flat_map f xs)
are_object_lines-flat_map f [] each = are_object_lines-none
are_object_lines-flat_map f (x ∷ xs) each =
    are_object_lines-append (f x) (flat_map f xs) (each x) (are_object_lines-flat_map f xs each)
