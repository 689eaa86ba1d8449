-- Lines that begin with two spaces: sequences of them, and one that is put together piece by piece.
use Rattle.std.proofs.Common.{◌≡◌, ◌==◌, ℕ, true, List, [], ◌∷◌, ◌++◌, flat_map, inl, inr}
use Rattle.std.proofs.Common.{refl, ap, ap₂, sym, subst, ◌∙◌, append_assoc}
use Rattle.std.specs.Prelude.{not, codes}
use Rattle.std.specs.List.{list_all}
use Rattle.std.proofs.lemmas.Grind.{flat_map-append}
use Rattle.mc_text.proofs.ByteLemmas.{HasNoByte}
use Rattle.mc_theory.proofs.ListLemmas.{in-append_cases}
use Rattle.mc_shown.specs.Indented.{AreIndented, HasNoLineFeed, indented}
use Rattle.mc_shown.proofs.LineFeedLemmas.{no_feed-from_list_all, no_feed-append}

-- ---- sequences of lines

-- no lines
pub are_indented-none : AreIndented []
are_indented-none = record { lines = []; feedless = λ line h. absurd h; spelled = refl }

-- lines after lines
pub are_indented-append : (xs ys : List ℕ) → AreIndented xs → AreIndented ys → AreIndented (xs ++ ys)
are_indented-append xs ys p q = record {
  lines = p.lines ++ q.lines;
  feedless = λ line h. elim (in-append_cases line p.lines q.lines h) [
    | inl left ↦ p.feedless line left
    | inr right ↦ q.feedless line right
  ];
  spelled = ap₂ (λ (us vs : List ℕ). us ++ vs) p.spelled q.spelled
      ∙ sym (flat_map-append indented p.lines q.lines);
}

-- lines of each item
pub are_indented-flat_map : {A : Type 0} (f : A → List ℕ) (xs : List A) → ((x : A) → AreIndented (f x))
    → AreIndented (flat_map f xs)
are_indented-flat_map f [] each = are_indented-none
are_indented-flat_map f (x ∷ xs) each =
    are_indented-append (f x) (flat_map f xs) (each x) (are_indented-flat_map f xs each)

-- ---- a line piece by piece

-- The text is the rest of a line that has begun, and then other such lines.
pub record IsLineRest (text : List ℕ) : Type 0 where
  pub line : List ℕ
  pub after : List ℕ
  pub feedless : HasNoByte 10 line
  pub lines : AreIndented after
  pub is : text ≡ line ++ (10 ∷ after)

-- the line feed, and lines after it
pub is_line_rest-feed_then_lines : (after : List ℕ) → AreIndented after → IsLineRest (10 ∷ after)
is_line_rest-feed_then_lines after lines = record {
  line = [];
  after = after;
  feedless = tt;
  lines = lines;
  is = refl;
}

-- the line feed alone
pub is_line_rest-feed : IsLineRest (codes "\n")
is_line_rest-feed = is_line_rest-feed_then_lines [] are_indented-none

-- a piece of the line in front of its rest
pub is_line_rest-append : (xs ys : List ℕ) → HasNoByte 10 xs → IsLineRest ys → IsLineRest (xs ++ ys)
is_line_rest-append xs ys none g = record {
  line = xs ++ g.line;
  after = g.after;
  feedless = no_feed-append xs g.line none g.feedless;
  lines = g.lines;
  is = ap (λ (zs : List ℕ). xs ++ zs) g.is ∙ sym (append_assoc xs g.line (10 ∷ g.after));
}

-- a piece of a line in front of its rest
pub is_line_rest-append_front : (front ys : List ℕ) → list_all (λ b. not (b == 10)) front ≡ true
    → IsLineRest ys
    → IsLineRest (front ++ ys)
is_line_rest-append_front front ys none g = is_line_rest-append front ys (no_feed-from_list_all front none) g

-- a text without the byte has no line feed
pub has_no_line_feed-from_no_byte : (xs : List ℕ) → HasNoByte 10 xs → HasNoLineFeed xs
has_no_line_feed-from_no_byte [] none = refl
has_no_line_feed-from_no_byte (x ∷ xs) none = rw (none.0, has_no_line_feed-from_no_byte xs none.1) refl

-- the rest of a line, after two spaces
pub are_indented-from_line_rest : (ys : List ℕ) → IsLineRest ys → AreIndented (codes "  " ++ ys)
are_indented-from_line_rest ys g = record {
  lines = g.line ∷ g.lines.lines;
  feedless = λ line h. elim h [
    | inl e ↦ subst HasNoLineFeed e (has_no_line_feed-from_no_byte g.line g.feedless)
    | inr k ↦ g.lines.feedless line k
  ];
  spelled = ap (λ (zs : List ℕ). 32 ∷ 32 ∷ zs)
      (g.is ∙ ap (λ (zs : List ℕ). g.line ++ (10 ∷ zs)) g.lines.spelled
      ∙ sym (append_assoc g.line (10 ∷ []) (flat_map indented g.lines.lines)));
}
