-- The lines of unlisted rows: how they begin, and that their only line feed is at the end.
use Rattle.std.proofs.Common.{◌≡◌, ◌==◌, ℕ, Bool, true, false, cond, List, [], ◌∷◌, ◌++◌, length, map}
use Rattle.std.proofs.Common.{flat_map, codes, decimal, inl, inr, refl, ap, ap₂, sym, subst, ◌∙◌}
use Rattle.std.proofs.Common.{append_assoc}
use Rattle.std.proofs.lemmas.Grind.{flat_map-append}
use Rattle.mc_text.specs.Addr.{dotted}
use Rattle.mc_tables.specs.Summary.{SummaryValue}
use Rattle.mc_topology.specs.Topology.{TopologyValue, IsValidTopology}
use Rattle.mc_theory.proofs.ListLemmas.{in-append_cases, in-map_cases}
use Rattle.mc_shown.specs.Indented.{AreIndented, HasNoLineFeed, indented}
use Rattle.mc_shown.specs.ShownNames.{routers_text}
use Rattle.mc_shown.specs.UnlistedLines.{AreLines, AreUnlistedLines, IsUnlistedLine, with_line_feed}
use Rattle.mc_shown.specs.UnlistedText.{byte_order_text, further_rows, further_text, is_multicast}
use Rattle.mc_shown.specs.UnlistedText.{unlisted_pair_text, shown_unlisted_pairs, unlisted_pair_lines}
use Rattle.mc_shown.specs.UnlistedText.{routers_with, unlisted_text}
use Rattle.mc_shown.proofs.LineFeedLemmas.{no_feed-dotted, number, no_feed-append_front}
use Rattle.mc_shown.proofs.IndentedLemmas.{IsLineRest, has_no_line_feed-from_no_byte}
use Rattle.mc_shown.proofs.IndentedLemmas.{are_indented-from_line_rest, is_line_rest-feed_then_lines}
use Rattle.mc_shown.proofs.IndentedLemmas.{is_line_rest-feed}
use Rattle.mc_shown.proofs.IndentedLemmas.{is_line_rest-append, is_line_rest-append_front}
use Rattle.mc_shown.proofs.IndentedLemmas.{are_indented-none}
use Rattle.mc_shown.proofs.NameListLemmas.{no_feed-routers_text}

-- ---- sequences of lines with a common beginning

-- no lines
pub are_lines-none : (Begins : List ℕ → Type 0) → AreLines Begins []
are_lines-none Begins = record {
  lines = [];
  begins = λ line h. absurd h;
  feedless = λ line h. absurd h;
  spelled = refl;
}

-- lines after lines
pub are_lines-append : (Begins : List ℕ → Type 0) (xs ys : List ℕ) → AreLines Begins xs → AreLines Begins ys
    → AreLines Begins (xs ++ ys)
are_lines-append Begins xs ys p q = record {
  lines = p.lines ++ q.lines;
  begins = λ line h. elim (in-append_cases line p.lines q.lines h) [
    | inl left ↦ p.begins line left
    | inr right ↦ q.begins line right
  ];
  feedless = λ line h. elim (in-append_cases line p.lines q.lines h) [
    | inl left ↦ p.feedless line left
    | inr right ↦ q.feedless line right
  ];
  spelled = ap₂ (λ (us vs : List ℕ). us ++ vs) p.spelled q.spelled
      ∙ sym (flat_map-append with_line_feed p.lines q.lines);
}

-- lines of each item
pub are_lines-flat_map : {A : Type 0} (Begins : List ℕ → Type 0) (f : A → List ℕ) (xs : List A)
    → ((x : A) → AreLines Begins (f x)) → AreLines Begins (flat_map f xs)
are_lines-flat_map Begins f [] each = are_lines-none Begins
are_lines-flat_map Begins f (x ∷ xs) each =
    are_lines-append Begins (f x) (flat_map f xs) (each x) (are_lines-flat_map Begins f xs each)

-- ---- lines that begin with two spaces

-- a line after two spaces
abbrev after_two_spaces : List ℕ → List ℕ
after_two_spaces line = codes "  " ++ line

-- indented lines are these with their line feeds
flat_map-indented : (lines : List (List ℕ)) → flat_map indented lines ≡ flat_map with_line_feed
    (map after_two_spaces lines)
flat_map-indented [] = refl
flat_map-indented (line ∷ lines) = ap (λ (l : List ℕ). indented line ++ l) (flat_map-indented lines)

-- so they are lines of unlisted rows
are_unlisted_lines-from_indented : (text : List ℕ) → AreIndented text → AreUnlistedLines text
are_unlisted_lines-from_indented text i = record {
  lines = map after_two_spaces i.lines;
  begins = λ line h.
      let r = in-map_cases after_two_spaces line i.lines h in (r.0, inr (sym r.2));
  feedless = λ line h.
      let r = in-map_cases after_two_spaces line i.lines h in
      subst HasNoLineFeed r.2 (i.feedless r.0 r.1);
  spelled = i.spelled ∙ flat_map-indented i.lines;
}

-- ---- the line of a pair, and lines after it

-- the line of a pair
are_unlisted_lines-pair_line : (rest : List ℕ) → IsLineRest rest → AreUnlistedLines (codes "unlisted "
    ++ rest)
are_unlisted_lines-pair_line rest g =
    let behind = are_unlisted_lines-from_indented g.after g.lines in
    record {
      lines = (codes "unlisted " ++ g.line) ∷ behind.lines;
      begins = λ line h. elim h [
        | inl e ↦ (g.line, inl (sym e))
        | inr k ↦ behind.begins line k
      ];
      feedless = λ line h. elim h [
        | inl e ↦ subst HasNoLineFeed e
            (has_no_line_feed-from_no_byte (codes "unlisted " ++ g.line)
            (no_feed-append_front (codes "unlisted ") g.line refl g.feedless))
        | inr k ↦ behind.feedless line k
      ];
      spelled = ap (λ (l : List ℕ). codes "unlisted " ++ l) (g.is
          ∙ ap (λ (l : List ℕ). g.line ++ (10 ∷ l)) behind.spelled
          ∙ sym (append_assoc g.line (10 ∷ []) (flat_map with_line_feed behind.lines)));
    }

-- the question about a group's byte order
are_indented-byte_order_text : (group : ℕ) → AreIndented (byte_order_text group)
are_indented-byte_order_text group =
    elim (is_multicast group) as (λ b. AreIndented (cond b [] (codes
    "  no multicast group: is the byte order of these routers right in the topology?\n"))) [
      | true ↦ are_indented-none
      | false ↦ are_indented-from_line_rest _ (is_line_rest-append_front (codes
          "no multicast group: is the byte order of these routers right in the topology?") _ refl
          is_line_rest-feed)
    ]

-- both
are_unlisted_lines-pair_text : (t : TopologyValue) (pair : ℕ × ℕ) (routers : List ℕ) → IsValidTopology t
    → AreUnlistedLines (unlisted_pair_text t pair routers)
are_unlisted_lines-pair_text t pair routers ok =
    are_unlisted_lines-pair_line _
    (is_line_rest-append (dotted pair.1) _ (no_feed-dotted pair.1)
    (is_line_rest-append_front (codes " ") _ refl
    (is_line_rest-append (dotted pair.0) _ (no_feed-dotted pair.0)
    (is_line_rest-append_front (codes " routers ") _ refl
    (is_line_rest-append (decimal (length routers)) _ (number (length routers))
    (is_line_rest-append_front (codes ":") _ refl
    (is_line_rest-append (routers_text t routers) _ (no_feed-routers_text t routers ok)
    (is_line_rest-feed_then_lines (byte_order_text pair.0) (are_indented-byte_order_text pair.0)))))))))

-- the line on further pairs
are_unlisted_lines-further_text : (more : ℕ) → AreUnlistedLines (further_text more)
are_unlisted_lines-further_text more =
    elim (more == 0) as (λ b. AreUnlistedLines (cond b []
    (codes "unlisted and " ++ (decimal more ++ codes " further rows\n")))) [
      | true ↦ are_lines-none IsUnlistedLine
      | false ↦ are_unlisted_lines-pair_line _
          (is_line_rest-append_front (codes "and ") _ refl
          (is_line_rest-append (decimal more) _ (number more)
          (is_line_rest-append_front (codes " further rows") _ refl is_line_rest-feed)))
    ]

-- all lines of unlisted rows
pub are_unlisted_lines-unlisted_text : (all : Bool) (t : TopologyValue) (summary : List SummaryValue)
    → IsValidTopology t
    → AreUnlistedLines (unlisted_text all t summary)
are_unlisted_lines-unlisted_text all t summary ok =
    are_lines-append IsUnlistedLine (flat_map (unlisted_pair_lines t summary) (shown_unlisted_pairs all
    summary))
    (further_text (further_rows all t summary))
    (are_lines-flat_map IsUnlistedLine (unlisted_pair_lines t summary) (shown_unlisted_pairs all summary)
    (λ pair. are_unlisted_lines-pair_text t pair (routers_with t summary pair) ok))
    (are_unlisted_lines-further_text (further_rows all t summary))
