-- The lines of excluded routers.
use Rattle.std.proofs.Common.{ℕ, Bool, List, [], ◌∷◌, ◌++◌, codes}
use Rattle.std.proofs.Common.{inl, inr, refl, sym, subst, append-nil}
use Rattle.mc_topology.specs.Topology.{TopologyValue, IsValidTopology, router_name}
use Rattle.mc_shown.specs.Indented.{AreIndented, HasNoLineFeed}
use Rattle.mc_shown.specs.ExcludedText.{AreExcludedLines, IsExcludedLine, excluded_routers, excluded_text}
use Rattle.mc_shown.specs.ExcludedText.{verdict_reason, excluded_line, excluded_lines}
use Rattle.mc_shown.specs.ShownNames.{routers_text}
use Rattle.mc_shown.proofs.LineFeedLemmas.{no_feed-router_name, no_feed-append_front}
use Rattle.mc_shown.proofs.IndentedLemmas.{has_no_line_feed-from_no_byte, are_indented-from_line_rest}
use Rattle.mc_shown.proofs.IndentedLemmas.{is_line_rest-feed, is_line_rest-append}
use Rattle.mc_shown.proofs.IndentedLemmas.{is_line_rest-append_front}
use Rattle.mc_shown.proofs.IndentedLemmas.{are_indented-none}
use Rattle.mc_shown.proofs.UnlistedLineLemmas.{are_lines-flat_map}
use Rattle.mc_shown.proofs.NameListLemmas.{no_feed-routers_text}

-- ---- how they begin

-- the line of one
are_excluded_lines-line : (t : TopologyValue) (router : ℕ) → IsValidTopology t
    → AreExcludedLines (excluded_line t router)
are_excluded_lines-line t router ok = record {
  lines = (codes "excluded " ++ router_name t router) ∷ [];
  begins = λ line h. elim h [
    | inl e ↦ (router_name t router, sym e)
    | inr none ↦ absurd none
  ];
  feedless = λ line h. elim h [
    | inl e ↦ subst HasNoLineFeed e (has_no_line_feed-from_no_byte (codes "excluded " ++ router_name t router)
        (no_feed-append_front (codes "excluded ") (router_name t router) refl (no_feed-router_name t router
        ok)))
    | inr none ↦ absurd none
  ];
  spelled = sym (append-nil (excluded_line t router));
}

-- the lines of all
pub are_excluded_lines-excluded_lines : (t : TopologyValue) (marks : List Bool) → IsValidTopology t
    → AreExcludedLines (excluded_lines t marks)
are_excluded_lines-excluded_lines t marks ok =
    are_lines-flat_map IsExcludedLine (excluded_line t) (excluded_routers t marks)
    (λ router. are_excluded_lines-line t router ok)

-- the line on why the verdict isn't yes
are_indented-verdict_reason : (t : TopologyValue) (routers : List ℕ) → IsValidTopology t
    → AreIndented (verdict_reason t routers)
are_indented-verdict_reason t [] ok = are_indented-none
are_indented-verdict_reason t (r ∷ rs) ok =
    are_indented-from_line_rest _
    (is_line_rest-append_front (codes "excluded:") _ refl
    (is_line_rest-append (routers_text t (r ∷ rs)) _ (no_feed-routers_text t (r ∷ rs) ok)
    (is_line_rest-append_front (codes ": the verdict is no; a yes requires all routers") _
    refl is_line_rest-feed)))

-- so it is for marked routers
pub are_indented-excluded_text : (t : TopologyValue) (marks : List Bool) → IsValidTopology t
    → AreIndented (excluded_text t marks)
are_indented-excluded_text t marks ok = are_indented-verdict_reason t (excluded_routers t marks) ok
