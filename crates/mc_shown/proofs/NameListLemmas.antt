-- Lists of names have no line feed, and the lines of the LANs that want a flow begin with two spaces.
use Rattle.std.proofs.Common.{◌==◌, ◌-◌, ℕ, List, [], ◌∷◌, ◌++◌, length, take, refl}
use Rattle.std.specs.Prelude.{codes, decimal}
use Rattle.mc_text.proofs.ByteLemmas.{HasNoByte}
use Rattle.mc_topology.specs.Topology.{TopologyValue, IsValidTopology}
use Rattle.mc_shown.specs.Indented.{AreIndented}
use Rattle.mc_shown.specs.ShownNames.{lan_after_space, lans_text, more_text, router_after_space}
use Rattle.mc_shown.specs.ShownNames.{routers_text}
use Rattle.mc_shown.specs.WantedText.{also_missed_text, wanted_text}
use Rattle.mc_shown.proofs.LineFeedLemmas.{no_feed-append, no_feed-append_front, no_feed-cond}
use Rattle.mc_shown.proofs.LineFeedLemmas.{no_feed-flat_map, no_feed-from_list_all, no_feed-lan_name}
use Rattle.mc_shown.proofs.LineFeedLemmas.{no_feed-router_name, number}
use Rattle.mc_shown.proofs.IndentedLemmas.{are_indented-from_line_rest, are_indented-none}
use Rattle.mc_shown.proofs.IndentedLemmas.{is_line_rest-append, is_line_rest-append_front}
use Rattle.mc_shown.proofs.IndentedLemmas.{is_line_rest-feed}

-- ---- lists of names

-- how many more there are
pub no_feed-more_text : (more : ℕ) → HasNoByte 10 (more_text more)
no_feed-more_text more =
    no_feed-cond (more == 0) [] (codes " and " ++ (decimal more ++ codes " more")) tt
    (no_feed-append_front (codes " and ") _ refl
    (no_feed-append (decimal more) _ (number more) (no_feed-from_list_all (codes " more") refl)))

-- the first LANs of a list, and how many more there are
pub no_feed-lans_text : (t : TopologyValue) (lans : List ℕ) → IsValidTopology t
    → HasNoByte 10 (lans_text t lans)
no_feed-lans_text t lans ok =
    no_feed-append _ (more_text (length lans - 8))
    (no_feed-flat_map (lan_after_space t) (take 8 lans) (λ l. no_feed-append_front (codes " ") _ refl
    (no_feed-lan_name t l ok)))
    (no_feed-more_text (length lans - 8))

-- and of routers
pub no_feed-routers_text : (t : TopologyValue) (routers : List ℕ) → IsValidTopology t
    → HasNoByte 10 (routers_text t routers)
no_feed-routers_text t routers ok =
    no_feed-append _ (more_text (length routers - 8))
    (no_feed-flat_map (router_after_space t) (take 8 routers)
    (λ r. no_feed-append_front (codes " ") _ refl (no_feed-router_name t r ok)))
    (no_feed-more_text (length routers - 8))

-- ---- lines

-- the line of the LANs that want a flow
pub are_indented-wanted_text : (t : TopologyValue) (lans : List ℕ) → IsValidTopology t
    → AreIndented (wanted_text t lans)
are_indented-wanted_text t [] ok =
    are_indented-from_line_rest _ (is_line_rest-append_front (codes "wanted 0: no report asks for it") _
    refl is_line_rest-feed)
are_indented-wanted_text t (lan ∷ lans) ok =
    are_indented-from_line_rest _
    (is_line_rest-append_front (codes "wanted ") _ refl
    (is_line_rest-append (decimal (length (lan ∷ lans))) _ (number (length (lan ∷ lans)))
    (is_line_rest-append_front (codes ":") _ refl
    (is_line_rest-append (lans_text t (lan ∷ lans)) _ (no_feed-lans_text t (lan ∷ lans) ok)
    is_line_rest-feed))))

-- the line of the LANs that are missed too
pub are_indented-also_missed_text : (t : TopologyValue) (lans : List ℕ) → IsValidTopology t
    → AreIndented (also_missed_text t lans)
are_indented-also_missed_text t [] ok = are_indented-none
are_indented-also_missed_text t (lan ∷ lans) ok =
    are_indented-from_line_rest _
    (is_line_rest-append_front (codes "also missed:") _ refl
    (is_line_rest-append (lans_text t (lan ∷ lans)) _ (no_feed-lans_text t (lan ∷ lans) ok)
    is_line_rest-feed))
