-- The lines of what is behind a stray begin with two spaces.
use Rattle.std.proofs.Common.{◌-◌, ℕ, List, [], ◌∷◌, length, take, refl}
use Rattle.std.specs.Prelude.{codes}
use Rattle.mc_text.proofs.ByteLemmas.{HasNoByte}
use Rattle.mc_topology.specs.Topology.{TopologyValue, IsValidTopology, router_name}
use Rattle.mc_theory.specs.Nets.{Interface}
use Rattle.mc_forward.specs.ListedTables.{DomainFacts}
use Rattle.mc_lines.specs.BehindText.{also_leaves_text, leak_after_comma, leak_text, leaks_behind_text}
use Rattle.mc_lines.specs.BehindText.{leaks_text, missed_behind_text, not_known_past_text}
use Rattle.mc_shown.specs.Indented.{AreIndented}
use Rattle.mc_shown.specs.RowText.{device_text}
use Rattle.mc_shown.specs.ShownNames.{lans_text, more_text, routers_text}
use Rattle.mc_shown.proofs.IndentedLemmas.{are_indented-append, are_indented-from_line_rest}
use Rattle.mc_shown.proofs.IndentedLemmas.{are_indented-none, is_line_rest-append}
use Rattle.mc_shown.proofs.IndentedLemmas.{is_line_rest-append_front, is_line_rest-feed}
use Rattle.mc_shown.proofs.LineFeedLemmas.{no_feed-append, no_feed-append_front, no_feed-device_text}
use Rattle.mc_shown.proofs.LineFeedLemmas.{no_feed-flat_map, no_feed-router_name}
use Rattle.mc_shown.proofs.NameListLemmas.{no_feed-lans_text, no_feed-more_text, no_feed-routers_text}

-- a vif by which copies leave
no_feed-leak_text : (d : DomainFacts) (i : Interface) → IsValidTopology d.topology
    → HasNoByte 10 (leak_text d i)
no_feed-leak_text d i ok =
    no_feed-append (router_name d.topology i.0) _ (no_feed-router_name d.topology i.0 ok)
    (no_feed-append_front (codes " ") (device_text d i.0 i.1) refl (no_feed-device_text d i.0 i.1))

-- several such vifs
no_feed-leaks_text : (d : DomainFacts) (is : List Interface) → IsValidTopology d.topology
    → HasNoByte 10 (leaks_text d is)
no_feed-leaks_text d [] ok = tt
no_feed-leaks_text d (i ∷ is) ok =
    no_feed-append_front (codes " ") _ refl
    (no_feed-append (leak_text d i) _ (no_feed-leak_text d i ok)
    (no_feed-append _ (more_text (length is - 7))
    (no_feed-flat_map (leak_after_comma d) (take 7 is)
    (λ j. no_feed-append_front (codes ", ") _ refl (no_feed-leak_text d j ok)))
    (no_feed-more_text (length is - 7))))

-- the line on other such vifs
are_indented-also_leaves_text : (d : DomainFacts) (is : List Interface) → IsValidTopology d.topology
    → AreIndented (also_leaves_text d is)
are_indented-also_leaves_text d [] ok = are_indented-none
are_indented-also_leaves_text d (i ∷ is) ok =
    are_indented-from_line_rest _
    (is_line_rest-append_front (codes "behind it: also leaves by") _ refl
    (is_line_rest-append (leaks_text d (i ∷ is)) _ (no_feed-leaks_text d (i ∷ is) ok) is_line_rest-feed))

-- the line on routers past which nothing is known
are_indented-not_known_past_text : (t : TopologyValue) (routers : List ℕ) → IsValidTopology t
    → AreIndented (not_known_past_text t routers)
are_indented-not_known_past_text t [] ok = are_indented-none
are_indented-not_known_past_text t (r ∷ rs) ok =
    are_indented-from_line_rest _
    (is_line_rest-append_front (codes "behind it: not known past") _ refl
    (is_line_rest-append (routers_text t (r ∷ rs)) _ (no_feed-routers_text t (r ∷ rs) ok) is_line_rest-feed))

-- the line on LANs that are missed
are_indented-missed_behind_text : (t : TopologyValue) (lans : List ℕ) → IsValidTopology t
    → AreIndented (missed_behind_text t lans)
are_indented-missed_behind_text t [] ok = are_indented-none
are_indented-missed_behind_text t (lan ∷ lans) ok =
    are_indented-from_line_rest _
    (is_line_rest-append_front (codes "behind it: missed, unless what leaves there reaches it:") _ refl
    (is_line_rest-append (lans_text t (lan ∷ lans)) _ (no_feed-lans_text t (lan ∷ lans) ok)
    is_line_rest-feed))

-- all of these lines
pub are_indented-leaks_behind_text : (d : DomainFacts) (strays : List Interface)
    (open_routers missed : List ℕ)
    → IsValidTopology d.topology → AreIndented (leaks_behind_text d strays open_routers missed)
are_indented-leaks_behind_text d strays open_routers missed ok =
    are_indented-append (also_leaves_text d strays) _ (are_indented-also_leaves_text d strays ok)
    (are_indented-append (not_known_past_text d.topology open_routers) (missed_behind_text d.topology missed)
    (are_indented-not_known_past_text d.topology open_routers ok)
    (are_indented-missed_behind_text d.topology missed ok))
