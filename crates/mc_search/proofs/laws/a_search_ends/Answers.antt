-- A LAN is added only if it isn't among the visited ones, so that these are never more than the LANs. After
-- as many steps each of them is searched, and none can be added.
use Rattle.std.proofs.Common.{◌≡◌, ℕ, ◌<◌, ◌≤◌, length, ap, sym, subst}
use Rattle.mc_forward.specs.Domains.{DomainValue}
use Rattle.mc_forward.specs.ListedTables.{DomainFacts, facts}
use Rattle.mc_search.specs.SearchLine.{Search}
use Rattle.mc_search.proofs.NextLanLemmas.{places_inside-from_is_domain}
use Rattle.mc_search.proofs.VisitedLemmas.{all_below-visited, in-visited_missed, visited-at_end}
use Rattle.mc_search.proofs.SearchLemmas.{distinct-visited}
use Rattle.mc_search.proofs.laws.a_search_ends.Goals as goal

-- a search in a domain has as many LANs as the domain
lan_counts-equal : (d : DomainValue) (s : Search) → s.domain ≡ facts d
    → length s.domain.topology.lans ≡ length d.topology.lans
lan_counts-equal d s same = ap (λ (x : DomainFacts). length x.topology.lans) same

-- The search begins with the missed LAN, and no step removes one.
pub returns-clause-missed : goal.returns-clause-missed
returns-clause-missed c = λ s missed. in-visited_missed s missed (length s.domain.topology.lans)

-- A LAN is added only if it isn't there.
pub returns-clause-distinct : goal.returns-clause-distinct
returns-clause-distinct c = λ s missed. distinct-visited s missed (length s.domain.topology.lans)

-- A line leads only to LANs on which the domain places a vif.
pub returns-clause-listed : goal.returns-clause-listed
returns-clause-listed c = λ d s missed lan is lt h.
    let count = lan_counts-equal d s is.same in
    subst (λ (n : ℕ). lan < n) count
    (all_below-visited s missed (length s.domain.topology.lans)
    (places_inside-from_is_domain d s is.domain is.same)
    (subst (λ (n : ℕ). missed < n) (sym count) lt) lan h)

-- Distinct LANs of the domain are no more than it has, so the visited ones are all searched by then.
pub returns-clause-ends : goal.returns-clause-ends
returns-clause-ends c = λ d s missed steps is lt le.
    let count = sym (lan_counts-equal d s is.same) in
    visited-at_end s missed steps (places_inside-from_is_domain d s is.domain is.same)
    (subst (λ (n : ℕ). missed < n) count lt) (subst (λ (n : ℕ). n ≤ steps) count le)
