-- Which packets get through by a path, which paths a tree has, and that carried copies came by paths.
use Rattle.std.proofs.Common.{◌≡◌, ℕ, zero, suc, ◌+◌, ◌≤◌, ◌↔◌, max, inl, inr, List, [], ◌∷◌}
use Rattle.std.proofs.Common.{length, Option, Some, None, refl, ap, sym, ◌∙◌, subst, arith}
use Rattle.std.proofs.lemmas.Bool.{cases_eq}
use Rattle.mc_theory.specs.Lists.{In}
use Rattle.mc_theory.specs.Nets.{Net, Interface}
use Rattle.mc_theory.specs.Flights.{Copy, Flight, Pick, start, step, run, without_waiting}
use Rattle.mc_theory.specs.Flights.Pick.{Handles, Loses}
use Rattle.mc_theory.specs.Certificates.{Entry, IsLive, Feeds, IsTree, source_entry_of, lans}
use Rattle.mc_theory.specs.CopyOrigins.{IsSentOn}
use Rattle.mc_theory.specs.Paths.{Hop, IsHop, IsPath, PassesHops, need}
use Rattle.mc_theory.proofs.ListLemmas.{in-append_cases, in-map_cases, in-remove}
use Rattle.mc_theory.proofs.CopyOrigins.{AllHeard, StepGrows, grows-step, all_heard-start}
use Rattle.mc_theory.proofs.ReachedLans.{entry-unique_on_lan}

-- ---- which packets get through

pub need_at_most-from_passes : (t : ℕ) (hs : List Hop) → 1 ≤ t → PassesHops t hs → need hs ≤ t
need_at_most-from_passes t [] low p = low
need_at_most-from_passes t (h ∷ hs) low p =
    let rest = need_at_most-from_passes t hs low p.1 in
    let here = p.0 in
    omega (arith, rest, here)

pub passes_hops-from_need : (t : ℕ) (hs : List Hop) → need hs ≤ t → PassesHops t hs
passes_hops-from_need t [] le = tt
passes_hops-from_need t (h ∷ hs) le = (omega (arith, le), passes_hops-from_need t hs (omega (arith, le)))

pub passes_hops-iff_need : (t : ℕ) (hs : List Hop) → 1 ≤ t → PassesHops t hs ↔ (need hs ≤ t)
passes_hops-iff_need t hs low = (need_at_most-from_passes t hs low, passes_hops-from_need t hs)

pub need-at_least_one : (hs : List Hop) → 1 ≤ need hs
need-at_least_one [] = omega arith
need-at_least_one (h ∷ hs) = let rest = need-at_least_one hs in omega (arith, rest)

-- ---- the paths of a tree

-- a path that a packet gets through leads to a named LAN, as its entry says
pub entry-at_path_end : (n : Net) (es : List Entry) (t : ℕ) → IsTree n es → t ≤ 255 → (hs : List Hop)
    (l : ℕ) → IsPath n n.source hs l → PassesHops t hs
    → (e : Entry) × In e es × (e.lan ≡ l) × (e.rank ≡ length hs) × (e.need ≡ need hs)
entry-at_path_end n es t tree high [] l path p = (source_entry_of n, tree.source_entry, path, refl, refl)
entry-at_path_end n es t tree high (h ∷ hs) l path p =
    let up = entry-at_path_end n es t tree high hs h.from path.2 p.1 in
    let hop = path.1 in
    let live : IsLive up.0.rank h.threshold = omega (arith, up.3, p.0) in
    let feeds : Feeds n up.0 h.router h.vif h.threshold = record {
      incoming = hop.incoming;
      pairs = hop.pairs;
      row = hop.row;
      from = hop.takes ∙ ap Some (sym up.2);
      pair = hop.pair;
      live = live;
    } in
    let e = tree.tree up.0 h.router h.vif h.threshold h.onto up.1 feeds hop.sends in
    let rank : e.0.rank ≡ length (h ∷ hs) = omega (arith, e.3.rank, up.3) in
    let least : e.0.need ≡ need (h ∷ hs) = omega (arith, e.3.need, up.3, up.4) in
    (e.0, e.1, e.2 ∙ path.0, rank, least)

-- a path to an entry's LAN, as the entry says
abbrev pub HasPathToEntry : Net → Entry → Type 0
HasPathToEntry n e = (hs : List Hop) × IsPath n n.source hs e.lan × (length hs ≡ e.rank) × (need hs ≡ e.need)

path_to_entry-by_forwarder : (n : Net) (es : List Entry) (e : Entry) (o : Option Interface) →
    e.forwarder ≡ o →
    IsTree n es → In e es → ((p : Entry) → In p es → e.rank ≡ p.rank + 1 → HasPathToEntry n p) →
    HasPathToEntry n e
path_to_entry-by_forwarder n es e None q tree e_in up = elim (cases_eq e.lan n.source) [
  | inl z ↦ (let same : source_entry_of n ≡ e = entry-unique_on_lan n es (source_entry_of n) e tree
      tree.source_entry e_in (sym z) in subst (HasPathToEntry n) same ([], refl, refl, refl))
  | inr z ↦ absurd (let y = tree.others_fed e e_in z in cc)
]
path_to_entry-by_forwarder n es e (Some i) q tree e_in up =
    let fed = tree.fed e i.0 i.1 e_in q in
    let child = tree.tree fed.0 i.0 i.1 fed.1 e.lan fed.2 fed.3 fed.4 in
    let same : child.0 ≡ e = entry-unique_on_lan n es child.0 e tree child.1 e_in child.2 in
    let rank : e.rank ≡ fed.0.rank + 1 = ap (λ (e : Entry). e.rank) (sym same) ∙ child.3.rank in
    let least : e.need ≡ max fed.0.need (fed.0.rank + fed.1 + 1) =
    ap (λ (e : Entry). e.need) (sym same) ∙ child.3.need in
    let hop : Hop = record {
      from = fed.0.lan;
      router = i.0;
      vif = i.1;
      threshold = fed.1;
      onto = e.lan;
    } in
    let is : IsHop n hop = record {
      incoming = fed.3.incoming;
      pairs = fed.3.pairs;
      row = fed.3.row;
      takes = fed.3.from;
      pair = fed.3.pair;
      sends = fed.4;
    } in
    let w = up fed.0 fed.2 rank in
    (hop ∷ w.0, (refl, is, w.1), omega (arith, rank, w.2), omega (arith, least, w.2, w.3))

pub path_to_entry-by_rank : (n : Net) (es : List Entry) (k : ℕ) (e : Entry) → IsTree n es → In e es →
    e.rank ≡ k →
    HasPathToEntry n e
path_to_entry-by_rank n es zero e tree e_in rank =
    path_to_entry-by_forwarder n es e e.forwarder refl tree e_in
    (λ p p_in q. absurd (omega arith))
path_to_entry-by_rank n es (suc k) e tree e_in rank =
    path_to_entry-by_forwarder n es e e.forwarder refl tree e_in
    (λ p p_in q. path_to_entry-by_rank n es k p tree p_in (omega arith))

-- ---- the paths of copies

-- the hop of an interface that sent c on from b
abbrev pub hop_of_sent_on : Copy → Copy → Interface → ℕ → Hop
hop_of_sent_on b c i threshold = record {
  from = b.lan;
  router = i.0;
  vif = i.1;
  threshold = threshold;
  onto = c.lan;
}

pub is_hop-of_sent_on : (n : Net) (b c : Copy) (i : Interface) → (s : IsSentOn n b c i) →
    IsHop n (hop_of_sent_on b c i s.threshold)
is_hop-of_sent_on n b c i s = record {
  incoming = s.incoming;
  pairs = s.pairs;
  row = s.row;
  takes = s.from;
  pair = s.pair;
  sends = s.onto;
}

-- of every run, with losses or without: what each step keeps
pub run-preserves : (n : Net) (P : List Copy → Type 0) →
    ((f g : Flight) → StepGrows n f g → P f.carried → P g.carried) → (ps : List Pick)
    (f : Flight) → AllHeard n f → P f.carried → P (run n ps f).carried
run-preserves n P keep [] f heard p = p
run-preserves n P keep (Handles i ∷ ps) f heard p =
    let g = grows-step n i f heard in
    run-preserves n P keep ps (step n i f) g.1 (keep f (step n i f) g.0 p)
run-preserves n P keep (Loses i ∷ ps) f heard p = run-preserves n P keep ps (without_waiting i f)
    (λ w k. heard w (in-remove w f.waiting i k)) p

-- each of these copies has a path to its LAN by which it got through
abbrev AreReachedByPaths : Net → ℕ → List Copy → Type 0
AreReachedByPaths n t cs = (c : Copy) → In c cs → (hs : List Hop) × IsPath n n.source hs c.lan ×
    PassesHops t hs × (c.ttl + length hs ≡ t)

are_reached_by_paths-grows : (n : Net) (t : ℕ) (f g : Flight) → StepGrows n f g →
    AreReachedByPaths n t f.carried →
    AreReachedByPaths n t g.carried
are_reached_by_paths-grows n t f g (inr e) all = subst (AreReachedByPaths n t) (sym e) all
are_reached_by_paths-grows n t f g (inl s) all = subst (AreReachedByPaths n t) (sym s.2.1) (λ c h. elim
    (in-append_cases c f.carried s.2.0 h) [
      | inl k ↦ all c k
      | inr k ↦ (let z = s.2.2 c k in
          let w = all s.0 s.1 in
          let passed = z.2.passed in
          let ttl = z.2.ttl in (
            hop_of_sent_on s.0 c z.0 z.2.threshold ∷ w.0,
            (refl, is_hop-of_sent_on n s.0 c z.0 z.2, w.1),
            (omega (arith, passed, w.3), w.2),
            omega (arith, ttl, w.3),
          ))
    ])

pub reached_with_ttl-from_carried : (n : Net) (t : ℕ) (ps : List Pick) (l : ℕ) →
    In l (lans (run n ps (start n t)).carried)
    → (hs : List Hop) × IsPath n n.source hs l × PassesHops t hs
reached_with_ttl-from_carried n t ps l h =
    let all = run-preserves n (AreReachedByPaths n t) (are_reached_by_paths-grows n t) ps (start n t)
    (all_heard-start n t)
    (λ c k. elim k [
      | inl e ↦ ([], ap (λ (x : Copy). x.lan) e, tt, omega (arith, ap (λ (x : Copy). x.ttl) e))
      | inr z ↦ absurd z
    ]) in
    let c = in-map_cases (λ (c : Copy). c.lan) l (run n ps (start n t)).carried h in
    let w = all c.0 c.1 in
    (w.0, subst (IsPath n n.source w.0) c.2 w.1, w.2)
