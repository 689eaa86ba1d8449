-- The need of the hops by which a copy of a clean travel came.
use Rattle.std.proofs.Common.{◌≡◌, ℕ, ◌≤◌, ◌↔◌, Bool, List, ap, sym, ◌∙◌, arith}
use Rattle.mc_theory.specs.Lists.{In}
use Rattle.mc_theory.specs.Nets.{Net, IsNet}
use Rattle.mc_theory.specs.Flights.{Copy, start, run}
use Rattle.mc_theory.specs.Certificates.{Entry, IsTree}
use Rattle.mc_theory.specs.Findings.{IsTravel, handles}
use Rattle.mc_theory.specs.Findings.Finding.{Clean}
use Rattle.mc_theory.specs.CertificateOfCopies.{entries_of}
use Rattle.mc_theory.specs.Paths.{Hop, IsPath, PassesHops, need, IsReachedWithTtl, CameByHops}
use Rattle.mc_theory.proofs.Travels.{is_tree-from_clean_travel}
use Rattle.mc_theory.proofs.Paths.{need_at_most-from_passes, passes_hops-from_need, entry-at_path_end}
use Rattle.mc_theory.proofs.ReachedLans.{entry-unique_on_lan}
use Rattle.mc_theory.proofs.CameByHops.{is_path-from_travel}

-- all paths of a tree to one LAN have the same need
pub reached_with_ttl-iff_need_in_tree : (n : Net) (es : List Entry) (hs : List Hop) (l t : ℕ) → IsTree n es →
    IsPath n n.source hs l → PassesHops 255 hs → 1 ≤ t → t ≤ 255 → IsReachedWithTtl n t l ↔ (need hs ≤ t)
reached_with_ttl-iff_need_in_tree n es hs l t tree path through low high = (
  (λ r. (let e = entry-at_path_end n es 255 tree (omega arith) hs l path through in
      let d = entry-at_path_end n es t tree high r.0 l r.1 r.2 in
      let same = ap (λ (e : Entry). e.need) (entry-unique_on_lan n es d.0 e.0 tree d.1 e.1 (d.2 ∙ sym e.2)) in
      let least = need_at_most-from_passes t r.0 low r.2 in
      omega (arith, same, least, d.4, e.4))),
  (λ le. (hs, path, passes_hops-from_need t hs le)),
)

abbrev pub HasEntryWithNeed : Net → List Copy → Copy → List Hop → Type 0
HasEntryWithNeed n cs c hs = (e : Entry) × In e (entries_of n cs) × (e.lan ≡ c.lan) × (e.need ≡ need hs)

pub has_entry_with_need-travel : (n : Net) (count : ℕ) (numbers : List ℕ) (last : Bool)
    (is : List ℕ) (c : Copy)
    (hs : List Hop) → IsNet n → IsTravel n count numbers last is (start n 255) Clean →
    In c (run n (handles is) (start n 255)).carried →
    CameByHops n (run n (handles is) (start n 255)).carried c hs →
    HasEntryWithNeed n (run n (handles is) (start n 255)).carried c hs
has_entry_with_need-travel n count numbers last is c hs net travel c_in by =
    let cs = (run n (handles is) (start n 255)).carried in
    let tree = is_tree-from_clean_travel n count numbers last is net travel in
    let path = is_path-from_travel n count 255 numbers last is Clean c hs net travel c_in by in
    let e = entry-at_path_end n (entries_of n cs) 255 tree (omega arith) hs c.lan path.0 path.1 in
    (e.0, e.1, e.2, e.4)

pub reached_with_ttl-iff_need : (n : Net) (count : ℕ) (numbers : List ℕ) (last : Bool)
    (is : List ℕ) (c : Copy)
    (hs : List Hop) (t : ℕ) → IsNet n → IsTravel n count numbers last is (start n 255) Clean →
    In c (run n (handles is) (start n 255)).carried →
    CameByHops n (run n (handles is) (start n 255)).carried c hs → 1 ≤ t → t ≤ 255 →
    IsReachedWithTtl n t c.lan ↔ (need hs ≤ t)
reached_with_ttl-iff_need n count numbers last is c hs t net travel c_in by low high =
    let cs = (run n (handles is) (start n 255)).carried in
    let tree = is_tree-from_clean_travel n count numbers last is net travel in
    let path = is_path-from_travel n count 255 numbers last is Clean c hs net travel c_in by in
    reached_with_ttl-iff_need_in_tree n (entries_of n cs) hs c.lan t tree path.0 path.1 low high
