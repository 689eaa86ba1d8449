-- By the path down the tree, and by the entries along any path.
use Rattle.std.proofs.Common.{refl, ap, arith}
use Rattle.mc_theory.specs.Certificates.{Entry}
use Rattle.mc_theory.proofs.Paths.{need_at_most-from_passes, passes_hops-from_need}
use Rattle.mc_theory.proofs.Paths.{entry-at_path_end, path_to_entry-by_rank}
use Rattle.mc_theory.proofs.ReachedLans.{entry-unique_on_lan}
use Rattle.mc_theory.proofs.path_laws.need_is_the_least_reaching_ttl.Goals as goal

pub returns : goal.returns
returns c = λ n es e tree e_in t low high. (
  (λ r. (let d = entry-at_path_end n es t tree high r.0 e.lan r.1 r.2 in
      let same = ap (λ (e : Entry). e.need) (entry-unique_on_lan n es d.0 e tree d.1 e_in d.2) in
      let least = need_at_most-from_passes t r.0 low r.2 in omega (arith, same, least, d.4))),
  (λ le. (let w = path_to_entry-by_rank n es e.rank e tree e_in refl
      in (w.0, w.1, passes_hops-from_need t w.0 (omega (arith, le, w.3))))),
)
