-- By what each step brings, and since each copy is handled wherever it is heard.
use Rattle.mc_theory.proofs.Paths.{reached_with_ttl-from_carried}
use Rattle.mc_theory.proofs.EachHearerForwards.{carried-from_path}
use Rattle.mc_theory.proofs.path_laws.complete_run_carries_reached_lans.Goals as goal

pub returns : goal.returns
returns c = λ n t ps l net complete. (
  reached_with_ttl-from_carried n t ps l,
  λ r.
      carried-from_path n t ps r.0 l net complete.in_range complete.lossless complete.none_waits r.1 r.2,
)
