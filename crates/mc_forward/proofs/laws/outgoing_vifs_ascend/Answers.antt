use Rattle.mc_forward.proofs.DomainLemmas.{row_of-vifs_ascend}
use Rattle.mc_forward.proofs.laws.outgoing_vifs_ascend.Goals as goal

-- The vifs of a domain's entry ascend, as the kernel's do, and the row's pairs have them in the same
-- order.
pub returns : goal.returns
returns c = λ d flow router incoming pairs. row_of-vifs_ascend d flow router incoming pairs
