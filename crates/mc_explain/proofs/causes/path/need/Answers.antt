-- Before any hop a packet needs a TTL of 1.
use Rattle.mc_explain.proofs.NeedLemmas.{need_so_far-none}
use Rattle.mc_explain.proofs.causes.path.need.Goals as goal

pub loop-hop-init : goal.loop-hop-init
loop-hop-init c = need_so_far-none c.args.hops.now
