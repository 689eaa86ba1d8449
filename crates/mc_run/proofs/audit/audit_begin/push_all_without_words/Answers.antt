use Rattle.std.proofs.Common.{length, map, refl}
use Rattle.std.specs.String.{string_bytes}
use Rattle.std.proofs.lemmas.Option.{slice_get_read}
use Rattle.mc_json.proofs.LoopStepLemmas.{flat_map-take_more}
use Rattle.mc_run.specs.AuditBegin.{without_words}
use Rattle.mc_run.proofs.audit.audit_begin.push_all_without_words.Goals as goal

-- The words of the router at this index are appended to those of the routers before it.
pub loop-router-preserved : goal.loop-router-preserved
loop-router-preserved c =
    let routers = c.args.routers.now in
    let n = c.loop-router.router-index in
    flat_map-take_more (without_words c.args.topology.now) routers c.router-item.result
    (map string_bytes c.args.words.now.items) (map string_bytes c.loop-router.words.items)
    (map string_bytes c.push_without_words.new.words.items) n
    (slice_get_read routers (length routers) n c.router-item.result refl c.loop-router-test.true
    c.router-item.is) c.loop-router.invariant c.in_ok-push_without_words.ensures
