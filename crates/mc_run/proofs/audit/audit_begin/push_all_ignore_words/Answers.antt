use Rattle.std.proofs.Common.{length, map, refl}
use Rattle.std.specs.String.{string_bytes}
use Rattle.std.proofs.lemmas.Option.{slice_get_read}
use Rattle.mc_json.proofs.LoopStepLemmas.{flat_map-take_more}
use Rattle.mc_run.specs.AuditBegin.{ignore_words}
use Rattle.mc_run.proofs.audit.audit_begin.push_all_ignore_words.Goals as goal

-- The words of the range at this index are appended to those of the ranges before it.
pub loop-range-preserved : goal.loop-range-preserved
loop-range-preserved c =
    let ranges = c.args.ranges.now in
    let n = c.loop-range.range-index in
    flat_map-take_more ignore_words ranges c.range-item.result
    (map string_bytes c.args.words.now.items) (map string_bytes c.loop-range.words.items)
    (map string_bytes c.push_ignore_words.new.words.items) n
    (slice_get_read ranges (length ranges) n c.range-item.result refl c.loop-range-test.true
    c.range-item.is) c.loop-range.invariant c.in_ok-push_ignore_words.ensures
