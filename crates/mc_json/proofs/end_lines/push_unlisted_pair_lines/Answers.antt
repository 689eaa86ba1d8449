use Rattle.std.proofs.Common.{length, refl}
use Rattle.std.specs.String.{string_bytes}
use Rattle.std.proofs.lemmas.Option.{slice_get_read}
use Rattle.mc_json.specs.EndData.{unlisted_line}
use Rattle.mc_json.proofs.LoopStepLemmas.{flat_map-take_more}
use Rattle.mc_json.proofs.end_lines.push_unlisted_pair_lines.Goals as goal

-- The line of the pair at this place is appended to those of the pairs before it.
pub loop-pair-preserved : goal.loop-pair-preserved
loop-pair-preserved c =
    let shown = c.args.shown.now in
    let n = c.loop-pair.pair-index in
    flat_map-take_more (unlisted_line c.args.topology.now) shown c.pair-item.result
    (string_bytes c.args.text.now) (string_bytes c.loop-pair.text) (string_bytes
    c.push_unlisted_line.new.text) n
    (slice_get_read shown (length shown) n c.pair-item.result refl c.loop-pair-test.true
    c.pair-item.is)
    c.loop-pair.invariant c.in_ok-push_unlisted_line.ensures
