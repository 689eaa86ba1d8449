use Rattle.std.proofs.Common.{◌≡◌, refl, ap, arith, ◌∙◌}
use Rattle.std.proofs.lemmas.List.{length-set}
use Rattle.mc_asked.specs.GroupRun.{with_run}
use Rattle.mc_asked.specs.WantStates.{want_with_row}
use Rattle.mc_asked.proofs.GroupRunLemmas.{with_run-more, with_run-none}
use Rattle.mc_asked.proofs.want_states.add_to_run.Goals as goal

-- A run that ends where it begins changes nothing.
pub loop-place-init : goal.loop-place-init
loop-place-init c =
    let f = want_with_row c.args.vifs.now c.args.key.now c.args.entry.now in
    record { size = refl; items = with_run-none f c.args.wants.now.items c.args.run.0 }

-- The want at this place is the first behind the run so far, and has not yet been changed.
pub loop-place-preserved : goal.loop-place-preserved
loop-place-preserved c =
    let f = want_with_row c.args.vifs.now c.args.key.now c.args.entry.now in
    let before = c.args.wants.now.items in
    let now = c.loop-place.wants.items in
    let place = c.loop-place.place in
    record {
      size = length-set now place c.add_row.new.self ∙ c.loop-place.invariant.size;
      items = with_run-more f before now c.args.run.0 place c.add_row.new.self _ c.loop-place.auto.place
          (omega (arith, c.loop-place-test.true, c.requires.within)) c.loop-place.invariant.items
          (c.add_row.ensures ∙ ap f c.index_mut.ensures.value);
    }

-- At the end the run so far is the whole run.
pub returns : goal.returns
returns c =
    let f = want_with_row c.args.vifs.now c.args.key.now c.args.entry.now in
    let run = c.args.run in
    let end : c.loop-place.place ≡ run.1 =
    omega (arith, c.loop-place-test.false, c.loop-place.auto.place-end c.requires.ordered) in
    c.loop-place.invariant.items ∙ ap (λ n. with_run f (run.0, n) c.args.wants.now.items) end
