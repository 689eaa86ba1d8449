use Rattle.std.proofs.Common.{List, ℕ, arith, map, refl, rules, ◌∙◌}
use denote.Ref.{Bor}
use Rattle.mc_forward.proofs.IndexLemmas.{slice_get-exists}
use Rattle.mc_input.specs.RefusedFiles.{as_judged_file, judged_tables}
use Rattle.mc_input.proofs.JudgedFilesLemmas.{JudgesFiles-none, JudgesFiles-routers_all}
use Rattle.mc_input.proofs.JudgedFilesLemmas.{JudgesFiles-routers_more, JudgesFiles-same_source}
use Rattle.mc_input.proofs.each_file.judge_routers.Goals as goal

-- Before the first router no file was judged.
pub loop-router-init : goal.loop-router-init
loop-router-init g c = record {
  count = search rules;
  room = c.requires.room;
  same = refl;
  kept = refl;
  judged = JudgesFiles-none (g.F.FileSource.contents c.args.files.now)
      (map as_judged_file c.args.refused.now.items) (g.F.FileSource.failed c.args.files.now);
}

-- The list grows by those of the next router's two files that have a fault, or by none if it is
-- excluded.
pub loop-router-preserved : goal.loop-router-preserved
loop-router-preserved g c =
    let t = c.args.topology.now in
    let k = c.loop-router.router in
    let contents = g.F.FileSource.contents c.args.files.now in
    let names = map (λ (n : Bor (List ℕ)). n.now) c.args.without.now in
    let between = map as_judged_file c.loop-router.refused.items in
    let new = map as_judged_file c.judge_tables.new.refused.items in
    let middle = g.F.FileSource.failed c.loop-router.files in
    let after = g.F.FileSource.failed c.judge_tables.new.files in
    let r = slice_get-exists t.routers k
    (omega (arith, c.loop-router-test.true, c.loop-router.invariant.count)) in
    record {
      count = c.loop-router.invariant.count;
      room = search rules;
      same = c.judge_tables.ensures.same ∙ c.loop-router.invariant.same;
      kept = c.judge_tables.ensures.kept ∙ c.loop-router.invariant.kept;
      judged = JudgesFiles-routers_more contents names t.routers k
          (map as_judged_file c.args.refused.now.items)
          between new (g.F.FileSource.failed c.args.files.now) middle after r.0 r.1
          c.loop-router.invariant.judged
          (JudgesFiles-same_source contents (g.F.FileSource.contents c.loop-router.files)
          (λ known. judged_tables names known r.0) between new middle after c.loop-router.invariant.kept
          (c.in_ok-judge_tables.ensures.judged r.0 r.1));
    }

-- After the last router the files of all routers were judged.
pub returns-clause-judged : goal.returns-clause-judged
returns-clause-judged g c =
    JudgesFiles-routers_all (g.F.FileSource.contents c.args.files.now)
    (map (λ (n : Bor (List ℕ)). n.now) c.args.without.now)
    c.args.topology.now.routers c.loop-router.router
    (map as_judged_file c.args.refused.now.items) (map as_judged_file c.loop-router.refused.items)
    (g.F.FileSource.failed c.args.files.now) (g.F.FileSource.failed c.loop-router.files)
    (omega (arith, c.loop-router-test.false, c.loop-router.invariant.count)) c.loop-router.invariant.judged
