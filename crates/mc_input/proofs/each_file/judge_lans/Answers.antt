use Rattle.std.proofs.Common.{◌∙◌, ◌∷◌, [], ap, arith, map, refl, rules}
use Rattle.mc_text.specs.Steps.{map_fault}
use Rattle.mc_files.specs.Layout.{reports_slot}
use Rattle.mc_forward.proofs.IndexLemmas.{slice_get-exists}
use Rattle.mc_input.specs.PartsReading.{reports_of}
use Rattle.mc_input.specs.RefusedFiles.{as_judged_file, judged_reports}
use Rattle.mc_input.specs.declared.fault.InputFault.TheVariants.{Reports}
use Rattle.mc_input.proofs.JudgedFilesLemmas.{JudgesFiles-lans_all, JudgesFiles-lans_more, JudgesFiles-none}
use Rattle.mc_input.proofs.JudgedFilesLemmas.{JudgesFiles-same_source}
use Rattle.mc_input.proofs.each_file.judge_lans.Goals as goal

-- The list grows by the next LAN's file, if that has a fault.
pub loop-lan-preserved : goal.loop-lan-preserved
loop-lan-preserved g c =
    let t = c.args.topology.now in
    let k = c.loop-lan.lan in
    let contents = g.F.FileSource.contents c.args.files.now in
    let between = map as_judged_file c.loop-lan.refused.items in
    let new = map as_judged_file c.judge_slot.new.refused.items in
    let middle = g.F.FileSource.failed c.loop-lan.files in
    let after = g.F.FileSource.failed c.judge_slot.new.files in
    let lan = slice_get-exists t.lans k (omega (arith, c.loop-lan-test.true, c.loop-lan.invariant.count)) in
    let at = c.reports-slot.ensures.slot lan.0 lan.1 in
    record {
      count = c.loop-lan.invariant.count;
      room = search rules;
      same = c.judge_slot.ensures.same ∙ c.loop-lan.invariant.same;
      kept = c.judge_slot.ensures.kept ∙ c.loop-lan.invariant.kept;
      judged = JudgesFiles-lans_more contents t.lans k (map as_judged_file c.args.refused.now.items)
          between new (g.F.FileSource.failed c.args.files.now) middle after lan.0 lan.1
          c.loop-lan.invariant.judged
          (JudgesFiles-same_source contents (g.F.FileSource.contents c.loop-lan.files)
          (λ known. judged_reports known lan.0 ∷ []) between new middle after c.loop-lan.invariant.kept
          (c.in_ok-judge_slot.ensures.judged reports_of (reports_slot lan.0)
          (λ part small. ap (map_fault (Reports part.name)) (c.new-reader.ensures.reads part.bytes)) at));
    }

-- After the last LAN the files of all LANs were judged.
pub returns-clause-judged : goal.returns-clause-judged
returns-clause-judged g c =
    JudgesFiles-lans_all (g.F.FileSource.contents c.args.files.now) c.args.topology.now.lans c.loop-lan.lan
    (map as_judged_file c.args.refused.now.items) (map as_judged_file c.loop-lan.refused.items)
    (g.F.FileSource.failed c.args.files.now) (g.F.FileSource.failed c.loop-lan.files)
    (omega (arith, c.loop-lan-test.false, c.loop-lan.invariant.count)) c.loop-lan.invariant.judged

-- Before the first LAN no file was judged.
pub loop-lan-init : goal.loop-lan-init
loop-lan-init g c = record {
  count = search rules;
  room = c.requires.room;
  same = refl;
  kept = refl;
  judged = JudgesFiles-none (g.F.FileSource.contents c.args.files.now)
      (map as_judged_file c.args.refused.now.items) (g.F.FileSource.failed c.args.files.now);
}
