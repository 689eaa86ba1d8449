use Rattle.std.proofs.Common.{List, ℕ, map}
use Rattle.std.specs.Prelude.{flat_map}
use denote.Ref.{Bor}
use Rattle.mc_text.proofs.StepLemmas.{on_ok_map}
use Rattle.mc_input.specs.RefusedFiles.{judged_reports, judged_tables, as_judged_file}
use Rattle.mc_input.proofs.JudgedFilesLemmas.{JudgesFiles-append, JudgesFiles-same_source}
use Rattle.mc_input.proofs.each_file.judge_topologys_files.Goals as goal

-- The files of the routers are judged, and then those of the LANs, which are all that a topology
-- names.
pub returns-clause-judged : goal.returns-clause-judged
returns-clause-judged g c =
    let contents = g.F.FileSource.contents c.args.files.now in
    let names = map (λ (n : Bor (List ℕ)). n.now) c.args.without.now in
    let t = c.args.topology.now in
    let between = map as_judged_file c.judge_routers.new.refused.items in
    let new = map as_judged_file c.judge_lans.new.refused.items in
    let middle = g.F.FileSource.failed c.judge_routers.new.files in
    let after = g.F.FileSource.failed c.judge_lans.new.files in
    on_ok_map c.judge_lans.result c.judge_lans.ensures.judged (λ lans.
    JudgesFiles-append contents (λ known. flat_map (judged_tables names known) t.routers)
    (λ known. map (judged_reports known) t.lans) (map as_judged_file c.args.refused.now.items) between new
    (g.F.FileSource.failed c.args.files.now) middle after c.in_ok-judge_routers.ensures.judged
    (JudgesFiles-same_source contents (g.F.FileSource.contents c.judge_routers.new.files)
    (λ known. map (judged_reports known) t.lans) between new middle after
    c.judge_routers.ensures.kept lans))
