use Rattle.std.proofs.Common.{List, ℕ, Ok, ap, map}
use denote.Ref.{Bor}
use Rattle.mc_text.proofs.StepLemmas.{on_ok_map}
use Rattle.mc_input.specs.RefusedFiles.{judged_with_topology, as_judged_file}
use Rattle.mc_input.proofs.JudgedFilesLemmas.{OnOk-both}
use Rattle.mc_input.proofs.RefusedLemmas.{saturating_failures-topology_alone}
use Rattle.mc_input.proofs.RefusedLemmas.{saturating_failures-with_topology}
use Rattle.mc_input.proofs.RefusedLemmas.{AreRefusedFiles-topology_alone_of_source}
use Rattle.mc_input.proofs.RefusedLemmas.{AreRefusedFiles-with_topology_of_source}
use Rattle.mc_input.proofs.each_file.judge_all_files.Goals as goal

-- The topology has no fault, so that the refused files are among those that it names.
pub returns-in-Ok-clause-refused : goal.returns-in-Ok-clause-refused
returns-in-Ok-clause-refused g c = λ contents is.
    on_ok_map c.judge_topologys_files.result c.judge_topologys_files.ensures.judged (λ judges.
    AreRefusedFiles-with_topology_of_source (map (λ (n : Bor (List ℕ)). n.now) c.args.without.now) contents
    (g.F.FileSource.contents c.args.files.now) (g.F.FileSource.contents c.topology_unless_u64_max.new.files)
    c.in-Ok.topology (map as_judged_file c.args.refused.now.items)
    (map as_judged_file c.judge_topologys_files.new.refused.items)
    (g.F.FileSource.failed c.topology_unless_u64_max.new.files)
    (g.F.FileSource.failed c.judge_topologys_files.new.files)
    is c.topology_unless_u64_max.ensures.kept (ap (map as_judged_file) c.requires.empty)
    (c.in-Ok.ensures.topology contents is) judges)

-- Reading the topology failed at nothing, so that all failures are those of the files that it names.
pub returns-in-Ok-clause-failures : goal.returns-in-Ok-clause-failures
returns-in-Ok-clause-failures g c =
    on_ok_map c.judge_topologys_files.result c.judge_topologys_files.ensures.judged (λ judges.
    saturating_failures-with_topology (g.F.FileSource.contents c.topology_unless_u64_max.new.files)
    (λ known. judged_with_topology (map (λ (n : Bor (List ℕ)). n.now) c.args.without.now) known
    (Ok c.in-Ok.topology))
    (map as_judged_file c.args.refused.now.items)
    (map as_judged_file c.judge_topologys_files.new.refused.items)
    (g.F.FileSource.failed c.args.files.now) (g.F.FileSource.failed c.topology_unless_u64_max.new.files)
    (g.F.FileSource.failed c.judge_topologys_files.new.files) (ap (map as_judged_file) c.requires.empty)
    c.in-Ok.ensures.failures judges)

-- A refused topology is listed alone, since it names no other file.
pub returns-in-Err-clause-refused : goal.returns-in-Err-clause-refused
returns-in-Err-clause-refused g c = λ contents is.
    OnOk-both c.push_if_fault.result c.push_if_fault.ensures.listed c.push_if_fault.ensures.not_out_of_memory
    (λ pushed enough.
    AreRefusedFiles-topology_alone_of_source (map (λ (n : Bor (List ℕ)). n.now) c.args.without.now) contents
    (g.F.FileSource.contents c.args.files.now) c.in-Err.fault c.topology.result
    (map as_judged_file c.args.refused.now.items) (map as_judged_file c.push_if_fault.new.refused.items)
    is c.topology.ensures (ap (map as_judged_file) c.requires.empty)
    (c.in-Err.ensures.topology contents is) pushed enough)

-- The topology's file is the only one that was read, and its fault is listed.
pub returns-in-Err-clause-failures : goal.returns-in-Err-clause-failures
returns-in-Err-clause-failures g c =
    on_ok_map c.push_if_fault.result c.push_if_fault.ensures.listed (λ pushed.
    saturating_failures-topology_alone c.in-Err.fault c.topology.result
    (map as_judged_file c.args.refused.now.items) (map as_judged_file c.push_if_fault.new.refused.items)
    (g.F.FileSource.failed c.args.files.now) (g.F.FileSource.failed c.topology_unless_u64_max.new.files)
    (ap (map as_judged_file) c.requires.empty) c.in-Err.ensures.failures pushed)
