use Rattle.std.proofs.Common.{◌≡◌, ◌∙◌, Some, map, sym}
use Rattle.mc_files.specs.Layout.{Slot}
use Rattle.mc_input.specs.RefusedFiles.{as_judged_file}
use Rattle.mc_input.proofs.JudgedFilesLemmas.{JudgesFiles-one_of_slot, OnOk-both}
use Rattle.mc_input.proofs.refused_file.judge_slot.Goals as goal

one_slot : {x y : Slot} → Some x ≡ Some y → x ≡ y
one_slot e = cc

-- The one file was judged as the source gave it, and is listed exactly if it has a fault.
pub returns-clause-judged : goal.returns-clause-judged
returns-clause-judged g c = λ read slot same at.
    OnOk-both c.push_if_fault.result c.push_if_fault.ensures.listed c.push_if_fault.ensures.not_out_of_memory
    (λ pushed enough.
    JudgesFiles-one_of_slot (g.F.FileSource.contents c.args.files.now) slot read
    c.slot_fault-fault.result (map as_judged_file c.args.refused.now.items)
    (map as_judged_file c.push_if_fault.new.refused.items)
    (g.F.FileSource.failed c.args.files.now) (g.F.FileSource.failed c.slot_fault-fault.new.files)
    c.slot.result.now (one_slot (sym c.slot.ensures ∙ at)) pushed enough c.slot_fault-fault.ensures.failures
    (λ known is. c.slot_fault-fault.ensures.fault read slot known same at is))
