use Rattle.std.proofs.Common.{ℕ, ◌∙◌, [], ◌∷◌, List, ap, map, sym}
use Rattle.std.specs.List.{list_any}
use Rattle.std.specs.Str.{bytes_eq}
use denote.Ref.{Bor}
use Rattle.mc_text.specs.Steps.{map_fault}
use Rattle.mc_text.specs.declared.text.addr.Order.{Order}
use Rattle.mc_files.specs.Layout.{cache_slot, vif_slot}
use Rattle.mc_input.specs.PartsReading.{cache_of, vifs_of}
use Rattle.mc_input.specs.RefusedFiles.{JudgedFile, as_judged_file, judged_file}
use Rattle.mc_input.specs.declared.fault.InputFault.TheVariants.{Cache, Vif}
use Rattle.mc_input.proofs.CacheLemmas.{listed_part}
use Rattle.mc_input.proofs.JudgedFilesLemmas.{JudgesFiles-excluded_router, JudgesFiles-router}
use Rattle.mc_input.proofs.JudgedFilesLemmas.{JudgesFiles-same_files}
use Rattle.mc_input.proofs.FileFaultLemmas.{judged_file-listed_part}
use Rattle.mc_input.proofs.JudgedFilesLemmas.{JudgesFiles-same_source}
use Rattle.mc_input.proofs.WalkLemmas.{name-at, order-at}
use Rattle.mc_text.proofs.StepLemmas.{on_ok_map}
use Rattle.mc_input.proofs.each_file.judge_tables.Goals as goal

-- An excluded router has no file to judge.
pub returns-then-is_excluded-clause-judged : goal.returns-then-is_excluded-clause-judged
returns-then-is_excluded-clause-judged g c = λ r at.
    let names = map (λ (n : Bor (List ℕ)). n.now) c.args.without.now in
    let name = name-at _ r c.router_name.result.now c.router_name.ensures.name at in
    JudgesFiles-excluded_router (g.F.FileSource.contents c.args.files.now) names r
    (ap (λ (own : List ℕ). list_any (λ n. bytes_eq n own) names) (sym name)
    ∙ sym c.is_excluded.ensures ∙ c.if-is_excluded.true) (map as_judged_file c.args.refused.now.items)
    (g.F.FileSource.failed c.args.files.now)

-- The router's two files are judged one after the other, each by the reader of its kind; which rows a
-- cache's reader lists makes no difference to its faults.
pub returns-clause-judged : goal.returns-clause-judged
returns-clause-judged g c = λ r at.
    let contents = g.F.FileSource.contents c.args.files.now in
    let between_contents = g.F.FileSource.contents c.judge_slot.new.files in
    let names = map (λ (n : Bor (List ℕ)). n.now) c.args.without.now in
    let name = name-at _ r c.router_name.result.now c.router_name.ensures.name at in
    let order = order-at _ r c.order-order.result c.order-order.ensures.item at in
    let own = ap (λ (own : List ℕ). list_any (λ n. bytes_eq n own) names) (sym name)
    ∙ sym c.is_excluded.ensures ∙ c.if-is_excluded.false in
    let vif_at = c.vifs-vif_slot.ensures.slot r at in
    let cache_at = c.cache-cache_slot.ensures.slot r at in
    let before = g.F.FileSource.failed c.args.files.now in
    let middle = g.F.FileSource.failed c.judge_slot.new.files in
    let after = g.F.FileSource.failed c.judge_slot-2.new.files in
    let old = map as_judged_file c.args.refused.now.items in
    let between = map as_judged_file c.judge_slot.new.refused.items in
    let new = map as_judged_file c.judge_slot-2.new.refused.items in
    let read = listed_part c.order-order.result c.in_ok-clone.field-0 in
    on_ok_map c.judge_slot-2.result (c.judge_slot-2.ensures.judged read (cache_slot r.name)
    (λ part small. ap (map_fault (Cache part.name)) (c.new-cache.ensures.reads part.bytes small)) cache_at)
    (λ judged. JudgesFiles-router contents names r own old between new before middle after
    (c.in_ok-judge_slot.ensures.judged vifs_of (vif_slot r.name)
    (λ part small. ap (map_fault (Vif part.name)) (c.new-vifs.ensures.reads part.bytes small)) vif_at)
    (JudgesFiles-same_source contents between_contents
    (λ known. judged_file known (cache_slot r.name) (cache_of r.order) ∷ []) between new middle after
    c.judge_slot.ensures.kept
    (JudgesFiles-same_files between_contents (λ known. judged_file known (cache_slot r.name) read ∷ [])
    (λ known. judged_file known (cache_slot r.name) (cache_of r.order) ∷ []) between new middle after
    (λ known. ap (λ (file : JudgedFile). file ∷ [])
    (judged_file-listed_part known (cache_slot r.name) c.order-order.result c.in_ok-clone.field-0
    ∙ ap (λ (o : Order). judged_file known (cache_slot r.name) (cache_of o)) order)) judged)))
