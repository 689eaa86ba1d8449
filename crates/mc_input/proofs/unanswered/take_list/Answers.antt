use Rattle.std.proofs.Common.{◌≡◌, ◌∙◌, List, Some, ap, arith, length, refl, subst, sym}
use Rattle.std.specs.Prelude.{slice_get}
use Rattle.std.proofs.lemmas.Option.{slice_get_read}
use Rattle.std.proofs.lemmas.Result.{err_from_is_err_and}
use Rattle.mc_text.specs.Steps.{map_fault}
use Rattle.mc_igmp.specs.declared.record.Record.{Record}
use Rattle.mc_files.specs.Layout.{reports_slot}
use Rattle.mc_asked.specs.LanWants.{LanWantsValue}
use Rattle.mc_asked.specs.UnadmittedSoFar.{AddsLan}
use Rattle.mc_input.specs.ExcludedRouters.{files_without}
use Rattle.mc_input.specs.PartsReading.{reports_of}
use Rattle.mc_input.specs.declared.fault.InputFault.TheVariants.{Reports}
use Rattle.mc_input.proofs.AskedOfFilesLemmas.{IsListOf-at, same_list-read}
use Rattle.mc_input.proofs.unanswered.take_list.Goals as goal

-- The list could be read before, and its file is the same.
pub returns-in_err-list-clause-fault : goal.returns-in_err-list-clause-fault
returns-in_err-list-clause-fault g c = λ lists contents is are.
    let p = err_from_is_err_and c.from_residual.result c.from_residual.ensures.1 in
    let t = c.args.topology.now in
    let lan = c.args.lan in
    let files = files_without c.args.without.now contents in
    let own = IsListOf-at files t lists lan are c.requires.lan in
    let here = c.reports-slot.ensures.slot own.0 own.1 in
    rw (p.1, p.2)
    (c.in_err-list.ensures.fault reports_of (reports_slot own.0) contents own.4.part own.2
    (λ part small. ap (map_fault (Reports part.name)) (c.new-reader.ensures.reads part.bytes))
    here is own.4.made
    (ap (map_fault (Reports own.4.part.name)) own.4.read))

one_own : {x y : LanWantsValue} → Some x ≡ Some y → x ≡ y
one_own e = cc

-- The list that is read once more is the LAN's, since a file has one list of records.
pub returns-clause-sources : goal.returns-clause-sources
returns-clause-sources g c = λ wanted lists contents at is are.
    let wants = c.args.wants.now in
    let t = c.args.topology.now in
    let lan = c.args.lan in
    let files = files_without c.args.without.now contents in
    let own = IsListOf-at files t lists lan are c.requires.lan in
    let here = c.reports-slot.ensures.slot own.0 own.1 in
    let read = c.in_ok-list.ensures.value reports_of (reports_slot own.0) contents
    (λ part small. ap (map_fault (Reports part.name)) (c.new-reader.ensures.reads part.bytes)) here is in
    let list = subst (λ (records : List Record). slice_get lists lan ≡ Some records)
    (same_list-read files own.0 own.2 c.in_ok-list.list own.4 read) own.3 in
    let same = one_own (sym (slice_get_read wants (length wants) lan c.index-wants-lan.result refl
    (omega (arith, c.requires.count, c.requires.lan)) c.index-wants-lan.is) ∙ at) in
    subst (λ (own : LanWantsValue). AddsLan own c.args.sources.now c.add_list.new.self lists lan) same
    (c.in_ok-add_list.ensures lists lan list)

-- A list that isn't needed adds nothing to the sources.
pub returns-then-not-needs_list-clause-sources : goal.returns-then-not-needs_list-clause-sources
returns-then-not-needs_list-clause-sources g c = λ wanted lists contents at is are.
    let wants = c.args.wants.now in
    let lan = c.args.lan in
    let same = one_own (sym (slice_get_read wants (length wants) lan c.index-wants-lan.result refl
    (omega (arith, c.requires.count, c.requires.lan)) c.index-wants-lan.is) ∙ at) in
    subst (λ (own : LanWantsValue). AddsLan own c.args.sources.now c.args.sources.now lists lan) same
    (c.needs_list.ensures.skipped c.if-not-needs_list.true lists lan)
