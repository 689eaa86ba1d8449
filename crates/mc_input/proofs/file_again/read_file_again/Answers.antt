use Rattle.std.proofs.Common.{List, ap, option_map}
use Rattle.mc_files.specs.Files.{FileText}
use Rattle.mc_input.specs.ExcludedRouters.{files_without}
use Rattle.mc_input.specs.Stream.{files_give}
use Rattle.mc_input.proofs.FileAgainLemmas.{IsReadOfFile-of_slot, IsReadOrMemory-of_slot}
use Rattle.mc_input.proofs.file_again.read_file_again.Goals as goal

-- The slot's own file is the first of what the folder gives from its number on.
pub returns-clause-value : goal.returns-clause-value
returns-clause-value g c = λ read slot contents same at is.
    let t = c.args.slot.now.topology in
    let n = c.args.slot.now.number in
    let seen = files_without c.args.without.now in
    IsReadOfFile-of_slot (seen contents) t n slot at read _ _ c.read_slot-read.result
    (ap (option_map (λ (files : List FileText). files_give t n (seen files))) is)
    (c.read_slot-read.ensures.value read same)

-- The slot's own file is the first of what the folder gives from its number on, and it has no fault of
-- its own.
pub returns-clause-fault : goal.returns-clause-fault
returns-clause-fault g c = λ read slot contents part value same at is made reads.
    let t = c.args.slot.now.topology in
    let n = c.args.slot.now.number in
    let seen = files_without c.args.without.now in
    IsReadOrMemory-of_slot (seen contents) t n slot at read _ c.read_slot-read.result part value
    (ap (option_map (λ (files : List FileText). files_give t n (seen files))) is) made reads
    (c.read_slot-read.ensures.fault read same)
