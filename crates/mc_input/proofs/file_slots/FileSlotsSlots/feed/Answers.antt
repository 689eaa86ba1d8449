use Rattle.std.proofs.Common.{refl, sym}
use Rattle.std.proofs.lemmas.Result.{err_from_is_err_and}
use Rattle.mc_files.specs.Layout.{part_name}
use Rattle.mc_input.specs.ExcludedRouters.{files_without}
use Rattle.mc_input.specs.Stream.{IsFedPart}
use Rattle.mc_input.proofs.StreamLemmas.{IsFaultOfStream-of_file, ReadsFirst-of_file}
use Rattle.mc_input.proofs.file_slots.FileSlotsSlots.feed.Goals as goal

-- The slot's own file is the first of what the folder gives from its number on, so that its fault is
-- that of the first part.
pub returns-in_err-feed_header_or_file-clause-fault : goal.returns-in_err-feed_header_or_file-clause-fault
returns-in_err-feed_header_or_file-clause-fault g c =
    let p = err_from_is_err_and c.from_residual-in_err-feed_header_or_file.result
    c.from_residual-in_err-feed_header_or_file.ensures.1 in
    let seen = files_without c.args.self.now.without.now in
    let at = c.slot-slot.ensures in
    rw (p.1, p.2) (IsFaultOfStream-of_file c.args.slot.now.topology c.args.slot.now.number
    c.slot-slot.result.now at seen (g.F.FileSource.contents c.args.self.now.files)
    c.in_err-feed_header_or_file.field-0.0 (λ files is loud.
    rw (c.in_err-feed_header_or_file.ensures.fault files (seen files) is
    (c.header_of_slot-header.ensures.header files c.args.slot.now at) loud) refl))

-- The slot's file, or the header in its place, was fed whole, and a folder's other files don't depend
-- on it.
pub returns-clause-part : goal.returns-clause-part
returns-clause-part g c =
    let seen = files_without c.args.self.now.without.now in
    let at = c.slot-slot.ensures in
    ReadsFirst-of_file c.args.slot.now.topology c.args.slot.now.number c.slot-slot.result.now at seen
    (g.F.FileSource.contents c.args.self.now.files) (g.F.FileSource.contents c.feed_header_or_file.new.files)
    (IsFedPart c.in_ok-name.name (g.P.PieceReader.result_after c.args.reader.now)
    (g.P.PieceReader.result_after c.feed_header_or_file.new.reader))
    c.in_ok-feed_header_or_file.ensures.kept (λ files is.
    let x = c.in_ok-feed_header_or_file.ensures.bytes files (seen files) is
    (c.header_of_slot-header.ensures.header files c.args.slot.now at) in (
      record { name = part_name c.slot-slot.result.now; bytes = x.0 },
      rw (x.1) refl,
      (sym c.in_ok-name.ensures, x.2, x.3),
    ))
