use Rattle.std.proofs.Common.{◌≡◌, ◌∙◌, ap, subst, sym}
use Rattle.mc_text.proofs.StepLemmas.{on_ok_map}
use Rattle.mc_files.specs.FilePart.{bytes_within_max_part}
use Rattle.mc_files.specs.Files.{file_named}
use Rattle.mc_files.specs.Layout.{file_name}
use Rattle.mc_input.specs.Feeding.{SeesHeaderOrFile}
use Rattle.mc_input.proofs.fed_file.feed_header_or_file.Goals as goal

-- Without a header the files are seen as they are, so that the slot's own file was fed.
pub returns-in_ok-file-in-None-clause-bytes : goal.returns-in_ok-file-in-None-clause-bytes
returns-in_ok-file-in-None-clause-bytes g c = λ contents seen is sees.
    let same : file_named seen (file_name c.args.slot.now) ≡ file_named contents (file_name c.args.slot.now) =
    subst (SeesHeaderOrFile contents seen c.args.slot.now) c.in-None.is sees in
    on_ok_map c.feed_file.result (c.feed_file.ensures.bytes contents is) (λ fed. (
      fed.0,
      ap bytes_within_max_part
          (same ∙ ap (file_named contents) (sym (c.deref.ensures ∙ c.in_ok-file-in-None.ensures)))
          ∙ fed.1,
      fed.2,
      fed.3,
    ))
