use Rattle.std.proofs.Common.{[]}
use Rattle.mc_files.specs.Files.{file_named}
use Rattle.mc_input.proofs.FilesFeedLemmas.{bytes_within_max_part-fed, bytes_within_max_part-Err}
use Rattle.mc_input.proofs.FilesFeedLemmas.{file_named-from_open}
use Rattle.mc_input.proofs.fed_file.feed_file.Goals as goal

-- What is left of a file when it is opened is the whole file, and that was fed to its end.
pub returns-clause-bytes : goal.returns-clause-bytes
returns-clause-bytes g c = λ contents is.
    let found = file_named-from_open c.args.name.now contents _ _ is c.in_ok-open.ensures.bytes in
    bytes_within_max_part-fed (file_named contents c.args.name.now) found.0 c.feed_open-fed.result
    (g.P.PieceReader.result_after c.args.reader.now)
    (g.P.PieceReader.result_after c.feed_open-fed.new.reader [])
    found.1 (c.feed_open-fed.ensures.within found.0 found.2)

-- Feeding fails by the source or for too many bytes, and the file that was opened has too many.
pub returns-clause-fault : goal.returns-clause-fault
returns-clause-fault g c = λ contents is.
    let found = file_named-from_open c.args.name.now contents _ _ is c.in_ok-open.ensures.bytes in
    bytes_within_max_part-Err (file_named contents c.args.name.now) found.0 c.feed_open-fed.result found.1
    (c.feed_open-fed.ensures.too_large found.0 found.2)
