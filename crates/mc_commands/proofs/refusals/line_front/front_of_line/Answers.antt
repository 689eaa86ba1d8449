use Rattle.mc_commands.proofs.LineFrontLemmas.{is_front_in_file-found}
use Rattle.mc_commands.proofs.refusals.line_front.front_of_line.Goals as goal

-- The open file gives the text that the source has under this name, and the front is that of its line.
pub returns-in-Ok-clause-front : goal.returns-in-Ok-clause-front
returns-in-Ok-clause-front g c =
    is_front_in_file-found (λ front. front.items) (g.F.FileSource.contents c.args.files.now)
    (g.F.PieceSource.left c.open.new.self)
    c.args.name.now c.args.line c.front_in_open_file.result c.in-Ok.ensures.bytes
    c.front_in_open_file.ensures.bounded
    c.front_in_open_file.ensures.front
