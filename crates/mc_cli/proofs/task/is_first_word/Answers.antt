use Rattle.std.proofs.Common.{map}
use Rattle.std.proofs.lemmas.Bool.{false≢true}
use Rattle.mc_cli.proofs.FirstWordLemmas.{IsFirstWord-iff_equal, not_IsFirstWord-only_program_name}
use Rattle.mc_cli.proofs.FirstWordLemmas.{slice_get-map_read}
use Rattle.mc_cli.proofs.task.is_first_word.Goals as goal

-- The word behind the program's name is there, and is compared byte by byte.
pub returns-in-Some : goal.returns-in-Some
returns-in-Some c =
    let words = c.args.words.now in
    let lookup = c.in-Some.ensures.lookup in
    let read = slice_get-map_read words 1 c.in-Some.first.now lookup.3.0 lookup.1 in
    IsFirstWord-iff_equal (map (λ word. word.now) words) c.in-Some.first.now.now c.args.word.now c.eq.result
    read c.eq.ensures

-- Where the program's name is the only word, none is the first behind it.
pub returns-in-None : goal.returns-in-None
returns-in-None c = (
  λ is. absurd (false≢true is),
  λ asked. absurd (not_IsFirstWord-only_program_name c.args.words.now c.args.word.now
      c.in-None.ensures.lookup.3 asked),
)
