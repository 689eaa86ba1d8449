use Rattle.std.proofs.Common.{sym, ◌∙◌, ap, ◌+◌, ◌∷◌, List, ℕ, take}
use Rattle.std.specs.Prelude.{◌==◌}
use Rattle.std.specs.List.{slice_split}
use Rattle.std.proofs.lemmas.List.{take_rest}
use Rattle.mc_text.proofs.Searches.{slice_split-found, slice_split-not_found}
use Rattle.mc_tables.proofs.cache.outgoing.split_at_colon.Goals as goal

-- A word without a colon isn't split.
pub returns-in_err-colon-clause-only : goal.returns-in_err-colon-clause-only
returns-in_err-colon-clause-only c =
    rw c.from_residual.ensures
    (slice_split-not_found (λ b. b == 58) c.args.word.now (sym c.first_colon.ensures ∙ c.in_err-colon.was))

-- The part before the first colon has none, so that it is the first part of all.
pub returns-clause-found : goal.returns-clause-found
returns-clause-found c =
    let colon = c.in_ok-colon.colon in
    slice_split-found (λ b. b == 58) c.args.word.now 0 colon
    (sym c.first_colon.ensures ∙ c.in_ok-colon.was)
    ∙ ap (λ (rest : List ℕ). take colon c.args.word.now ∷ slice_split (λ b. b == 58) rest)
    (sym (take_rest c.args.word.now (colon + 1)))
