-- The copy is at the front, and the zeros that it doesn't cover are 64 less its length.
use Rattle.std.proofs.Common.{ℕ, ◌-◌, List, ◌++◌, length, ap, ◌∙◌}
use Rattle.std.specs.Prelude.{replicate}
use Rattle.std.proofs.lemmas.List.{drop-replicate}
use Rattle.mc_bundle.proofs.part_name.padded.Goals as goal

pub returns-clause-value : goal.returns-clause-value
returns-clause-value c =
    let n = length c.args.bytes.now in
    ap (λ (l : List ℕ). c.copy_from_slice.new.self ++ l) (drop-replicate n 64 0)
    ∙ ap (λ (l : List ℕ). l ++ replicate (64 - n) 0) c.copy_from_slice.ensures.after
