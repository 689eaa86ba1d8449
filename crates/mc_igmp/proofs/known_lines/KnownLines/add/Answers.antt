-- The new line comes behind those that were kept.
use Rattle.std.proofs.Common.{List, [], ◌∷◌, ◌++◌, ap, inr, ◌∙◌}
use Rattle.mc_igmp.specs.declared.known_lines.KnownLine.{KnownLine}
use Rattle.mc_igmp.proofs.known_lines.KnownLines.add.Goals as goal

pub returns : goal.returns
returns c =
    let known = c.in_ok-known.known in
    let kept = c.self.view_is ∙ c.slot_of_new.ensures.lines in
    inr (
      known,
      c.mark_last.ensures.lines ∙ c.in_ok-push.ensures.items
          ∙ ap (λ (lines : List KnownLine). lines ++ known ∷ []) kept,
      c.in_ok-known.ensures.text,
      c.in_ok-known.ensures.records,
    )
