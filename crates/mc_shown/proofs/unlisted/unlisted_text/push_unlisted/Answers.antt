-- The pairs that are written are the shown ones, each with all its routers, and the number after them is
-- that of the further rows: the two parts of the text.
use Rattle.std.proofs.Common.{ℕ, List, ◌++◌, ◌∙◌, flat_map, ap, ap₂, append_assoc}
use Rattle.std.specs.String.{string_bytes}
use Rattle.mc_shown.specs.UnlistedText.{further_rows, further_text, unlisted_pair_text}
use Rattle.mc_shown.specs.UnlistedText.{shown_unlisted_pairs, unlisted_pair_lines}
use Rattle.mc_shown.proofs.UnlistedPairLemmas.{flat_map-unlisted_pair_lines}
use Rattle.mc_shown.proofs.unlisted.unlisted_text.push_unlisted.Goals as goal

pub returns : goal.returns
returns c =
    let t = c.args.topology.now in
    let summary = c.args.summary.now in
    let old = string_bytes c.args.text.now in
    let pairs = shown_unlisted_pairs c.args.all summary in
    let is = c.in_ok-unlisted.ensures in
    record {
      lines = c.in_ok-write.ensures.bytes
          ∙ ap₂ (λ (shown_part : List ℕ) (more : ℕ). shown_part ++ further_text more)
          (c.in_ok-push_pairs.ensures
          ∙ ap (λ (shown : List ((ℕ × ℕ) × List ℕ)).
          old ++ flat_map (λ (pair : (ℕ × ℕ) × List ℕ). unlisted_pair_text t pair.0 pair.1) shown)
          (c.deref.ensures.value ∙ is.shown)
          ∙ ap (λ (shown_part : List ℕ). old ++ shown_part) (flat_map-unlisted_pair_lines t summary pairs))
          is.further
          ∙ append_assoc old (flat_map (unlisted_pair_lines t summary) pairs)
          (further_text (further_rows c.args.all t summary));
    }
