use Rattle.std.proofs.Common.{◌∙◌, sym}
use Rattle.mc_commands.proofs.MakeLemmas.{is_make_output-certificate, found_lines-empty, found_lines-not_empty}
use Rattle.mc_commands.proofs.MakeLemmas.{is_make_output-lines, belongs_to-made_lists}
use Rattle.mc_commands.proofs.make.make_for_domain.Goals as goal

-- There are lines, so that some flow isn't certified, and these lines are the text.
pub returns-then-not-is_empty : goal.returns-then-not-is_empty
returns-then-not-is_empty c =
    let size = c.in_ok-made.made.lines.bytes.ok.0 in
    let there = found_lines-not_empty _ _ c.is_empty.ensures c.if-not-is_empty.true in
    is_make_output-lines c.args.domain.now _ _ c.in_ok-made.ensures (λ none. there (size ∙ none))

-- There are no lines, so that each flow is certified and has its list.
pub certificate_json-requires : goal.certificate_json-requires
certificate_json-requires c = record {
  valid = (
      let size = c.in_ok-made.made.lines.bytes.ok.0 in
      belongs_to-made_lists c.args.domain.now c.topology.result.now _ _ c.in_ok-made.ensures
      c.topology.ensures.topology
      (sym size ∙ found_lines-empty _ _ c.is_empty.ensures c.if-not-is_empty.false));
}

-- Each flow is certified, and the text is the certificate of the lists.
pub returns : goal.returns
returns c =
    let size = c.in_ok-made.made.lines.bytes.ok.0 in
    is_make_output-certificate c.args.domain.now c.topology.result.now _ _ _ c.in_ok-made.ensures
    c.topology.ensures.topology
    (sym size ∙ found_lines-empty _ _ c.is_empty.ensures c.if-not-is_empty.false) c.in_ok-text.ensures.ok
