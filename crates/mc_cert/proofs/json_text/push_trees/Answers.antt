use Rattle.std.proofs.Common.{◌++◌, ◌≤◌, ◌∙◌, All, [], length, ap, sym, subst}
use Rattle.std.proofs.Common.{string_bytes, rules, arith, append-nil}
use Rattle.std.proofs.lemmas.List.{get_or-map, length-map, drop_all, take_all}
use Rattle.std.proofs.lemmas.List.Elements.{All-more, All-map}
use Rattle.std.proofs.lemmas.Simd.{map-map}
use Rattle.mc_cert.specs.Certificate.{Tree, IsEntryOf, HasByteNumbers}
use Rattle.mc_cert.specs.CertificateText.{listed, tree_text}
use Rattle.mc_cert.proofs.TextLemmas.{listed_after-more}
use Rattle.mc_cert.proofs.json_text.push_trees.Goals as goal

-- The next tree is one of those whose entries are the topology's.
pub push_tree-requires : goal.push_tree-requires
push_tree-requires c = record {
  valid = (
      let trees = c.args.trees.now in
      let i = c.loop-tree.tree-index in
      subst (λ (es : Tree). All (IsEntryOf c.args.topology.now) es)
      (get_or-map (λ t. t.value.items) trees i c.tree-item.result [] c.loop-tree-test.true
      ∙ ap (λ t. t.value.items) (sym c.tree-item.is)
      ∙ sym (c.as_slice.ensures.value ∙ ap (λ v. v.items) c.deref.ensures))
      (c.requires.valid i [] (omega (arith, c.loop-tree-test.true, length-map trees (λ t. t.value.items)))));
}

-- The separator and the tree's text are the next pieces of the list of texts.
pub loop-tree-preserved : goal.loop-tree-preserved
loop-tree-preserved c =
    let trees = c.args.trees.now in
    let i = c.loop-tree.tree-index in
    let mine = c.as_slice.ensures.value ∙ ap (λ v. v.items) c.deref.ensures in
    record {
      is_text = search rules;
      so_far =
          listed_after-more (λ t. tree_text c.args.topology.now t.value.items) c.loop-tree.separator.now
          (string_bytes c.loop-tree.text) _ (string_bytes c.push_tree.new.text) trees i
          c.tree-item.result c.loop-tree-test.true c.tree-item.is
          (c.in_ok-push_tree.ensures.text
          ∙ ap (λ s. s ++ tree_text c.args.topology.now c.as_slice.result.now)
          c.in_ok-push_str.ensures.bytes
          ∙ ap (λ es. (string_bytes c.loop-tree.text ++ c.loop-tree.separator.now)
          ++ tree_text c.args.topology.now es) mine)
          c.loop-tree.invariant.so_far;
      bytes = All-more (λ t. All HasByteNumbers t.value.items) trees i c.tree-item.result
          c.loop-tree-test.true c.loop-tree.invariant.bytes
          (subst (λ (es : Tree). All HasByteNumbers es)
          (mine ∙ ap (λ t. t.value.items) c.tree-item.is) c.in_ok-push_tree.ensures.bytes);
    }

-- At the end no text is to come, so that the whole list was appended.
pub returns-clause-text : goal.returns-clause-text
returns-clause-text c =
    let past : length c.args.trees.now ≤ c.loop-tree.tree-index =
    omega (arith, c.loop-tree-test.false) in
    sym (append-nil (string_bytes c.loop-tree.text))
    ∙ (rw (drop_all c.loop-tree.tree-index c.args.trees.now past) at c.loop-tree.invariant.so_far)
    ∙ ap (λ texts. string_bytes c.args.text.now ++ listed texts)
    (sym (map-map (tree_text c.args.topology.now) (λ t. t.value.items) c.args.trees.now))

-- At the end the trees so far are all trees.
pub returns-clause-bytes : goal.returns-clause-bytes
returns-clause-bytes c =
    let past : length c.args.trees.now ≤ c.loop-tree.tree-index =
    omega (arith, c.loop-tree-test.false) in
    All-map (All HasByteNumbers) (λ t. t.value.items) c.args.trees.now
    (rw (take_all c.loop-tree.tree-index c.args.trees.now past) at c.loop-tree.invariant.bytes)
