use Rattle.std.proofs.Common.{◌≡◌, ◌∙◌, All, List, string_bytes, subst, ap, ap₂, map, sym, rules, refl}
use Rattle.mc_cert.specs.Certificate.{Tree, IsEntryOf, IsWritableTree}
use Rattle.mc_cert.specs.CertificateText.{version_two_text, certificate_json}
use Rattle.mc_cert.specs.Distinct.{distinct_trees}
use Rattle.mc_cert.proofs.DistinctLemmas.{All-distinct_trees}
use Rattle.mc_cert.proofs.TreeLemmas.{version_two_text-AreSharedTrees}
use Rattle.mc_cert.proofs.WrittenCertificates.{certificate_json-denotes_as_written}
use Rattle.mc_cert.proofs.trees.Trees.to_json.Goals as goal

-- Each distinct tree is one of the flows', whose entries are the topology's.
pub push_trees-requires : goal.push_trees-requires
push_trees-requires c = record {
  valid = (
      All-distinct_trees (All (IsEntryOf c.args.topology.now)) c.args.self.now c.args.self.now _ refl
      c.requires.valid.entries
      (c.trees-trees.ensures ∙ c.self.invariant.distinct ∙ ap distinct_trees c.self.view_is));
}

-- The pieces are those of the text in version 2, of the distinct trees and of each flow's number.
pub returns-clause-text : goal.returns-clause-text
returns-clause-text c =
    let is : string_bytes c.push_str-2.new.self
    ≡ version_two_text c.args.topology.now c.deref.result.now
    (map (λ t. t.value.items) c.trees-trees.result.now)
    = search rules in
    is ∙ ap₂ (version_two_text c.args.topology.now) c.deref.ensures.value c.trees-trees.ensures
    ∙ version_two_text-AreSharedTrees c.args.topology.now c.self.inside.distinct c.self.inside.numbers.items
    c.self.invariant ∙ ap (certificate_json c.args.topology.now) c.self.view_is

-- The text of a certificate denotes it. That its numbers are bytes was seen as they were written.
pub returns-clause-denotes : goal.returns-clause-denotes
returns-clause-denotes c = λ few.
    certificate_json-denotes_as_written c.args.topology.now c.args.self.now
    (map (λ t. t.value.items) c.trees-trees.result.now) (string_bytes c.push_str-2.new.self)
    c.flows-rules.ensures.rules c.requires.valid
    (c.trees-trees.ensures ∙ c.self.invariant.distinct ∙ ap distinct_trees c.self.view_is)
    (subst (λ (ts : List Tree). All IsWritableTree ts) (sym c.trees-trees.ensures) c.self.invariant.lists)
    c.in_ok-push_trees.ensures.bytes (returns-clause-text c) few
