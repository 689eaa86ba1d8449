use Rattle.std.proofs.Common.{◌≡◌, ◌<◌, ℕ, All, List, length, map, subst, refl, sym, arith}
use Rattle.std.proofs.lemmas.List.{length-map}
use Rattle.mc_cert.specs.Certificate.{Tree}
use Rattle.mc_cert.specs.Denotation.{DenotesCertificate}
use Rattle.mc_cert.proofs.Documents.{AllByRecursion-from_All}
use Rattle.mc_cert.proofs.PieceLemmas.{version_two_text-pieces}
use Rattle.mc_cert.proofs.TextDenotation.{IsTextEnd-from_rest, version_two_text-denotes}
use Rattle.mc_cert.proofs.compact.compact_certificate.Goals as goal

-- A tree that was read has at most 1,024 entries, each of which a text can have.
pub from_trees-requires-clause-lists : goal.from_trees-requires-clause-lists
from_trees-requires-clause-lists c = λ k d below.
    let is = c.in-Ok-read_trees.ensures.writable k d below in
    record { few = is.few; each = λ i e within. (is.each i e within).writable }

-- The pieces that were read, one after the other, are the text of these trees and numbers in version 2,
-- with or without a line feed at its end; and such a text denotes them.
pub returns : goal.returns
returns c =
    let tree_numbers = c.in-Ok.tree_numbers.items in
    let trees = map (λ t. t.items) c.in-Ok-read_trees.trees.items in
    let many : c.len.result ≡ length trees =
    omega (arith, length-map c.in-Ok-read_trees.trees.items (λ t. t.items)) in
    let named : All (λ n. n < length trees) tree_numbers =
    subst (λ (m : ℕ). All (λ n. n < m) tree_numbers) many
    (subst (λ (ns : List ℕ). All (λ n. n < c.len.result) ns) c.deref.ensures.value
    (c.if-not-are_below.ensures refl)) in
    subst (λ (flows : List Tree). DenotesCertificate c.args.topology.now c.args.text.now flows)
    (sym c.from_trees.ensures.flows)
    (version_two_text-denotes c.args.topology.now tree_numbers trees c.args.text.now
    c.in-Some-after_prefix-2.rest.now
    c.flows-rules.ensures.rules (omega (arith, c.in-Ok.ensures.count))
    (AllByRecursion-from_All (λ n. n < length trees) tree_numbers named)
    (omega (arith, many, c.in-Ok-read_trees.ensures.few)) c.in-Ok-read_trees.ensures.writable
    (omega (arith, c.if-text-gt-MAX_TEXT.false))
    (version_two_text-pieces c.args.topology.now tree_numbers trees c.args.text.now c.in-Some.rest.now
    c.in-Ok.rest.now c.in-Some-after_prefix.rest.now c.in-Ok-read_trees.rest.now
    c.in-Some-after_prefix-2.rest.now c.in-Some.ensures c.in-Ok.ensures.text c.in-Some-after_prefix.ensures
    c.in-Ok-read_trees.ensures.text c.in-Some-after_prefix-2.ensures)
    (IsTextEnd-from_rest c.in-Some-after_prefix-2.rest.now (c.if-not-is_end.ensures refl)))
