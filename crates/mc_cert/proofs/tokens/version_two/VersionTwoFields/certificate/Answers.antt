use Rattle.std.proofs.Common.{◌≡◌, ◌<◌, ℕ, All, List, length, map, Some, ap, subst, sym, arith}
use Rattle.std.specs.Prelude.{option_map}
use Rattle.std.proofs.lemmas.List.{length-map}
use Rattle.mc_cert.specs.Certificate.{Tree}
use Rattle.mc_cert.specs.Tokens.{IsVersionTwo}
use Rattle.mc_cert.proofs.Documents.{AllByRecursion-from_All}
use Rattle.mc_cert.proofs.FieldLemmas.{IsWritableTree-from_trees, IsVersion-from_version_two_found}
use Rattle.mc_cert.proofs.tokens.version_two.VersionTwoFields.certificate.Goals as goal

-- There is a number for each flow of the topology, which has at most 4,096.
pub certificate_of-requires-clause-few : goal.certificate_of-requires-clause-few
certificate_of-requires-clause-few c =
    let (ms, held) = c.requires.read in
    let is : c.args.self.flows ≡ Some c.in-Some-Some-Some.numbers = grind arith in
    let are : c.args.self.trees ≡ Some c.in-Some-Some-Some.trees = grind arith in
    let (_, count) = IsWritableTree-from_trees c.args.topology.now c.args.self.version _ _
    c.in-Some-Some-Some.numbers.items (map (λ es. es.items) c.in-Some-Some-Some.trees.items) ms held
    (ap (option_map (λ ns. ns.items)) is) (ap (option_map (λ ts. map (λ es. es.items) ts.items)) are) in
    omega (arith, count, c.flows-rules.ensures.rules.few_flows)

-- What a tree's value denotes is a tree that a text can have.
pub certificate_of-requires-clause-lists : goal.certificate_of-requires-clause-lists
certificate_of-requires-clause-lists c =
    let (ms, held) = c.requires.read in
    let is : c.args.self.flows ≡ Some c.in-Some-Some-Some.numbers = grind arith in
    let are : c.args.self.trees ≡ Some c.in-Some-Some-Some.trees = grind arith in
    (IsWritableTree-from_trees c.args.topology.now c.args.self.version _ _
    c.in-Some-Some-Some.numbers.items (map (λ es. es.items) c.in-Some-Some-Some.trees.items) ms held
    (ap (option_map (λ ns. ns.items)) is) (ap (option_map (λ ts. map (λ es. es.items) ts.items)) are)).0

-- Each number is that of a tree, so that the flow's object denotes this tree.
pub returns-in_ok-certificate-in-Some-Some-Some : goal.returns-in_ok-certificate-in-Some-Some-Some
returns-in_ok-certificate-in-Some-Some-Some c = λ ms held.
    let is : c.args.self.flows ≡ Some c.in-Some-Some-Some.numbers = grind arith in
    let are : c.args.self.trees ≡ Some c.in-Some-Some-Some.trees = grind arith in
    let some : c.args.self.version ≡ Some c.in-Some-Some-Some._version = grind arith in
    let numbers = c.in-Some-Some-Some.numbers.items in
    let trees = map (λ es. es.items) c.in-Some-Some-Some.trees.items in
    let many : length c.in-Some-Some-Some.trees.items ≡ length trees =
    omega (arith, length-map c.in-Some-Some-Some.trees.items (λ es. es.items)) in
    let below : All (λ n. n < length trees) numbers =
    subst (λ (m : ℕ). All (λ n. n < m) numbers) many c.in_ok-certificate-in-Some-Some-Some.ensures.below in
    subst (λ (flows : List Tree). IsVersionTwo c.args.topology.now ms flows)
    (sym c.in_ok-certificate-in-Some-Some-Some.ensures.flows)
    (IsVersion-from_version_two_found c.args.topology.now c.args.self.version _ _ c.in-Some-Some-Some._version
    numbers trees ms (AllByRecursion-from_All (λ n. n < length trees) numbers below) held some
    (ap (option_map (λ ns. ns.items)) is) (ap (option_map (λ ts. map (λ es. es.items) ts.items)) are))
