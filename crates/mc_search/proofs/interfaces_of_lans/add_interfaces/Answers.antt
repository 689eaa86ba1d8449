-- An interface goes to the end of its own LAN's list alone.
use Rattle.std.proofs.Common.{◌≡◌, ℕ, ◌<◌, ◌++◌, List, [], ◌∷◌, Option, length, take, get_or, sym, ap}
use Rattle.std.proofs.Common.{subst, ◌∙◌, arith, append_assoc}
use Rattle.std.specs.Prelude.{unwrap_or}
use Rattle.std.proofs.lemmas.List.{length-set, take_more, take_all}
use Rattle.mc_topology.specs.SectionRows.{InterfaceRow}
use Rattle.mc_topology.specs.Topology.{TopologyValue}
use Rattle.mc_forward.specs.ListedTables.{facts}
use Rattle.mc_search.specs.declared.listed_interface.ListedInterface.{ListedInterface}
use Rattle.mc_search.specs.BucketsAndMarks.{AreBuckets, AreInterfacesByLan}
use Rattle.mc_search.specs.TopologyLans.{interface_at, listed_interface_at, listed_interface_of}
use Rattle.mc_search.proofs.BucketLemmas.{are_buckets-more}
use Rattle.mc_search.proofs.interfaces_of_lans.add_interfaces.Goals as goal

-- The list of the interface's LAN gets it, and the other lists stay.
pub loop-number-preserved : goal.loop-number-preserved
loop-number-preserved c =
    let d = facts c.args.domain.now in
    let numbers = c.args.numbers.now in
    let i = c.loop-number.number-index in
    let k = get_or numbers i 0 in
    let lists = c.loop-number.lists.items in
    let number : ℕ → ℕ = λ j. (interface_at d.topology j).lan in
    let q = c.lan.inside.0 in
    let t = c.topology.result.now in
    let same : t ≡ d.topology = c.topology.ensures.topology in
    let found : interface_at d.topology k ≡ c.interface-interface.result =
    ap (λ (x : TopologyValue). interface_at x k) (sym same) ∙ ap (λ (o : Option InterfaceRow).
    unwrap_or o (record { router = 0; device = []; lan = 0 })) c.interface-interface.ensures.interface
    in
    let own : q ≡ c.interface-interface.result.lan =
    c.lan.view_is ∙ ap (λ (x : InterfaceRow). x.lan) c.interface.view_is in
    let at : q ≡ number k = own ∙ ap (λ (x : InterfaceRow). x.lan) (sym found) in
    let lans : length t.lans ≡ length d.topology.lans = ap (λ (x : TopologyValue). length x.lans) same
    in
    let within : q < length lists =
    omega (arith, own, lans, c.interface-interface.ensures.valid.lan, c.loop-number.invariant.count) in
    let item : c.listed_interface_of-listed.result ≡ listed_interface_at d k =
    c.listed_interface_of-listed.ensures
    ∙ ap (listed_interface_of d k) (sym found) in
    let more : c.push.new.self.items ≡ c.index_mut-list.result.now ++ listed_interface_at d k ∷ [] =
    c.in_ok-push.ensures.items
    ∙ ap (λ (xs : List ListedInterface). xs ++ c.listed_interface_of-listed.result ∷ []) c.list.view_is
    ∙ ap (λ (x : ListedInterface). c.index_mut-list.result.now ++ x ∷ []) item in
    record {
      count = length-set lists q c.push.new.self.items ∙ c.loop-number.invariant.count;
      holds = λ earlier h. subst (AreBuckets (listed_interface_at d) number _)
          (append_assoc earlier (take i numbers) (k ∷ [])
          ∙ ap (λ (ks : List ℕ). earlier ++ ks) (sym (take_more numbers i 0 c.loop-number-test.true)))
          (are_buckets-more (listed_interface_at d) number lists (earlier ++ take i numbers) k q
          c.index_mut-list.result.now c.push.new.self.items at within
          c.index_mut-list.ensures.value more (c.loop-number.invariant.holds earlier h));
    }

-- All of these interfaces are done, so each LAN's list has them after the earlier ones.
pub returns-clause-each : goal.returns-clause-each
returns-clause-each c = λ earlier h.
    let numbers = c.args.numbers.now in
    subst (λ (ks : List ℕ). AreInterfacesByLan (facts c.args.domain.now) c.loop-number.lists.items
    (earlier ++ ks)) (take_all c.loop-number.number-index numbers c.loop-number-test.false)
    (c.loop-number.invariant.holds earlier h)
