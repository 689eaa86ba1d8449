-- The marks say which LANs were visited, so that a LAN is added exactly where it wasn't.
use Rattle.std.proofs.Common.{ℕ, ◌++◌, [], ◌∷◌, Bool, cond, sym, ap, subst, ◌∙◌}
use Rattle.mc_forward.specs.PerLan.{HoldsFirstOfEachKey}
use Rattle.mc_forward.proofs.PerLanLemmas.{holds_first-more, length-after_put}
use Rattle.mc_search.proofs.SearchLemmas.{list_any-from_not_held, list_any-from_held}
use Rattle.mc_search.proofs.visited_lans.VisitedLans.add.Goals as goal

-- The LAN had no mark, so it isn't among the visited ones, and comes after them.
pub returns-in_ok-push-clause-lans : goal.returns-in_ok-push-clause-lans
returns-in_ok-push-clause-lans c =
    let old = c.args.self.now in
    let lans = old.lans.items in
    c.in_ok-push.ensures.items ∙ ap (λ (b : Bool). cond b lans (lans ++ c.args.lan ∷ []))
    (sym (list_any-from_not_held old.marks lans c.args.lan c.requires.visited_lans.marked
    (c.put_first.ensures.free c.if-put_first.true)))

-- The LAN is marked and listed, and nothing else changes.
pub returns-in_ok-push-clause-visited_lans : goal.returns-in_ok-push-clause-visited_lans
returns-in_ok-push-clause-visited_lans c =
    let old = c.args.self.now in
    let now = c.put_first.new.self in
    let put = c.put_first.result in
    record {
      count = length-after_put old.marks now c.args.lan c.args.lan put c.put_first.ensures.put
          c.put_first.ensures.kept;
      marked = subst (HoldsFirstOfEachKey (λ (l : ℕ). l) now) (sym c.in_ok-push.ensures.items)
          (holds_first-more (λ (l : ℕ). l) old.marks now old.lans.items c.args.lan put c.requires.lan
          c.requires.visited_lans.marked c.put_first.ensures.free c.put_first.ensures.put
          c.put_first.ensures.earlier c.put_first.ensures.kept);
    }

-- The LAN had a mark, so it is among the visited ones already.
pub returns-else-put_first-clause-lans : goal.returns-else-put_first-clause-lans
returns-else-put_first-clause-lans c =
    let old = c.args.self.now in
    let lans = old.lans.items in
    ap (λ (b : Bool). cond b lans (lans ++ c.args.lan ∷ []))
    (sym (list_any-from_held old.marks lans c.args.lan c.requires.visited_lans.marked
    (c.put_first.ensures.earlier c.if-put_first.false)))
