-- A copy's place is free exactly where no earlier copy is on its LAN. So the first copy that finds its
-- place taken is the first one with an earlier copy on its LAN.
use Rattle.std.proofs.Common.{◌≡◌, ◌+◌, ◌<◌, length, is_some, not, true, false, None, Some, ap, sym, subst}
use Rattle.std.proofs.Common.{◌∙◌, arith}
use Rattle.mc_theory.specs.Flights.{Copy}
use Rattle.mc_forward.proofs.FirstLemmas.{FirstCopiesSoFar, first_copies_so_far-none}
use Rattle.mc_forward.proofs.FirstLemmas.{first_copies_so_far-more, second_copy_so_far-all}
use Rattle.mc_forward.proofs.FirstLemmas.{first_copies_so_far-all}
use Rattle.mc_forward.proofs.FirstLemmas.{second_copy_so_far, second_copy_so_far-found_now}
use Rattle.mc_forward.proofs.FirstLemmas.{second_copy_so_far-found_before}
use Rattle.mc_forward.proofs.FirstLemmas.{second_copy_so_far-first_on_lan, get_or-take_drop}
use Rattle.mc_forward.proofs.FirstLemmas.{length-take_drop_end}
use Rattle.mc_forward.proofs.first_copies.record_first_copies.Goals as goal

-- The copies that were seen before are stored, and no two of them are on one LAN.
pub loop-copy-init : goal.loop-copy-init
loop-copy-init c =
    let e : c.args.seen ≡ c.args.seen + 0 = omega arith in
    subst (λ k. FirstCopiesSoFar c.args.firsts.now c.args.firsts.now c.args.copies.now k None) e
    (first_copies_so_far-none c.args.firsts.now c.args.copies.now c.args.seen c.requires.firsts
    c.requires.distinct)

-- A copy that finds its place free is stored there. One that doesn't is the second copy, unless one was
-- found before.
pub loop-copy-preserved : goal.loop-copy-preserved
loop-copy-preserved c =
    let cs = c.args.copies.now in
    let old = c.args.firsts.now in
    let firsts = c.loop-copy.firsts in
    let k = c.args.seen + c.loop-copy.copy-index in
    let x = c.copy-item.result in
    let second = c.loop-copy.second in
    let put = c.put_first.result in
    let lan : c.copy.inside.lan ≡ x.lan = ap (λ (y : Copy). y.lan) c.copy.view_is in
    let put_ok = rw (c.copy.view_is, lan) at c.put_first.ensures in
    let item = get_or-take_drop cs c.args.seen c.loop-copy.copy-index x c.loop-copy-test.true
    c.copy-item.is in
    let within : x.lan < length old = subst (λ (y : Copy). y.lan < length old) (sym item.1)
    (c.requires.lans k x item.0) in
    let found : c.if-not-put_first.second ≡ second_copy_so_far second (not put) x =
    elim c.if-not-put_first.branch [
      | goal.then-not-put_first+then-is_none w ↦ (let none : is_some second ≡ false =
          grind arith in w.second-is ∙ ap Some c.copy.view_is
          ∙ sym (second_copy_so_far-found_now second (not put) x (ap not w.if-not-put_first.true)
          none))
      | goal.else-not-put_first w ↦ elim w.else-not-put_first.branch [
        | goal.else-not-put_first-via-then-not-put_first+else-is_none v ↦ (let some : is_some second ≡ true =
            v.if-is_none.ensures in w.second-is ∙ sym (second_copy_so_far-found_before second
            (not put) x some))
        | goal.else-not-put_first-via-else-not-put_first v ↦ w.second-is
            ∙ sym (second_copy_so_far-first_on_lan second (not put) x (ap not v.if-not-put_first.false))
      ]
    ] in
    let e : k + 1 ≡ c.args.seen + (c.loop-copy.copy-index + 1) = omega arith in
    subst (λ i. FirstCopiesSoFar c.put_first.new.self old cs i c.if-not-put_first.second) e
    (first_copies_so_far-more firsts c.put_first.new.self old cs k second c.if-not-put_first.second x
    put c.loop-copy.invariant item.0 item.1 within put_ok.free put_ok.put put_ok.earlier put_ok.kept found)

-- All copies are done, so the one that is kept is the first of all.
pub returns-clause-second : goal.returns-clause-second
returns-clause-second c =
    second_copy_so_far-all c.loop-copy.firsts c.args.firsts.now c.args.copies.now
    (c.args.seen + c.loop-copy.copy-index) c.loop-copy.second c.loop-copy.invariant
    (length-take_drop_end c.args.copies.now c.args.seen c.loop-copy.copy-index c.loop-copy-test.false)

-- All copies are done, so the first copy on each LAN is stored.
pub returns-clause-firsts : goal.returns-clause-firsts
returns-clause-firsts c =
    first_copies_so_far-all c.loop-copy.firsts c.args.firsts.now c.args.copies.now
    (c.args.seen + c.loop-copy.copy-index) c.loop-copy.second c.loop-copy.invariant
    (length-take_drop_end c.args.copies.now c.args.seen c.loop-copy.copy-index c.loop-copy-test.false)
