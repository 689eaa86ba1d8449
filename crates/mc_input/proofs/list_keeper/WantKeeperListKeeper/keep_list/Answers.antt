use Rattle.std.proofs.Common.{◌≡◌, ℕ, ◌+◌, List, [], ◌∷◌, ◌++◌, length, sym, ap, ap₂, ◌∙◌, arith}
use Rattle.mc_asked.specs.LanWants.{LanWantsValue, lan_wants}
use Rattle.mc_asked.proofs.AskedLawLemmas.{lan_wants_from-push}
use Rattle.mc_input.proofs.list_keeper.WantKeeperListKeeper.keep_list.Goals as goal

-- The wants of the next list are pushed behind those of the lists before it, with the number of its
-- LAN.
pub returns-clause-kept : goal.returns-clause-kept
returns-clause-kept c = λ lists size before.
    let all = c.args.self.now.all in
    let answers = c.args.self.now.answers in
    let records = c.args.list.now in
    let place : c.args.lan ≡ 0 + length lists = omega (arith, size) in
    c.in_ok-push.ensures.items
    ∙ ap₂ (λ (wants : List LanWantsValue) (own : LanWantsValue). wants ++ own ∷ []) before
    (c.in_ok-own.ensures ∙ ap (λ (n : ℕ). lan_wants all answers n records) place)
    ∙ sym (lan_wants_from-push all answers 0 lists records)
