use Rattle.std.proofs.Common.{◌≡◌, ℕ, ◌<◌, length, map, Some, None, ap, sym, subst, ◌∙◌, arith}
use Rattle.std.specs.Option.{option_copied}
use Rattle.std.specs.Prelude.{slice_set, IsSome}
use Rattle.mc_forward.specs.PerLan.{item_on_lan}
use Rattle.std.proofs.lemmas.List.{length-map}
use Rattle.mc_theory.specs.Certificates.{Entry}
use Rattle.mc_theory.specs.Reasons.Reason.{TwoEntries}
use Rattle.mc_check.proofs.FirstEntriesLemmas.{first_entries-more, is_some-copied, none-copied, set-copied}
use Rattle.mc_check.proofs.FirstEntriesLemmas.{twice-already_named}
use Rattle.mc_check.proofs.entries_by_lan.put_first_entries.Goals as goal

-- The place of the entry's LAN is taken, so an earlier entry names that LAN. The entries before name
-- different LANs, so this one is the first that names a LAN again.
pub returns-then-not-put_first-clause-twice : goal.returns-then-not-put_first-clause-twice
returns-then-not-put_first-clause-twice c =
    let e = c.entry-item.result in
    let lan : c.entry.inside.lan ≡ e.lan = ap (λ (x : Entry). x.lan) c.entry.view_is in
    let earlier = c.put_first.ensures.earlier c.if-not-put_first.true in
    ap (λ (l : ℕ). Some (TwoEntries l)) lan
    ∙ twice-already_named (map option_copied c.loop-entry.firsts) (map option_copied c.args.firsts.now)
    c.args.entries.now c.loop-entry.entry-index e c.loop-entry.invariant c.loop-entry-test.true
    c.entry-item.is
    (is_some-copied c.loop-entry.firsts e.lan
    (subst (λ (l : ℕ). IsSome (item_on_lan c.loop-entry.firsts l)) lan earlier))

-- The place was free, so no earlier entry names the LAN: the entry is now stored there, and still no LAN is
-- named twice.
pub loop-entry-preserved : goal.loop-entry-preserved
loop-entry-preserved c =
    let firsts = c.loop-entry.firsts in
    let old = c.args.firsts.now in
    let es = c.args.entries.now in
    let k = c.loop-entry.entry-index in
    let e = c.entry-item.result in
    let lan : c.entry.inside.lan ≡ e.lan = ap (λ (x : Entry). x.lan) c.entry.view_is in
    let more : k < length es = omega (arith, c.loop-entry-test.true) in
    let places : length (map option_copied old) ≡ length old = length-map old option_copied in
    let within : e.lan < length (map option_copied old) =
    subst (λ (n : ℕ). e.lan < n) (sym places)
    (subst (λ (x : Entry). x.lan < length old) (sym c.entry-item.is) (c.requires.lans k e more)) in
    let put = c.if-not-put_first.false in
    let free = subst (λ (l : ℕ). item_on_lan firsts l ≡ None) lan (c.put_first.ensures.free put) in
    let now = ap (map option_copied) (c.put_first.ensures.put put) ∙ set-copied firsts c.entry.inside.lan _
    ∙ ap (λ (l : ℕ). slice_set (map option_copied firsts) l (Some e)) lan in
    first_entries-more (map option_copied firsts) (map option_copied c.put_first.new.self)
    (map option_copied old) es k e c.loop-entry.invariant more c.entry-item.is within
    (none-copied firsts e.lan free) now
