use Rattle.std.proofs.Common.{ℕ, List, Some, subst, sym, ap}
use Rattle.serde_json.specs.Data.{put}
use Rattle.mc_cert.specs.Keys.{key_name}
use Rattle.mc_cert.specs.Tokens.{HoldsEntry}
use Rattle.mc_cert.proofs.FieldLemmas.{HoldsEntry-lan, HoldsEntry-need, HoldsEntry-rank, HoldsEntry-router}
use Rattle.mc_cert.proofs.FieldLemmas.{HoldsEntry-vif}
use Rattle.mc_cert.proofs.tokens.entry.EntryFieldsFields.read_field.Goals as goal

-- Each value replaces an earlier one of its key, in the fields as in the object, and leaves what was read
-- under the other keys.
pub returns-in_ok-lan-in-Lan : goal.returns-in_ok-lan-in-Lan
returns-in_ok-lan-in-Lan c =
    let f = c.args.self in
    let t = c.args.topology.now in
    let new = c.in_ok-lan-in-Lan.lan in
    let (d, reads, is) = c.in_ok-lan-in-Lan.ensures in (
      d,
      reads,
      λ ms held. subst (λ (k : List ℕ). HoldsEntry t (Some new) f.need f.rank f.router f.vif (put k d ms))
          (sym (ap key_name c.in-Lan.is))
          (HoldsEntry-lan t f.lan f.need f.rank f.router f.vif d ms new is held),
    )

pub returns-in_ok-need-in-Need : goal.returns-in_ok-need-in-Need
returns-in_ok-need-in-Need c =
    let f = c.args.self in
    let t = c.args.topology.now in
    let new = c.in_ok-need-in-Need.need in
    let (d, reads, is) = c.in_ok-need-in-Need.ensures.value in (
      d,
      reads,
      λ ms held. subst (λ (k : List ℕ). HoldsEntry t f.lan (Some new) f.rank f.router f.vif (put k d ms))
          (sym (ap key_name c.in-Need.is))
          (HoldsEntry-need t f.lan f.need f.rank f.router f.vif d ms new is held),
    )

pub returns-in_ok-rank-in-Rank : goal.returns-in_ok-rank-in-Rank
returns-in_ok-rank-in-Rank c =
    let f = c.args.self in
    let t = c.args.topology.now in
    let new = c.in_ok-rank-in-Rank.rank in
    let (d, reads, is) = c.in_ok-rank-in-Rank.ensures.value in (
      d,
      reads,
      λ ms held. subst (λ (k : List ℕ). HoldsEntry t f.lan f.need (Some new) f.router f.vif (put k d ms))
          (sym (ap key_name c.in-Rank.is))
          (HoldsEntry-rank t f.lan f.need f.rank f.router f.vif d ms new is held),
    )

pub returns-in_ok-router-in-Router : goal.returns-in_ok-router-in-Router
returns-in_ok-router-in-Router c =
    let f = c.args.self in
    let t = c.args.topology.now in
    let new = c.in_ok-router-in-Router.router in
    let (d, reads, is) = c.in_ok-router-in-Router.ensures in (
      d,
      reads,
      λ ms held. subst (λ (k : List ℕ). HoldsEntry t f.lan f.need f.rank (Some new) f.vif (put k d ms))
          (sym (ap key_name c.in-Router.is))
          (HoldsEntry-router t f.lan f.need f.rank f.router f.vif d ms new is held),
    )

pub returns-in_ok-vif-in-Vif : goal.returns-in_ok-vif-in-Vif
returns-in_ok-vif-in-Vif c =
    let f = c.args.self in
    let t = c.args.topology.now in
    let new = c.in_ok-vif-in-Vif.vif in
    let (d, reads, is) = c.in_ok-vif-in-Vif.ensures.value in (
      d,
      reads,
      λ ms held. subst (λ (k : List ℕ). HoldsEntry t f.lan f.need f.rank f.router (Some new) (put k d ms))
          (sym (ap key_name c.in-Vif.is))
          (HoldsEntry-vif t f.lan f.need f.rank f.router f.vif d ms new is held),
    )
