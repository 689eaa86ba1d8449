-- The tally of channels, record by record.
use Rattle.std.proofs.Common.{◌≡◌, ℕ, ◌+◌, ◌<◌, Bool, true, false, ◌&&◌, ◌||◌, eqb}
use Rattle.std.proofs.Common.{List, ◌∷◌, length, get_or, set, refl, sym, ap, subst, ◌∙◌, inl, inr}
use Rattle.std.proofs.Common.{arith}
use Rattle.std.specs.Prelude.{cond}
use Rattle.std.specs.List.{Contains}
use Rattle.std.specs.List.Sorted.{IsStrictlyIncreasing}
use Rattle.std.proofs.lemmas.Bool.{cases_eq, eq-eqb}
use Rattle.std.proofs.lemmas.Bool.Decides.{nat_tests}
use Rattle.std.proofs.lemmas.List.{get_or-set_same, get_or-set_other, get_or_default}
use Rattle.std.proofs.lemmas.List.Kept.{AllPairs-from_increasing}
use Rattle.mc_igmp.specs.declared.record.Record.{Record}
use Rattle.mc_igmp.specs.declared.record.Kind.{Kind}
use Rattle.mc_igmp.specs.declared.record.Kind.TheVariants as kind
use Rattle.mc_filter.specs.declared.tally.ChannelState.{ChannelState}
use Rattle.mc_filter.specs.declared.tally.ChannelState.TheVariants.{Included, Listed}
use Rattle.mc_filter.specs.SourceFilter.{has}
use Rattle.mc_filter.specs.FilterBuilding.{kind_admits, wanted}
use Rattle.mc_filter.specs.Tallies.{AreStatesAfterRecord, IsTallied, channel_numbered}
use Rattle.mc_filter.specs.Tallies.{excludes_after, state_after_record}

-- IsTallyOf, of the numbers of EXCLUDE records and the states that a tally has
abbrev pub AreTallied : (groups channels : List ℕ) → List Record → (excludes : List ℕ)
    → List ChannelState → (left : List Record) → Type 0
AreTallied groups channels records excludes state left =
    (g c s : ℕ) (d : ChannelState) → g < length groups → c < length channels →
    channel_numbered channels c ≡ (s, get_or groups g 0) →
    IsTallied (get_or state c d) (get_or excludes g 0)
    (wanted left (get_or groups g 0) s) (wanted records (get_or groups g 0) s)

-- the group is at this place of an index, and `excludes` has a number for each group
pub record IsGroupAt (groups excludes : List ℕ) (group place : ℕ) : Type 0 where
  pub ascending : IsStrictlyIncreasing groups
  pub count : length groups ≡ length excludes
  pub within : place < length excludes
  pub group_is : get_or groups place 0 ≡ group

-- a record whose type has no filter changes nothing
tallied-other_type : (listed : Bool) (excludes : ℕ) (state : ChannelState) (left all : Bool)
    → IsTallied state excludes left all → IsTallied (cond listed state state) excludes left all
tallied-other_type true excludes state left all h = h
tallied-other_type false excludes state left all h = h

-- one more record, for the channel's group or another one
tallied_more : (own listed : Bool) (of_kind : Kind) (excludes : ℕ) (state : ChannelState) (left all : Bool)
    → IsTallied state excludes ((own && kind_admits of_kind listed) || left) all
    → IsTallied (state_after_record (own && listed) of_kind excludes state)
    (cond own (excludes_after of_kind excludes) excludes) left all
tallied_more false listed of_kind excludes state left all h = record {
  within = h.within;
  wants = h.wants;
}
tallied_more true listed (kind.Change type) excludes state left all h = tallied-other_type listed excludes
    state left all h
tallied_more true listed (kind.Unknown type) excludes state left all h = tallied-other_type listed excludes
    state left all h
tallied_more true true kind.Include excludes state left all h = record {
  within = tt;
  wants = grind (arith, h.wants);
}
tallied_more true false kind.Include excludes state left all h = record {
  within = h.within;
  wants = h.wants;
}
tallied_more true true kind.Exclude excludes Included left all h = record {
  within = tt;
  wants = h.wants;
}
tallied_more true true kind.Exclude excludes (Listed count) left all h =
    elim (cases_eq count excludes) [
      | inl is ↦
          let same : eqb count excludes ≡ true = eq-eqb count excludes is in
          let next : eqb (excludes + 1) (excludes + 1) ≡ true = eq-eqb (excludes + 1) (excludes + 1)
          refl in
          let wants : left ≡ all = rw same at h.wants in
          rw same (record {
            within = omega arith;
            wants = rw next wants;
          })
      | inr other ↦
          let apart : eqb count excludes ≡ false = grind (arith, nat_tests, other) in
          let later : eqb count (excludes + 1) ≡ false = grind (arith, nat_tests, h.within) in
          let wants : true ≡ all = rw apart at h.wants in
          rw apart (record {
            within = omega (arith, h.within);
            wants = rw later wants;
          })
    ]
tallied_more true false kind.Exclude excludes Included left all h = record {
  within = tt;
  wants = grind (arith, h.wants);
}
tallied_more true false kind.Exclude excludes (Listed count) left all h = record {
  within = omega (arith, h.within);
  wants = grind (arith, nat_tests, h.within, h.wants);
}

-- one more record, whose group is at a place
module _ (groups channels : List ℕ) (records left : List Record) (excludes : List ℕ)
    (state now : List ChannelState) (r : Record) (place : ℕ)
    (found : IsGroupAt groups excludes r.group place)
    (each : AreStatesAfterRecord channels r (get_or excludes place 0) state now)
    (before : AreTallied groups channels records excludes state (r ∷ left)) where
  -- how many EXCLUDE records the group had
  abbrev own_count : ℕ
  own_count = get_or excludes place 0

  -- the numbers with this record
  abbrev counted : List ℕ
  counted = set excludes place (excludes_after r.kind own_count)

  -- a channel of the record's group
  tallied-own_group : (g c s : ℕ) (d : ChannelState) → g < length groups → c < length channels
      → channel_numbered channels c ≡ (s, get_or groups g 0) → g ≡ place
      → IsTallied (get_or now c d) (get_or counted g 0) (wanted left (get_or groups g 0) s)
      (wanted records (get_or groups g 0) s)
  tallied-own_group g c s d below within is here =
      let group : ℕ = get_or groups g 0 in
      let own : Bool = eqb r.group group in
      let all : Bool = wanted records group s in
      let yes : own ≡ true =
      eq-eqb r.group group (sym found.group_is ∙ ap (λ n. get_or groups n 0) (sym here)) in
      let seen : get_or counted g 0 ≡ cond own (excludes_after r.kind own_count) own_count =
      ap (λ n. get_or counted n 0) here
      ∙ get_or-set_same excludes place (excludes_after r.kind own_count) 0 found.within
      ∙ sym (ap (λ b. cond b (excludes_after r.kind own_count) own_count) yes) in
      rw (each c group s d within is, seen) (tallied_more own (has r.sources s) r.kind own_count
      (get_or state c d) (wanted left group s) all
      (subst (λ n. IsTallied (get_or state c d) (get_or excludes n 0) (wanted (r ∷ left) group s) all) here
      (before g c s d below within is)))

  -- a channel of another group
  tallied-other_group : (g c s : ℕ) (d : ChannelState) → g < length groups → c < length channels
      → channel_numbered channels c ≡ (s, get_or groups g 0) → ¬ (g ≡ place)
      → IsTallied (get_or now c d) (get_or counted g 0) (wanted left (get_or groups g 0) s)
      (wanted records (get_or groups g 0) s)
  tallied-other_group g c s d below within is there =
      let rises = AllPairs-from_increasing groups found.ascending in
      let group : ℕ = get_or groups g 0 in
      let excluded : ℕ = get_or excludes g 0 in
      let own : Bool = eqb r.group group in
      let all : Bool = wanted records group s in
      let no : own ≡ false =
      elim (cases_eq r.group group) [
        | inl same ↦ absurd (
            let one : get_or groups place 0 ≡ get_or groups g 0 = found.group_is ∙ same in
            grind (arith, there, rises g place 0, rises place g 0, one, below, found.within, found.count))
        | inr apart ↦ grind (arith, nat_tests, apart)
      ] in
      let seen : get_or counted g 0 ≡ cond own (excludes_after r.kind excluded) excluded =
      get_or-set_other excludes place g (excludes_after r.kind own_count) 0 there
      ∙ sym (ap (λ b. cond b (excludes_after r.kind excluded) excluded) no) in
      let new_state_is : get_or now c d
      ≡ state_after_record (own && has r.sources s) r.kind excluded (get_or state c d) =
      each c group s d within is
      ∙ ap (λ b. state_after_record (b && has r.sources s) r.kind own_count (get_or state c d)) no
      ∙ sym (ap (λ b. state_after_record (b && has r.sources s) r.kind excluded (get_or state c d)) no) in
      rw (new_state_is, seen) (tallied_more own (has r.sources s) r.kind excluded (get_or state c d)
      (wanted left group s) all (before g c s d below within is))

  -- so all channels are tallied
  pub AreTallied-more : AreTallied groups channels records
      (set excludes place (excludes_after r.kind (get_or excludes place 0))) now left
  AreTallied-more g c s d below within is = elim (cases_eq g place) [
    | inl here ↦ tallied-own_group g c s d below within is here
    | inr there ↦ tallied-other_group g c s d below within is there
  ]

-- a record whose group isn't among the groups changes nothing
pub AreTallied-other_group : (groups channels : List ℕ) (records left : List Record)
    (excludes : List ℕ) (state : List ChannelState) (r : Record) → ¬ Contains groups r.group
    → AreTallied groups channels records excludes state (r ∷ left)
    → AreTallied groups channels records excludes state left
AreTallied-other_group groups channels records left excludes state r missed before
    g c s d below within is =
    let group : ℕ = get_or groups g 0 in
    let no : eqb r.group group ≡ false =
    elim (cases_eq r.group group) [
      | inl same ↦ absurd (missed (
        g,
        below,
        get_or_default groups g r.group 0 below ∙ sym same,
      ))
      | inr apart ↦ grind (arith, nat_tests, apart)
    ] in
    rw no at (before g c s d below within is)
