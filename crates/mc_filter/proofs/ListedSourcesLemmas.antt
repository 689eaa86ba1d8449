-- The sources of one record, source by source: each updates the state of the channel that it makes.
use Rattle.std.proofs.Common.{◌≡◌, ℕ, ◌<◌, Bool, true, false, ◌&&◌, ◌||◌, eqb}
use Rattle.std.proofs.Common.{List, ◌∷◌, length, get_or, set, refl, sym, ap, ◌∙◌, inl, inr}
use Rattle.std.proofs.Common.{arith}
use Rattle.std.specs.List.{Contains}
use Rattle.std.specs.List.Sorted.{IsStrictlyIncreasing}
use Rattle.std.proofs.lemmas.Bool.{cases_eq}
use Rattle.std.proofs.lemmas.Bool.Decides.{nat_tests}
use Rattle.std.proofs.lemmas.List.{get_or-set_same, get_or-set_other, get_or_default}
use Rattle.std.proofs.lemmas.List.Kept.{AllPairs-from_increasing}
use Rattle.mc_text.specs.Pair.{pair_of}
use Rattle.mc_text.proofs.PairLemmas.{pair_of-injective}
use Rattle.mc_igmp.specs.declared.record.Record.{Record}
use Rattle.mc_igmp.specs.declared.record.Kind.{Kind}
use Rattle.mc_igmp.specs.declared.record.Kind.TheVariants as kind
use Rattle.mc_filter.specs.declared.tally.ChannelState.{ChannelState}
use Rattle.mc_filter.specs.SourceFilter.{has}
use Rattle.mc_filter.specs.Tallies.{channel_numbered, state_after_listing, state_after_record}

-- Updating the channels by the sources that are left, from the states `now`, gives what updating them by all
-- sources of the record gives, from the states `old`.
abbrev pub AreListedUpTo : (channels : List ℕ) → Record → (excludes : ℕ) → (left : List ℕ)
    → (now old : List ChannelState) → Type 0
AreListedUpTo channels r excludes left now old =
    (c g s : ℕ) (d : ChannelState) → c < length channels → channel_numbered channels c ≡ (s, g)
    → state_after_record (eqb r.group g && has left s) r.kind excludes (get_or now c d)
    ≡ state_after_record (eqb r.group g && has r.sources s) r.kind excludes (get_or old c d)

-- the channel is at this place of an index, and its state is this one of `states`
pub record IsChannelWithState (channels : List ℕ) (states : List ChannelState) (channel : ℕ × ℕ)
    (place : ℕ) (own : ChannelState) : Type 0 where
  pub ascending : IsStrictlyIncreasing channels
  pub count : length states ≡ length channels
  pub within : place < length channels
  pub channel_is : channel_numbered channels place ≡ channel
  pub state : own ≡ get_or states place own

-- ---- one source and one channel

-- a source that a record lists twice counts once
state_after_listing-twice : (of_kind : Kind) (excludes : ℕ) (state : ChannelState)
    → state_after_listing of_kind excludes (state_after_listing of_kind excludes state)
    ≡ state_after_listing of_kind excludes state
state_after_listing-twice kind.Include excludes state = refl
state_after_listing-twice kind.Exclude excludes state = grind (arith, nat_tests)
state_after_listing-twice (kind.Change type) excludes state = refl
state_after_listing-twice (kind.Unknown type) excludes state = refl

-- a state after a listing is that after it and a record that lists the source or not
state_after_record-listed : (listed : Bool) (of_kind : Kind) (excludes : ℕ) (state : ChannelState)
    → state_after_record listed of_kind excludes (state_after_listing of_kind excludes state)
    ≡ state_after_listing of_kind excludes state
state_after_record-listed true of_kind excludes state = state_after_listing-twice of_kind excludes state
state_after_record-listed false of_kind excludes state = refl

-- a record of the channel's group, with its source as the next one, updates the state as if it listed it
state_after_record-own_source : (a b c : Bool) (of_kind : Kind) (excludes : ℕ) (state : ChannelState)
    → (a && b) ≡ true
    → state_after_record (a && (b || c)) of_kind excludes state ≡ state_after_listing of_kind excludes state
state_after_record-own_source true true c of_kind excludes state h = refl
state_after_record-own_source true false c of_kind excludes state h = absurd cc
state_after_record-own_source false b c of_kind excludes state h = absurd cc

-- what is false with one case is true with another case by that alone
and_or-false : (a b c : Bool) → (a && b) ≡ false → (a && (b || c)) ≡ (a && c)
and_or-false true true c h = absurd cc
and_or-false true false c h = refl
and_or-false false b c h = refl

-- numbers of one source and one group are one number
number-unique : (a b s g x group : ℕ) → pair_of a ≡ (s, g) → pair_of b ≡ (x, group) → (x ≡ s) × (g ≡ group)
    → a ≡ b
number-unique a b s g x group first second same =
    pair_of-injective a b
    (first ∙ ap (λ (n : ℕ). let p : ℕ × ℕ = (n, g) in p) (sym same.0)
    ∙ ap (λ (n : ℕ). let p : ℕ × ℕ = (x, n) in p) same.1 ∙ sym second)

-- a channel of another source or another group
other_channel : (group g x s : ℕ) → ¬ ((x ≡ s) × (g ≡ group)) → (eqb group g && eqb x s) ≡ false
other_channel group g x s other = elim (cases_eq g group) [
  | inl same ↦ elim (cases_eq x s) [
    | inl listed ↦ absurd (other (listed, same))
    | inr apart ↦ grind (arith, nat_tests, apart)
  ]
  | inr apart ↦ grind (arith, nat_tests, apart)
]

-- a source of another channel leaves the state to the sources after it
state_after_record-other_source : (r : Record) (excludes x g s : ℕ) (left : List ℕ) (state : ChannelState)
    → ¬ ((x ≡ s) × (g ≡ r.group))
    → state_after_record (eqb r.group g && has left s) r.kind excludes state
    ≡ state_after_record (eqb r.group g && has (x ∷ left) s) r.kind excludes state
state_after_record-other_source r excludes x g s left state other =
    ap (λ listed. state_after_record listed r.kind excludes state)
    (sym (and_or-false (eqb r.group g) (eqb x s) (has left s) (other_channel r.group g x s other)))

-- ---- the next source and all channels

module _ (channels : List ℕ) (r : Record) (excludes x : ℕ) (left : List ℕ) (now old : List ChannelState)
    (before : AreListedUpTo channels r excludes (x ∷ left) now old) where
  -- the next source makes no channel, so that the states stay
  pub AreListedUpTo-missed : (n : ℕ) → pair_of n ≡ (x, r.group) → ¬ Contains channels n
      → AreListedUpTo channels r excludes left now old
  AreListedUpTo-missed n pair missed c g s d within is =
      state_after_record-other_source r excludes x g s left (get_or now c d) (λ same. missed (
        c,
        within,
        get_or_default channels c n 0 within
            ∙ number-unique (get_or channels c 0) n s g x r.group is pair same,
      ))
      ∙ before c g s d within is

  module _ (place : ℕ) (own : ChannelState)
      (found : IsChannelWithState channels now (x, r.group) place own) where
    abbrev updated : ChannelState
    updated = state_after_listing r.kind excludes own

    -- the state at the place is updated by the source
    updated-at_place : (c g s : ℕ) (d : ChannelState) → c < length channels
        → channel_numbered channels c ≡ (s, g) → c ≡ place
        → state_after_record (eqb r.group g && has left s) r.kind excludes (get_or (set now place updated) c d)
        ≡ state_after_record (eqb r.group g && has (x ∷ left) s) r.kind excludes (get_or now c d)
    updated-at_place c g s d within is here =
        let pair = sym is ∙ ap (channel_numbered channels) here ∙ found.channel_is in
        let same : (g ≡ r.group) × (s ≡ x) =
        (ap (λ (p : ℕ × ℕ). p.1) pair, ap (λ (p : ℕ × ℕ). p.0) pair) in
        let listed : (eqb r.group g && eqb x s) ≡ true = grind (arith, nat_tests, same.0, same.1) in
        let old_own : get_or now c d ≡ own =
        get_or_default now c d own (omega (arith, within, found.count))
        ∙ ap (λ n. get_or now n own) here ∙ sym found.state in
        let new_own : get_or (set now place updated) c d ≡ updated =
        ap (λ n. get_or (set now place updated) n d) here
        ∙ get_or-set_same now place updated d (omega (arith, found.within, found.count)) in
        rw new_own (state_after_record-listed (eqb r.group g && has left s) r.kind excludes own
        ∙ sym (state_after_record-own_source (eqb r.group g) (eqb x s) (has left s) r.kind excludes own listed)
        ∙ ap (λ state. state_after_record (eqb r.group g && has (x ∷ left) s) r.kind excludes state)
        (sym old_own))

    -- the other states are not: a channel at another place has another source or another group
    updated-elsewhere : (c g s : ℕ) (d : ChannelState) → c < length channels
        → channel_numbered channels c ≡ (s, g) → ¬ (c ≡ place)
        → state_after_record (eqb r.group g && has left s) r.kind excludes (get_or (set now place updated) c d)
        ≡ state_after_record (eqb r.group g && has (x ∷ left) s) r.kind excludes (get_or now c d)
    updated-elsewhere c g s d within is there =
        let rises = AllPairs-from_increasing channels found.ascending in
        rw (get_or-set_other now place c updated d there)
        (state_after_record-other_source r excludes x g s left (get_or now c d) (λ same.
        let number = number-unique (get_or channels c 0) (get_or channels place 0) s g x r.group is
        found.channel_is same in
        absurd (grind (arith, there, rises c place 0, rises place c 0, number, within, found.within))))

    -- the next source makes the channel at the place
    pub AreListedUpTo-found : AreListedUpTo channels r excludes left
        (set now place (state_after_listing r.kind excludes own)) old
    AreListedUpTo-found c g s d within is = elim (cases_eq c place) [
      | inl here ↦ updated-at_place c g s d within is here ∙ before c g s d within is
      | inr there ↦ updated-elsewhere c g s d within is there ∙ before c g s d within is
    ]
