-- Channels, their places, and whether they are wanted.
use Rattle.std.proofs.Common.{◌≡◌, ℕ, ◌+◌, ◌<◌, Bool, false, not, ◌||◌}
use Rattle.std.proofs.Common.{List, [], ◌∷◌, ◌++◌, length, get_or, map, slice_get, Some, refl, sym}
use Rattle.std.proofs.Common.{ap, subst, ◌∙◌, arith, inl, inr, length-append, take}
use Rattle.std.specs.Prelude.{◌↔◌, IsTrue}
use Rattle.std.proofs.lemmas.Bool.{cases_eq}
use Rattle.std.proofs.lemmas.Grind.{elements}
use Rattle.std.specs.Bool.{Decides}
use Rattle.std.specs.List.{All, Contains}
use Rattle.mc_filter.specs.FilterBuilding.{wanted}
use Rattle.std.proofs.lemmas.List.{get_or-map, get_or_push, length-map, map-append, take_more, get_or_default}
use Rattle.std.proofs.lemmas.List.Elements.{Contains-get_or}
use Rattle.std.proofs.lemmas.Option.{slice_get_within, get_or_from_slice_get}
use Rattle.mc_igmp.specs.declared.record.Record.{Record}
use Rattle.mc_igmp.specs.Wants.{Wants}
use Rattle.mc_filter.specs.declared.channels.ChannelPlace.{ChannelPlace}
use Rattle.mc_filter.specs.declared.tally.ChannelState.{ChannelState}
use Rattle.mc_text.specs.Pair.{pair_of}
use Rattle.mc_filter.specs.ChannelPlaces.{AreAnswersAtPlaces, AreGroupsOf, AreNumbersOf, IsAnswerAtPlace}
use Rattle.mc_filter.specs.ChannelPlaces.{IsChannelPlace, channel_at}
use Rattle.mc_filter.specs.Tallies.{is_unwanted}
use Rattle.mc_filter.proofs.MergedLemmas.{Decides-wanted}
use Rattle.mc_filter.proofs.TallyLemmas.{AreTallied}

-- a list that has what another list's items map to has what each maps to
pub contains-map : (f : ℕ × ℕ → ℕ) (xs : List (ℕ × ℕ)) (made kept : List ℕ) → made ≡ map f xs
    → ((n : ℕ) → Contains kept n ↔ Contains made n) → All (λ x. Contains kept (f x)) xs
contains-map f xs made kept is same = λ k d below.
    (same (f (get_or xs k d))).1 (rw is (
      k,
      omega (arith, length-map xs f, below),
      get_or-map f xs k d (f (get_or xs k d)) below,
    ))

-- an index of the channels' groups has no other
pub groups-of_made : (asked : List (ℕ × ℕ)) (made kept : List ℕ) → made ≡ map (λ channel. channel.1) asked
    → ((n : ℕ) → Contains kept n ↔ Contains made n) → AreGroupsOf kept asked
groups-of_made asked made kept made_is same = λ k d below.
    let group : ℕ = get_or kept k d in
    subst (λ ns. Contains ns group) made_is ((same group).0 (Contains-get_or kept k d below))

-- what a list contains is contained, mapped, in the list mapped
contains-mapped : (f : ℕ → ℕ × ℕ) (xs : List ℕ) (x : ℕ) → Contains xs x → Contains (map f xs) (f x)
contains-mapped f xs x has_it = (
  has_it.0,
  omega (arith, has_it.1, length-map xs f),
  get_or-map f xs has_it.0 x (f x) has_it.1 ∙ ap f has_it.2,
)

-- and one of their numbers no other channel
pub numbers-of_made : (asked : List (ℕ × ℕ)) (made kept : List ℕ) → map pair_of made ≡ asked
    → ((n : ℕ) → Contains kept n ↔ Contains made n) → AreNumbersOf kept asked
numbers-of_made asked made kept made_are same = λ k d below.
    let number : ℕ = get_or kept k d in
    subst (λ (cs : List (ℕ × ℕ)). Contains cs (pair_of number)) made_are
    (contains-mapped pair_of made number ((same number).0 (Contains-get_or kept k d below)))

-- the channels of places, with one more
pub map-channels_more : (f : ChannelPlace → ℕ × ℕ) (places : List ChannelPlace) (place : ChannelPlace)
    (asked : List (ℕ × ℕ))
    (i : ℕ) (channel : ℕ × ℕ) → i < length asked → channel ≡ get_or asked i channel
    → map f places ≡ take i asked → f place ≡ channel
    → map f (places ++ place ∷ []) ≡ take (i + 1) asked
map-channels_more f places place asked i channel below is before own =
    map-append f places (place ∷ []) ∙ ap (λ cs. cs ++ f place ∷ []) before
    ∙ ap (λ c. take i asked ++ c ∷ []) (own ∙ is) ∙ sym (take_more asked i channel below)

-- an answer by tests is right
wanted_answer-from_tests : (answer is_unlisted all : Bool) (P : Type 0) → Decides all P
    → answer ≡ not is_unlisted → (not is_unlisted || false) ≡ all → IsTrue answer ↔ P
wanted_answer-from_tests answer is_unlisted all P tallied is same = grind arith

-- the tally of all records gives a right answer for a channel
pub wanted_answer-from_tallied : (groups channels : List ℕ) (records : List Record) (excludes : List ℕ)
    (states : List ChannelState) (place : ChannelPlace) (own : ChannelState) (seen : ℕ) (answer : Bool)
    → length excludes ≡ length groups
    → AreTallied groups channels records excludes states [] → IsChannelPlace groups channels place
    → own ≡ get_or states place.channel own → seen ≡ get_or excludes place.group seen
    → answer ≡ not (is_unwanted own seen) → IsAnswerAtPlace channels records place answer
wanted_answer-from_tallied groups channels records excludes states place own seen answer count each at
    state_is seen_is
    is =
    let channel : ℕ × ℕ = channel_at channels place in
    let group : ℕ = get_or groups place.group 0 in
    let here : channel ≡ (channel.0, group) = ap (λ (n : ℕ). let p : ℕ × ℕ = (channel.0, n) in p) (sym
    at.is) in
    let tallied = each place.group place.channel channel.0 own at.group at.channel here in
    let seen_here : get_or excludes place.group 0 ≡ seen =
    get_or_default excludes place.group 0 seen (let below = at.group in omega (arith, below, count))
    ∙ sym seen_is in
    subst (λ (g : ℕ). IsTrue answer ↔ Wants records g channel.0) at.is
    (wanted_answer-from_tests answer (is_unwanted own seen) (wanted records group channel.0)
    (Wants records group channel.0) (Decides-wanted records group channel.0) is
    (rw (← state_is, seen_here) at tallied.wants))

-- one more right answer
pub wanted_answers_more : (channels : List ℕ) (records : List Record) (places : List ChannelPlace)
    (answers : List Bool) (place : ChannelPlace) (answer : Bool) → length answers < length places
    → place ≡ get_or places (length answers) place
    → IsAnswerAtPlace channels records place answer
    → AreAnswersAtPlaces channels records places answers
    → AreAnswersAtPlaces channels records places (answers ++ answer ∷ [])
wanted_answers_more channels records places answers place answer below is own before i d within =
    elim (cases_eq i (length answers)) [
      | inl last ↦
          let here : get_or places i d ≡ place =
          ap (λ n. get_or places n d) last
          ∙ get_or_default places (length answers) d place below ∙ sym is in
          let states : get_or (answers ++ answer ∷ []) i false ≡ answer =
          ap (λ n. get_or (answers ++ answer ∷ []) n false) last
          ∙ get_or_push answers answer false (length answers) refl
          in
          subst (λ p. IsAnswerAtPlace channels records p (get_or (answers ++ answer ∷ []) i false))
          (sym here) (subst (λ b. IsAnswerAtPlace channels records place b) (sym states) own)
      | inr earlier ↦
          let less : i < length answers =
          omega (arith, within, earlier, length-append answers (answer ∷ [])) in
          let states : get_or (answers ++ answer ∷ []) i false ≡ get_or answers i false =
          grind (arith, elements, less) in
          subst (λ b. IsAnswerAtPlace channels records (get_or places i d) b) (sym states)
          (before i d less)
    ]

-- the answers for all places are right for the channels
pub wanted_answers_all : (channels : List ℕ) (records : List Record) (places : List ChannelPlace)
    (answers : List Bool) → length answers ≡ length places
    → AreAnswersAtPlaces channels records places answers
    → (i : ℕ) (channel : ℕ × ℕ) (answer : Bool)
    → slice_get (map (channel_at channels) places) i ≡ Some channel
    → slice_get answers i ≡ Some answer
    → IsTrue answer ↔ Wants records channel.1 channel.0
wanted_answers_all channels records places answers count each i channel answer at states =
    let f : ChannelPlace → ℕ × ℕ = channel_at channels in
    let d : ChannelPlace = record { group = 0; channel = 0 } in
    let within : i < length answers = slice_get_within answers i answer states in
    let here : get_or answers i false ≡ answer = get_or_from_slice_get answers i answer false states
    in
    let own : f (get_or places i d) ≡ channel =
    sym (get_or-map f places i d (f d) (omega (arith, within, count)))
    ∙ get_or_from_slice_get (map f places) i channel (f d) at in
    subst (λ (c : ℕ × ℕ). IsTrue answer ↔ Wants records c.1 c.0) own
    (subst (λ (b : Bool). IsAnswerAtPlace channels records (get_or places i d) b) here
    (each i d within))
