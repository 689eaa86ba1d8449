-- What the same records want, whatever their order and however often each is there.
use Rattle.std.proofs.Common.{◌≡◌, ℕ, Bool, true, false, List, [], sym, refl, subst, get_or}
use Rattle.std.specs.List.{list_any}
use Rattle.std.proofs.lemmas.List.Elements.{All-contains, Contains-get_or}
use Rattle.std.proofs.lemmas.List.Folds.{Any-from_list_any, list_any_at}
use Rattle.mc_igmp.specs.declared.record.Record.{Record}
use Rattle.mc_igmp.specs.Wants.{HaveSameRecords, IsListed}
use Rattle.mc_filter.specs.declared.tally.Tally.{Tally}
use Rattle.mc_filter.specs.FilterBuilding.{wanted, wanted_by}
use Rattle.mc_filter.specs.Tallies.{IsTallied, IsTallyOf, KeepsToChannels, KeepToChannelsUnlessMore}

-- answers of which each follows from the other are the same
same_answers : (a b : Bool) → (a ≡ true → b ≡ true) → (b ≡ true → a ≡ true) → a ≡ b
same_answers true b there back = sym (there refl)
same_answers false true there back = back refl
same_answers false false there back = refl

-- a record that passes a test is found among others too where it is listed
list_any-listed : (test : Record → Bool) (some others : List Record) → IsListed some others
    → list_any test some ≡ true → list_any test others ≡ true
list_any-listed test some others listed passed =
    let (k, r, below, there, passes) = Any-from_list_any test some passed in
    let (at, within, is) = listed r (k, below, there) in
    list_any_at test others at r within (rw is passes)

-- whether some record passes a test is the same of the same records
pub list_any-same : (test : Record → Bool) (some others : List Record) → HaveSameRecords some others
    → list_any test some ≡ list_any test others
list_any-same test some others same = same_answers (list_any test some) (list_any test others)
    (list_any-listed test some others (λ r. (same r).0))
    (list_any-listed test others some (λ r. (same r).1))

-- a tally counts all of the same records
pub is_tally_of-same : (groups channels : List ℕ) (some others : List Record) (tally : Tally)
    → HaveSameRecords some others → IsTallyOf groups channels some tally []
    → IsTallyOf groups channels others tally []
is_tally_of-same groups channels some others tally same counts =
    λ number place source default known within is.
    subst (λ all. IsTallied (get_or tally.states.items place default) (get_or tally.excludes.items number 0)
    (wanted [] (get_or groups number 0) source) all)
    (list_any-same (wanted_by (get_or groups number 0) source) some others same)
    (counts number place source default known within is)

-- what holds of each record holds of each of the same records
pub keep_to_channels-same : (groups channels : List ℕ) (some others : List Record) (tally : Tally)
    → HaveSameRecords some others → KeepToChannelsUnlessMore groups channels some tally []
    → KeepToChannelsUnlessMore groups channels others tally []
keep_to_channels-same groups channels some others tally same keep = λ none left k d below.
    All-contains (KeepsToChannels groups channels) some (get_or others k d) (keep none left)
    ((same (get_or others k d)).1 (Contains-get_or others k d below))
