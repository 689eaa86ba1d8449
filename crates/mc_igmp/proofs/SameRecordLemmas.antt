-- Lists with the same records, and lines that are known.
use Rattle.std.proofs.Common.{◌≡◌, ℕ, ◌≤◌, true, List, ◌++◌, Ok, inl, inr, refl, subst}
use Rattle.std.proofs.Common.{Option, Some, option_map, slice_get, unwrap_or, [], ap, sym, ◌∙◌}
use Rattle.std.proofs.lemmas.List.Elements.{Contains-append_left, Contains-append_right}
use Rattle.std.proofs.lemmas.List.Elements.{Contains-append_cases, All-push}
use Rattle.std.proofs.lemmas.Option.{get_or_from_slice_get, slice_get_within}
use Rattle.mc_text.specs.Lines.{LineText}
use Rattle.mc_igmp.specs.declared.record.Record.{Record}
use Rattle.mc_igmp.specs.ReadingList.{read_line}
use Rattle.mc_igmp.specs.declared.known_lines.KnownLine.{KnownLine}
use Rattle.mc_igmp.specs.KnownLines.{ended_line, IsKnownLine, AreKnownLines, AddsLine}
use Rattle.mc_igmp.specs.Wants.{HaveSameRecords, IsListed}
use Rattle.mc_igmp.proofs.ListLemmas.{read_line-sound, read_line-complete}

-- ---- lists with the same records

-- records of the one list are in the other, also where the same records follow both
is_listed-append : (some others added : List Record) → IsListed some others
    → IsListed (some ++ added) (others ++ added)
is_listed-append some others added are r there = elim (Contains-append_cases some added r there) [
  | inl here ↦ Contains-append_left others added r (are r here)
  | inr here ↦ Contains-append_right others added r here
]

-- lists with the same records have them also where the same records follow both
pub have_same_records-append : (some others added : List Record) → HaveSameRecords some others
    → HaveSameRecords (some ++ added) (others ++ added)
have_same_records-append some others added same = λ r. (
  is_listed-append some others added (λ x. (same x).0) r,
  is_listed-append others some added (λ x. (same x).1) r,
)

-- records that a list has already change nothing
pub have_same_records-listed : (some all added : List Record) → HaveSameRecords some all → IsListed added all
    → HaveSameRecords some (all ++ added)
have_same_records-listed some all added same listed = λ r. (
  (λ there. Contains-append_left all added r ((same r).0 there)),
  (λ there. elim (Contains-append_cases all added r there) [
    | inl here ↦ (same r).1 here
    | inr here ↦ (same r).1 (listed r here)
  ]),
)

-- ---- known lines

-- an ended line is read alike wherever it comes
pub read_line-any_number : (line : LineText) (records : List Record) → line.ended ≡ true
    → read_line line ≡ Ok records
    → (number : ℕ) → number ≤ 65536 → read_line (ended_line number line.bytes) ≡ Ok records
read_line-any_number line records ended read number within =
    let (m, is, are) = read_line-sound line records read in
    rw are (read_line-complete (ended_line number line.bytes) m (record {
      bytes = is.bytes;
      ended = refl;
      number = within;
      size = is.size;
      decoded = is.decoded;
      denotes = is.denotes;
      accepted = is.accepted;
    }))

-- the line at a place is a known one, and has this text
pub known_line-at : (list : List Record) (lines : List KnownLine) (place : ℕ) (text : List ℕ)
    (known : KnownLine) → AreKnownLines lines list
    → option_map (λ (line : KnownLine). line.text.items) (slice_get lines place) ≡ Some text
    → slice_get lines place ≡ Some known → IsKnownLine list known × (known.text.items ≡ text)
known_line-at list lines place text known are found is = (
  subst (IsKnownLine list) (get_or_from_slice_get lines place known known is)
      (are place known (slice_get_within lines place known is)),
  ap (λ (o : Option (List ℕ)). unwrap_or o []) (rw is at found),
)

-- known lines stay so where the list gets longer
pub are_known_lines-append : (lines : List KnownLine) (list added : List Record) → AreKnownLines lines list
    → AreKnownLines lines (list ++ added)
are_known_lines-append lines list added are = λ k d below. record {
  read = (are k d below).read;
  listed = λ r there. Contains-append_left list added r ((are k d below).listed r there);
}

-- known lines stay so where one is added that is one
pub are_known_lines-added : (text : List ℕ) (records list : List Record) (old new : List KnownLine)
    → AddsLine text records old new → AreKnownLines old list
    → ((known : KnownLine) → known.text.items ≡ text → known.records ≡ records → IsKnownLine list known)
    → AreKnownLines new list
are_known_lines-added text records list old new (inl same) are one = rw same are
are_known_lines-added text records list old new (inr (added, grown, of_text, of_records)) are one =
    rw grown (All-push (IsKnownLine list) old added are (one added of_text of_records))

-- a line that was read, with its records, which are in the list now, is a known one
pub known_line-read : (line : LineText) (old records : List Record) (known : KnownLine)
    → line.ended ≡ true → read_line line ≡ Ok records → known.text.items ≡ line.bytes
    → known.records ≡ records → IsKnownLine (old ++ records) known
known_line-read line old records known ended read of_text of_records = record {
  read = λ number within. rw (of_text, of_records) (read_line-any_number line records ended read number within);
  listed = λ r there. Contains-append_right old records r (rw of_records at there);
}

-- a line within the limits that has the text of a known one is read as its records
pub read_line-known : (list : List Record) (line : LineText) (known : KnownLine) → IsKnownLine list known
    → known.text.items ≡ line.bytes → line.ended ≡ true → line.number ≤ 65536
    → read_line line ≡ Ok known.records
read_line-known list line known is of_text ended within =
    ap read_line (λ i. record { number = line.number; bytes = sym of_text i; ended = ended i })
    ∙ is.read line.number within
