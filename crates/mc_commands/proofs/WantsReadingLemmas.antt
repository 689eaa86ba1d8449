-- A report list that is read piece by piece.
use Rattle.std.proofs.Common.{◌≡◌, ℕ, Bool, false, ◌||◌, List, [], ◌++◌, refl, sym, ap, ◌∙◌, append_assoc}
use Rattle.std.proofs.Common.{arith, ◌+◌, ◌<◌, ◌⊎◌, ◌≢◌, inl, inr, length, Ok, Err, Option, Some, None}
use Rattle.std.specs.Prelude.{IsTrue, ◌↔◌, IfSome}
use Rattle.std.specs.Io.KnownBytes.{IsAtEnd}
use Rattle.std.proofs.lemmas.Bool.{cases_lt, lt-ltb}
use Rattle.std.proofs.lemmas.Bool.Decides.{nat_tests}
use Rattle.std.proofs.lemmas.List.Folds.{list_any-append}
use Rattle.mc_text.proofs.StepLemmas.{with_front-none, with_front-more}
use Rattle.mc_igmp.specs.declared.record.Record.{Record}
use Rattle.mc_igmp.specs.declared.fault.ListFault.{ListFault}
use Rattle.mc_igmp.specs.declared.fault.ListFaultKind.{ListFaultKind}
use Rattle.mc_igmp.specs.declared.fault.ListFaultKind.TheVariants.{TooLarge}
use Rattle.mc_igmp.specs.ReadingList.{fault_at, read_list}
use Rattle.mc_igmp.specs.ListSoFar.{ListSoFar, list_if}
use Rattle.mc_igmp.proofs.ListLemmas.{read_list-sound}
use Rattle.mc_igmp.specs.Wants.{Wants}
use Rattle.mc_filter.specs.FilterBuilding.{wanted_by}
use Rattle.mc_filter.proofs.MergedLemmas.{Decides-wanted}
use Rattle.mc_commands.specs.declared.fault.RunFault.{RunFault}
use Rattle.mc_commands.specs.declared.fault.RunFault.TheVariants.{Read, Write, Memory}
use Rattle.mc_commands.specs.Failures.{is_read}
use Rattle.mc_commands.specs.RunFault.{from_list_fault, from_list_fault_kind}
use Rattle.mc_commands.specs.WantsRun.{AnswersWants, IsWantsAnswer}
use Rattle.mc_commands.specs.WantsSoFar.{ReadsPiece, ReadsPieces, prepend_records}
use Rattle.mc_commands.proofs.WantsLemmas.{answers_wants-list_fault}

-- some record of two lists wants the flow if some record of one of them does
wants-append : (xs ys : List Record) (group source : ℕ) (v w : Bool)
    → IsTrue v ↔ Wants xs group source → IsTrue w ↔ Wants ys group source
    → IsTrue (v || w) ↔ Wants (xs ++ ys) group source
wants-append xs ys group source v w here there =
    grind (
      arith,
      nat_tests,
      list_any-append (wanted_by group source) xs ys,
      Decides-wanted xs group source,
      Decides-wanted ys group source,
      Decides-wanted (xs ++ ys) group source,
    )

-- no records, no wish
wants-no_records : (group source : ℕ) → IsTrue false ↔ Wants [] group source
wants-no_records group source = grind (arith, nat_tests, Decides-wanted [] group source)

-- no byte came
pub reads_piece-none : (so_far : ListSoFar) (group source : ℕ)
    → ReadsPiece so_far so_far [] group source false
reads_piece-none so_far group source = record {
  seen = [];
  goes_on = λ more. sym (with_front-none (list_if so_far more));
  wants = wants-no_records group source;
}

-- if a piece was read and then another, the records of both were read
pub reads_piece-more : (old mid new : ListSoFar) (bytes more : List ℕ) (group source : ℕ) (v w : Bool)
    → ReadsPiece old mid bytes group source v → ReadsPiece mid new more group source w
    → ReadsPiece old new (bytes ++ more) group source (v || w)
reads_piece-more old mid new bytes more group source v w first then = record {
  seen = first.seen ++ then.seen;
  goes_on = λ rest. ap (list_if old) (append_assoc bytes more rest)
      ∙ first.goes_on (more ++ rest)
      ∙ ap (prepend_records first.seen) (then.goes_on rest)
      ∙ with_front-more first.seen then.seen (list_if new rest);
  wants = wants-append first.seen then.seen group source v w first.wants then.wants;
}

-- ---- a whole input

-- past the limit, further bytes don't matter
list_if-past_limit : (so_far : ListSoFar) (more : List ℕ) → 16777216 < so_far.size
    → list_if so_far more ≡ Err (fault_at 0 0 TooLarge)
list_if-past_limit so_far more past =
    rw (lt-ltb 16777216 (so_far.size + length more) (omega arith)) refl

-- at the end of the input, or past the greatest size, reading ends as if nothing more came
list_if-at_end_or_past_limit : (so_far : ListSoFar) (rest : List ℕ) → (so_far.size < 16777217 → rest ≡ [])
    → list_if so_far rest ≡ list_if so_far []
list_if-at_end_or_past_limit so_far rest end = elim (cases_lt so_far.size 16777217) [
  | inl within ↦ ap (list_if so_far) (end within)
  | inr past ↦ list_if-past_limit so_far rest (omega arith) ∙ sym (list_if-past_limit so_far [] (omega arith))
]

-- what is known of the text once it is read
abbrev ReadingEndsWith : ListSoFar → ℕ → ℕ → Bool → List ℕ → Type 0
ReadingEndsWith new group source wanted text =
    (seen : List Record) × (read_list text ≡ prepend_records seen (list_if new []))
    × (IsTrue wanted ↔ Wants seen group source)

reading_ends-reads_pieces : (contents left : Option (List ℕ)) (old new : ListSoFar)
    (group source : ℕ) (w : Bool)
    → ((text : List ℕ) → list_if old text ≡ read_list text)
    → ReadsPieces contents left old new group source w → (new.size < 16777217 → IsAtEnd left)
    → IfSome contents (ReadingEndsWith new group source w)
reading_ends-reads_pieces None left old new group source w reads looks end = tt
reading_ends-reads_pieces (Some text) None old new group source w reads (bytes, came, looks) end = absurd came
reading_ends-reads_pieces (Some text) (Some rest) old new group source w reads (bytes, came, looks) end = (
  looks.seen,
  ap read_list came ∙ sym (reads (bytes ++ rest)) ∙ looks.goes_on rest
      ∙ ap (prepend_records looks.seen) (list_if-at_end_or_past_limit new rest end),
  looks.wants,
)

-- the answer, if reading ends with records
pub is_wants_answer-reads_pieces : (contents left : Option (List ℕ)) (old new : ListSoFar) (group source : ℕ)
    (w v : Bool) (last : List Record) → ((text : List ℕ) → list_if old text ≡ read_list text)
    → ReadsPieces contents left old new group source w → (new.size < 16777217 → IsAtEnd left)
    → list_if new [] ≡ Ok last → (IsTrue v ↔ Wants last group source)
    → IfSome contents (λ text. IsWantsAnswer text group source (w || v))
is_wants_answer-reads_pieces None left old new group source w v last reads looks end is wants = tt
is_wants_answer-reads_pieces (Some text) left old new group source w v last reads looks end is wants =
    let known = reading_ends-reads_pieces (Some text) left old new group source w reads looks end in (
      known.0 ++ last,
      read_list-sound text (known.0 ++ last) (known.1 ∙ ap (prepend_records known.0) is),
      wants-append known.0 last group source w v known.2 wants,
    )

-- if reading the list ends with a fault, that is the answer
pub answers_wants-list_refused : (contents left : Option (List ℕ)) (old new : ListSoFar) (group source : ℕ)
    (w : Bool) (fault : ListFault) → ((text : List ℕ) → list_if old text ≡ read_list text)
    → ReadsPieces contents left old new group source w → (new.size < 16777217 → IsAtEnd left)
    → list_if new [] ≡ Err fault
    → IfSome contents (λ text. AnswersWants text group source (Err (from_list_fault fault)))
answers_wants-list_refused None left old new group source w fault reads looks end is = tt
answers_wants-list_refused (Some text) left old new group source w fault reads looks end is =
    let known = reading_ends-reads_pieces (Some text) left old new group source w reads looks end in
    answers_wants-list_fault text group source fault (inl (known.1 ∙ ap (prepend_records known.0) is))

-- if the input failed, or memory ran out, nothing is claimed
pub answers_wants-failed_run : (contents : Option (List ℕ)) (group source : ℕ) (fault : RunFault)
    → (fault ≡ Read) ⊎ (fault ≡ Memory)
    → IfSome contents (λ text. AnswersWants text group source (Err fault))
answers_wants-failed_run None group source fault why = tt
answers_wants-failed_run (Some text) group source fault (inl is) = rw is tt
answers_wants-failed_run (Some text) group source fault (inr is) = rw is tt

-- neither a failed read nor want of memory is a failed write
pub is_not_write-read_or_memory : (fault : RunFault) → (fault ≡ Read) ⊎ (fault ≡ Memory) → fault ≢ Write
is_not_write-read_or_memory fault why = grind arith

-- a list's fault is no device's
pub is_no_device_fault-list_fault : (f : ListFault) (kind : ListFaultKind)
    → (from_list_fault_kind f kind ≢ Write) × (is_read (from_list_fault_kind f kind) ≡ false)
is_no_device_fault-list_fault f kind = grind arith
