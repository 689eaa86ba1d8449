-- The answer of a run by a list's fault.
use Rattle.std.proofs.Common.{◌≡◌, ℕ, List, ◌⊎◌, inl, inr, Err, sym, subst}
use Rattle.mc_igmp.specs.declared.fault.ListFault.{ListFault}
use Rattle.mc_igmp.specs.declared.fault.ListFaultKind.{ListFaultKind}
use Rattle.mc_igmp.specs.declared.fault.ListFaultKind.TheVariants as list
use Rattle.mc_igmp.specs.ReadingList.{oom_fault, read_list}
use Rattle.mc_commands.specs.RunFault.{from_list_fault, from_list_fault_kind}
use Rattle.mc_commands.specs.WantsRun.{AnswersWants}

-- the answer by each kind of a list's fault
answers_wants-list_fault_kind : (text : List ℕ) (group source : ℕ) (f : ListFault) → read_list text ≡ Err f
    → (k : ListFaultKind) → AnswersWants text group source (Err (from_list_fault_kind f k))
answers_wants-list_fault_kind text group source f read list.BadHex = read
answers_wants-list_fault_kind text group source f read list.Short = read
answers_wants-list_fault_kind text group source f read list.BadChecksum = read
answers_wants-list_fault_kind text group source f read list.Truncated = read
answers_wants-list_fault_kind text group source f read list.StateChange = read
answers_wants-list_fault_kind text group source f read list.TooLarge = read
answers_wants-list_fault_kind text group source f read list.Unended = read
answers_wants-list_fault_kind text group source f read list.Memory = tt

-- the answer for a list that is refused, or for which memory ran out
pub answers_wants-list_fault : (text : List ℕ) (group source : ℕ) (f : ListFault)
    → (read_list text ≡ Err f) ⊎ (f ≡ oom_fault) → AnswersWants text group source (Err (from_list_fault f))
answers_wants-list_fault text group source f (inl read) = answers_wants-list_fault_kind text group
    source f read f.kind
answers_wants-list_fault text group source f (inr none) =
    subst (λ (x : ListFault). AnswersWants text group source (Err (from_list_fault x))) (sym none) tt
