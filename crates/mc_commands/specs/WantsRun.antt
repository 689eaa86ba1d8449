-- The answer and the line of `wants` (docs/FORMATS.md, "The program" and "What a LAN wants").
use Rattle.std.specs.Prelude.{◌≡◌, ℕ, ◌↔◌, Bool, true, false, IsTrue, List, [], ◌∷◌, ◌++◌, codes, Option}
use Rattle.std.specs.Prelude.{IfSome, Result, Ok, Err, ⊤}
use Rattle.mc_igmp.specs.declared.record.Record.{Record}
use Rattle.mc_igmp.specs.ReportList.{IsReportList}
use Rattle.mc_igmp.specs.ReadingList.{read_list}
use Rattle.mc_igmp.specs.Wants.{Wants}
use Rattle.mc_bundle.specs.Device.{AppendsProperPrefix}
use Rattle.mc_commands.specs.declared.fault.RunFault.{RunFault}
use Rattle.mc_commands.specs.declared.fault.RunFault.TheVariants.{Reports, Read, Write, Memory}

-- the line of the answer
abbrev pub answer_line : Bool → List ℕ
answer_line true = codes "wanted" ++ 10 ∷ []
answer_line false = codes "not wanted" ++ 10 ∷ []

-- The text is a report list, and the answer is whether its LAN wants what the source sends to the group.
abbrev pub IsWantsAnswer : List ℕ → ℕ → ℕ → Bool → Type 0
IsWantsAnswer text group source wanted =
    (records : List Record) × IsReportList text records
    × (IsTrue wanted ↔ Wants records group source)

-- The answer is right. A list is refused only for its first fault; the other faults are those of the devices,
-- and lack of memory.
abbrev pub AnswersWants : List ℕ → ℕ → ℕ → Result Bool RunFault → Type 0
AnswersWants text group source (Ok wanted) = IsWantsAnswer text group source wanted
AnswersWants text group source (Err (Reports fault)) = read_list text ≡ Err fault
AnswersWants text group source (Err Read) = ⊤
AnswersWants text group source (Err Write) = ⊤
AnswersWants text group source (Err Memory) = ⊤
-- `wants` reads no bundle
AnswersWants text group source (Err _) = ⊥

-- A proper part of the line of a right answer was written, from its front.
abbrev pub WritesPartOfLine : Option (List ℕ) → ℕ → ℕ → Option (List ℕ) → Option (List ℕ) → Type 0
WritesPartOfLine contents group source old new =
    (wanted : Bool) × IfSome contents (λ text. IsWantsAnswer text group source wanted)
    × AppendsProperPrefix old new (answer_line wanted)
