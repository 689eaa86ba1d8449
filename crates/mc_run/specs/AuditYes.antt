-- What a yes of `audit` promises (docs/PROMISES.md). `AuditSaysYes` and `FilesKeepHeadline` are to be
-- trusted: after a yes, by the answer or by the line that was written, the headline holds for each flow of
-- the domain that the files mean. By `IsYesLineLast` the line of a yes stands nowhere else in a text.
use Rattle.std.specs.Prelude.{◌≡◌, ◌⊎◌, ℕ, Bool, true, List, ◌++◌, codes, Option, Result, Ok}
use Rattle.mc_files.specs.Files.{FileText}
use Rattle.mc_forward.specs.Domains.{DomainValue}
use Rattle.mc_maker.specs.declared.examination.Examined.{Examined}
use Rattle.mc_input.specs.Meaning.{FilesMeanDomain, MeansDomainWhere}
use Rattle.mc_commands.specs.CheckRun.{AreYesWords, IsLineStart, KeepsHeadline, WroteAtStart, WroteYes}
use Rattle.mc_commands.specs.CheckRun.{yes_object, yes_words}
use Rattle.mc_commands.specs.MakeRun.{AreExamined, certified_lists}
use Rattle.mc_commands.specs.declared.fault.RunFault.{RunFault}

-- ---- the headline

-- Each of the domain's flows has a list of entries for which the headline holds.
pub record KeepsHeadlineByLists (domain : DomainValue) : Type 0 where
  pub examined : List Examined
  pub are_examined : AreExamined domain examined
  pub keeps : KeepsHeadline domain (certified_lists examined)

-- The files mean a domain of which this holds.
abbrev pub FilesKeepHeadline : List FileText → Type 0
FilesKeepHeadline = MeansDomainWhere FilesMeanDomain KeepsHeadlineByLists

-- ---- the line that says yes

-- Where the words of a yes are at the start of a line of the text, the answer is yes, the words are those of
-- this form, and the line is the last one.
abbrev pub IsYesLineLast : (json all : Bool) → (written : List ℕ) → Type 0
IsYesLineLast json all written = (words front rest : List ℕ) → IsLineStart front
    → AreYesWords words → written ≡ front ++ (words ++ rest)
    → (all ≡ true) × (words ≡ yes_words json) × (rest ≡ codes "\n")

-- The words of a yes, of text or of JSON, were written at the start of a line.
abbrev pub WroteYesLine : Option (List ℕ) → Option (List ℕ) → Type 0
WroteYesLine old new = WroteYes old new ⊎ WroteAtStart yes_object old new

-- An audit says yes by its answer or by what it wrote, whole or in part.
abbrev pub AuditSaysYes : Result Bool RunFault → Option (List ℕ) → Option (List ℕ) → Type 0
AuditSaysYes result old new = (result ≡ Ok true) ⊎ WroteYesLine old new
