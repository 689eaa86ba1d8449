-- What the run of each task answers and writes, with the task's own arguments (docs/FORMATS.md, the section
-- "The program"). `old` and `new` are what was written to the output before the run and after it.
use Rattle.std.specs.Prelude.{◌≡◌, ◌==◌, ◌+◌, ◌&&◌, ◌||◌, not, ℕ, Bool, true, false, List, [], map}
use Rattle.std.specs.Prelude.{Option, Some, Result, Ok, Err, IfErr, IfOk, IfSome, OnErr, OnOk}
use Rattle.std.specs.Io.KnownBytes.{Appends}
use Rattle.mc_bundle.specs.Bundle.{PartText, max_input}
use Rattle.mc_bundle.specs.Device.{AppendsProperPrefix}
use Rattle.mc_text.specs.Lines.{max_text}
use Rattle.mc_bundle.specs.ReadFault.{ConsumesUpTo}
use Rattle.mc_theory.specs.Findings.{Choices}
use Rattle.mc_files.specs.Files.{FileText}
use Rattle.mc_files.specs.Packing.{IsPacked}
use Rattle.mc_files.specs.PackRun.{WritesPackedBundle, WritesPackedPrefix}
use Rattle.mc_cli.specs.declared.audit_words.AuditWords.{AuditWords}
use Rattle.mc_run.specs.AuditPieces.{yes_of}
use Rattle.mc_run.specs.AuditedFiles.{LeftOutValue, MeansAuditedWhere}
use Rattle.mc_run.specs.AuditRun.{HasCounts, IsAuditText}
use Rattle.mc_run.specs.AuditClaims.{SaysOfEach, SaysWhichAreRight}
use Rattle.mc_run.specs.AuditExclusions.{AreFoundInWhole}
use Rattle.mc_run.specs.AuditYes.{AuditSaysYes, FilesKeepHeadline}
use Rattle.mc_commands.specs.CheckRun.{BundleKeepsHeadline, IsVerdictText, SaysYes}
use Rattle.mc_commands.specs.Faults.{IsFaultOfAudit, IsFaultOfCheck, IsFaultOfMake, IsFaultOfPack}
use Rattle.mc_commands.specs.Faults.{IsFaultOfReplay, IsFaultOfWants}
use Rattle.mc_commands.specs.InputMeaning.{AreRefusedWithout, IsRefusedFor}
use Rattle.mc_commands.specs.MakeRun.{IsMadeText, SaysAllRight}
use Rattle.mc_commands.specs.PackingRun.{IsPackRunAnswer, IsDeviceOrMemoryFault}
use Rattle.mc_commands.specs.ReplayRun.{IsReplayRefused, IsTravelText}
use Rattle.mc_commands.specs.RunOutput.{Answers, IsWrittenWhole, WritesPart}
use Rattle.mc_commands.specs.WantsRun.{answer_line, AnswersWants, WritesPartOfLine}
use Rattle.mc_cli.specs.declared.audit_options.AuditOptions.{AuditOptions}
use Rattle.mc_run.specs.declared.audit.audit_output.AuditAnswer.{AuditAnswer}
use Rattle.mc_commands.specs.declared.fault.RunFault.{RunFault}
use Rattle.mc_commands.specs.declared.fault.RunFault.TheVariants.{Write}

-- If the run's input is known, the answer is right, with some text, or the fault is. The text of an answer
-- was written whole, or a part of it where the output failed.
pub record IsRunResult {X : Type 0} (Says : X → Bool → List ℕ → Type 0) (Refuses : X → RunFault → Type 0)
    (given : Option X) (result : Result Bool RunFault) (old new : Option (List ℕ)) : Type 0 where
  pub answer : IfSome given (λ x. Answers Says Refuses x result)
  pub written : IsWrittenWhole Says given result old new
  pub part : result ≡ Err Write → IfSome given (λ x. WritesPart Says x old new)

-- ---- tasks that read the input

-- `wants` answers whether the LAN of the input's report list wants what the source sends to the group.
pub record IsWantsRun (group source : ℕ) (remaining later : Option (List ℕ)) (result : Result Bool RunFault)
    (old new : Option (List ℕ)) : Type 0 where
  pub answer : IfSome remaining (λ text. AnswersWants text group source result)
  pub written : IfOk result (λ wanted. Appends old new (answer_line wanted))
  pub part : result ≡ Err Write → WritesPartOfLine remaining group source old new
  pub faults : IfErr result IsFaultOfWants
  pub consumed : ConsumesUpTo (max_text + 1) remaining later

-- `check` answers whether all verdicts by the bundle's certificate are yes. After a yes the headline holds.
pub record IsCheckRun (remaining later : Option (List ℕ)) (result : Result Bool RunFault)
    (old new : Option (List ℕ)) : Type 0 where
  pub run : IsRunResult IsVerdictText (IsRefusedFor true) remaining result old new
  pub faults : IfErr result IsFaultOfCheck
  pub consumed : ConsumesUpTo max_input remaining later
  pub headline : SaysYes result old new → IfSome remaining BundleKeepsHeadline

-- `make` answers whether it wrote a certificate, which it does exactly if every flow is right; otherwise it
-- writes the findings.
pub record IsMakeRun (remaining later : Option (List ℕ)) (result : Result Bool RunFault)
    (old new : Option (List ℕ)) : Type 0 where
  pub run : IsRunResult IsMadeText (IsRefusedFor false) remaining result old new
  pub faults : IfErr result IsFaultOfMake
  pub consumed : ConsumesUpTo max_input remaining later
  pub right : IfOk result (λ certified. IfSome remaining (λ text. SaysAllRight text certified))

-- the choices of a picker that always takes the first waiting copy, or always the last
abbrev pub choices_of : (last : Bool) → Choices
choices_of last = record { numbers = []; last = last }

-- `replay` writes the travel of a packet of the flow with this number, with this TTL, in this order, and
-- answers whether its finding is `Clean`.
pub record IsReplayRun (flow ttl : ℕ) (last : Bool) (remaining later : Option (List ℕ))
    (result : Result Bool RunFault) (old new : Option (List ℕ)) : Type 0 where
  pub run : IsRunResult (IsTravelText flow ttl (choices_of last)) (IsReplayRefused flow) remaining
      result old new
  pub faults : IfErr result (IsFaultOfReplay flow)
  pub consumed : ConsumesUpTo max_input remaining later

-- ---- tasks that read the files of a folder

-- the result of packing, without the answer
abbrev pub packed_without_yes : Result Bool RunFault → Result (Unit {0}) RunFault
packed_without_yes (Ok done) = Ok tt
packed_without_yes (Err fault) = Err fault

-- `pack` writes the bundle of the files, and answers yes.
pub record IsPackRun (certificate : Bool) (contents : Option (List FileText))
    (result : Result Bool RunFault) (old new : Option (List ℕ)) : Type 0 where
  pub yes : IfOk result (λ yes. yes ≡ true)
  pub answer : IfSome contents (λ files. IsPackRunAnswer certificate files (packed_without_yes result))
  pub only : (files : List FileText) (parts : List PartText) → contents ≡ Some files
      → IsPacked files certificate parts → IfErr result IsDeviceOrMemoryFault
  pub written : OnOk result (IfSome contents (λ files. WritesPackedBundle certificate files old new))
  pub part : result ≡ Err Write
      → IfSome contents (λ files. WritesPackedPrefix certificate files old new)
  pub faults : IfErr result IsFaultOfPack

-- Whether the answer of an audit has status 0: it is yes and, with the option strict, some LAN wants each
-- flow and some flow answers each want.
abbrev pub is_enough : (strict : Bool) → AuditAnswer → Bool
is_enough strict answer =
    answer.yes && (((answer.counts.unwanted == 0) && (answer.counts.asked == 0)) || not strict)

-- whether the answer of an audit has status 0, or the audit's fault
abbrev pub enough_of : (strict : Bool) → Result AuditAnswer RunFault → Result Bool RunFault
enough_of strict (Ok answer) = Ok (is_enough strict answer)
enough_of strict (Err fault) = Err fault

-- what the arguments of `audit` leave out: the excluded routers, and the ignored ranges of groups
abbrev pub left_out_by : AuditWords → LeftOutValue
left_out_by words = record {
  routers = map (λ name. name.now) words.without.items;
  groups = words.ignored.items;
}

-- This is the result of an audit of the files, with these options and without what is left out.
pub record IsAuditResult (options : AuditOptions) (left_out : LeftOutValue)
    (contents : Option (List FileText)) (outcome : Result AuditAnswer RunFault)
    (old new : Option (List ℕ)) : Type 0 where
  -- The answer is that of an audit of the files, or the files are refused for this fault.
  pub answer : IfSome contents
      (λ files. Answers (IsAuditText options left_out) (AreRefusedWithout left_out.routers) files
      (yes_of outcome))
  -- After an answer the text of the audit was written whole,
  pub written : IsWrittenWhole (IsAuditText options left_out) contents (yes_of outcome) old new
  -- or a proper part of it where the output failed.
  pub part : outcome ≡ Err Write
      → IfSome contents (λ files. WritesPart (IsAuditText options left_out) files old new)
  -- The text says of each flow whether it is right.
  pub right : IsWrittenWhole (SaysWhichAreRight options left_out) contents (yes_of outcome) old new
  -- The counts are those of the audited flows and wants.
  pub counts : IfOk outcome (λ answer. IfSome contents
      (MeansAuditedWhere options left_out (λ audited. HasCounts audited options answer.counts)))
  -- The text says yes to each flow, or gives what is found of it, and what it says is true;
  pub each : IsWrittenWhole (SaysOfEach options left_out) contents (yes_of outcome) old new
  -- a part of such a text was written where the output failed.
  pub each_in_part : outcome ≡ Err Write
      → IfSome contents (λ files. WritesPart (SaysOfEach options left_out) files old new)
  -- Where routers are excluded, a second copy or a stray that is found makes the flow wrong in the whole
  -- domain, too.
  pub excluded : IsWrittenWhole (AreFoundInWhole options left_out) contents (yes_of outcome) old new
  -- The fault is one that an audit can return.
  pub faults : IfErr outcome IsFaultOfAudit
  -- After a yes the headline holds for each flow.
  pub headline : AuditSaysYes (yes_of outcome) old new → IfSome contents FilesKeepHeadline

-- `audit` answers whether the audit's answer has status 0, with the options of the command line and without
-- what these leave out.
pub record IsAuditRun (words : AuditWords) (contents : Option (List FileText))
    (result : Result Bool RunFault) (old new : Option (List ℕ)) : Type 0 where
  pub audited : Result AuditAnswer RunFault
  pub answered : IsAuditResult words.options (left_out_by words) contents audited old new
  pub enough : result ≡ enough_of words.options.strict audited

-- ---- tasks that read nothing

-- `--version` and `help` write a text, and answer yes.
pub record IsTextRun (text : List ℕ) (result : Result Bool RunFault)
    (old new : Option (List ℕ)) : Type 0 where
  pub yes : IfOk result (λ yes. yes ≡ true)
  pub written : OnOk result (Appends old new text)
  pub part : OnErr result (AppendsProperPrefix old new text)
  pub only : IfErr result (λ fault. fault ≡ Write)
