-- What holds of a run's devices and of its output.
use Rattle.std.proofs.Common.{◌≡◌, ℕ, Bool, false, List, Option, Some, None, Result, Ok, Err, refl, sym}
use Rattle.std.proofs.Common.{ap, subst, ◌∙◌}
use Rattle.std.specs.Prelude.{◌+◌, cond, IfErr, IfOk, IfSome}
use Rattle.std.specs.String.{string_bytes}
use Rattle.std.proofs.lemmas.Bool.{false≢true}
use Rattle.mc_commands.specs.declared.fault.RunFault.{RunFault}
use Rattle.mc_commands.specs.declared.fault.RunFault.TheVariants.{Write}
use Rattle.mc_commands.specs.declared.run_output.RunOutput.{RunOutput}
use Rattle.mc_bundle.specs.Device.{failures_after}
use Rattle.mc_commands.specs.Failures.{IsNoDeviceFault, is_read, is_write}
use Rattle.mc_commands.specs.RunOutput.{Answers, IsOutputWritten, Writes, WritesPart}

-- ---- devices

-- a fault that is no device's leaves the count of the input's failures as it is
pub counted_reads-no_device_fault : {A : Type 0} (r : Result A RunFault) (before : ℕ)
    → IfErr r IsNoDeviceFault
    → before ≡ failures_after is_read r before
counted_reads-no_device_fault (Ok a) before none = refl
counted_reads-no_device_fault (Err f) before none =
    subst (λ (b : Bool). before ≡ cond b (before + 1) before) (sym none.0) refl

-- a fault that is no device's isn't `Write`
pub is_write_fault-other_fault : {A : Type 0} (r : Result A RunFault) → IfErr r IsNoDeviceFault
    → IfErr r (λ fault. is_write fault ≡ false)
is_write_fault-other_fault (Ok a) none = tt
is_write_fault-other_fault (Err f) none = none.1

-- ---- the output of a run

-- the output of a run is right for its input
abbrev pub IsOutputOf : {X : Type 0} → Option X → (X → Bool → List ℕ → Type 0)
    → Result RunOutput RunFault → Type 0
IsOutputOf contents Says s =
    IfOk s (λ run_output. IfSome contents (λ x. Says x run_output.yes (string_bytes run_output.text)))

-- the answer is right: it is the one that came with the text, or the fault came before the writing, or is
-- `Write`
pub answers-output_written : {X : Type 0} (contents : Option X) (Says : X → Bool → List ℕ → Type 0)
    (Refuses : X → RunFault → Type 0) (s : Result RunOutput RunFault) (r : Result Bool RunFault)
    (old new : Option (List ℕ)) → ((x : X) → Refuses x Write) → IsOutputOf contents Says s
    → IfErr s (λ fault. IfSome contents (λ x. Refuses x fault)) → IsOutputWritten s r old new
    → IfSome contents (λ x. Answers Says Refuses x r)
answers-output_written None Says Refuses s r old new silent says refused is = tt
answers-output_written (Some x) Says Refuses (Ok run_output) (Ok answer) old new silent says refused is = (
  string_bytes run_output.text,
  subst (λ (b : Bool). Says x b (string_bytes run_output.text)) (sym is.0) says,
)
answers-output_written (Some x) Says Refuses (Ok run_output) (Err fault) old new silent says refused is =
    subst (Refuses x) (sym is.0) (silent x)
answers-output_written (Some x) Says Refuses (Err cause) (Ok answer) old new silent says refused is
    = absurd is
answers-output_written (Some x) Says Refuses (Err cause) (Err fault) old new silent says refused is =
    subst (Refuses x) (sym is.0) refused

-- its fault is the one in place of the output, or the output device's,
pub fault-of_output_or_write : (P : RunFault → Type 0) (s : Result RunOutput RunFault)
    (r : Result Bool RunFault)
    (old new : Option (List ℕ)) → P Write → IfErr s P → IsOutputWritten s r old new → IfErr r P
fault-of_output_or_write P (Ok run_output) (Ok answer) old new write own is = tt
fault-of_output_or_write P (Ok run_output) (Err fault) old new write own is = subst P (sym is.0) write
fault-of_output_or_write P (Err cause) (Ok answer) old new write own is = absurd is
fault-of_output_or_write P (Err cause) (Err fault) old new write own is = subst P (sym is.0) own

-- what follows from each right text and its answer follows from the run's answer
pub answer-gives : {X : Type 0} (contents : Option X) (Says : X → Bool → List ℕ → Type 0)
    (So : X → Bool → Type 0) (s : Result RunOutput RunFault) (r : Result Bool RunFault)
    (old new : Option (List ℕ))
    → ((x : X) (answer : Bool) (written : List ℕ) → Says x answer written → So x answer)
    → IsOutputOf contents Says s → IsOutputWritten s r old new
    → IfOk r (λ answer. IfSome contents (λ x. So x answer))
answer-gives contents Says So s (Err fault) old new follows says is = tt
answer-gives None Says So s (Ok answer) old new follows says is = tt
answer-gives (Some x) Says So (Ok run_output) (Ok answer) old new follows says is =
    subst (So x) (sym is.0) (follows x run_output.yes (string_bytes run_output.text) says)
answer-gives (Some x) Says So (Err cause) (Ok answer) old new follows says is = absurd is

-- what is written whole,
pub writes-output_written : {X : Type 0} (contents : Option X) (Says : X → Bool → List ℕ → Type 0)
    (s : Result RunOutput RunFault) (r : Result Bool RunFault) (old new : Option (List ℕ))
    → IsOutputOf contents Says s → IsOutputWritten s r old new
    → IfOk r (λ answer. IfSome contents (λ x. Writes Says x answer old new))
writes-output_written contents Says s (Err fault) old new says is = tt
writes-output_written None Says s (Ok answer) old new says is = tt
writes-output_written (Some x) Says (Ok run_output) (Ok answer) old new says is = (
  string_bytes run_output.text,
  subst (λ (b : Bool). Says x b (string_bytes run_output.text)) (sym is.0) says,
  is.1,
)
writes-output_written (Some x) Says (Err cause) (Ok answer) old new says is = absurd is

-- no fault before the writing is `Write`, so that with this one a part of a right text was written
pub writes_part-output_written : {X : Type 0} (contents : Option X) (Says : X → Bool → List ℕ → Type 0)
    (s : Result RunOutput RunFault) (r : Result Bool RunFault) (old new : Option (List ℕ))
    → IfErr s (λ fault. is_write fault ≡ false) → IsOutputOf contents Says s → IsOutputWritten s r old new
    → r ≡ Err Write → IfSome contents (λ x. WritesPart Says x old new)
writes_part-output_written None Says s r old new no_write says is write = tt
writes_part-output_written (Some x) Says (Ok run_output) (Ok answer) old new no_write says is write
    = absurd cc
writes_part-output_written (Some x) Says (Ok run_output) (Err fault) old new no_write says is write =
    (run_output.yes, string_bytes run_output.text, says, is.1)
writes_part-output_written (Some x) Says (Err cause) (Ok answer) old new no_write says is write = absurd is
writes_part-output_written (Some x) Says (Err cause) (Err fault) old new no_write says is write =
    let same : fault ≡ Write = cc in
    absurd (false≢true (sym no_write ∙ ap is_write (sym is.0 ∙ same)))

-- what follows from the output
pub is_output_of-implication : {X : Type 0} (contents : Option X) (Says More : X → Bool → List ℕ → Type 0)
    (s : Result RunOutput RunFault)
    → ((x : X) (answer : Bool) (written : List ℕ) → Says x answer written → More x answer written)
    → IsOutputOf contents Says s → IsOutputOf contents More s
is_output_of-implication contents Says More (Err fault) follows says = tt
is_output_of-implication None Says More (Ok run_output) follows says = tt
is_output_of-implication (Some x) Says More (Ok run_output) follows says =
    follows x run_output.yes (string_bytes run_output.text) says
