-- What a run makes of its input: an answer, and a text that belongs to it. In each definition `Says` is the
-- relation that says which answers and texts are right for an input.
use Rattle.std.specs.Prelude.{◌≡◌, ℕ, Bool, List, Option, Result, Ok, Err, IfOk, IfSome}
use Rattle.std.specs.String.{string_bytes}
use Rattle.std.specs.Io.KnownBytes.{Appends}
use Rattle.mc_bundle.specs.Device.{AppendsProperPrefix}
use Rattle.mc_commands.specs.declared.fault.RunFault.{RunFault}
use Rattle.mc_commands.specs.declared.fault.RunFault.TheVariants.{Write}
use Rattle.mc_commands.specs.declared.run_output.RunOutput.{RunOutput}

-- The run's answer is right, with some text, or its fault is.
abbrev pub Answers : {X F : Type 0} → (X → Bool → List ℕ → Type 0) → (X → F → Type 0) → X
    → Result Bool F → Type 0
Answers Says Refuses x (Ok answer) = (written : List ℕ) × Says x answer written
Answers Says Refuses x (Err fault) = Refuses x fault

-- There is at most one right answer and text.
abbrev pub HasOneOutput : (Bool → List ℕ → Type 0) → Type 0
HasOneOutput Says = (all every : Bool) (text other : List ℕ) → Says all text → Says every other
    → (all ≡ every) × (text ≡ other)

-- A right text of the answer was written whole.
abbrev pub Writes : {X : Type 0} → (X → Bool → List ℕ → Type 0) → X → Bool → Option (List ℕ)
    → Option (List ℕ) → Type 0
Writes Says x answer old new =
    (written : List ℕ) × Says x answer written × Appends old new written

-- After an answer a right text of it was written whole, if the run's input is known.
abbrev pub IsWrittenWhole : {X : Type 0} → (X → Bool → List ℕ → Type 0) → Option X → Result Bool RunFault
    → Option (List ℕ) → Option (List ℕ) → Type 0
IsWrittenWhole Says given result old new = IfOk result (λ yes. IfSome given (λ x. Writes Says x yes old new))

-- A proper part of a right text was written, from its front.
abbrev pub WritesPart : {X : Type 0} → (X → Bool → List ℕ → Type 0) → X → Option (List ℕ)
    → Option (List ℕ) → Type 0
WritesPart Says x old new =
    (answer : Bool) × (written : List ℕ) × Says x answer written × AppendsProperPrefix old new written

-- What becomes of a run's output: its text is written whole, or a part of it if the output fails. A fault in
-- its place is returned, and nothing is written.
abbrev pub IsOutputWritten : Result RunOutput RunFault → Result Bool RunFault → Option (List ℕ)
    → Option (List ℕ) → Type 0
IsOutputWritten (Ok run_output) (Ok answer) old new =
    (answer ≡ run_output.yes) × Appends old new (string_bytes run_output.text)
IsOutputWritten (Ok run_output) (Err fault) old new =
    (fault ≡ Write) × AppendsProperPrefix old new (string_bytes run_output.text)
IsOutputWritten (Err cause) (Ok answer) old new = ⊥
IsOutputWritten (Err cause) (Err fault) old new = (fault ≡ cause) × (new ≡ old)
