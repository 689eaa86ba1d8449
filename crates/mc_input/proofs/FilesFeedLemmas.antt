-- The result of a reader that is fed a file in pieces.
use Rattle.std.specs.Prelude.{◌≡◌, ℕ, ◌≤◌, ◌<◌, List, length, Option, Some, None}
use Rattle.std.specs.Prelude.{Result, Ok, Err, OnOk, IfErr, IfSome, refl}
use Rattle.std.proofs.Common.{subst}
use Rattle.std.proofs.lemmas.Bool.{le-leb, lt-leb}
use Rattle.mc_bundle.specs.Bundle.{max_part}
use Rattle.mc_text.specs.Lines.{max_text}
use Rattle.mc_text.proofs.StepLemmas.{on_ok_map}
use Rattle.mc_files.specs.FilePart.{IsFailedOrMemory, bytes_within_max_part}
use Rattle.mc_files.specs.Files.{FileText, file_named}
use Rattle.mc_files.specs.declared.fault.FileFault.{FileFault}
use Rattle.mc_files.specs.declared.fault.FileFault.TheVariants.{Failed, Memory, TooLarge}

-- a file that was opened exists, and none of its bytes is read yet
pub file_named-from_open : (name : List ℕ) (contents : List FileText) (left : Option (List ℕ))
    (known : Option (List FileText)) → known ≡ Some contents
    → IfSome known (λ files. (bytes : List ℕ) × (file_named files name ≡ Some bytes)
    × (left ≡ Some bytes))
    → (bytes : List ℕ) × (file_named contents name ≡ Some bytes) × (left ≡ Some bytes)
file_named-from_open name contents left None is found = absurd cc
file_named-from_open name contents left (Some files) is found =
    let same : files ≡ contents = cc in
    subst (λ fs. (bytes : List ℕ) × (file_named fs name ≡ Some bytes) × (left ≡ Some bytes)) same found

-- the bytes of the file, if they fit a part,
pub bytes_within_max_part-fed : {E : Type 0} (found : Option (List ℕ)) (bytes : List ℕ)
    (r : Result (Unit {0}) FileFault) (old : List ℕ → E) (new : E) → found ≡ Some bytes
    → OnOk r ((length bytes ≤ max_part) × (old bytes ≡ new))
    → OnOk r ((whole : List ℕ) × (bytes_within_max_part found ≡ Ok whole) × (length whole ≤ max_text)
    × (old whole ≡ new))
bytes_within_max_part-fed found bytes r old new is fed =
    on_ok_map r fed (λ few.
    (bytes, rw (is, le-leb (length bytes) max_part few.0) refl, few.0, few.1))

-- or they are too many
pub bytes_within_max_part-Err : (found : Option (List ℕ)) (bytes : List ℕ) (r : Result (Unit {0}) FileFault)
    → found ≡ Some bytes → IfErr r (λ fault. fault ≡ TooLarge → max_part < length bytes)
    → IfErr r (λ fault. (¬ IsFailedOrMemory fault) → bytes_within_max_part found ≡ Err fault)
bytes_within_max_part-Err found bytes (Ok u) is fed = tt
bytes_within_max_part-Err found bytes (Err TooLarge) is fed = λ loud.
    rw (is, lt-leb (length bytes) max_part (fed refl)) refl
bytes_within_max_part-Err found bytes (Err Failed) is fed = λ loud. absurd (loud tt)
bytes_within_max_part-Err found bytes (Err Memory) is fed = λ loud. absurd (loud tt)
