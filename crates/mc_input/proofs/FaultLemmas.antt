-- Which faults a folder's files can have.
use Rattle.std.proofs.Common.{◌≡◌, true, Result, Ok, Err, refl, subst}
use Rattle.mc_text.specs.Steps.{map_fault}
use Rattle.mc_files.specs.declared.fault.FileFault.{FileFault}
use Rattle.mc_files.specs.declared.fault.FileFault.TheVariants as file
use Rattle.mc_input.specs.SourceFault.{is_possible_for_files, from_file_fault}
use Rattle.mc_input.specs.declared.fault.InputFault.{InputFault}
use Rattle.mc_input.specs.declared.fault.InputFault.TheVariants.{Memory}
use Rattle.mc_input.specs.declared.source_fault.SourceFault.TheVariants.{Input}

-- the fault of a source of files
pub is_possible_for_files-from_file_fault : (fault : FileFault)
    → is_possible_for_files (from_file_fault fault) ≡ true
is_possible_for_files-from_file_fault file.Failed = refl
is_possible_for_files-from_file_fault file.TooLarge = refl
is_possible_for_files-from_file_fault file.Memory = refl

-- the fault of a reader, or that memory ran out
pub is_possible_for_files-from_reader : {Y E : Type 0} (fault : InputFault) (as_ours : E → InputFault)
    (read : Result Y E) → ((e : E) → is_possible_for_files (Input (as_ours e)) ≡ true)
    → ((¬ (fault ≡ Memory)) → map_fault as_ours read ≡ Err fault)
    → is_possible_for_files (Input fault) ≡ true
is_possible_for_files-from_reader Memory as_ours read own is = refl
is_possible_for_files-from_reader {Y = Y} fault as_ours (Ok y) own is =
    let none : (let r : Result Y InputFault = Ok y in r) ≡ Err fault = is (λ memory. cc) in absurd cc
is_possible_for_files-from_reader {Y = Y} fault as_ours (Err e) own is =
    let there : (let r : Result Y InputFault = Err (as_ours e) in r) ≡ Err fault = is (λ memory. cc) in
    let same : as_ours e ≡ fault = cc in
    subst (λ (f : InputFault). is_possible_for_files (Input f) ≡ true) same (own e)
