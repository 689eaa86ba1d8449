-- The faults of reading a bundle are framing faults.
use Rattle.std.proofs.Common.{Bool, ◌≡◌, ℕ, zero, suc, true, false, cond, List, Option, Some, None}
use Rattle.std.proofs.Common.{Result, Ok, Err, refl, inl, inr}
use Rattle.std.specs.Prelude.{IfErr, ◌⊎◌, position, take, ◌==◌}
use Rattle.std.proofs.lemmas.Result.{IfErr-at_err}
use Rattle.mc_bundle.specs.declared.bundle_fault.BundleFault.{BundleFault}
use Rattle.mc_bundle.specs.declared.bundle_fault.BundleFault.TheVariants as faults
use Rattle.mc_bundle.specs.Bundle.{PartText, max_line}
use Rattle.mc_bundle.specs.BundleFaults.{IsFramingFault}
use Rattle.mc_bundle.specs.BundleReading.{Gives, BundlePlace, cut_line, line_at, part_bytes_at}
use Rattle.mc_bundle.specs.BundleReading.{part_for_line, next_part_from}
use Rattle.mc_bundle.specs.BundleReading.{with_parts_after, parts_from}
use Rattle.mc_bundle.specs.BundleReading.{bundle_of}
use Rattle.mc_text.specs.Steps.{◌>>=◌}

-- a fault of two steps is a framing fault, if those of each are
bind-framing_fault : {A B : Type 0} (read : Result A BundleFault) (next : A → Result B BundleFault)
    → IfErr read IsFramingFault → ((x : A) → IfErr (next x) IsFramingFault)
    → IfErr (read >>= next) IsFramingFault
bind-framing_fault (Ok x) next first second = second x
bind-framing_fault (Err fault) next first second = first

-- a fault under a test is a framing fault, if those of both branches are
cond-framing_fault : {A : Type 0} (b : Bool) (x y : Result A BundleFault) → IfErr x IsFramingFault
    → IfErr y IsFramingFault → IfErr (cond b x y) IsFramingFault
cond-framing_fault true x y first second = first
cond-framing_fault false x y first second = second

-- a line that is not found is a framing fault
cut_line-framing_fault : (rest : List ℕ) (place : Option ℕ) → IfErr (cut_line rest place) IsFramingFault
cut_line-framing_fault rest (Some n) = tt
cut_line-framing_fault rest None = search cond-framing_fault

-- the fault of a line at the front is a framing fault
line_at-framing_fault : (rest : List ℕ) → IfErr (line_at rest) IsFramingFault
unfolding line_at
line_at-framing_fault rest = cut_line-framing_fault rest (position (λ b. b == 10) (take max_line rest))

-- the fault of a part's bytes is a framing fault
part_bytes_at-framing_fault : (size : ℕ) (rest : List ℕ) → IfErr (part_bytes_at size rest) IsFramingFault
unfolding part_bytes_at
part_bytes_at-framing_fault size rest = search cond-framing_fault

-- the fault of a part behind its line is a framing fault
part_for_line-framing_fault : (place : BundlePlace) (line after : List ℕ) (header : Option (List ℕ × ℕ))
    → IfErr (part_for_line place line after header) IsFramingFault
part_for_line-framing_fault place line after None = tt
part_for_line-framing_fault place line after (Some header) =
    search (cond-framing_fault, bind-framing_fault, part_bytes_at-framing_fault)

-- the fault of the part at a place is a framing fault
next_part_from-framing_fault : (place : BundlePlace) → IfErr (next_part_from place) IsFramingFault
unfolding next_part_from
next_part_from-framing_fault place =
    search (cond-framing_fault, bind-framing_fault, line_at-framing_fault, part_for_line-framing_fault)

with_parts_after-framing_fault : (found : Option (PartText × BundlePlace))
    (next : BundlePlace → Result (List PartText) BundleFault)
    → ((place : BundlePlace) → IfErr (next place) IsFramingFault)
    → IfErr (with_parts_after found next) IsFramingFault
with_parts_after-framing_fault None next then = tt
with_parts_after-framing_fault (Some found) next then =
    bind-framing_fault (next found.1) _ (then found.1) (λ _. tt)

parts_from-framing_fault : (n room : ℕ) (rest : List ℕ) → IfErr (parts_from n room rest) IsFramingFault
unfolding parts_from
parts_from-framing_fault zero room rest = bind-framing_fault _ _ (next_part_from-framing_fault _) (λ _. tt)
parts_from-framing_fault (suc n) room rest =
    bind-framing_fault _ _ (next_part_from-framing_fault _) (λ found.
    with_parts_after-framing_fault found _ (λ place. parts_from-framing_fault n place.room place.rest))

bundle_of-framing_fault : (text : List ℕ) → IfErr (bundle_of text) IsFramingFault
unfolding bundle_of
bundle_of-framing_fault text = search (cond-framing_fault, parts_from-framing_fault)

-- a fault of a reader of bundles is a framing fault, or memory ran out
pub bundle_of-result_fault : (text : List ℕ) (read : Result (List PartText) BundleFault)
    → Gives (λ parts. parts) read (bundle_of text)
    → IfErr read (λ fault. IsFramingFault fault ⊎ (fault ≡ faults.Memory))
bundle_of-result_fault text (Ok parts) gives = tt
bundle_of-result_fault text (Err faults.Memory) gives = inr refl
bundle_of-result_fault text (Err fault) gives =
    inl (IfErr-at_err IsFramingFault (gives (λ memory. memory)) (bundle_of-framing_fault text))
