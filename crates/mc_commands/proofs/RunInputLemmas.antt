-- What holds of a run's input: the domain that it means, or the fault for which it is refused.
use Rattle.std.proofs.Common.{◌≡◌, ℕ, Bool, false, List, inl, inr, Option, Some, None, Result, Ok, Err}
use Rattle.std.proofs.Common.{refl}
use Rattle.std.specs.Prelude.{IfOk, IfSome, Vec, is_some}
use Rattle.std.specs.declared.alloc.Global.{Global}
use Rattle.mc_forward.specs.Domains.{DomainValue}
use Rattle.mc_input.specs.InputReading.{input_of_bundle}
use Rattle.mc_input.specs.declared.fault.InputFault.{InputFault}
use Rattle.mc_input.specs.declared.fault.InputFault.TheVariants as input
use Rattle.mc_commands.specs.RunFault.{from_source_fault}
use Rattle.mc_text.specs.Steps.{map_fault}
use Rattle.mc_input.specs.Input.{InputValue}
use Rattle.mc_input.specs.InputView.{certificate_text}
use Rattle.mc_input.specs.Meaning.{MeansDomain, MeansDomainWhere, MeansUncertifiedDomain}
use Rattle.mc_input.specs.SourceFault.{IsReadOrMemory}
use Rattle.mc_input.specs.declared.source_fault.SourceFault.{SourceFault}
use Rattle.mc_input.specs.declared.source_fault.SourceFault.TheVariants as source
use Rattle.mc_commands.specs.InputMeaning.{IsRefusedFor}

-- why a bundle is refused, as the run's fault
is_refused_for-input_fault : (with : Bool) (text : List ℕ) (f own : InputFault)
    → (let r : Result InputValue SourceFault = map_fault source.Input (input_of_bundle with text) in r)
    ≡ Err (source.Input own) → f ≡ own → input_of_bundle with text ≡ Err f
is_refused_for-input_fault with text f own e same = by (input_of_bundle with text) e
  where
    by : (r : Result InputValue InputFault) → map_fault source.Input r ≡ Err (source.Input own)
        → r ≡ Err f
    by (Ok v) e = absurd cc
    by (Err fault) e = cc

-- a fault of the source is why the bundle is refused
pub is_refused_for-source_fault : (with : Bool) (text : List ℕ) (f : SourceFault)
    → (¬ IsReadOrMemory f → map_fault source.Input (input_of_bundle with text) ≡ Err f)
    → IsRefusedFor with text (from_source_fault f)
is_refused_for-source_fault with text source.Read is = tt
is_refused_for-source_fault with text (source.Input (input.Bundle f)) is =
    is_refused_for-input_fault with text _ _ (is (λ silent. elim silent
    [ inl e ↦ absurd cc | inr e ↦ absurd cc ]))
    refl
is_refused_for-source_fault with text (source.Input (input.Parts place)) is =
    is_refused_for-input_fault with text _ _ (is (λ silent. elim silent
    [ inl e ↦ absurd cc | inr e ↦ absurd cc ]))
    refl
is_refused_for-source_fault with text (source.Input (input.Topology f)) is =
    is_refused_for-input_fault with text _ _ (is (λ silent. elim silent
    [ inl e ↦ absurd cc | inr e ↦ absurd cc ]))
    refl
is_refused_for-source_fault with text (source.Input (input.Vif part f)) is =
    is_refused_for-input_fault with text _ _ (is (λ silent. elim silent
    [ inl e ↦ absurd cc | inr e ↦ absurd cc ]))
    refl
is_refused_for-source_fault with text (source.Input (input.Cache part f)) is =
    is_refused_for-input_fault with text _ _ (is (λ silent. elim silent
    [ inl e ↦ absurd cc | inr e ↦ absurd cc ]))
    refl
is_refused_for-source_fault with text (source.Input (input.Reports part f)) is =
    is_refused_for-input_fault with text _ _ (is (λ silent. elim silent
    [ inl e ↦ absurd cc | inr e ↦ absurd cc ]))
    refl
is_refused_for-source_fault with text (source.Input input.Memory) is = tt

-- the first fault of a source of parts is that of the input, if the input's contents are known
pub is_refused_for-source_of_contents : (contents : Option (List ℕ)) (with : Bool) (f : SourceFault)
    → ((text : List ℕ) → contents ≡ Some text → ¬ IsReadOrMemory f
    → map_fault source.Input (input_of_bundle with text) ≡ Err f)
    → IfSome contents (λ text. IsRefusedFor with text (from_source_fault f))
is_refused_for-source_of_contents None with f is = tt
is_refused_for-source_of_contents (Some text) with f is = is_refused_for-source_fault with text f
    (is text refl)

-- without a certificate asked for, none was read
pub means_domain-no_certificate : (contents : Option (List ℕ)) (certificate : Option (Vec ℕ Global))
    (d : DomainValue) → is_some certificate ≡ false
    → IfSome contents (λ text. MeansDomain text (certificate_text certificate) d)
    → IfSome contents (λ text. MeansUncertifiedDomain text d)
means_domain-no_certificate None certificate d none means = tt
means_domain-no_certificate (Some text) None d none means = means
means_domain-no_certificate (Some text) (Some bytes) d none means = absurd cc

-- what holds of a domain holds of the meant one
pub of_domain-meant : {X D : Type 0} (Means : X → D → Type 0) (Holds : D → Type 0)
    (contents : Option X) (d : D) → IfSome contents (λ x. Means x d) → Holds d
    → IfSome contents (MeansDomainWhere Means Holds)
of_domain-meant Means Holds None d means holds = tt
of_domain-meant Means Holds (Some x) d means holds = record {
  domain = d;
  means = means;
  holds = holds;
}

-- what a call's result says of the domain that was read, it says of the one that the input means
pub of_domain-ok_result : {X A F : Type 0} (Means : X → DomainValue → Type 0)
    (Holds : A → DomainValue → Type 0) (contents : Option X) (d : DomainValue) (r : Result A F)
    → IfSome contents (λ x. Means x d)
    → IfOk r (λ a. Holds a d) → IfOk r (λ a. IfSome contents (MeansDomainWhere Means (Holds a)))
of_domain-ok_result Means Holds contents d (Ok a) means holds =
    of_domain-meant Means (Holds a) contents d means holds
of_domain-ok_result Means Holds contents d (Err f) means holds = tt

-- what follows for a domain follows for the meant one
pub of_domain-implication : {X D : Type 0} (Means : X → D → Type 0) (Holds More : D → Type 0)
    → ((d : D) → Holds d → More d) → (x : X) → MeansDomainWhere Means Holds x → MeansDomainWhere Means More x
of_domain-implication Means Holds More follows x is =
    record { domain = is.domain; means = is.means; holds = follows is.domain is.holds }
