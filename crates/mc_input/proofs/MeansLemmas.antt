-- The domain that consists of what was kept is the one that the bundle means.
use Rattle.std.specs.Prelude.{◌≡◌, ℕ, Bool, List, Option, Some}
use Rattle.std.specs.declared.alloc.Global.{Global}
use Rattle.std.specs.Prelude.{None, Vec, is_some, Result, Ok, Err, IfErr, IfOk, IfSome, MatchResult, refl}
use Rattle.std.proofs.Common.{ap, ◌∙◌, sym, subst, inl, inr, arith}
use Rattle.mc_bundle.specs.Bundle.{max_input}
use Rattle.mc_bundle.specs.PartsReading.{PartsState}
use Rattle.mc_bundle.specs.PartsLimits.{ConsumesWithin}
use Rattle.mc_bundle.specs.ReadFault.{ConsumesUpTo}
use Rattle.mc_text.specs.Steps.{map_fault}
use Rattle.mc_bundle.specs.declared.stage.Stage.TheVariants as stages
use Rattle.mc_forward.specs.Assembling.{AreWanted, IsAssembled}
use Rattle.mc_forward.specs.Domains.{DomainValue, IsDomain}
use Rattle.mc_forward.proofs.ListedTableLemmas.{pairwise-count, pairwise-each}
use Rattle.mc_forward.proofs.WantsLemmas.{is_assembled-from_reports}
use Rattle.mc_input.specs.Input.{InputValue, DenotesInput}
use Rattle.mc_input.specs.InputReading.{input_of_bundle}
use Rattle.mc_input.specs.InputView.{certificate_text}
use Rattle.mc_input.specs.Meaning.{Means, MeansDomain}
use Rattle.mc_input.specs.PartsOneByOne.{ReadsDomain, IsFaultOf, read_all_parts, read_rest}
use Rattle.mc_input.specs.Kept.{IsDomainOf}
use Rattle.mc_input.specs.SourceFault.{IsReadOrMemory}
use Rattle.mc_input.specs.declared.fault.InputFault.TheVariants as input
use Rattle.mc_input.specs.declared.source_fault.SourceFault.{SourceFault}
use Rattle.mc_input.specs.declared.source_fault.SourceFault.TheVariants.{Input, Read}
use Rattle.mc_input.proofs.ReadRestLemmas.{Err-from_map_fault}
use Rattle.mc_input.proofs.UniqueDomain.{MeansDomain-unique}
use Rattle.mc_input.proofs.ReadLemmas.{input_of_bundle-Ok, read_bundle}
use Rattle.mc_input.proofs.ReadLemmas.{input_of_bundle-Err_from_read_bundle}
use Rattle.mc_input.proofs.ReadLemmas.{DenotesInput-from_read_bundle}

-- ---- from the start

read_rest-at_start : (certified : Bool) (s : PartsState) (text : List ℕ) → s.stage ≡ stages.Start
    → read_rest s text (read_all_parts certified) ≡ read_bundle certified text
read_rest-at_start certified s text is = rw is refl

-- no more is read than the greatest bundle and a line
pub ConsumesUpTo-from_ConsumesWithin : (most after : ℕ) (old new : Option (List ℕ)) → most ≡ max_input
    → ConsumesWithin most after old new → ConsumesUpTo max_input old new
ConsumesUpTo-from_ConsumesWithin most after old new is spends =
    (spends.0, omega (arith, spends.1, is), spends.2)

-- ---- what it means

-- the domain that consists of what is kept of an input is the one that is meant
pub Means-from_denotes : {X : Type 0} (Denotes : X → InputValue → Type 0) (x : X) (v : InputValue)
    (d : DomainValue) → Denotes x v → IsDomainOf d v → IsDomain d → Means Denotes x d
Means-from_denotes Denotes x v d denotes kept rules =
    let t = d.topology in
    let each = pairwise-each (AreWanted t.flows) v.reports d.wants kept.wanted in
    let size = pairwise-count (AreWanted t.flows) v.reports d.wants kept.wanted in
    let wants = is_assembled-from_reports t v.tables v.reports d.wants (sym size) each in
    record {
      input = v;
      denotes = denotes;
      assembled = subst (λ u. IsAssembled u v.tables v.reports d) (sym kept.topology) (record {
        topology = refl;
        vifs = kept.vifs_kept;
        rows = kept.rows_kept;
        wants = wants.wants;
      });
      rules = rules;
    }

pub MeansDomain-from_ReadsDomain : (certified : Bool) (s : PartsState) (text : List ℕ) (d : DomainValue)
    (certificate : Option (List ℕ)) → s.stage ≡ stages.Start → IsDomain d
    → ReadsDomain s text certified d certificate → MeansDomain text certificate d
MeansDomain-from_ReadsDomain certified s text d certificate start rules read =
    Means-from_denotes (λ t input. DenotesInput t input certificate) text read.0 d
    (DenotesInput-from_read_bundle certified text read.0 certificate
    (sym (read_rest-at_start certified s text start) ∙ read.2)) read.1 rules

-- ---- and why it is refused

pub input_of_bundle-Err : (certified : Bool) (s : PartsState) (text : List ℕ) (own : SourceFault)
    → s.stage ≡ stages.Start → s.remaining ≡ Some text → IsFaultOf s (read_all_parts certified) own
    → ¬ IsReadOrMemory own → map_fault Input (input_of_bundle certified text) ≡ Err own
input_of_bundle-Err certified s text own start remaining refused loud =
    let found = Err-from_map_fault (read_rest s text (read_all_parts certified)) own
    (refused text remaining loud) in
    ap (map_fault Input) (input_of_bundle-Err_from_read_bundle certified text found.0
    (sym (read_rest-at_start certified s text start) ∙ found.1)) ∙ ap Err (sym found.2)

-- a fault is a read's or memory's, if any other would prove what is false
pub IsReadOrMemory-by_contradiction : (own : SourceFault) (P : Type 0) → (¬ IsReadOrMemory own → P) → (P → ⊥)
    → IsReadOrMemory own
IsReadOrMemory-by_contradiction Read P loud none = inl refl
IsReadOrMemory-by_contradiction (Input input.Memory) P loud none = inr refl
IsReadOrMemory-by_contradiction (Input fault) P loud none =
    absurd (none (loud (λ silent. elim silent [ inl e ↦ absurd cc | inr e ↦ absurd cc ])))

-- a bundle that means a domain is refused only where the input failed or memory ran out
pub IsReadOrMemory-from_MeansDomain : (certified : Bool) (text : List ℕ) (certificate : Option (List ℕ))
    (d : DomainValue) (own : SourceFault) → is_some certificate ≡ certified
    → MeansDomain text certificate d
    → (¬ IsReadOrMemory own → map_fault Input (input_of_bundle certified text) ≡ Err own) → IsReadOrMemory own
IsReadOrMemory-from_MeansDomain certified text certificate d own is means refused =
    IsReadOrMemory-by_contradiction own
    (map_fault Input (input_of_bundle certified text) ≡ Err own) refused (λ e.
    let read = input_of_bundle-Ok certified text means.input certificate is means.denotes in
    never (sym (ap (map_fault Input) read) ∙ e))
  where
    never : {v : InputValue} → (let r : Result InputValue SourceFault = Ok v in r) ≡ Err own → ⊥
    never e = cc

-- the domain that was read is the one that it means
same_domain-from_MeansDomain : (certified : Bool) (text : List ℕ) (certificate own : Option (List ℕ))
    (d read : DomainValue) → is_some certificate ≡ certified → is_some own ≡ certified
    → MeansDomain text certificate d → MeansDomain text own read → (read ≡ d) × (own ≡ certificate)
same_domain-from_MeansDomain certified text certificate own d read is own_is means remaining =
    MeansDomain-unique text own certificate read d (is ∙ sym own_is) remaining means

-- ---- the answer

module _ {X : Type 0} (d : X → DomainValue) (cert : X → Option (List ℕ)) (certified : Bool)
    (s : PartsState) (start : s.stage ≡ stages.Start) where
  -- what is read of a bundle is the domain that it means
  pub MeansDomain-from_result : (o : Option (List ℕ)) (r : Result X SourceFault) → s.remaining ≡ o
      → IfOk r (λ x. IsDomain (d x))
      → IfOk r (λ x. (text : List ℕ) → s.remaining ≡ Some text → ReadsDomain s text certified (d x) (cert x))
      → IfOk r (λ x. IfSome o (λ text. MeansDomain text (cert x) (d x)))
  MeansDomain-from_result None (Ok x) remaining rules read = tt
  MeansDomain-from_result (Some text) (Ok x) remaining rules read =
      MeansDomain-from_ReadsDomain certified s text (d x) (cert x) start rules (read text remaining)
  MeansDomain-from_result o (Err fault) remaining rules read = tt

  -- a bundle that means a domain is read as that, unless the input fails or memory runs out
  pub same_domain-from_result : (r : Result X SourceFault) (text : List ℕ) (certificate : Option (List ℕ))
      (domain : DomainValue) → s.remaining ≡ Some text → is_some certificate ≡ certified
      → MeansDomain text certificate domain → IfOk r (λ x. IsDomain (d x))
      → IfOk r (λ x. is_some (cert x) ≡ certified)
      → IfOk r (λ x. (text : List ℕ) → s.remaining ≡ Some text → ReadsDomain s text certified (d x) (cert x))
      → IfErr r (IsFaultOf s (read_all_parts certified))
      → MatchResult r (λ x. (d x ≡ domain) × (cert x ≡ certificate)) IsReadOrMemory
  same_domain-from_result (Ok x) text certificate domain remaining is means rules own read refused =
      same_domain-from_MeansDomain certified text certificate (cert x) domain (d x) is own means
      (MeansDomain-from_ReadsDomain certified s text (d x) (cert x) start rules (read text remaining))
  same_domain-from_result (Err fault) text certificate domain remaining is means rules own read refused =
      IsReadOrMemory-from_MeansDomain certified text certificate domain fault is means
      (input_of_bundle-Err certified s text fault start remaining refused)

  -- the fault is that of the bundle
  pub input_of_bundle-Err_of_result : (r : Result X SourceFault) (text : List ℕ) → s.remaining ≡ Some text
      → IfErr r (IsFaultOf s (read_all_parts certified))
      → IfErr r (λ fault. ¬ IsReadOrMemory fault
      → map_fault Input (input_of_bundle certified text) ≡ Err fault)
  input_of_bundle-Err_of_result (Ok x) text remaining refused = tt
  input_of_bundle-Err_of_result (Err fault) text remaining refused =
      input_of_bundle-Err certified s text fault start remaining refused

-- the same of equal inputs
pub ConsumesUpTo-same : {a b old new : Option (List ℕ)} → ConsumesUpTo max_input a b → a ≡ old → b ≡ new
    → ConsumesUpTo max_input old new
ConsumesUpTo-same {b = b} {old = old} all first last =
    subst (λ o. ConsumesUpTo max_input old o) last
    (subst (λ o. ConsumesUpTo max_input o b) first all)

-- a certificate's text is there exactly where its bytes are
pub is_some-certificate_text : (o : Option (Vec ℕ Global)) → is_some (certificate_text o) ≡ is_some o
is_some-certificate_text None = refl
is_some-certificate_text (Some bytes) = refl

-- the same of what a call read, where it succeeded
pub certificate_text-expected : {X : Type 0} (raw : X → Option (Vec ℕ Global)) (certified : Bool)
    (r : Result X SourceFault) → IfOk r (λ x. is_some (raw x) ≡ certified)
    → IfOk r (λ x. is_some (certificate_text (raw x)) ≡ certified)
certificate_text-expected raw certified (Ok x) is = is_some-certificate_text (raw x) ∙ is
certificate_text-expected raw certified (Err fault) is = tt
