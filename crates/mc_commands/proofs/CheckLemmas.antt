-- What the text of `mcaudit check` says of the bundle that was read.
use Rattle.std.proofs.Common.{◌≡◌, ◌≢◌, ℕ, zero, suc, ◌<◌, Bool, true, List, [], ◌∷◌, length, All, Option}
use Rattle.std.proofs.Common.{Some, Err, refl, sym, ap, subst, ◌∙◌, arith}
use Rattle.std.specs.Prelude.{unwrap_or, slice_get}
use Rattle.std.specs.List.{list_all}
use Rattle.std.proofs.lemmas.Bool.{and_parts}
use Rattle.mc_theory.specs.Certificates.{Entry}
use Rattle.mc_theory.specs.Headline.{HeadlineHolds}
use Rattle.mc_topology.specs.Topology.{TopologyValue}
use Rattle.mc_forward.specs.Domains.{DomainValue, net_of}
use Rattle.mc_forward.proofs.IndexLemmas.{slice_get-exists}
use Rattle.mc_cert.specs.Answer.{out_of_memory}
use Rattle.mc_cert.specs.Certificate.{Tree, tree_at, BelongsTo}
use Rattle.mc_cert.specs.Reading.{parse_certificate}
use Rattle.mc_cert.specs.Denotation.{DenotesCertificate}
use Rattle.mc_cert.specs.declared.fault.CertFault.{CertFault}
use Rattle.mc_cert.specs.declared.fault.CertFaultKind.{CertFaultKind}
use Rattle.mc_cert.specs.declared.fault.CertFaultKind.TheVariants as kinds
use Rattle.mc_check.specs.Verdicts.{is_yes, HoldsForEachFlow, YesIffAccepted, YesCountsEntries}
use Rattle.mc_check.specs.Verdicts.{NoGivesFirstReason, YesKeepsHeadline}
use Rattle.mc_check.specs.declared.verdict.Verdict.{Verdict}
use Rattle.mc_check.specs.declared.verdict.Verdict.TheVariants.{Yes, No}
use Rattle.mc_input.specs.Meaning.{MeansDomain}
use Rattle.mc_commands.specs.InputMeaning.{HasBadCertificate, IsRefusedFor, MeansCertified}
use Rattle.mc_commands.specs.CheckRun.{IsTextOfVerdicts, KeepsHeadline}
use Rattle.mc_commands.specs.RunFault.{from_cert_fault, of_certificate_kind}
use Rattle.mc_commands.specs.VerdictText.{IsVerdict, AreVerdicts, are_yes, check_text}

-- ---- the certificate

-- the fault, by its kind
is_refused_for-cert_fault_kind : (text : List ℕ) (f : CertFault) (k : CertFaultKind) → f.kind ≡ k
    → (f ≢ out_of_memory → HasBadCertificate text f)
    → IsRefusedFor true text (of_certificate_kind f k)
is_refused_for-cert_fault_kind text f kinds.NotJson is bad = (refl, bad (λ e. absurd (cc)))
is_refused_for-cert_fault_kind text f kinds.BadVersion is bad = (refl, bad (λ e. absurd (cc)))
is_refused_for-cert_fault_kind text f kinds.MissingKey is bad = (refl, bad (λ e. absurd (cc)))
is_refused_for-cert_fault_kind text f kinds.UnknownKey is bad = (refl, bad (λ e. absurd (cc)))
is_refused_for-cert_fault_kind text f kinds.BadKind is bad = (refl, bad (λ e. absurd (cc)))
is_refused_for-cert_fault_kind text f kinds.BadNumber is bad = (refl, bad (λ e. absurd (cc)))
is_refused_for-cert_fault_kind text f kinds.UnknownName is bad = (refl, bad (λ e. absurd (cc)))
is_refused_for-cert_fault_kind text f kinds.WrongFlows is bad = (refl, bad (λ e. absurd (cc)))
is_refused_for-cert_fault_kind text f kinds.TooMany is bad = (refl, bad (λ e. absurd (cc)))
is_refused_for-cert_fault_kind text f kinds.Memory is bad = tt

-- a certificate that is refused, or for which memory ran out
pub is_refused_for-cert_fault : (text read : List ℕ) (o : Option (List ℕ)) (d : DomainValue)
    (t : TopologyValue) (f : CertFault) → MeansDomain text o d → o ≡ Some read → t ≡ d.topology
    → (f ≢ out_of_memory → parse_certificate t read ≡ Err f) → IsRefusedFor true text (from_cert_fault f)
is_refused_for-cert_fault text read o d t f means there same refused =
    is_refused_for-cert_fault_kind text f f.kind refl (λ other. (
      read,
      d,
      subst (λ (c : Option (List ℕ)). MeansDomain text c d) there means,
      subst (λ (x : TopologyValue). parse_certificate x read ≡ Err f) same (refused other),
    ))

-- a certificate that is read
pub means_certified-denoted_lists : (text read : List ℕ) (o : Option (List ℕ)) (d : DomainValue)
    (t : TopologyValue) (lists : List Tree) → MeansDomain text o d → o ≡ Some read → t ≡ d.topology
    → DenotesCertificate t read lists → MeansCertified text d lists
means_certified-denoted_lists text read o d t lists means there same denotes = record {
  certificate = read;
  domain = subst (λ (c : Option (List ℕ)). MeansDomain text c d) there means;
  lists_denoted = subst (λ (x : TopologyValue). DenotesCertificate x read lists) same denotes;
}

-- the LANs of a certificate's entries are the topology's
pub certificate_lans-of_topology : (t : TopologyValue) (lists : List Tree) → BelongsTo t lists
    → All (All (λ e. e.lan < length t.lans)) lists
certificate_lans-of_topology t lists belongs = λ k d within j e inside.
    (belongs.entries k d within j e inside).lan

-- ---- the verdicts

-- what is known of a verdict, together
is_verdict : (lans : ℕ) (d : DomainValue) (flow : ℕ) (es : List Entry) (v : Verdict)
    → YesIffAccepted (net_of d flow) es v → YesCountsEntries (net_of d flow) es v
    → NoGivesFirstReason lans (net_of d flow) es v → IsVerdict lans (net_of d flow) es v
is_verdict lans d flow es (Yes copies) exact count first = (exact.0 refl, count)
is_verdict lans d flow es (No reason) exact count first = first

-- what is known of all verdicts, together
pub are_verdicts : (d : DomainValue) (lists : List Tree) (vs : List Verdict)
    → length vs ≡ length lists → BelongsTo d.topology lists → HoldsForEachFlow d lists vs YesIffAccepted
    → HoldsForEachFlow d lists vs YesCountsEntries
    → HoldsForEachFlow d lists vs (NoGivesFirstReason (length d.topology.lans)) → AreVerdicts d lists vs
are_verdicts d lists vs count belongs exact copies first = record {
  count = count ∙ belongs.count;
  each = λ flow es v listed verdict_at. is_verdict (length d.topology.lans) d flow es v
      (exact flow es v listed verdict_at) (copies flow es v listed verdict_at)
      (first flow es v listed verdict_at);
}

-- if all are yes, each is
is_yes-at_flow : (vs : List Verdict) (k : ℕ) (v : Verdict) → list_all is_yes vs ≡ true
    → slice_get vs k ≡ Some v → is_yes v ≡ true
is_yes-at_flow [] k v all there = absurd cc
is_yes-at_flow (x ∷ vs) zero v all there =
    let same : x ≡ v = cc in
    subst (λ (w : Verdict). is_yes w ≡ true) same (and_parts _ _ all).0
is_yes-at_flow (x ∷ vs) (suc k) v all there = is_yes-at_flow vs k v (and_parts _ _ all).1 there

-- the headline holds for a yes
headline_holds-is_yes : (d : DomainValue) (flow : ℕ) (es : List Entry) (v : Verdict) → is_yes v ≡ true
    → YesCountsEntries (net_of d flow) es v → YesKeepsHeadline (net_of d flow) es v
    → HeadlineHolds (net_of d flow) (length es)
headline_holds-is_yes d flow es (Yes copies) is count keeps =
    subst (λ (n : ℕ). HeadlineHolds (net_of d flow) n) count keeps
headline_holds-is_yes d flow es (No reason) is count keeps = absurd cc

-- the headline for a flow's list is that for the list at its place among all lists
headline_holds-flow_is_yes : (d : DomainValue) (lists : List Tree) (flow : ℕ) (es : List Entry)
    → slice_get lists flow ≡ Some es → HeadlineHolds (net_of d flow) (length es)
    → HeadlineHolds (net_of d flow) (length (tree_at lists flow))
headline_holds-flow_is_yes d lists flow es there keeps =
    subst (λ (o : Option Tree). HeadlineHolds (net_of d flow) (length (unwrap_or o [])))
    (sym there) keeps

-- if every verdict is yes, the headline holds for each flow
pub keeps_headline : (d : DomainValue) (lists : List Tree) (vs : List Verdict)
    → length vs ≡ length lists → BelongsTo d.topology lists → HoldsForEachFlow d lists vs YesCountsEntries
    → HoldsForEachFlow d lists vs YesKeepsHeadline → are_yes vs ≡ true → KeepsHeadline d lists
keeps_headline d lists vs count belongs copies keeps all = λ flow listed.
    let few = belongs.count in
    let e = slice_get-exists lists flow (omega (arith, listed, few)) in
    let v = slice_get-exists vs flow (omega (arith, listed, count, few)) in
    headline_holds-flow_is_yes d lists flow e.0 e.1 (headline_holds-is_yes d flow e.0 v.0
    (is_yes-at_flow vs flow v.0 all v.1)
    (copies flow e.0 v.0 e.1 v.1) (keeps flow e.0 v.0 e.1 v.1))

-- the text of the verdicts on a domain
pub is_text_of_verdicts-check_text : (d : DomainValue) (lists : List Tree)
    (vs seen again : List Verdict) (t : TopologyValue) (all : Bool) (written : List ℕ)
    → AreVerdicts d lists vs → seen ≡ vs → again ≡ vs
    → t ≡ d.topology → all ≡ are_yes again → written ≡ check_text t seen
    → IsTextOfVerdicts d lists all written
is_text_of_verdicts-check_text d lists vs seen again t all written are same other topology answer
    spelled = record {
      verdicts = vs;
      are_verdicts = are;
      answer = answer ∙ ap are_yes other;
      spelled = spelled ∙ ap (λ t. check_text t seen) topology
          ∙ ap (check_text d.topology) same;
    }
