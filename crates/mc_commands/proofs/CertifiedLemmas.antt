-- A certificate that `mcaudit make` writes is one that `mcaudit check` says yes to.
use Rattle.std.proofs.Common.{◌≡◌, ℕ, zero, suc, ◌+◌, ◌<◌, ◌≤◌, ◌==◌, max, All, Bool, true, false, List}
use Rattle.std.proofs.Common.{[], ◌∷◌, ◌++◌, length, map, Option, Some, None, Ok, refl, sym, ap, subst}
use Rattle.std.proofs.Common.{◌∙◌, arith, length-append}
use Rattle.std.specs.Prelude.{IsSome, slice_get}
use Rattle.std.specs.List.{AllByRecursion}
use Rattle.std.proofs.lemmas.Bool.{eqb-true, eq-eqb, false≢true}
use Rattle.std.proofs.lemmas.List.{length-map}
use Rattle.std.proofs.lemmas.Option.{slice_get_within}
use Rattle.std.proofs.lemmas.Str.{IsUtf8-append}
use Rattle.json.proofs.Printed.Utf8.{IsUtf8-are_ascii}
use Rattle.mc_bundle.specs.Bundle.{PartText, IsBundle, max_part}
use Rattle.mc_theory.specs.Lists.{In}
use Rattle.mc_theory.specs.Nets.{Net, Interface}
use Rattle.mc_theory.specs.Certificates.{Entry, IsAccepted, IsTree, source_entry_of}
use Rattle.mc_theory.proofs.ListLemmas.{equal-from_same_image, slice_get-map_some}
use Rattle.mc_theory.proofs.FirstReason.{first_reason-none_iff_accepted}
use Rattle.mc_topology.specs.Topology.{TopologyValue}
use Rattle.mc_forward.specs.Domains.{DomainValue, IsDomain, net_of}
use Rattle.mc_forward.proofs.DomainLemmas.{is_net-net_of, wants-below_lan_count}
use Rattle.mc_forward.proofs.IndexLemmas.{slice_get-exists}
use Rattle.mc_input.specs.Input.{with_certificate}
use Rattle.mc_input.proofs.UniqueDomain.{MeansDomain-unique}
use Rattle.mc_input.proofs.WithCertificate.{MeansDomain-with_certificate}
use Rattle.mc_cert.specs.Certificate.{Tree, HasByteNumbers}
use Rattle.mc_cert.specs.CertificateText.{certificate_json}
use Rattle.mc_cert.specs.Reading.{parse_certificate}
use Rattle.mc_cert.specs.Denotation.{DenotesCertificate}
use Rattle.mc_cert.proofs.WrittenCertificates.{certificate_json-denotes}
use Rattle.mc_cert.proofs.LineFeed.{read-with_line_feed}
use Rattle.mc_cert.proofs.ReadLemmas.{DenotesCertificate-unique}
use Rattle.mc_cert.proofs.CertificateTexts.{parse_certificate-from_denotes}
use Rattle.mc_check.specs.Reasons.{reason_value}
use Rattle.mc_check.specs.Verdicts.{is_yes}
use Rattle.mc_check.specs.declared.verdict.Verdict.{Verdict}
use Rattle.mc_check.specs.declared.verdict.Verdict.TheVariants.{Yes, No}
use Rattle.mc_maker.specs.Examined.{IfCertified}
use Rattle.mc_maker.specs.declared.examination.Examined.{Examined}
use Rattle.mc_maker.specs.declared.examination.Examined.TheVariants.{Certified, Found}
use Rattle.mc_maker.proofs.FilledLemmas.{all-each_in}
use Rattle.mc_commands.specs.InputMeaning.{MeansCertified}
use Rattle.mc_commands.specs.CheckRun.{IsVerdictText}
use Rattle.mc_commands.specs.MakeRun.{AreExamined, IsMadeText, are_certified, certified_lists}
use Rattle.mc_commands.specs.VerdictText.{AreVerdicts, IsVerdict, are_yes, check_text}
use Rattle.mc_commands.proofs.MakeLemmas.{certified_lists-each, certified_lists-belong}
use Rattle.mc_commands.proofs.MakeLemmas.{certified_lists-writable}

-- ---- the numbers of an accepted list are bytes

module _ (n : Net) (es : List Entry) (tree : IsTree n es) where
  source_is : (e : Entry) → In e es → e.lan ≡ n.source → e ≡ source_entry_of n
  source_is e h at = equal-from_same_image (λ (x : Entry). x.lan) e (source_entry_of n) es tree.one_entry h
      tree.source_entry at

  source_of_none : (e : Entry) → In e es → e.forwarder ≡ None → (b : Bool) → (e.lan == n.source) ≡ b
      → e ≡ source_entry_of n
  source_of_none e h none true q = source_is e h (eqb-true e.lan n.source q)
  source_of_none e h none false q =
      let fed = tree.others_fed e h (λ same. false≢true (sym q ∙ eq-eqb e.lan n.source same)) in
      absurd (false≢true (subst (λ (o : Option Interface). IsSome o) none fed))

  by_forwarder : (k : ℕ) (e : Entry) (o : Option Interface) → e.rank ≤ k → In e es → e.forwarder ≡ o
      → ((p : Entry) → p.rank < k → In p es → HasByteNumbers p) → HasByteNumbers e
  by_forwarder k e None within h q lower =
      subst (λ (x : Entry). HasByteNumbers x) (sym (source_of_none e h q (e.lan == n.source) refl))
      (record { rank = omega arith; need = omega arith })
  by_forwarder k e (Some i) within h q lower =
      let fed = tree.fed e i.0 i.1 h q in
      let child = tree.tree fed.0 i.0 i.1 fed.1 e.lan fed.2 fed.3 fed.4 in
      let same : e ≡ child.0 =
      equal-from_same_image (λ (x : Entry). x.lan) e child.0 es tree.one_entry h child.1 (sym child.2) in
      let rank : e.rank ≡ fed.0.rank + 1 = ap (λ (x : Entry). x.rank) same ∙ child.3.rank in
      let need : e.need ≡ max fed.0.need (fed.0.rank + fed.1 + 1) =
      ap (λ (x : Entry). x.need) same ∙ child.3.need in
      let live : fed.0.rank + fed.1 + 1 ≤ 255 = fed.3.live in
      let base : fed.0.need ≤ 255 = (lower fed.0 (omega (arith, rank, within)) fed.2).need in
      record { rank = omega (arith, rank, live); need = omega (arith, need, live, base) }

  bytes_by : (k : ℕ) (e : Entry) → e.rank ≤ k → In e es → HasByteNumbers e
  bytes_by zero e within h =
      by_forwarder 0 e e.forwarder within h refl (λ p lt in_p. absurd (omega (arith, lt)))
  bytes_by (suc k) e within h =
      by_forwarder (suc k) e e.forwarder within h refl
      (λ p lt in_p. bytes_by k p (omega (arith, lt)) in_p)

  all_bytes : All HasByteNumbers es
  all_bytes = all-each_in HasByteNumbers es (λ e h. bytes_by e.rank e (omega arith) h)

-- the list of a certified flow
certified_list-bytes : (n : Net) (x : Examined) → IfCertified (IsAccepted n) x
    → IfCertified (All HasByteNumbers) x
certified_list-bytes n (Certified entries) accepted = all_bytes n entries.items accepted.is_tree
certified_list-bytes n (Found ttl travel) accepted = tt

-- the lists of all flows
certified_lists-bytes : (d : DomainValue) (xs : List Examined) → AreExamined d xs
    → All (All HasByteNumbers) (certified_lists xs)
certified_lists-bytes d xs are =
    certified_lists-each (All HasByteNumbers) xs (λ k x at. certified_list-bytes (net_of d k) x
    (are.each k x at).accepted)

-- ---- the certificate's text

-- a line feed after a certificate's text changes nothing
denotes_certificate-line_feed : (t : TopologyValue) (text : List ℕ) (lists : List Tree)
    → length (text ++ 10 ∷ []) ≤ 16777216
    → DenotesCertificate t text lists → DenotesCertificate t (text ++ 10 ∷ []) lists
denotes_certificate-line_feed t text lists few h = record {
  document = h.document;
  version = h.version;
  few = few;
  utf8 = IsUtf8-append text (10 ∷ []) h.utf8 (IsUtf8-are_ascii (10 ∷ []) refl);
  reads = read-with_line_feed text ∙ h.reads;
  version_number = h.version_number;
  keys = h.keys;
  denotes = h.denotes;
}

-- the text that is made denotes the lists that were found
pub denotes_certificate-made_text : (text written : List ℕ) (m : IsMadeText text true written)
    → length written ≤ 16777216
    → DenotesCertificate m.domain.topology written (certified_lists m.holds.examined)
denotes_certificate-made_text text written m few =
    let d = m.domain in
    let t = d.topology in
    let lists = certified_lists m.holds.examined in
    let body = certificate_json t lists in
    let size : length written ≡ length body + 1 =
    ap (λ (bytes : List ℕ). length bytes) m.holds.spelled ∙ length-append body (10 ∷ []) in
    let denotes = certificate_json-denotes t lists m.means.rules.topology
    (certified_lists-belong d m.holds.examined m.holds.are_examined (sym m.holds.answer))
    (certified_lists-writable d m.holds.examined m.holds.are_examined)
    (certified_lists-bytes d m.holds.examined m.holds.are_examined) (omega (arith, size, few)) in
    subst (λ (bytes : List ℕ). DenotesCertificate t bytes lists) (sym m.holds.spelled)
    (denotes_certificate-line_feed t body lists (omega (
      arith,
      size,
      few,
      length-append body
          (10 ∷ []),
    )) denotes)

-- a certificate that `make` writes is read as the lists that it was made of
pub reading_of-made_text : (text written : List ℕ) (m : IsMadeText text true written)
    → length written ≤ 16777216
    → parse_certificate m.domain.topology written ≡ Ok (certified_lists m.holds.examined)
reading_of-made_text text written m few =
    parse_certificate-from_denotes m.domain.topology written (certified_lists m.holds.examined)
    (denotes_certificate-made_text text written m few)

-- ---- each list is accepted

-- what holds of each certified flow's list holds of the list at its number
certified_list-at_flow : (P : ℕ → Tree → Type 0) (xs : List Examined) → are_certified xs ≡ true
    → ((k : ℕ) (x : Examined) → slice_get xs k ≡ Some x → IfCertified (P k) x)
    → (k : ℕ) (es : Tree) → slice_get (certified_lists xs) k ≡ Some es → P k es
certified_list-at_flow P [] all each k es at = absurd cc
certified_list-at_flow P (Certified entries ∷ xs) all each zero es at =
    let same : entries.items ≡ es = cc in
    subst (λ (ys : Tree). P 0 ys) same (each 0 (Certified entries) refl)
certified_list-at_flow P (Certified entries ∷ xs) all each (suc k) es at =
    certified_list-at_flow (λ i. P (suc i)) xs all (λ i x here. each (suc i) x here) k es at
certified_list-at_flow P (Found ttl travel ∷ xs) all each k es at = absurd cc

-- each list of the made text is accepted
pub is_accepted-made_list : (text written : List ℕ) (m : IsMadeText text true written) (flow : ℕ)
    (es : Tree)
    → slice_get (certified_lists m.holds.examined) flow ≡ Some es → IsAccepted (net_of m.domain flow) es
is_accepted-made_list text written m =
    certified_list-at_flow (λ k. IsAccepted (net_of m.domain k)) m.holds.examined (sym m.holds.answer)
    (λ k x at. (m.holds.are_examined.each k x at).accepted)

-- ---- the verdicts

-- the yes with the number of a list's entries
abbrev yes_of_list : Tree → Verdict
yes_of_list es = Yes (length es)

-- verdicts that are made yes for each list are all yes
yes_of_all_lists : (lists : List Tree) → are_yes (map yes_of_list lists) ≡ true
yes_of_all_lists [] = refl
yes_of_all_lists (es ∷ lists) = yes_of_all_lists lists

-- they are verdicts on lists that are accepted
are_yes-yes_of_all_lists : (d : DomainValue) (lists : List Tree) → length lists ≡ length d.topology.flows
    → ((flow : ℕ) (es : Tree) → slice_get lists flow ≡ Some es → IsAccepted (net_of d flow) es)
    → AreVerdicts d lists (map yes_of_list lists)
are_yes-yes_of_all_lists d lists count each = record {
  count = length-map lists yes_of_list ∙ count;
  each = λ flow es v listed printed.
      let found : Some (yes_of_list es) ≡ Some v = sym (slice_get-map_some yes_of_list lists flow es listed)
      ∙ printed in
      let same : yes_of_list es ≡ v = cc in
      subst (λ (w : Verdict). IsVerdict (length d.topology.lans) (net_of d flow) es w) same
      (each flow es listed, refl);
}

-- what holds of all parts holds of the last one
last_part-is_certificate : {A : Type 0} (P : A → Type 0) (xs : List A) (x : A)
    → AllByRecursion P (xs ++ x ∷ [])
    → P x
last_part-is_certificate P [] x all = all.0
last_part-is_certificate P (y ∷ xs) x all = last_part-is_certificate P xs x all.1

-- the certificate is no longer than a part may be
length-certificate_part : (bundle : List ℕ) (parts : List PartText) (text : List ℕ)
    → IsBundle bundle (with_certificate parts text) → length text ≤ 16777216
length-certificate_part bundle parts text is =
    last_part-is_certificate (λ (part : PartText). length part.bytes ≤ max_part) parts _ is.limits.sizes

-- a bundle with the made certificate has a text of verdicts that says yes
pub is_verdict_text-made_bundle : (text written bundle : List ℕ) (parts : List PartText)
    → IsMadeText text true written
    → IsBundle text parts → IsBundle bundle (with_certificate parts written)
    → (printed : List ℕ) × IsVerdictText bundle true printed
is_verdict_text-made_bundle text written bundle parts m is more =
    let d = m.domain in
    let lists = certified_lists m.holds.examined in
    let few = length-certificate_part bundle parts written more in
    let belong = certified_lists-belong d m.holds.examined m.holds.are_examined (sym m.holds.answer) in (
      check_text d.topology (map yes_of_list lists),
      record {
        domain = record { domain = d; lists = lists };
        means = record {
          certificate = written;
          domain = MeansDomain-with_certificate text bundle parts written d m.means is more;
          lists_denoted = denotes_certificate-made_text text written m few;
        };
        holds = record {
          verdicts = map yes_of_list lists;
          are_verdicts = are_yes-yes_of_all_lists d lists belong.count (is_accepted-made_list text written m);
          answer = sym (yes_of_all_lists lists);
          spelled = refl;
        };
      },
    )

-- ---- one meaning

-- what is in equal options is equal
pub some_is : {A : Type 0} {x y : A} → (let o : Option A = Some x in o) ≡ Some y → x ≡ y
some_is e = cc

-- a text means at most one domain with its lists
pub means_certified-unique : (text : List ℕ) (d e : DomainValue) (xs ys : List Tree)
    → MeansCertified text d xs → MeansCertified text e ys → (d ≡ e) × (xs ≡ ys)
means_certified-unique text d e xs ys m n =
    let same = MeansDomain-unique text (Some m.certificate) (Some n.certificate) d e refl m.domain
    n.domain in
    let theirs = subst (λ (c : List ℕ). DenotesCertificate d.topology c ys)
    (sym (some_is same.1))
    (subst (λ (x : DomainValue). DenotesCertificate x.topology n.certificate ys) (sym same.0)
    n.lists_denoted) in
    (same.0, DenotesCertificate-unique d.topology m.certificate xs ys m.lists_denoted theirs)

-- ---- so whatever verdict text the bundle has, it says yes

-- a verdict on an accepted list is a yes
is_verdict-says_yes : (d : DomainValue) (flow : ℕ) (es : Tree) (v : Verdict) → IsDomain d
    → IsAccepted (net_of d flow) es → IsVerdict (length d.topology.lans) (net_of d flow) es v
    → is_yes v ≡ true
is_verdict-says_yes d flow es (Yes copies) ok accepted is = refl
is_verdict-says_yes d flow es (No reason) ok accepted is =
    let none = (first_reason-none_iff_accepted (net_of d flow) (length d.topology.lans) es
    (is_net-net_of d flow ok)
    (λ l w. wants-below_lan_count d flow l ok w)).1 accepted in
    let never : None ≡ Some (reason_value reason) = sym none ∙ is in
    absurd cc

-- verdicts are all yes if each is
are_verdicts-each_yes : (vs : List Verdict) → ((k : ℕ) (v : Verdict) → slice_get vs k ≡ Some v
    → is_yes v ≡ true)
    → are_yes vs ≡ true
are_verdicts-each_yes [] each = refl
are_verdicts-each_yes (v ∷ vs) each = rw (each 0 v refl)
    (are_verdicts-each_yes vs (λ k w at. each (suc k) w at))

-- verdicts on accepted lists are all yes
are_yes-accepted_lists : (d : DomainValue) (lists : List Tree) (vs : List Verdict) → IsDomain d
    → length lists ≡ length d.topology.flows → AreVerdicts d lists vs
    → ((flow : ℕ) (es : Tree) → slice_get lists flow ≡ Some es → IsAccepted (net_of d flow) es)
    → are_yes vs ≡ true
are_yes-accepted_lists d lists vs ok count are each = are_verdicts-each_yes vs (λ k v at.
    let lt = slice_get_within vs k v at in
    let size = are.count in
    let es = slice_get-exists lists k (omega (arith, lt, size, count)) in
    is_verdict-says_yes d k es.0 v ok (each k es.0 es.1) (are.each k es.0 v es.1 at))

record AreVerdictsOfLists (d : DomainValue) (certificate : List ℕ) (lists : List Tree)
    (vs : List Verdict) : Type 0 where
  pub denoted : DenotesCertificate d.topology certificate lists
  pub are : AreVerdicts d lists vs

-- a bundle with the certificate that was made for it has only accepted lists, so that each text of verdicts
-- on it says yes
pub is_verdict_text-only_yes : (text written bundle : List ℕ) (parts : List PartText) (all : Bool)
    (printed : List ℕ)
    → IsMadeText text true written → IsBundle text parts
    → IsBundle bundle (with_certificate parts written) → IsVerdictText bundle all printed → all ≡ true
is_verdict_text-only_yes text written bundle parts all printed m is more v =
    let d = m.domain in
    let lists = certified_lists m.holds.examined in
    let few = length-certificate_part bundle parts written more in
    let mine = MeansDomain-with_certificate text bundle parts written d m.means is more in
    let same = MeansDomain-unique bundle (Some v.means.certificate) (Some written) v.domain.domain d refl
    v.means.domain mine in
    let theirs : AreVerdictsOfLists v.domain.domain v.means.certificate v.domain.lists v.holds.verdicts =
    record { denoted = v.means.lists_denoted; are = v.holds.are_verdicts } in
    let here : AreVerdictsOfLists d written v.domain.lists v.holds.verdicts =
    subst (λ (c : List ℕ). AreVerdictsOfLists d c v.domain.lists v.holds.verdicts) (some_is same.1)
    (subst (λ (e : DomainValue). AreVerdictsOfLists e v.means.certificate v.domain.lists
    v.holds.verdicts) same.0
    theirs) in
    let one : v.domain.lists ≡ lists =
    DenotesCertificate-unique d.topology written v.domain.lists lists here.denoted
    (denotes_certificate-made_text text written m few) in
    let belong = certified_lists-belong d m.holds.examined m.holds.are_examined (sym m.holds.answer) in
    v.holds.answer ∙ are_yes-accepted_lists d lists v.holds.verdicts m.means.rules belong.count
    (subst (λ (ls : List Tree). AreVerdicts d ls v.holds.verdicts) one here.are)
    (is_accepted-made_list text written m)
