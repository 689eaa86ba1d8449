-- The clauses of `read`, from the result that it computes.
use Rattle.std.proofs.Common.{◌≡◌, ℕ, Bool, true, false, List, None, Result, Ok, Err, refl, sym}
use Rattle.std.proofs.Common.{subst, ◌∙◌}
use Rattle.std.specs.Str.{is_utf8}
use Rattle.std.proofs.lemmas.Str.{IsUtf8-from_is_utf8}
use Rattle.std.specs.Prelude.{IfOk, IsUtf8}
use Rattle.serde_json.specs.Read.{read}
use Rattle.mc_topology.specs.Topology.{TopologyValue}
use Rattle.mc_topology.proofs.Steps.{ok_injective}
use Rattle.mc_cert.specs.declared.fault.CertFault.{CertFault}
use Rattle.mc_cert.specs.declared.fault.CertFaultKind.TheVariants.{NotJson}
use Rattle.mc_cert.specs.Answer.{Gives}
use Rattle.mc_cert.specs.Certificate.{Tree}
use Rattle.mc_cert.specs.Reading.{parse_json, parse_certificate}
use Rattle.mc_cert.specs.Denotation.{DenotesCertificate}
use Rattle.mc_cert.proofs.CertificateTexts.{parse_certificate-denotes, parse_certificate-from_denotes}

-- a text that isn't JSON
parse_json-NotJson_by_cases : (text : List ℕ) (b : Bool) → is_utf8 text ≡ b → (IsUtf8 text → read text ≡ None)
    → parse_json text ≡ Err NotJson
unfolding parse_json
parse_json-NotJson_by_cases text true e none = rw (e, none (IsUtf8-from_is_utf8 text e)) refl
parse_json-NotJson_by_cases text false e none = rw e refl

-- a text that isn't UTF-8, or that JSON's reader refuses, is no JSON
pub parse_json-NotJson : (text : List ℕ) → (IsUtf8 text → read text ≡ None) → parse_json text ≡ Err NotJson
parse_json-NotJson text none = parse_json-NotJson_by_cases text (is_utf8 text) refl none

-- the certificate that a call reads is the one that the text denotes
pub denotes-unless_out_of_memory : (t : TopologyValue) (text : List ℕ) (r : Result (List Tree) CertFault)
    → Gives (λ (c : List Tree). c) r (parse_certificate t text) → IfOk r (DenotesCertificate t text)
denotes-unless_out_of_memory t text (Ok flows) gives = parse_certificate-denotes t text flows gives
denotes-unless_out_of_memory t text (Err fault) gives = tt

-- the certificate that a text denotes is read, unless memory runs out
pub Gives-from_denotes : (t : TopologyValue) (text : List ℕ) (r : Result (List Tree) CertFault)
    → Gives (λ (c : List Tree). c) r (parse_certificate t text) → (flows : List Tree)
    → DenotesCertificate t text flows → Gives (λ (c : List Tree). c) r (Ok flows)
Gives-from_denotes t text r gives flows is =
    subst (λ (step : Result (List Tree) CertFault). Gives (λ (c : List Tree). c) r step)
    (parse_certificate-from_denotes t text flows is) gives

-- a text denotes one certificate at most
pub DenotesCertificate-unique : (t : TopologyValue) (text : List ℕ) (c d : List Tree)
    → DenotesCertificate t text c → DenotesCertificate t text d → c ≡ d
DenotesCertificate-unique t text c d is_c is_d = ok_injective {E = CertFault} c d
    (sym (parse_certificate-from_denotes t text c is_c) ∙ parse_certificate-from_denotes t text d is_d)
