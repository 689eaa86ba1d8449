-- The certificate that a text is read as, or its first fault. Faults have the order of
-- docs/FORMATS.md.
use Rattle.std.specs.Prelude.{ℕ, ◌==◌, nat_le, List, [], ◌∷◌, length, codes, Option, Some, None}
use Rattle.std.specs.Prelude.{Result, Ok, Err, ok_or, if◌then◌else◌}
use Rattle.std.specs.Str.{is_utf8}
use Rattle.mc_text.specs.Lines.{max_text}
use Rattle.serde_json.specs.Data.{Data, Members}
use Rattle.serde_json.specs.Find.{as_object, as_u64}
use Rattle.serde_json.specs.Read.{read}
use Rattle.mc_text.specs.Steps.{◌>>=◌}
use Rattle.mc_topology.specs.Topology.{TopologyValue}
use Rattle.mc_cert.specs.declared.fault.At.TheVariants.{Top}
use Rattle.mc_cert.specs.declared.fault.CertFaultKind.{CertFaultKind}
use Rattle.mc_cert.specs.declared.fault.CertFaultKind.TheVariants.{NotJson, BadVersion, UnknownKey}
use Rattle.mc_cert.specs.declared.fault.CertFaultKind.TheVariants.{BadKind, TooMany}
use Rattle.mc_cert.specs.declared.fault.CertFault.{CertFault}
use Rattle.mc_cert.specs.declared.version.Version.{Version}
use Rattle.mc_cert.specs.declared.version.Version.TheVariants.{One, Two}
use Rattle.mc_cert.specs.Answer.{locate_fault}
use Rattle.mc_cert.specs.Certificate.{Tree}
use Rattle.mc_cert.specs.Object.{has_only, number_at}
use Rattle.mc_cert.specs.VersionOne.{flows_in}
use Rattle.mc_cert.specs.VersionTwo.{shared_flows_in}

-- the value of a text, which has to be UTF-8 and JSON (else NotJson)
unfoldable pub parse_json : List ℕ → Result Data CertFaultKind
parse_json text = if is_utf8 text then ok_or (read text) NotJson else Err NotJson

-- the value of a text, which has to have at most 16,777,216 bytes (else TooMany) and then to be
-- JSON
unfoldable pub parse_bounded_json : List ℕ → Result Data CertFaultKind
parse_bounded_json text = if nat_le (length text) max_text then parse_json text else Err TooMany

-- the members of the object that a value has to be (else BadKind)
abbrev pub members_of : Data → Result Members CertFaultKind
members_of value = ok_or (as_object value) BadKind

-- the version of this number, which has to be a whole one, and 1 or 2 (else BadVersion)
abbrev pub version_of : Option ℕ → Result Version CertFaultKind
version_of None = Err BadVersion
version_of (Some number) = if number == 1 then Ok One else if number == 2 then Ok Two else Err BadVersion

-- the keys of a certificate of this version
abbrev pub top_keys : Version → List (List ℕ)
top_keys One = codes "flows" ∷ codes "version" ∷ []
top_keys Two = codes "flows" ∷ codes "trees" ∷ codes "version" ∷ []

-- The version of a certificate. The key `version` has to be there (else MissingKey), to be a number
-- (BadKind), and to be 1 or 2 (BadVersion), and then there may be no other keys than that version's
-- (UnknownKey).
unfoldable pub version_in : Members → Result Version CertFaultKind
version_in members = do
  number ← number_at (codes "version") members
  version ← version_of (as_u64 number)
  if has_only (top_keys version) members then Ok version else Err UnknownKey

-- the tree of each flow, of a certificate of this version
unfoldable pub flows_of_version : Version → TopologyValue → Members → Result (List Tree) CertFault
flows_of_version One topology members = flows_in topology members
flows_of_version Two topology members = shared_flows_in topology members

-- the certificate of a text: first the text as a whole, whose faults are at `top`, and then its
-- flows
unfoldable pub parse_certificate : TopologyValue → List ℕ → Result (List Tree) CertFault
parse_certificate topology text = do
  value ← locate_fault Top (parse_bounded_json text)
  members ← locate_fault Top (members_of value)
  version ← locate_fault Top (version_in members)
  flows_of_version version topology members
