-- The answer and the text of `check`, and what its yes promises (docs/FORMATS.md, "The program";
-- docs/PROMISES.md).
use Rattle.std.specs.Prelude.{◌≡◌, ℕ, ◌<◌, Bool, true, List, [], ◌∷◌, ◌++◌, codes, length, ◌⊎◌, Option}
use Rattle.std.specs.Prelude.{Some, Result, Ok, if◌then◌else◌}
use Rattle.mc_theory.specs.Headline.{HeadlineHolds}
use Rattle.mc_forward.specs.Domains.{DomainValue, net_of}
use Rattle.mc_cert.specs.Certificate.{Tree, tree_at}
use Rattle.mc_check.specs.declared.verdict.Verdict.{Verdict}
use Rattle.mc_commands.specs.declared.fault.RunFault.{RunFault}
use Rattle.mc_input.specs.Meaning.{MeansDomainWhere}
use Rattle.mc_commands.specs.InputMeaning.{MeansWithLists}
use Rattle.mc_commands.specs.VerdictText.{AreVerdicts, are_yes, check_text}

-- ---- answers and texts

-- This is the text of the verdicts on a domain's flows by the lists of a certificate, and the answer is
-- whether all verdicts are yes.
pub record IsTextOfVerdicts (domain : DomainValue) (lists : List Tree) (all : Bool)
    (written : List ℕ) : Type 0 where
  pub verdicts : List Verdict
  pub are_verdicts : AreVerdicts domain lists verdicts
  pub answer : all ≡ are_yes verdicts
  pub spelled : written ≡ check_text domain.topology verdicts

-- The bundle means a domain with a certificate, and this is the text of the verdicts; the answer is whether
-- all are yes.
abbrev pub IsVerdictText : List ℕ → Bool → List ℕ → Type 0
IsVerdictText text all written =
    MeansDomainWhere MeansWithLists (λ certified. IsTextOfVerdicts certified.domain certified.lists all
    written) text

-- ---- the line that says yes

-- After these bytes a line begins.
abbrev pub IsLineStart : List ℕ → Type 0
IsLineStart front = (front ≡ []) ⊎ ((before : List ℕ) × (front ≡ before ++ 10 ∷ []))

-- The words were written at the start of a line.
abbrev pub WroteAtStart : (words : List ℕ) → Option (List ℕ) → Option (List ℕ) → Type 0
WroteAtStart words (Some old) (Some new) =
    (front rest : List ℕ) × IsLineStart front × (new ≡ old ++ (front ++ (words ++ rest)))
WroteAtStart words _ _ = ⊥

-- The words `verdict yes` were written at the start of a line.
abbrev pub WroteYes : Option (List ℕ) → Option (List ℕ) → Type 0
WroteYes = WroteAtStart (codes "verdict yes")

-- the line of a yes in JSON, but for its line feed
abbrev pub yes_object : List ℕ
yes_object = codes "{\"verdict\":\"yes\"}"

-- These are words that begin the line of a yes: the text's, or the object of JSON.
abbrev pub AreYesWords : (words : List ℕ) → Type 0
AreYesWords words = (words ≡ codes "verdict yes") ⊎ (words ≡ yes_object)

-- the words of a yes in this form
abbrev pub yes_words : (json : Bool) → List ℕ
yes_words json = if json then yes_object else codes "verdict yes"

-- ---- the headline

-- A run says yes by its answer or by what it wrote, whole or in part.
abbrev pub SaysYes : Result Bool RunFault → Option (List ℕ) → Option (List ℕ) → Type 0
SaysYes result old new = (result ≡ Ok true) ⊎ WroteYes old new

-- For every flow that the domain's topology lists, every packet sent with at least its TTL, and
-- every order in which routers handle copies, no LAN carries two copies, none leaves the known
-- domain, no more copies are made than the certificate names, and, if none was lost, once none
-- waits each wanting LAN has carried exactly one.
abbrev pub KeepsHeadline : DomainValue → List Tree → Type 0
KeepsHeadline domain lists =
    (flow : ℕ) → flow < length domain.topology.flows
    → HeadlineHolds (net_of domain flow) (length (tree_at lists flow))

-- The bundle means a domain and a certificate for which the headline holds.
abbrev pub BundleKeepsHeadline : List ℕ → Type 0
BundleKeepsHeadline = MeansDomainWhere MeansWithLists
    (λ certified. KeepsHeadline certified.domain certified.lists)
