-- A bundle with a certificate as one more part means the same domain.
use Rattle.std.proofs.Common.{ℕ, List, [], ◌∷◌, ◌++◌, Some, None, ap, subst}
use Rattle.mc_bundle.specs.Bundle.{PartText, IsBundle}
use Rattle.mc_bundle.proofs.BundleLaws.{bundle_has_unique_parts}
use Rattle.mc_igmp.specs.declared.record.Record.{Record}
use Rattle.mc_topology.specs.SectionRows.{RouterRow}
use Rattle.mc_forward.specs.Domains.{DomainValue, TablesValue}
use Rattle.mc_input.specs.Input.{InputValue, PartsDenoteInput, PartsDenoteTables, PartsDenoteReports}
use Rattle.mc_input.specs.Input.{with_certificate}
use Rattle.mc_input.specs.Meaning.{MeansDomain}

-- the tables and the reports are denoted as before, with more parts behind them
PartsDenoteTables-append : (rs : List RouterRow) (here : List PartText) (ts : List TablesValue)
    (rest more : List PartText)
    → PartsDenoteTables rs here ts rest → PartsDenoteTables rs (here ++ more) ts (rest ++ more)
PartsDenoteTables-append [] here [] rest more h = ap (λ (ps : List PartText). ps ++ more) h
PartsDenoteTables-append [] here (t ∷ ts) rest more h = absurd h
PartsDenoteTables-append (r ∷ rs) [] ts rest more h = absurd h
PartsDenoteTables-append (r ∷ rs) (vif ∷ []) ts rest more h = absurd h
PartsDenoteTables-append (r ∷ rs) (vif ∷ cache ∷ here) [] rest more h = absurd h
PartsDenoteTables-append (r ∷ rs) (vif ∷ cache ∷ here) (t ∷ ts) rest more h =
    (h.0, PartsDenoteTables-append rs here ts rest more h.1)

PartsDenoteReports-append : (lans : List (List ℕ)) (here : List PartText) (all : List (List Record))
    (rest more : List PartText) → PartsDenoteReports lans here all rest
    → PartsDenoteReports lans (here ++ more) all (rest ++ more)
PartsDenoteReports-append [] here [] rest more h = ap (λ (ps : List PartText). ps ++ more) h
PartsDenoteReports-append [] here (records ∷ all) rest more h = absurd h
PartsDenoteReports-append (lan ∷ lans) [] all rest more h = absurd h
PartsDenoteReports-append (lan ∷ lans) (part ∷ here) [] rest more h = absurd h
PartsDenoteReports-append (lan ∷ lans) (part ∷ here) (records ∷ all) rest more h =
    (h.0, PartsDenoteReports-append lans here all rest more h.1)

-- and so are the parts
PartsDenoteInput-with_certificate : (parts : List PartText) (v : InputValue) (text : List ℕ)
    → PartsDenoteInput parts v None → PartsDenoteInput (with_certificate parts text) v (Some text)
PartsDenoteInput-with_certificate parts v text h =
    let more : List PartText = with_certificate [] text in
    record {
      topology = h.topology;
      of_routers = h.of_routers ++ more;
      of_lans = h.of_lans ++ more;
      last = h.last ++ more;
      in_order = ap (λ (ps : List PartText). ps ++ more) h.in_order;
      topology_denoted = h.topology_denoted;
      tables = PartsDenoteTables-append v.topology.routers h.of_routers v.tables h.of_lans more h.tables;
      reports = PartsDenoteReports-append v.topology.lans h.of_lans v.reports h.last more h.reports;
      certificate_denoted = ap (λ (ps : List PartText). ps ++ more) h.certificate_denoted;
    }

-- so it means the same domain
pub MeansDomain-with_certificate : (text bundle : List ℕ) (parts : List PartText) (certificate : List ℕ)
    (d : DomainValue) → MeansDomain text None d → IsBundle text parts
    → IsBundle bundle (with_certificate parts certificate)
    → MeansDomain bundle (Some certificate) d
MeansDomain-with_certificate text bundle parts certificate d means is more = record {
  input = means.input;
  denotes = record {
    parts = with_certificate parts certificate;
    bundle = more;
    parts_denote = PartsDenoteInput-with_certificate parts means.input certificate
        (subst (λ (ps : List PartText). PartsDenoteInput ps means.input None)
        (bundle_has_unique_parts text means.denotes.parts parts means.denotes.bundle is)
        means.denotes.parts_denote);
  };
  assembled = means.assembled;
  rules = means.rules;
}
