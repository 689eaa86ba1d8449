use Rattle.std.proofs.Common.{◌≡◌, ◌++◌, drop, string_bytes}
use denote.Shadow.{shadow}
use denote.Text.{Utf8}
use Rattle.mc_cert.specs.CertificateText.{listed_after, listed, flow_texts}
use Rattle.mc_cert.proofs.json_text.push_flows.Given as goal

-- What was appended, and the texts of the flows to come, are the whole list.
abbrev pub invariant-loop-flow : goal.invariant-loop-flow
invariant-loop-flow l =
    record {
      is_text : shadow (Utf8 l.separator);
      so_far : string_bytes l.text ++ listed_after l.separator
          (flow_texts (drop l.flow l.topology.flows) (drop l.flow l.numbers))
          ≡ string_bytes l.initial.text ++ listed (flow_texts l.topology.flows l.numbers);
    }
