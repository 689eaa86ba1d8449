use Rattle.std.proofs.Common.{◌≡◌, ◌++◌, vec_len}
use Rattle.std.specs.List.{zip}
use Rattle.mc_cert.specs.CertificateText.{listed, flow_texts}
use Rattle.mc_cert.proofs.SeparatorLemmas.{separator_of}
use Rattle.mc_cert.proofs.compact.read_flows.Given as goal

-- The text is that of the flows so far and the rest; a comma is due unless there are none.
abbrev pub invariant-loop-number : goal.invariant-loop-number
invariant-loop-number l =
    record {
      read : l.initial.rest ≡ listed (flow_texts l.topology.flows l.tree_numbers.items) ++ l.rest;
      separator : l.separator ≡ separator_of (zip l.topology.flows l.tree_numbers.items);
      count : vec_len l.tree_numbers ≡ l.number;
    }
