use Rattle.std.proofs.Common.{◌≡◌, ◌++◌, ◌≤◌, All, map, vec_len}
use Rattle.mc_cert.specs.CertificateText.{listed, entry_text}
use Rattle.mc_cert.specs.Writable.{IsWritableEntryFor}
use Rattle.mc_cert.proofs.SeparatorLemmas.{separator_of}
use Rattle.mc_cert.proofs.compact.read_tree.Given as goal

-- The text in the bracket is that of the entries so far and the rest; a comma is due unless there are none.
abbrev pub invariant-loop-number : goal.invariant-loop-number
invariant-loop-number l =
    record {
      read : l.initial.rest ≡ listed (map (entry_text l.topology) l.entries.items) ++ l.rest;
      separator : l.separator ≡ separator_of l.entries.items;
      writable : All (IsWritableEntryFor l.topology) l.entries.items;
      few : vec_len l.entries ≤ l._number;
    }
