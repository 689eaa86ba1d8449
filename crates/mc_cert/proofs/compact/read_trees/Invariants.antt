use Rattle.std.proofs.Common.{◌≡◌, ◌++◌, ◌≤◌, All, map, vec_len}
use Rattle.mc_cert.specs.CertificateText.{listed, tree_text}
use Rattle.mc_cert.specs.Writable.{IsWritableTreeFor}
use Rattle.mc_cert.proofs.SeparatorLemmas.{separator_of}
use Rattle.mc_cert.proofs.compact.read_trees.Given as goal

-- The text is that of the trees so far and the rest; a comma is due unless there are none.
abbrev pub invariant-loop-number : goal.invariant-loop-number
invariant-loop-number l =
    record {
      read : l.initial.rest ≡ listed (map (tree_text l.topology) (map (λ t. t.items) l.trees.items))
          ++ l.rest;
      separator : l.separator ≡ separator_of (map (λ t. t.items) l.trees.items);
      writable : All (IsWritableTreeFor l.topology) (map (λ t. t.items) l.trees.items);
      few : vec_len l.trees ≤ l._number;
    }
