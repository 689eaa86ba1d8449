use Rattle.std.proofs.Common.{◌≡◌, ◌++◌, All, take, drop, map, string_bytes}
use denote.Shadow.{shadow}
use denote.Text.{Utf8}
use Rattle.mc_cert.specs.Certificate.{HasByteNumbers}
use Rattle.mc_cert.specs.CertificateText.{listed_after, listed, tree_text}
use Rattle.mc_cert.proofs.json_text.push_trees.Given as goal

-- What was appended, and the texts of the trees to come, are the whole list. The trees so far have entries
-- whose numbers are bytes.
abbrev pub invariant-loop-tree : goal.invariant-loop-tree
invariant-loop-tree l =
    record {
      is_text : shadow (Utf8 l.separator);
      so_far : string_bytes l.text ++ listed_after l.separator
          (map (λ t. tree_text l.topology t.value.items) (drop l.tree-index l.trees))
          ≡ string_bytes l.initial.text
          ++ listed (map (λ t. tree_text l.topology t.value.items) l.trees);
      bytes : All (λ t. All HasByteNumbers t.value.items) (take l.tree-index l.trees);
    }
