use Rattle.std.proofs.Common.{◌≡◌, ℕ, ◌<◌, get_or, ◌++◌, drop, map, string_bytes}
use denote.Shadow.{shadow}
use denote.Text.{Utf8}
use Rattle.mc_theory.specs.Certificates.{Entry}
use Rattle.mc_cert.specs.Certificate.{HasByteNumbers}
use Rattle.mc_cert.specs.CertificateText.{listed_after, listed, entry_text}
use Rattle.mc_cert.proofs.json_text.push_tree.Given as goal

-- What was appended, and the texts of the entries to come, are the whole list. The entries so far have
-- numbers that are bytes.
abbrev pub invariant-loop-entry : goal.invariant-loop-entry
invariant-loop-entry l =
    record {
      is_text : shadow (Utf8 l.separator);
      so_far : string_bytes l.text ++ listed_after l.separator
          (map (entry_text l.topology) (drop l.entry-index l.entries))
          ≡ string_bytes l.initial.text ++ listed (map (entry_text l.topology) l.entries);
      bytes : (k : ℕ) (d : Entry) → k < l.entry-index → HasByteNumbers (get_or l.entries k d);
    }
