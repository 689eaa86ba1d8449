use Rattle.std.proofs.Common.{below_more, get_or, subst}
use Rattle.std.proofs.lemmas.List.{get_or_default}
use Rattle.mc_theory.specs.Certificates.{Entry}
use Rattle.mc_cert.specs.Certificate.{HasByteNumbers}
use Rattle.std.proofs.Common.{◌++◌, ◌∙◌, ap, string_bytes, rules}
use Rattle.mc_cert.specs.CertificateText.{entry_text}
use Rattle.mc_cert.proofs.TextLemmas.{listed_after-more}
use Rattle.mc_cert.proofs.json_text.push_tree.Goals as goal

-- The separator and the entry's text are the next pieces of the list of texts.
pub loop-entry-preserved : goal.loop-entry-preserved
loop-entry-preserved c =
    record {
      is_text = search rules;
      so_far =
          listed_after-more (entry_text c.args.topology.now) c.loop-entry.separator.now
          (string_bytes c.loop-entry.text) _ (string_bytes c.push_entry.new.text)
          c.args.entries.now c.loop-entry.entry-index
          c.entry-item.result c.loop-entry-test.true c.entry-item.is
          (c.in_ok-push_entry.ensures.text
          ∙ ap (λ s. s ++ entry_text c.args.topology.now c.entry-item.result)
          c.in_ok-push_str-2.ensures.bytes) c.loop-entry.invariant.so_far;
      bytes = λ k d lt.
          below_more (λ n. (e : Entry) → HasByteNumbers (get_or c.args.entries.now n e))
          c.loop-entry.entry-index (λ n before e. c.loop-entry.invariant.bytes n e before)
          (λ e.
          subst (λ (x : Entry). HasByteNumbers x) (c.entry-item.is
          ∙ get_or_default c.args.entries.now c.loop-entry.entry-index c.entry-item.result e
          c.loop-entry-test.true)
          c.in_ok-push_entry.ensures.bytes)
          k lt d;
    }
