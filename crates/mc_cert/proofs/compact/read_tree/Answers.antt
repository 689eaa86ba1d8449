use Rattle.std.proofs.Common.{◌≡◌, ◌++◌, ◌∷◌, [], arith, rules, map}
use Rattle.mc_cert.specs.CertificateText.{listed, entry_text}
use Rattle.mc_cert.specs.Writable.{IsWritableEntryFor}
use Rattle.mc_cert.proofs.PieceLemmas.{tree_text-pieces}
use Rattle.mc_cert.proofs.SeparatorLemmas.{listed-push, separator_of-comma_next, All-next}
use Rattle.mc_cert.proofs.compact.read_tree.Goals as goal

-- The separator and the entry's text are the next pieces of the list, and from then on a comma is due. The
-- entry is one that a text can have.
pub loop-number-preserved : goal.loop-number-preserved
loop-number-preserved c =
    let old = c.loop-number.entries.items in
    let new = c.push.new.self.items in
    let entry = c.in-Some-read_entry.entry in
    let written = entry_text c.args.topology.now in
    let made : new ≡ old ++ entry ∷ [] = search rules in
    let so_far : c.in-Some.rest.now ≡ listed (map written new) ++ c.in-Some-read_entry.after.now =
    listed-push written _ c.loop-number.rest.now c.in-Some-after_prefix.after.now _
    c.loop-number.separator.now old new entry made c.loop-number.invariant.read
    c.in-Some-after_prefix.ensures c.in-Some-read_entry.ensures.text c.loop-number.invariant.separator in
    record {
      read = search (rules, so_far);
      separator = separator_of-comma_next old new entry made;
      writable = All-next (IsWritableEntryFor c.args.topology.now) old new entry made
          c.loop-number.invariant.writable c.in-Some-read_entry.ensures.writable;
      few = omega (arith, c.in_ok-push.ensures.len);
    }

-- Between the brackets is the text of the entries.
pub returns-clause-text : goal.returns-clause-text
returns-clause-text c =
    tree_text-pieces c.args.topology.now c.loop-number.entries.items c.args.text.now c.in-Some.rest.now
    c.loop-number.rest.now c.in-Some-after_prefix-2.rest.now c.in-Some.ensures
    c.loop-number.invariant.read c.in-Some-after_prefix-2.ensures
