use Rattle.std.proofs.Common.{◌≡◌, ◌≤◌, ℕ, List, Some, drop, length}
use Rattle.mc_bundle.specs.RestOfBundle.{Advances}
use Rattle.mc_files.specs.Layout.{slots}
use Rattle.mc_input.specs.PartsOneByOne.{read_rest, check_names_from}
use Rattle.mc_input.proofs.slot_part.check_names_to_end.Given as goal

-- The names so far were right, so that the check of all is that of those that are left.
abbrev pub invariant-loop-next : goal.invariant-loop-next
invariant-loop-next g l = record {
  advances : Advances l.fn.parts l.parts;
  failures : l.parts.failed ≡ l.fn.parts.failed;
  count : l.count ≡ length (slots l.fn.certified l.fn.topology);
  few : l.count ≤ 1538;
  names : (text : List ℕ) → l.fn.parts.remaining ≡ Some text →
      (later : List ℕ) × (l.parts.remaining ≡ Some later)
      × (read_rest l.fn.parts text
      (check_names_from l.fn.number (drop l.fn.number (slots l.fn.certified l.fn.topology)))
      ≡ read_rest l.parts later (check_names_from l.next (drop l.next (slots l.fn.certified l.fn.topology))));
}
