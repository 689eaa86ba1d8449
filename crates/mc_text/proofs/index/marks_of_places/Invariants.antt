use Rattle.std.proofs.Common.{◌≡◌, length, take}
use Rattle.mc_text.proofs.IndexLemmas.{AreMarkedInSlots}
use Rattle.mc_text.proofs.index.marks_of_places.Given as goal

-- the slots of the numbers before are marked
abbrev pub invariant-loop-place : goal.invariant-loop-place
invariant-loop-place l = record {
  counted : length l.marks.items ≡ l.slots;
  marked : AreMarkedInSlots l.slots l.marks.items (take l.place l.fn.numbers);
}
