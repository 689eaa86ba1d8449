use Rattle.std.proofs.Common.{◌≡◌, ℕ, List, length, true}
use Rattle.std.specs.Prelude.{nat_lt}
use Rattle.std.specs.List.{list_all}
use Rattle.mc_text.specs.Lines.{words_of}
use Rattle.mc_tables.specs.declared.cache.entry.Oif.{Oif}
use Rattle.mc_tables.specs.CacheReading.{oifs_in}
use Rattle.mc_tables.specs.OutgoingSteps.{oifs_after_words}
use Rattle.mc_tables.proofs.cache.plain_row.read_ascending_oifs.Given as goal

-- reading the rest after the outgoing vifs so far is reading
-- the line, and they are all below the next
abbrev AreRead : List Oif → List ℕ → ℕ → List ℕ → Type 0
AreRead oifs rest next line =
    (oifs_after_words oifs (words_of rest) ≡ oifs_in (words_of line))
    × (list_all (λ other. nat_lt other.vif next) oifs ≡ true)

abbrev pub invariant-fours : goal.invariant-fours
invariant-fours l = AreRead l.oifs.items l.rest l.next l.fn.line

abbrev pub invariant-oifs : goal.invariant-oifs
invariant-oifs l = AreRead l.oifs.items l.rest l.next l.fn.line

-- the rest gets shorter
abbrev pub decreases-fours : goal.decreases-fours
decreases-fours l = length l.rest

abbrev pub decreases-oifs : goal.decreases-oifs
decreases-oifs l = length l.rest
