use Rattle.std.proofs.Common.{ℕ, List, get_or, ◌∙◌, sym, ap}
use Rattle.mc_tables.specs.CacheNumbers.{EntryNumbersValue, number_of_key, decoded_number}
use Rattle.mc_tables.proofs.NumberLemmas.{number_of_key-missing, number_of_key-here}
use Rattle.mc_tables.proofs.listed.listed_entry_numbers.ListedEntryNumbers.number_with_hint.Goals as goal

-- A key without a place isn't listed, and has no number.
pub returns-in_err-place : goal.returns-in_err-place
returns-in_err-place c =
    let key = c.args.key.now in
    c.from_residual.ensures
    ∙ sym (number_of_key-missing key c.self.inside.pairs c.self.inside.numbers.items
    c.in_err-place.ensures.none)
    ∙ ap (λ (s : EntryNumbersValue). number_of_key s.numbers key) c.self.view_is

-- The number is the one at the key's place.
pub returns : goal.returns
returns c =
    let key = c.args.key.now in
    c.number_at_place.ensures
    ∙ ap (λ (ns : List ℕ). decoded_number (get_or ns c.in_ok-place.place 0)) c.deref.ensures.value
    ∙ sym (number_of_key-here c.self.inside.pairs c.self.inside.numbers.items key c.in_ok-place.place
    c.args.self.now c.self.view_is c.in_ok-place.ensures.distinct c.in_ok-place.ensures.found)
