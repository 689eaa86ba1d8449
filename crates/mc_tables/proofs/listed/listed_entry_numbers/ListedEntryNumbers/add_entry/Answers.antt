use Rattle.std.proofs.Common.{◌≡◌, length, subst}
use Rattle.mc_text.proofs.StepLemmas.{OnErr-from}
use Rattle.mc_tables.specs.CacheNumbers.{IsVacancyFor}
use Rattle.mc_tables.proofs.NumberLemmas.{listed_numbers_value, listed_numbers_value-append_zeros}
use Rattle.mc_tables.proofs.NumberLemmas.{number_inserted-new, number_inserted-repeated}
use Rattle.mc_tables.proofs.NumberLemmas.{number_inserted-unlisted}
use Rattle.mc_tables.proofs.listed.listed_entry_numbers.ListedEntryNumbers.add_entry.Goals as goal

-- Places that were added have no number, so that nothing changed.
pub returns-in_err-place-clause-refused : goal.returns-in_err-place-clause-refused
returns-in_err-place-clause-refused c =
    let keys = c.self.inside.pairs in
    let more = c.vacancy_for.ensures.more in
    OnErr-from c.from_residual.result
    (listed_numbers_value keys c.vacancy_for.new.numbers.items ≡ c.args.self.now)
    (listed_numbers_value-append_zeros keys c.self.inside.numbers.items c.vacancy_for.new.numbers.items
    more.0 c.args.self.now more.1 c.self.view_is)

-- The same, since no number was stored.
pub returns-in_err-push-in-At-clause-refused : goal.returns-in_err-push-in-At-clause-refused
returns-in_err-push-in-At-clause-refused c =
    let keys = c.self.inside.pairs in
    let more = c.vacancy_for.ensures.more in
    OnErr-from c.from_residual-in_err-push-in-At.result
    (listed_numbers_value keys c.vacancy_for.new.numbers.items ≡ c.args.self.now)
    (listed_numbers_value-append_zeros keys c.self.inside.numbers.items c.vacancy_for.new.numbers.items
    more.0 c.args.self.now more.1 c.self.view_is)

-- The place is the key's alone and was empty: the key gets the number, and no other changes.
pub returns-in_ok-push-in-At-clause-numbered : goal.returns-in_ok-push-in-At-clause-numbered
returns-in_ok-push-in-At-clause-numbered c =
    let key = c.args.key.now in
    let keys = c.self.inside.pairs in
    let stored = c.vacancy_for.new.numbers.items in
    let more = c.vacancy_for.ensures.more in
    let number = length c.args.entries.now.lists in
    rw c.len-number.ensures (number_inserted-new key number c.in-At.place keys c.self.inside.numbers.items
    stored more.0 c.args.self.now more.1 c.self.view_is c.vacancy_for.ensures.distinct
    (subst (IsVacancyFor keys stored key) c.in-At.is c.in_ok-place.ensures.vacancy))

-- The place holds a number, which is the key's own, as no other key has the place.
pub returns-in-Repeated-clause-numbered : goal.returns-in-Repeated-clause-numbered
returns-in-Repeated-clause-numbered c =
    let key = c.args.key.now in
    let keys = c.self.inside.pairs in
    let stored = c.vacancy_for.new.numbers.items in
    let more = c.vacancy_for.ensures.more in
    let number = length c.args.entries.now.lists in
    number_inserted-repeated key number keys c.self.inside.numbers.items stored more.0
    c.args.self.now more.1 c.self.view_is c.vacancy_for.ensures.distinct
    (subst (IsVacancyFor keys stored key) c.in-Repeated.is c.in_ok-place.ensures.vacancy)

-- A key without a place isn't listed.
pub returns-in-Unlisted-clause-numbered : goal.returns-in-Unlisted-clause-numbered
returns-in-Unlisted-clause-numbered c =
    let key = c.args.key.now in
    let keys = c.self.inside.pairs in
    let stored = c.vacancy_for.new.numbers.items in
    let more = c.vacancy_for.ensures.more in
    let number = length c.args.entries.now.lists in
    number_inserted-unlisted key number keys c.self.inside.numbers.items stored more.0
    c.args.self.now more.1 c.self.view_is
    (subst (IsVacancyFor keys stored key) c.in-Unlisted.is c.in_ok-place.ensures.vacancy)
