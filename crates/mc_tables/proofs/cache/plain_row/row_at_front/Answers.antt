-- The six words at the line's front are the addresses, the incoming vif and the counters, each as a row has
-- it, and the other words are those of the outgoing vifs.
use Rattle.std.proofs.Common.{List, ℕ, ◌∷◌, ◌∙◌, sym, ap, arith, length, take, drop}
use Rattle.std.proofs.lemmas.List.{drop-drop, length-drop}
use Rattle.mc_text.specs.Lines.{words_of}
use Rattle.mc_tables.proofs.PlainRowLemmas.{row_in_words-front}
use Rattle.mc_tables.proofs.cache.plain_row.row_at_front.Goals as goal

pub returns : goal.returns
returns c = λ oifs read.
    let line = c.args.line.now in
    let group = take 8 line in
    let origin = take 8 (drop 9 line) in
    let addresses = c.in_ok-group.ensures in
    let incoming = c.in_ok-iif.ensures.word in
    let iif = incoming.0 in
    let counters = c.in_ok-rest.ensures in
    let outgoing = words_of c.in_ok-rest.rest.now in
    let third = ap words_of (sym c.after_addresses.ensures.value) ∙ incoming.1
    ∙ ap (λ rest. iif ∷ words_of (drop 3 rest)) c.after_addresses.ensures.value
    ∙ ap (λ rest. iif ∷ words_of rest) (drop-drop 3 18 line) in
    row_in_words-front c.args.order (words_of line) outgoing group origin iif counters.packets counters.bytes
    counters.wrong_if c.in_ok-group.group c.in_ok-group.origin c.in_ok-iif.iif oifs
    (addresses.words ∙ ap (λ (ws : List (List ℕ)). group ∷ origin ∷ ws)
    (third ∙ ap (λ (ws : List (List ℕ)). iif ∷ ws) counters.words))
    addresses.group_read addresses.origin_read incoming.2 incoming.3 counters.packets_count
    counters.bytes_count counters.wrong_if_count read

-- The addresses take eighteen bytes, and the incoming vif takes three of the others.
pub after_counters-requires : goal.after_counters-requires
after_counters-requires c = record {
  start = omega (
    arith,
    c.in_ok-iif.ensures.long,
    ap length c.after_addresses.ensures.value,
    length-drop 18 c.args.line.now,
  );
}
