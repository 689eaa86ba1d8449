use Rattle.std.proofs.Common.{List, [], ◌++◌, Option, Ok, inr, ap, sym, ◌∙◌}
use Rattle.std.specs.Prelude.{unwrap_or}
use Rattle.std.proofs.lemmas.List.{append-nil}
use Rattle.std.proofs.lemmas.Result.{err_from_is_err_and}
use Rattle.mc_text.specs.LineView.{line_text}
use Rattle.mc_igmp.specs.declared.record.Record.{Record}
use Rattle.mc_igmp.proofs.ListLemmas.{read_line-fault, read_line-accepted_records, read_line-ended}
use Rattle.mc_igmp.proofs.SameRecordLemmas.{are_known_lines-added, are_known_lines-append, known_line-at}
use Rattle.mc_igmp.proofs.SameRecordLemmas.{known_line-read, read_line-known}
use Rattle.mc_igmp.proofs.list.ReportList.push_line.Goals as goal

-- A known line was read before, as records that are in the list already.
pub append_known-requires : goal.append_known-requires
append_known-requires c = record {
  known = (
      (known_line-at c.args.self.now c.args.known.now c.in-Some.place c.args.line.now.bytes.now c.line.result.now
      c.requires.known c.in-Some.ensures.found (rw c.in-Some.ensures.lines at c.line.ensures)).0.listed);
}

-- It is read as these records here too.
pub returns-in-Some-clause-ok : goal.returns-in-Some-clause-ok
returns-in-Some-clause-ok c =
    let line = c.args.line.now in
    let known = known_line-at c.args.self.now c.args.known.now c.in-Some.place line.bytes.now c.line.result.now
    c.requires.known c.in-Some.ensures.found (rw c.in-Some.ensures.lines at c.line.ensures) in
    let read = read_line-known c.args.self.now (line_text line) c.line.result.now known.0 known.1
    c.in-Some.ensures.ended c.in-Some.ensures.number in
    (c.line.result.now.records, read, c.in_ok-append_known.ensures.appended)

-- Known lines stay so in a longer list.
pub returns-in-Some-clause-known : goal.returns-in-Some-clause-known
returns-in-Some-clause-known c =
    rw (c.in-Some.ensures.lines, c.in_ok-append_known.ensures.appended)
    (are_known_lines-append c.args.known.now c.args.self.now c.line.result.now.records c.requires.known)

-- A line whose bytes can't be decoded has that fault.
pub returns-in_err-bytes-clause-err : goal.returns-in_err-bytes-clause-err
returns-in_err-bytes-clause-err c =
    let p = err_from_is_err_and c.from_residual-in_err-bytes.result
    c.from_residual-in_err-bytes.ensures.1 in
    rw (p.1, p.2) (read_line-fault (line_text c.args.line.now) _ c.in_err-bytes.ensures.err)

-- The line was decoded, so that its fault is that of its message.
pub returns-in_err-records-clause-err : goal.returns-in_err-records-clause-err
returns-in_err-records-clause-err c =
    let p = err_from_is_err_and c.from_residual-in_err-records.result
    c.from_residual-in_err-records.ensures.1 in
    let read = read_line-accepted_records (line_text c.args.line.now) c.in_ok-bytes.bytes.now
    c.in_ok-bytes.ensures.ok in
    rw (p.1, p.2) (inr (read ∙ c.in_err-records.ensures))

-- The line's records are those of the report on it.
pub returns-in_ok-add-clause-ok : goal.returns-in_ok-add-clause-ok
returns-in_ok-add-clause-ok c =
    let read = read_line-accepted_records (line_text c.args.line.now) c.in_ok-bytes.bytes.now
    c.in_ok-bytes.ensures.ok in
    let given = λ (o : Option (List Record)). Ok (unwrap_or o []) in
    (c.in-Some-2.records, read ∙ c.in_ok-records.ensures ∙ ap given c.in-Some-2.is, c.in_ok-append.ensures)

-- They are in the list now, so that the line may be known, and the others are as they were.
pub returns-in_ok-add-clause-known : goal.returns-in_ok-add-clause-known
returns-in_ok-add-clause-known c =
    let line = line_text c.args.line.now in
    let given = λ (o : Option (List Record)). Ok (unwrap_or o []) in
    let read = read_line-accepted_records line c.in_ok-bytes.bytes.now c.in_ok-bytes.ensures.ok
    ∙ c.in_ok-records.ensures ∙ ap given c.in-Some-2.is in
    let records = c.in-Some-2.records in
    rw c.in_ok-append.ensures (are_known_lines-added c.args.line.now.bytes.now records
    (c.args.self.now ++ records) c.place_of_line.new.known c.add.new.self c.in_ok-add.ensures
    (are_known_lines-append c.place_of_line.new.known c.args.self.now records
    (rw c.place_of_line.ensures.lines c.requires.known))
    (λ known of_text of_records. known_line-read line c.args.self.now records known
    (read_line-ended line records read) read of_text of_records))

-- A message that is no report adds no record.
pub returns-in_default-2-clause-ok : goal.returns-in_default-2-clause-ok
returns-in_default-2-clause-ok c =
    let read = read_line-accepted_records (line_text c.args.line.now) c.in_ok-bytes.bytes.now
    c.in_ok-bytes.ensures.ok in
    let given = λ (o : Option (List Record)). Ok (unwrap_or o []) in
    ([], read ∙ c.in_ok-records.ensures ∙ ap given c.in_default-2.is, sym (append-nil c.args.self.now))

-- Whether the line is known changes none of those that are.
pub returns-in_default-2-clause-known : goal.returns-in_default-2-clause-known
returns-in_default-2-clause-known c = rw c.place_of_line.ensures.lines c.requires.known
