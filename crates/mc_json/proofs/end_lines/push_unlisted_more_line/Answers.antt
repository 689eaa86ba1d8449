-- The line is put together by hand, since a count can have more than 64 bits.
use Rattle.std.proofs.Common.{◌≡◌, ◌==◌, ℕ, false, List, codes, decimal, ◌++◌, ap, ◌∙◌, append_assoc}
use Rattle.std.proofs.lemmas.Bool.{ne_eqb}
use Rattle.json.specs.Print.{escape_byte}
use Rattle.mc_json.specs.EndData.{unlisted_more_data}
use Rattle.mc_json.specs.RowData.{line_of}
use Rattle.mc_json.proofs.end_lines.push_unlisted_more_line.Goals as goal

spelled : (rows : ℕ) → line_of (unlisted_more_data rows)
    ≡ codes "{\"unlisted_more\":{\"rows\":" ++ (decimal rows ++ codes "}}\n")
unfolding escape_byte
spelled rows = ap (λ (end : List ℕ). codes "{\"unlisted_more\":{\"rows\":" ++ end)
    (append_assoc (decimal rows ++ codes "}") (codes "}") (codes "\n")
    ∙ append_assoc (decimal rows) (codes "}") (codes "}\n"))

-- There are further rows, since the test for none failed; the line that is written is that of their object.
pub returns : goal.returns
returns c =
    let some : (c.args.rows == 0) ≡ false = ne_eqb c.args.rows 0 c.if-rows-eq0.false in
    rw (some, spelled c.args.rows) c.in_ok-writeln.ensures.bytes
