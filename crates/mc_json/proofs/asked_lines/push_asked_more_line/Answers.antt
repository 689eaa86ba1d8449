-- The line is put together by hand, since a count can have more than 64 bits.
use Rattle.std.proofs.Common.{◌≡◌, ◌==◌, ℕ, false, List, codes, decimal, ◌++◌, ap, ◌∙◌, append_assoc}
use Rattle.std.proofs.lemmas.Bool.{ne_eqb}
use Rattle.json.specs.Print.{escape_byte}
use Rattle.mc_json.specs.AskedData.{asked_more_data}
use Rattle.mc_json.specs.RowData.{line_of}
use Rattle.mc_json.proofs.asked_lines.push_asked_more_line.Goals as goal

spelled : (wants : ℕ) → line_of (asked_more_data wants)
    ≡ codes "{\"asked_more\":{\"wants\":" ++ (decimal wants ++ codes "}}\n")
unfolding escape_byte
spelled wants = ap (λ (end : List ℕ). codes "{\"asked_more\":{\"wants\":" ++ end)
    (append_assoc (decimal wants ++ codes "}") (codes "}") (codes "\n")
    ∙ append_assoc (decimal wants) (codes "}") (codes "}\n"))

-- There are further wants, since the test for none failed; the line that is written is that of their object.
pub returns : goal.returns
returns c =
    let some : (c.args.wants == 0) ≡ false = ne_eqb c.args.wants 0 c.if-wants-eq0.false in
    rw (some, spelled c.args.wants) c.in_ok-writeln.ensures.bytes
