-- The bounds of a text that is read as TOML, so that reading takes little time and memory: each
-- table and each value has a mark of its own, and each pair is compared with the header above it.
-- Comments, strings and headers are those of TOML 1.0.0, sections "Comment", "String" and "Table".
use Rattle.std.specs.Prelude.{ℕ, ◌+◌, ◌-◌, ◌==◌, ◌&&◌, ◌||◌, nat_le, Bool, true, false, List, codes}
use Rattle.std.specs.Prelude.{fold, if◌then◌else◌}
use Rattle.std.specs.List.{list_any}
use Rattle.mc_topology.specs.declared.read.bounds.LexState.{LexState}
use Rattle.mc_topology.specs.declared.read.bounds.LexState.TheVariants.{Outside, Comment, OneQuote}
use Rattle.mc_topology.specs.declared.read.bounds.LexState.TheVariants.{TwoQuotes, OneLine, OneLineEscape}
use Rattle.mc_topology.specs.declared.read.bounds.LexState.TheVariants.{MultiLine, MultiLineEscape}
use Rattle.mc_topology.specs.declared.read.bounds.LinePart.{LinePart}
use Rattle.mc_topology.specs.declared.read.bounds.LinePart.TheVariants.{Margin, Header, Rest}
use Rattle.mc_topology.specs.declared.read.bounds.Scan.{Scan}

-- ---- comments and strings

-- the state after a byte outside of comments and strings: `#` begins a comment, and `"` or `'` a
-- string
abbrev pub after_outside_byte : ℕ → LexState
after_outside_byte byte =
    if byte == 35 then Comment else if byte == 34 || byte == 39 then OneQuote byte else Outside

-- whether the byte escapes the next one: a backslash does in a string between `"`, and not in one
-- between `'`
abbrev pub begins_escape : ℕ → ℕ → Bool
begins_escape quote byte = byte == 92 && quote == 34

-- The state after a byte in a string on one line, which ends at its quote. It ends with its line as
-- well: there the text is no TOML, and is refused for that.
abbrev pub after_one_line_byte : ℕ → ℕ → LexState
after_one_line_byte quote byte =
    if byte == quote || byte == 10 then Outside
    else if begins_escape quote byte then OneLineEscape else OneLine quote

-- the state after a byte in a string on many lines, which ends after three or more of its quotes in
-- a row
abbrev pub after_multi_line_byte : ℕ → ℕ → ℕ → LexState
after_multi_line_byte quote quotes byte =
    if byte == quote then (if nat_le 3 quotes then MultiLine quote quotes else MultiLine quote (quotes + 1))
    else if nat_le 3 quotes then after_outside_byte byte
    else if begins_escape quote byte then MultiLineEscape else MultiLine quote 0

-- the state after a byte, by the state before it
unfoldable pub after_byte : LexState → ℕ → LexState
after_byte Outside byte = after_outside_byte byte
after_byte Comment byte = if byte == 10 then Outside else Comment
after_byte (OneQuote quote) byte = if byte == quote then TwoQuotes quote else after_one_line_byte quote byte
after_byte (TwoQuotes quote) byte = if byte == quote then MultiLine quote 0 else after_outside_byte byte
after_byte (OneLine quote) byte = after_one_line_byte quote byte
after_byte OneLineEscape byte = OneLine 34
after_byte (MultiLine quote quotes) byte = after_multi_line_byte quote quotes byte
after_byte MultiLineEscape byte = MultiLine 34 0

-- whether the state is outside of comments and strings
abbrev pub is_outside : LexState → Bool
is_outside Outside = true
is_outside Comment = false
is_outside (OneQuote quote) = false
is_outside (TwoQuotes quote) = false
is_outside (OneLine quote) = false
is_outside OneLineEscape = false
is_outside (MultiLine quote quotes) = false
is_outside MultiLineEscape = false

-- ---- headers

-- whether the byte is white space: a tab, a line feed, a carriage return or a space
abbrev pub is_blank : ℕ → Bool
is_blank byte = (byte == 9 || byte == 10) || (byte == 13 || byte == 32)

-- the part of a line after a byte that doesn't end it: a header begins with a `[` that is the first
-- on its line, but for blanks and a byte order mark
abbrev pub part_with_byte : LinePart → ℕ → LinePart
part_with_byte Margin byte =
    if byte == 91 then Header else if is_blank byte || nat_le 128 byte then Margin else Rest
part_with_byte Header byte = Header
part_with_byte Rest byte = Rest

-- the part of a line after a byte: where a line begins within brackets, it has no header
abbrev pub part_after : LinePart → ℕ → Bool → ℕ → LinePart
part_after part nesting outside byte =
    if outside && byte == 10 then (if nesting == 0 then Margin else Rest) else part_with_byte part byte

-- how many brackets are open after a byte outside of strings and comments
abbrev pub nesting_after : ℕ → ℕ → ℕ
nesting_after nesting byte =
    if byte == 91 || byte == 123 then nesting + 1
    else if byte == 93 || byte == 125 then nesting - 1 else nesting

-- whether a byte in this state isn't counted in a header: one of a comment, or a blank outside of
-- strings
abbrev pub is_skipped_in_header : LexState → ℕ → Bool
is_skipped_in_header Outside byte = is_blank byte
is_skipped_in_header Comment byte = true
is_skipped_in_header (OneQuote quote) byte = false
is_skipped_in_header (TwoQuotes quote) byte = false
is_skipped_in_header (OneLine quote) byte = false
is_skipped_in_header OneLineEscape byte = false
is_skipped_in_header (MultiLine quote quotes) byte = false
is_skipped_in_header MultiLineEscape byte = false

-- how many bytes the last header has, after a byte
abbrev pub header_after : LinePart → ℕ → LexState → ℕ → ℕ
header_after Margin header state byte = if byte == 91 then 1 else header
header_after Header header state byte = if is_skipped_in_header state byte then header else header + 1
header_after Rest header state byte = header

-- ---- marks

-- whether the byte is a mark: a table or a value begins with one, or has one beside it
abbrev pub is_mark : ℕ → Bool
is_mark byte = list_any (λ mark. mark == byte) (codes ".,={[")

-- the scan with this byte, after which the state is `state`
abbrev pub with_state : Scan → LexState → ℕ → Scan
with_state scan state byte = let outside = is_outside state in record {
  state = state;
  part = part_after scan.part scan.nesting outside byte;
  nesting = if outside then nesting_after scan.nesting byte else scan.nesting;
  header = header_after scan.part scan.header state byte;
  compared = if outside && byte == 61 then scan.compared + scan.header else scan.compared;
  marks = if outside && is_mark byte then scan.marks + 1 else scan.marks;
}

-- the scan with the next byte
unfoldable pub with_byte : Scan → ℕ → Scan
with_byte scan byte = with_state scan (after_byte scan.state byte) byte

-- the scan before the first byte
abbrev pub initial_scan : Scan
initial_scan =
    record { state = Outside; part = Margin; nesting = 0; header = 0; compared = 0; marks = 0 }

-- Outside of strings and comments there are at most 131,072 of the marks `.`, `,`, `=`, `{` and `[`, and
-- at most 268,435,456 bytes are compared: for each `=` those of the last header above it.
unfoldable pub is_bounded : List ℕ → Bool
is_bounded text =
    let scan = fold with_byte initial_scan text in
    nat_le scan.marks 131072 && nat_le scan.compared 268435456
