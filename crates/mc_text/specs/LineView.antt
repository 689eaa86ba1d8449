-- What contracts see of a line.
use Rattle.mc_text.specs.declared.text.lines.Line.{Line}
use Rattle.mc_text.specs.Lines.{LineText}

-- what a line is in contracts: its number, its bytes, and whether a line feed ends it
abbrev pub line_text : Line → LineText
line_text line = record { number = line.number; bytes = line.bytes.now; ended = line.ended }
