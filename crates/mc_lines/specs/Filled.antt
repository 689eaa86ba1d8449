-- The text of a line (Lines): its sentences (Sentences), with the texts of the line's facts in place of their
-- keys.
use Rattle.std.specs.Prelude.{ℕ, Bool, List, [], ◌∷◌, ◌++◌, codes, flat_map, if◌then◌else◌}
use Rattle.std.specs.List.{list_all}
use Rattle.std.specs.Str.{bytes_eq}
use Rattle.mc_lines.specs.FactText.{fact_text}
use Rattle.mc_lines.specs.FlowContext.{FlowContext}
use Rattle.mc_lines.specs.Lines.{FactValue, Line}
use Rattle.mc_lines.specs.Sentences.{filled, is_well_formed}

-- ---- a sentence

-- the text of the fact with this key; nothing if there is none
abbrev pub text_of_key : FlowContext → List (List ℕ × FactValue) → (key : List ℕ) → List ℕ
text_of_key context [] key = []
text_of_key context (fact ∷ facts) key = if bytes_eq fact.0 key then fact_text context fact.1
    else text_of_key context facts key

-- a sentence with the texts of these facts in place of their keys
abbrev pub sentence_text : FlowContext → List (List ℕ × FactValue) → (sentence : List ℕ) → List ℕ
sentence_text context facts sentence = filled (text_of_key context facts) sentence

-- whether each sentence of a line is well formed
abbrev pub has_well_formed_sentences : Line → Bool
has_well_formed_sentences line = list_all (is_well_formed line.facts) line.sentences

-- ---- a line as lines of text

-- a sentence as a line of text, after these spaces
abbrev pub indented_sentence : (indent : List ℕ) → FlowContext → List (List ℕ × FactValue)
    → (sentence : List ℕ) → List ℕ
indented_sentence indent context facts sentence = indent
    ++ (sentence_text context facts sentence ++ codes "\n")

-- the sentences of a line as lines of text, each after these spaces
abbrev pub indented_line : (indent : List ℕ) → FlowContext → Line → List ℕ
indented_line indent context line = flat_map (indented_sentence indent context line.facts) line.sentences

-- the sentences of a line as lines of text, each after two spaces
abbrev pub line_text : FlowContext → Line → List ℕ
line_text context line = indented_line (codes "  ") context line

-- the same after four spaces, where the line explains one that is itself indented
abbrev pub deeper_line_text : FlowContext → Line → List ℕ
deeper_line_text context line = indented_line (codes "    ") context line

-- ---- a line as one text, without the spaces

-- a sentence, with a line feed before it
abbrev pub sentence_after_feed : FlowContext → List (List ℕ × FactValue) → (sentence : List ℕ) → List ℕ
sentence_after_feed context facts sentence = codes "\n" ++ sentence_text context facts sentence

-- the sentences with line feeds between them
abbrev pub joined_sentences : FlowContext → List (List ℕ × FactValue) → List (List ℕ) → List ℕ
joined_sentences context facts [] = []
joined_sentences context facts (sentence ∷ others) =
    sentence_text context facts sentence ++ flat_map (sentence_after_feed context facts) others
