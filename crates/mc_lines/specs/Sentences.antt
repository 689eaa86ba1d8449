-- A sentence of a line (Lines), such as `{lan}: {router} has no vif for {device}`: words, and keys of facts
-- in braces.
use Rattle.std.specs.Prelude.{ℕ, ◌==◌, not, Bool, true, false, List, [], ◌∷◌, ◌++◌, codes, flat_map}
use Rattle.std.specs.Prelude.{if◌then◌else◌}
use Rattle.std.specs.List.{list_all}
use Rattle.std.specs.Str.{bytes_eq}
use Rattle.mc_lines.specs.Lines.{FactValue}

-- ---- the pieces of a sentence

-- A piece of a sentence.
pub data Piece : Type 0 where
  -- a byte of its words
  Byte : (byte : ℕ) → Piece
  -- `{key}`
  Key : (key : List ℕ) → Piece
  -- `{` and all that follows, where no `}` does
  Unclosed : (rest : List ℕ) → Piece

-- what is written for a piece in the sentence
abbrev pub piece_spelling : Piece → List ℕ
piece_spelling (Byte byte) = byte ∷ []
piece_spelling (Key key) = codes "{" ++ (key ++ codes "}")
piece_spelling (Unclosed rest) = codes "{" ++ rest

-- the pieces of a sentence; 123 is `{`, and 125 is `}`
abbrev mutual
  pub pieces : (sentence : List ℕ) → List Piece
  pieces [] = []
  pieces (byte ∷ rest) = if byte == 123 then pieces_from_key [] rest else (Byte byte ∷ pieces rest)

  -- the pieces from within a key on, of which these bytes came before
  pub pieces_from_key : (key sentence : List ℕ) → List Piece
  pieces_from_key key [] = Unclosed key ∷ []
  pieces_from_key key (byte ∷ rest) =
      if byte == 125 then (Key key ∷ pieces rest) else pieces_from_key (key ++ byte ∷ []) rest

-- ---- its text

-- the text of a piece: a byte of words as it is, and in place of a key its text
abbrev pub piece_text : (text_of : List ℕ → List ℕ) → Piece → List ℕ
piece_text text_of (Byte byte) = byte ∷ []
piece_text text_of (Key key) = text_of key
piece_text text_of (Unclosed rest) = []

-- a sentence with the text of each key in its place
abbrev pub filled : (text_of : List ℕ → List ℕ) → (sentence : List ℕ) → List ℕ
filled text_of sentence = flat_map (piece_text text_of) (pieces sentence)

-- ---- sentences that are well formed

-- whether one of the facts has this key
abbrev pub has_key : List (List ℕ × FactValue) → (key : List ℕ) → Bool
has_key [] key = false
has_key (fact ∷ facts) key = if bytes_eq fact.0 key then true else has_key facts key

-- whether a piece is a byte other than a line feed, which is 10, or the key of a fact
abbrev pub is_byte_or_known_key : List (List ℕ × FactValue) → Piece → Bool
is_byte_or_known_key facts (Byte byte) = not (byte == 10)
is_byte_or_known_key facts (Key key) = has_key facts key
is_byte_or_known_key facts (Unclosed rest) = false

-- whether each piece of a sentence is so: its words are of one line, each brace is closed, and each key is
-- that of a fact
abbrev pub is_well_formed : List (List ℕ × FactValue) → (sentence : List ℕ) → Bool
is_well_formed facts sentence = list_all (is_byte_or_known_key facts) (pieces sentence)
