use Rattle.std.proofs.Common.{◌≡◌, map, take}
use Rattle.std.specs.String.{string_bytes}
use Rattle.serde_json.specs.Data.{string}
use Rattle.serde_json.specs.View.{view as data_of}
use Rattle.mc_json.proofs.domain_line.word_values.Given as goal

-- the words so far
abbrev pub invariant-loop-word : goal.invariant-loop-word
invariant-loop-word l =
    map data_of l.values.items ≡ map string (map string_bytes (take l.word-index l.words))
