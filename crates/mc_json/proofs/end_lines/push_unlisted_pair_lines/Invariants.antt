use Rattle.std.proofs.Common.{◌≡◌, ◌++◌, flat_map, take}
use Rattle.std.specs.String.{string_bytes}
use Rattle.mc_json.specs.EndData.{unlisted_line}
use Rattle.mc_json.proofs.end_lines.push_unlisted_pair_lines.Given as goal

-- the pairs so far
abbrev pub invariant-loop-pair : goal.invariant-loop-pair
invariant-loop-pair l =
    string_bytes l.text ≡ string_bytes l.initial.text
    ++ flat_map (unlisted_line l.topology) (take l.pair-index l.shown)
