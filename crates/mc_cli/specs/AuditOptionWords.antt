-- The words of the options of `audit` (docs/FORMATS.md, the section "The program").
use Rattle.std.specs.Prelude.{ℕ, List, codes}

-- the option that prints the events of each finding's travel
abbrev pub travel_word : List ℕ
travel_word = codes "--travel"

-- the option that leaves out the lines of right flows that are wanted
abbrev pub faults_word : List ℕ
faults_word = codes "--faults"

-- the option that shows all sources and groups of no listed flow, and all wants that no flow answers
abbrev pub unlisted_word : List ℕ
unlisted_word = codes "--unlisted"

-- the option by which a yes isn't enough where a flow is wanted by no LAN, or a want isn't answered
abbrev pub strict_word : List ℕ
strict_word = codes "--strict"

-- the option that writes JSON
abbrev pub json_word : List ℕ
json_word = codes "--json"

-- the option whose value is an excluded router
abbrev pub without_word : List ℕ
without_word = codes "--without"

-- the option whose value is an ignored range of groups
abbrev pub ignore_word : List ℕ
ignore_word = codes "--ignore"
