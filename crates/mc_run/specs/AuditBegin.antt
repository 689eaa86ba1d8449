-- The lines of an audit before those of the flows (docs/FORMATS.md, the section "The program"): in JSON the
-- domain and the words of the options, and as text nothing.
use Rattle.std.specs.Prelude.{ℕ, ◌+◌, Bool, List, [], ◌∷◌, ◌++◌, flat_map, length, map, if◌then◌else◌}
use Rattle.std.specs.List.{list_any}
use Rattle.std.specs.Str.{bytes_eq}
use Rattle.mc_topology.specs.Topology.{TopologyValue, router_name}
use Rattle.mc_theory.specs.Lists.{below}
use Rattle.mc_forward.specs.ListedTables.{DomainFacts}
use Rattle.mc_shown.specs.ExcludedText.{excluded_routers}
use Rattle.mc_json.specs.DomainData.{domain_data}
use Rattle.mc_json.specs.RowData.{line_of}
use Rattle.mc_cli.specs.AuditOptionWords.{faults_word, json_word, strict_word, travel_word, unlisted_word}
use Rattle.mc_cli.specs.AuditOptionWords.{ignore_word, without_word}
use Rattle.mc_text.specs.GroupRange.{range_text}
use Rattle.mc_cli.specs.declared.audit_options.AuditOptions.{AuditOptions}

-- ---- excluded routers

-- whether the name is one of these
abbrev pub is_among : (names : List (List ℕ)) → (name : List ℕ) → Bool
is_among names name = list_any (λ other. bytes_eq other name) names

-- a mark for each router, in order: whether it has one of the names
abbrev pub excluded_marks : TopologyValue → (names : List (List ℕ)) → List Bool
excluded_marks topology names = map (λ r. is_among names (router_name topology r))
    (below (length topology.routers))

-- ---- before the lines of the flows

-- the word of an option, if that is asked for
abbrev pub word_if_asked : Bool → (word : List ℕ) → List (List ℕ)
word_if_asked asked word = if asked then word ∷ [] else []

-- the words that exclude a router
abbrev pub without_words : TopologyValue → (router : ℕ) → List (List ℕ)
without_words topology router = without_word ∷ router_name topology router ∷ []

-- the words that ignore a range of groups
abbrev pub ignore_words : (range : ℕ × ℕ) → List (List ℕ)
ignore_words range = ignore_word ∷ range_text range ∷ []

-- the words of these options, then those that exclude the marked routers, and those that ignore the ranges of
-- groups
abbrev pub option_words : AuditOptions → TopologyValue → (excluded : List Bool) → (ignored : List (ℕ × ℕ))
    → List (List ℕ)
option_words options topology excluded ignored =
    word_if_asked options.travels travel_word
    ++ (word_if_asked options.faults faults_word
    ++ (word_if_asked options.unlisted unlisted_word
    ++ (word_if_asked options.strict strict_word
    ++ (word_if_asked options.json json_word
    ++ (flat_map (without_words topology) (excluded_routers topology excluded)
    ++ flat_map ignore_words ignored)))))

-- in JSON the line of the domain and of the options' words; as text nothing
abbrev pub begin_lines : AuditOptions → DomainFacts → (excluded : List Bool) → (ignored : List (ℕ × ℕ))
    → List ℕ
begin_lines options domain excluded ignored =
    if options.json then line_of (domain_data domain
    (option_words options domain.topology excluded ignored)) else []
