-- The lines of an audit about what hosts ask for and no flow answers: `asked`, `asked and <m> more` and
-- `asked services` (docs/FORMATS.md, "What hosts ask for and no flow answers").
use Rattle.std.specs.Prelude.{◌≡◌, ℕ, ◌-◌, ◌*◌, ◌^◌, ◌==◌, ◌&&◌, Bool, List, [], ◌∷◌, ◌++◌, codes}
use Rattle.std.specs.Prelude.{decimal, filter, if◌then◌else◌, length, map, unwrap_or, flat_map, take}
use Rattle.mc_text.specs.Addr.{dotted}
use Rattle.mc_text.specs.GroupRange.{has_group}
use Rattle.mc_topology.specs.Topology.{TopologyValue}
use Rattle.mc_shown.specs.ShownNames.{lans_text, more_text, routers_text}
use Rattle.mc_asked.specs.declared.forwarding.RouterState.{RouterState}
use Rattle.mc_asked.specs.ListWants.{Want, any_source}
use Rattle.mc_asked.specs.Services.{service_name}
use Rattle.mc_shown.specs.RoutersForWant.{RoutersForWant, routers_by_state, routers_value}
use Rattle.mc_shown.specs.RowText.{address_text}
use Rattle.mc_shown.specs.declared.asked.asked_text.AskedLine.{AskedLine}

-- ---- the parts of a line

-- an address, with a space before it
abbrev pub address_after_space : ℕ → List ℕ
address_after_space address = codes " " ++ dotted address

-- the first 8 of some addresses, and how many more there are
abbrev pub addresses_text : List ℕ → List ℕ
addresses_text addresses =
    flat_map address_after_space (take 8 addresses) ++ more_text (length addresses - 8)

-- these words and the names of the routers, or the other words if there are no routers
abbrev pub routers_or : TopologyValue → List ℕ → (words : List ℕ) → (otherwise : List ℕ) → List ℕ
routers_or topology [] words otherwise = otherwise
routers_or topology (router ∷ routers) words otherwise = words ++ routers_text topology (router ∷ routers)

-- who forwards what is wanted, or why nobody is known to: the routers with an entry that goes out to a LAN,
-- or else those with an entry that goes out to none, or else those with a (*,G) or (*,*) entry alone. What
-- excluded routers have isn't known.
abbrev pub forwarding_text : TopologyValue → (are_excluded : Bool) → RoutersForWant → List ℕ
forwarding_text topology are_excluded routers =
    routers_or topology routers.forwards (codes "forwarded by")
    (routers_or topology routers.none_out (codes "no outgoing LAN interface in")
    (routers_or topology routers.every_source (codes "no entry for it but (*,G) or (*,*) in")
    (if are_excluded then codes "no router with known tables forwards it"
    else codes "no router forwards it")))

-- the sources of the flows that have the group; each flow is given as its source and its group
abbrev pub listed_sources : (flows : List (ℕ × ℕ)) → (group : ℕ) → List ℕ
listed_sources flows group = map (λ pair. pair.0) (filter (λ pair. pair.1 == group) flows)

-- the listed sources of the want's group; nothing if there are none
abbrev pub listed_text : List ℕ → List ℕ
listed_text [] = []
listed_text (source ∷ sources) =
    codes "; listed for the group:" ++ addresses_text (source ∷ sources)

-- whether the want is of any source of a group in 232.0.0.0/8: these groups are for source-specific multicast
-- alone (RFC 4607, section 1), and routers ignore such a report (RFC 4604)
abbrev pub is_ignored_by_routers : Want → Bool
is_ignored_by_routers want = (want.1 == any_source) && has_group (232 * 2 ^ 24, 8) want.0

-- that routers ignore the want, if they do
abbrev pub ssm_text : Want → List ℕ
ssm_text want = if is_ignored_by_routers want then codes "; SSM: routers ignore it" else []

-- what is written of a want after its LANs: who forwards it, the listed sources of its group, and whether
-- routers ignore it
abbrev pub what_in : (forwarding : List ℕ) → (listed : List ℕ) → Want → List ℕ
what_in forwarding listed want = forwarding ++ (listed_text listed ++ ssm_text want)

-- the line of a want: its source and group, its LANs, and what is written after them
abbrev pub asked_line_text : TopologyValue → Want × List ℕ → (what : List ℕ) → List ℕ
asked_line_text topology line what =
    codes "asked " ++ (address_text line.0.1 ++ (codes " " ++ (dotted line.0.0
    ++ (codes " lans " ++ (decimal (length line.1) ++ (codes ":" ++ (lans_text topology line.1
    ++ (codes ": " ++ (what ++ codes "\n")))))))))

-- what is written after the LANs of a line that the audit has made
abbrev pub what_text : TopologyValue → AskedLine → List ℕ
what_text topology line = what_in (forwarding_text topology line.are_excluded
    (routers_value line.routers.now))
    line.listed.now line.want.now

-- a line that the audit has made
abbrev pub asked_text_of : TopologyValue → AskedLine → List ℕ
asked_text_of topology line = asked_line_text topology (line.want.now, line.lans.now)
    (what_text topology line)

-- the line of a want and its LANs, by the listed flows and by what each router has for the want
abbrev pub asked_text : TopologyValue → (are_excluded : Bool) → (flows : List (ℕ × ℕ)) → List RouterState
    → Want × List ℕ → List ℕ
asked_text topology are_excluded flows states line = asked_line_text topology line
    (what_in (forwarding_text topology are_excluded (routers_by_state states))
    (listed_sources flows line.0.0)
    line.0)

-- ---- the other lines

-- how many more wants of LANs there are; nothing for none
abbrev pub asked_more_text : ℕ → List ℕ
asked_more_text more = if more == 0 then [] else codes "asked and " ++ (decimal more ++ codes " more\n")

-- a group of a service, and the service's name
abbrev pub service_text : ℕ → List ℕ
service_text group = dotted group ++ (codes " " ++ unwrap_or (service_name group) [])

-- the group and the name of the service of a line, with a space before them
abbrev pub service_after_space : Want × List ℕ → List ℕ
service_after_space line = codes " " ++ service_text line.0.0

-- the first 8 services, and how many more there are
abbrev pub some_services_text : List (Want × List ℕ) → List ℕ
some_services_text lines = flat_map service_after_space (take 8 lines) ++ more_text (length lines - 8)

-- the line of the services; nothing if there are none
abbrev pub services_text : List (Want × List ℕ) → List ℕ
services_text [] = []
services_text (line ∷ lines) =
    codes "asked services " ++ (decimal (length (line ∷ lines)) ++ (codes ":"
    ++ (some_services_text (line ∷ lines) ++ codes "\n")))

-- ---- how the lines begin

-- the line begins with `asked `
abbrev pub IsAskedLine : List ℕ → Type 0
IsAskedLine line = (rest : List ℕ) × (line ≡ codes "asked " ++ rest)
