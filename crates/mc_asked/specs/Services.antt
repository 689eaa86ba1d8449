-- The groups of services, which most hosts ask for by themselves (docs/FORMATS.md, "What hosts ask for and no
-- flow answers"; the names are those of IANA's IPv4 Multicast Address Space Registry).
use Rattle.std.specs.Prelude.{ℕ, ◌+◌, ◌*◌, ◌==◌, List, [], ◌∷◌, Option, option_map, codes, find}

-- the address with these four octets
abbrev address : ℕ → ℕ → ℕ → ℕ → ℕ
address a b c d = ((a * 256 + b) * 256 + c) * 256 + d

-- the groups of services, ascending, each with the name of its service
abbrev pub services : List (ℕ × List ℕ)
services =
    (address 224 0 1 1, codes "NTP") ∷ (address 224 0 1 22, codes "SLP")
    ∷ (address 224 0 1 24, codes "WINS") ∷ (address 224 0 1 35, codes "SLP")
    ∷ (address 224 0 1 39, codes "Auto-RP") ∷ (address 224 0 1 40, codes "Auto-RP")
    ∷ (address 224 0 1 60, codes "HP") ∷ (address 224 0 1 75, codes "SIP")
    ∷ (address 224 0 1 187, codes "CoAP") ∷ (address 224 0 23 12, codes "KNX")
    ∷ (address 224 2 127 254, codes "SAP") ∷ (address 239 195 255 255, codes "SAP")
    ∷ (address 239 255 255 250, codes "SSDP") ∷ (address 239 255 255 253, codes "SLP")
    ∷ (address 239 255 255 255, codes "SAP") ∷ []

-- the name of the service of a group, if it is a service's
abbrev pub service_name : ℕ → Option (List ℕ)
service_name group = option_map (λ service. service.1) (find (λ service. service.0 == group) services)
