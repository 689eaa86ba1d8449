-- The lines of the search for a missed LAN (docs/FORMATS.md, "The search"). In a sentence `{key}` refers to
-- the line's fact with that key; kinds and keys are those of an object of `why` in JSON.
use Rattle.std.specs.Prelude.{ℕ, Bool, true, false, List, [], ◌∷◌, ◌++◌, codes, flat_map}
use Rattle.mc_theory.specs.Nets.{Row as NetRow}
use Rattle.mc_forward.specs.ListedTables.{DomainFacts}
use Rattle.mc_forward.specs.UnplacedReasons.{unplaced_reason}
use Rattle.mc_forward.specs.declared.unplaced.UnplacedReason.{UnplacedReason}
use Rattle.mc_forward.specs.declared.unplaced.UnplacedReason.TheVariants.{NoVifLine, RegisterVif, Tunnel}
use Rattle.mc_forward.specs.declared.unplaced.UnplacedReason.TheVariants.{NoDevice, OnNoLan}
use Rattle.mc_search.specs.declared.search_line.SearchLine.{SearchLine}
use Rattle.mc_search.specs.declared.search_line.SearchLine.TheVariants.{Excluded}
use Rattle.mc_search.specs.declared.search_line.SearchLine.TheVariants.{NoVif, NotMulticast, NoRow}
use Rattle.mc_search.specs.declared.search_line.SearchLine.TheVariants.{Unresolved, EverySource}
use Rattle.mc_search.specs.declared.search_line.SearchLine.TheVariants.{FromUnplaced, DoesNotSend}
use Rattle.mc_search.specs.declared.search_line.SearchLine.TheVariants.{Stopped, WaitsFor}
use Rattle.mc_search.specs.declared.search_line.SearchLine.TheVariants.{ExpectedFromHere, NoRouter}
use Rattle.mc_search.specs.declared.search_line.SearchLine.TheVariants.{NoSender}
use Rattle.mc_search.specs.declared.shown_line.ShownLine.{ShownLine}
use Rattle.mc_search.specs.declared.shown_line.ShownLine.TheVariants.{One, Expected}
use Rattle.mc_shown.specs.RowText.{of_entry_or}
use Rattle.mc_search.specs.ShownLines.{shown_lines}
use Rattle.mc_lines.specs.FlowContext.{FlowContext, row_for_flow}
use Rattle.mc_lines.specs.Lines.{Line, line}
use Rattle.mc_lines.specs.Lines.FactValue.{Lan, Router, Device, Interface, IncomingDevice, IncomingVif, Row}
use Rattle.mc_lines.specs.Lines.FactValue.{EverySourceRow, Flag, Number, Routers}

-- ---- lines of one sentence, by what they are about

-- a line about a LAN
abbrev pub lan_line : (kind sentence : List ℕ) → (lan : ℕ) → Line
lan_line kind sentence lan = line kind (sentence ∷ []) ((codes "lan", Lan lan) ∷ [])

-- a line about a router that has an interface on a LAN
abbrev pub router_line : (kind sentence : List ℕ) → (lan router : ℕ) → Line
router_line kind sentence lan router =
    line kind (sentence ∷ []) ((codes "lan", Lan lan) ∷ (codes "router", Router router) ∷ [])

-- a line about an interface that the topology has on a LAN, and its router
abbrev pub interface_line : (kind sentence : List ℕ) → (lan router interface : ℕ) → Line
interface_line kind sentence lan router interface = line kind (sentence ∷ [])
    ((codes "device", Interface interface)
    ∷ (codes "lan", Lan lan)
    ∷ (codes "router", Router router) ∷ [])

-- ---- sentences that depend on what is the case

-- why the incoming vif of a router's row is placed on no LAN; `OnNoLan` for a row without one, which has no
-- such line
abbrev pub incoming_reason : DomainFacts → (router : ℕ) → NetRow → UnplacedReason
incoming_reason domain router row =
    of_entry_or OnNoLan (λ incoming pairs. unplaced_reason (domain.vifs router incoming)) row

-- the kind and the sentence of the line for this reason
abbrev pub incoming_words : UnplacedReason → List ℕ × List ℕ
incoming_words NoVifLine = (
  codes "from_no_vif_line",
  codes "{lan}: {router} expects it from {from_device}, which has no line in vif-{router}: {row}",
)
incoming_words RegisterVif = (
  codes "from_register",
  codes "{lan}: {router} expects it from {from_device}, PIM's register vif: {row}",
)
incoming_words Tunnel = (
  codes "from_tunnel",
  codes "{lan}: {router} expects it from {from_device}, a DVMRP tunnel: {row}",
)
incoming_words NoDevice = (
  codes "from_no_device",
  codes "{lan}: {router} expects it from {from_device}, which has lost its device: {row}",
)
incoming_words OnNoLan = (
  codes "from_no_lan",
  codes "{lan}: {router} expects it from {from_device}, which is on no listed LAN: {row}",
)

-- the line of a row whose incoming vif is placed on no LAN
abbrev pub from_unplaced_line : UnplacedReason → (lan router : ℕ) → Line
from_unplaced_line reason lan router = line (incoming_words reason).0 ((incoming_words reason).1 ∷ [])
    ((codes "from_device", IncomingDevice router)
    ∷ (codes "from_vif", IncomingVif router)
    ∷ (codes "lan", Lan lan)
    ∷ (codes "router", Router router)
    ∷ (codes "row", Row router) ∷ [])

-- the sentence of a row that doesn't send onto the LAN, by whether the LAN that it takes from carried a copy
abbrev pub missing_sentence : (carried : Bool) → List ℕ
missing_sentence true =
    codes "{lan}: {router} receives it from {from_lan} and does not forward it to {device}: {row}"
missing_sentence false =
    codes "{lan}: {router} expects it from {from_lan}, which by the known tables does not carry it "
    ++ codes "either, and does not forward it to {device}: {row}"

-- ---- the line of each case

-- the line of the routers that expect copies from a LAN
abbrev pub expected_line : (lan : ℕ) → (routers : List ℕ) → Line
expected_line lan routers = line (codes "expected_from_here")
    (codes "{lan}: expected from here by{routers}" ∷ [])
    ((codes "lan", Lan lan) ∷ (codes "routers", Routers routers) ∷ [])

-- the line of a search, with its sentence and its facts
abbrev pub search_line : FlowContext → SearchLine → Line
search_line context (Excluded lan router) = router_line (codes "left_out")
    (codes "{lan}: {router} is excluded: its tables are unknown") lan router
search_line context (NoVif lan router interface) = interface_line (codes "no_vif")
    (codes "{lan}: {router} has no vif for {device}") lan router interface
search_line context (NotMulticast lan router interface) = interface_line (codes "not_multicast")
    (codes "{lan}: {router} uses {device} as a DVMRP tunnel or register vif") lan router interface
search_line context (NoRow lan router) =
    router_line (codes "no_row") (codes "{lan}: {router} has no entry for this flow") lan router
search_line context (Unresolved lan router) = router_line (codes "unresolved")
    (codes "{lan}: {router} has only an unresolved entry: its routing daemon "
    ++ codes "has not answered yet") lan router
search_line context (EverySource lan router) = line (codes "every_source")
    ((codes "{lan}: {router} has no resolved (S,G) entry for this flow, but one for every source, "
    ++ codes "which is not audited: {row}") ∷ [])
    ((codes "lan", Lan lan) ∷ (codes "router", Router router) ∷ (codes "row", EverySourceRow router) ∷ [])
search_line context (FromUnplaced lan router) =
    from_unplaced_line (incoming_reason context.domain router (row_for_flow context router)) lan router
search_line context (DoesNotSend lan router vif from carried) = line (codes "does_not_send")
    (missing_sentence carried ∷ [])
    ((codes "carried", Flag carried)
    ∷ (codes "device", Device router vif)
    ∷ (codes "from_lan", Lan from)
    ∷ (codes "lan", Lan lan)
    ∷ (codes "router", Router router)
    ∷ (codes "row", Row router)
    ∷ (codes "vif", Number vif) ∷ [])
search_line context (Stopped lan router vif threshold ttl) = line (codes "stopped")
    (codes "{lan}: {router} is stopped at {device}: ttl {ttl} is not above threshold {threshold}" ∷ [])
    ((codes "device", Device router vif)
    ∷ (codes "lan", Lan lan)
    ∷ (codes "router", Router router)
    ∷ (codes "row", Row router)
    ∷ (codes "threshold", Number threshold)
    ∷ (codes "ttl", Number ttl)
    ∷ (codes "vif", Number vif) ∷ [])
search_line context (WaitsFor lan router vif from) = line (codes "waits_for")
    (codes "{lan}: {router} expects it from {from_lan} at {from_device}: {row}" ∷ [])
    ((codes "device", Device router vif)
    ∷ (codes "from_device", IncomingDevice router)
    ∷ (codes "from_lan", Lan from)
    ∷ (codes "from_vif", IncomingVif router)
    ∷ (codes "lan", Lan lan)
    ∷ (codes "router", Router router)
    ∷ (codes "row", Row router)
    ∷ (codes "vif", Number vif) ∷ [])
search_line context (ExpectedFromHere lan router) = expected_line lan (router ∷ [])
search_line context (NoRouter lan) =
    lan_line (codes "no_router") (codes "{lan}: no router is on this LAN") lan
search_line context (NoSender lan) =
    lan_line (codes "no_sender") (codes "{lan}: no entry for this flow forwards onto it") lan

-- a line of a search as it is shown, with its sentence and its facts
abbrev pub shown_line : FlowContext → ShownLine → Line
shown_line context (One line) = search_line context line
shown_line context (Expected lan routers) = expected_line lan routers

-- ---- how far the packet came

-- the sentence about the routers that sent copies on; none if there are none
abbrev pub sent_on_sentences : (sent_on : List ℕ) → List (List ℕ)
sent_on_sentences [] = []
sent_on_sentences (router ∷ routers) = codes "reaches:{routers}" ∷ []

-- the sentence about the routers that took none; if there are none of these, and none that sent copies on,
-- the one that no router receives the packet
abbrev pub took_none_sentences : (sent_on took_none : List ℕ) → List (List ℕ)
took_none_sentences sent_on (router ∷ routers) = codes "reaches, and is taken by no entry of:{routers}" ∷ []
took_none_sentences [] [] = codes "by the known tables no router of this search receives it" ∷ []
took_none_sentences (s ∷ ss) [] = []

-- a line about routers
abbrev pub routers_line : (kind : List ℕ) → (sentences : List (List ℕ)) → (routers : List ℕ) → Line
routers_line kind sentences routers = line kind sentences ((codes "routers", Routers routers) ∷ [])

-- the two lines that say how far the packet came
abbrev pub reach_lines : (sent_on took_none : List ℕ) → List Line
reach_lines sent_on took_none =
    routers_line (codes "gets_as_far_as") (sent_on_sentences sent_on) sent_on
    ∷ routers_line (codes "not_taken") (took_none_sentences sent_on took_none) took_none ∷ []

-- ---- what is made of a search, as text or JSON: `items_of` says what is made of a line

-- what is made of a shown line
abbrev pub shown_items : {A : Type 0} → (FlowContext → Line → List A) → FlowContext → ShownLine → List A
shown_items items_of context l = items_of context (shown_line context l)

-- what is made of all lines of a search, as they are shown
abbrev pub search_items : {A : Type 0} → (FlowContext → Line → List A) → FlowContext → List SearchLine
    → List A
search_items items_of context lines = flat_map (shown_items items_of context) (shown_lines lines)

-- what is made of the lines that say how far the packet came
abbrev pub reach_items : {A : Type 0} → (FlowContext → Line → List A) → FlowContext
    → (sent_on took_none : List ℕ) → List A
reach_items items_of context sent_on took_none = flat_map (items_of context) (reach_lines sent_on took_none)
