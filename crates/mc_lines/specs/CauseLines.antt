-- The lines of each cause of a fault (docs/FORMATS.md, "The explanation of a finding"). In a sentence `{key}`
-- refers to the line's fact with that key; kinds and keys are those of an object of `why` in JSON.
use Rattle.std.specs.Prelude.{ℕ, nat_le, Bool, true, false, List, [], ◌∷◌, ◌++◌, codes, flat_map}
use Rattle.mc_forward.specs.UnplacedReasons.{unplaced_reason}
use Rattle.mc_forward.specs.declared.unplaced.UnplacedReason.{UnplacedReason}
use Rattle.mc_forward.specs.declared.unplaced.UnplacedReason.TheVariants.{NoVifLine, RegisterVif, Tunnel}
use Rattle.mc_forward.specs.declared.unplaced.UnplacedReason.TheVariants.{NoDevice, OnNoLan}
use Rattle.mc_explain.specs.declared.causes.Cause.{Cause}
use Rattle.mc_explain.specs.declared.causes.Cause.TheVariants.{SentOnto, Circle, TakeOut, Unplaced}
use Rattle.mc_explain.specs.declared.causes.Cause.TheVariants.{LeastTtl, OnlyEverySource, StoppedAt}
use Rattle.mc_lines.specs.FlowContext.{FlowContext, flow_of}
use Rattle.mc_lines.specs.Lines.{Line, line}
use Rattle.mc_lines.specs.Lines.FactValue.{Lan, Router, Device, IncomingDevice, IncomingVif, Row}
use Rattle.mc_lines.specs.Lines.FactValue.{EverySourceRow, Number}

-- ---- sentences that depend on what is the case

-- the sentence of a remedy. `reached` is true where the flow's TTL is at least the least one with which the
-- LAN is reached without the vif: then the remedy costs packets of the flow nothing.
abbrev pub remedy_sentence : (reached : Bool) → List ℕ
remedy_sentence true =
    codes "fix: remove {device} from this entry of {router}; every LAN reached now is still reached"
remedy_sentence false =
    codes "fix: remove {device} from this entry of {router}; packets sent with less than ttl {least} "
    ++ codes "may then not reach {lan} and LANs behind it, and this flow is listed with ttl {ttl}"

-- the line of a remedy: the vif to remove from its router's entry, of a flow with this TTL
abbrev pub take_out_line : (reached : Bool) → (lan router vif least ttl : ℕ) → Line
take_out_line reached lan router vif least ttl = line (codes "take_out")
    (remedy_sentence reached ∷ codes "then audit again" ∷ [])
    ((codes "device", Device router vif)
    ∷ (codes "lan", Lan lan)
    ∷ (codes "least", Number least)
    ∷ (codes "router", Router router)
    ∷ (codes "ttl", Number ttl)
    ∷ (codes "vif", Number vif) ∷ [])

-- why a vif is placed on no LAN: the kind and the sentence of the line
abbrev pub unplaced_words : UnplacedReason → List ℕ × List ℕ
unplaced_words NoVifLine =
    (codes "no_vif_line", codes "{device} of {router} has no line in vif-{router}")
unplaced_words RegisterVif = (
  codes "register_vif",
  codes "{device} of {router} is PIM's register vif: copies go to the rendezvous point until "
      ++ (codes "its Register-Stop arrives; if it persists, check why none arrives, and whether "
      ++ codes "{router} is the rendezvous point itself"),
)
unplaced_words Tunnel = (codes "tunnel", codes "{device} of {router} is a DVMRP tunnel")
unplaced_words NoDevice = (codes "no_device", codes "{device} of {router} has lost its device")
unplaced_words OnNoLan = (codes "on_no_lan", codes "{device} of {router} is on no listed LAN")

-- the line of a vif that is placed on no LAN
abbrev pub unplaced_line : UnplacedReason → (router vif : ℕ) → Line
unplaced_line reason router vif = line (unplaced_words reason).0 ((unplaced_words reason).1 ∷ [])
    ((codes "device", Device router vif)
    ∷ (codes "router", Router router)
    ∷ (codes "vif", Number vif) ∷ [])

-- ---- the lines of one cause

-- the lines of a cause of a flow's fault
abbrev pub cause_lines : FlowContext → Cause → List Line
cause_lines context (SentOnto lan router vif) = line (codes "sent_onto")
    (codes "forwarded onto {lan} by {router} {device}: {row}" ∷ [])
    ((codes "device", Device router vif)
    ∷ (codes "lan", Lan lan)
    ∷ (codes "router", Router router)
    ∷ (codes "row", Row router)
    ∷ (codes "vif", Number vif) ∷ []) ∷ []
cause_lines context (Circle from onto router vif) = line (codes "circle")
    (codes "{from_lan} to {to_lan} through {router}, {from_device} to {to_device}: {row}" ∷ [])
    ((codes "from_device", IncomingDevice router)
    ∷ (codes "from_lan", Lan from)
    ∷ (codes "from_vif", IncomingVif router)
    ∷ (codes "router", Router router)
    ∷ (codes "row", Row router)
    ∷ (codes "to_device", Device router vif)
    ∷ (codes "to_lan", Lan onto)
    ∷ (codes "to_vif", Number vif) ∷ []) ∷ []
cause_lines context (TakeOut lan router vif least) =
    take_out_line (nat_le least (flow_of context).ttl) lan router vif least (flow_of context).ttl ∷ []
cause_lines context (Unplaced router vif) =
    unplaced_line (unplaced_reason (context.domain.vifs router vif)) router vif
    ∷ line (codes "row") (codes "{row}" ∷ []) ((codes "row", Row router) ∷ []) ∷ []
cause_lines context (OnlyEverySource router vif) = line (codes "only_every_source")
    ((codes "a copy arrives at {router} {device}, which has no resolved (S,G) entry for it, but one "
    ++ codes "for every source: {row}")
    ∷ codes "this may be healthy: mcaudit audits (S,G) trees only" ∷ [])
    ((codes "device", Device router vif)
    ∷ (codes "router", Router router)
    ∷ (codes "row", EverySourceRow router)
    ∷ (codes "vif", Number vif) ∷ []) ∷ []
cause_lines context (LeastTtl lan least) = line (codes "least_ttl")
    ((codes "{lan} is reached by packets sent with ttl {least} or more; "
    ++ codes "this flow is listed with ttl {ttl}") ∷ [])
    ((codes "lan", Lan lan)
    ∷ (codes "least", Number least)
    ∷ (codes "ttl", Number (flow_of context).ttl) ∷ []) ∷ []
cause_lines context (StoppedAt router vif threshold ttl) = line (codes "stopped_at")
    (codes "stopped at {router} {device}: ttl {ttl} is not above threshold {threshold}" ∷ [])
    ((codes "device", Device router vif)
    ∷ (codes "router", Router router)
    ∷ (codes "threshold", Number threshold)
    ∷ (codes "ttl", Number ttl)
    ∷ (codes "vif", Number vif) ∷ []) ∷ []

-- ---- what is made of causes, as text or JSON: `items_of` says what is made of a line

-- what is made of the lines of one cause
abbrev pub cause_items : {A : Type 0} → (FlowContext → Line → List A) → FlowContext → Cause → List A
cause_items items_of context cause = flat_map (items_of context) (cause_lines context cause)

-- what is made of the lines of these causes, in order
abbrev pub causes_items : {A : Type 0} → (FlowContext → Line → List A) → FlowContext → List Cause → List A
causes_items items_of context causes = flat_map (cause_items items_of context) causes
