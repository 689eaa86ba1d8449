-- The sentences of each kind of line are well formed.
use Rattle.std.proofs.Common.{◌≡◌, ℕ, Bool, true, false, List, [], ◌∷◌, refl}
use Rattle.std.specs.Prelude.{nat_le}
use Rattle.std.specs.List.{list_all}
use Rattle.mc_forward.specs.UnplacedReasons.{unplaced_reason}
use Rattle.mc_forward.specs.declared.unplaced.UnplacedReason.{UnplacedReason}
use Rattle.mc_forward.specs.declared.unplaced.UnplacedReason.TheVariants.{NoVifLine, RegisterVif, Tunnel}
use Rattle.mc_forward.specs.declared.unplaced.UnplacedReason.TheVariants.{NoDevice, OnNoLan}
use Rattle.mc_explain.specs.declared.causes.Cause.{Cause}
use Rattle.mc_explain.specs.declared.causes.Cause.TheVariants.{SentOnto, Circle, TakeOut, Unplaced}
use Rattle.mc_explain.specs.declared.causes.Cause.TheVariants.{LeastTtl, OnlyEverySource, StoppedAt}
use Rattle.mc_search.specs.declared.search_line.SearchLine.{SearchLine}
use Rattle.mc_search.specs.declared.search_line.SearchLine.TheVariants.{Excluded}
use Rattle.mc_search.specs.declared.search_line.SearchLine.TheVariants.{NoVif, NotMulticast, NoRow}
use Rattle.mc_search.specs.declared.search_line.SearchLine.TheVariants.{Unresolved, EverySource}
use Rattle.mc_search.specs.declared.search_line.SearchLine.TheVariants.{FromUnplaced, DoesNotSend}
use Rattle.mc_search.specs.declared.search_line.SearchLine.TheVariants.{Stopped, WaitsFor}
use Rattle.mc_search.specs.declared.search_line.SearchLine.TheVariants.{ExpectedFromHere, NoRouter}
use Rattle.mc_search.specs.declared.search_line.SearchLine.TheVariants.{NoSender}
use Rattle.mc_search.specs.declared.shown_line.ShownLine.{ShownLine}
use Rattle.mc_search.specs.declared.shown_line.ShownLine.TheVariants.{One, Expected}
use Rattle.mc_lines.specs.CauseLines.{cause_lines, take_out_line, unplaced_line}
use Rattle.mc_lines.specs.Filled.{has_well_formed_sentences}
use Rattle.mc_lines.specs.FlowContext.{FlowContext, flow_of, row_for_flow}
use Rattle.mc_lines.specs.SearchLines.{from_unplaced_line, incoming_reason, reach_lines, search_line}
use Rattle.mc_lines.specs.SearchLines.{shown_line}

-- ---- causes

-- the line of a remedy
well_formed-take_out_line : (reached : Bool) (lan router vif least ttl : ℕ)
    → has_well_formed_sentences (take_out_line reached lan router vif least ttl) ≡ true
well_formed-take_out_line true lan router vif least ttl = refl
well_formed-take_out_line false lan router vif least ttl = refl

-- the line of a vif that is placed on no LAN
well_formed-unplaced_line : (reason : UnplacedReason) (router vif : ℕ)
    → has_well_formed_sentences (unplaced_line reason router vif) ≡ true
well_formed-unplaced_line NoVifLine router vif = refl
well_formed-unplaced_line RegisterVif router vif = refl
well_formed-unplaced_line Tunnel router vif = refl
well_formed-unplaced_line NoDevice router vif = refl
well_formed-unplaced_line OnNoLan router vif = refl

-- the lines of each cause
pub well_formed-cause_lines : (c : FlowContext) (cause : Cause)
    → list_all has_well_formed_sentences (cause_lines c cause) ≡ true
well_formed-cause_lines c (SentOnto lan router vif) = refl
well_formed-cause_lines c (Circle from onto router vif) = refl
well_formed-cause_lines c (TakeOut lan router vif least) =
    let ttl = (flow_of c).ttl in
    rw (well_formed-take_out_line (nat_le least ttl) lan router vif least ttl) refl
well_formed-cause_lines c (Unplaced router vif) =
    rw (well_formed-unplaced_line (unplaced_reason (c.domain.vifs router vif)) router vif) refl
well_formed-cause_lines c (LeastTtl lan least) = refl
well_formed-cause_lines c (OnlyEverySource router vif) = refl
well_formed-cause_lines c (StoppedAt router vif threshold ttl) = refl

-- ---- a search

-- the line of a router whose incoming vif is placed on no LAN
well_formed-from_unplaced_line : (reason : UnplacedReason) (lan router : ℕ)
    → has_well_formed_sentences (from_unplaced_line reason lan router) ≡ true
well_formed-from_unplaced_line NoVifLine lan router = refl
well_formed-from_unplaced_line RegisterVif lan router = refl
well_formed-from_unplaced_line Tunnel lan router = refl
well_formed-from_unplaced_line NoDevice lan router = refl
well_formed-from_unplaced_line OnNoLan lan router = refl

-- each line of a search
well_formed-search_line : (c : FlowContext) (l : SearchLine)
    → has_well_formed_sentences (search_line c l) ≡ true
well_formed-search_line c (Excluded lan router) = refl
well_formed-search_line c (NoVif lan router interface) = refl
well_formed-search_line c (NotMulticast lan router interface) = refl
well_formed-search_line c (NoRow lan router) = refl
well_formed-search_line c (Unresolved lan router) = refl
well_formed-search_line c (EverySource lan router) = refl
well_formed-search_line c (FromUnplaced lan router) =
    well_formed-from_unplaced_line (incoming_reason c.domain router (row_for_flow c router)) lan router
well_formed-search_line c (DoesNotSend lan router vif from true) = refl
well_formed-search_line c (DoesNotSend lan router vif from false) = refl
well_formed-search_line c (Stopped lan router vif threshold ttl) = refl
well_formed-search_line c (WaitsFor lan router vif from) = refl
well_formed-search_line c (ExpectedFromHere lan router) = refl
well_formed-search_line c (NoRouter lan) = refl
well_formed-search_line c (NoSender lan) = refl

-- each line that is shown
pub well_formed-shown_line : (c : FlowContext) (l : ShownLine)
    → has_well_formed_sentences (shown_line c l) ≡ true
well_formed-shown_line c (One l) = well_formed-search_line c l
well_formed-shown_line c (Expected lan routers) = refl

-- the lines on the routers that sent on, and on those that took none
pub well_formed-reach_lines : (sent_on took_none : List ℕ)
    → list_all has_well_formed_sentences (reach_lines sent_on took_none) ≡ true
well_formed-reach_lines [] [] = refl
well_formed-reach_lines [] (r ∷ rs) = refl
well_formed-reach_lines (s ∷ ss) [] = refl
well_formed-reach_lines (s ∷ ss) (r ∷ rs) = refl
