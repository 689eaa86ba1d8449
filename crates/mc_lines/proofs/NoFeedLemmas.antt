-- The text of a sentence has no line feed, if the sentence is well formed.
use Rattle.std.proofs.Common.{◌≡◌, ◌==◌, ℕ, Bool, true, false, List, [], ◌∷◌, refl, sym}
use Rattle.std.specs.Prelude.{not, codes, flat_map}
use Rattle.std.specs.List.{list_all}
use Rattle.std.specs.Str.{bytes_eq}
use Rattle.std.proofs.lemmas.Bool.{and_parts}
use Rattle.mc_text.proofs.ByteLemmas.{HasNoByte}
use Rattle.mc_topology.specs.Topology.{IsValidTopology}
use Rattle.mc_theory.specs.Nets.{Row as NetRow}
use Rattle.mc_theory.specs.Nets.Row.{Exact, Open, NoRow}
use Rattle.mc_shown.specs.RowText.{byte_text, is_plain}
use Rattle.mc_search.specs.TopologyLans.{interface_at}
use Rattle.mc_shown.proofs.LineFeedLemmas.{no_feed-append, no_feed-cond, no_feed-device_text}
use Rattle.mc_shown.proofs.LineFeedLemmas.{no_feed-escaped_byte, no_feed-every_source_text}
use Rattle.mc_shown.proofs.LineFeedLemmas.{no_feed-flat_map, no_feed-flow_row_text, no_feed-from_list_all}
use Rattle.mc_shown.proofs.LineFeedLemmas.{no_feed-incoming_text, no_feed-lan_name, no_feed-router_name}
use Rattle.mc_shown.proofs.LineFeedLemmas.{number}
use Rattle.mc_shown.proofs.NameListLemmas.{no_feed-routers_text}
use Rattle.mc_lines.specs.FactText.{fact_text, flag_text, incoming_number_text}
use Rattle.mc_lines.specs.Filled.{text_of_key}
use Rattle.mc_lines.specs.FlowContext.{FlowContext, flow_of, row_for_flow}
use Rattle.mc_lines.specs.Lines.{FactValue}
use Rattle.mc_lines.specs.Lines.FactValue.{Lan, Router, Device, Interface, IncomingDevice, IncomingVif, Row}
use Rattle.mc_lines.specs.Lines.FactValue.{EverySourceRow, Flag, Number, Routers}
use Rattle.mc_lines.specs.Sentences.{Piece, filled, is_byte_or_known_key, is_well_formed, piece_text, pieces}
use Rattle.mc_lines.specs.Sentences.Piece.{Byte, Key, Unclosed}

-- ---- facts

-- the number of a row's incoming vif
no_feed-incoming_number_text : (row : NetRow) → HasNoByte 10 (incoming_number_text row)
no_feed-incoming_number_text (Exact incoming pairs) = number incoming
no_feed-incoming_number_text Open = tt
no_feed-incoming_number_text NoRow = tt

-- a flag
no_feed-flag_text : (flag : Bool) → HasNoByte 10 (flag_text flag)
no_feed-flag_text true = no_feed-from_list_all (codes "true") refl
no_feed-flag_text false = no_feed-from_list_all (codes "false") refl

-- the text of a fact
no_feed-fact_text : (c : FlowContext) (fact : FactValue) → IsValidTopology c.domain.topology
    → HasNoByte 10 (fact_text c fact)
no_feed-fact_text c (Lan lan) ok = no_feed-lan_name c.domain.topology lan ok
no_feed-fact_text c (Router router) ok = no_feed-router_name c.domain.topology router ok
no_feed-fact_text c (Device router vif) ok = no_feed-device_text c.domain router vif
no_feed-fact_text c (Interface interface) ok =
    no_feed-flat_map byte_text (interface_at c.domain.topology interface).device
    (λ b. no_feed-escaped_byte b (is_plain b) refl)
no_feed-fact_text c (IncomingDevice router) ok = no_feed-incoming_text c.domain router (row_for_flow c router)
no_feed-fact_text c (IncomingVif router) ok = no_feed-incoming_number_text (row_for_flow c router)
no_feed-fact_text c (Row router) ok = no_feed-flow_row_text c.domain c.flow router ok
no_feed-fact_text c (EverySourceRow router) ok =
    no_feed-every_source_text c.domain c.summary (flow_of c).group router ok
no_feed-fact_text c (Flag flag) ok = no_feed-flag_text flag
no_feed-fact_text c (Number n) ok = number n
no_feed-fact_text c (Routers routers) ok = no_feed-routers_text c.domain.topology routers ok

-- the text of the fact with this key
pub no_feed-text_of_key : (c : FlowContext) (facts : List (List ℕ × FactValue)) (key : List ℕ)
    → IsValidTopology c.domain.topology → HasNoByte 10 (text_of_key c facts key)
no_feed-text_of_key c [] key ok = tt
no_feed-text_of_key c (f ∷ fs) key ok =
    no_feed-cond (bytes_eq f.0 key) _ _ (no_feed-fact_text c f.1 ok) (no_feed-text_of_key c fs key ok)

-- ---- sentences

-- what isn't true is false
not-is_false : (b : Bool) → not b ≡ true → b ≡ false
not-is_false true is = sym is
not-is_false false is = refl

-- a byte of words isn't a line feed, and a key's text has none
no_feed-piece_text : (text_of : List ℕ → List ℕ) (facts : List (List ℕ × FactValue)) (p : Piece)
    → ((key : List ℕ) → HasNoByte 10 (text_of key)) → is_byte_or_known_key facts p ≡ true
    → HasNoByte 10 (piece_text text_of p)
no_feed-piece_text text_of facts (Byte b) each good = (not-is_false (b == 10) good, tt)
no_feed-piece_text text_of facts (Key key) each good = each key
no_feed-piece_text text_of facts (Unclosed rest) each good = tt

-- so the text of such pieces has none
no_feed-pieces : (text_of : List ℕ → List ℕ) (facts : List (List ℕ × FactValue)) (ps : List Piece)
    → ((key : List ℕ) → HasNoByte 10 (text_of key)) → list_all (is_byte_or_known_key facts) ps ≡ true
    → HasNoByte 10 (flat_map (piece_text text_of) ps)
no_feed-pieces text_of facts [] each good = tt
no_feed-pieces text_of facts (p ∷ ps) each good =
    let parts = and_parts (is_byte_or_known_key facts p) (list_all (is_byte_or_known_key facts) ps) good in
    no_feed-append (piece_text text_of p) (flat_map (piece_text text_of) ps)
    (no_feed-piece_text text_of facts p each parts.0) (no_feed-pieces text_of facts ps each parts.1)

-- a well-formed sentence with its facts
pub no_feed-filled : (c : FlowContext) (facts : List (List ℕ × FactValue)) (s : List ℕ)
    → IsValidTopology c.domain.topology → is_well_formed facts s ≡ true
    → HasNoByte 10 (filled (text_of_key c facts) s)
no_feed-filled c facts s ok well =
    no_feed-pieces (text_of_key c facts) facts (pieces s) (λ key. no_feed-text_of_key c facts key ok) well
