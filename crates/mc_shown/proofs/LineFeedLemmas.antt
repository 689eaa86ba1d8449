-- Texts without a line feed: numbers, addresses, names, the devices of vifs, and rows.
use Rattle.std.proofs.Common.{◌≡◌, ℕ, zero, suc, ◌+◌, ◌/◌, ◌%◌, Bool, true, false}
use Rattle.std.proofs.Common.{cond, eqb, List, [], ◌∷◌, ◌++◌, Option, Some, None, flat_map}
use Rattle.std.proofs.Common.{refl, sym, ap, ◌∙◌, arith}
use Rattle.std.specs.Prelude.{◌==◌, not, nat_le, nat_lt, codes, decimal, IsTrue, slice_get}
use Rattle.std.specs.Prelude.{unwrap_or, option_map}
use Rattle.std.specs.Fmt.{digits, digits_onto, digit_glyph}
use Rattle.std.specs.List.{list_all}
use Rattle.std.proofs.lemmas.Bool.{and_parts, false≢true, ne_eqb}
use Rattle.mc_text.specs.Addr.{dotted}
use Rattle.mc_text.proofs.ByteLemmas.{HasNoByte, HasNoByte-append, HasNoByte-from_list_all}
use Rattle.mc_tables.specs.CacheTable.{EntryValue}
use Rattle.mc_tables.specs.Summary.{SummaryValue}
use Rattle.mc_tables.specs.VifTable.{VifValue, has_device}
use Rattle.mc_topology.specs.declared.flow.Flow.{Flow}
use Rattle.mc_topology.specs.Names.{is_name, is_name_byte}
use Rattle.mc_topology.specs.SectionRows.{RouterRow}
use Rattle.mc_topology.specs.Topology.{TopologyValue, IsValidTopology, flow_at, lan_name, router_name}
use Rattle.mc_theory.specs.Nets.{Row}
use Rattle.mc_theory.specs.Nets.Row.{Exact, Open, NoRow}
use Rattle.mc_forward.specs.Domains.{oif_pairs}
use Rattle.mc_forward.specs.ListedTables.{DomainFacts}
use Rattle.mc_search.specs.SearchLine.{every_source_of}
use Rattle.mc_shown.specs.EverySourceText.{every_source_text, every_source_row_text}
use Rattle.mc_shown.specs.RowText.{byte_text, device_text, device_text_of, hex_digit_of, is_plain}
use Rattle.mc_shown.specs.RowText.{address_text, entry_text, incoming_text, device_name_text, oif_text}
use Rattle.mc_shown.specs.RowText.{flow_row_text, oifs_text, row_text, vif_number_text}

-- ---- texts

-- a text whose bytes were tried
pub no_feed-from_list_all : (xs : List ℕ) → list_all (λ b. not (b == 10)) xs ≡ true → HasNoByte 10 xs
no_feed-from_list_all xs none = HasNoByte-from_list_all (λ b. not (b == 10)) 10 refl xs none

-- two texts, one after the other
pub no_feed-append : (xs ys : List ℕ) → HasNoByte 10 xs → HasNoByte 10 ys → HasNoByte 10 (xs ++ ys)
no_feed-append = HasNoByte-append 10

-- a piece in front of a text
pub no_feed-append_front : (front xs : List ℕ) → list_all (λ b. not (b == 10)) front ≡ true → HasNoByte 10 xs
    → HasNoByte 10 (front ++ xs)
no_feed-append_front front xs none rest = no_feed-append front xs (no_feed-from_list_all front none) rest

-- one of two texts
pub no_feed-cond : (b : Bool) (xs ys : List ℕ) → HasNoByte 10 xs → HasNoByte 10 ys
    → HasNoByte 10 (cond b xs ys)
no_feed-cond true xs ys p q = p
no_feed-cond false xs ys p q = q

-- a text for each item
pub no_feed-flat_map : {A : Type 0} (f : A → List ℕ) (xs : List A) → ((x : A) → HasNoByte 10 (f x))
    → HasNoByte 10 (flat_map f xs)
no_feed-flat_map f [] each = tt
no_feed-flat_map f (x ∷ xs) each = no_feed-append (f x) (flat_map f xs) (each x) (no_feed-flat_map f xs each)

-- ---- numbers and addresses

-- a digit is no line feed
digit_glyph-is_no_feed : (d : ℕ) (small : Bool) → eqb (cond small (48 + d) (87 + d)) 10 ≡ false
digit_glyph-is_no_feed d true = ne_eqb (48 + d) 10 (λ e. omega (arith, e))
digit_glyph-is_no_feed d false = ne_eqb (87 + d) 10 (λ e. omega (arith, e))

-- digits before a text
no_feed-digits_onto : (k n : ℕ) (acc : List ℕ) → HasNoByte 10 acc
    → HasNoByte 10 (digits_onto k 10 false n acc)
no_feed-digits_onto zero n acc none = none
no_feed-digits_onto (suc k) n acc none =
    let more : HasNoByte 10 (digit_glyph false (n % 10) ∷ acc) =
    (digit_glyph-is_no_feed (n % 10) (nat_lt (n % 10) 10), none) in
    no_feed-cond (n / 10 == 0) _ _ more (no_feed-digits_onto k (n / 10) (digit_glyph false (n % 10) ∷ acc)
    more)

-- a decimal number
pub number : (n : ℕ) → HasNoByte 10 (decimal n)
unfolding digits
number n = no_feed-digits_onto 64 n [] tt

-- an address
pub no_feed-dotted : (a : ℕ) → HasNoByte 10 (dotted a)
no_feed-dotted a =
    let first = no_feed-append _ (codes ".") (number (a / 16777216 % 256)) (refl, tt) in
    let second = no_feed-append _ _ first (number (a / 65536 % 256)) in
    let third = no_feed-append _ (codes ".") second (refl, tt) in
    let fourth = no_feed-append _ _ third (number (a / 256 % 256)) in
    let fifth = no_feed-append _ (codes ".") fourth (refl, tt) in
    no_feed-append _ _ fifth (number (a % 256))

-- ---- names

-- a name of the topology
no_feed-name : (name : List ℕ) → IsTrue (is_name name) → HasNoByte 10 name
unfolding is_name
no_feed-name name is =
    HasNoByte-from_list_all is_name_byte 10 refl name (and_parts _ (list_all is_name_byte name) is).1

-- the name of a LAN, if it has the number
no_feed-lan_name_or_empty : (lans : List (List ℕ)) (lan : ℕ)
    → ((n : ℕ) (name : List ℕ) → slice_get lans n ≡ Some name → IsTrue (is_name name))
    → HasNoByte 10 (unwrap_or (slice_get lans lan) [])
no_feed-lan_name_or_empty [] lan named = tt
no_feed-lan_name_or_empty (name ∷ lans) zero named = no_feed-name name (named 0 name refl)
no_feed-lan_name_or_empty (name ∷ lans) (suc lan) named = no_feed-lan_name_or_empty lans lan
    (λ n other is. named (suc n) other is)

-- the name of a router, if it has the number
no_feed-router_name_or_empty : (rs : List RouterRow) (router : ℕ)
    → ((n : ℕ) (r : RouterRow) → slice_get rs n ≡ Some r → IsTrue (is_name r.name))
    → HasNoByte 10 (unwrap_or (option_map (λ r. r.name) (slice_get rs router)) [])
no_feed-router_name_or_empty [] router named = tt
no_feed-router_name_or_empty (r ∷ rs) zero named = no_feed-name r.name (named 0 r refl)
no_feed-router_name_or_empty (r ∷ rs) (suc router) named = no_feed-router_name_or_empty rs router
    (λ n other is. named (suc n) other is)

-- a LAN's name in a valid topology
pub no_feed-lan_name : (t : TopologyValue) (lan : ℕ) → IsValidTopology t → HasNoByte 10 (lan_name t lan)
no_feed-lan_name t lan ok = no_feed-lan_name_or_empty t.lans lan ok.valid_lan_names

-- a router's
pub no_feed-router_name : (t : TopologyValue) (router : ℕ) → IsValidTopology t
    → HasNoByte 10 (router_name t router)
no_feed-router_name t router ok = no_feed-router_name_or_empty t.routers router ok.valid_router_names

-- ---- devices

-- a byte of a device's name, as it is or escaped
pub no_feed-escaped_byte : (b : ℕ) (shown : Bool) → is_plain b ≡ shown
    → HasNoByte 10 (cond shown (b ∷ [])
    (codes "\\x" ++ (hex_digit_of (b / 16) ∷ hex_digit_of (b % 16) ∷ [])))
no_feed-escaped_byte b true is = (ne_eqb b 10 (λ e. false≢true (sym (ap is_plain e) ∙ is)), tt)
no_feed-escaped_byte b false is =
    no_feed-append_front (codes "\\x") (hex_digit_of (b / 16) ∷ hex_digit_of (b % 16) ∷ []) refl (
      digit_glyph-is_no_feed (b / 16) (nat_le (b / 16) 9),
      (
        digit_glyph-is_no_feed (b % 16)
            (nat_le (b % 16) 9),
        tt,
      ),
    )

-- a vif's number
no_feed-vif_number_text : (vif : ℕ) → HasNoByte 10 (vif_number_text vif)
no_feed-vif_number_text vif = no_feed-append_front (codes "vif/") (decimal vif) refl (number vif)

-- a vif's device, or its number if it has none
no_feed-device_text_of : (vif : ℕ) (o : Option VifValue) → HasNoByte 10 (device_text_of vif o)
no_feed-device_text_of vif None = no_feed-vif_number_text vif
no_feed-device_text_of vif (Some v) = no_feed-cond (has_device v) (device_name_text v.device)
    (vif_number_text vif) (no_feed-flat_map byte_text v.device
    (λ b. no_feed-escaped_byte b (is_plain b) refl)) (no_feed-vif_number_text vif)

-- so it is for the vif of a router
pub no_feed-device_text : (d : DomainFacts) (router vif : ℕ) → HasNoByte 10 (device_text d router vif)
no_feed-device_text d router vif = no_feed-device_text_of vif (d.vifs router vif)

-- ---- rows

-- an address, or a star
pub no_feed-address_text : (a : ℕ) → HasNoByte 10 (address_text a)
no_feed-address_text a = no_feed-cond (a == 0) (codes "*") (dotted a) (no_feed-from_list_all (codes "*")
    refl) (no_feed-dotted a)

-- an outgoing vif with its threshold
no_feed-oif_text : (d : DomainFacts) (router : ℕ) (p : ℕ × ℕ) → HasNoByte 10 (oif_text d router p)
no_feed-oif_text d router p =
    no_feed-append_front (codes " ") _ refl
    (no_feed-append (device_text d router p.0) _ (no_feed-device_text d router p.0)
    (no_feed-cond (p.1 == 1) [] (codes ":" ++ decimal p.1) tt (no_feed-append_front (codes ":") _ refl
    (number p.1))))

-- all outgoing vifs of an entry
no_feed-oifs_text : (d : DomainFacts) (router : ℕ) (ps : List (ℕ × ℕ))
    → HasNoByte 10 (oifs_text d router ps)
no_feed-oifs_text d router [] = no_feed-from_list_all (codes " none") refl
no_feed-oifs_text d router (p ∷ ps) =
    no_feed-flat_map (oif_text d router) (p ∷ ps) (λ q. no_feed-oif_text d router q)

-- an entry
pub no_feed-entry_text : (d : DomainFacts) (router source group incoming : ℕ) (ps : List (ℕ × ℕ))
    → IsValidTopology d.topology → HasNoByte 10 (entry_text d router source group incoming ps)
no_feed-entry_text d router source group incoming ps ok =
    no_feed-append_front (codes "entry (") _ refl
    (no_feed-append (address_text source) _ (no_feed-address_text source)
    (no_feed-append_front (codes ",") _ refl
    (no_feed-append (address_text group) _ (no_feed-address_text group)
    (no_feed-append_front (codes ") from ") _ refl
    (no_feed-append (device_text d router incoming) _ (no_feed-device_text d router incoming)
    (no_feed-append_front (codes " to") _ refl
    (no_feed-append (oifs_text d router ps) _ (no_feed-oifs_text d router ps)
    (no_feed-append_front (codes " in cache-") _ refl (no_feed-router_name d.topology router ok)))))))))

-- a row for a flow
pub no_feed-row_text : (d : DomainFacts) (f : Flow) (router : ℕ) (row : Row) → IsValidTopology d.topology
    → HasNoByte 10 (row_text d f router row)
no_feed-row_text d f router (Exact incoming ps) ok =
    no_feed-entry_text d router f.source f.group incoming ps ok
no_feed-row_text d f router Open ok = tt
no_feed-row_text d f router NoRow ok = tt

-- a router's row for a flow
pub no_feed-flow_row_text : (d : DomainFacts) (flow router : ℕ) → IsValidTopology d.topology
    → HasNoByte 10 (flow_row_text d flow router)
no_feed-flow_row_text d flow router ok =
    no_feed-row_text d (flow_at d.topology flow) router ((d.nets flow).row router) ok

-- the incoming device of a row
pub no_feed-incoming_text : (d : DomainFacts) (router : ℕ) (row : Row)
    → HasNoByte 10 (incoming_text d router row)
no_feed-incoming_text d router (Exact incoming ps) = no_feed-device_text d router incoming
no_feed-incoming_text d router Open = tt
no_feed-incoming_text d router NoRow = tt

-- a (*,G) entry, if there is one
no_feed-every_source_row : (d : DomainFacts) (router : ℕ) (o : Option (ℕ × EntryValue))
    → IsValidTopology d.topology
    → HasNoByte 10 (every_source_row_text d router o)
no_feed-every_source_row d router None ok = tt
no_feed-every_source_row d router (Some row) ok =
    no_feed-entry_text d router 0 row.0 row.1.iif (oif_pairs row.1.oifs) ok

-- a row for every source
pub no_feed-every_source_text : (d : DomainFacts) (summary : List SummaryValue) (group router : ℕ)
    → IsValidTopology d.topology → HasNoByte 10 (every_source_text d summary group router)
no_feed-every_source_text d summary group router ok =
    no_feed-every_source_row d router (every_source_of summary group router) ok
