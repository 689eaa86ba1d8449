-- The JSON value of a certificate's text, and what its entries and trees denote.
use Rattle.std.proofs.Common.{◌≡◌, ℕ, zero, suc, ◌+◌, ◌^◌, ◌<◌, ◌≤◌, All, Bool, true, false}
use Rattle.std.proofs.Common.{List, [], ◌∷◌, ◌++◌, length, map, codes, decimal, Option, Some}
use Rattle.std.proofs.Common.{None, option_map, unwrap_or, IfSome, refl, sym, ap, ap₂}
use Rattle.std.proofs.Common.{subst, ◌∙◌, arith, append_assoc, lit<}
use Rattle.std.specs.Prelude.{slice_get}
use Rattle.std.specs.List.{AllByRecursion, zip}
use Rattle.std.proofs.lemmas.Fmt.{decimal_digit}
use Rattle.std.proofs.lemmas.Slice.Zip.{length-zip}
use Rattle.json.specs.Print.{escape, escape_byte, quoted}
use Rattle.json.proofs.Printed.Utf8.{IsUtf8-are_ascii}
use Rattle.serde_json.specs.Data.{Data, unsigned, number, string, array, object, Items, Members}
use Rattle.serde_json.specs.Data.{no_members, member}
use Rattle.serde_json.specs.Find.{get_member}
use Rattle.serde_json.specs.Read.{of_items, of_members}
use Rattle.serde_json.specs.Written.{items_outline, members_outline, compact_text, items_text}
use Rattle.serde_json.specs.Written.{members_text, comma_if}
use Rattle.serde_json.proofs.Numbers.{number_of-decimal}
use Rattle.mc_text.specs.Addr.{dotted}
use Rattle.mc_theory.specs.Nets.{Interface}
use Rattle.mc_theory.specs.Certificates.{Entry}
use Rattle.mc_topology.specs.declared.flow.Flow.{Flow}
use Rattle.mc_topology.specs.SectionRows.{RouterRow}
use Rattle.mc_topology.specs.Topology.{TopologyValue, IsValidTopology, lan_name, router_name}
use Rattle.mc_topology.proofs.NameLemmas.{index_of-lan_name, router_no_of-router_name}
use Rattle.mc_cert.specs.Certificate.{Tree}
use Rattle.mc_cert.specs.CertificateText.{listed_after, listed}
use Rattle.mc_cert.specs.CertificateText.{forwarder_text, entry_text, tree_text, flow_text}
use Rattle.mc_cert.specs.CertificateText.{flow_texts, version_two_text}
use Rattle.mc_cert.specs.Entries.{entry_keys}
use Rattle.mc_cert.specs.Object.{has_only, rows_in}
use Rattle.mc_cert.specs.Denotation.{EachDenotes, DenotesForwarder, DenotesEntry, DenotesTree}
use Rattle.mc_cert.specs.Writable.{IsWritableEntryFor, IsWritableTreeFor}
use Rattle.mc_cert.proofs.StoredTrees.{slice_get-unwrap_or}
use Rattle.mc_cert.proofs.JsonValues.{IsPlain, escape-plain, IsPlain-from_is_name, IsPlain-dotted}
use Rattle.mc_cert.proofs.JsonValues.{IsReadBack, IsReadBack-string, IsReadBack-number, IsReadBack-array}
use Rattle.mc_cert.proofs.JsonValues.{items_from, AreReadBack-items_from, HasReadBack, HasReadBack-none}
use Rattle.mc_cert.proofs.JsonValues.{HasReadBack-member, IsReadBack-object}

-- ---- the value

-- the members for a forwarder, if there is one
abbrev pub forwarder_members : TopologyValue → Option Interface → Members
forwarder_members t None = no_members
forwarder_members t (Some i) = member (codes "router") (string (router_name t i.0))
    (member (codes "vif") (number (unsigned i.1)) no_members)

-- the members of an entry's object
abbrev pub entry_members : TopologyValue → Entry → Members
entry_members t e =
    member (codes "lan") (string (lan_name t e.lan))
    (member (codes "need") (number (unsigned e.need))
    (member (codes "rank") (number (unsigned e.rank)) (forwarder_members t e.forwarder)))

-- an entry's object
abbrev pub entry_data : TopologyValue → Entry → Data
entry_data t e = object (entry_members t e)

-- the list of a tree's entries
abbrev pub tree_data : TopologyValue → Tree → Data
tree_data t es = array (items_from (entry_data t) es)

-- the members of a flow's object, with the number of its tree
abbrev pub flow_members : Flow × ℕ → Members
flow_members p =
    member (codes "group") (string (dotted p.0.group))
    (member (codes "source") (string (dotted p.0.source))
    (member (codes "tree") (number (unsigned p.1)) no_members))

-- a flow's object
abbrev pub flow_data : Flow × ℕ → Data
flow_data p = object (flow_members p)

-- the members of the whole certificate
abbrev pub document : TopologyValue → List ℕ → List Tree → Members
document t tree_numbers trees =
    member (codes "flows") (array (items_from flow_data (zip t.flows tree_numbers)))
    (member (codes "trees") (array (items_from (tree_data t) trees))
    (member (codes "version") (number (unsigned 2)) no_members))

-- ---- its text

-- a text with its last byte, and then the rest
append-closing_byte : (s x : List ℕ) (b : ℕ) (rest : List ℕ) → s ++ b ∷ [] ≡ x → s ++ b ∷ rest ≡ x ++ rest
append-closing_byte s x b rest e = sym (append_assoc s (b ∷ []) rest) ∙ ap (λ y. y ++ rest) e

-- a text between quotation marks, and then the rest
append-closing_quote : (s escaped rest : List ℕ) → escaped ≡ s → s ++ 34 ∷ rest ≡ (escaped ++ 34 ∷ []) ++ rest
append-closing_quote s escaped rest e =
    append-closing_byte s (escaped ++ 34 ∷ []) 34 rest (ap (λ n. n ++ 34 ∷ []) (sym e))

-- the text of a forwarder is the compact text of its members, where no name has a byte to escape
forwarder_text-compact : (t : TopologyValue) (forwarder : Option Interface)
    → IfSome forwarder (λ i. escape (router_name t i.0) ≡ router_name t i.0)
    → forwarder_text t forwarder ++ codes "}" ≡ members_text true
    (forwarder_members t forwarder)
unfolding escape_byte
forwarder_text-compact t None plain = refl
forwarder_text-compact t (Some i) plain = spelled (router_name t i.0) (escape (router_name t i.0))
    (decimal i.1) plain where
      spelled : (name escaped vif : List ℕ) → escaped ≡ name
          → (codes ",\"router\":\"" ++ name ++ codes "\",\"vif\":" ++ vif) ++ codes "}"
          ≡ 44 ∷ (quoted (codes "router") ++ 58 ∷ ((34 ∷ (escaped ++ 34 ∷ []))
          ++ (44 ∷ (quoted (codes "vif") ++ 58 ∷ (vif ++ 125 ∷ [])))))
      spelled name escaped vif e =
          let start = codes ",\"router\":\"" in
          let tail = 44 ∷ (quoted (codes "vif") ++ 58 ∷ (vif ++ 125 ∷ [])) in
          let flat : (start ++ name ++ codes "\",\"vif\":" ++ vif) ++ codes "}"
          ≡ start ++ (name ++ 34 ∷ tail) = simp append_assoc in
          flat ∙ ap (λ s. start ++ s) (append-closing_quote name escaped tail e)

-- so is that of an entry
entry_text-from_plain_names : (t : TopologyValue) (e : Entry) → escape (lan_name t e.lan) ≡ lan_name t e.lan
    → IfSome e.forwarder (λ i. escape (router_name t i.0) ≡ router_name t i.0)
    → entry_text t e ≡ compact_text (entry_data t e)
unfolding escape_byte
entry_text-from_plain_names t e plain plain_router =
    spelled (lan_name t e.lan) (escape (lan_name t e.lan)) (decimal e.need) (decimal e.rank)
    (forwarder_text t e.forwarder) plain
    ∙ ap
    (λ rest. 123 ∷ (quoted
    (codes "lan") ++ 58 ∷ (quoted (lan_name t e.lan)
    ++ (44 ∷ (quoted (codes "need") ++ 58
    ∷ (decimal e.need ++ (44 ∷ (quoted (codes "rank")
    ++ 58 ∷ (decimal e.rank ++ rest)))))))))
    (forwarder_text-compact t e.forwarder plain_router) where
      spelled : (name escaped need rank forwarder : List ℕ) → escaped ≡ name
          → codes "{\"lan\":\"" ++ name ++ codes "\",\"need\":" ++ need ++ codes
          ",\"rank\":" ++ rank ++ forwarder ++ codes "}"
          ≡ 123 ∷ (quoted (codes "lan") ++ 58 ∷ ((34 ∷ (escaped ++ 34 ∷ []))
          ++ (44 ∷ (quoted (codes "need") ++ 58
          ∷ (need ++ (44 ∷ (quoted (codes "rank") ++ 58
          ∷ (rank ++ (forwarder ++ codes "}")))))))))
      spelled name escaped need rank forwarder e =
          let start = codes "{\"lan\":\"" in
          let tail = 44 ∷ (quoted (codes "need")
          ++ 58 ∷ (need ++ (44 ∷ (quoted (codes "rank") ++ 58
          ∷ (rank ++ (forwarder ++ codes "}")))))) in
          let flat : start ++ name ++ codes "\",\"need\":" ++ need ++ codes
          ",\"rank\":" ++ rank ++ forwarder ++ codes "}" ≡ start ++ (name ++ 34 ∷ tail) =
          simp append_assoc in
          flat ∙ ap (λ s. start ++ s) (append-closing_quote name escaped tail e)

-- so is that of a flow
flow_text-compact : (p : Flow × ℕ) → flow_text p.0 p.1 ≡ compact_text (flow_data p)
unfolding escape_byte
flow_text-compact p =
    spelled (dotted p.0.group) (escape (dotted p.0.group)) (dotted p.0.source)
    (escape (dotted p.0.source)) (decimal p.1) (escape-plain _ (IsPlain-dotted p.0.group))
    (escape-plain _ (IsPlain-dotted p.0.source)) where
      spelled : (group escaped_group source escaped_source tree_no : List ℕ) → escaped_group ≡ group
          → escaped_source ≡ source
          → codes "{\"group\":\"" ++ group ++ codes "\",\"source\":\"" ++ source ++ codes
          "\",\"tree\":" ++ tree_no ++ codes "}"
          ≡ 123 ∷ (quoted (codes "group") ++ 58 ∷ ((34 ∷ (escaped_group ++ 34 ∷ []))
          ++ (44 ∷ (quoted (codes "source") ++ 58
          ∷ ((34 ∷ (escaped_source ++ 34 ∷ []))
          ++ (44 ∷ (quoted (codes "tree") ++ 58 ∷ (tree_no ++ 125 ∷ []))))))))
      spelled group escaped_group source escaped_source tree_no e f =
          let start = codes "{\"group\":\"" in
          let middle = codes ",\"source\":\"" in
          let tail = 44 ∷ (quoted (codes "tree") ++ 58 ∷ (tree_no ++ 125 ∷ [])) in
          let flat : start ++ group ++ codes "\",\"source\":\"" ++ source ++ codes
          "\",\"tree\":" ++ tree_no ++ codes "}"
          ≡ start ++ (group ++ 34 ∷ (middle ++ (source ++ 34 ∷ tail))) =
          simp append_assoc in
          flat ∙ ap (λ s. start ++ (group ++ 34 ∷ (middle ++ s)))
          (append-closing_quote source escaped_source tail f)
          ∙ ap (λ s. start ++ s) (append-closing_quote group escaped_group _ e)

module _ {A : Type 0} (text : A → List ℕ) (f : A → Data) where
  listed_after-items_text : (later : Bool) (xs : List A)
      → AllByRecursion (λ x. text x ≡ compact_text (f x)) xs
      → listed_after (comma_if later) (map text xs) ++ 93 ∷ [] ≡ items_text later (items_from f xs)
  listed_after-items_text later [] all = refl
  listed_after-items_text later (x ∷ xs) (here, all) =
      append_assoc (comma_if later ++ text x) (listed_after (codes ",") (map text xs)) (93 ∷ [])
      ∙ append_assoc (comma_if later) (text x) _
      ∙ ap₂ (λ s rest. comma_if later ++ (s ++ rest)) here (listed_after-items_text true xs all)

-- so is that of the whole, whatever the texts of flows and of trees are
certificate_json-compact : (flows trees flow_items tree_items : List ℕ) → flows ++ 93 ∷ [] ≡ flow_items
    → trees ++ 93 ∷ [] ≡ tree_items
    → codes "{\"flows\":[" ++ flows ++ codes "],\"trees\":[" ++ trees ++ codes "],\"version\":2}"
    ≡ 123 ∷ (quoted (codes "flows") ++ 58 ∷ ((91 ∷ flow_items)
    ++ (44 ∷ (quoted (codes "trees") ++ 58 ∷ ((91 ∷ tree_items)
    ++ (44 ∷ (quoted (codes "version") ++ 58 ∷ (decimal 2 ++ 125 ∷ []))))))))
unfolding escape_byte
certificate_json-compact flows trees flow_items tree_items e f =
    let start = codes "{\"flows\":[" in
    let middle = codes ",\"trees\":[" in
    let tail = codes ",\"version\":2}" in
    let flat : start ++ flows ++ codes "],\"trees\":[" ++ trees ++ codes "],\"version\":2}"
    ≡ start ++ (flows ++ 93 ∷ (middle ++ (trees ++ 93 ∷ tail))) = simp append_assoc in
    flat ∙ ap (λ s. start ++ (flows ++ 93 ∷ (middle ++ s))) (append-closing_byte trees tree_items 93 tail f)
    ∙ ap (λ s. start ++ s) (append-closing_byte flows flow_items 93 _ e)
    ∙ ap (λ two. start ++ (flow_items
    ++ (middle ++ (tree_items ++ (codes ",\"version\":" ++ (two ++ codes "}"))))))
    (sym (decimal_digit 2 (lit< tt)))

-- ---- the elements of a list

module _ {A : Type 0} (P : A → Type 0) where
  -- what holds of all elements by number holds of them by recursion
  pub AllByRecursion-from_All : (xs : List A) → All P xs → AllByRecursion P xs
  AllByRecursion-from_All [] all = tt
  AllByRecursion-from_All (x ∷ xs) all =
      (all zero x (omega arith), AllByRecursion-from_All xs (λ k d lt. all (suc k) d (omega (arith, lt))))

  -- and what always holds does
  AllByRecursion-from_always : ((x : A) → P x) → (xs : List A) → AllByRecursion P xs
  AllByRecursion-from_always holds [] = tt
  AllByRecursion-from_always holds (x ∷ xs) = (holds x, AllByRecursion-from_always holds xs)

  -- and what follows from it does
  pub AllByRecursion-implies : (Q : A → Type 0) → ((x : A) → P x → Q x) → (xs : List A) → AllByRecursion P xs
      → AllByRecursion Q xs
  AllByRecursion-implies Q follows [] all = tt
  AllByRecursion-implies Q follows (x ∷ xs) (here, all) =
      (follows x here, AllByRecursion-implies Q follows xs all)

-- what holds of the image of each element holds of the images
pub AllByRecursion-map : {A B : Type 0} (P : B → Type 0) (f : A → B) (xs : List A)
    → AllByRecursion (λ x. P (f x)) xs → AllByRecursion P (map f xs)
AllByRecursion-map P f [] all = tt
AllByRecursion-map P f (x ∷ xs) (here, all) = (here, AllByRecursion-map P f xs all)

-- what holds of the elements of the second list holds of the second in each pair
AllByRecursion-zip : {A B : Type 0} (P : B → Type 0) (xs : List A) (ys : List B) → AllByRecursion P ys
    → AllByRecursion (λ (p : A × B). P p.1) (zip xs ys)
AllByRecursion-zip P [] ys all = tt
AllByRecursion-zip P (x ∷ xs) [] all = tt
AllByRecursion-zip P (x ∷ xs) (y ∷ ys) (here, all) = (here, AllByRecursion-zip P xs ys all)

-- two lists of the same length have as many pairs
pub length-zip_equal : {A B : Type 0} (xs : List A) (ys : List B) → length ys ≡ length xs
    → length (zip xs ys) ≡ length xs
length-zip_equal xs ys e = omega (arith, length-zip xs ys, e)

-- a list has a row for each element that it is made of
pub length-rows_in : {A : Type 0} (f : A → Data) (xs : List A)
    → length (rows_in (items_from f xs)) ≡ length xs
length-rows_in f [] = refl
length-rows_in f (x ∷ xs) = ap suc (length-rows_in f xs)

-- ---- names

-- each number of a router has one
router-at_number : (routers : List RouterRow) (n : ℕ) → n < length routers
    → (r : RouterRow) × (slice_get routers n ≡ Some r)
router-at_number [] n lt = absurd (omega (arith, lt))
router-at_number (r ∷ routers) zero lt = (r, refl)
router-at_number (r ∷ routers) (suc n) lt = router-at_number routers n (omega (arith, lt))

-- a LAN's name has no byte to escape, since a valid topology has names of letters and the like
lan_name-is_plain : (t : TopologyValue) (lan : ℕ) → IsValidTopology t → lan < length t.lans
    → All IsPlain (lan_name t lan)
lan_name-is_plain t lan rules lt = IsPlain-from_is_name (lan_name t lan)
    (rules.valid_lan_names lan (lan_name t lan) (slice_get-unwrap_or t.lans lan [] lt))

-- the name of the router in this row
router_name-of_row : (t : TopologyValue) (n : ℕ) (r : RouterRow) → slice_get t.routers n ≡ Some r
    → router_name t n ≡ r.name
router_name-of_row t n r e = ap
    (λ (o : Option RouterRow). unwrap_or (option_map (λ (x : RouterRow). x.name) o) []) e

-- a router's name has no byte to escape either
router_name-is_plain : (t : TopologyValue) (n : ℕ) → IsValidTopology t → n < length t.routers
    → All IsPlain (router_name t n)
router_name-is_plain t n rules lt =
    let (r, at) = router-at_number t.routers n lt in
    subst (λ (s : List ℕ). All IsPlain s) (sym (router_name-of_row t n r at))
    (IsPlain-from_is_name r.name (rules.valid_router_names n r at))

-- ---- entries

-- the interface is of one of the topology's routers, and its vif at most 31
abbrev IsListedInterface : TopologyValue → Interface → Type 0
IsListedInterface t i = (i.0 < length t.routers) × (i.1 ≤ 31)

-- by both facts
IsListedInterface-from_parts : (t : TopologyValue) (forwarder : Option Interface)
    → IfSome forwarder (λ i. i.0 < length t.routers) → IfSome forwarder (λ i. i.1 ≤ 31)
    → IfSome forwarder (IsListedInterface t)
IsListedInterface-from_parts t None router vif = tt
IsListedInterface-from_parts t (Some i) router vif = (router, vif)

-- so escaping leaves the name of a forwarder's router
escape-forwarder_router : (t : TopologyValue) → IsValidTopology t → (forwarder : Option Interface)
    → IfSome forwarder (IsListedInterface t) → IfSome forwarder
    (λ i. escape (router_name t i.0) ≡ router_name t i.0)
escape-forwarder_router t rules None is = tt
escape-forwarder_router t rules (Some i) is = escape-plain (router_name t i.0)
    (router_name-is_plain t i.0 rules is.0)

-- the members of a forwarder are read back from their text
HasReadBack-forwarder_members : (t : TopologyValue) → IsValidTopology t → (forwarder : Option Interface)
    → IfSome forwarder (IsListedInterface t) → HasReadBack 0 (forwarder_members t forwarder)
HasReadBack-forwarder_members t rules None is = HasReadBack-none 0
HasReadBack-forwarder_members t rules (Some i) is =
    HasReadBack-member 0 (codes "router") _ _ (IsUtf8-are_ascii _ refl)
    (IsReadBack-string 0 (router_name t i.0) (router_name-is_plain t i.0 rules is.0))
    (HasReadBack-member 0 (codes "vif") _ no_members (IsUtf8-are_ascii _ refl)
    (IsReadBack-number 0 i.1 (omega (arith, is.1))) (HasReadBack-none 0))

-- the members of an entry
abbrev entry_fields : TopologyValue → List ℕ → ℕ → ℕ → Option Interface → Members
entry_fields t name need rank forwarder =
    member (codes "lan") (string name) (member (codes "need") (number (unsigned need))
    (member (codes "rank") (number (unsigned rank)) (forwarder_members t forwarder)))

-- JSON's reader gives the fields of an entry back as they are: their keys ascend, each once
of_members-entry_fields : (t : TopologyValue) (name : List ℕ) (need rank : ℕ) (forwarder : Option Interface)
    → need < 2 ^ 64 → rank < 2 ^ 64 → IfSome forwarder (IsListedInterface t)
    → of_members (members_outline (entry_fields t name need rank forwarder)) no_members
    ≡ Some (entry_fields t name need rank forwarder)
of_members-entry_fields t name need rank None need_small rank_small is =
    rw (number_of-decimal need need_small, number_of-decimal rank rank_small) refl
of_members-entry_fields t name need rank (Some i) need_small rank_small is =
    let vif_small : i.1 < 2 ^ 64 = omega (arith, is.1) in
    rw (
      number_of-decimal need need_small,
      number_of-decimal rank rank_small,
      number_of-decimal i.1 vif_small,
    ) refl

-- an entry has only the keys of an entry
has_only-entry_fields : (t : TopologyValue) (name : List ℕ) (need rank : ℕ) (forwarder : Option Interface)
    → has_only entry_keys (entry_fields t name need rank forwarder) ≡ true
has_only-entry_fields t name need rank None = refl
has_only-entry_fields t name need rank (Some i) = refl

-- its forwarder's members denote the forwarder
forwarder_members-denotes : (t : TopologyValue) → IsValidTopology t
    → (name : List ℕ) (need rank : ℕ) (forwarder : Option Interface) → IfSome forwarder (IsListedInterface t)
    → DenotesForwarder t.routers (get_member (codes "router") (entry_fields t name need rank forwarder))
    (get_member (codes "vif") (entry_fields t name need rank forwarder)) forwarder
forwarder_members-denotes t rules name need rank None is = refl
forwarder_members-denotes t rules name need rank (Some i) is =
    let (r, at) = router-at_number t.routers i.0 is.0 in (
      i,
      refl,
      record {
        name = router_name t i.0;
        router_text = refl;
        router = router_no_of-router_name t.routers i.0 (router_name t i.0) rules.router_names
            (ap (option_map (λ (x : RouterRow). x.name)) at ∙ ap Some (sym (router_name-of_row t i.0 r at)));
        vif = refl;
        vif_to = is.1;
      },
    )

-- the value of an entry is read back from its text
IsReadBack-entry_data : (t : TopologyValue) (e : Entry) → IsValidTopology t → IsWritableEntryFor t e
    → IsReadBack 1 (entry_data t e)
IsReadBack-entry_data t e rules is =
    let forwarder = IsListedInterface-from_parts t e.forwarder is.among.router is.writable.vif in
    let need_small : e.need < 2 ^ 64 = omega (arith, is.bytes.need) in
    let rank_small : e.rank < 2 ^ 64 = omega (arith, is.bytes.rank) in
    IsReadBack-object 0 (entry_members t e)
    (of_members-entry_fields t (lan_name t e.lan) e.need e.rank e.forwarder
    need_small rank_small forwarder)
    (HasReadBack-member 0 (codes "lan") _ _ (IsUtf8-are_ascii _ refl)
    (IsReadBack-string 0 (lan_name t e.lan) (lan_name-is_plain t e.lan rules is.among.lan))
    (HasReadBack-member 0 (codes "need") _ _ (IsUtf8-are_ascii _ refl) (IsReadBack-number 0 e.need need_small)
    (HasReadBack-member 0 (codes "rank") _ _ (IsUtf8-are_ascii _ refl) (IsReadBack-number 0 e.rank rank_small)
    (HasReadBack-forwarder_members t rules e.forwarder forwarder))))

-- its text is the entry's
entry_text-of_writable : (t : TopologyValue) (e : Entry) → IsValidTopology t → IsWritableEntryFor t e
    → entry_text t e ≡ compact_text (entry_data t e)
entry_text-of_writable t e rules is =
    entry_text-from_plain_names t e
    (escape-plain (lan_name t e.lan) (lan_name-is_plain t e.lan rules is.among.lan))
    (escape-forwarder_router t rules e.forwarder
    (IsListedInterface-from_parts t e.forwarder is.among.router is.writable.vif))

-- it denotes the entry
entry_data-denotes : (t : TopologyValue) (e : Entry) → IsValidTopology t → IsWritableEntryFor t e
    → DenotesEntry t (entry_data t e) e
entry_data-denotes t e rules is =
    record {
      members = entry_members t e;
      lan_name = lan_name t e.lan;
      is_object = record {
        members = refl;
        keys =
            has_only-entry_fields t (lan_name t e.lan) e.need e.rank e.forwarder;
      };
      lan_text = refl;
      lan = index_of-lan_name t.lans e.lan (lan_name t e.lan) rules.lan_names
          (slice_get-unwrap_or t.lans e.lan [] is.among.lan);
      need = refl;
      need_from = is.writable.need;
      need_to = is.bytes.need;
      rank = refl;
      rank_to = is.bytes.rank;
      forwarder = forwarder_members-denotes t rules (lan_name t e.lan) e.need e.rank e.forwarder
          (IsListedInterface-from_parts t e.forwarder is.among.router is.writable.vif);
    }

-- ---- trees

module _ {X : Type 0} (Denotation : ℕ → Data → X → Type 0) (f : X → Data) where
  -- rows denote what they are made of, where each does, whatever its number
  pub items_from-denotes : (n : ℕ) (xs : List X) → AllByRecursion (λ x. (m : ℕ) → Denotation m (f x) x) xs
      → EachDenotes Denotation n (rows_in (items_from f xs)) xs
  items_from-denotes n [] all = tt
  items_from-denotes n (x ∷ xs) (here, all) = (here n, items_from-denotes (n + 1) xs all)

-- the value of a tree is read back from its text
IsReadBack-tree_data : (t : TopologyValue) (es : Tree) → IsValidTopology t → IsWritableTreeFor t es
    → IsReadBack 2 (tree_data t es)
IsReadBack-tree_data t es rules is =
    IsReadBack-array 1 _ (AreReadBack-items_from (entry_data t) 1 es
    (AllByRecursion-implies (IsWritableEntryFor t) (λ e. IsReadBack 1 (entry_data t e))
    (λ e written. IsReadBack-entry_data t e rules written) es
    (AllByRecursion-from_All (IsWritableEntryFor t) es is.each)))

-- its text is the tree's
tree_text-of_writable : (t : TopologyValue) (es : Tree) → IsValidTopology t → IsWritableTreeFor t es
    → tree_text t es ≡ compact_text (tree_data t es)
tree_text-of_writable t es rules is =
    ap (λ s. 91 ∷ s)
    (listed_after-items_text (entry_text t) (entry_data t) false es
    (AllByRecursion-implies (IsWritableEntryFor t) (λ e. entry_text t e ≡ compact_text (entry_data t e))
    (λ e written. entry_text-of_writable t e rules written) es
    (AllByRecursion-from_All (IsWritableEntryFor t) es is.each)))

-- it denotes the tree
pub tree_data-denotes : (t : TopologyValue) (es : Tree) → IsValidTopology t → IsWritableTreeFor t es
    → DenotesTree t (tree_data t es) es
tree_data-denotes t es rules is =
    record {
      rows = rows_in (items_from (entry_data t) es);
      list = (items_from (entry_data t) es, refl, refl);
      entries = record {
        few = let same = length-rows_in (entry_data t) es in omega (arith, same, is.few);
        each = items_from-denotes (λ _. DenotesEntry t) (entry_data t) 0 es
            (AllByRecursion-implies (IsWritableEntryFor t) (λ e. (m : ℕ) → DenotesEntry t (entry_data t e) e)
            (λ e written m. entry_data-denotes t e rules written) es
            (AllByRecursion-from_All (IsWritableEntryFor t) es is.each));
      };
    }

-- ---- flows

-- a flow's object is read back
IsReadBack-flow_data : (p : Flow × ℕ) → p.1 < 2 ^ 64 → IsReadBack 2 (flow_data p)
IsReadBack-flow_data p small =
    IsReadBack-object 1 (flow_members p) (rw (number_of-decimal p.1 small) refl)
    (HasReadBack-member 1 (codes "group") _ _ (IsUtf8-are_ascii _ refl)
    (IsReadBack-string 1 (dotted p.0.group) (IsPlain-dotted p.0.group))
    (HasReadBack-member 1 (codes "source") _ _ (IsUtf8-are_ascii _ refl)
    (IsReadBack-string 1 (dotted p.0.source) (IsPlain-dotted p.0.source))
    (HasReadBack-member 1 (codes "tree") _ no_members (IsUtf8-are_ascii _ refl)
    (IsReadBack-number 1 p.1 small)
    (HasReadBack-none 1))))

-- ---- the text as a whole

-- what is read back at some depth is read back where more is allowed
IsReadBack-deeper : (n m : ℕ) (d : Data) → n ≤ m → IsReadBack n d → IsReadBack m d
IsReadBack-deeper n m d le good = record {
  reads = good.reads;
  numbers = good.numbers;
  shallow =
      omega (arith, good.shallow, le);
  utf8 = good.utf8;
}

-- JSON's reader gives the members of the whole back as they are: their keys ascend, each once
of_members-document : (flows trees : Items) (n : ℕ) → of_items (items_outline flows) ≡ Some flows
    → of_items (items_outline trees) ≡ Some trees → n < 2 ^ 64
    → of_members (members_outline (member (codes "flows") (array flows)
    (member (codes "trees") (array trees) (member (codes "version")
    (number (unsigned n)) no_members)))) no_members
    ≡ Some (member (codes "flows") (array flows)
    (member (codes "trees") (array trees) (member (codes "version")
    (number (unsigned n)) no_members)))
of_members-document flows trees n e f small = rw (e, f, number_of-decimal n small) refl

-- the value of the whole text is read back from it
pub IsReadBack-document : (t : TopologyValue) (tree_numbers : List ℕ) (trees : List Tree) → IsValidTopology t
    → AllByRecursion (λ n. n < 2 ^ 64) tree_numbers → AllByRecursion (IsWritableTreeFor t) trees
    → IsReadBack 127 (object (document t tree_numbers trees))
IsReadBack-document t tree_numbers trees rules small written =
    let flows_good =
    AreReadBack-items_from flow_data 2 (zip t.flows tree_numbers)
    (AllByRecursion-implies (λ (p : Flow × ℕ). p.1 < 2 ^ 64) (λ (p : Flow × ℕ). IsReadBack 2 (flow_data p))
    IsReadBack-flow_data (zip t.flows tree_numbers)
    (AllByRecursion-zip (λ n. n < 2 ^ 64) t.flows tree_numbers small)) in
    let trees_good = AreReadBack-items_from (tree_data t) 2 trees
    (AllByRecursion-implies (IsWritableTreeFor t) (λ es. IsReadBack 2 (tree_data t es))
    (λ es is. IsReadBack-tree_data t es rules is) trees written) in
    IsReadBack-deeper 4 127 _ (omega arith)
    (IsReadBack-object 3 (document t tree_numbers trees)
    (of_members-document _ _ 2 flows_good.reads trees_good.reads
    (omega arith))
    (HasReadBack-member 3 (codes "flows") _ _ (IsUtf8-are_ascii _ refl) (IsReadBack-array 2 _ flows_good)
    (HasReadBack-member 3 (codes "trees") _ _ (IsUtf8-are_ascii _ refl) (IsReadBack-array 2 _ trees_good)
    (HasReadBack-member 3 (codes "version") _ no_members (IsUtf8-are_ascii _ refl)
    (IsReadBack-number 3 2 (omega arith)) (HasReadBack-none 3)))))

-- its text is that of these numbers and trees
pub version_two_text-compact : (t : TopologyValue) (tree_numbers : List ℕ) (trees : List Tree)
    → IsValidTopology t
    → AllByRecursion (IsWritableTreeFor t) trees → version_two_text t tree_numbers trees
    ≡ compact_text (object (document t tree_numbers trees))
unfolding escape_byte
version_two_text-compact t tree_numbers trees rules written =
    certificate_json-compact (listed (flow_texts t.flows tree_numbers)) (listed (map (tree_text t) trees)) _ _
    (listed_after-items_text (λ p. flow_text p.0 p.1) flow_data false (zip t.flows tree_numbers)
    (AllByRecursion-from_always (λ p. flow_text p.0 p.1 ≡ compact_text (flow_data p)) flow_text-compact
    (zip t.flows tree_numbers)))
    (listed_after-items_text (tree_text t) (tree_data t) false trees
    (AllByRecursion-implies (IsWritableTreeFor t) (λ es. tree_text t es ≡ compact_text (tree_data t es))
    (λ es is. tree_text-of_writable t es rules is) trees written))
