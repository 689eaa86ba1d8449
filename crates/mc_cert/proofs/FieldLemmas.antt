-- What was read under the keys of an object, with one more key.
use Rattle.std.proofs.Common.{◌≡◌, ℕ, ◌+◌, ◌<◌, ◌≤◌, All, true, false, List, [], ◌∷◌, length, map}
use Rattle.std.proofs.Common.{codes}
use Rattle.std.proofs.Common.{Option, Some, None, Ordering, Less, Equal, Greater, refl, sym, ap, subst, ◌∙◌}
use Rattle.std.proofs.Common.{arith, IsUtf8}
use Rattle.std.specs.Prelude.{IfSome, option_map, slice_get}
use Rattle.std.specs.List.{list_any, AllByRecursion}
use Rattle.std.specs.Ordering.{nat_cmp, match_ordering}
use Rattle.std.specs.Cmp.Lexicographic.{slice_cmp}
use Rattle.std.specs.Str.{bytes_eq}
use Rattle.std.proofs.lemmas.Bool.{and_parts, true≢false}
use Rattle.std.proofs.lemmas.Slice.Eq.{bytes_eq-Decides}
use Rattle.serde_json.specs.Data.{Data, unsigned, number, array, object, Items, Members, no_members}
use Rattle.serde_json.specs.Data.{member, put}
use Rattle.serde_json.specs.Find.{get_member}
use Rattle.serde_json.specs.Read.{read}
use Rattle.serde_json.proofs.Views.{get_member-put, get_member-put_other}
use Rattle.mc_theory.specs.Nets.{Interface}
use Rattle.mc_topology.specs.declared.flow.Flow.{Flow}
use Rattle.mc_topology.specs.Document.{are_known}
use Rattle.mc_topology.specs.SectionRows.{RouterRow}
use Rattle.mc_topology.specs.Topology.{TopologyValue}
use Rattle.mc_cert.specs.declared.version.Version.{Version}
use Rattle.mc_cert.specs.declared.version.Version.TheVariants.{One, Two}
use Rattle.mc_cert.specs.Certificate.{Tree, tree_at, IsWritableTree}
use Rattle.mc_cert.specs.Entries.{entry_keys}
use Rattle.mc_cert.specs.Object.{has_only, keys_in, rows_in}
use Rattle.mc_cert.specs.Reading.{top_keys}
use Rattle.mc_cert.specs.VersionOne.{flow_keys}
use Rattle.mc_cert.specs.VersionTwo.{shared_flow_keys}
use Rattle.mc_cert.specs.Denotation.{EachDenotes, DenotesForwarder, DenotesEntry}
use Rattle.mc_cert.specs.Denotation.{DenotesFlow, DenotesTree, DenotesSharedFlow}
use Rattle.mc_cert.specs.Denotation.{DenotesCertificate}
use Rattle.mc_cert.specs.Tokens.{IsLanName, IsRouterName, IsWhole, IsAddress, Field, HoldsEntry}
use Rattle.mc_cert.specs.Tokens.{IsForwarder, HoldsFlow, HoldsSharedFlow, DenotesFlows, DenotesNumber}
use Rattle.mc_cert.specs.Tokens.{DenotesNumbers, DenotesTrees, HoldsVersionOne, HoldsVersionTwo, IsVersion}
use Rattle.mc_cert.proofs.StoredTrees.{slice_get-unwrap_or}
use Rattle.mc_cert.proofs.CertificateParts.{length-EachDenotes, All-from_EachDenotes}
use Rattle.mc_cert.proofs.CertificateParts.{IsWritableTree-from_denotes}

-- ---- keys

-- One member more, by where the key comes: before it, in its place or behind it. No key becomes unknown.
are_known-put_at : (o : Ordering) (known : List (List ℕ)) (k l : List ℕ) (d e : Data) (ms : Members)
    → list_any (λ x. bytes_eq x k) known ≡ true → are_known known (keys_in (member l e ms)) ≡ true
    → are_known known (keys_in (put k d ms)) ≡ true
    → are_known known (keys_in (match_ordering o (member k d (member l e ms)) (member l d ms)
    (member l e (put k d ms)))) ≡ true
are_known-put_at Less known k l d e ms here all later = rw (here, all) refl
are_known-put_at Equal known k l d e ms here all later = all
are_known-put_at Greater known k l d e ms here all later =
    rw ((and_parts (list_any (λ x. bytes_eq x l) known) (are_known known (keys_in ms)) all).0, later) refl

-- an object with one more key, which is a known one
pub has_only-put : (known : List (List ℕ)) (k : List ℕ) (d : Data) (ms : Members)
    → list_any (λ x. bytes_eq x k) known ≡ true → has_only known ms ≡ true
    → has_only known (put k d ms) ≡ true
has_only-put known k d no_members here all = rw here refl
has_only-put known k d (member l e ms) here all =
    are_known-put_at (slice_cmp nat_cmp k l) known k l d e ms here all
    (has_only-put known k d ms here
    (and_parts (list_any (λ x. bytes_eq x l) known) (are_known known (keys_in ms)) all).1)

-- ---- fields

module _ {X : Type 0} (Means : X → Data → Type 0) where
  -- the field of the key that was put
  pub Field-put : (k : List ℕ) (d : Data) (ms : Members) (x : X) → Means x d
      → Field Means (Some x) (get_member k (put k d ms))
  Field-put k d ms x is = (d, get_member-put k d ms, is)

  -- the field of another key
  pub Field-other : (o : Option X) (q k : List ℕ) (d : Data) (ms : Members) → bytes_eq q k ≡ false
      → Field Means o (get_member q ms) → Field Means o (get_member q (put k d ms))
  Field-other o q k d ms differ held =
      subst (Field Means o) (sym (get_member-put_other q k d ms
      (λ same. true≢false (sym ((bytes_eq-Decides q k).1 same) ∙ differ)))) held

-- ---- an entry

-- before the first key an entry's object has no values
pub HoldsEntry-none : (t : TopologyValue) → HoldsEntry t None None None None None no_members
HoldsEntry-none t = record {
  keys = refl;
  lan_field = refl;
  need_field = refl;
  rank_field = refl;
  router_field = refl;
  vif_field = refl;
}

module _ (t : TopologyValue) (lan need rank router vif : Option ℕ) (d : Data) (ms : Members) where
  -- the key `lan` adds the LAN
  pub HoldsEntry-lan : (n : ℕ) → IsLanName t.lans n d → HoldsEntry t lan need rank router vif ms
      → HoldsEntry t (Some n) need rank router vif (put (codes "lan") d ms)
  HoldsEntry-lan n is old = record {
    keys = has_only-put entry_keys (codes "lan") d ms refl old.keys;
    lan_field = Field-put (IsLanName t.lans) (codes "lan") d ms n is;
    need_field = Field-other (IsWhole 1 255) need (codes "need") (codes "lan") d ms refl old.need_field;
    rank_field = Field-other (IsWhole 0 255) rank (codes "rank") (codes "lan") d ms refl old.rank_field;
    router_field = Field-other (IsRouterName t.routers) router (codes "router") (codes "lan") d ms refl
        old.router_field;
    vif_field = Field-other (IsWhole 0 31) vif (codes "vif") (codes "lan") d ms refl old.vif_field;
  }

  -- the key `need` adds the need
  pub HoldsEntry-need : (n : ℕ) → IsWhole 1 255 n d → HoldsEntry t lan need rank router vif ms
      → HoldsEntry t lan (Some n) rank router vif (put (codes "need") d ms)
  HoldsEntry-need n is old = record {
    keys = has_only-put entry_keys (codes "need") d ms refl old.keys;
    lan_field = Field-other (IsLanName t.lans) lan (codes "lan") (codes "need") d ms refl old.lan_field;
    need_field = Field-put (IsWhole 1 255) (codes "need") d ms n is;
    rank_field = Field-other (IsWhole 0 255) rank (codes "rank") (codes "need") d ms refl old.rank_field;
    router_field = Field-other (IsRouterName t.routers) router (codes "router") (codes "need") d ms refl
        old.router_field;
    vif_field = Field-other (IsWhole 0 31) vif (codes "vif") (codes "need") d ms refl old.vif_field;
  }

  -- the key `rank` adds the rank
  pub HoldsEntry-rank : (n : ℕ) → IsWhole 0 255 n d → HoldsEntry t lan need rank router vif ms
      → HoldsEntry t lan need (Some n) router vif (put (codes "rank") d ms)
  HoldsEntry-rank n is old = record {
    keys = has_only-put entry_keys (codes "rank") d ms refl old.keys;
    lan_field = Field-other (IsLanName t.lans) lan (codes "lan") (codes "rank") d ms refl old.lan_field;
    need_field = Field-other (IsWhole 1 255) need (codes "need") (codes "rank") d ms refl old.need_field;
    rank_field = Field-put (IsWhole 0 255) (codes "rank") d ms n is;
    router_field = Field-other (IsRouterName t.routers) router (codes "router") (codes "rank") d ms refl
        old.router_field;
    vif_field = Field-other (IsWhole 0 31) vif (codes "vif") (codes "rank") d ms refl old.vif_field;
  }

  -- the key `router` adds the router
  pub HoldsEntry-router : (n : ℕ) → IsRouterName t.routers n d → HoldsEntry t lan need rank router vif ms
      → HoldsEntry t lan need rank (Some n) vif (put (codes "router") d ms)
  HoldsEntry-router n is old = record {
    keys = has_only-put entry_keys (codes "router") d ms refl old.keys;
    lan_field = Field-other (IsLanName t.lans) lan (codes "lan") (codes "router") d ms refl old.lan_field;
    need_field = Field-other (IsWhole 1 255) need (codes "need") (codes "router") d ms refl old.need_field;
    rank_field = Field-other (IsWhole 0 255) rank (codes "rank") (codes "router") d ms refl old.rank_field;
    router_field = Field-put (IsRouterName t.routers) (codes "router") d ms n is;
    vif_field = Field-other (IsWhole 0 31) vif (codes "vif") (codes "router") d ms refl old.vif_field;
  }

  -- the key `vif` adds the vif
  pub HoldsEntry-vif : (n : ℕ) → IsWhole 0 31 n d → HoldsEntry t lan need rank router vif ms
      → HoldsEntry t lan need rank router (Some n) (put (codes "vif") d ms)
  HoldsEntry-vif n is old = record {
    keys = has_only-put entry_keys (codes "vif") d ms refl old.keys;
    lan_field = Field-other (IsLanName t.lans) lan (codes "lan") (codes "vif") d ms refl old.lan_field;
    need_field = Field-other (IsWhole 1 255) need (codes "need") (codes "vif") d ms refl old.need_field;
    rank_field = Field-other (IsWhole 0 255) rank (codes "rank") (codes "vif") d ms refl old.rank_field;
    router_field = Field-other (IsRouterName t.routers) router (codes "router") (codes "vif") d ms refl
        old.router_field;
    vif_field = Field-put (IsWhole 0 31) (codes "vif") d ms n is;
  }

-- fields of a router and a vif, both read or both missing, denote a forwarder
DenotesForwarder-from_fields : (routers : List RouterRow) (router vif : Option ℕ)
    (forwarder : Option Interface)
    (d v : Option Data) → Field (IsRouterName routers) router d → Field (IsWhole 0 31) vif v
    → IsForwarder router vif forwarder → DenotesForwarder routers d v forwarder
DenotesForwarder-from_fields routers None None forwarder d v no_router no_vif is = rw (no_router, no_vif) is
DenotesForwarder-from_fields routers None (Some n) forwarder d v no_router has_vif is = absurd is
DenotesForwarder-from_fields routers (Some r) None forwarder d v has_router no_vif is = absurd is
DenotesForwarder-from_fields routers (Some r) (Some n) forwarder d v (e, at, (name, text, known))
    (w, is_at, whole) is = rw (at, is_at) (
      (r, n),
      is,
      record { name = name; router_text = text; router = known; vif = whole.whole; vif_to = whole.to },
    )

-- an entry that has what it must have
pub DenotesEntry-from_fields : (t : TopologyValue) (lan need rank : ℕ) (router vif : Option ℕ)
    (forwarder : Option Interface) (ms : Members) → IsForwarder router vif forwarder
    → HoldsEntry t (Some lan) (Some need) (Some rank) router vif ms
    → DenotesEntry t (object ms)
    (record { lan = lan; rank = rank; need = need; forwarder = forwarder })
DenotesEntry-from_fields t lan need rank router vif forwarder ms is held =
    let (d, found, (name, text, known)) = held.lan_field in
    let (e, found_need, whole_need) = held.need_field in
    let (f, found_rank, whole_rank) = held.rank_field in
    record {
      members = ms;
      lan_name = name;
      is_object = record { members = refl; keys = held.keys };
      lan_text = found ∙ ap Some text;
      lan = known;
      need = found_need ∙ ap Some whole_need.whole;
      need_from = whole_need.from;
      need_to = whole_need.to;
      rank = found_rank ∙ ap Some whole_rank.whole;
      rank_to = whole_rank.to;
      forwarder = DenotesForwarder-from_fields t.routers router vif forwarder _ _ held.router_field
          held.vif_field is;
    }

-- the same, of fields that are equal to these values
pub DenotesEntry-from_found : (t : TopologyValue) (lans needs ranks : Option ℕ) (lan need rank : ℕ)
    (router vif : Option ℕ) (forwarder : Option Interface) (ms : Members) → lans ≡ Some lan
    → needs ≡ Some need → ranks ≡ Some rank → IsForwarder router vif forwarder
    → HoldsEntry t lans needs ranks router vif ms
    → DenotesEntry t (object ms)
    (record { lan = lan; rank = rank; need = need; forwarder = forwarder })
DenotesEntry-from_found t lans needs ranks lan need rank router vif forwarder ms has_lan has_need has_rank is
    held =
    DenotesEntry-from_fields t lan need rank router vif forwarder ms is
    (subst (λ (o : Option ℕ). HoldsEntry t (Some lan) (Some need) o router vif ms) has_rank
    (subst (λ (o : Option ℕ). HoldsEntry t (Some lan) o ranks router vif ms) has_need
    (subst (λ (o : Option ℕ). HoldsEntry t o needs ranks router vif ms) has_lan held)))

-- a list of entries
pub DenotesTree-from_rows : (t : TopologyValue) (ds : Items) (es : Tree) → length es ≤ 1024
    → EachDenotes (λ _. DenotesEntry t) 0 (rows_in ds) es → DenotesTree t (array ds) es
DenotesTree-from_rows t ds es few each = record {
  rows = rows_in ds;
  list = (ds, refl, refl);
  entries = record {
    few = omega (arith, few, length-EachDenotes (λ _. DenotesEntry t) 0 (rows_in ds) es each);
    each = each;
  };
}

-- ---- a flow of version 1

-- before the first key the object of a flow of version 1 has no values
pub HoldsFlow-none : (t : TopologyValue) → HoldsFlow t None None None no_members
HoldsFlow-none t = record { keys = refl; group_field = refl; reached_field = refl; source_field = refl }

module _ (t : TopologyValue) (group source : Option ℕ) (reached : Option Tree) (d : Data) (ms : Members) where
  -- the key `group` adds the group
  pub HoldsFlow-group : (a : ℕ) → IsAddress a d → HoldsFlow t group source reached ms
      → HoldsFlow t (Some a) source reached (put (codes "group") d ms)
  HoldsFlow-group a is old = record {
    keys = has_only-put flow_keys (codes "group") d ms refl old.keys;
    group_field = Field-put IsAddress (codes "group") d ms a is;
    reached_field = Field-other (λ es d. DenotesTree t d es) reached (codes "reached") (codes "group") d ms
        refl
        old.reached_field;
    source_field = Field-other IsAddress source (codes "source") (codes "group") d ms refl old.source_field;
  }

  -- the key `reached` adds the tree
  pub HoldsFlow-reached : (es : Tree) → DenotesTree t d es → HoldsFlow t group source reached ms
      → HoldsFlow t group source (Some es) (put (codes "reached") d ms)
  HoldsFlow-reached es is old = record {
    keys = has_only-put flow_keys (codes "reached") d ms refl old.keys;
    group_field = Field-other IsAddress group (codes "group") (codes "reached") d ms refl old.group_field;
    reached_field = Field-put (λ es d. DenotesTree t d es) (codes "reached") d ms es is;
    source_field = Field-other IsAddress source (codes "source") (codes "reached") d ms refl old.source_field;
  }

  -- the key `source` adds the source
  pub HoldsFlow-source : (a : ℕ) → IsAddress a d → HoldsFlow t group source reached ms
      → HoldsFlow t group (Some a) reached (put (codes "source") d ms)
  HoldsFlow-source a is old = record {
    keys = has_only-put flow_keys (codes "source") d ms refl old.keys;
    group_field = Field-other IsAddress group (codes "group") (codes "source") d ms refl old.group_field;
    reached_field = Field-other (λ es d. DenotesTree t d es) reached (codes "reached") (codes "source") d ms
        refl
        old.reached_field;
    source_field = Field-put IsAddress (codes "source") d ms a is;
  }

-- a flow that has what it must have
pub DenotesFlow-from_fields : (t : TopologyValue) (n : ℕ) (f : Flow) (group source : Option ℕ) (es : Tree)
    (ms : Members) → slice_get t.flows n ≡ Some f → group ≡ Some f.group → source ≡ Some f.source
    → HoldsFlow t group source (Some es) ms → DenotesFlow t n (object ms) es
DenotesFlow-from_fields t n f group source es ms listed is_group is_source held =
    let (d, found, text) : Field IsAddress (Some f.group) (get_member (codes "group") ms)
    = subst (λ (o : Option ℕ). Field IsAddress o (get_member (codes "group") ms)) is_group held.group_field in
    let (e, found_source, text_source) : Field IsAddress (Some f.source) (get_member (codes "source") ms)
    = subst (λ (o : Option ℕ). Field IsAddress o (get_member (codes "source") ms)) is_source
    held.source_field in
    let (list, found_list, tree) = held.reached_field in
    record {
      flow = f;
      members = ms;
      rows = tree.rows;
      listed = listed;
      is_object = record { members = refl; keys = held.keys };
      group = found ∙ ap Some text;
      source = found_source ∙ ap Some text_source;
      list = (list, found_list, tree.list);
      entries = tree.entries;
    }

-- the entries that were found, if any were
pub DenotesFlow-from_found : {V : Type 0} (entries : V → Tree) (t : TopologyValue) (n : ℕ) (f : Flow)
    (group source : Option ℕ) (reached : Option V) → slice_get t.flows n ≡ Some f → group ≡ Some f.group
    → source ≡ Some f.source
    → IfSome reached (λ v. (ms : Members) → HoldsFlow t group source (option_map entries reached) ms
    → DenotesFlow t n (object ms) (entries v))
DenotesFlow-from_found entries t n f group source None listed is_group is_source = tt
DenotesFlow-from_found entries t n f group source (Some v) listed is_group is_source = λ ms held.
    DenotesFlow-from_fields t n f group source (entries v) ms listed is_group is_source held

-- a list of flows
pub DenotesFlows-from_rows : (t : TopologyValue) (ds : Items) (flows : List Tree)
    → length flows ≡ length t.flows → EachDenotes (DenotesFlow t) 0 (rows_in ds) flows
    → DenotesFlows t (array ds) flows
DenotesFlows-from_rows t ds flows count each = record {
  rows = rows_in ds;
  list = (ds, refl, refl);
  count = length-EachDenotes (DenotesFlow t) 0 (rows_in ds) flows each ∙ count;
  each = each;
}

-- ---- a flow of version 2

-- before the first key the object of a flow of version 2 has no values
pub HoldsSharedFlow-none : HoldsSharedFlow None None None no_members
HoldsSharedFlow-none = record { keys = refl; group_field = refl; source_field = refl; tree_field = refl }

module _ (group source tree : Option ℕ) (d : Data) (ms : Members) where
  -- the key `group` adds the group
  pub HoldsSharedFlow-group : (a : ℕ) → IsAddress a d → HoldsSharedFlow group source tree ms
      → HoldsSharedFlow (Some a) source tree (put (codes "group") d ms)
  HoldsSharedFlow-group a is old = record {
    keys = has_only-put shared_flow_keys (codes "group") d ms refl old.keys;
    group_field = Field-put IsAddress (codes "group") d ms a is;
    source_field = Field-other IsAddress source (codes "source") (codes "group") d ms refl old.source_field;
    tree_field = Field-other (IsWhole 0 4095) tree (codes "tree") (codes "group") d ms refl old.tree_field;
  }

  -- the key `source` adds the source
  pub HoldsSharedFlow-source : (a : ℕ) → IsAddress a d → HoldsSharedFlow group source tree ms
      → HoldsSharedFlow group (Some a) tree (put (codes "source") d ms)
  HoldsSharedFlow-source a is old = record {
    keys = has_only-put shared_flow_keys (codes "source") d ms refl old.keys;
    group_field = Field-other IsAddress group (codes "group") (codes "source") d ms refl old.group_field;
    source_field = Field-put IsAddress (codes "source") d ms a is;
    tree_field = Field-other (IsWhole 0 4095) tree (codes "tree") (codes "source") d ms refl old.tree_field;
  }

  -- the key `tree` adds the number of the tree
  pub HoldsSharedFlow-tree : (n : ℕ) → IsWhole 0 4095 n d → HoldsSharedFlow group source tree ms
      → HoldsSharedFlow group source (Some n) (put (codes "tree") d ms)
  HoldsSharedFlow-tree n is old = record {
    keys = has_only-put shared_flow_keys (codes "tree") d ms refl old.keys;
    group_field = Field-other IsAddress group (codes "group") (codes "tree") d ms refl old.group_field;
    source_field = Field-other IsAddress source (codes "source") (codes "tree") d ms refl old.source_field;
    tree_field = Field-put (IsWhole 0 4095) (codes "tree") d ms n is;
  }

-- a flow that has what it must have
pub DenotesNumber-from_fields : (t : TopologyValue) (n : ℕ) (f : Flow) (group source : Option ℕ) (tree : ℕ)
    (ms : Members) → slice_get t.flows n ≡ Some f → group ≡ Some f.group → source ≡ Some f.source
    → HoldsSharedFlow group source (Some tree) ms → DenotesNumber t n (object ms) tree
DenotesNumber-from_fields t n f group source tree ms listed is_group is_source held =
    let (d, found, text) : Field IsAddress (Some f.group) (get_member (codes "group") ms)
    = subst (λ (o : Option ℕ). Field IsAddress o (get_member (codes "group") ms)) is_group held.group_field in
    let (e, found_source, text_source) : Field IsAddress (Some f.source) (get_member (codes "source") ms)
    = subst (λ (o : Option ℕ). Field IsAddress o (get_member (codes "source") ms)) is_source
    held.source_field in
    let (v, found_tree, whole) = held.tree_field in
    record {
      flow = f;
      members = ms;
      listed = listed;
      is_object = record { members = refl; keys = held.keys };
      group = found ∙ ap Some text;
      source = found_source ∙ ap Some text_source;
      tree_number = found_tree ∙ ap Some whole.whole;
    }

-- the number that was found, if any was
pub DenotesNumber-from_found : (t : TopologyValue) (n : ℕ) (f : Flow) (group source tree : Option ℕ)
    → slice_get t.flows n ≡ Some f → group ≡ Some f.group → source ≡ Some f.source
    → IfSome tree (λ tree_no. (ms : Members) → HoldsSharedFlow group source tree ms
    → DenotesNumber t n (object ms) tree_no)
DenotesNumber-from_found t n f group source None listed is_group is_source = tt
DenotesNumber-from_found t n f group source (Some tree_no) listed is_group is_source = λ ms held.
    DenotesNumber-from_fields t n f group source tree_no ms listed is_group is_source held

-- a list of numbers
pub DenotesNumbers-from_rows : (t : TopologyValue) (ds : Items) (numbers : List ℕ)
    → length numbers ≡ length t.flows → EachDenotes (DenotesNumber t) 0 (rows_in ds) numbers
    → DenotesNumbers t (array ds) numbers
DenotesNumbers-from_rows t ds numbers count each = record {
  rows = rows_in ds;
  list = (ds, refl, refl);
  count = length-EachDenotes (DenotesNumber t) 0 (rows_in ds) numbers each ∙ count;
  each = each;
}

-- a list of trees
pub DenotesTrees-from_rows : (t : TopologyValue) (ds : Items) (trees : List Tree) → length trees ≤ 4096
    → EachDenotes (λ _. DenotesTree t) 0 (rows_in ds) trees → DenotesTrees t (array ds) trees
DenotesTrees-from_rows t ds trees few each = record {
  rows = rows_in ds;
  list = (ds, refl, refl);
  few = omega (arith, few, length-EachDenotes (λ _. DenotesTree t) 0 (rows_in ds) trees each);
  each = each;
}

-- flows whose numbers are below the count of the trees have these trees
EachDenotes-from_numbers : (t : TopologyValue) (trees : List Tree) (n : ℕ) (ds : List Data) (ms : List ℕ)
    → EachDenotes (DenotesNumber t) n ds ms → AllByRecursion (λ m. m < length trees) ms
    → EachDenotes (DenotesSharedFlow t trees) n ds (map (tree_at trees) ms)
EachDenotes-from_numbers t trees n [] [] all below = tt
EachDenotes-from_numbers t trees n [] (m ∷ ms) all below = absurd all
EachDenotes-from_numbers t trees n (d ∷ ds) [] all below = absurd all
EachDenotes-from_numbers t trees n (d ∷ ds) (m ∷ ms) (here, all) (lt, below) = (
  record {
    flow = here.flow;
    members = here.members;
    number = m;
    listed = here.listed;
    is_object = here.is_object;
    group = here.group;
    source = here.source;
    tree_number = here.tree_number;
    tree = slice_get-unwrap_or trees m [] lt;
  },
  EachDenotes-from_numbers t trees (n + 1) ds ms all below,
)

-- ---- the whole

-- before the first key a certificate of version 1 has no values
pub HoldsVersionOne-none : (t : TopologyValue) → HoldsVersionOne t None None no_members
HoldsVersionOne-none t = record { keys = refl; version_field = refl; flows_field = refl }

module _ (t : TopologyValue) (version : Option ℕ) (flows : Option (List Tree)) (d : Data) (ms : Members) where
  -- the key `version` adds the version
  pub HoldsVersionOne-version : (n : ℕ) → IsWhole 1 1 n d → HoldsVersionOne t version flows ms
      → HoldsVersionOne t (Some n) flows (put (codes "version") d ms)
  HoldsVersionOne-version n is old = record {
    keys = has_only-put (top_keys One) (codes "version") d ms refl old.keys;
    version_field = Field-put (IsWhole 1 1) (codes "version") d ms n is;
    flows_field = Field-other (λ ts d. DenotesFlows t d ts) flows (codes "flows") (codes "version") d ms refl
        old.flows_field;
  }

  -- the key `flows` adds the flows' trees
  pub HoldsVersionOne-flows : (ts : List Tree) → DenotesFlows t d ts → HoldsVersionOne t version flows ms
      → HoldsVersionOne t version (Some ts) (put (codes "flows") d ms)
  HoldsVersionOne-flows ts is old = record {
    keys = has_only-put (top_keys One) (codes "flows") d ms refl old.keys;
    version_field = Field-other (IsWhole 1 1) version (codes "version") (codes "flows") d ms refl
        old.version_field;
    flows_field = Field-put (λ ts d. DenotesFlows t d ts) (codes "flows") d ms ts is;
  }

-- the flows' entries can be written
pub IsWritableTree-from_flows : (t : TopologyValue) (version : Option ℕ) (o : Option (List Tree))
    (flows : List Tree) (ms : Members) → HoldsVersionOne t version o ms → o ≡ Some flows
    → All IsWritableTree flows × (length flows ≡ length t.flows)
IsWritableTree-from_flows t version o flows ms held is =
    let (d, found, are) : Field (λ ts d. DenotesFlows t d ts) (Some flows) (get_member (codes "flows") ms)
    = subst (λ (x : Option (List Tree)). Field (λ ts d. DenotesFlows t d ts) x
    (get_member (codes "flows") ms)) is held.flows_field in (
      All-from_EachDenotes (DenotesFlow t) IsWritableTree
          (λ _ d es is. IsWritableTree-from_denotes t is.rows es is.entries) 0 are.rows flows are.each,
      sym (length-EachDenotes (DenotesFlow t) 0 are.rows flows are.each) ∙ are.count,
    )

-- before the first key a certificate of version 2 has no values
pub HoldsVersionTwo-none : (t : TopologyValue) → HoldsVersionTwo t None None None no_members
HoldsVersionTwo-none t = record { keys = refl; version_field = refl; flows_field = refl; trees_field = refl }

module _ (t : TopologyValue) (version : Option ℕ) (numbers : Option (List ℕ)) (trees : Option (List Tree))
    (d : Data) (ms : Members) where
  -- the key `version` adds the version
  pub HoldsVersionTwo-version : (n : ℕ) → IsWhole 2 2 n d → HoldsVersionTwo t version numbers trees ms
      → HoldsVersionTwo t (Some n) numbers trees (put (codes "version") d ms)
  HoldsVersionTwo-version n is old = record {
    keys = has_only-put (top_keys Two) (codes "version") d ms refl old.keys;
    version_field = Field-put (IsWhole 2 2) (codes "version") d ms n is;
    flows_field = Field-other (λ ns d. DenotesNumbers t d ns) numbers (codes "flows") (codes "version") d ms
        refl
        old.flows_field;
    trees_field = Field-other (λ ts d. DenotesTrees t d ts) trees (codes "trees") (codes "version") d ms refl
        old.trees_field;
  }

  -- the key `flows` adds the numbers of the flows' trees
  pub HoldsVersionTwo-flows : (ns : List ℕ) → DenotesNumbers t d ns → HoldsVersionTwo t version numbers
      trees ms
      → HoldsVersionTwo t version (Some ns) trees (put (codes "flows") d ms)
  HoldsVersionTwo-flows ns is old = record {
    keys = has_only-put (top_keys Two) (codes "flows") d ms refl old.keys;
    version_field = Field-other (IsWhole 2 2) version (codes "version") (codes "flows") d ms refl
        old.version_field;
    flows_field = Field-put (λ ns d. DenotesNumbers t d ns) (codes "flows") d ms ns is;
    trees_field = Field-other (λ ts d. DenotesTrees t d ts) trees (codes "trees") (codes "flows") d ms refl
        old.trees_field;
  }

  -- the key `trees` adds the trees
  pub HoldsVersionTwo-trees : (ts : List Tree) → DenotesTrees t d ts → HoldsVersionTwo t version numbers
      trees ms
      → HoldsVersionTwo t version numbers (Some ts) (put (codes "trees") d ms)
  HoldsVersionTwo-trees ts is old = record {
    keys = has_only-put (top_keys Two) (codes "trees") d ms refl old.keys;
    version_field = Field-other (IsWhole 2 2) version (codes "version") (codes "trees") d ms refl
        old.version_field;
    flows_field = Field-other (λ ns d. DenotesNumbers t d ns) numbers (codes "flows") (codes "trees") d ms
        refl
        old.flows_field;
    trees_field = Field-put (λ ts d. DenotesTrees t d ts) (codes "trees") d ms ts is;
  }

-- a certificate of version 2 that has what it must have
pub IsVersion-from_version_two : (t : TopologyValue) (n : ℕ) (numbers : List ℕ) (trees : List Tree)
    (ms : Members) → AllByRecursion (λ m. m < length trees) numbers
    → HoldsVersionTwo t (Some n) (Some numbers) (Some trees) ms
    → IsVersion Two t ms (map (tree_at trees) numbers)
IsVersion-from_version_two t n numbers trees ms below held =
    let (d, found, whole) = held.version_field in
    let (list, found_list, are) = held.flows_field in
    let (tree_list, found_trees, are_trees) = held.trees_field in
    let two : n ≡ 2 = omega (arith, whole.from, whole.to) in
    record {
      version_number = found ∙ ap Some (whole.whole ∙ ap (λ k. number (unsigned k)) two);
      keys = held.keys;
      denotes = record {
        rows = are.rows;
        tree_rows = are_trees.rows;
        trees = trees;
        list = (list, found_list, are.list);
        count = are.count;
        tree_list = (tree_list, found_trees, are_trees.list);
        few_trees = are_trees.few;
        each_tree = are_trees.each;
        each = EachDenotes-from_numbers t trees 0 are.rows numbers are.each below;
      };
    }

-- the same, of fields that are equal to these values
pub IsVersion-from_version_two_found : (t : TopologyValue) (version : Option ℕ) (o : Option (List ℕ))
    (p : Option (List Tree)) (n : ℕ) (numbers : List ℕ) (trees : List Tree) (ms : Members)
    → AllByRecursion (λ m. m < length trees) numbers → HoldsVersionTwo t version o p ms → version ≡ Some n
    → o ≡ Some numbers → p ≡ Some trees → IsVersion Two t ms (map (tree_at trees) numbers)
IsVersion-from_version_two_found t version o p n numbers trees ms below held is are have =
    IsVersion-from_version_two t n numbers trees ms below
    (subst (λ (x : Option (List Tree)). HoldsVersionTwo t (Some n) (Some numbers) x ms) have
    (subst (λ (x : Option (List ℕ)). HoldsVersionTwo t (Some n) x p ms) are
    (subst (λ (x : Option ℕ). HoldsVersionTwo t x o p ms) is held)))

-- the trees can be written, and there are as many numbers as flows
pub IsWritableTree-from_trees : (t : TopologyValue) (version : Option ℕ) (o : Option (List ℕ))
    (p : Option (List Tree)) (numbers : List ℕ) (trees : List Tree) (ms : Members)
    → HoldsVersionTwo t version o p ms → o ≡ Some numbers → p ≡ Some trees
    → All IsWritableTree trees × (length numbers ≡ length t.flows)
IsWritableTree-from_trees t version o p numbers trees ms held is are_some =
    let (d, found, are) : Field (λ ns d. DenotesNumbers t d ns) (Some numbers) (get_member (codes "flows") ms)
    = subst (λ (x : Option (List ℕ)). Field (λ ns d. DenotesNumbers t d ns) x
    (get_member (codes "flows") ms)) is held.flows_field in
    let (e, found_trees, are_trees) : Field (λ ts d. DenotesTrees t d ts) (Some trees)
    (get_member (codes "trees") ms)
    = subst (λ (x : Option (List Tree)). Field (λ ts d. DenotesTrees t d ts) x
    (get_member (codes "trees") ms)) are_some held.trees_field in (
      All-from_EachDenotes (λ _. DenotesTree t) IsWritableTree
          (λ _ d es is. IsWritableTree-from_denotes t is.rows es is.entries) 0 are_trees.rows trees
          are_trees.each,
      sym (length-EachDenotes (DenotesNumber t) 0 are.rows numbers are.each) ∙ are.count,
    )

-- the text of the members of a certificate
pub DenotesCertificate-from_IsVersion : (version : Version) (t : TopologyValue) (text : List ℕ) (ms : Members)
    (flows : List Tree) → length text ≤ 16777216 → IsUtf8 text → read text ≡ Some (object ms)
    → IsVersion version t ms flows → DenotesCertificate t text flows
DenotesCertificate-from_IsVersion version t text ms flows few utf8 reads made = record {
  document = ms;
  version = version;
  few = few;
  utf8 = utf8;
  reads = reads;
  version_number = made.version_number;
  keys = made.keys;
  denotes = made.denotes;
}
