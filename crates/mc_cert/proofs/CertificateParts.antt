-- A part that is read denotes its value, and a part that denotes a value is read as that.
use Rattle.std.proofs.Common.{◌≡◌, ℕ, ◌+◌, ◌<◌, ◌≤◌, All, IfSome, true, List, [], ◌∷◌, ◌++◌, length}
use Rattle.std.proofs.Common.{codes, Option, Some, None, Result, Ok, Err, nat_lt, refl, sym, ap}
use Rattle.std.proofs.Common.{subst, ◌∙◌, arith, append_assoc}
use Rattle.std.specs.Prelude.{slice_get}
use Rattle.std.specs.Option.{ok_or}
use Rattle.std.proofs.lemmas.Bool.{and_parts, ltb-true, lt-ltb}
use Rattle.std.proofs.lemmas.List.{append-nil, length-append}
use Rattle.std.proofs.lemmas.List.Elements.{All-nil, All-cons}
use Rattle.std.proofs.lemmas.Slice.Eq.{bytes_eq-Decides}
use Rattle.serde_json.specs.Data.{unsigned, Data, number, string, Members}
use Rattle.serde_json.specs.Find.{get_member, as_u64}
use Rattle.mc_text.specs.Addr.{dotted}
use Rattle.mc_theory.specs.Nets.{Interface}
use Rattle.mc_theory.specs.Certificates.{Entry}
use Rattle.mc_topology.specs.declared.flow.Flow.{Flow}
use Rattle.mc_topology.specs.EachRow.{read_rows}
use Rattle.mc_topology.specs.Names.{index_of}
use Rattle.mc_topology.specs.SectionRows.{RouterRow}
use Rattle.mc_topology.specs.Lookup.{router_no_of}
use Rattle.mc_topology.specs.Topology.{TopologyValue}
use Rattle.mc_topology.proofs.Steps.{bind_ok, test_ok, checked_ok, ok_or_ok, ok_injective}
use Rattle.mc_topology.proofs.Steps.{located_ok, map_fault_ok}
use Rattle.mc_cert.specs.declared.fault.At.{At}
use Rattle.mc_cert.specs.declared.fault.At.TheVariants as at
use Rattle.mc_cert.specs.declared.fault.CertFaultKind.TheVariants.{MissingKey, BadNumber}
use Rattle.mc_cert.specs.declared.fault.CertFaultKind.TheVariants.{UnknownName, WrongFlows}
use Rattle.mc_cert.specs.declared.fault.CertFault.{CertFault}
use Rattle.mc_cert.specs.Answer.{locate_fault, entry_place, each_row}
use Rattle.mc_cert.specs.Certificate.{Tree, IsWritableEntry, IsWritableTree}
use Rattle.mc_cert.specs.Object.{text_of, number_of, object_of, text_at, number_at, list_of}
use Rattle.mc_cert.specs.Object.{list_at, in_range, whole_at, at_most}
use Rattle.mc_cert.specs.Entries.{entry_keys, lan_in, router_of, vif_of, forwarder_of, entry_of}
use Rattle.mc_cert.specs.Entries.{entries_in_rows}
use Rattle.mc_cert.specs.VersionOne.{are_texts_of_flow, flow_at, flow_keys, reached_rows, flow_of}
use Rattle.mc_cert.specs.VersionTwo.{tree_entry_rows, tree_of, below_count, shared_flow_keys, tree_no_of}
use Rattle.mc_cert.specs.VersionTwo.{shared_flow_of}
use Rattle.mc_cert.specs.Denotation.{HasText, HasNumber, HasRows, EachDenotes, DenotesInterface}
use Rattle.mc_cert.specs.Denotation.{DenotesForwarder, DenotesEntry, DenotesEntries, DenotesFlow}
use Rattle.mc_cert.specs.Denotation.{DenotesTree}
use Rattle.mc_cert.proofs.Fields.{unsigned-from_as_u64, string-from_text_of, number-from_number_of}
use Rattle.mc_cert.proofs.Fields.{HasText-from_text_at, text_at-from_HasText, HasNumber-from_number_at}
use Rattle.mc_cert.proofs.Fields.{number_at-from_HasNumber, in_range-sound, in_range-complete}
use Rattle.mc_cert.proofs.Fields.{HasNumber-from_whole_at, whole_at-from_HasNumber}
use Rattle.mc_cert.proofs.Fields.{IsObject-from_object_of, object_of-from_IsObject, AreRows-from_list_of}
use Rattle.mc_cert.proofs.Fields.{list_of-from_AreRows, HasRows-from_list_at, list_at-from_HasRows}
use Rattle.mc_cert.proofs.Fields.{at_most-sound, at_most-complete}

-- ---- rows

module _ {X : Type 0} (one : ℕ → Data → Result X CertFault) (Denotation : ℕ → Data → X → Type 0) where
  -- where what is read of each row is denoted by it, what is read of all rows is denoted, after the earlier
  -- values
  pub each_row-denotes : ((n : ℕ) (d : Data) (x : X) → one n d ≡ Ok x → Denotation n d x)
      → (earlier : List X) (ds : List Data) (xs : List X) → each_row one earlier ds ≡ Ok xs
      → (ys : List X) × (xs ≡ earlier ++ ys) × EachDenotes Denotation (length earlier) ds ys
  unfolding read_rows
  each_row-denotes takes earlier [] xs e =
      ([], sym (ok_injective earlier xs e) ∙ sym (append-nil earlier), tt)
  each_row-denotes takes earlier (d ∷ ds) xs e =
      let a = bind_ok (one (length earlier) d) (λ x. each_row one (earlier ++ x ∷ []) ds) xs e in
      let (ys, is, denoted) = each_row-denotes takes (earlier ++ a.0 ∷ []) ds xs a.2 in (
        a.0 ∷ ys,
        is ∙ append_assoc earlier (a.0 ∷ []) ys,
        (
          takes (length earlier) d a.0 a.1,
          subst (λ n. EachDenotes Denotation n ds ys)
              (length-append earlier (a.0 ∷ [])) denoted,
        ),
      )

  -- the other way round, denoted values are read, after the earlier ones
  pub each_row-from_denotes : ((n : ℕ) (d : Data) (x : X) → Denotation n d x → one n d ≡ Ok x)
      → (earlier : List X) (ds : List Data) (xs : List X) → EachDenotes Denotation (length earlier) ds xs
      → each_row one earlier ds ≡ Ok (earlier ++ xs)
  unfolding read_rows
  each_row-from_denotes again earlier [] [] s = ap Ok (sym (append-nil earlier))
  each_row-from_denotes again earlier [] (x ∷ xs) s = absurd s
  each_row-from_denotes again earlier (d ∷ ds) [] s = absurd s
  each_row-from_denotes again earlier (d ∷ ds) (x ∷ xs) s =
      let denoted = subst (λ n. EachDenotes Denotation n ds xs) (sym (length-append earlier (x ∷ []))) s.1 in
      rw (again (length earlier) d x s.0) (each_row-from_denotes again (earlier ++ x ∷ []) ds xs denoted
      ∙ ap Ok (append_assoc earlier (x ∷ []) xs))

  -- so it is where there are no earlier values
  pub each_row-denotes_all : ((n : ℕ) (d : Data) (x : X) → one n d ≡ Ok x → Denotation n d x)
      → (ds : List Data) (xs : List X) → each_row one [] ds ≡ Ok xs → EachDenotes Denotation 0 ds xs
  each_row-denotes_all takes ds xs e =
      let (ys, is, denoted) = each_row-denotes takes [] ds xs e in
      subst (λ (zs : List X). EachDenotes Denotation 0 ds zs) (sym is) denoted

module _ {X : Type 0} (Denotation : ℕ → Data → X → Type 0) where
  -- as many values are denoted as there are rows
  pub length-EachDenotes : (n : ℕ) (ds : List Data) (xs : List X) → EachDenotes Denotation n ds xs
      → length ds ≡ length xs
  length-EachDenotes n [] [] s = refl
  length-EachDenotes n [] (x ∷ xs) s = absurd s
  length-EachDenotes n (d ∷ ds) [] s = absurd s
  length-EachDenotes n (d ∷ ds) (x ∷ xs) s = omega (arith, length-EachDenotes (n + 1) ds xs s.1)

  -- what holds of each denoted value holds of all
  pub All-from_EachDenotes : (P : X → Type 0) → ((n : ℕ) (d : Data) (x : X) → Denotation n d x → P x)
      → (n : ℕ) (ds : List Data) (xs : List X) → EachDenotes Denotation n ds xs → All P xs
  All-from_EachDenotes P gives n [] [] s = All-nil P
  All-from_EachDenotes P gives n [] (x ∷ xs) s = absurd s
  All-from_EachDenotes P gives n (d ∷ ds) [] s = absurd s
  All-from_EachDenotes P gives n (d ∷ ds) (x ∷ xs) s = All-cons P x xs (gives n d x s.0)
      (All-from_EachDenotes P gives (n + 1) ds xs s.1)

-- ---- entries

-- what is read as a router is the text of its name
router_of-denotes : (routers : List RouterRow) (d : Data) (router : ℕ) → router_of routers d ≡ Ok router
    → (name : List ℕ) × (d ≡ string name) × (router_no_of name routers ≡ Some router)
unfolding router_of
router_of-denotes routers d router e =
    let a = bind_ok (text_of d) (λ name. ok_or (router_no_of name routers) UnknownName) router e in
    (a.0, string-from_text_of d a.0 a.1, ok_or_ok (router_no_of a.0 routers) UnknownName router a.2)

-- what is read as a vif is a whole number up to 31
vif_of-denotes : (v : Data) (vif : ℕ) → vif_of v ≡ Ok vif → (v ≡ number (unsigned vif)) × (vif ≤ 31)
unfolding vif_of
vif_of-denotes v vif e =
    let a = bind_ok (number_of v) (λ n. in_range 0 31 (as_u64 n)) vif e in
    let w = in_range-sound 0 31 (as_u64 a.0) vif a.2 in
    (number-from_number_of v a.0 a.1 ∙ ap number (unsigned-from_as_u64 a.0 vif w.0), w.2)

-- the keys of a forwarder are both there or both missing where they are read
forwarder_of-denotes : (routers : List RouterRow) (router vif : Option Data)
    (forwarder : Option Interface) → forwarder_of routers router vif ≡ Ok forwarder
    → DenotesForwarder routers router vif forwarder
unfolding forwarder_of
forwarder_of-denotes routers None None forwarder e = sym (ok_injective None forwarder e)
forwarder_of-denotes routers None (Some v) forwarder e = absurd cc
forwarder_of-denotes routers (Some d) None forwarder e =
    let a = bind_ok (router_of routers d) (λ _. Err MissingKey) forwarder e in
    let none : Err MissingKey ≡ Ok forwarder = a.2 in
    absurd cc
forwarder_of-denotes routers (Some d) (Some v) forwarder e =
    let a = bind_ok (router_of routers d) _ forwarder e in
    let b = bind_ok (vif_of v) (λ vif. Ok (Some (a.0, vif))) forwarder a.2 in
    let (name, text, router) = router_of-denotes routers d a.0 a.1 in
    let (vif, vif_to) = vif_of-denotes v b.0 b.1 in (
      (a.0, b.0),
      sym (ok_injective (Some (a.0, b.0)) forwarder b.2),
      record { name = name; router_text = text; router = router; vif = vif; vif_to = vif_to },
    )

-- an interface that is denoted is read as it
forwarder_of-from_DenotesInterface : (routers : List RouterRow) (d v : Data) (i : Interface)
    → DenotesInterface routers d v i → forwarder_of routers (Some d) (Some v) ≡ Ok (Some (i.0, i.1))
unfolding forwarder_of router_of vif_of
forwarder_of-from_DenotesInterface routers d v i is = rw (
  is.router_text,
  is.router,
  is.vif,
  in_range-complete 0 31 i.1 (omega arith) is.vif_to,
) refl

-- so is a forwarder, or none
forwarder_of-from_denotes : (routers : List RouterRow) (router vif : Option Data)
    (forwarder : Option Interface) → DenotesForwarder routers router vif forwarder
    → forwarder_of routers router vif ≡ Ok forwarder
unfolding forwarder_of
forwarder_of-from_denotes routers None None forwarder is = ap Ok (sym is)
forwarder_of-from_denotes routers None (Some v) forwarder is = absurd is
forwarder_of-from_denotes routers (Some d) None forwarder is = absurd is
forwarder_of-from_denotes routers (Some d) (Some v) forwarder (i, same, is) =
    forwarder_of-from_DenotesInterface routers d v i is
    ∙ ap Ok (sym same)

-- each step of reading an entry gives one rule of its denotation
entry_of-denotes : (t : TopologyValue) (d : Data) (e : Entry) → entry_of t d ≡ Ok e → DenotesEntry t d e
unfolding entry_of lan_in
entry_of-denotes t d e read =
    let o = bind_ok (object_of entry_keys d) _ e read in
    let lan = bind_ok (lan_in t.lans o.0) _ e o.2 in
    let name = bind_ok (text_at (codes "lan") o.0)
    (λ name. ok_or (index_of name t.lans) UnknownName) lan.0 lan.1 in
    let need = bind_ok (whole_at (codes "need") 1 255 o.0) _ e lan.2 in
    let rank = bind_ok (whole_at (codes "rank") 0 255 o.0) _ e need.2 in
    let forwarder = bind_ok (forwarder_of t.routers (get_member (codes "router") o.0)
    (get_member (codes "vif") o.0)) _ e rank.2 in
    let (has_need, need_from, need_to) = HasNumber-from_whole_at (codes "need") 1 255 o.0 need.0 need.1 in
    let (has_rank, rank_from, rank_to) = HasNumber-from_whole_at (codes "rank") 0 255 o.0 rank.0 rank.1 in
    let made : Entry = record {
      lan = lan.0;
      rank = rank.0;
      need = need.0;
      forwarder =
          forwarder.0;
    } in
    subst (DenotesEntry t d) (ok_injective made e forwarder.2)
    (record {
      members = o.0;
      lan_name = name.0;
      is_object = IsObject-from_object_of entry_keys d o.0 o.1;
      lan_text = HasText-from_text_at (codes "lan") o.0 name.0 name.1;
      lan = ok_or_ok (index_of name.0 t.lans) UnknownName lan.0 name.2;
      need = has_need;
      need_from = need_from;
      need_to = need_to;
      rank = has_rank;
      rank_to = rank_to;
      forwarder = forwarder_of-denotes t.routers _ _ forwarder.0 forwarder.1;
    })

-- and each rule lets its step succeed
entry_of-from_denotes : (t : TopologyValue) (d : Data) (e : Entry) → DenotesEntry t d e → entry_of t d ≡ Ok e
unfolding entry_of lan_in
entry_of-from_denotes t d e is =
    rw (
      object_of-from_IsObject entry_keys d is.members is.is_object,
      text_at-from_HasText (codes "lan") is.members is.lan_name is.lan_text,
      is.lan,
      whole_at-from_HasNumber (codes "need") 1 255 is.members e.need is.need is.need_from is.need_to,
      whole_at-from_HasNumber (codes "rank") 0 255 is.members e.rank is.rank
          (omega arith) is.rank_to,
      forwarder_of-from_denotes t.routers _ _ e.forwarder
          is.forwarder,
    )
    refl

-- the entries that are read are denoted, row by row
entries_in_rows-denotes : (t : TopologyValue) (list : At) (rows : List Data) (es : Tree)
    → length rows ≤ 1024 → entries_in_rows t list rows ≡ Ok es → DenotesEntries t rows es
unfolding entries_in_rows
entries_in_rows-denotes t list rows es few e =
    record {
      few = few;
      each = each_row-denotes_all (λ n d. locate_fault (entry_place list (n + 1)) (entry_of t d))
          (λ _. DenotesEntry t)
          (λ n d x read. entry_of-denotes t d x (map_fault_ok _ (entry_of t d) x read)) rows es e;
    }

-- and entries that are denoted are read
entries_in_rows-from_denotes : (t : TopologyValue) (list : At) (rows : List Data) (es : Tree)
    → DenotesEntries t rows es → entries_in_rows t list rows ≡ Ok es
unfolding entries_in_rows
entries_in_rows-from_denotes t list rows es are =
    each_row-from_denotes (λ n d. locate_fault (entry_place list (n + 1)) (entry_of t d))
    (λ _. DenotesEntry t)
    (λ n d x is. ap (locate_fault (entry_place list (n + 1))) (entry_of-from_denotes t d x is)) [] rows
    es are.each

-- what holds of each interface that is denoted holds of a forwarder
pub IfSome-from_DenotesForwarder : (P : Interface → Type 0) (routers : List RouterRow)
    → ((d v : Data) (i : Interface) → DenotesInterface routers d v i → P i) → (router vif : Option Data)
    (forwarder : Option Interface) → DenotesForwarder routers router vif forwarder → IfSome forwarder P
IfSome-from_DenotesForwarder P routers gives None None forwarder is = rw is tt
IfSome-from_DenotesForwarder P routers gives None (Some v) forwarder is = absurd is
IfSome-from_DenotesForwarder P routers gives (Some d) None forwarder is = absurd is
IfSome-from_DenotesForwarder P routers gives (Some d) (Some v) forwarder (i, same, is) =
    rw same (gives d v i is)

-- an entry that is denoted has a need of at least 1, and a vif of at most 31
IsWritableEntry-from_denotes : (t : TopologyValue) (d : Data) (e : Entry) → DenotesEntry t d e
    → IsWritableEntry e
IsWritableEntry-from_denotes t d e is =
    record {
      need = is.need_from;
      vif = IfSome-from_DenotesForwarder (λ i. i.1 ≤ 31) t.routers (λ d v i at. at.vif_to) _ _ e.forwarder
          is.forwarder;
    }

-- entries that are denoted can be written
pub IsWritableTree-from_denotes : (t : TopologyValue) (rows : List Data) (es : Tree)
    → DenotesEntries t rows es
    → IsWritableTree es
IsWritableTree-from_denotes t rows es are =
    record {
      few = omega (arith, are.few, length-EachDenotes (λ _. DenotesEntry t) 0 rows es are.each);
      each = All-from_EachDenotes (λ _. DenotesEntry t) IsWritableEntry
          (λ _ d e is. IsWritableEntry-from_denotes t d e is) 0 rows es
          are.each;
    }

-- ---- flows

-- texts that pass the comparison are the flow's addresses
are_texts_of_flow-sound : (f : Flow) (group source : List ℕ) → are_texts_of_flow f group source ≡ true
    → (group ≡ dotted f.group) × (source ≡ dotted f.source)
are_texts_of_flow-sound f group source e =
    let (g, s) = and_parts _ _ e in
    ((bytes_eq-Decides group (dotted f.group)).0 g, (bytes_eq-Decides source (dotted f.source)).0 s)

-- and the flow's addresses pass it
are_texts_of_flow-dotted : (f : Flow) → are_texts_of_flow f (dotted f.group) (dotted f.source) ≡ true
are_texts_of_flow-dotted f = rw (
  (bytes_eq-Decides (dotted f.group) (dotted f.group)).1 refl,
  (bytes_eq-Decides (dotted f.source) (dotted f.source)).1 refl,
) refl

-- the tree that is read of a flow of version 1 is the one that it denotes
pub flow_of-denotes : (t : TopologyValue) (n : ℕ) (d : Data) (es : Tree) → flow_of t n d ≡ Ok es
    → DenotesFlow t n d es
unfolding flow_of reached_rows
flow_of-denotes t n d es e =
    let f = located_ok _ (flow_at t n) _ es e in
    let r = located_ok _ (reached_rows f.0 d) _ es f.2 in
    let o = bind_ok (object_of flow_keys d) _ r.0 r.1 in
    let group = bind_ok (text_at (codes "group") o.0) _ r.0 o.2 in
    let rows = bind_ok (list_at (codes "reached") o.0) _ r.0 group.2 in
    let source = bind_ok (text_at (codes "source") o.0) _ r.0 rows.2 in
    let t' = test_ok (are_texts_of_flow f.0 group.0 source.0) WrongFlows (at_most 1024 rows.0) r.0 source.2 in
    let (is_group, is_source) = are_texts_of_flow-sound f.0 group.0 source.0 t'.0 in
    let (same, few) = at_most-sound 1024 rows.0 r.0 t'.1 in
    record {
      flow = f.0;
      members = o.0;
      rows = r.0;
      listed = ok_or_ok (slice_get t.flows n) WrongFlows f.0 f.1;
      is_object = IsObject-from_object_of flow_keys d o.0 o.1;
      group = subst (HasText (codes "group") o.0) is_group
          (HasText-from_text_at (codes "group") o.0 group.0 group.1);
      source = subst (HasText (codes "source") o.0) is_source
          (HasText-from_text_at (codes "source") o.0 source.0 source.1);
      list = subst (HasRows (codes "reached") o.0) same
          (HasRows-from_list_at (codes "reached") o.0 rows.0 rows.1);
      entries = entries_in_rows-denotes t (at.Flow (n + 1)) r.0 es few r.2;
    }

-- and the one that it denotes is read
pub flow_of-from_denotes : (t : TopologyValue) (n : ℕ) (d : Data) (es : Tree) → DenotesFlow t n d es
    → flow_of t n d ≡ Ok es
unfolding flow_of reached_rows
flow_of-from_denotes t n d es is =
    rw (
      is.listed,
      object_of-from_IsObject flow_keys d is.members is.is_object,
      text_at-from_HasText (codes "group") is.members _ is.group,
      list_at-from_HasRows (codes "reached") is.members is.rows is.list,
      text_at-from_HasText (codes "source") is.members _ is.source,
      are_texts_of_flow-dotted is.flow,
      at_most-complete 1024 is.rows is.entries.few,
    )
    (entries_in_rows-from_denotes t (at.Flow (n + 1)) is.rows es is.entries)

-- ---- trees, and the flows with the number of one

-- the tree that is read of a value is the one that it denotes
pub tree_of-denotes : (t : TopologyValue) (n : ℕ) (d : Data) (es : Tree) → tree_of t n d ≡ Ok es
    → DenotesTree t d es
unfolding tree_of tree_entry_rows
tree_of-denotes t n d es e =
    let r = located_ok _ (tree_entry_rows d) _ es e in
    let rows = bind_ok (list_of d) (at_most 1024) r.0 r.1 in
    let (same, few) = at_most-sound 1024 rows.0 r.0 rows.2 in
    record {
      rows = r.0;
      list = AreRows-from_list_of d r.0 (rows.1 ∙ ap Ok same);
      entries = entries_in_rows-denotes t (at.Tree (n + 1)) r.0 es few r.2;
    }

-- and the one that it denotes is read
pub tree_of-from_denotes : (t : TopologyValue) (n : ℕ) (d : Data) (es : Tree) → DenotesTree t d es
    → tree_of t n d ≡ Ok es
unfolding tree_of tree_entry_rows
tree_of-from_denotes t n d es is =
    rw (list_of-from_AreRows d is.rows is.list, at_most-complete 1024 is.rows is.entries.few)
    (entries_in_rows-from_denotes t (at.Tree (n + 1)) is.rows es is.entries)

-- what passes the test is a whole number below the count
below_count-sound : (count : ℕ) (o : Option ℕ) (n : ℕ) → below_count count o ≡ Ok n
    → (o ≡ Some n) × (n < count)
below_count-sound count None n e = absurd cc
below_count-sound count (Some m) n e =
    let (same, below) = checked_ok (λ k. nat_lt k count) BadNumber m n e in
    (ap Some same, ltb-true n count below)

-- a flow of version 2 denotes the number of its tree
pub record NamesTree (t : TopologyValue) (trees n : ℕ) (d : Data) (number : ℕ) : Type 0 where
  pub flow : Flow
  pub members : Members
  pub listed : slice_get t.flows n ≡ Some flow
  pub is_object : object_of shared_flow_keys d ≡ Ok members
  pub group : HasText (codes "group") members (dotted flow.group)
  pub source : HasText (codes "source") members (dotted flow.source)
  pub tree_number : HasNumber (codes "tree") members number
  pub in_range : number < trees

-- the number that is read of a flow of version 2 is that of its tree
pub NamesTree-from_shared_flow_of : (t : TopologyValue) (trees n : ℕ) (d : Data) (m : ℕ)
    → shared_flow_of t trees n d ≡ Ok m → NamesTree t trees n d m
unfolding shared_flow_of tree_no_of
NamesTree-from_shared_flow_of t trees n d m e =
    let f = located_ok _ (flow_at t n) _ m e in
    let o = bind_ok (object_of shared_flow_keys d) _ m
    (map_fault_ok _ (tree_no_of f.0 trees d) m f.2) in
    let group = bind_ok (text_at (codes "group") o.0) _ m o.2 in
    let source = bind_ok (text_at (codes "source") o.0) _ m group.2 in
    let num = bind_ok (number_at (codes "tree") o.0) _ m source.2 in
    let b = bind_ok (below_count trees (as_u64 num.0)) _ m num.2 in
    let t' = test_ok (are_texts_of_flow f.0 group.0 source.0) WrongFlows (Ok b.0) m b.2 in
    let (is_group, is_source) = are_texts_of_flow-sound f.0 group.0 source.0 t'.0 in
    let same : b.0 ≡ m = ok_injective b.0 m t'.1 in
    let (whole, lt) = below_count-sound trees (as_u64 num.0) b.0 b.1 in
    record {
      flow = f.0;
      members = o.0;
      listed = ok_or_ok (slice_get t.flows n) WrongFlows f.0 f.1;
      is_object = o.1;
      group = subst (HasText (codes "group") o.0) is_group
          (HasText-from_text_at (codes "group") o.0 group.0 group.1);
      source = subst (HasText (codes "source") o.0) is_source
          (HasText-from_text_at (codes "source") o.0 source.0 source.1);
      tree_number = HasNumber-from_number_at (codes "tree") o.0 num.0 num.1
          ∙ ap (λ k. Some (number k)) (unsigned-from_as_u64 num.0 m (whole ∙ ap Some same));
      in_range = subst (λ k. k < trees) same lt;
    }

-- and the number of its tree is read
pub shared_flow_of-from_NamesTree : (t : TopologyValue) (trees n : ℕ) (d : Data) (m : ℕ)
    → NamesTree t trees n d m
    → shared_flow_of t trees n d ≡ Ok m
unfolding shared_flow_of tree_no_of
shared_flow_of-from_NamesTree t trees n d m is =
    rw (
      is.listed,
      is.is_object,
      text_at-from_HasText (codes "group") is.members _ is.group,
      text_at-from_HasText (codes "source") is.members _ is.source,
      number_at-from_HasNumber (codes "tree") is.members (unsigned m) is.tree_number,
      lt-ltb m trees is.in_range,
      are_texts_of_flow-dotted is.flow,
    )
    refl
