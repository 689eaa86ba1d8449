-- A text that is read denotes what is read, and a text that denotes a certificate is read as that.
use Rattle.std.proofs.Common.{◌≡◌, ℕ, ◌+◌, ◌<◌, ◌≤◌, All, Bool, true, false, cond, List}
use Rattle.std.proofs.Common.{[], ◌∷◌, length, map, codes, Option, Some, None, Ok, Err, nat_le, eqb}
use Rattle.std.proofs.Common.{le-leb, refl, ap, subst, ◌∙◌}
use Rattle.std.specs.Prelude.{slice_get, unwrap_or}
use Rattle.std.specs.Option.{ok_or}
use Rattle.std.specs.Str.{is_utf8}
use Rattle.std.proofs.lemmas.Bool.{leb-true, eqb-true, eq-eqb}
use Rattle.std.proofs.lemmas.Option.{slice_get_within}
use Rattle.std.proofs.lemmas.Str.{IsUtf8-from_is_utf8, is_utf8-from_IsUtf8}
use Rattle.serde_json.specs.Data.{Data, unsigned, number, Members}
use Rattle.serde_json.specs.Find.{as_object, as_u64}
use Rattle.serde_json.specs.Read.{read}
use Rattle.mc_topology.specs.Topology.{TopologyValue}
use Rattle.mc_topology.proofs.Steps.{bind_ok, test_ok, checked_ok, ok_or_ok, ok_injective, located_ok}
use Rattle.mc_cert.specs.declared.fault.CertFaultKind.TheVariants.{NotJson, BadVersion, UnknownKey}
use Rattle.mc_cert.specs.declared.fault.CertFaultKind.TheVariants.{BadKind, WrongFlows, TooMany}
use Rattle.mc_cert.specs.declared.version.Version.{Version}
use Rattle.mc_cert.specs.declared.version.Version.TheVariants.{One, Two}
use Rattle.mc_cert.specs.Answer.{each_row}
use Rattle.mc_cert.specs.Certificate.{Tree, tree_at, IsWritableTree}
use Rattle.mc_cert.specs.Object.{has_only, number_at, list_at, at_most}
use Rattle.mc_cert.specs.Reading.{parse_json, parse_bounded_json, members_of, version_of, top_keys}
use Rattle.mc_cert.specs.Reading.{version_in, flows_of_version, parse_certificate}
use Rattle.mc_cert.specs.Denotation.{HasNumber, HasRows, EachDenotes, DenotesFlow, DenotesTree}
use Rattle.mc_cert.specs.Denotation.{DenotesSharedFlow, DenotesVersionOne, DenotesVersionTwo, version_no}
use Rattle.mc_cert.specs.Denotation.{DenotesVersion, DenotesCertificate}
use Rattle.mc_cert.specs.VersionOne.{flow_rows, flow_of, flows_in}
use Rattle.mc_cert.specs.VersionTwo.{tree_rows, tree_of, shared_flow_keys, shared_flow_of}
use Rattle.mc_cert.specs.VersionTwo.{shared_flows_in}
use Rattle.mc_cert.proofs.Fields.{object-from_as_object, unsigned-from_as_u64, HasNumber-from_number_at}
use Rattle.mc_cert.proofs.Fields.{number_at-from_HasNumber, HasRows-from_list_at, list_at-from_HasRows}
use Rattle.mc_cert.proofs.Fields.{at_most-sound, at_most-complete, IsObject-from_object_of}
use Rattle.mc_cert.proofs.Fields.{object_of-from_IsObject}
use Rattle.mc_cert.proofs.StoredTrees.{slice_get-unwrap_or}
use Rattle.mc_cert.proofs.CertificateParts.{each_row-denotes_all}
use Rattle.mc_cert.proofs.CertificateParts.{each_row-from_denotes, All-from_EachDenotes}
use Rattle.mc_cert.proofs.CertificateParts.{IsWritableTree-from_denotes, flow_of-denotes}
use Rattle.mc_cert.proofs.CertificateParts.{flow_of-from_denotes, tree_of-denotes, tree_of-from_denotes}
use Rattle.mc_cert.proofs.CertificateParts.{NamesTree, NamesTree-from_shared_flow_of}
use Rattle.mc_cert.proofs.CertificateParts.{shared_flow_of-from_NamesTree}

-- ---- version 1

-- the rows of flows that are read are under `flows`, and as many as the flows
HasRows-from_flow_rows : (t : TopologyValue) (ms : Members) (rows : List Data) → flow_rows t ms ≡ Ok rows
    → HasRows (codes "flows") ms rows × (length rows ≡ length t.flows)
unfolding flow_rows
HasRows-from_flow_rows t ms rows e =
    let a = bind_ok (list_at (codes "flows") ms)
    (λ rs. cond (eqb (length rs) (length t.flows)) (Ok rs) (Err WrongFlows)) rows e in
    let (same, count) =
    checked_ok (λ (rs : List Data). eqb (length rs) (length t.flows)) WrongFlows a.0 rows a.2 in
    (HasRows-from_list_at (codes "flows") ms rows (a.1 ∙ ap Ok same), eqb-true _ _ count)

-- and such rows are read
flow_rows-from_HasRows : (t : TopologyValue) (ms : Members) (rows : List Data)
    → HasRows (codes "flows") ms rows → length rows ≡ length t.flows → flow_rows t ms ≡ Ok rows
unfolding flow_rows
flow_rows-from_HasRows t ms rows has count = rw (
  list_at-from_HasRows (codes "flows") ms rows has,
  eq-eqb (length rows) (length t.flows) count,
) refl

-- the trees that are read of version 1 are denoted
flows_in-denotes : (t : TopologyValue) (ms : Members) (flows : List Tree)
    → flows_in t ms ≡ Ok flows → DenotesVersionOne t ms flows
unfolding flows_in
flows_in-denotes t ms flows e =
    let r = located_ok _ (flow_rows t ms) (each_row (flow_of t) []) flows e in
    let (has, count) = HasRows-from_flow_rows t ms r.0 r.1 in
    record {
      rows = r.0;
      list = has;
      count = count;
      each =
          each_row-denotes_all (flow_of t) (DenotesFlow t) (flow_of-denotes t) r.0 flows r.2;
    }

-- and trees that are denoted in version 1 are read
flows_in-from_denotes : (t : TopologyValue) (ms : Members) (flows : List Tree) → DenotesVersionOne t ms flows
    → flows_in t ms ≡ Ok flows
unfolding flows_in
flows_in-from_denotes t ms flows is =
    rw (flow_rows-from_HasRows t ms is.rows is.list is.count)
    (each_row-from_denotes (flow_of t) (DenotesFlow t) (flow_of-from_denotes t) [] is.rows flows is.each)

-- the entries of flows that are read can be written
pub IsWritableTree-from_flow_rows : (t : TopologyValue) (rows : List Data) (flows : List Tree)
    → each_row (flow_of t) [] rows ≡ Ok flows → All IsWritableTree flows
IsWritableTree-from_flow_rows t rows flows e =
    All-from_EachDenotes (DenotesFlow t) IsWritableTree
    (λ _ d es is. IsWritableTree-from_denotes t is.rows es is.entries) 0 rows flows
    (each_row-denotes_all (flow_of t) (DenotesFlow t) (flow_of-denotes t) rows flows e)

-- ---- version 2

-- the rows of trees that are read are under `trees`, and at most 4,096
HasRows-from_tree_rows : (ms : Members) (rows : List Data) → tree_rows ms ≡ Ok rows
    → HasRows (codes "trees") ms rows × (length rows ≤ 4096)
unfolding tree_rows
HasRows-from_tree_rows ms rows e =
    let a = bind_ok (list_at (codes "trees") ms) (at_most 4096) rows e in
    let (same, few) = at_most-sound 4096 a.0 rows a.2 in
    (subst (HasRows (codes "trees") ms) same (HasRows-from_list_at (codes "trees") ms a.0 a.1), few)

-- and such rows are read
tree_rows-from_HasRows : (ms : Members) (rows : List Data) → HasRows (codes "trees") ms rows
    → length rows ≤ 4096 → tree_rows ms ≡ Ok rows
unfolding tree_rows
tree_rows-from_HasRows ms rows has few = rw (list_at-from_HasRows (codes "trees") ms rows has)
    (at_most-complete 4096 rows few)

-- a tree by its number
tree_at-from_slice_get : (trees : List Tree) (n : ℕ) (es : Tree) → slice_get trees n ≡ Some es
    → (n < length trees) × (tree_at trees n ≡ es)
tree_at-from_slice_get trees n es e = (slice_get_within trees n es e, ap (λ o. unwrap_or o []) e)

-- a flow with the number of a tree denotes that tree
DenotesSharedFlow-from_NamesTree : (t : TopologyValue) (trees : List Tree) (n : ℕ) (d : Data) (m : ℕ)
    → NamesTree t (length trees) n d m → DenotesSharedFlow t trees n d (tree_at trees m)
DenotesSharedFlow-from_NamesTree t trees n d m is =
    record {
      flow = is.flow;
      members = is.members;
      number = m;
      listed = is.listed;
      is_object = IsObject-from_object_of shared_flow_keys d is.members is.is_object;
      group = is.group;
      source = is.source;
      tree_number = is.tree_number;
      tree = slice_get-unwrap_or trees m [] is.in_range;
    }

-- and a flow that denotes a tree has its number
NamesTree-from_DenotesSharedFlow : (t : TopologyValue) (trees : List Tree) (n : ℕ) (d : Data) (es : Tree)
    → (is : DenotesSharedFlow t trees n d es) → NamesTree t (length trees) n d is.number
NamesTree-from_DenotesSharedFlow t trees n d es is =
    record {
      flow = is.flow;
      members = is.members;
      listed = is.listed;
      is_object = object_of-from_IsObject shared_flow_keys d is.members is.is_object;
      group = is.group;
      source = is.source;
      tree_number = is.tree_number;
      in_range = (tree_at-from_slice_get trees is.number es is.tree).0;
    }

-- flows with numbers of trees denote those trees, row by row
EachDenotes-from_NamesTree : (t : TopologyValue) (trees : List Tree) (n : ℕ) (ds : List Data) (ms : List ℕ)
    → EachDenotes (NamesTree t (length trees)) n ds ms
    → EachDenotes (DenotesSharedFlow t trees) n ds (map (tree_at trees) ms)
EachDenotes-from_NamesTree t trees n [] [] s = tt
EachDenotes-from_NamesTree t trees n [] (m ∷ ms) s = absurd s
EachDenotes-from_NamesTree t trees n (d ∷ ds) [] s = absurd s
EachDenotes-from_NamesTree t trees n (d ∷ ds) (m ∷ ms) s = (
  DenotesSharedFlow-from_NamesTree t trees n d m s.0,
  EachDenotes-from_NamesTree t trees (n + 1) ds ms s.1,
)

-- and flows that denote trees have numbers of them, row by row
NamesTree-from_EachDenotes : (t : TopologyValue) (trees : List Tree) (n : ℕ) (ds : List Data)
    (flows : List Tree)
    → EachDenotes (DenotesSharedFlow t trees) n ds flows → (ms : List ℕ)
    × EachDenotes (NamesTree t (length trees)) n ds ms × (map (tree_at trees) ms ≡ flows)
NamesTree-from_EachDenotes t trees n [] [] s = ([], tt, refl)
NamesTree-from_EachDenotes t trees n [] (es ∷ flows) s = absurd s
NamesTree-from_EachDenotes t trees n (d ∷ ds) [] s = absurd s
NamesTree-from_EachDenotes t trees n (d ∷ ds) (es ∷ flows) s =
    let (ms, denoted, same) = NamesTree-from_EachDenotes t trees (n + 1) ds flows s.1 in
    let here = (tree_at-from_slice_get trees s.0.number es s.0.tree).1 in
    (s.0.number ∷ ms, (NamesTree-from_DenotesSharedFlow t trees n d es s.0, denoted), cc)

-- the trees that are read of version 2 are denoted
shared_flows_in-denotes : (t : TopologyValue) (ms : Members) (flows : List Tree)
    → shared_flows_in t ms ≡ Ok flows → DenotesVersionTwo t ms flows
unfolding shared_flows_in
shared_flows_in-denotes t ms flows e =
    let r = located_ok _ (flow_rows t ms) _ flows e in
    let l = located_ok _ (tree_rows ms) _ flows r.2 in
    let trees = bind_ok (each_row (tree_of t) [] l.0) _ flows l.2 in
    let numbers = bind_ok (each_row (shared_flow_of t (length trees.0)) [] r.0) _ flows trees.2 in
    let (has, count) = HasRows-from_flow_rows t ms r.0 r.1 in
    let (has_trees, few) = HasRows-from_tree_rows ms l.0 l.1 in
    let named = each_row-denotes_all (shared_flow_of t (length trees.0)) (NamesTree t (length trees.0))
    (NamesTree-from_shared_flow_of t (length trees.0)) r.0 numbers.0 numbers.1 in
    record {
      rows = r.0;
      tree_rows = l.0;
      trees = trees.0;
      list = has;
      count = count;
      tree_list = has_trees;
      few_trees = few;
      each_tree = each_row-denotes_all (tree_of t) (λ _. DenotesTree t)
          (tree_of-denotes t) l.0 trees.0 trees.1;
      each = subst (λ (xs : List Tree). EachDenotes (DenotesSharedFlow t trees.0) 0 r.0 xs)
          (ok_injective (map (tree_at trees.0) numbers.0) flows numbers.2)
          (EachDenotes-from_NamesTree t trees.0 0 r.0 numbers.0 named);
    }

-- and trees that are denoted in version 2 are read
shared_flows_in-from_denotes : (t : TopologyValue) (ms : Members) (flows : List Tree)
    → DenotesVersionTwo t ms flows
    → shared_flows_in t ms ≡ Ok flows
unfolding shared_flows_in
shared_flows_in-from_denotes t ms flows is =
    let (numbers, named, same) = NamesTree-from_EachDenotes t is.trees 0 is.rows flows is.each in
    rw (
      flow_rows-from_HasRows t ms is.rows is.list is.count,
      tree_rows-from_HasRows ms is.tree_rows is.tree_list is.few_trees,
      each_row-from_denotes (tree_of t) (λ _. DenotesTree t)
          (tree_of-from_denotes t) [] is.tree_rows is.trees
          is.each_tree,
      each_row-from_denotes (shared_flow_of t (length is.trees))
          (NamesTree t (length is.trees)) (shared_flow_of-from_NamesTree t (length is.trees)) [] is.rows
          numbers named,
    )
    (ap Ok same)

-- trees that are read can be written, and the numbers of trees are below their count
pub IsWritableTree-from_tree_rows : (t : TopologyValue) (rows : List Data) (trees : List Tree)
    → each_row (tree_of t) [] rows ≡ Ok trees → All IsWritableTree trees
IsWritableTree-from_tree_rows t rows trees e =
    All-from_EachDenotes (λ _. DenotesTree t) IsWritableTree
    (λ _ d es is. IsWritableTree-from_denotes t is.rows es is.entries) 0 rows
    trees (each_row-denotes_all (tree_of t) (λ _. DenotesTree t) (tree_of-denotes t) rows trees e)

-- each number of a tree that is read is below the number of trees
pub tree_numbers-below_count : (t : TopologyValue) (trees : ℕ) (rows : List Data) (ms : List ℕ)
    → each_row (shared_flow_of t trees) [] rows ≡ Ok ms → All (λ n. n < trees) ms
tree_numbers-below_count t trees rows ms e =
    All-from_EachDenotes (NamesTree t trees) (λ n. n < trees) (λ _ d m is. is.in_range) 0 rows ms
    (each_row-denotes_all (shared_flow_of t trees) (NamesTree t trees)
    (NamesTree-from_shared_flow_of t trees) rows ms e)

-- ---- the version

-- a version that is read has its number
version_no-from_version_of : (o : Option ℕ) (version : Version) → version_of o ≡ Ok version
    → o ≡ Some (version_no version)
version_no-from_version_of None version e = absurd cc
version_no-from_version_of (Some n) version e =
    version_no-from_tests n (eqb n 1) (eqb n 2) version refl refl e where
      version_no-from_tests : (n : ℕ) (b c : Bool) (version : Version) → eqb n 1 ≡ b → eqb n 2 ≡ c
          → cond b (Ok One) (cond c (Ok Two) (Err BadVersion)) ≡ Ok version
          → Some n ≡ Some (version_no version)
      version_no-from_tests n true c version one two e =
          let is : One ≡ version = cc in
          ap Some (eqb-true n 1 one) ∙ ap (λ v. Some (version_no v)) is
      version_no-from_tests n false true version one two e =
          let is : Two ≡ version = cc in
          ap Some (eqb-true n 2 two) ∙ ap (λ v. Some (version_no v)) is
      version_no-from_tests n false false version one two e = absurd cc

-- and each version's number is read as it
version_of-version_no : (version : Version) → version_of (Some (version_no version)) ≡ Ok version
version_of-version_no One = refl
version_of-version_no Two = refl

-- where the version is read, its number is under `version`, and there are no other keys than its own
HasNumber-from_version_in : (ms : Members) (version : Version) → version_in ms ≡ Ok version
    → HasNumber (codes "version") ms (version_no version) × (has_only (top_keys version) ms ≡ true)
unfolding version_in
HasNumber-from_version_in ms version e =
    let n = bind_ok (number_at (codes "version") ms) _ version e in
    let v = bind_ok (version_of (as_u64 n.0)) _ version n.2 in
    let (same, keys) = checked_ok (λ (w : Version). has_only (top_keys w) ms) UnknownKey v.0 version v.2 in
    let whole = unsigned-from_as_u64 n.0 (version_no version)
    (version_no-from_version_of (as_u64 n.0) version (v.1 ∙ ap Ok same)) in
    (HasNumber-from_number_at (codes "version") ms n.0 n.1 ∙ ap (λ k. Some (number k)) whole, keys)

-- and where that is so, it is read
version_in-from_HasNumber : (ms : Members) (version : Version)
    → HasNumber (codes "version") ms (version_no version) → has_only (top_keys version) ms ≡ true
    → version_in ms ≡ Ok version
unfolding version_in
version_in-from_HasNumber ms version has keys =
    rw (
      number_at-from_HasNumber (codes "version") ms (unsigned (version_no version)) has,
      version_of-version_no version,
      keys,
    ) refl

-- what is read of either version is denoted
flows_of_version-denotes : (version : Version) (t : TopologyValue) (ms : Members) (flows : List Tree)
    → flows_of_version version t ms ≡ Ok flows → DenotesVersion version t ms flows
unfolding flows_of_version
flows_of_version-denotes One t ms flows e = flows_in-denotes t ms flows e
flows_of_version-denotes Two t ms flows e = shared_flows_in-denotes t ms flows e

-- and what is denoted of either is read
flows_of_version-from_denotes : (version : Version) (t : TopologyValue) (ms : Members) (flows : List Tree)
    → DenotesVersion version t ms flows → flows_of_version version t ms ≡ Ok flows
unfolding flows_of_version
flows_of_version-from_denotes One t ms flows is = flows_in-from_denotes t ms flows is
flows_of_version-from_denotes Two t ms flows is = shared_flows_in-from_denotes t ms flows is

-- ---- the text

-- a text that is read denotes what is read
pub parse_certificate-denotes : (t : TopologyValue) (text : List ℕ) (flows : List Tree)
    → parse_certificate t text ≡ Ok flows → DenotesCertificate t text flows
unfolding parse_certificate parse_bounded_json parse_json
parse_certificate-denotes t text flows e =
    let v = located_ok _ (parse_bounded_json text) _ flows e in
    let m = located_ok _ (members_of v.0) _ flows v.2 in
    let version = located_ok _ (version_in m.0) _ flows m.2 in
    let few = test_ok (nat_le (length text) 16777216) TooMany (parse_json text) v.0 v.1 in
    let utf8 = test_ok (is_utf8 text) NotJson (ok_or (read text) NotJson) v.0 few.1 in
    let (version_is, keys) = HasNumber-from_version_in m.0 version.0 version.1 in
    let is_object = object-from_as_object v.0 m.0 (ok_or_ok (as_object v.0) BadKind m.0 m.1) in
    record {
      document = m.0;
      version = version.0;
      few = leb-true (length text) 16777216 few.0;
      utf8 = IsUtf8-from_is_utf8 text utf8.0;
      reads = ok_or_ok (read text) NotJson v.0 utf8.1 ∙ ap Some is_object;
      version_number = version_is;
      keys = keys;
      denotes = flows_of_version-denotes version.0 t m.0 flows version.2;
    }

-- a text that denotes a certificate is read as that
pub parse_certificate-from_denotes : (t : TopologyValue) (text : List ℕ) (flows : List Tree)
    → DenotesCertificate t text flows → parse_certificate t text ≡ Ok flows
unfolding parse_certificate parse_bounded_json parse_json
parse_certificate-from_denotes t text flows is =
    rw (
      le-leb (length text) 16777216 is.few,
      is_utf8-from_IsUtf8 text is.utf8,
      is.reads,
      version_in-from_HasNumber is.document is.version is.version_number is.keys,
    )
    (flows_of_version-from_denotes is.version t is.document flows is.denotes)
