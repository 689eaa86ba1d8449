-- What the text of any trees that can be written denotes, where each flow has the number of one.
use Rattle.std.proofs.Common.{◌≡◌, ℕ, zero, suc, ◌+◌, ◌^◌, ◌<◌, ◌≤◌, All, List, [], ◌∷◌, ◌++◌}
use Rattle.std.proofs.Common.{length, map, Some, ◌⊎◌, inl, inr, IsUtf8, refl, sym, ap, subst, ◌∙◌}
use Rattle.std.proofs.Common.{arith, append-nil}
use Rattle.std.specs.Prelude.{slice_get}
use Rattle.std.specs.List.{AllByRecursion, zip}
use Rattle.std.proofs.lemmas.Str.{IsUtf8-append}
use Rattle.json.proofs.Printed.Utf8.{IsUtf8-are_ascii}
use Rattle.serde_json.specs.Data.{array, object}
use Rattle.serde_json.specs.Read.{read}
use Rattle.serde_json.specs.Written.{compact_text}
use Rattle.mc_topology.specs.declared.flow.Flow.{Flow}
use Rattle.mc_topology.specs.Topology.{TopologyValue, IsValidTopology}
use Rattle.mc_cert.specs.declared.version.Version.TheVariants.{Two}
use Rattle.mc_cert.specs.Certificate.{Tree, tree_at}
use Rattle.mc_cert.specs.CertificateText.{version_two_text}
use Rattle.mc_cert.specs.Object.{rows_in}
use Rattle.mc_cert.specs.Denotation.{EachDenotes, DenotesTree, DenotesSharedFlow, DenotesCertificate}
use Rattle.mc_cert.specs.Writable.{IsWritableTreeFor}
use Rattle.mc_cert.proofs.Documents.{flow_members, flow_data, tree_data, document, IsReadBack-document}
use Rattle.mc_cert.proofs.Documents.{version_two_text-compact, tree_data-denotes, items_from-denotes}
use Rattle.mc_cert.proofs.Documents.{AllByRecursion-from_All, AllByRecursion-implies, length-rows_in}
use Rattle.mc_cert.proofs.Documents.{length-zip_equal}
use Rattle.mc_cert.proofs.StoredTrees.{slice_get-unwrap_or}
use Rattle.mc_cert.proofs.LineFeed.{read-with_line_feed}
use Rattle.mc_cert.proofs.JsonValues.{items_from, read-compact_text}

-- ---- flows

-- a flow with the number of its tree
flow_data-denotes : (t : TopologyValue) (trees : List Tree) (n : ℕ) (f : Flow) (tree_no : ℕ)
    → slice_get t.flows n ≡ Some f → tree_no < length trees
    → DenotesSharedFlow t trees n (flow_data (f, tree_no)) (tree_at trees tree_no)
flow_data-denotes t trees n f tree_no listed lt =
    record {
      flow = f;
      members = flow_members (f, tree_no);
      number = tree_no;
      listed = listed;
      is_object = record { members = refl; keys = refl };
      group = refl;
      source = refl;
      tree_number = refl;
      tree = slice_get-unwrap_or trees tree_no [] lt;
    }

-- all flows, each with the number of its tree
flow_data-denotes_all : (t : TopologyValue) (trees : List Tree) (n : ℕ) (fs : List Flow)
    (tree_numbers : List ℕ)
    → ((k : ℕ) (f : Flow) → slice_get fs k ≡ Some f → slice_get t.flows (n + k) ≡ Some f)
    → length tree_numbers ≡ length fs → AllByRecursion (λ m. m < length trees) tree_numbers
    → EachDenotes (DenotesSharedFlow t trees) n (rows_in (items_from flow_data (zip fs tree_numbers)))
    (map (tree_at trees) tree_numbers)
flow_data-denotes_all t trees n [] [] listed count all = tt
flow_data-denotes_all t trees n [] (m ∷ tree_numbers) listed count all = absurd (omega (arith, count))
flow_data-denotes_all t trees n (f ∷ fs) [] listed count all = absurd (omega (arith, count))
flow_data-denotes_all t trees n (f ∷ fs) (m ∷ tree_numbers) listed count (here, all) =
    let now : n + 0 ≡ n = omega arith in (
      flow_data-denotes t trees n f m (subst (λ (k : ℕ). slice_get t.flows k ≡ Some f) now
          (listed zero f refl)) here,
      flow_data-denotes_all t trees (n + 1) fs tree_numbers
          (λ k g at. let next : n + suc k ≡ (n + 1) + k =
          omega arith in subst (λ (m : ℕ). slice_get t.flows m ≡ Some g) next
          (listed (suc k) g at))
          (omega (arith, count)) all,
    )

-- ---- the whole

-- a text that is read as the object of these numbers and trees
document-denotes : (t : TopologyValue) (tree_numbers : List ℕ) (trees : List Tree) (text : List ℕ)
    → IsValidTopology t → length tree_numbers ≡ length t.flows
    → AllByRecursion (λ n. n < length trees) tree_numbers → length trees ≤ 4096
    → AllByRecursion (IsWritableTreeFor t) trees → length text ≤ 16777216 → IsUtf8 text
    → read text ≡ Some (object (document t tree_numbers trees))
    → DenotesCertificate t text (map (tree_at trees) tree_numbers)
document-denotes t tree_numbers trees text rules count named few_trees written few utf8 reads =
    let flow_count = length-rows_in flow_data (zip t.flows tree_numbers) in
    let zipped = length-zip_equal t.flows tree_numbers count in
    let tree_count = length-rows_in (tree_data t) trees in
    record {
      document = document t tree_numbers trees;
      version = Two;
      few = few;
      utf8 = utf8;
      reads = reads;
      version_number = refl;
      keys = refl;
      denotes = record {
        rows = rows_in (items_from flow_data (zip t.flows tree_numbers));
        tree_rows = rows_in (items_from (tree_data t) trees);
        trees = trees;
        list = (
          array (items_from flow_data (zip t.flows tree_numbers)),
          refl,
          (items_from flow_data (zip t.flows tree_numbers), refl, refl),
        );
        count = omega (arith, flow_count, zipped);
        tree_list = (
          array (items_from (tree_data t) trees),
          refl,
          (items_from (tree_data t) trees, refl, refl),
        );
        few_trees = omega (arith, tree_count, few_trees);
        each_tree = items_from-denotes (λ _. DenotesTree t) (tree_data t) 0 trees
            (AllByRecursion-implies (IsWritableTreeFor t) (λ es. (m : ℕ) → DenotesTree t (tree_data t es) es)
            (λ es is m. tree_data-denotes t es rules is) trees written);
        each = flow_data-denotes_all t trees 0 t.flows tree_numbers
            (λ k f here. let same : k ≡ 0 + k = omega arith in subst
            (λ (m : ℕ). slice_get t.flows m ≡ Some f) same here) count named;
      };
    }

-- what may follow a text: it is UTF-8, and no text is read otherwise with it
pub record IsTextEnd (rest : List ℕ) : Type 0 where
  pub utf8 : IsUtf8 rest
  pub same : (s : List ℕ) → read (s ++ rest) ≡ read s

-- nothing, or a line feed
pub IsTextEnd-from_rest : (rest : List ℕ) → (rest ≡ []) ⊎ (rest ≡ 10 ∷ []) → IsTextEnd rest
IsTextEnd-from_rest rest (inl none) = subst IsTextEnd (sym none)
    (record { utf8 = IsUtf8-are_ascii [] refl; same = λ s. ap read (append-nil s) })
IsTextEnd-from_rest rest (inr feed) = subst IsTextEnd (sym feed)
    (record { utf8 = IsUtf8-are_ascii (10 ∷ []) refl; same = read-with_line_feed })

-- the text of trees that can be written, with the number of each flow's tree and with what may follow a
-- text, denotes the trees with these numbers
pub version_two_text-denotes : (t : TopologyValue) (tree_numbers : List ℕ) (trees : List Tree)
    (text rest : List ℕ)
    → IsValidTopology t → length tree_numbers ≡ length t.flows
    → AllByRecursion (λ n. n < length trees) tree_numbers
    → length trees ≤ 4096 → All (IsWritableTreeFor t) trees → length text ≤ 16777216
    → text ≡ version_two_text t tree_numbers trees ++ rest → IsTextEnd rest
    → DenotesCertificate t text (map (tree_at trees) tree_numbers)
version_two_text-denotes t tree_numbers trees text rest rules count named few_trees writable few is end =
    let small = AllByRecursion-implies (λ n. n < length trees) (λ n. n < 2 ^ 64)
    (λ n lt. omega (arith, lt, few_trees)) tree_numbers named in
    let written = AllByRecursion-from_All (IsWritableTreeFor t) trees writable in
    let d = object (document t tree_numbers trees) in
    let good = IsReadBack-document t tree_numbers trees rules small written in
    let same : text ≡ compact_text d ++ rest =
    is ∙ ap (λ s. s ++ rest) (version_two_text-compact t tree_numbers trees rules written) in
    document-denotes t tree_numbers trees text rules count named few_trees written few
    (subst (λ (s : List ℕ). IsUtf8 s) (sym same)
    (IsUtf8-append (compact_text d) rest good.utf8 end.utf8))
    (ap read same ∙ end.same (compact_text d) ∙ read-compact_text d good)
