-- Files that are judged one after another, and the list of those that have a fault.
use Rattle.std.specs.Prelude.{◌≡◌, ◌≢◌, ℕ, zero, suc, ◌+◌, ◌≤◌, true, false, List, [], ◌∷◌, ◌++◌}
use Rattle.std.specs.Prelude.{flat_map, is_some, map, Option, Some, None, Result, Ok, Err, refl}
use Rattle.std.specs.Prelude.{length, slice_get, take, OnOk}
use Rattle.std.proofs.Common.{ap, add-one, append_assoc, arith, sym, subst, ◌∙◌}
use Rattle.std.proofs.lemmas.List.{append-nil, take_all}
use Rattle.std.proofs.lemmas.List.Elements.{filter-append}
use Rattle.std.specs.List.{AllByRecursion, list_any}
use Rattle.std.specs.Str.{bytes_eq}
use Rattle.mc_bundle.specs.Bundle.{PartText}
use Rattle.mc_topology.specs.SectionRows.{RouterRow}
use Rattle.mc_files.specs.Files.{FileText}
use Rattle.mc_files.specs.Layout.{Slot, cache_slot, file_name, vif_slot}
use Rattle.mc_forward.specs.ListedTables.{Pairwise}
use Rattle.mc_input.specs.PartsReading.{cache_of, vifs_of}
use Rattle.mc_input.specs.RefusedFiles.{IsOwnFaultUnlessMemory, IsSameFileOrUnread}
use Rattle.mc_input.specs.RefusedFiles.{JudgedFile, JudgesFiles, saturating_failures, failure_count}
use Rattle.mc_input.specs.RefusedFiles.{file_fault}
use Rattle.mc_input.specs.RefusedFiles.{judged_file}
use Rattle.mc_input.specs.RefusedFiles.{judged_reports, judged_tables}
use Rattle.mc_input.specs.RefusedFiles.{files_with_fault, unread_count}
use Rattle.mc_input.specs.declared.fault.InputFault.{InputFault}
use Rattle.mc_input.specs.declared.fault.InputFault.TheVariants.{Memory}
use Rattle.mc_input.specs.declared.source_fault.SourceFault.{SourceFault}
use Rattle.mc_input.specs.declared.source_fault.SourceFault.TheVariants.{Input}

-- ---- lists

-- what holds of two pairs of lists item by item holds of them put together
Pairwise-append : {A B : Type 0} (R : A → B → Type 0) (xs ys : List A) (us vs : List B)
    → Pairwise R xs us → Pairwise R ys vs → Pairwise R (xs ++ ys) (us ++ vs)
Pairwise-append R [] ys [] vs a b = b
Pairwise-append R [] ys (u ∷ us) vs a b = absurd a
Pairwise-append R (x ∷ xs) ys [] vs a b = absurd a
Pairwise-append R (x ∷ xs) ys (u ∷ us) vs a b = (a.0, Pairwise-append R xs ys us vs a.1 b)

-- what is unread of two lists is counted together
unread_count-append : (xs ys : List JudgedFile) → unread_count (xs ++ ys) ≡ unread_count xs + unread_count ys
unread_count-append [] ys = omega arith
unread_count-append (x ∷ xs) ys = omega (arith, unread_count-append xs ys)

-- those without a fault can be read
pub unread_count-files_with_fault : (files : List JudgedFile)
    → unread_count (files_with_fault files) ≡ unread_count files
unread_count-files_with_fault [] = refl
unread_count-files_with_fault (file ∷ files) = by file.name file.fault (unread_count-files_with_fault files)
  where
    by : (name : List ℕ) (fault : Option SourceFault)
        → unread_count (files_with_fault files) ≡ unread_count files
        → unread_count (files_with_fault ((record { name = name; fault = fault }) ∷ files))
        ≡ unread_count ((record { name = name; fault = fault }) ∷ files)
    by name None rest = rest ∙ omega arith
    by name (Some fault) rest = ap (λ n. failure_count (Some fault) + n) rest

-- what holds of the items of two lists holds of those of both
pub AllByRecursion-append : {A : Type 0} (P : A → Type 0) (xs ys : List A)
    → AllByRecursion P xs → AllByRecursion P ys → AllByRecursion P (xs ++ ys)
AllByRecursion-append P [] ys a b = b
AllByRecursion-append P (x ∷ xs) ys a b = (a.0, AllByRecursion-append P xs ys a.1 b)

-- the lists of the items so far, and then that of the next item
flat_map-take_more : {A B : Type 0} (f : A → List B) (xs : List A) (i : ℕ) (x : A) → slice_get xs i ≡ Some x
    → flat_map f (take (suc i) xs) ≡ flat_map f (take i xs) ++ f x
flat_map-take_more f [] i x at = absurd cc
flat_map-take_more f (y ∷ ys) zero x at = let same : y ≡ x = cc in append-nil (f y) ∙ ap f same
flat_map-take_more f (y ∷ ys) (suc i) x at =
    ap (λ l. f y ++ l) (flat_map-take_more f ys i x at)
    ∙ sym (append_assoc (f y) (flat_map f (take i ys)) (f x))

-- the same of one value for each item
map-take_more : {A B : Type 0} (f : A → B) (xs : List A) (i : ℕ) (x : A) → slice_get xs i ≡ Some x
    → map f (take (suc i) xs) ≡ map f (take i xs) ++ f x ∷ []
map-take_more f [] i x at = absurd cc
map-take_more f (y ∷ ys) zero x at = let same : y ≡ x = cc in ap (λ z. f z ∷ []) same
map-take_more f (y ∷ ys) (suc i) x at = ap (λ l. f y ∷ l) (map-take_more f ys i x at)

-- ---- files that are checked

module _ (contents : Option (List FileText)) where
  -- of no file
  pub JudgesFiles-none : (list : List JudgedFile) (n : ℕ) → JudgesFiles contents (λ known. []) list list n n
  JudgesFiles-none list n = record {
    given = [];
    listed = sym (append-nil list);
    failures = omega arith;
    each = λ known is. tt;
  }

  -- of one file
  pub JudgesFiles-one : (file : List FileText → JudgedFile) (name : List ℕ) (fault : Option SourceFault)
      (old new : List JudgedFile) (before after : ℕ)
      → new ≡ old ++ files_with_fault ((record { name = name; fault = fault }) ∷ [])
      → after ≡ saturating_failures (failure_count fault) before
      → ((known : List FileText) → contents ≡ Some known
      → IsSameFileOrUnread (file known) (record { name = name; fault = fault }))
      → JudgesFiles contents (λ known. file known ∷ []) old new before after
  JudgesFiles-one file name fault old new before after listed failures given = record {
    given = (record { name = name; fault = fault }) ∷ [];
    listed = listed;
    failures = omega (arith, failures);
    each = λ known is. (given known is, tt);
  }

  module _ (files more : List FileText → List JudgedFile) (old between new : List JudgedFile)
      (before middle after : ℕ) where
    -- of some files and then of more
    pub JudgesFiles-append : JudgesFiles contents files old between before middle
        → JudgesFiles contents more between new middle after
        → JudgesFiles contents (λ known. files known ++ more known) old new before after
    JudgesFiles-append one other = record {
      given = one.given ++ other.given;
      listed = other.listed ∙ ap (λ l. l ++ files_with_fault other.given) one.listed
          ∙ append_assoc old (files_with_fault one.given) (files_with_fault other.given)
          ∙ ap (λ l. old ++ l) (sym (filter-append (λ file. is_some file.fault) one.given other.given));
      failures = omega (arith, one.failures, other.failures, unread_count-append one.given other.given);
      each = λ known is. Pairwise-append IsSameFileOrUnread (files known) (more known) one.given other.given
          (one.each known is) (other.each known is);
    }

  -- of files that are the same
  pub JudgesFiles-same_files : (files same : List FileText → List JudgedFile) (old new : List JudgedFile)
      (before after : ℕ) → ((known : List FileText) → files known ≡ same known)
      → JudgesFiles contents files old new before after → JudgesFiles contents same old new before after
  JudgesFiles-same_files files same old new before after is judges = record {
    given = judges.given;
    listed = judges.listed;
    failures = judges.failures;
    each = λ known is_contents. subst (λ fs. Pairwise IsSameFileOrUnread fs judges.given) (is known)
        (judges.each known is_contents);
  }

-- with a source of the same contents
pub JudgesFiles-same_source : (contents other : Option (List FileText))
    (files : List FileText → List JudgedFile)
    (old new : List JudgedFile) (before after : ℕ) → other ≡ contents
    → JudgesFiles other files old new before after → JudgesFiles contents files old new before after
JudgesFiles-same_source contents other files old new before after same judges =
    subst (λ (t : Option (List FileText)). JudgesFiles t files old new before after) same judges

-- a file that is appended if it has a fault
pub JudgesFiles-one_of_slot : {X : Type 0} (contents : Option (List FileText)) (slot : Slot)
    (read : PartText → Result X InputFault) (fault : Option SourceFault) (old new : List JudgedFile)
    (before after : ℕ) (pushed : Slot) → pushed ≡ slot
    → new ≡ old ++ files_with_fault ((record { name = file_name pushed; fault = fault }) ∷ [])
    → fault ≢ Some (Input Memory) → after ≡ saturating_failures (failure_count fault) before
    → ((known : List FileText) → contents ≡ Some known
    → IsOwnFaultUnlessMemory fault (file_fault known slot read))
    → JudgesFiles contents (λ known. judged_file known slot read ∷ []) old new before after
JudgesFiles-one_of_slot contents slot read fault old new before after pushed of_slot listed loud
    failures given =
    JudgesFiles-one contents (λ known. judged_file known slot read)
    (file_name pushed) fault old new before after listed
    failures (λ known is. record { name = ap file_name of_slot; fault = given known is loud })

-- two clauses of one call together
pub OnOk-both : {E P Q R : Type 0} (r : Result (Unit {0}) E) → OnOk r P → OnOk r Q → (P → Q → R) → OnOk r R
OnOk-both (Ok u) p q f = f p q
OnOk-both (Err fault) p q f = tt

module _ (contents : Option (List FileText)) (names : List (List ℕ)) (r : RouterRow) where
  -- no table of an excluded router
  pub JudgesFiles-excluded_router : list_any (λ name. bytes_eq name r.name) names ≡ true
      → (list : List JudgedFile) (n : ℕ)
      → JudgesFiles contents (λ known. judged_tables names known r) list list n n
  JudgesFiles-excluded_router out list n =
      JudgesFiles-same_files contents (λ known. []) (λ known. judged_tables names known r) list list n n
      (λ known. rw (out) refl) (JudgesFiles-none contents list n)

  -- both of another
  pub JudgesFiles-router : list_any (λ name. bytes_eq name r.name) names ≡ false
      → (old between new : List JudgedFile) (before middle after : ℕ)
      → JudgesFiles contents (λ known. judged_file known (vif_slot r.name) vifs_of ∷ [])
      old between before middle
      → JudgesFiles contents (λ known. judged_file known (cache_slot r.name) (cache_of r.order) ∷ [])
      between new middle after
      → JudgesFiles contents (λ known. judged_tables names known r) old new before after
  JudgesFiles-router own old between new before middle after vifs cache =
      JudgesFiles-same_files contents
      (λ known. judged_file known (vif_slot r.name) vifs_of
      ∷ judged_file known (cache_slot r.name) (cache_of r.order) ∷ [])
      (λ known. judged_tables names known r) old new before after (λ known. rw (own) refl)
      (JudgesFiles-append contents (λ known. judged_file known (vif_slot r.name) vifs_of ∷ [])
      (λ known. judged_file known (cache_slot r.name) (cache_of r.order) ∷ [])
      old between new before middle after vifs cache)

-- ---- the files of routers and of LANs

module _ (contents : Option (List FileText)) (names : List (List ℕ)) (rs : List RouterRow) (i : ℕ)
    (old between new : List JudgedFile) (before middle after : ℕ) where
  -- of those of some routers and of the next one
  pub JudgesFiles-routers_more : (r : RouterRow) → slice_get rs i ≡ Some r
      → JudgesFiles contents (λ known. flat_map (judged_tables names known) (take i rs))
      old between before middle
      → JudgesFiles contents (λ known. judged_tables names known r) between new middle after
      → JudgesFiles contents (λ known. flat_map (judged_tables names known) (take (i + 1) rs))
      old new before after
  JudgesFiles-routers_more r at one other =
      JudgesFiles-same_files contents
      (λ known. flat_map (judged_tables names known) (take i rs) ++ judged_tables names known r)
      (λ known. flat_map (judged_tables names known) (take (i + 1) rs)) old new before after
      (λ known. sym (flat_map-take_more (judged_tables names known) rs i r at)
      ∙ ap (λ n. flat_map (judged_tables names known) (take n rs)) (sym (add-one i)))
      (JudgesFiles-append contents (λ known. flat_map (judged_tables names known) (take i rs))
      (λ known. judged_tables names known r) old between new before middle after one other)

-- of all
pub JudgesFiles-routers_all : (contents : Option (List FileText)) (names : List (List ℕ))
    (rs : List RouterRow) (i : ℕ) (old new : List JudgedFile) (before after : ℕ) → length rs ≤ i
    → JudgesFiles contents (λ known. flat_map (judged_tables names known) (take i rs)) old new before after
    → JudgesFiles contents (λ known. flat_map (judged_tables names known) rs) old new before after
JudgesFiles-routers_all contents names rs i old new before after all judges =
    JudgesFiles-same_files contents (λ known. flat_map (judged_tables names known) (take i rs))
    (λ known. flat_map (judged_tables names known) rs) old new before after
    (λ known. ap (flat_map (judged_tables names known)) (take_all i rs all)) judges

module _ (contents : Option (List FileText)) (lans : List (List ℕ)) (i : ℕ)
    (old between new : List JudgedFile) (before middle after : ℕ) where
  -- of those of some LANs and of the next one
  pub JudgesFiles-lans_more : (lan : List ℕ) → slice_get lans i ≡ Some lan
      → JudgesFiles contents (λ known. map (judged_reports known) (take i lans)) old between before middle
      → JudgesFiles contents (λ known. judged_reports known lan ∷ []) between new middle after
      → JudgesFiles contents (λ known. map (judged_reports known) (take (i + 1) lans)) old new before after
  JudgesFiles-lans_more lan at one other =
      JudgesFiles-same_files contents
      (λ known. map (judged_reports known) (take i lans) ++ judged_reports known lan ∷ [])
      (λ known. map (judged_reports known) (take (i + 1) lans)) old new before after
      (λ known. sym (map-take_more (judged_reports known) lans i lan at)
      ∙ ap (λ n. map (judged_reports known) (take n lans)) (sym (add-one i)))
      (JudgesFiles-append contents (λ known. map (judged_reports known) (take i lans))
      (λ known. judged_reports known lan ∷ []) old between new before middle after one other)

-- and the files of all LANs
pub JudgesFiles-lans_all : (contents : Option (List FileText)) (lans : List (List ℕ)) (i : ℕ)
    (old new : List JudgedFile) (before after : ℕ) → length lans ≤ i
    → JudgesFiles contents (λ known. map (judged_reports known) (take i lans)) old new before after
    → JudgesFiles contents (λ known. map (judged_reports known) lans) old new before after
JudgesFiles-lans_all contents lans i old new before after all judges =
    JudgesFiles-same_files contents (λ known. map (judged_reports known) (take i lans))
    (λ known. map (judged_reports known) lans) old new before after
    (λ known. ap (map (judged_reports known)) (take_all i lans all)) judges
