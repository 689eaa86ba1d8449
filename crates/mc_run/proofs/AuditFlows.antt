-- The lines of a domain's flows, one flow after the other, and the counts of flows.
use Rattle.std.proofs.Common.{◌≡◌, ℕ, zero, suc, ◌+◌, ◌≤◌, ◌<◌, ◌⊎◌, inl, inr, Bool, true, false, List}
use Rattle.std.proofs.Common.{[], ◌∷◌, ◌++◌, length, Option, Some, refl, sym, ap, subst, ◌∙◌, arith}
use Rattle.std.proofs.Common.{append_assoc, append-nil, length-append}
use Rattle.std.specs.Prelude.{◌&&◌, ◌==◌, cond, filter, flat_map, fold, slice_get, take, is_none}
use Rattle.std.proofs.lemmas.List.Sums.{fold-append}
use Rattle.std.proofs.lemmas.Bool.{ne_eqb}
use Rattle.mc_theory.specs.Nets.{Net}
use Rattle.mc_cert.specs.Certificate.{Tree}
use Rattle.mc_cert.proofs.DistinctLemmas.{length-with_tree}
use Rattle.mc_maker.specs.Examined.{is_certified}
use Rattle.mc_maker.specs.declared.examined_flights.ExaminedFlights.TheVariants.{Certified}
use Rattle.mc_maker.specs.declared.examination.Examined.{Examined}
use Rattle.mc_maker.specs.declared.examination.Examined.TheVariants as examined
use Rattle.mc_search.specs.declared.searching.LanSearch.{LanSearch}
use Rattle.mc_json.specs.TreeKey.{tree_key}
use Rattle.mc_run.specs.FlowCounts.{FlowAnswer, are_right, count, is_right, is_unknown, is_unwanted}
use Rattle.mc_run.specs.FlowCounts.{is_wrong, one_if_true, says_right, says_wrong, with_status}
use Rattle.mc_run.specs.AuditPieces.{AreFlowsPushed, IsFlowPushed}
use Rattle.mc_run.specs.AuditExplanation.{is_known_wrong}
use Rattle.mc_run.specs.AuditedFiles.{AuditedValue, is_whole}
use Rattle.mc_run.specs.AuditRun.{IsFlowAnswer, trees_shown}
use Rattle.mc_run.specs.AuditFlowText.{is_hidden, known_right, status_of, shown_trees_with}
use Rattle.mc_run.specs.AuditFlowText.{with_shown_tree}
use Rattle.mc_cli.specs.declared.audit_options.AuditOptions.{AuditOptions}
use Rattle.mc_run.specs.declared.audit.flow_status.FlowStatus.{FlowStatus}
use Rattle.mc_run.specs.declared.audit.flow_status.FlowCounts.{FlowCounts}

-- the lines of one answer more
lines-push_answer : (answers : List FlowAnswer) (a : FlowAnswer)
    → flat_map (λ b. b.lines) (answers ++ a ∷ []) ≡ flat_map (λ b. b.lines) answers ++ a.lines
lines-push_answer [] a = append-nil a.lines
lines-push_answer (b ∷ answers) a =
    ap (λ xs. b.lines ++ xs) (lines-push_answer answers a)
    ∙ sym (append_assoc b.lines (flat_map (λ c. c.lines) answers) a.lines)

-- an item that may be counted, before others
length-cond_cons : (b : Bool) (x : FlowAnswer) (more less : List FlowAnswer) (n : ℕ)
    → length more ≡ length less + n
    → length (cond b (x ∷ more) more) ≡ length (cond b (x ∷ less) less) + n
length-cond_cons true x more less n same = omega (arith, same)
length-cond_cons false x more less n same = same

-- an item that may be counted, alone
length-cond_one : (b : Bool) (a : FlowAnswer) → length (cond b (a ∷ []) []) ≡ 0 + one_if_true b
length-cond_one true a = refl
length-cond_one false a = refl

-- a count of one answer more
count-push : (p : FlowAnswer → Bool) (answers : List FlowAnswer) (a : FlowAnswer)
    → count p (answers ++ a ∷ []) ≡ count p answers + one_if_true (p a)
count-push p [] a = length-cond_one (p a) a
count-push p (x ∷ answers) a =
    length-cond_cons (p x) x (filter p (answers ++ a ∷ [])) (filter p answers) (one_if_true (p a))
    (count-push p answers a)

-- an item of a list that has grown by one is an old item, or the new one
slice_get-push_cases : {A : Type 0} (xs : List A) (x : A) (i : ℕ) (y : A)
    → slice_get (xs ++ x ∷ []) i ≡ Some y
    → (slice_get xs i ≡ Some y) ⊎ ((i ≡ length xs) × (x ≡ y))
slice_get-push_cases [] x zero y at = inr (refl, cc)
slice_get-push_cases [] x (suc i) y at = absurd cc
slice_get-push_cases (z ∷ xs) x zero y at = inl at
slice_get-push_cases (z ∷ xs) x (suc i) y at =
    elim (slice_get-push_cases xs x i y at) [ inl h ↦ inl h | inr h ↦ inr (ap suc h.0, h.1) ]

-- whether a flow is unwanted, by its status
status_of-unwanted : (whole : Bool) (x : Examined) (known : Bool) (wanted : List ℕ)
    → (status_of whole x known wanted).unwanted ≡ (is_certified x && (length wanted == 0))
status_of-unwanted whole (examined.Certified entries) known wanted = refl
status_of-unwanted whole (examined.Found ttl travel) known wanted = refl

-- the status of a flow says that it is right, or isn't, exactly where that is known
status_of-right : (whole : Bool) (x : Examined) (known : Bool) (wanted : List ℕ)
    → (status_of whole x known wanted).right ≡ known_right whole x known
status_of-right whole (examined.Certified entries) known wanted = refl
status_of-right whole (examined.Found ttl travel) known wanted = refl

-- a count grows by a flow that it counts
count-status : (p : FlowAnswer → Bool) (answers : List FlowAnswer) (a : FlowAnswer) (before more : ℕ)
    (counted : Bool) → counted ≡ p a → more ≡ before + one_if_true counted → before ≡ count p answers
    → more ≡ count p (answers ++ a ∷ [])
count-status p answers a before more counted same grown is =
    grown ∙ ap (λ (b : Bool). before + one_if_true b) same
    ∙ ap (λ (n : ℕ). n + one_if_true (p a)) is ∙ sym (count-push p answers a)

-- the printed trees, with one more flow
trees_shown-push : (o : AuditOptions) (answers : List FlowAnswer) (a : FlowAnswer)
    → trees_shown o (answers ++ a ∷ []) ≡ shown_trees_with o a.net (trees_shown o answers) a.examined a.wanted
trees_shown-push o answers a =
    fold-append (λ (printed : List Tree) (b : FlowAnswer).
    shown_trees_with o b.net printed b.examined b.wanted) [] answers (a ∷ [])

-- the items before a place stay the same
take-before_push : {A : Type 0} (xs : List A) (x : A) (i : ℕ) (y : A) → slice_get xs i ≡ Some y
    → take i (xs ++ x ∷ []) ≡ take i xs
take-before_push [] x i y at = absurd cc
take-before_push (z ∷ xs) x zero y at = refl
take-before_push (z ∷ xs) x (suc i) y at = ap (λ ys. z ∷ ys) (take-before_push xs x i y at)

-- the items before the new one are the old list
take-push_before : {A : Type 0} (xs : List A) (x : A) → take (length xs) (xs ++ x ∷ []) ≡ xs
take-push_before [] x = refl
take-push_before (z ∷ xs) x = ap (λ ys. z ∷ ys) (take-push_before xs x)

-- there are no more trees than flows
with_shown_tree-at_most_one_more : (o : AuditOptions) (n : Net) (printed : List Tree) (x : Examined)
    (wanted : List ℕ) → length (shown_trees_with o n printed x wanted) ≤ length printed + 1
with_shown_tree-at_most_one_more o n printed (examined.Certified entries) wanted =
    by o.json (is_hidden o.faults wanted)
  where
    by : (json out : Bool)
        → length (with_shown_tree json out printed (tree_key n entries.items)) ≤ length printed + 1
    by true true = omega arith
    by true false = length-with_tree printed (tree_key n entries.items)
    by false out = omega arith
with_shown_tree-at_most_one_more o n printed (examined.Found ttl travel) wanted = omega arith

-- at most one more for each answer
trees_shown-at_most_flows_from : (o : AuditOptions) (printed : List Tree) (answers : List FlowAnswer)
    → length (fold (λ (ts : List Tree) (a : FlowAnswer). shown_trees_with o a.net ts a.examined a.wanted)
    printed answers) ≤ length printed + length answers
trees_shown-at_most_flows_from o printed [] = omega arith
trees_shown-at_most_flows_from o printed (a ∷ answers) =
    omega (
      arith,
      trees_shown-at_most_flows_from o (shown_trees_with o a.net printed a.examined a.wanted) answers,
      with_shown_tree-at_most_one_more o a.net printed a.examined a.wanted,
    )

-- each flow prints at most one tree, so that the first k flows print at most k
pub trees_shown-at_most_flows : (v : AuditedValue) (o : AuditOptions) (k : ℕ) (s : FlowCounts)
    (printed : List Tree)
    (old new : List ℕ) → AreFlowsPushed v o k s printed old new → length printed ≤ k
trees_shown-at_most_flows v o k s printed old new to =
    let few = trees_shown-at_most_flows_from o [] to.answers in
    let n = to.count_is in
    let size : length printed ≡ length (trees_shown o to.answers) =
    ap (λ (ts : List Tree). length ts) to.shown_trees in
    omega (arith, few, n, size)

-- one more flow was written
pub are_flows_pushed-more : (v : AuditedValue) (o : AuditOptions) (k : ℕ) (s : FlowCounts)
    (flow_status : FlowStatus)
    (new_standings : FlowCounts) (printed new_printed : List Tree) (begun old new : List ℕ)
    → AreFlowsPushed v o k s printed begun old → IsFlowPushed v o k flow_status printed new_printed old new
    → new_standings ≡ with_status s flow_status
    → AreFlowsPushed v o (k + 1) new_standings new_printed begun new
are_flows_pushed-more v o k s flow_status more printed new_printed begun old new to is same =
    let a = is.answer in
    let answers = to.answers in
    let status = status_of (is_whole v) a.examined is.is.explanation.certainty.known a.wanted in
    let now : more ≡ with_status s status = same ∙ ap (with_status s) is.matches in
    let right : status.right ≡ a.right =
    status_of-right (is_whole v) a.examined is.is.explanation.certainty.known a.wanted ∙ sym is.is.right in
    let before : printed ≡ trees_shown o (take (length answers) (answers ++ a ∷ [])) =
    to.shown_trees ∙ ap (trees_shown o) (sym (take-push_before answers a)) in
    record {
      answers = answers ++ a ∷ [];
      count_is = length-append answers (a ∷ []) ∙ (let h = to.count_is in omega (arith, h));
      each = λ flow b at. elim (slice_get-push_cases answers a flow b at) [
        | inl h ↦ subst (λ (bs : List FlowAnswer). IsFlowAnswer v o (trees_shown o bs) flow b)
            (sym (take-before_push answers a flow b h)) (to.each flow b h)
        | inr h ↦ subst (λ (c : FlowAnswer).
            IsFlowAnswer v o (trees_shown o (take flow (answers ++ a ∷ []))) flow c) h.1
            (subst (λ (n : ℕ). IsFlowAnswer v o (trees_shown o (take n (answers ++ a ∷ []))) n a)
            (sym h.0) (subst (λ (n : ℕ).
            IsFlowAnswer v o (trees_shown o (take (length answers) (answers ++ a ∷ []))) n a)
            (sym to.count_is) (subst (λ (ts : List Tree). IsFlowAnswer v o ts k a) before is.is)))
      ];
      right = count-status is_right answers a s.right more.right (says_right status.right)
          (ap says_right right) (ap (λ (t : FlowCounts). t.right) now) to.right;
      wrong = count-status is_wrong answers a s.wrong more.wrong (says_wrong status.right)
          (ap says_wrong right) (ap (λ (t : FlowCounts). t.wrong) now) to.wrong;
      unknown = count-status is_unknown answers a s.unknown more.unknown (is_none status.right)
          (ap (λ (r : Option Bool). is_none r) right) (ap (λ (t : FlowCounts). t.unknown) now) to.unknown;
      unwanted = count-status is_unwanted answers a s.unwanted more.unwanted status.unwanted
          (status_of-unwanted (is_whole v) a.examined is.is.explanation.certainty.known a.wanted)
          (ap (λ (t : FlowCounts). t.unwanted) now) to.unwanted;
      shown_trees = is.shown_trees ∙ ap (λ (ts : List Tree). shown_trees_with o a.net ts
          a.examined a.wanted) to.shown_trees
          ∙ sym (trees_shown-push o answers a);
      spelled = is.spelled ∙ ap (λ xs. xs ++ a.lines) to.spelled
          ∙ append_assoc begun (flat_map (λ b. b.lines) answers) a.lines
          ∙ ap (λ xs. begun ++ xs) (sym (lines-push_answer answers a));
    }

-- there are at most as many as flows
length-filter_step : (b : Bool) (x : FlowAnswer) (some all : List FlowAnswer) → length some ≤ length all
    → length (cond b (x ∷ some) some) ≤ suc (length all)
length-filter_step true x some all le = omega (arith, le)
length-filter_step false x some all le = omega (arith, le)

-- a count of answers
count-at_most_length : (p : FlowAnswer → Bool) (answers : List FlowAnswer)
    → count p answers ≤ length answers
count-at_most_length p [] = omega arith
count-at_most_length p (x ∷ answers) =
    length-filter_step (p x) x (filter p answers) answers (count-at_most_length p answers)

-- a count of flows is at most their number, since it is that of a part of them
counted-below_limit : (p : FlowAnswer → Bool) (answers : List FlowAnswer) (k counted : ℕ)
    → length answers ≡ k → counted ≡ count p answers → counted ≤ k
counted-below_limit p answers k counted all same =
    let few = count-at_most_length p answers in
    omega (arith, few, all, same)

-- the count of right flows is at most the number of flows so far
pub count_right-below_limit : (v : AuditedValue) (o : AuditOptions) (k : ℕ) (s : FlowCounts)
    (printed : List Tree)
    (old new : List ℕ) → AreFlowsPushed v o k s printed old new → s.right ≤ k
count_right-below_limit v o k s printed old new to =
    counted-below_limit is_right to.answers k s.right to.count_is to.right

-- the count of wrong flows is at most the number of flows so far
pub count_wrong-below_limit : (v : AuditedValue) (o : AuditOptions) (k : ℕ) (s : FlowCounts)
    (printed : List Tree)
    (old new : List ℕ) → AreFlowsPushed v o k s printed old new → s.wrong ≤ k
count_wrong-below_limit v o k s printed old new to =
    counted-below_limit is_wrong to.answers k s.wrong to.count_is to.wrong

-- the count of flows of which it isn't known is at most the number of flows so far
pub count_unknown-below_limit : (v : AuditedValue) (o : AuditOptions) (k : ℕ) (s : FlowCounts)
    (printed : List Tree)
    (old new : List ℕ) → AreFlowsPushed v o k s printed old new → s.unknown ≤ k
count_unknown-below_limit v o k s printed old new to =
    counted-below_limit is_unknown to.answers k s.unknown to.count_is to.unknown

-- the count of unwanted flows is at most the number of flows so far
pub count_unwanted-below_limit : (v : AuditedValue) (o : AuditOptions) (k : ℕ) (s : FlowCounts)
    (printed : List Tree)
    (old new : List ℕ) → AreFlowsPushed v o k s printed old new → s.unwanted ≤ k
count_unwanted-below_limit v o k s printed old new to =
    counted-below_limit is_unwanted to.answers k s.unwanted to.count_is to.unwanted

-- before the last flow, one more of what is at most one a flow has room in a topology
pub counted-few : (counted flow end flows : ℕ) → counted ≤ flow → flow < end → end ≡ flows → flows ≤ 4096
    → counted < 4096
counted-few counted flow end flows le lt count few = omega (arith, le, lt, count, few)

-- where the whole domain is known, a flow is known to be right exactly if it is certified
pub known_right-whole : (whole : Bool) (x : Examined) (known : Bool) (search : Option LanSearch)
    → whole ≡ true → known ≡ is_known_wrong whole search → known_right whole x known ≡ Some (is_certified x)
known_right-whole false x known search is same = absurd cc
known_right-whole true (examined.Certified entries) known search is same = refl
known_right-whole true (examined.Found ttl travel) known search is same =
    ap (λ (b : Bool). known_right true (examined.Found ttl travel) b) same

-- each flow is known to be right exactly if it is certified
abbrev AreKnown : List FlowAnswer → Type 0
AreKnown answers = (flow : ℕ) (a : FlowAnswer) → slice_get answers flow ≡ Some a
    → a.right ≡ Some (is_certified a.examined)

-- all flows are right where none is wrong
are_right-no_wrong : (certified : Bool) (right : Option Bool) (a : FlowAnswer) (answers : List FlowAnswer)
    → right ≡ Some certified → (count is_wrong answers == 0) ≡ are_right answers
    → (length (cond (says_wrong right) (a ∷ filter is_wrong answers) (filter is_wrong answers)) == 0)
    ≡ (certified && are_right answers)
are_right-no_wrong true right a answers known same =
    ap (λ (r : Option Bool). length (cond (says_wrong r) (a ∷ filter is_wrong answers)
    (filter is_wrong answers)) == 0) known ∙ same
are_right-no_wrong false right a answers known same =
    ap (λ (r : Option Bool). length (cond (says_wrong r) (a ∷ filter is_wrong answers)
    (filter is_wrong answers)) == 0) known
    ∙ ne_eqb (length (a ∷ filter is_wrong answers)) 0 (λ e. omega (arith, e))

are_right-zero_wrong : (answers : List FlowAnswer) → AreKnown answers
    → (count is_wrong answers == 0) ≡ are_right answers
are_right-zero_wrong [] known = refl
are_right-zero_wrong (a ∷ answers) known =
    are_right-no_wrong (is_certified a.examined) a.right a answers (known 0 a refl)
    (are_right-zero_wrong answers (λ flow b at. known (suc flow) b at))

pub is_yes-zero_wrong : (v : AuditedValue) (o : AuditOptions) (answers : List FlowAnswer) (whole : Bool)
    → is_whole v ≡ whole
    → ((flow : ℕ) (a : FlowAnswer) → slice_get answers flow ≡ Some a
    → IsFlowAnswer v o (trees_shown o (take flow answers)) flow a)
    → (whole && (count is_wrong answers == 0)) ≡ (whole && are_right answers)
is_yes-zero_wrong v o answers false is each = refl
is_yes-zero_wrong v o answers true is each = are_right-zero_wrong answers (λ flow a at.
    (let b = each flow a at in b.right
    ∙ known_right-whole (is_whole v) a.examined b.explanation.certainty.known b.explanation.search is
    b.explained.known))
