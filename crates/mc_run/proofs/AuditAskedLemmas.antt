-- The lines of wants, one after another, and the sources that are listed for a group.
use Rattle.std.proofs.Common.{◌≡◌, ◌==◌, ◌+◌, ◌<◌, ◌^◌, ℕ, Bool, true, false, cond, List, [], ◌∷◌, ◌++◌}
use Rattle.std.proofs.Common.{map, filter, take, length, Some, Result, Ok, Err, slice_get, flat_map, ap}
use Rattle.std.proofs.Common.{sym, subst, ◌∙◌, append_assoc, append-nil, arith}
use Rattle.std.specs.Prelude.{OnOk}
use Rattle.std.proofs.lemmas.Grind.{flat_map-append}
use Rattle.std.proofs.lemmas.List.{length-map, map-append}
use Rattle.std.proofs.lemmas.List.Elements.{filter-append}
use Rattle.mc_topology.specs.declared.flow.Flow.{Flow}
use Rattle.mc_topology.specs.Topology.{IsValidTopology, TopologyValue}
use Rattle.mc_theory.specs.Lists.{below}
use Rattle.mc_forward.specs.ListedTables.{flow_pairs}
use Rattle.mc_forward.proofs.BelowLemmas.{below-more, length-below, map-push}
use Rattle.mc_forward.proofs.IndexLemmas.{take-one_more}
use Rattle.mc_asked.specs.Forwarding.{routers_in}
use Rattle.mc_asked.specs.ListWants.{Want}
use Rattle.mc_asked.specs.declared.forwarding.RouterState.{RouterState}
use Rattle.mc_asked.specs.declared.forwarding.RouterState.TheVariants.{EverySource, NoneOut, Forwards}
use Rattle.mc_shown.specs.AskedText.{asked_line_text, forwarding_text, listed_sources, what_in}
use Rattle.mc_shown.specs.declared.asked.asked_text.AskedLine.{AskedLine}
use Rattle.mc_input.specs.AskedOfFiles.{UnansweredWantsValue}
use Rattle.mc_json.specs.AskedData.{asked_object}
use Rattle.mc_json.specs.RowData.{line_of}
use Rattle.mc_run.specs.AuditAsked.{asked_line_of, line_written, numbered_asked_line, state_at}
use Rattle.mc_run.specs.AuditAsked.{states_of_line}

-- ---- listed sources

-- the listed sources of two lists
listed_sources-append : (xs ys : List (ℕ × ℕ)) (group : ℕ)
    → listed_sources (xs ++ ys) group ≡ listed_sources xs group ++ listed_sources ys group
listed_sources-append xs ys group =
    ap (map (λ (f : ℕ × ℕ). f.0)) (filter-append (λ (f : ℕ × ℕ). f.1 == group) xs ys)
    ∙ map-append (λ (f : ℕ × ℕ). f.0) (filter (λ (f : ℕ × ℕ). f.1 == group) xs)
    (filter (λ (f : ℕ × ℕ). f.1 == group) ys)

-- one flow lists its source for a group exactly if the group is its own
listed_sources-one : (pair : ℕ × ℕ) (group : ℕ) (is : Bool) → (pair.1 == group) ≡ is
    → listed_sources (pair ∷ []) group ≡ cond is (pair.0 ∷ []) []
listed_sources-one pair group true same =
    ap (λ (b : Bool). map (λ (f : ℕ × ℕ). f.0) (cond b (pair ∷ []) [])) same
listed_sources-one pair group false same =
    ap (λ (b : Bool). map (λ (f : ℕ × ℕ). f.0) (cond b (pair ∷ []) [])) same

-- the sources listed by one flow more are those of the flows before it, and its own if the group is its own
pub listed_sources-more : (flows : List Flow) (n : ℕ) (f : Flow) (group : ℕ) (is : Bool)
    → slice_get flows n ≡ Some f → (f.group == group) ≡ is
    → listed_sources (flow_pairs (take (n + 1) flows)) group
    ≡ listed_sources (flow_pairs (take n flows)) group ++ cond is (f.source ∷ []) []
listed_sources-more flows n f group is at same =
    let pair : Flow → ℕ × ℕ = λ flow. (flow.source, flow.group) in
    ap (λ (fs : List Flow). listed_sources (flow_pairs fs) group) (take-one_more flows n f at)
    ∙ ap (λ (ps : List (ℕ × ℕ)). listed_sources ps group) (map-push pair (take n flows) f)
    ∙ listed_sources-append (flow_pairs (take n flows)) (pair f ∷ []) group
    ∙ ap (λ (xs : List ℕ). listed_sources (flow_pairs (take n flows)) group ++ xs)
    (listed_sources-one (pair f) group is same)

-- ---- lines

-- one line more
pub flat_map_below-more : (line : ℕ → List ℕ) (n : ℕ) (old so_far now : List ℕ)
    → so_far ≡ old ++ flat_map line (below n) → now ≡ so_far ++ line n
    → now ≡ old ++ flat_map line (below (n + 1))
flat_map_below-more line n old so_far now before here =
    here ∙ ap (λ (xs : List ℕ). xs ++ line n) before ∙ append_assoc old (flat_map line (below n)) (line n)
    ∙ ap (λ (xs : List ℕ). old ++ xs)
    (ap (λ (xs : List ℕ). flat_map line (below n) ++ xs) (sym (append-nil (line n)))
    ∙ sym (flat_map-append line (below n) (n ∷ []))
    ∙ ap (flat_map line) (sym (below-more n)))

-- ---- the line with a number

-- what a line is made of, each part by another one
parts-of_line : (F : TopologyValue → Bool → Want → List ℕ → List ℕ → List ℕ → List ℕ → List ℕ → List ℕ)
    (t u : TopologyValue) (b c : Bool) (line : Want × List ℕ) (want : Want)
    (lans listed none_out forwards star : List ℕ) (states : List RouterState)
    → t ≡ u → b ≡ c → want ≡ line.0 → lans ≡ line.1
    → listed ≡ listed_sources (flow_pairs u.flows) line.0.0 → none_out ≡ routers_in NoneOut states
    → forwards ≡ routers_in Forwards states → star ≡ routers_in EverySource states
    → F t b want lans listed none_out forwards star
    ≡ F u c line.0 line.1 (listed_sources (flow_pairs u.flows) line.0.0) (routers_in NoneOut states)
    (routers_in Forwards states) (routers_in EverySource states)
parts-of_line F t u b c line want lans listed none_out forwards star states top excluded pair own list
    none out every =
    λ i. F (top i) (excluded i) (pair i) (own i) (list i) (none i) (out i) (every i)

-- a line is that of its number if its want, LANs, listed sources and routers are those that the lists have
-- there
pub line-by_number : (json : Bool) (t u : TopologyValue) (are_excluded : Bool) (a : UnansweredWantsValue)
    (number : ℕ) (line : Want × List ℕ) (l : AskedLine) → slice_get a.lines number ≡ Some line → t ≡ u
    → l.are_excluded ≡ are_excluded → l.want.now ≡ line.0 → l.lans.now ≡ line.1
    → l.listed.now ≡ listed_sources (flow_pairs u.flows) line.0.0
    → l.routers.now.none_out.items ≡ routers_in NoneOut (states_of_line u a.states number)
    → l.routers.now.forwards.items ≡ routers_in Forwards (states_of_line u a.states number)
    → l.routers.now.every_source.items ≡ routers_in EverySource (states_of_line u a.states number)
    → line_written json t l ≡ numbered_asked_line json u are_excluded a number
line-by_number true t u are_excluded a number line l at top excluded pair own list none out every =
    let states = states_of_line u a.states number in
    let whole : line_written true t l ≡ asked_line_of true u are_excluded states (Some line) =
    parts-of_line (λ s b w ls x n f e. line_of (asked_object s (w, ls) x (record {
      forwards = f;
      none_out = n;
      every_source = e;
    }))) t u l.are_excluded are_excluded line
    l.want.now l.lans.now l.listed.now l.routers.now.none_out.items l.routers.now.forwards.items
    l.routers.now.every_source.items states top excluded pair own list none out every in
    whole ∙ sym (ap (asked_line_of true u are_excluded states) at)
line-by_number false t u are_excluded a number line l at top excluded pair own list none out every =
    let states = states_of_line u a.states number in
    let whole : line_written false t l ≡ asked_line_of false u are_excluded states (Some line) =
    parts-of_line (λ s b w ls x n f e. asked_line_text s (w, ls) (what_in (forwarding_text s b (record {
      forwards = f;
      none_out = n;
      every_source = e;
    })) x w)) t u l.are_excluded are_excluded line l.want.now l.lans.now l.listed.now
    l.routers.now.none_out.items
    l.routers.now.forwards.items l.routers.now.every_source.items states top excluded pair own list
    none out every in
    whole ∙ sym (ap (asked_line_of false u are_excluded states) at)

-- what is appended, by another name
pub appended-same : {A X : Type 0} (r : Result A X) (old new xs ys : List ℕ) → xs ≡ ys
    → OnOk r (new ≡ old ++ xs) → OnOk r (new ≡ old ++ ys)
appended-same r old new xs ys same is = subst (λ (zs : List ℕ). OnOk r (new ≡ old ++ zs)) same is

-- two parts, one after the other
pub appended-two : {A X : Type 0} (r : Result A X) (old one new a b : List ℕ) → one ≡ old ++ a
    → OnOk r (new ≡ one ++ b) → OnOk r (new ≡ old ++ (a ++ b))
appended-two (Err e) old one new a b first second = tt
appended-two (Ok x) old one new a b first second =
    second ∙ ap (λ (xs : List ℕ). xs ++ b) first ∙ append_assoc old a b

-- ---- what each router has

-- there are as many states as routers
pub few-states_of_line : (t u : TopologyValue) (states : List (List RouterState)) (number : ℕ)
    (own seen : List RouterState) → t ≡ u → IsValidTopology u → seen ≡ own
    → own ≡ states_of_line t states number → length seen < 2 ^ 32
few-states_of_line t u states number own seen same rules is_own is =
    let size : length seen ≡ length t.routers =
    ap length is_own ∙ ap length is
    ∙ length-map (below (length t.routers)) (λ r. state_at number (slice_get states r))
    ∙ length-below (length t.routers) in
    let routers : length t.routers ≡ length u.routers = ap (λ (s : TopologyValue). length s.routers) same in
    let few = rules.few_routers in
    omega (arith, size, routers, few)
