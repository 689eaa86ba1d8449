-- The wants of each class are those of the pairs that no flow answers.
use Rattle.std.proofs.Common.{◌≡◌, ℕ, Bool, true, false, cond, not, List, [], ◌∷◌, ◌++◌, filter, flat_map}
use Rattle.std.proofs.Common.{map, inl, refl, sym, ap, ap₂, ◌∙◌, arith}
use Rattle.std.specs.List.{All, Contains}
use Rattle.std.proofs.lemmas.Bool.Decides.{nat_tests}
use Rattle.std.proofs.lemmas.List.Concat.{flat_map-cons}
use Rattle.std.proofs.lemmas.List.Elements.{All-head, All-tail, filter-append}
use Rattle.std.proofs.lemmas.List.Folds.{list_any_at}
use Rattle.mc_text.specs.Addr.{is_source}
use Rattle.mc_igmp.specs.declared.record.Kind.{Kind}
use Rattle.mc_igmp.specs.declared.record.Kind.TheVariants.{Include, Exclude, Change, Unknown}
use Rattle.mc_filter.specs.ChannelWants.{AreAllAskedFor, AreAllOfKind}
use Rattle.std.specs.Prelude.{if◌then◌else◌}
use Rattle.std.proofs.lemmas.Bool.{true≢false}
use Rattle.mc_igmp.specs.declared.record.Record.{Record}
use Rattle.mc_tables.specs.Summary.{in_order}
use Rattle.mc_asked.specs.declared.want_class.WantClass.{WantClass}
use Rattle.mc_asked.specs.declared.want_class.WantClass.TheVariants.{Answered}
use Rattle.mc_asked.specs.Answers.{AnswersValue, class_of, is_answer, is_answered}
use Rattle.mc_asked.specs.ListWants.{Want, asked_by, asked_by_kind, included_in, is_of_merged_filter}
use Rattle.mc_asked.specs.ListWants.{wants_in}
use Rattle.mc_theory.specs.Lists.{In}
use Rattle.mc_asked.proofs.LawLemmas.{not_any}
use Rattle.mc_asked.proofs.PartLemmas.{in-from_in_order}
use Rattle.mc_asked.proofs.AscendingLemmas.{filter-in_order, filter-swap, filter-implied}

-- a want of another class than `Answered` isn't answered
unanswered-by_class : (is_class : WantClass → Bool) (is : Bool) (other : WantClass)
    → is_class Answered ≡ false → is_class (if is then Answered else other) ≡ true → not is ≡ true
unanswered-by_class is_class true other none h = absurd (true≢false (sym h ∙ none))
unanswered-by_class is_class false other none h = refl

-- So answered wants may be dropped before those of a class are kept, and before all are put in order.
pub filter-unanswered : (is_class : WantClass → Bool) (a : AnswersValue) (lan : ℕ) (records : List Record)
    (kept : Want → Bool) (asked : List Want) → is_class Answered ≡ false
    → filter (λ want. is_class (class_of a lan records want))
    (filter kept (in_order (filter (λ want. not (is_answered a records want)) asked)))
    ≡ filter (λ want. is_class (class_of a lan records want)) (filter kept (in_order asked))
filter-unanswered is_class a lan records kept asked none =
    let of_class = λ (want : Want). is_class (class_of a lan records want) in
    let unanswered = λ (want : Want). not (is_answered a records want) in
    ap (λ (wants : List Want). filter of_class (filter kept wants)) (filter-in_order unanswered asked)
    ∙ ap (filter of_class) (filter-swap kept unanswered (in_order asked))
    ∙ filter-implied of_class unanswered (filter kept (in_order asked))
    (λ want h. unanswered-by_class is_class (is_answered a records want) _ none h)

-- ---- a list that asks for wanted flows alone

-- a flow of the group and the source answers a want of them
answered-by_flow : (a : AnswersValue) (records : List Record) (group source : ℕ)
    → is_source source ≡ true → Contains a.flows (source, group)
    → is_answered a records (group, source) ≡ true
answered-by_flow a records group source is has_it =
    list_any_at (is_answer records (group, source)) a.flows has_it.0 (source, group) has_it.1
    (ap (is_answer records (group, source)) has_it.2
    ∙ rw (not_any source is) (grind (arith, nat_tests)))

-- One source more: either no host may send from it, or its flow answers it.
included-answered_step : (a : AnswersValue) (records : List Record) (group s : ℕ) (sources : List ℕ)
    (b : Bool) → is_source s ≡ b → Contains a.flows (s, group)
    → filter (λ want. not (is_answered a records want)) (map (λ x. (group, x)) sources) ≡ []
    → filter (λ want. not (is_answered a records want))
    (map (λ x. (group, x)) (cond b (s ∷ sources) sources)) ≡ []
included-answered_step a records group s sources false is has_it rest = rest
included-answered_step a records group s sources true is has_it rest =
    rw (answered-by_flow a records group s is has_it) rest

-- an INCLUDE record whose sources are all those of flows leaves nothing unanswered
included-answered : (a : AnswersValue) (records : List Record) (group : ℕ) (sources : List ℕ)
    → All (λ s. Contains a.flows (s, group)) sources
    → filter (λ want. not (is_answered a records want)) (included_in group sources) ≡ []
included-answered a records group [] all = refl
included-answered a records group (s ∷ sources) all =
    let P : ℕ → Type 0 = λ x. Contains a.flows (x, group) in
    included-answered_step a records group s (filter is_source sources) (is_source s) refl
    (All-head P s sources all) (included-answered a records group sources (All-tail P s sources all))

-- nor does any record that asks for flows alone
asked-answered : (a : AnswersValue) (records : List Record) (k : Kind) (group : ℕ) (sources : List ℕ)
    → AreAllOfKind k a.flows records group sources
    → filter (λ want. not (is_answered a records want)) (asked_by_kind k group sources) ≡ []
asked-answered a records Exclude group sources all = rw all refl
asked-answered a records Include group sources all = included-answered a records group sources all
asked-answered a records (Change type) group sources all = refl
asked-answered a records (Unknown type) group sources all = refl

-- nor do such records together
all-answered : (a : AnswersValue) (records left : List Record)
    → All (λ r. AreAllOfKind r.kind a.flows records r.group r.sources) left
    → filter (λ want. not (is_answered a records want)) (flat_map asked_by left) ≡ []
all-answered a records [] all = refl
all-answered a records (r ∷ left) all =
    let P : Record → Type 0 = λ own. AreAllOfKind own.kind a.flows records own.group own.sources in
    let unanswered = λ (want : Want). not (is_answered a records want) in
    ap (filter unanswered) (flat_map-cons asked_by r left)
    ∙ filter-append unanswered (asked_by r) (flat_map asked_by left)
    ∙ ap₂ (λ (xs ys : List Want). xs ++ ys)
    (asked-answered a records r.kind r.group r.sources (All-head P r left all))
    (all-answered a records left (All-tail P r left all))

-- a list without elements is empty
nothing_in : (xs : List Want) → ((q : Want) → In q xs → ⊥) → xs ≡ []
nothing_in [] none = refl
nothing_in (x ∷ xs) none = absurd (none x (inl refl))

-- leaves no want of a class that isn't answered
pub none-of_class : (is_class : WantClass → Bool) (a : AnswersValue) (lan : ℕ) (records : List Record)
    → is_class Answered ≡ false → AreAllAskedFor a.flows records
    → filter (λ want. is_class (class_of a lan records want)) (wants_in records) ≡ []
none-of_class is_class a lan records none all =
    let of_class = λ (want : Want). is_class (class_of a lan records want) in
    let kept = is_of_merged_filter records in
    sym (filter-unanswered is_class a lan records kept (flat_map asked_by records) none)
    ∙ ap (λ (wants : List Want). filter of_class (filter kept (in_order wants)))
    (all-answered a records records all)
    ∙ ap (λ (wants : List Want). filter of_class (filter kept wants))
    (nothing_in (in_order []) (λ q h. in-from_in_order q [] h))
