-- Lines of text and objects that don't say yes: those of findings, of events and of routers.
use Rattle.std.proofs.Common.{◌≡◌, ℕ, eqb, Bool, true, false, List, [], ◌∷◌, ◌++◌, inl, inr, refl, sym}
use Rattle.std.proofs.Common.{ap, subst, ◌∙◌, append_assoc, arith}
use Rattle.std.specs.Prelude.{codes, slice_index, decimal, flat_map}
use Rattle.mc_text.proofs.ByteLemmas.{HasNoByte}
use Rattle.mc_topology.specs.declared.flow.Flow.{Flow}
use Rattle.mc_topology.specs.Topology.{TopologyValue, IsValidTopology, router_name}
use Rattle.mc_theory.specs.Events.{Event, Outcome}
use Rattle.mc_theory.specs.Events.Outcome.{Open, NoRow, OtherVif, Sent}
use Rattle.mc_check.specs.declared.verdict.Verdict.TheVariants.{Yes}
use Rattle.mc_replay.specs.TravelText.{event_text, finding_text, outcome_text}
use Rattle.mc_replay.specs.declared.finding.Finding.{Finding}
use Rattle.mc_replay.specs.declared.finding.Finding.TheVariants.{Clean, Duplicate, Loop, Stray, Missed}
use Rattle.mc_replay.specs.declared.travel.Travel.{Travel}
use Rattle.mc_shown.specs.Indented.{AreIndented, HasNoLineFeed, indented}
use Rattle.mc_shown.specs.ExcludedText.{IsExcludedLine}
use Rattle.mc_theory.specs.Lists.{In}
use Rattle.mc_shown.specs.UnlistedLines.{AreLines, IsUnlistedLine, with_line_feed}
use Rattle.mc_json.specs.ObjectLines.{AreObjectLines, BeginsObject, IsNotVerdict}
use Rattle.mc_commands.specs.CheckRun.{AreYesWords, yes_object}
use Rattle.mc_run.specs.AuditText.{events_if_shown, right_line, found_flow_line, known_word}
use Rattle.mc_commands.specs.ReplayRun.{event_line, event_lines}
use Rattle.mc_commands.specs.VerdictText.{flow_words}
use Rattle.mc_shown.proofs.LineFeedLemmas.{no_feed-dotted, number, no_feed-from_list_all}
use Rattle.mc_shown.proofs.LineFeedLemmas.{no_feed-router_name, no_feed-append}
use Rattle.mc_commands.proofs.VerdictLines.{AreLinesWithoutYes, BeginsWithOtherByte, no_yes_line-append}
use Rattle.mc_commands.proofs.VerdictLines.{no_yes_line-line, lan_name-no_line_feed}
use Rattle.mc_commands.proofs.VerdictLines.{router_and_vif-no_line_feed, no_yes_line-no_lines}
use Rattle.mc_commands.proofs.VerdictLines.{no_yes_line-text_line, no_yes_line-verdict_line}

-- ---- lines of text

-- the words of a flow have no line feed
flow_words-no_yes : (f : Flow) → HasNoByte 10 (flow_words f)
flow_words-no_yes f =
    let ttl = no_feed-append (codes " ttl ") (decimal f.ttl)
    (no_feed-from_list_all (codes " ttl ") refl) (number f.ttl) in
    let group = no_feed-append _ _ (no_feed-dotted f.group) ttl in
    let source = no_feed-append _ _ (no_feed-dotted f.source)
    (no_feed-append (codes " ") _ (refl, tt) group) in
    no_feed-append (codes "flow ") _ (no_feed-from_list_all (codes "flow ") refl) source

-- the words at a flow's line's start, and more
no_yes_line-flow_words : (f : Flow) (more : List ℕ) → HasNoByte 10 more
    → AreLinesWithoutYes (flow_words f ++ (more ++ codes "\n"))
no_yes_line-flow_words f more none =
    no_yes_line-text_line (flow_words f ++ (more ++ codes "\n")) (flow_words f ++ more) (refl, refl)
    (no_feed-append (flow_words f) more (flow_words-no_yes f) none)
    (sym (append_assoc (flow_words f) more (codes "\n")))

-- the line of a right flow, or of one without a known fault
pub no_yes_line-right_line : (whole : Bool) (t : TopologyValue) (f : Flow) (copies : ℕ) → IsValidTopology t
    → AreLinesWithoutYes (right_line whole t f copies)
no_yes_line-right_line true t f copies ok = no_yes_line-verdict_line t f (Yes copies) ok
no_yes_line-right_line false t f copies ok =
    no_yes_line-flow_words f (codes " no fault known copies " ++ decimal copies)
    (no_feed-append (codes " no fault known copies ") _
    (no_feed-from_list_all (codes " no fault known copies ") refl)
    (number copies))

-- the text of a finding has no line feed
pub finding_text-no_yes : (t : TopologyValue) (x : Finding) → IsValidTopology t
    → HasNoByte 10 (finding_text t x)
finding_text-no_yes t Clean ok = no_feed-from_list_all (codes "Clean") refl
finding_text-no_yes t (Duplicate lan) ok =
    lan_name-no_line_feed (codes "Duplicate ") t lan (no_feed-from_list_all (codes "Duplicate ") refl) ok
finding_text-no_yes t (Loop lan) ok =
    lan_name-no_line_feed (codes "Loop ") t lan (no_feed-from_list_all (codes "Loop ") refl) ok
finding_text-no_yes t (Stray router vif) ok =
    router_and_vif-no_line_feed (codes "Stray ") t router vif (no_feed-from_list_all (codes "Stray ") refl) ok
finding_text-no_yes t (Missed lan) ok =
    lan_name-no_line_feed (codes "Missed ") t lan (no_feed-from_list_all (codes "Missed ") refl) ok

-- nor has the word before it
no_feed-known_word : (known : Bool) → HasNoByte 10 (known_word known)
no_feed-known_word true = no_feed-from_list_all (codes "wrong") refl
no_feed-known_word false = no_feed-from_list_all (codes "unknown") refl

-- the line of a flow with a finding
pub no_yes_line-found_flow_line : (t : TopologyValue) (f : Flow) (known : Bool) (x : Finding)
    → IsValidTopology t
    → AreLinesWithoutYes (found_flow_line t f known x)
no_yes_line-found_flow_line t f known x ok =
    let text = finding_text t x in
    let last = no_feed-append (codes ": ") text (no_feed-from_list_all (codes ": ") refl)
    (finding_text-no_yes t x ok) in
    let words = no_feed-append (codes " ") (known_word known ++ (codes ": " ++ text))
    (no_feed-from_list_all (codes " ") refl)
    (no_feed-append (known_word known) _ (no_feed-known_word known) last) in
    subst (λ (more : List ℕ). AreLinesWithoutYes (flow_words f ++ more))
    (append_assoc (codes " ") (known_word known ++ (codes ": " ++ text)) (codes "\n")
    ∙ ap (λ (more : List ℕ). codes " " ++ more) (append_assoc (known_word known) (codes ": " ++ text)
    (codes "\n") ∙ ap (λ (more : List ℕ). known_word known ++ more)
    (append_assoc (codes ": ") text (codes "\n"))))
    (no_yes_line-flow_words f (codes " " ++ (known_word known ++ (codes ": " ++ text))) words)

-- the text of an outcome has no line feed
outcome_text-no_yes : (o : Outcome) → HasNoByte 10 (outcome_text o)
outcome_text-no_yes Open = no_feed-from_list_all (codes "open") refl
outcome_text-no_yes NoRow = no_feed-from_list_all (codes "no row") refl
outcome_text-no_yes OtherVif = no_feed-from_list_all (codes "other vif") refl
outcome_text-no_yes (Sent copies strays) =
    let sent = codes "sent " ++ decimal copies in
    let begun =
    no_feed-append (codes "sent ") (decimal copies) (no_feed-from_list_all (codes "sent ") refl)
    (number copies) in
    let more = no_feed-append sent (codes " strayed ") begun
    (no_feed-from_list_all (codes " strayed ") refl) in
    no_feed-append (sent ++ codes " strayed ") (decimal strays) more (number strays)

-- nor has that of an event
event_text-no_yes : (t : TopologyValue) (e : Event) → IsValidTopology t → HasNoByte 10 (event_text t e)
event_text-no_yes t e ok =
    let name = router_name t e.router in
    let at = name ++ codes " " ++ decimal e.vif in
    let living = at ++ codes " ttl " ++ decimal e.ttl in
    let router : HasNoByte 10 name = no_feed-router_name t e.router ok in
    let begun = no_feed-append name (codes " ") router (refl, tt) in
    let vif = no_feed-append (name ++ codes " ") (decimal e.vif) begun (number e.vif) in
    let live = no_feed-append at (codes " ttl ") vif (no_feed-from_list_all (codes " ttl ") refl) in
    let ttl = no_feed-append (at ++ codes " ttl ") (decimal e.ttl) live (number e.ttl) in
    let more = no_feed-append living (codes " ") ttl (refl, tt) in
    no_feed-append (living ++ codes " ") (outcome_text e.outcome) more (outcome_text-no_yes e.outcome)

-- the line of an event
no_yes_line-event_line : (t : TopologyValue) (e : Event) → IsValidTopology t
    → AreLinesWithoutYes (event_line t e)
no_yes_line-event_line t e ok =
    no_yes_line-text_line (event_line t e) (codes "event " ++ event_text t e) (refl, refl)
    (no_feed-append (codes "event ") (event_text t e) (no_feed-from_list_all (codes "event ") refl)
    (event_text-no_yes t e ok)) refl

-- the lines of events
no_yes_line-event_lines : (t : TopologyValue) (es : List Event) → IsValidTopology t
    → AreLinesWithoutYes (event_lines t es)
no_yes_line-event_lines t [] ok = no_yes_line-no_lines
no_yes_line-event_lines t (e ∷ es) ok =
    no_yes_line-append (event_line t e) (event_lines t es) (no_yes_line-event_line t e ok)
    (no_yes_line-event_lines t es ok)

-- those of a travel, if travels are shown
pub no_yes_line-events_if_shown : (travels : Bool) (t : TopologyValue) (travel : Travel) → IsValidTopology t
    → AreLinesWithoutYes (events_if_shown travels t travel)
no_yes_line-events_if_shown true t travel ok = no_yes_line-event_lines t travel.events.items ok
no_yes_line-events_if_shown false t travel ok = no_yes_line-no_lines

-- lines that begin with two spaces
indented_lines : (ls : List (List ℕ)) → ((l : List ℕ) → In l ls → HasNoLineFeed l)
    → AreLinesWithoutYes (flat_map indented ls)
indented_lines [] feedless = no_yes_line-no_lines
indented_lines (l ∷ ls) feedless =
    no_yes_line-append (indented l) (flat_map indented ls)
    (no_yes_line-text_line (indented l) (codes "  " ++ l) (refl, refl)
    (no_feed-append (codes "  ") l (no_feed-from_list_all (codes "  ") refl)
    (no_feed-from_list_all l (feedless l (inl refl)))) refl)
    (indented_lines ls (λ m h. feedless m (inr h)))

-- indented lines begin with a space, so that no text of them says yes
pub no_yes_line-indented_lines : (text : List ℕ) → AreIndented text → AreLinesWithoutYes text
no_yes_line-indented_lines text is =
    subst AreLinesWithoutYes (sym is.spelled) (indented_lines is.lines is.feedless)

-- lines with a fixed start, as those on unlisted sources and groups, or on excluded
-- routers
lines_indented_by : (Begins : List ℕ → Type 0) (ls : List (List ℕ))
    → ((l : List ℕ) → Begins l → BeginsWithOtherByte l) → ((l : List ℕ) → In l ls → Begins l)
    → ((l : List ℕ) → In l ls → HasNoLineFeed l) → AreLinesWithoutYes (flat_map with_line_feed ls)
lines_indented_by Begins [] other begins feedless = no_yes_line-no_lines
lines_indented_by Begins (l ∷ ls) other begins feedless =
    no_yes_line-append (with_line_feed l) (flat_map with_line_feed ls)
    (no_yes_line-text_line (with_line_feed l) l (other l (begins l (inl refl)))
    (no_feed-from_list_all l (feedless l (inl refl))) refl)
    (lines_indented_by Begins ls other (λ m h. begins m (inr h)) (λ m h. feedless m (inr h)))

-- lines that begin with another byte than a yes make a text that doesn't say yes
pub no_yes_line-lines : (Begins : List ℕ → Type 0) (text : List ℕ)
    → ((l : List ℕ) → Begins l → BeginsWithOtherByte l) → AreLines Begins text → AreLinesWithoutYes text
no_yes_line-lines Begins text other are =
    subst AreLinesWithoutYes (sym are.spelled) (lines_indented_by Begins are.lines other are.begins
    are.feedless)

-- a line on an unlisted source and group begins otherwise than a yes
pub begins-row_line : (l : List ℕ) → IsUnlistedLine l → BeginsWithOtherByte l
begins-row_line l (rest, inl begins) = subst BeginsWithOtherByte (sym begins) (refl, refl)
begins-row_line l (rest, inr begins) = subst BeginsWithOtherByte (sym begins) (refl, refl)

-- a line on an excluded router begins with another byte than a yes
pub begins-excluded_line : (l : List ℕ) → IsExcludedLine l → BeginsWithOtherByte l
begins-excluded_line l (rest, begins) = subst BeginsWithOtherByte (sym begins) (refl, refl)

-- ---- lines that are objects

-- words without a line feed that start a line start what is before its line feed
begins_with : (xs tail begin rest : List ℕ) → HasNoByte 10 begin → xs ++ (10 ∷ tail) ≡ begin ++ rest
    → (more : List ℕ) × (xs ≡ begin ++ more)
begins_with xs tail [] rest none same = (xs, refl)
begins_with [] tail (w ∷ begin) rest none same =
    let here : w ≡ 10 = cc in
    let is : eqb 10 10 ≡ false = subst (λ (k : ℕ). eqb k 10 ≡ false) here none.0 in
    absurd (cc)
begins_with (x ∷ xs) tail (w ∷ begin) rest none same =
    let more : xs ++ (10 ∷ tail) ≡ begin ++ rest = cc in
    let here : x ≡ w = cc in
    let b = begins_with xs tail begin rest none.1 more in
    (b.0, subst (λ (k : ℕ). k ∷ xs ≡ w ∷ (begin ++ b.0)) (sym here) (ap (λ zs. w ∷ zs) b.1))

-- an object that is no verdict doesn't begin with the words of a yes
first_byte-object : (xs begin tail rest : List ℕ) → BeginsObject xs → IsNotVerdict xs → AreYesWords begin
    → xs ++ (10 ∷ tail) ≡ begin ++ rest → ⊥
first_byte-object xs begin tail rest (more, begins) other (inl is) same =
    let bad : 123 ≡ 118 = ap (λ (zs : List ℕ). slice_index zs 0)
    (sym (ap (λ zs. zs ++ (10 ∷ tail)) begins) ∙ same ∙ ap (λ w. w ++ rest) is) in
    absurd (omega (arith, bad))
first_byte-object xs begin tail rest begins other (inr is) same =
    let b = begins_with xs tail yes_object rest (no_feed-from_list_all yes_object refl)
    (same ∙ ap (λ w. w ++ rest) is) in
    other (codes ":\"yes\"}" ++ b.0) b.1

-- lines of such objects
no_yes_line-each_object : (lines : List (List ℕ)) → ((line : List ℕ) → In line lines → BeginsObject line)
    → ((line : List ℕ) → In line lines → IsNotVerdict line)
    → ((line : List ℕ) → In line lines → HasNoLineFeed line)
    → AreLinesWithoutYes (flat_map with_line_feed lines)
no_yes_line-each_object [] begins other feedless = no_yes_line-no_lines
no_yes_line-each_object (l ∷ ls) begins other feedless =
    no_yes_line-append (with_line_feed l) (flat_map with_line_feed ls)
    (no_yes_line-line l (no_feed-from_list_all l (feedless l (inl refl)))
    (λ begin tail rest are same. first_byte-object l begin tail rest (begins l (inl refl))
    (other l (inl refl)) are same))
    (no_yes_line-each_object ls (λ m h. begins m (inr h)) (λ m h. other m (inr h))
    (λ m h. feedless m (inr h)))

-- objects other than the verdict make a text that doesn't say yes
pub no_yes_line-objects : (text : List ℕ) → AreObjectLines text → AreLinesWithoutYes text
no_yes_line-objects text are =
    subst AreLinesWithoutYes (sym are.spelled) (no_yes_line-each_object are.lines are.begins
    are.other are.feedless)
