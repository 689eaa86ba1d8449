-- Lines that don't say yes, as those of flows in a verdict text.
use Rattle.std.proofs.Common.{◌≡◌, ℕ, Bool, true, false, cond, eqb, List, [], ◌∷◌, ◌++◌, ◌⊎◌, inl, inr}
use Rattle.std.proofs.Common.{refl, sym, ap, subst, ◌∙◌, append_assoc, append-nil}
use Rattle.std.specs.Prelude.{codes, slice_index, decimal}
use Rattle.std.proofs.lemmas.Bool.{eq-eqb, false≢true}
use Rattle.mc_text.specs.Addr.{dotted}
use Rattle.mc_text.proofs.ByteLemmas.{HasNoByte}
use Rattle.mc_shown.proofs.LineFeedLemmas.{no_feed-dotted, no_feed-lan_name, number}
use Rattle.mc_shown.proofs.LineFeedLemmas.{no_feed-from_list_all, no_feed-router_name, no_feed-append}
use Rattle.mc_topology.specs.declared.flow.Flow.{Flow}
use Rattle.mc_topology.specs.Topology.{TopologyValue, IsValidTopology, lan_name, router_name}
use Rattle.mc_check.specs.ReasonText.{reason_text, verdict_text}
use Rattle.mc_check.specs.declared.verdict.Reason.{Reason}
use Rattle.mc_check.specs.declared.verdict.Reason.TheVariants.{TwoEntries, BadSource, Wildcard, Stray}
use Rattle.mc_check.specs.declared.verdict.Reason.TheVariants.{Extra, WrongRank, WrongNeed, Unfed, Missed}
use Rattle.mc_check.specs.declared.verdict.Reason.TheVariants.{Low}
use Rattle.mc_check.specs.declared.verdict.Verdict.{Verdict}
use Rattle.mc_check.specs.declared.verdict.Verdict.TheVariants.{Yes, No}
use Rattle.mc_commands.specs.CheckRun.{AreYesWords, IsLineStart}
use Rattle.mc_commands.specs.VerdictText.{flow_words, flow_line, flow_lines}

-- ---- a verdict, and the words at a flow's line's start, have no line feed

-- words and a LAN's name
pub lan_name-no_line_feed : (front : List ℕ) (t : TopologyValue) (lan : ℕ) → HasNoByte 10 front
    → IsValidTopology t
    → HasNoByte 10 (front ++ lan_name t lan)
lan_name-no_line_feed front t lan p ok = no_feed-append front (lan_name t lan) p (no_feed-lan_name t lan ok)

-- words, a router's name and its vif
pub router_and_vif-no_line_feed : (front : List ℕ) (t : TopologyValue) (router vif : ℕ) → HasNoByte 10 front
    → IsValidTopology t
    → HasNoByte 10 (front ++ router_name t router ++ codes " " ++ decimal vif)
router_and_vif-no_line_feed front t router vif p ok =
    let begun = no_feed-append front (router_name t router) p (no_feed-router_name t router ok) in
    no_feed-append _ (decimal vif) (no_feed-append _ (codes " ") begun (refl, tt)) (number vif)

-- the text of a reason
reason_text-no_line_feed : (t : TopologyValue) (r : Reason) → IsValidTopology t
    → HasNoByte 10 (reason_text t r)
reason_text-no_line_feed t (TwoEntries lan) ok = lan_name-no_line_feed (codes "TwoEntries ") t lan
    (no_feed-from_list_all (codes "TwoEntries ") refl) ok
reason_text-no_line_feed t BadSource ok = no_feed-from_list_all (codes "BadSource") refl
reason_text-no_line_feed t (Wildcard router vif) ok = router_and_vif-no_line_feed
    (codes "Wildcard ") t router vif
    (no_feed-from_list_all (codes "Wildcard ") refl) ok
reason_text-no_line_feed t (Stray router vif) ok = router_and_vif-no_line_feed (codes "Stray ") t router vif
    (no_feed-from_list_all (codes "Stray ") refl) ok
reason_text-no_line_feed t (Extra router vif lan) ok =
    let front = codes "Extra " ++ router_name t router ++ codes " " ++ decimal vif in
    let begun = router_and_vif-no_line_feed (codes "Extra ") t router vif
    (no_feed-from_list_all (codes "Extra ") refl) ok in
    lan_name-no_line_feed (front ++ codes " ") t lan (no_feed-append front (codes " ") begun (refl, tt)) ok
reason_text-no_line_feed t (WrongRank lan) ok = lan_name-no_line_feed (codes "WrongRank ") t lan
    (no_feed-from_list_all (codes "WrongRank ") refl) ok
reason_text-no_line_feed t (WrongNeed lan) ok = lan_name-no_line_feed (codes "WrongNeed ") t lan
    (no_feed-from_list_all (codes "WrongNeed ") refl) ok
reason_text-no_line_feed t (Unfed lan) ok = lan_name-no_line_feed (codes "Unfed ") t lan
    (no_feed-from_list_all (codes "Unfed ") refl) ok
reason_text-no_line_feed t (Missed lan) ok = lan_name-no_line_feed (codes "Missed ") t lan
    (no_feed-from_list_all (codes "Missed ") refl) ok
reason_text-no_line_feed t (Low lan) ok = lan_name-no_line_feed (codes "Low ") t lan
    (no_feed-from_list_all (codes "Low ") refl) ok

-- the text of a verdict
verdict_text-no_line_feed : (t : TopologyValue) (v : Verdict) → IsValidTopology t
    → HasNoByte 10 (verdict_text t v)
verdict_text-no_line_feed t (Yes copies) ok = no_feed-append (codes "yes copies ") _
    (no_feed-from_list_all (codes "yes copies ") refl)
    (number copies)
verdict_text-no_line_feed t (No r) ok = no_feed-append (codes "no ") _
    (no_feed-from_list_all (codes "no ") refl) (reason_text-no_line_feed t r ok)

-- a flow's line, but for its line feed
abbrev pub line_body : TopologyValue → Flow → Verdict → List ℕ
line_body t f v = flow_words f ++ (codes " " ++ verdict_text t v)

-- the line of a flow and its verdict has no line feed before the one that ends it
pub flow_line_body : (t : TopologyValue) (f : Flow) (v : Verdict) → IsValidTopology t
    → HasNoByte 10 (line_body t f v)
flow_line_body t f v ok =
    let ttl = no_feed-append (codes " ttl ") (decimal f.ttl)
    (no_feed-from_list_all (codes " ttl ") refl) (number f.ttl) in
    let group = no_feed-append (dotted f.group) _ (no_feed-dotted f.group) ttl in
    let source = no_feed-append (dotted f.source) _ (no_feed-dotted f.source)
    (no_feed-append (codes " ") _ (refl, tt) group) in
    let last = no_feed-append (codes " ") _ (refl, tt) (verdict_text-no_line_feed t v ok) in
    no_feed-append (flow_words f) _ (no_feed-append (codes "flow ") _
    (no_feed-from_list_all (codes "flow ") refl) source) last

-- a flow's line is its body and a line feed
pub flow_line-line_body : (t : TopologyValue) (f : Flow) (v : Verdict)
    → flow_line t f v ≡ line_body t f v ++ codes "\n"
flow_line-line_body t f v = sym (append_assoc (flow_words f) (codes " " ++ verdict_text t v) (codes "\n"))

-- ---- where lines begin

-- A text with its first line feed after xs, and with a line feed after ys: ys is xs, or goes on
-- after it.
record AppendSplits (xs tail ys more : List ℕ) : Type 0 where
  rest : List ℕ
  begins : ys ≡ xs ++ (10 ∷ rest)
  goes_on : tail ≡ rest ++ (10 ∷ more)

-- two line feeds of a text are the same one, or the one after xs comes first
append-first_line_feed : (xs tail ys more : List ℕ) → HasNoByte 10 xs → xs ++ (10 ∷ tail) ≡ ys ++ (10 ∷ more)
    → (tail ≡ more) ⊎ AppendSplits xs tail ys more
append-first_line_feed [] tail [] more none same = inl (cc)
append-first_line_feed [] tail (y ∷ ys) more none same =
    inr (record { rest = ys; begins = cc; goes_on = cc })
append-first_line_feed (x ∷ xs) tail [] more none same =
    let here : x ≡ 10 = cc in
    let is : eqb 10 10 ≡ false = subst (λ (k : ℕ). eqb k 10 ≡ false) here none.0 in
    absurd (cc)
append-first_line_feed (x ∷ xs) tail (y ∷ ys) more none same =
    let rest : xs ++ (10 ∷ tail) ≡ ys ++ (10 ∷ more) = cc in
    let here : y ≡ x = cc in
    elim (append-first_line_feed xs tail ys more none.1 rest) [
      | inl e ↦ inl e
      | inr g ↦ inr (record {
        rest = g.rest;
        begins = rw (here, g.begins) refl;
        goes_on =
            g.goes_on;
      })
    ]

-- a line starts after lines that follow lines
is_line_start-append : (xs ys : List ℕ) → IsLineStart xs → IsLineStart ys → IsLineStart (xs ++ ys)
is_line_start-append xs ys starts (inl none) =
    subst IsLineStart (sym (ap (λ zs. xs ++ zs) none ∙ append-nil xs)) starts
is_line_start-append xs ys starts (inr (before, is)) =
    inr (xs ++ before, ap (λ zs. xs ++ zs) is ∙ sym (append_assoc xs before (codes "\n")))

-- the words are at the start of a line after some lines
pub record HasWordsAfterLines (begin tail rest : List ℕ) : Type 0 where
  pub front : List ℕ
  pub starts : IsLineStart front
  pub is : tail ≡ front ++ (begin ++ rest)

-- words at the start of a line, in a line or after it, start that line or come after it
pub words_at_line_start-cases : (begin xs tail front rest : List ℕ) → HasNoByte 10 xs → IsLineStart front
    → xs ++ (10 ∷ tail) ≡ front ++ (begin ++ rest)
    → (xs ++ (10 ∷ tail) ≡ begin ++ rest) ⊎ HasWordsAfterLines begin tail rest
words_at_line_start-cases begin xs tail front rest none (inl empty) same =
    inl (same ∙ ap (λ ys. ys ++ (begin ++ rest)) empty)
words_at_line_start-cases begin xs tail front rest none (inr (before, is)) same =
    let more = begin ++ rest in
    let whole : xs ++ (10 ∷ tail) ≡ before ++ (10 ∷ more) =
    same ∙ ap (λ ys. ys ++ more) is ∙ append_assoc before (10 ∷ []) more in
    elim (append-first_line_feed xs tail before more none whole) [
      | inl e ↦ inr (record { front = []; starts = inl refl; is = e })
      | inr g ↦ inr (record {
        front = g.rest ++ (10 ∷ []);
        starts = inr (g.rest, refl);
        is = g.goes_on ∙ sym (append_assoc g.rest (10 ∷ []) more);
      })
    ]

-- ---- lines that don't say yes

-- Whole lines of which none says yes: the words of a yes at the start of a line, in these lines or after
-- them, come after them.
pub record AreLinesWithoutYes (xs : List ℕ) : Type 0 where
  pub starts : IsLineStart xs
  pub left : (begin front rest tail : List ℕ) → AreYesWords begin → IsLineStart front
      → xs ++ tail ≡ front ++ (begin ++ rest) → HasWordsAfterLines begin tail rest

-- no lines
pub no_yes_line-no_lines : AreLinesWithoutYes []
no_yes_line-no_lines = record {
  starts = inl refl;
  left = λ begin front rest tail are starts same.
      record { front = front; starts = starts; is = same };
}

-- lines after lines
pub no_yes_line-append : (xs ys : List ℕ) → AreLinesWithoutYes xs → AreLinesWithoutYes ys
    → AreLinesWithoutYes (xs ++ ys)
no_yes_line-append xs ys p q = record {
  starts = is_line_start-append xs ys p.starts q.starts;
  left = λ begin front rest tail are starts same.
      let l = p.left begin front rest (ys ++ tail) are starts (sym (append_assoc xs ys tail) ∙ same) in
      q.left begin l.front rest tail are l.starts l.is;
}

-- a line that such words don't begin
pub no_yes_line-line : (xs : List ℕ) → HasNoByte 10 xs
    → ((begin tail rest : List ℕ) → AreYesWords begin → xs ++ (10 ∷ tail) ≡ begin ++ rest → ⊥)
    → AreLinesWithoutYes (xs ++ codes "\n")
no_yes_line-line xs none other = record {
  starts = inr (xs, refl);
  left = λ begin front rest tail are starts same.
      elim (words_at_line_start-cases begin xs tail front rest none starts
      (sym (append_assoc xs (codes "\n") tail) ∙ same)) [
        | inl begins ↦ absurd (other begin tail rest are begins)
        | inr left ↦ left
      ];
}

-- the first byte is another than theirs
abbrev pub BeginsWithOtherByte : List ℕ → Type 0
BeginsWithOtherByte [] = ⊥
BeginsWithOtherByte (b ∷ xs) = (eqb b 118 ≡ false) × (eqb b 123 ≡ false)

-- a line that begins with another byte than a yes doesn't begin with the words of one
yes_words-other_first_byte : (xs begin tail rest : List ℕ) → BeginsWithOtherByte xs → AreYesWords begin
    → xs ++ (10 ∷ tail) ≡ begin ++ rest → ⊥
yes_words-other_first_byte [] begin tail rest other are same = other
yes_words-other_first_byte (b ∷ xs) begin tail rest other (inl is) same =
    let here : b ≡ 118 =
    ap (λ (zs : List ℕ). slice_index zs 0) (same ∙ ap (λ w. w ++ rest) is) in
    false≢true (sym other.0 ∙ eq-eqb b 118 here)
yes_words-other_first_byte (b ∷ xs) begin tail rest other (inr is) same =
    let here : b ≡ 123 =
    ap (λ (zs : List ℕ). slice_index zs 0) (same ∙ ap (λ w. w ++ rest) is) in
    false≢true (sym other.1 ∙ eq-eqb b 123 here)

-- a line of which that is so
pub no_yes_line-text_line : (line xs : List ℕ) → BeginsWithOtherByte xs → HasNoByte 10 xs → line
    ≡ xs ++ codes "\n"
    → AreLinesWithoutYes line
no_yes_line-text_line line xs other none is =
    subst AreLinesWithoutYes (sym is)
    (no_yes_line-line xs none (λ begin tail rest are same. yes_words-other_first_byte xs begin tail
    rest other are same))

-- one of two texts
pub no_yes_line-if : (b : Bool) (xs ys : List ℕ) → AreLinesWithoutYes xs → AreLinesWithoutYes ys
    → AreLinesWithoutYes (cond b xs ys)
no_yes_line-if true xs ys p q = p
no_yes_line-if false xs ys p q = q

-- ---- the lines of flows

-- the line of a flow
pub no_yes_line-verdict_line : (t : TopologyValue) (f : Flow) (v : Verdict) → IsValidTopology t
    → AreLinesWithoutYes (flow_line t f v)
no_yes_line-verdict_line t f v ok =
    no_yes_line-text_line (flow_line t f v) (line_body t f v) (refl, refl) (flow_line_body t f v ok)
    (flow_line-line_body t f v)

-- the lines of all flows
pub no_yes_line-flow_lines : (t : TopologyValue) (fs : List Flow) (vs : List Verdict) → IsValidTopology t
    → AreLinesWithoutYes (flow_lines t fs vs)
no_yes_line-flow_lines t [] vs ok = no_yes_line-no_lines
no_yes_line-flow_lines t (f ∷ fs) [] ok = no_yes_line-no_lines
no_yes_line-flow_lines t (f ∷ fs) (v ∷ vs) ok =
    no_yes_line-append (flow_line t f v) (flow_lines t fs vs) (no_yes_line-verdict_line t f v ok)
    (no_yes_line-flow_lines t fs vs ok)
