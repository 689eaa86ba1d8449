-- The words up to the next opening brace are written, and then the text of the key up to its closing one:
-- these are the next pieces of the sentence.
use Rattle.std.proofs.Common.{rules, ◌≡◌, ◌++◌, ℕ, List, map, ap, sym, ◌∙◌, arith, append_assoc, subst}
use Rattle.std.specs.Prelude.{OnOk}
use Rattle.std.specs.String.{string_bytes}
use Rattle.mc_lines.specs.FlowContext.{flow_context}
use Rattle.mc_lines.specs.Filled.{text_of_key}
use Rattle.mc_lines.specs.Sentences.{filled}
use Rattle.mc_lines.specs.GivenLines.{named_fact}
use Rattle.mc_lines.proofs.FillLemmas.{filled-all, filled-key, filled-open}
use Rattle.mc_lines.proofs.facts.fill.push_filled.Goals as goal

-- The brace isn't closed, so nothing follows the words.
pub returns-in_default-split_once : goal.returns-in_default-split_once
returns-in_default-split_once c =
    let text_of : List ℕ → List ℕ =
    text_of_key (flow_context c.args.context.now) (map named_fact c.args.facts.now) in
    let found = c.in-Some.ensures.byte (omega arith) (λ w o h. h) in
    let none = c.in_default-split_once.ensures.byte (omega arith) (λ w o h. h) in
    c.in_ok-push_words.ensures
    ∙ ap (λ (l : List ℕ). string_bytes c.loop-words.text ++ l)
    (sym (filled-open text_of c.loop-words.rest.now c.in-Some.words.now c.in-Some.behind.now
    found.0 found.1 found.2 none))
    ∙ c.loop-words.invariant.text

-- The words and the text of the key are written, and what comes after the closing brace is left.
pub loop-words-preserved : goal.loop-words-preserved
loop-words-preserved c =
    let text_of : List ℕ → List ℕ =
    text_of_key (flow_context c.args.context.now) (map named_fact c.args.facts.now) in
    let found = c.in-Some.ensures.byte (omega arith) (λ w o h. h) in
    let closed = c.in-Some-split_once.ensures.byte (omega arith) (λ w o h. h) in
    let after = c.in-Some-split_once.after.now in
    record {
      utf8 = search rules;
      text = ap (λ (l : List ℕ). l ++ filled text_of after) c.in_ok-push_fact_of_key.ensures
          ∙ append_assoc _ _ (filled text_of after)
          ∙ ap (λ (l : List ℕ). l ++ (text_of c.in-Some-split_once.key.now ++ filled text_of after))
          c.in_ok-push_words.ensures
          ∙ append_assoc (string_bytes c.loop-words.text) _ _
          ∙ ap (λ (l : List ℕ). string_bytes c.loop-words.text ++ l)
          (sym (filled-key text_of c.loop-words.rest.now c.in-Some.words.now c.in-Some.behind.now
          c.in-Some-split_once.key.now after found.0 found.1 found.2 closed.0 closed.1 closed.2))
          ∙ c.loop-words.invariant.text;
    }

-- No brace opens, so what is left is words.
pub returns : goal.returns
returns c =
    let text_of : List ℕ → List ℕ =
    text_of_key (flow_context c.args.context.now) (map named_fact c.args.facts.now) in
    let none = c.in_default.ensures.byte (omega arith) (λ w o h. h) in
    subst (λ (l : List ℕ). OnOk c.push_words-2.result (string_bytes c.push_words-2.new.text ≡ l))
    (sym (ap (λ (l : List ℕ). string_bytes c.loop-words.text ++ l)
    (filled-all text_of c.loop-words.rest.now none)) ∙ c.loop-words.invariant.text)
    c.push_words-2.ensures
