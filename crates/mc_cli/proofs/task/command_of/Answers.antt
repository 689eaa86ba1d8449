use Rattle.std.proofs.Common.{List, ℕ, map, sym, ◌∙◌}
use Rattle.std.proofs.lemmas.Bool.{false≢true}
use Rattle.std.proofs.lemmas.Result.{IfOk-weaker}
use Rattle.mc_cli.specs.Task.{AskForVersion}
use Rattle.mc_cli.proofs.FirstWordLemmas.{IsAuditFor-from_IsAskedFor, is_topic-from_IsAskedFor}
use Rattle.mc_cli.proofs.FirstWordLemmas.{IsAskedFor-help, not_Version-from_IfOk}
use Rattle.mc_cli.proofs.task.command_of.Goals as goal

-- The first word is `help`, and so asks for no version: what is asked for is help, where the words behind
-- name a topic.
pub returns-then-is_first_word : goal.returns-then-is_first_word
returns-then-is_first_word c =
    let words : List (List ℕ) = map (λ word. word.now) c.args.words.now in
    let first = c.is_first_word.ensures.0 c.if-is_first_word.true in
    let other : AskForVersion words → ⊥ =
    λ asked. false≢true (sym c.if-ask_for_version.false ∙ c.ask_for_version.ensures.1 asked) in
    let found = c.help_task.ensures.found in
    record {
      allowed = c.help_task.ensures.allowed;
      version = (
        λ is. absurd (not_Version-from_IfOk c.help_task.result _ (λ help. help.0) found is),
        λ asked. absurd (other asked),
      );
      found = IfOk-weaker c.help_task.result _ _ (IsAskedFor-help words first) found;
      only = λ task allowed asked. c.help_task.ensures.only
          (is_topic-from_IsAskedFor words first other task asked);
    }

-- The first word is `audit`, and so asks for no version or help: what is asked for is an audit.
pub returns-then-is_first_word-2-clause-only : goal.returns-then-is_first_word-2-clause-only
returns-then-is_first_word-2-clause-only c =
    let words : List (List ℕ) = map (λ word. word.now) c.args.words.now in
    let first = c.is_first_word-2.ensures.0 c.if-is_first_word-2.true in
    let other : AskForVersion words → ⊥ =
    λ asked. false≢true (sym c.if-ask_for_version.false ∙ c.ask_for_version.ensures.1 asked) in
    λ task allowed asked. c.audit_task.ensures.only task
    (IsAuditFor-from_IsAskedFor words first other task asked)
