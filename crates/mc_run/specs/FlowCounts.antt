-- What an audit prints of a flow, and how many flows are right, wrong, unknown and unwanted (docs/FORMATS.md,
-- the section "The program").
use Rattle.std.specs.Prelude.{ℕ, ◌==◌, ◌+◌, ◌&&◌, not, Bool, List, filter, length, Option, Some, None}
use Rattle.std.specs.Prelude.{is_none, true, false}
use Rattle.std.specs.List.{list_all}
use Rattle.mc_theory.specs.Nets.{Net}
use Rattle.mc_maker.specs.Examined.{is_certified}
use Rattle.mc_maker.specs.declared.examination.Examined.{Examined}
use Rattle.mc_run.specs.declared.audit.flow_status.FlowStatus.{FlowStatus}
use Rattle.mc_run.specs.declared.audit.flow_status.FlowCounts.{FlowCounts}

-- What an audit prints of a flow, and by what.
pub record FlowAnswer : Type 0 where
  -- the flow's net
  pub net : Net
  -- the result of examining the flow
  pub examined : Examined
  -- whether the flow is right (`true`) or not (`false`), if that is known
  pub right : Option Bool
  -- the LANs that want the flow
  pub wanted : List ℕ
  -- the flow's lines
  pub lines : List ℕ

-- whether every flow is certified
abbrev pub are_right : List FlowAnswer → Bool
are_right answers = list_all (λ a. is_certified a.examined) answers

-- ---- counts

-- whether a flow is known to be right
abbrev pub says_right : Option Bool → Bool
says_right None = false
says_right (Some right) = right

-- whether it is known that a flow isn't right
abbrev pub says_wrong : Option Bool → Bool
says_wrong None = false
says_wrong (Some right) = not right

-- 1 where the fact holds, and otherwise 0
abbrev pub one_if_true : Bool → ℕ
one_if_true true = 1
one_if_true false = 0

-- the counts with one flow more, of this status
abbrev pub with_status : FlowCounts → FlowStatus → FlowCounts
with_status flow_counts status = record {
  right = flow_counts.right + one_if_true (says_right status.right);
  wrong = flow_counts.wrong + one_if_true (says_wrong status.right);
  unknown = flow_counts.unknown + one_if_true (is_none status.right);
  unwanted = flow_counts.unwanted + one_if_true status.unwanted;
}

-- whether it is known of this flow that it is right
abbrev pub is_right : FlowAnswer → Bool
is_right answer = says_right answer.right

-- whether it is known of this flow that it isn't right
abbrev pub is_wrong : FlowAnswer → Bool
is_wrong answer = says_wrong answer.right

-- whether neither is known of this flow
abbrev pub is_unknown : FlowAnswer → Bool
is_unknown answer = is_none answer.right

-- whether nothing is found of this flow and no LAN wants it
abbrev pub is_unwanted : FlowAnswer → Bool
is_unwanted answer = is_certified answer.examined && (length answer.wanted == 0)

-- how many of the flows pass the test
abbrev pub count : (FlowAnswer → Bool) → List FlowAnswer → ℕ
count p answers = length (filter p answers)
