-- The checker's reasons as values of the theory (Reasons of mc_theory).
use Rattle.std.specs.Prelude.{Option, Some, None}
use Rattle.mc_theory.specs.Reasons.{Reason as ReasonValue}
use Rattle.mc_check.specs.declared.verdict.Reason.{Reason}
use Rattle.mc_check.specs.declared.verdict.Reason.TheVariants.{TwoEntries, BadSource, Wildcard}
use Rattle.mc_check.specs.declared.verdict.Reason.TheVariants.{Stray, Extra, WrongRank, WrongNeed}
use Rattle.mc_check.specs.declared.verdict.Reason.TheVariants.{Unfed, Missed, Low}

-- a reason of the checker as one of the theory, about the same LAN, or the same router and vif
abbrev pub reason_value : Reason → ReasonValue
reason_value (TwoEntries lan) = ReasonValue.TwoEntries lan
reason_value BadSource = ReasonValue.BadSource
reason_value (Wildcard router vif) = ReasonValue.Wildcard router vif
reason_value (Stray router vif) = ReasonValue.Stray router vif
reason_value (Extra router vif lan) = ReasonValue.Extra router vif lan
reason_value (WrongRank lan) = ReasonValue.WrongRank lan
reason_value (WrongNeed lan) = ReasonValue.WrongNeed lan
reason_value (Unfed lan) = ReasonValue.Unfed lan
reason_value (Missed lan) = ReasonValue.Missed lan
reason_value (Low lan) = ReasonValue.Low lan

-- the reason as one of the theory, if there is one
abbrev pub optional_reason_value : Option Reason → Option ReasonValue
optional_reason_value None = None
optional_reason_value (Some reason) = Some (reason_value reason)
