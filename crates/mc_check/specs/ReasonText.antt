-- How `check` prints a reason and a verdict, with the names of the topology (docs/FORMATS.md, the section
-- "The program").
use Rattle.std.specs.Prelude.{ℕ, List, ◌++◌, codes, decimal}
use Rattle.mc_topology.specs.Topology.{TopologyValue, lan_name, router_name}
use Rattle.mc_check.specs.declared.verdict.Reason.{Reason}
use Rattle.mc_check.specs.declared.verdict.Reason.TheVariants.{TwoEntries, BadSource, Wildcard}
use Rattle.mc_check.specs.declared.verdict.Reason.TheVariants.{Stray, Extra, WrongRank, WrongNeed}
use Rattle.mc_check.specs.declared.verdict.Reason.TheVariants.{Unfed, Missed, Low}
use Rattle.mc_check.specs.declared.verdict.Verdict.{Verdict}
use Rattle.mc_check.specs.declared.verdict.Verdict.TheVariants.{Yes, No}

-- a reason: its kind, and the LAN, or the router and the vif, that it is about, such as `Missed hall` or
-- `Wildcard r1 2`
abbrev pub reason_text : TopologyValue → Reason → List ℕ
reason_text topology (TwoEntries lan) = codes "TwoEntries " ++ lan_name topology lan
reason_text topology BadSource = codes "BadSource"
reason_text topology (Wildcard router vif) =
    codes "Wildcard " ++ router_name topology router ++ codes " " ++ decimal vif
reason_text topology (Stray router vif) =
    codes "Stray " ++ router_name topology router ++ codes " " ++ decimal vif
reason_text topology (Extra router vif lan) =
    codes "Extra " ++ router_name topology router ++ codes " " ++ decimal vif ++ codes " "
    ++ lan_name topology lan
reason_text topology (WrongRank lan) = codes "WrongRank " ++ lan_name topology lan
reason_text topology (WrongNeed lan) = codes "WrongNeed " ++ lan_name topology lan
reason_text topology (Unfed lan) = codes "Unfed " ++ lan_name topology lan
reason_text topology (Missed lan) = codes "Missed " ++ lan_name topology lan
reason_text topology (Low lan) = codes "Low " ++ lan_name topology lan

-- a verdict, which ends its flow's line: `yes copies 3`, or `no ` and the reason
abbrev pub verdict_text : TopologyValue → Verdict → List ℕ
verdict_text topology (Yes copies) = codes "yes copies " ++ decimal copies
verdict_text topology (No reason) = codes "no " ++ reason_text topology reason
