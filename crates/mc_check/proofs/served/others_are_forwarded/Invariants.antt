use Rattle.std.proofs.Common.{◌≡◌, drop, ◌||◌, ◌==◌, is_some}
use Rattle.mc_theory.specs.Certificates.{Entry}
use Rattle.std.specs.List.{list_all}
use Rattle.mc_check.proofs.served.others_are_forwarded.Given as goal

-- each entry so far is the LAN's or has a forwarder, so all do if those that are left do
abbrev pub invariant-loop-entry : goal.invariant-loop-entry
invariant-loop-entry l =
    list_all (λ (e : Entry). (e.lan == l.fn.lan) || is_some e.forwarder)
    (drop l.entry-index l.fn.entries)
    ≡ list_all (λ (e : Entry). (e.lan == l.fn.lan) || is_some e.forwarder) l.fn.entries
