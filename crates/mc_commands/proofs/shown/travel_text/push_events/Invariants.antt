use Rattle.std.proofs.Common.{◌≡◌, ◌++◌, drop}
use Rattle.std.specs.String.{string_bytes}
use Rattle.mc_commands.specs.ReplayRun.{event_lines}
use Rattle.mc_commands.proofs.shown.travel_text.push_events.Given as goal

-- the lines so far, and those of the events that are left, are the lines of all
abbrev pub invariant-loop-event : goal.invariant-loop-event
invariant-loop-event l =
    string_bytes l.text ++ event_lines l.topology (drop l.event-index l.events)
    ≡ string_bytes l.initial.text ++ event_lines l.topology l.events
