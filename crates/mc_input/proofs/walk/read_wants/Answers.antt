use Rattle.std.proofs.Common.{◌≡◌, ℕ, ◌+◌, ◌∙◌, Bool, List, [], ◌∷◌, ◌++◌, Result, Some, ap, arith, drop}
use Rattle.std.proofs.Common.{Option, inr, length, refl, rules, slice_get, subst, sym}
use Rattle.std.proofs.lemmas.List.{drop_all, length-append}
use Rattle.std.proofs.lemmas.Result.{err_from_is_err_and}
use Rattle.mc_text.specs.Steps.{map_fault}
use Rattle.mc_igmp.specs.declared.record.Record.{Record}
use Rattle.mc_topology.specs.Topology.{TopologyValue}
use Rattle.mc_files.specs.Layout.{SlotNumber}
use Rattle.mc_files.specs.Layout.{first_lan_number}
use Rattle.mc_forward.specs.Assembling.{AreWanted}
use Rattle.mc_forward.proofs.IndexLemmas.{slice_get-exists}
use Rattle.mc_forward.proofs.ListedTableLemmas.{pairwise-more}
use Rattle.mc_input.specs.Kept.{AreWantedBy}
use Rattle.mc_input.specs.PartsOneByOne.{certificate_number}
use Rattle.mc_input.specs.PartsReading.{reports_of}
use Rattle.mc_input.specs.Stream.{IsFaultOfStream, NextParts, Stream, read_first}
use Rattle.mc_input.specs.Stream.{read_lan, read_stream}
use Rattle.mc_input.specs.declared.fault.InputFault.TheVariants.{Memory, Reports}
use Rattle.mc_input.specs.declared.source_fault.SourceFault.{SourceFault}
use Rattle.mc_input.specs.declared.source_fault.SourceFault.TheVariants.{Input}
use Rattle.mc_input.proofs.FinishLemmas.{length-answers_push}
use Rattle.mc_input.proofs.ReadingLemmas.{drop-slice_get}
use Rattle.mc_input.proofs.WalkLemmas.{read_each_after, read_each-Err, read_each-end, read_each-more}
use Rattle.mc_input.proofs.WalkLemmas.{read_each-start}
use Rattle.mc_input.proofs.WalkLemmas.{read_lan-Err, read_lan-Ok, read_stream-Err_implied}
use Rattle.mc_input.proofs.walk.read_wants.Goals as goal

abbrev read : List ℕ → NextParts → Result (List Record × NextParts) SourceFault
read lan = read_lan

-- Before the first LAN nothing was read of the stream.
pub loop-lan-init : goal.loop-lan-init
loop-lan-init g c =
    let t = c.args.topology.now in
    let items : c.new-wants.result.items ≡ [] = c.new-wants.ensures.items in
    let first : first_lan_number t ≡ first_lan_number t + 0 = omega arith in
    record {
      advances = g.met.S.Slots.stays c.args.slots.now;
      failures = refl;
      room = c.requires.room;
      settings = refl;
      end = c.lans-lan-end.ensures.count;
      count = ap length items;
      ready = c.requires.ready;
      flows = λ lan wanted at. absurd (none_there lan items at);
      some = ([], refl, c.requires.none_kept);
      taken = λ stream known. (
        stream,
        [],
        subst (λ (n : ℕ). g.S.Slots.gives c.args.slots.now t n ≡ Some stream) first known,
        subst (λ (ws : List (List Bool)). AreWantedBy t [] ws) (sym items) tt,
        c.requires.none_kept,
        refl,
        read_each-start read t.lans stream,
      );
    }
  where
    none_there : {A : Type 0} {xs : List A} {x : A} (k : ℕ) → xs ≡ [] → slice_get xs k ≡ Some x → ⊥
    none_there k empty at = cc

-- what the slots give from the LAN's reports on,
reports_at : (gives : TopologyValue → ℕ → Option Stream) (t : TopologyValue) (n : ℕ) (slot : SlotNumber)
    (stream : Stream) → slot ≡ record { topology = t; number = n } → gives t n ≡ Some stream
    → gives slot.topology slot.number ≡ Some stream
reports_at gives t n slot stream is known =
    subst (λ (s : SlotNumber). gives s.topology s.number ≡ Some stream) (sym is) known

-- and from the next LAN's on
next_at : (gives : TopologyValue → ℕ → Option Stream) (t : TopologyValue) (k : ℕ) (slot : SlotNumber)
    (stream : Stream) → slot ≡ record { topology = t; number = first_lan_number t + k }
    → gives slot.topology (slot.number + 1) ≡ Some stream
    → gives t (first_lan_number t + (k + 1)) ≡ Some stream
next_at gives t k slot stream is known =
    let behind : first_lan_number t + k + 1 ≡ first_lan_number t + (k + 1) = omega arith in
    subst (λ (n : ℕ). gives t n ≡ Some stream) behind
    (subst (λ (s : SlotNumber). gives s.topology (s.number + 1) ≡ Some stream) is known)

-- The LANs before were read, so that the fault of this one's list is the first.
pub returns-in_err-reports-clause-fault : goal.returns-in_err-reports-clause-fault
returns-in_err-reports-clause-fault g c =
    let p = err_from_is_err_and c.from_residual-in_err-reports.result
    c.from_residual-in_err-reports.ensures.1 in
    let t = c.args.topology.now in
    let k = c.loop-lan.lan in
    let own = c.in_err-reports.field-0.0 in
    let lan = slice_get-exists t.lans k (omega (arith, c.loop-lan-test.true, c.loop-lan.invariant.end)) in
    let refused = subst (λ (s : SlotNumber). IsFaultOfStream (g.S.Slots.gives c.loop-lan.slots s.topology
    s.number) (read_first reports_of) own)
    c.reports-slot.ensures.number (c.in_err-reports.ensures.fault reports_of
    (λ part small. ap (map_fault (Reports part.name)) (c.new-reader.ensures.reads part.bytes))) in
    rw (p.1, p.2) (λ stream known loud.
    let x = c.loop-lan.invariant.taken stream known in
    x.6 ∙ ap (λ (more : List (List ℕ)). read_stream (read_each_after read x.1 more) x.0)
    (drop-slice_get t.lans k lan.0 lan.1)
    ∙ read_stream-Err_implied (read lan.0) (read_each_after read x.1 (lan.0 ∷ drop (k + 1) t.lans))
    (read_each-Err read x.1 lan.0 (drop (k + 1) t.lans)) x.0 own
    (read_stream-Err_implied (read_first reports_of) read_lan read_lan-Err x.0 own (refused x.0 x.2 loud)))

-- Running out of memory is possible for every source.
pub returns-in_err-wanted-clause-faults : goal.returns-in_err-wanted-clause-faults
returns-in_err-wanted-clause-faults g c =
    let p = err_from_is_err_and c.from_residual-in_err-wanted.result
    c.from_residual-in_err-wanted.ensures.1 in
    rw (p.1, p.2) (g.met.S.Slots.possible (Input Memory) refl)

-- The next LAN's list is the stream's next part, and its answers are pushed behind those of the LANs
-- before.
pub loop-lan-preserved : goal.loop-lan-preserved
loop-lan-preserved g c =
    let t = c.args.topology.now in
    let k = c.loop-lan.lan in
    let wanted = c.in_ok-wanted.wanted in
    let are = c.in_ok-wanted.ensures.wanted in
    let items = c.in_ok-push.ensures.items in
    let lan = slice_get-exists t.lans k (omega (arith, c.loop-lan-test.true, c.loop-lan.invariant.end)) in
    let slot = c.reports-slot.result in
    let number = c.reports-slot.ensures.number in
    record {
      advances = g.met.S.Slots.advances_twice c.args.slots.now c.loop-lan.slots c.read_slot.new.slots
          c.loop-lan.invariant.advances c.in_ok-reports.ensures.advances;
      failures = c.in_ok-reports.ensures.failures ∙ c.loop-lan.invariant.failures;
      room = search rules;
      end = c.loop-lan.invariant.end;
      count = ap length items ∙ omega (
        arith,
        length-append c.loop-lan.wants.items (wanted ∷ []),
        c.loop-lan.invariant.count,
      );
      ready = c.take_reports.ensures.ready;
      settings = c.take_reports.ensures.settings ∙ c.loop-lan.invariant.settings;
      flows = rw items (length-answers_push (length t.flows) c.loop-lan.wants.items wanted
          c.loop-lan.invariant.flows are.count);
      some =
          let lists = c.loop-lan.invariant.some in (
            lists.0 ++ c.in_ok-reports.reports ∷ [],
            length-append lists.0 (c.in_ok-reports.reports ∷ []) ∙ ap (λ n. n + 1) lists.1,
            c.in_ok-wanted.ensures.kept lists.0 lists.1 lists.2,
          );
      taken = λ stream known.
          let x = c.loop-lan.invariant.taken stream known in
          let y = c.in_ok-reports.ensures.value reports_of
          (λ part small. ap (map_fault (Reports part.name)) (c.new-reader.ensures.reads part.bytes)) x.0
          (reports_at (g.S.Slots.gives c.loop-lan.slots) t (first_lan_number t + k) slot x.0 number x.2) in (
            y.0,
            x.1 ++ y.4.0 ∷ [],
            next_at (g.S.Slots.gives c.read_slot.new.slots) t k slot y.0 number y.2,
            subst (λ (ws : List (List Bool)). AreWantedBy t (x.1 ++ y.4.0 ∷ []) ws) (sym items)
                (pairwise-more (AreWanted t.flows) x.1 c.loop-lan.wants.items y.4.0 wanted
                x.3 (subst (λ (records : List Record). AreWanted t.flows records wanted) y.4.2 are)),
            subst (λ (records : List Record). g.L.ListKeeper.has_kept c.take_reports.new.keeper
                (x.1 ++ records ∷ [])) y.4.2
                (c.in_ok-wanted.ensures.kept x.1 x.5 x.4),
            length-append x.1 (y.4.0 ∷ []) ∙ ap (λ n. n + 1) x.5,
            x.6 ∙ ap (λ (more : List (List ℕ)). read_stream (read_each_after read x.1 more) x.0)
                (drop-slice_get t.lans k lan.0 lan.1)
                ∙ read_each-more read x.1 lan.0 (drop (k + 1) t.lans) x.0 y.0 y.4.0
                (ap (read_stream read_lan) y.3 ∙ read_lan-Ok y.0 y.1 y.4.0 y.4.1),
          );
    }

-- After the last LAN the stream goes on with the certificate's part.
pub returns-clause-wants : goal.returns-clause-wants
returns-clause-wants g c = λ stream known.
    let t = c.args.topology.now in
    let k = c.loop-lan.lan in
    let x = c.loop-lan.invariant.taken stream known in
    let all : k ≡ length t.lans = omega (
      arith,
      c.loop-lan-test.false,
      c.loop-lan.invariant.end,
      c.loop-lan.invariant.count,
      c.loop-lan.auto.lan-end,
    ) in
    let none : drop k t.lans ≡ [] = drop_all k t.lans (omega (arith, all)) in
    let number : first_lan_number t + k ≡ certificate_number t = omega (arith, all) in (
      x.0,
      x.1,
      subst (λ (n : ℕ). g.S.Slots.gives c.loop-lan.slots t n ≡ Some x.0) number x.2,
      x.3,
      x.4,
      x.6 ∙ ap (λ (more : List (List ℕ)). read_stream (read_each_after read x.1 more) x.0) none
          ∙ read_each-end read x.1 x.0,
    )

-- One call after another goes on from where the first stopped.
pub returns-in_err-reports-clause-advances : goal.returns-in_err-reports-clause-advances
returns-in_err-reports-clause-advances g c = g.met.S.Slots.advances_twice c.args.slots.now c.loop-lan.slots
    c.read_slot.new.slots c.loop-lan.invariant.advances c.in_err-reports.ensures.advances

pub returns-in_err-wanted-clause-advances : goal.returns-in_err-wanted-clause-advances
returns-in_err-wanted-clause-advances g c = g.met.S.Slots.advances_twice c.args.slots.now c.loop-lan.slots
    c.read_slot.new.slots c.loop-lan.invariant.advances c.in_ok-reports.ensures.advances

pub returns-in_err-push-clause-advances : goal.returns-in_err-push-clause-advances
returns-in_err-push-clause-advances g c = g.met.S.Slots.advances_twice c.args.slots.now c.loop-lan.slots
    c.read_slot.new.slots c.loop-lan.invariant.advances c.in_ok-reports.ensures.advances

-- Where memory runs out nothing is claimed of the stream.
pub returns-in_err-push-clause-fault : goal.returns-in_err-push-clause-fault
returns-in_err-push-clause-fault g c =
    let p = err_from_is_err_and c.from_residual-in_err-push.result c.from_residual-in_err-push.ensures.1 in
    rw (p.1, p.2) (λ stream known loud. absurd (loud (inr refl)))

pub returns-in_err-push-clause-faults : goal.returns-in_err-push-clause-faults
returns-in_err-push-clause-faults g c =
    let p = err_from_is_err_and c.from_residual-in_err-push.result c.from_residual-in_err-push.ensures.1 in
    rw (p.1, p.2) (g.met.S.Slots.possible (Input Memory) refl)

-- Something was kept for the list of each LAN.
pub returns-clause-lists : goal.returns-clause-lists
returns-clause-lists g c =
    let lists = c.loop-lan.invariant.some in
    let all : c.loop-lan.lan ≡ length c.args.topology.now.lans = omega (
      arith,
      c.loop-lan-test.false,
      c.loop-lan.invariant.end,
      c.loop-lan.auto.lan-end,
    ) in
    (lists.0, lists.1 ∙ all, lists.2)
