use Rattle.std.proofs.Common.{◌≡◌, ℕ, ◌+◌, ◌-◌, ◌<◌, ◌≤◌, max, List, ◌++◌, length, length-append, drop, ap, sym, subst, ◌∙◌, arith}
use Rattle.std.proofs.Math.Seq.{drop-append_seam}
use Rattle.clk_units.specs.declared.ranges.TheConstants.{RANGE_NS}
use Rattle.irq_edges.specs.declared.edges.Edge.{Edge}
use Rattle.host_counter.specs.Time.{time_at}
use Rattle.board_types.specs.declared.parts.BoardParts.{BoardParts}
use Rattle.board_devices.specs.declared.parts.DeviceParts.{DeviceParts}
use Rattle.board_devices.specs.Places.{line_at}
use Rattle.board_devices.specs.Lines.{levels}
use Rattle.board_devices.specs.Rises.{lifts}
use Rattle.board_devices.specs.Run.{Ran, run}
use Rattle.board_core.specs.Time.{now_of, time_of_access}
use Rattle.host_counter.specs.Time.{HasTime}
use Rattle.board_core.specs.Conditions.{IsFormat, AreRises, AreApics}
use Rattle.board_core.specs.View.{board_parts_of}
use Rattle.board_core.proofs.Times.{time_at_max, base-first}
use Rattle.board_core.proofs.Timers.{timers-run, messages-run}
use Rattle.local_apics.specs.declared.parts.ApicsParts.{ApicsParts}
use Rattle.local_apics.specs.Nanosecond.{run as run_apics}
use Rattle.board_core.specs.Apics.{apics_in, tscs_by_time, after_look}
use Rattle.board_core.specs.private.Calls.{apics_ran_to}
use Rattle.board_core.specs.Access.{ran_to, bursts_to, after_run}
use Rattle.hpet_bursts.specs.Bursts.{bursts_of}
use Rattle.board_core.specs.Rises.{rises_after}
use Rattle.board_core.proofs.ApicTimers.{AreApics-ran, AreApics-more}
use Rattle.board_core.proofs.Joined.{AreRises-after}
use Rattle.board_core.proofs.Steps.{with_run-is}
use Rattle.board_core.proofs.Looks.{look-ran}
use Rattle.board_core.proofs.board.BoardState.run_on.Goals as goal

pub run_apics-requires-clause-anchored : goal.run_apics-requires-clause-anchored
run_apics-requires-clause-anchored c = omega (arith, c.self.invariant.time, base-first c.self.inside.anchor c.self.inside.host)

-- the board that the run finds
abbrev seen : goal.After-count_rises_where → BoardParts
seen c = board_parts_of c.self.inside

to_is : (c : goal.After-count_rises_where) → c.args.to ≡ time_of_access (seen c) c.args.h
to_is c = c.requires.run.to ∙ ap (λ (b : BoardParts). time_of_access b c.args.h) (sym c.self.view_is)

time_in : (c : goal.After-count_rises_where) → HasTime c.self.inside.anchor c.args.h
time_in c = subst (λ (b : BoardParts). HasTime b.anchor c.args.h) (sym c.self.view_is) c.requires.run.time

later : (c : goal.After-count_rises_where) → c.self.inside.host < c.args.h
later c = subst (λ (b : BoardParts). b.host < c.args.h) (sym c.self.view_is) c.requires.later

host_is : (c : goal.After-count_rises_where) → c.args.h ≡ max c.self.inside.host c.args.h
host_is c = omega (arith, later c)

now_is : (c : goal.After-count_rises_where) → c.args.to ≡ time_at c.self.inside.anchor c.args.h
now_is c =
    to_is c
    ∙ sym (time_at_max c.self.inside.anchor c.self.inside.host c.args.h (omega (arith, c.self.invariant.joined.rates.host.slow)))
    ∙ sym (ap (time_at c.self.inside.anchor) (host_is c))

-- the run of the devices is that of the definition
ran_is : (c : goal.After-count_rises_where) → run c.self.inside.time_ns (c.args.to - c.self.inside.time_ns) c.self.inside.devices ≡ ran_to (seen c) c.args.h
ran_is c =
    ap (λ (n : ℕ). run c.self.inside.time_ns (n - c.self.inside.time_ns) c.self.inside.devices) (to_is c)
    ∙ ap (λ (t : ℕ). run t (time_of_access (seen c) c.args.h - t) c.self.inside.devices) c.self.invariant.time

edges_are : (c : goal.After-count_rises_where) → c.run_to-came.new.edges ≡ c.args.edges.now ++ (ran_to (seen c) c.args.h).edges
edges_are c = c.run_to-came.ensures.edges ∙ ap (λ (r : Ran). c.args.edges.now ++ r.edges) (ran_is c)

rises_are : (c : goal.After-count_rises_where)
    → c.count_rises_where.new.rises ≡ rises_after c.self.inside.format (ran_to (seen c) c.args.h).edges c.self.inside.rises
rises_are c =
    c.count_rises_where.ensures
    ∙ ap (λ (es : List Edge). rises_after c.self.inside.format es c.self.inside.rises)
    (ap (drop c.len-before.result) (edges_are c)
    ∙ ap (λ (n : ℕ). drop n (c.args.edges.now ++ (ran_to (seen c) c.args.h).edges)) c.len-before.ensures.value
    ∙ drop-append_seam c.args.edges.now (ran_to (seen c) c.args.h).edges)

-- the timers that it leaves are those of the definition
apics_are : (c : goal.After-count_rises_where) → c.run_apics.new.apics ≡ apics_ran_to (seen c) c.args.h
apics_are c =
    c.run_apics.ensures
    ∙ ap (λ (n : ℕ). run_apics (tscs_by_time (seen c)) c.self.inside.time_ns (n - c.self.inside.time_ns) (apics_in (seen c))) (to_is c)
    ∙ ap (λ (t : ℕ). run_apics (tscs_by_time (seen c)) t (time_of_access (seen c) c.args.h - t) (apics_in (seen c))) c.self.invariant.time

pub invariant_of-self : goal.invariant_of-self
invariant_of-self c =
    let b : BoardParts = seen c in
    let from : c.self.inside.time_ns ≡ now_of (board_parts_of c.self.inside) = c.self.invariant.time in
    let low : time_at c.self.inside.anchor c.args.h < RANGE_NS = (time_in c).range in
    record {
      time = now_is c;
      joined = record {
        format = subst (λ (n : ℕ). IsFormat c.self.inside.format c.self.inside.cpus n)
            (sym (ap (λ (d : DeviceParts). d.hpet.timers) c.run_to-came.ensures.state
            ∙ timers-run c.self.inside.time_ns (c.args.to - c.self.inside.time_ns) c.self.inside.devices))
            c.self.invariant.joined.format;
        messages = ap (λ (d : DeviceParts). d.hpet.messages) c.run_to-came.ensures.state
            ∙ messages-run c.self.inside.time_ns (c.args.to - c.self.inside.time_ns) c.self.inside.devices ∙ c.self.invariant.joined.messages;
        rates = c.self.invariant.joined.rates;
        time = record {
          started = omega (arith, c.self.invariant.joined.time.started, later c);
          range = let r : time_at c.self.inside.anchor c.args.h < RANGE_NS = omega
              (arith, now_is c, to_is c, low, c.self.invariant.joined.time.range) in r;
        };
        accesses = c.self.invariant.joined.accesses;
        due = λ k less.
            let r : (line_at k c.run_to-came.new.self).counts.due ≤ time_at c.self.inside.anchor c.args.h + c.self.inside.accesses =
            omega (arith, c.run_to-came.ensures.due k less, c.self.invariant.joined.due k less, from, now_is c, to_is c) in r;
        wall = c.self.invariant.joined.wall;
        processors = c.self.invariant.joined.processors;
        apics = AreApics-more b.format b.cpus _ (time_at b.anchor c.args.h + b.accesses) c.run_apics.new.apics
            (subst (λ (a : ApicsParts). AreApics b.format b.cpus (now_of b + b.accesses + (c.args.to - c.self.inside.time_ns)) a) (sym c.run_apics.ensures)
            (AreApics-ran b.format b.cpus (now_of b + b.accesses) (tscs_by_time b) c.self.inside.time_ns (c.args.to - c.self.inside.time_ns) (apics_in b)
            c.self.invariant.joined.apics)) (omega (arith, from, now_is c, to_is c));
        hv = c.self.invariant.joined.hv;
        rises = subst (λ (rs : List ℕ). AreRises c.self.inside.format c.self.inside.accesses (levels c.run_to-came.new.self) rs) (sym (rises_are c))
            (AreRises-after c.self.inside.format c.self.inside.accesses c.self.inside.accesses 0 (levels c.self.inside.devices) (levels c.run_to-came.new.self)
            (ran_to (seen c) c.args.h).edges c.self.inside.rises (omega arith) (omega arith) c.self.invariant.joined.rises
            (λ line. omega (arith, ap (λ (r : Ran). lifts line r.edges) (ran_is c), c.run_to-came.ensures.lifts line)));
      };
    }

pub returns-clause-ran : goal.returns-clause-ran
returns-clause-ran c = record {
  state = with_run-is (seen c) c.args.h c.args.h c.run_to-came.new.self c.count_rises_where.new.rises c.run_apics.new.apics (host_is c)
      (c.run_to-came.ensures.state ∙ ap (λ (r : Ran). r.state) (ran_is c)) (rises_are c) (apics_are c)
      ∙ ap (λ (b : BoardParts). after_run b c.args.h) c.self.view_is;
  edges = edges_are c ∙ ap (λ (b : BoardParts). c.args.edges.now ++ (ran_to b c.args.h).edges) c.self.view_is;
  bursts = c.bursts.ensures
      ∙ ap (λ (n : ℕ). bursts_of c.self.inside.time_ns (n - c.self.inside.time_ns) c.self.inside.devices.hpet) (to_is c)
      ∙ ap (λ (t : ℕ). bursts_of t (time_of_access (seen c) c.args.h - t) c.self.inside.devices.hpet) c.self.invariant.time
      ∙ ap (λ (b : BoardParts). bursts_to b c.args.h) c.self.view_is;
  few = subst (λ (b : BoardParts). length (ran_to b c.args.h).edges ≤ 6) c.self.view_is
      (omega (arith, c.run_to-came.ensures.few, ap length (edges_are c), length-append c.args.edges.now (ran_to (seen c) c.args.h).edges));
  room = c.run_to-came.ensures.few;
}

pub returns-clause-looked : goal.returns-clause-looked
returns-clause-looked c =
    ap after_look (returns-clause-ran c).state
    ∙ subst (λ (b : BoardParts). after_look (after_run b c.args.h) ≡ after_run b c.args.h) c.self.view_is
    (look-ran (seen c) c.args.h c.self.invariant.joined.apics.places (omega (arith, c.self.invariant.joined.rates.host.slow))
    (λ e. c.requires.passes (ap now_of (sym c.self.view_is) ∙ e ∙ sym (to_is c))))
    ∙ sym (returns-clause-ran c).state
