use Rattle.std.proofs.Common.{◌≡◌, ℕ, ◌+◌, ◌-◌, ◌<◌, ◌≤◌, List, ◌++◌, ap, sym, subst, ◌∙◌, arith}
use Rattle.clk_units.specs.declared.ranges.TheConstants.{RANGE_NS}
use Rattle.irq_edges.specs.declared.edges.Edge.{Edge}
use Rattle.host_counter.specs.declared.Anchor.{Anchor}
use Rattle.host_counter.specs.Time.{time_at}
use Rattle.host_counter.proofs.Times.{time_at-start}
use Rattle.board_types.specs.declared.parts.BoardParts.{BoardParts}
use Rattle.board_devices.specs.declared.parts.DeviceParts.{DeviceParts}
use Rattle.board_devices.specs.Places.{line_at}
use Rattle.board_devices.specs.Lines.{levels}
use Rattle.board_devices.specs.Rises.{lifts}
use Rattle.board_devices.specs.Run.{run}
use Rattle.hpet_bursts.specs.Bursts.{bursts_of}
use Rattle.board_core.specs.Time.{now_of, devices_in}
use Rattle.board_core.specs.Rises.{rises_after}
use Rattle.board_core.specs.Reanchor.{reanchored}
use Rattle.local_apics.specs.declared.parts.ApicsParts.{ApicsParts}
use Rattle.local_apics.specs.Nanosecond.{run as run_apics}
use Rattle.board_core.specs.Apics.{apics_in, tscs_by_time}
use Rattle.board_core.specs.Conditions.{IsFormat, AreRises, AreApics}
use Rattle.board_core.specs.View.{board_parts_of}
use Rattle.board_core.proofs.Times.{base-first}
use Rattle.board_core.proofs.Timers.{timers-run, messages-run}
use Rattle.board_core.proofs.ApicTimers.{AreApics-ran, AreApics-more}
use Rattle.board_core.proofs.Joined.{AreRises-after}
use Rattle.board_core.proofs.Steps.{with_run}
use Rattle.board_core.proofs.board.BoardState.reanchor.Goals as goal

pub run_apics-requires-clause-anchored : goal.run_apics-requires-clause-anchored
run_apics-requires-clause-anchored c = omega (arith, c.self.invariant.time, base-first c.self.inside.anchor c.self.inside.host)

pub invariant_of-self : goal.invariant_of-self
invariant_of-self c =
    let b : BoardParts = board_parts_of c.self.inside in
    let to : ℕ = c.self.inside.time_ns + c.args.gap in
    let anchor : Anchor = record { khz = c.args.khz; start = c.args.start; base_ns = to } in
    let now_is : time_at anchor c.args.start ≡ to = time_at-start anchor in
    let from : c.self.inside.time_ns ≡ now_of (board_parts_of c.self.inside) = c.self.invariant.time in
    let small : now_of (board_parts_of c.self.inside) + c.args.gap < RANGE_NS = subst (λ (b : BoardParts). now_of b + c.args.gap < RANGE_NS)
    (sym c.self.view_is) c.requires.range in
    let ran : List Edge = (run c.self.inside.time_ns (to - c.self.inside.time_ns) c.self.inside.devices).edges in
    let es : c.run_to-came.new.edges ≡ ran = c.run_to-came.ensures.edges ∙ ap (λ (es : List Edge). es ++ ran) c.new-edges.ensures in
    record {
      time = sym now_is;
      joined = record {
        format = subst (λ (n : ℕ). IsFormat c.self.inside.format c.self.inside.cpus n)
            (sym (ap (λ (d : DeviceParts). d.hpet.timers) c.run_to-came.ensures.state
            ∙ timers-run c.self.inside.time_ns (to - c.self.inside.time_ns) c.self.inside.devices))
            c.self.invariant.joined.format;
        messages = ap (λ (d : DeviceParts). d.hpet.messages) c.run_to-came.ensures.state
            ∙ messages-run c.self.inside.time_ns (to - c.self.inside.time_ns) c.self.inside.devices ∙ c.self.invariant.joined.messages;
        rates = record { host = c.requires.rate; guest = c.self.invariant.joined.rates.guest };
        time = record {
          started = omega arith;
          range = let r : time_at anchor c.args.start < RANGE_NS = omega (arith, now_is, from, small) in r;
        };
        accesses = c.self.invariant.joined.accesses;
        due = λ k less.
            let r : (line_at k c.run_to-came.new.self).counts.due ≤ time_at anchor c.args.start + c.self.inside.accesses =
            omega (arith, c.run_to-came.ensures.due k less, c.self.invariant.joined.due k less, from, now_is) in r;
        wall = c.self.invariant.joined.wall;
        processors = c.self.invariant.joined.processors;
        apics = AreApics-more b.format b.cpus _ (time_at anchor c.args.start + b.accesses) c.run_apics.new.apics
            (subst (λ (a : ApicsParts). AreApics b.format b.cpus (now_of b + b.accesses + (to - c.self.inside.time_ns)) a) (sym c.run_apics.ensures)
            (AreApics-ran b.format b.cpus (now_of b + b.accesses) (tscs_by_time b) c.self.inside.time_ns (to - c.self.inside.time_ns) (apics_in b)
            c.self.invariant.joined.apics)) (omega (arith, from, now_is));
        hv = c.self.invariant.joined.hv;
        rises = subst (λ (rs : List ℕ). AreRises c.self.inside.format c.self.inside.accesses (levels c.run_to-came.new.self) rs)
            (sym c.count_rises_where.ensures)
            (AreRises-after c.self.inside.format c.self.inside.accesses c.self.inside.accesses 0 (levels c.self.inside.devices) (levels c.run_to-came.new.self)
            c.run_to-came.new.edges c.self.inside.rises (omega arith) (omega arith) c.self.invariant.joined.rises
            (λ line. omega (arith, ap (lifts line) es, c.run_to-came.ensures.lifts line)));
      };
    }

pub returns-clause-bursts : goal.returns-clause-bursts
returns-clause-bursts c =
    let from : ℕ = c.self.inside.time_ns in
    c.bursts.ensures
    ∙ ap (λ (n : ℕ). bursts_of from n c.self.inside.devices.hpet) (let e : from + c.args.gap - from ≡ c.args.gap = omega arith in e)
    ∙ ap (λ (t : ℕ). bursts_of t c.args.gap c.self.inside.devices.hpet) c.self.invariant.time
    ∙ ap (λ (b : BoardParts). bursts_of (now_of b) c.args.gap b.hpet) c.self.view_is

pub returns-clause-state : goal.returns-clause-state
unfolding reanchored
returns-clause-state c =
    let b : BoardParts = board_parts_of c.self.inside in
    let from : c.self.inside.time_ns ≡ now_of b = c.self.invariant.time in
    let n : c.self.inside.time_ns + c.args.gap - c.self.inside.time_ns ≡ c.args.gap = omega arith in
    let d : c.run_to-came.new.self ≡ (run (now_of b) c.args.gap (devices_in b)).state =
    c.run_to-came.ensures.state ∙ (λ i. (run (from i) (n i) (devices_in b)).state) in
    let es : c.run_to-came.new.edges ≡ (run (now_of b) c.args.gap (devices_in b)).edges =
    c.run_to-came.ensures.edges ∙ (λ i. c.new-edges.ensures i ++ (run (from i) (n i) (devices_in b)).edges) in
    let rises : c.count_rises_where.new.rises ≡ rises_after b.format (run (now_of b) c.args.gap (devices_in b)).edges b.rises =
    c.count_rises_where.ensures ∙ ap (λ (es : List Edge). rises_after b.format es b.rises) es in
    let apics : c.run_apics.new.apics ≡ run_apics (tscs_by_time b) (now_of b) c.args.gap (apics_in b) =
    c.run_apics.ensures ∙ (λ i. run_apics (tscs_by_time b) (from i) (n i) (apics_in b)) in
    (λ i. record (with_run b c.args.start (d i) (rises i) (apics i)) {
      anchor = record { khz = c.args.khz; start = c.args.start; base_ns = from i + c.args.gap };
    }) ∙ ap (λ (x : BoardParts). reanchored c.args.khz c.args.start c.args.gap x) c.self.view_is
