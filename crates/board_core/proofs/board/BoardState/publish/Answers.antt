use Rattle.std.proofs.Common.{◌≡◌, ◌<◌, ap, sym, subst, arith}
use Rattle.board_types.specs.declared.parts.BoardParts.{BoardParts}
use Rattle.board_types.specs.declared.parts.ProcessorParts.{ProcessorParts}
use Rattle.board_types.specs.declared.parts.TheConstants.{LAST_VERSION}
use Rattle.board_core.specs.Tsc.{processor_at, with_tsc}
use Rattle.board_core.specs.Conditions.{IsVersion, IsProcessor}
use Rattle.board_core.specs.View.{board_parts_of}
use Rattle.board_core.proofs.Joined.{most-cpus, IsProcessor-published, AreProcessors-set}
use Rattle.board_core.proofs.board.BoardState.publish.Goals as goal

pub invariant_of-self : goal.invariant_of-self
invariant_of-self c =
    let b : BoardParts = board_parts_of c.self.inside in
    let inside : c.args.cpu < c.self.inside.cpus = subst (λ (b : BoardParts). c.args.cpu < b.cpus) (sym c.self.view_is) c.requires.cpu in
    let fresh : (processor_at b c.args.cpu).version < LAST_VERSION = subst (λ (b : BoardParts). (processor_at b c.args.cpu).version < LAST_VERSION)
    (sym c.self.view_is) c.requires.version in
    let p : c.with_tsc-p.result ≡ with_tsc c.args.tsc (processor_at b c.args.cpu) = c.with_tsc-p.ensures in
    let version : c.with_tsc-p.result.version ≡ (processor_at b c.args.cpu).version = ap (λ (p : ProcessorParts). p.version) p in
    let new : IsProcessor c.self.inside.guest_khz c.published.result =
    subst (λ (p : ProcessorParts). IsProcessor c.self.inside.guest_khz p) (sym c.published.ensures)
    (IsProcessor-published c.self.inside.anchor c.self.inside.guest_khz c.self.inside.host c.args.flags c.with_tsc-p.result
    (subst IsVersion (sym version) (c.self.invariant.joined.processors.each c.args.cpu).version)
    (omega (arith, version, fresh)) c.self.invariant.joined.time c.requires.flags) in
    record {
      time = c.self.invariant.time;
      joined = record {
        format = c.self.invariant.joined.format;
        messages = c.self.invariant.joined.messages;
        rates = c.self.invariant.joined.rates;
        time = c.self.invariant.joined.time;
        accesses = c.self.invariant.joined.accesses;
        due = c.self.invariant.joined.due;
        wall = c.self.invariant.joined.wall;
        processors = AreProcessors-set c.self.inside.guest_khz c.self.inside.cpus c.self.inside.processors c.args.cpu c.published.result
            (omega arith) inside (most-cpus c.self.inside.format c.self.inside.cpus c.self.inside.devices.hpet.timers c.self.invariant.joined.format)
            c.self.invariant.joined.processors new;
        rises = c.self.invariant.joined.rises;
        apics = c.self.invariant.joined.apics;
        hv = c.self.invariant.joined.hv;
      };
    }
