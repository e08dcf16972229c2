use Rattle.local_apics.specs.declared.parts.ApicsParts.{ApicsParts}
use Rattle.board_core.specs.Conditions.{AreApics}
use Rattle.board_core.proofs.Joined.{IsHv-later, most-cpus}
use Rattle.board_core.proofs.ApicTimers.{AreApics-later}
use Rattle.std.proofs.Common.{◌≡◌, ℕ, ◌≤◌, ◌+◌, Bool, cond, List, get_or, ap, sym, subst, ◌∙◌, arith}
use Rattle.host_counter.specs.Time.{time_at}
use Rattle.hpet_registers.specs.declared.parts.HpetParts.{HpetParts}
use Rattle.tick_policy.specs.declared.parts.TickParts.{TickParts}
use Rattle.board_types.specs.declared.parts.BoardParts.{BoardParts}
use Rattle.board_devices.specs.declared.parts.DeviceParts.{DeviceParts}
use Rattle.board_devices.specs.Places.{no_line, line_at}
use Rattle.board_devices.specs.Lines.{levels}
use Rattle.board_core.specs.Upgrade.{has_eight_timers, apics_upgraded}
use Rattle.board_types.specs.Setup.{has_messages}
use Rattle.board_core.proofs.Upgrades.{timers-later, messages-later, due-later}
use Rattle.board_core.proofs.Joined.{IsFormat-later, AreRises-later}
use Rattle.board_core.proofs.board.BoardState.upgraded.Goals as goal

pub invariant_of-board : goal.invariant_of-board
invariant_of-board c =
    let d : DeviceParts = c.self.inside.devices in
    let later : c.self.inside.format ≤ c.args.to = subst (λ (b : BoardParts). b.format ≤ c.args.to) (sym c.self.view_is) c.requires.later in
    let most : ℕ = time_at c.self.inside.anchor c.self.inside.host + c.self.inside.accesses in
    let few : c.self.inside.cpus ≤ 64 = most-cpus c.self.inside.format c.self.inside.cpus d.hpet.timers c.self.invariant.joined.format in
    let timers : c.devices_upgraded-devices.result.hpet.timers ≡ cond (has_eight_timers c.args.to) 8 d.hpet.timers =
    ap (λ (h : HpetParts). h.timers) c.devices_upgraded-devices.ensures.hpet ∙ timers-later (has_eight_timers c.args.to) (has_messages c.args.to) d in
    record {
      time = c.self.invariant.time;
      joined = record {
        format = IsFormat-later c.self.inside.format c.args.to c.self.inside.cpus d.hpet.timers c.devices_upgraded-devices.result.hpet.timers
            c.self.invariant.joined.format later c.requires.built timers;
        messages = ap (λ (h : HpetParts). h.messages) c.devices_upgraded-devices.ensures.hpet
            ∙ messages-later c.self.inside.format c.args.to d later c.self.invariant.joined.messages;
        rates = c.self.invariant.joined.rates;
        time = c.self.invariant.joined.time;
        accesses = c.self.invariant.joined.accesses;
        due = λ k less.
            let fewer : (get_or c.devices_upgraded-devices.result.ticks k no_line).counts.due ≤ (line_at k d).counts.due =
            subst (λ (ls : List TickParts). (get_or ls k no_line).counts.due ≤ (line_at k d).counts.due) (sym c.devices_upgraded-devices.ensures.ticks)
            (due-later (has_eight_timers c.args.to) (has_messages c.args.to) d k) in
            let r : (line_at k c.devices_upgraded-devices.result).counts.due ≤ time_at c.self.inside.anchor c.self.inside.host + c.self.inside.accesses =
            omega (arith, fewer, c.self.invariant.joined.due k less) in r;
        wall = c.self.invariant.joined.wall;
        processors = c.self.invariant.joined.processors;
        apics = subst (λ (a : ApicsParts). AreApics c.args.to c.self.inside.cpus most a)
            (sym (c.apics_upgraded-board-inside.ensures ∙ ap (λ (m : Bool). apics_upgraded c.self.inside.cpus m c.self.inside.apics) c.gets_apics.ensures))
            (AreApics-later c.self.inside.format c.args.to c.self.inside.cpus most c.self.inside.apics few later c.self.invariant.joined.apics);
        hv = IsHv-later c.self.inside.format c.args.to c.self.inside.guest_khz c.self.inside.cpus c.self.inside.hv c.self.invariant.joined.hv later
            c.self.invariant.joined.format.least_cpus;
        rises = AreRises-later c.self.inside.format c.args.to c.self.inside.accesses (levels d) (levels c.devices_upgraded-devices.result) c.self.inside.rises
            c.self.invariant.joined.rises later (sym c.devices_upgraded-devices.ensures.levels);
      };
    }
