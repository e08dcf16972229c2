use Rattle.std.proofs.Common.{◌≡◌, ℕ, ◌+◌, ap, sym, subst, ◌∙◌, arith}
use Rattle.local_apics.specs.declared.parts.ApicsParts.{ApicsParts}
use Rattle.local_apics.specs.Nanosecond.{looked_all}
use Rattle.board_types.specs.declared.parts.BoardParts.{BoardParts}
use Rattle.board_core.specs.Time.{now_of}
use Rattle.board_core.specs.Apics.{apics_in, with_apics, tscs_by_time, after_look}
use Rattle.board_core.specs.Conditions.{AreApics}
use Rattle.board_core.specs.View.{board_parts_of}
use Rattle.board_core.specs.private.Room.{HasRoom}
use Rattle.board_core.proofs.Times.{base-first}
use Rattle.board_core.proofs.ApicTimers.{AreApics-looked, tscs-read}
use Rattle.board_core.proofs.board.BoardState.look_armed.Goals as goal

pub look-requires-clause-anchored : goal.look-requires-clause-anchored
look-requires-clause-anchored c = omega (arith, c.self.invariant.time, base-first c.self.inside.anchor c.self.inside.host)

-- the timers that it leaves are those of the definition
looked_is : (c : goal.After-look) → c.look.new.self
    ≡ looked_all (λ k. tscs_by_time (board_parts_of c.self.inside) k (now_of (board_parts_of c.self.inside))) c.self.inside.apics
looked_is c =
    let b : BoardParts = board_parts_of c.self.inside in
    c.look.ensures
    ∙ ap (λ (tsc : ℕ → ℕ → ℕ). looked_all (λ k. tsc k c.self.inside.time_ns) c.self.inside.apics)
    (tscs-read (record { anchor = b.anchor; guest_khz = b.guest_khz }) b.processors)
    ∙ ap (λ (t : ℕ). looked_all (λ k. tscs_by_time b k t) c.self.inside.apics) c.self.invariant.time

pub invariant_of-self : goal.invariant_of-self
invariant_of-self c =
    let b : BoardParts = board_parts_of c.self.inside in
    let i = c.self.invariant.joined in
    let room : HasRoom b = subst HasRoom (sym c.self.view_is) c.requires in
    record {
      time = c.self.invariant.time;
      joined = record {
        format = i.format;
        messages = i.messages;
        rates = i.rates;
        time = i.time;
        accesses = i.accesses;
        due = i.due;
        wall = i.wall;
        processors = i.processors;
        rises = i.rises;
        apics = subst (λ (a : ApicsParts). AreApics b.format b.cpus (now_of b + b.accesses) a) (sym (looked_is c))
            (AreApics-looked b.format b.cpus (now_of b + b.accesses) (λ k. tscs_by_time b k (now_of b)) (apics_in b) i.apics room);
        hv = i.hv;
      };
    }

pub returns : goal.returns
unfolding after_look
returns c =
    ap (λ (a : ApicsParts). with_apics a (board_parts_of c.self.inside)) (looked_is c) ∙ ap after_look c.self.view_is
