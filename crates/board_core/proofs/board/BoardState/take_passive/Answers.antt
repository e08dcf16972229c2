use Rattle.std.proofs.Common.{◌≡◌, ℕ, true, false, sym, ap, subst, ◌∙◌}
use Rattle.board_types.specs.declared.access.Access.{Access}
use Rattle.board_types.specs.declared.parts.BoardParts.{BoardParts}
use Rattle.board_types.specs.declared.reply.Value.TheVariants.{Byte, Word}
use Rattle.hpet_registers.specs.Access.{part_of}
use Rattle.pit_readback.specs.Ports.{port_read}
use Rattle.board_core.specs.declared.lag.Lag.{Lag}
use Rattle.board_core.specs.Access.{value_at}
use Rattle.board_core.specs.Lazy.{is_passive, left_by, caught_up, IsLazy}
use Rattle.board_core.proofs.LazySteps.{after_run-left, IsLazy-left}
use Rattle.board_core.proofs.Passive.{value-read, value-port, value-step, left-step}
use Rattle.board_core.proofs.board.BoardState.take_passive.Goals as goal

-- what is left of the board as it lags is left of the board at its time, and it may lag on
state-left : (a : Access) (b new : BoardParts) (lag : Lag) → new ≡ left_by a b → caught_up new lag ≡ left_by a (caught_up b lag)
state-left a b new lag is = ap (λ (x : BoardParts). caught_up x lag) is ∙ after_run-left a b lag.host

lazy-left : (a : Access) (b new : BoardParts) (host horizon : ℕ) → new ≡ left_by a b → IsLazy b host horizon → IsLazy new host horizon
lazy-left a b new host horizon is lazy = subst (λ (x : BoardParts). IsLazy x host horizon) (sym is) (IsLazy-left a b host horizon lazy)

pub read_pit-requires-clause-port : goal.read_pit-requires-clause-port
read_pit-requires-clause-port c = subst (λ (a : Access). is_passive a ≡ true) c.in-PortIn.is c.requires.passive

pub returns-in-PortIn-clause-value : goal.returns-in-PortIn-clause-value
returns-in-PortIn-clause-value c cpu g =
    ap Byte (c.read_pit.ensures.byte ∙ ap (λ t. port_read t c.in-PortIn.port (caught_up c.args.self.now c.args.lag.now).pit) c.requires.now)
    ∙ value-port (caught_up c.args.self.now c.args.lag.now) cpu g c.in-PortIn.port
    (subst (λ (a : Access). is_passive a ≡ true) c.in-PortIn.is c.requires.passive)
    ∙ ap (λ (a : Access). value_at (caught_up c.args.self.now c.args.lag.now) cpu g a) (sym c.in-PortIn.is)

pub returns-in-PortIn-clause-state : goal.returns-in-PortIn-clause-state
returns-in-PortIn-clause-state c =
    state-left c.args.a c.args.self.now _ c.args.lag.now (c.read_pit.ensures.state ∙ ap (λ (a : Access). left_by a c.args.self.now) (sym c.in-PortIn.is))

pub returns-in-PortIn-clause-lazy : goal.returns-in-PortIn-clause-lazy
returns-in-PortIn-clause-lazy c =
    lazy-left c.args.a c.args.self.now _ c.args.lag.now.host c.args.lag.now.horizon
    (c.read_pit.ensures.state ∙ ap (λ (a : Access). left_by a c.args.self.now) (sym c.in-PortIn.is)) c.requires.lazy

pub returns-in-HpetRead-clause-value : goal.returns-in-HpetRead-clause-value
returns-in-HpetRead-clause-value c cpu g =
    ap (Word c.in-HpetRead.width) (c.low_part.ensures ∙ ap (part_of c.in-HpetRead.width false) c.main_counter.ensures)
    ∙ value-read (caught_up c.args.self.now c.args.lag.now) cpu g c.in-HpetRead.offset c.in-HpetRead.width
    (subst (λ (a : Access). is_passive a ≡ true) c.in-HpetRead.is c.requires.passive)
    ∙ ap (λ (a : Access). value_at (caught_up c.args.self.now c.args.lag.now) cpu g a) (sym c.in-HpetRead.is)

pub returns-in-HpetRead-clause-state : goal.returns-in-HpetRead-clause-state
returns-in-HpetRead-clause-state c = ap (λ (a : Access). left_by a (caught_up c.args.self.now c.args.lag.now)) (sym c.in-HpetRead.is)

pub returns-in_default-clause-value : goal.returns-in_default-clause-value
returns-in_default-clause-value c cpu g =
    value-step (caught_up c.args.self.now c.args.lag.now) cpu g c.args.a c.requires.passive c.in_default.not-HpetRead c.in_default.not-PortIn

pub returns-in_default-clause-state : goal.returns-in_default-clause-state
returns-in_default-clause-state c = left-step c.args.a (caught_up c.args.self.now c.args.lag.now) c.in_default.not-PortIn
