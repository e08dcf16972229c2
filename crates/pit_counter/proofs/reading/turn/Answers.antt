use Rattle.std.proofs.Common.{ap, not, ◌&&◌, sym, Bool}
use Rattle.pit_counter.proofs.Later.{one_byte-next, takes_one, takes_both, after_read-present}
use Rattle.pit_counter.proofs.reading.turn.Goals as goal

pub returns-then-rw-eq1-clause-state : goal.returns-then-rw-eq1-clause-state
returns-then-rw-eq1-clause-state c =
    let p = c.args.p.now in
    after_read-present p p.high_next c.requires.valid c.requires.no_status c.requires.no_count
    (one_byte-next p c.requires.valid (takes_one p.bits 1 c.if-rw-eq1.true))

pub returns-then-rw-eq2-clause-state : goal.returns-then-rw-eq2-clause-state
returns-then-rw-eq2-clause-state c =
    let p = c.args.p.now in
    after_read-present p p.high_next c.requires.valid c.requires.no_status c.requires.no_count
    (one_byte-next p c.requires.valid (takes_one p.bits 2 c.if-rw-eq2.true))

pub returns-clause-state : goal.returns-clause-state
returns-clause-state c =
    let p = c.args.p.now in
    after_read-present p (not p.high_next) c.requires.valid c.requires.no_status c.requires.no_count
    (ap (λ (b : Bool). b && not p.high_next) (sym (takes_both p.bits c.if-rw-eq1.false c.if-rw-eq2.false)))
