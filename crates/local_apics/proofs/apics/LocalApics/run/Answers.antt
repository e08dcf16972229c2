use Rattle.std.proofs.Common.{◌≡◌, ℕ, ◌-◌, ap, inl, inr, arith}
use Rattle.local_apics.specs.Nanosecond.{run, tscs_of, tsc_by_time}
use Rattle.local_apics.proofs.Below.{run-start, run-end}
use Rattle.local_apics.proofs.Unchanged.{run-still}
use Rattle.local_apics.proofs.apics.LocalApics.run.Goals as goal

pub returns-then-not-is_armed : goal.returns-then-not-is_armed
returns-then-not-is_armed c =
    let tsc : ℕ → ℕ → ℕ = tsc_by_time c.args.clock.now (tscs_of c.args.processors.now) in
    elim c.then-not-is_armed.either [
      | inl idle ↦ run-end 0 tsc c.args.from (c.args.to - c.args.from) c.args.self.now c.args.self.now
          (run-start 0 tsc c.args.from (c.args.to - c.args.from) c.args.self.now c.is_armed.ensures.joined
          (λ j less. absurd (omega (arith, less))))
          (λ k after less. c.is_armed.ensures.idle.0 idle k less)
      | inr none ↦
          let e : 0 ≡ c.args.to - c.args.from = omega (arith, none.1) in
          ap (λ (n : ℕ). run tsc c.args.from n c.args.self.now) e
    ]

pub returns-then-is_still : goal.returns-then-is_still
returns-then-is_still c =
    run-still (tsc_by_time c.args.clock.now (tscs_of c.args.processors.now)) c.args.from (c.args.to - c.args.from) c.args.self.now
    c.is_armed.ensures.joined (c.is_still.ensures c.if-is_still.true)
