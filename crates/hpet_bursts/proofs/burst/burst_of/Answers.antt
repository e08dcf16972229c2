-- The matches of a timer that sends messages are its burst.
use Rattle.std.proofs.Common.{◌≡◌, ℕ, ◌-◌, ◌*◌, ◌≤◌, cond, leb, refl, sym, ap, ◌∙◌, arith}
use Rattle.clk_units.specs.Pulses.{pulses_from}
use Rattle.clk_units.proofs.Pulses.{pulses_from_le}
use Rattle.hpet_comparator.specs.Stretch.{spacing_of}
use Rattle.hpet_registers.specs.declared.hpet.TheConstants.{HPET_HZ}
use Rattle.hpet_registers.specs.Parts.{timer_at}
use Rattle.hpet_bursts.specs.Messages.{message_times}
use Rattle.hpet_bursts.specs.Bursts.{burst_from, evenly}
use Rattle.hpet_bursts.proofs.Times.{sent-by, none-by, silent-by}
use Rattle.hpet_bursts.proofs.Evenly.{burst_from-is}
use Rattle.hpet_bursts.proofs.burst.burst_of.Goals as goal

pub every_of-requires : goal.every_of-requires
every_of-requires c = λ two.
    let sent = sent-by c.args.k c.args.from (c.args.to - c.args.from) c.args.h.now c.args.matches _ c.in-Some-first.first
    (sym c.message-message.ensures ∙ c.in-Some.is) c.requires.matches (sym c.first_at-first.ensures.value ∙ c.in-Some-first.is) in
    let within : spacing_of (timer_at c.args.k c.args.h.now) ≤ pulses_from HPET_HZ c.args.from (c.args.to - c.args.from) = sent.within two in
    let few : pulses_from HPET_HZ c.args.from (c.args.to - c.args.from) ≤ c.args.to - c.args.from =
    pulses_from_le HPET_HZ c.args.from (c.args.to - c.args.from) (omega arith) in
    omega (arith, c.spacing.ensures, within, few, c.requires.range)

pub returns-in-None : goal.returns-in-None
returns-in-None c =
    let none = silent-by c.args.k c.args.from (c.args.to - c.args.from) c.args.h.now (sym c.message-message.ensures ∙ c.in-None.is) in
    record { value = sym (ap (burst_from c.args.k c.args.h.now) none); burst = none }

pub returns-in-None-first : goal.returns-in-None-first
returns-in-None-first c =
    let none = none-by c.args.k c.args.from (c.args.to - c.args.from) c.args.h.now c.args.matches
    c.requires.matches (sym c.first_at-first.ensures.value ∙ c.in-None-first.is) in
    record { value = sym (ap (burst_from c.args.k c.args.h.now) none); burst = none }

pub returns-in-Some-first-clause-burst : goal.returns-in-Some-first-clause-burst
returns-in-Some-first-clause-burst c =
    let sent = sent-by c.args.k c.args.from (c.args.to - c.args.from) c.args.h.now c.args.matches _ c.in-Some-first.first
    (sym c.message-message.ensures ∙ c.in-Some.is) c.requires.matches (sym c.first_at-first.ensures.value ∙ c.in-Some-first.is) in
    let every : c.every_of.result ≡ cond (leb 2 c.args.matches.count) (spacing_of (timer_at c.args.k c.args.h.now) * 10) 0 =
    c.every_of.ensures ∙ ap (λ (s : ℕ). cond (leb 2 c.args.matches.count) (s * 10) 0) c.spacing.ensures in
    record {
      timer = refl;
      some = sent.some;
      falls = ap (λ (e : ℕ). evenly c.in-Some-first.first e c.args.matches.count) every ∙ sent.falls;
      alone = λ one. every ∙ ap (λ (n : ℕ). cond (leb 2 n) (spacing_of (timer_at c.args.k c.args.h.now) * 10) 0) one;
      message = sym c.message-message.ensures ∙ c.in-Some.is;
    }

pub returns-in-Some-first-clause-value : goal.returns-in-Some-first-clause-value
returns-in-Some-first-clause-value c =
    burst_from-is c.args.k c.args.h.now (message_times c.args.k c.args.from (c.args.to - c.args.from) c.args.h.now) _ (returns-in-Some-first-clause-burst c)
