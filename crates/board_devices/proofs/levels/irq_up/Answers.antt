use Rattle.std.proofs.Common.{◌≡◌, ℕ, ◌&&◌, Bool, true, false, not, Option, Some, None, refl, ap, sym, ◌∙◌}
use Rattle.std.proofs.lemmas.Bool.{true≢false}
use Rattle.rtc_registers.specs.declared.TheConstants.{RTC_HZ}
use Rattle.clk_units.specs.Events.{first_at}
use Rattle.board_devices.specs.private.Stretch.{either_from, flag_from}
use Rattle.board_devices.proofs.levels.irq_up.Goals as goal

-- two flags that are never shown
alone : (line : Option ℕ) → line ≡ either_from line (either_from None None)
unfolding either_from
alone None = refl
alone (Some t) = refl

-- .. which are off
both_off : (a b : Bool) → (not a && not b) ≡ true → (false ≡ a) × (false ≡ b)
both_off false false h = (refl, refl)
both_off true b h = absurd (true≢false (sym h))
both_off false true h = absurd (true≢false (sym h))

pub returns-then-is_tick_line : goal.returns-then-is_tick_line
returns-then-is_tick_line c =
    let from : ℕ = c.args.span.from in
    let alarm : Option ℕ = first_at RTC_HZ from c.args.events.now.first_alarm in
    let update : Option ℕ = first_at RTC_HZ from c.args.events.now.cycle.first_update in
    let off : (false ≡ c.args.shown.aie) × (false ≡ c.args.shown.uie) =
    both_off c.args.shown.aie c.args.shown.uie (sym c.is_tick_line.ensures ∙ c.if-is_tick_line.true) in
    alone c.args.line
    ∙ ap (λ (b : Bool). either_from c.args.line (either_from (flag_from b c.args.shown.af from alarm) (flag_from false c.args.shown.uf from update))) off.0
    ∙ ap (λ (b : Bool). either_from c.args.line
    (either_from (flag_from c.args.shown.aie c.args.shown.af from alarm) (flag_from b c.args.shown.uf from update))) off.1
