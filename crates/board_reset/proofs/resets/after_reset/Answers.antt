use Rattle.std.proofs.Common.{◌≡◌, ap, sym, subst, ◌∙◌}
use Rattle.rtc_registers.specs.declared.parts.RtcParts.{RtcParts}
use Rattle.rtc_registers.specs.Registers.{irqf_of, pie_of}
use Rattle.rtc_registers.specs.Parts.{IsRtc}
use Rattle.board_types.specs.declared.parts.BoardParts.{BoardParts}
use Rattle.board_core.specs.PowerOn.{board_at_power_on}
use Rattle.board_core.specs.Conditions.{IsBoard}
use Rattle.board_reset.specs.Reset.{setup_of, rtc_reset, after_reset}
use Rattle.board_reset.proofs.Valid.{IsBoard-reset, levels-reset}
use Rattle.board_reset.proofs.resets.after_reset.Goals as goal

pub returns-clause-valid : goal.returns-clause-valid
unfolding after_reset
returns-clause-valid c =
    let b : BoardParts = c.args.parts.now in
    let fresh : c.parts-fresh.result ≡ board_at_power_on (setup_of b) = c.parts-fresh.ensures.value ∙ c.power_on.ensures ∙ ap board_at_power_on c.setup_of.ensures.value in
    rw (fresh, c.rtc_reset.ensures.value, c.pages_off-processors.ensures, c.hv_off.ensures)
    (IsBoard-reset b c.requires (subst (λ (x : BoardParts). IsBoard x) fresh c.parts-fresh.ensures.valid)
    (subst (λ (r : RtcParts). IsRtc r) c.rtc_reset.ensures.value c.rtc_reset.ensures.valid)
    (ap pie_of (sym c.rtc_reset.ensures.value) ∙ c.rtc_reset.ensures.uncounted))

pub returns-clause-down : goal.returns-clause-down
returns-clause-down c =
    let b : BoardParts = c.args.parts.now in
    let fresh : c.parts-fresh.result ≡ board_at_power_on (setup_of b) = c.parts-fresh.ensures.value ∙ c.power_on.ensures ∙ ap board_at_power_on c.setup_of.ensures.value in
    rw (fresh, c.rtc_reset.ensures.value)
    (levels-reset (setup_of b) (rtc_reset b.rtc) (ap irqf_of (sym c.rtc_reset.ensures.value) ∙ c.rtc_reset.ensures.quiet))
