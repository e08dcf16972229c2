use Rattle.std.proofs.Common.{◌≡◌, ◌||◌, Bool, List, [], ◌∷◌, refl, sym, subst}
use Rattle.std.proofs.lemmas.Bool.{false≢true}
use Rattle.hpet_comparator.specs.declared.parts.TimerParts.{TimerParts}
use Rattle.hpet_registers.specs.declared.parts.HpetParts.{HpetParts}
use Rattle.hpet_registers.specs.Parts.{IsHpet}
use Rattle.board_devices.specs.Parts.{eight_timers}
use Rattle.board_devices.proofs.Upgrade.{IsHpet-eight}
use Rattle.board_devices.proofs.parts.with_eight_timers.Goals as goal

-- the timers, as they are made
abbrev made : (c : goal.In-None) → List TimerParts
made c = c.timer_or_new.result ∷ c.timer_or_new-2.result ∷ c.timer_or_new-3.result ∷ c.timer_or_new-4.result ∷ c.timer_or_new-5.result
    ∷ c.timer_or_new-6.result ∷ c.timer_or_new-7.result ∷ c.timer_or_new-8.result ∷ []

are-eight : (c : goal.In-None) → made c ≡ eight_timers c.parts-h.result
are-eight c = rw (c.timer_or_new.ensures, c.timer_or_new-2.ensures, c.timer_or_new-3.ensures, c.timer_or_new-4.ensures)
    (rw (c.timer_or_new-5.ensures, c.timer_or_new-6.ensures, c.timer_or_new-7.ensures, c.timer_or_new-8.ensures) refl)

pub unreachable-requires : goal.unreachable-requires
unreachable-requires c =
    let h : HpetParts = c.parts-h.result in
    false≢true (c.in-None.ensures.valid.1
    (subst (λ (b : Bool). IsHpet (record h { timers = 8; timer = made c; messages = b })) (sym c.either.ensures)
    (subst (λ (ts : List TimerParts). IsHpet (record h { timers = 8; timer = ts; messages = h.messages || c.args.messages })) (sym (are-eight c))
    (IsHpet-eight c.args.messages h c.parts-h.ensures.valid))))
