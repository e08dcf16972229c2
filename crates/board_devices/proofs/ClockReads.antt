-- A read of register C and its line.
use Rattle.std.proofs.Common.{◌≡◌, Bool, true, false, eqb, ◌&&◌, refl, ap, sym, subst, ◌∙◌, inl, inr}
use Rattle.std.proofs.lemmas.Bool.{cases_Bool}
use Rattle.rtc_registers.specs.declared.parts.RtcParts.{RtcParts}
use Rattle.rtc_registers.specs.Registers.{register_b, pf_of}
use Rattle.rtc_registers.specs.Parts.{IsRtc}
use Rattle.rtc_registers.specs.Access.{after_rtc_read}
use Rattle.rtc_registers.proofs.Flags.{IsRtc-after_rtc_read, pf_of-flagged, register_b-flagged, after_rtc_read-other, pf_of-after_rtc_read}
use Rattle.rtc_registers.proofs.Flags.{register_b-after_rtc_read}
use Rattle.tick_policy.specs.declared.parts.TickParts.{TickParts}
use Rattle.tick_policy.specs.Line.{goes_again}
use Rattle.board_devices.specs.Act.{acked_where}
use Rattle.board_devices.specs.private.Stretch.{flagged_where}

pub register_b-read : (b : Bool) (r : RtcParts) → IsRtc r → register_b (flagged_where b (after_rtc_read r)) ≡ register_b r
unfolding flagged_where
register_b-read true r valid = register_b-flagged (after_rtc_read r) (IsRtc-after_rtc_read r valid) ∙ register_b-after_rtc_read r valid
register_b-read false r valid = register_b-after_rtc_read r valid

-- the line stays PF
pub flag-read : (r : RtcParts) (c : Bool) (l : TickParts) → IsRtc r → l.up ≡ (c && pf_of r)
    → (acked_where (eqb r.index 12 && c) l).up ≡ (c && pf_of (flagged_where ((eqb r.index 12 && c) && goes_again l) (after_rtc_read r)))
unfolding flagged_where
flag-read r false l valid flag =
    ap (λ (b : Bool). (acked_where b l).up) (none (eqb r.index 12)) ∙ flag
  where
    none : (b : Bool) → (b && false) ≡ false
    none true = refl
    none false = refl
flag-read r true l valid flag = elim (cases_Bool (eqb r.index 12)) [
  | inl c ↦ subst (λ (b : Bool). (acked_where (b && true) l).up ≡ pf_of (flagged_where ((b && true) && goes_again l) (after_rtc_read r))) (sym c)
      (elim (cases_Bool (goes_again l)) [
        | inl again ↦ again ∙ sym (ap (λ (g : Bool). pf_of (flagged_where g (after_rtc_read r))) again
            ∙ pf_of-flagged (after_rtc_read r) (IsRtc-after_rtc_read r valid))
        | inr down ↦ down ∙ sym (ap (λ (g : Bool). pf_of (flagged_where g (after_rtc_read r))) down ∙ pf_of-after_rtc_read r valid c)
      ])
  | inr other ↦ subst (λ (b : Bool). (acked_where (b && true) l).up ≡ pf_of (flagged_where ((b && true) && goes_again l) (after_rtc_read r))) (sym other)
      (flag ∙ sym (ap pf_of (after_rtc_read-other r other)))
]
