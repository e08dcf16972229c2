-- The levels of the lines, slot by slot.
use Rattle.std.proofs.Common.{◌≡◌, ℕ, zero, suc, ◌≤◌, Bool, true, false, cond, ◌&&◌, ◌||◌, List, [], ◌∷◌, get_or, map, Option, Some, None}
use Rattle.std.proofs.Common.{refl, ap, ◌∙◌, arith}
use Rattle.irq_edges.specs.Rises.{is_up_at, levels_at}
use Rattle.rtc_registers.specs.Registers.{irqf_of}
use Rattle.hpet_registers.specs.Parts.{IsHpet, is_legacy}
use Rattle.board_devices.specs.declared.parts.DeviceParts.{DeviceParts}
use Rattle.board_devices.specs.Places.{line_at}
use Rattle.board_devices.specs.Lines.{output_of, drives, routed, levels}
use Rattle.board_devices.specs.private.Stretch.{eight, output_by, routed_from, slots_from}
use Rattle.board_devices.proofs.Places.{at-eight}
use Rattle.board_devices.proofs.Advance.{up-either_from}
use Rattle.board_devices.proofs.Slots.{slots-are}

-- what is up from 0 on is up at 0
at_once : (b : Bool) → is_up_at 0 (cond b (Some 0) None) ≡ b
at_once true = refl
at_once false = refl

module _ (d : DeviceParts) where
  out : ℕ → Option ℕ
  out k = cond (output_by k d.hpet d.ticks) (Some 0) None

  abbrev outs : List (Option ℕ)
  outs = map out eight

  routed-once : (line n : ℕ) → n ≤ 8 → is_up_at 0 (routed_from line n d.hpet outs) ≡ routed line n d
  unfolding out output_by
  routed-once line zero few = refl
  routed-once line (suc k) few =
      up-either_from 0 (routed_from line k d.hpet outs) (cond (drives line k d.hpet) (get_or outs k None) None)
      ∙ ap (λ (b : Bool). b || is_up_at 0 (cond (drives line k d.hpet) (get_or outs k None) None)) (routed-once line k (omega arith))
      ∙ ap (λ (b : Bool). routed line k d || b) (driven (drives line k d.hpet) (get_or outs k None)
      ∙ ap (λ (u : Option ℕ). drives line k d.hpet && is_up_at 0 u) (at-eight out None k (omega arith))
      ∙ ap (λ (b : Bool). drives line k d.hpet && b) (at_once (output_of k d)))
    where
      driven : (b : Bool) (u : Option ℕ) → is_up_at 0 (cond b u None) ≡ (b && is_up_at 0 u)
      driven true u = refl
      driven false u = refl

  pub levels-of : IsHpet d.hpet → levels_at 0 (slots_from d.hpet.timers d.hpet (λ k. cond (output_by k d.hpet d.ticks) (Some 0) None)
      (cond (is_legacy d.hpet) None (cond (line_at 0 d).up (Some 0) None) ∷ cond (is_legacy d.hpet) None (cond (irqf_of d.rtc) (Some 0) None)
      ∷ None ∷ None ∷ None ∷ None ∷ [])) ≡ levels d
  unfolding levels out output_by
  levels-of valid =
      let pit : Option ℕ = cond (line_at 0 d).up (Some 0) None in
      let irq : Option ℕ = cond (irqf_of d.rtc) (Some 0) None in
      ap (levels_at 0) (slots-are d.hpet outs out pit irq (is_legacy d.hpet) refl (λ k less. at-eight out None k less) valid)
      ∙ six (either (is_legacy d.hpet) (output_of 0 d) (line_at 0 d).up) (either (is_legacy d.hpet) (output_of 1 d) (irqf_of d.rtc))
      (routed-once 20 8 (omega arith)) (routed-once 21 8 (omega arith)) (routed-once 22 8 (omega arith)) (routed-once 23 8 (omega arith))
    where
      either : (l a b : Bool) → is_up_at 0 (cond l (cond a (Some 0) None) (cond b (Some 0) None)) ≡ cond l a b
      either true a b = at_once a
      either false a b = at_once b

      six : {a b c e f g : Bool} {p q r u v w : Bool} → a ≡ p → b ≡ q → c ≡ r → e ≡ u → f ≡ v → g ≡ w
          → a ∷ b ∷ c ∷ e ∷ f ∷ g ∷ [] ≡ p ∷ q ∷ r ∷ u ∷ v ∷ w ∷ []
      six h i k l m o = rw (h, i, k, l, m, o) refl
