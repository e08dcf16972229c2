-- Writes to the HPET that move no line.
use Rattle.std.proofs.Common.{◌≡◌, ℕ, zero, suc, ◌-◌, ◌/◌, ◌%◌, Bool, true, false, cond, eqb, ltb, leb, ◌&&◌, ◌||◌, not, List, [], ◌∷◌, get_or, set}
use Rattle.std.proofs.Common.{refl, ap, sym, subst, ◌∙◌, inl, inr}
use Rattle.std.proofs.lemmas.Bool.{cases_lt, true≢false, le-leb, lt-leb, lt-ltb, le-ltb}
use Rattle.clk_units.specs.Bits.{bit}
use Rattle.rtc_registers.specs.Registers.{irqf_of, pf_of}
use Rattle.hpet_comparator.specs.declared.parts.TimerParts.{TimerParts}
use Rattle.hpet_comparator.specs.Parts.{is_level, is_enabled, route_of}
use Rattle.hpet_comparator.specs.Comparator.{comparator_written}
use Rattle.hpet_comparator.proofs.Writes.{bit-cleared, route_of-cleared}
use Rattle.hpet_registers.specs.declared.parts.HpetParts.{HpetParts}
use Rattle.hpet_registers.specs.declared.register.Register.{Register}
use Rattle.hpet_registers.specs.declared.register.Register.TheVariants.{Capabilities, Configuration, Status, MainCounter, TimerConfig, TimerComparator}
use Rattle.hpet_registers.specs.declared.register.Register.TheVariants.{TimerMessage, Reserved}
use Rattle.hpet_registers.specs.Parts.{no_timer, timer_at, message_bit_at, is_legacy}
use Rattle.hpet_registers.specs.Register.{register_at}
use Rattle.hpet_registers.specs.Access.{register_written, hpet_written, is_effective}
use Rattle.tick_policy.specs.declared.parts.TickParts.{TickParts}
use Rattle.board_devices.specs.declared.parts.DeviceParts.{DeviceParts}
use Rattle.board_devices.specs.declared.act.Act.TheVariants.{HpetWrite}
use Rattle.board_devices.specs.Places.{each, line_at, no_line}
use Rattle.board_devices.specs.Lines.{output_of, drives, routed, levels}
use Rattle.board_devices.specs.Nanosecond.{counts_rtc}
use Rattle.board_devices.specs.Act.{acted, first_part, act_edges, rtc_set}
use Rattle.board_devices.specs.Parts.{IsDevices}
use Rattle.board_devices.specs.private.Accesses.{moves_lines}
use Rattle.board_devices.proofs.Masks.{rtc_set_second}
use Rattle.board_devices.proofs.ActEdges.{none-of}
use Rattle.board_devices.proofs.Keeps.{IsDevices-each, timers-hpet_written}
use Rattle.board_devices.proofs.Places.{each-none}

-- two HPETs whose outputs and lines are the same
pub record SameShown (g h : HpetParts) : Type 0 where
  pub legacy : is_legacy g ≡ is_legacy h
  pub status : g.status ≡ h.status
  pub level : (k : ℕ) → is_level (timer_at k g) ≡ is_level (timer_at k h)
  pub enabled : (k : ℕ) → is_enabled (timer_at k g) ≡ is_enabled (timer_at k h)
  pub route : (k : ℕ) → route_of (timer_at k g).config ≡ route_of (timer_at k h).config
  pub message : (k : ℕ) → message_bit_at k g ≡ message_bit_at k h

same : (h : HpetParts) → SameShown h h
same h = record { legacy = refl; status = refl; level = λ k. refl; enabled = λ k. refl; route = λ k. refl; message = λ k. refl }

-- what is said of each element stays, where it is said of the new one
set-said : {X Y : Type 0} (f : X → Y) (xs : List X) (k j : ℕ) (x d : X) → f x ≡ f (get_or xs k d) → f (get_or (set xs k x) j d) ≡ f (get_or xs j d)
set-said f [] k j x d e = refl
set-said f (y ∷ ys) zero zero x d e = e
set-said f (y ∷ ys) zero (suc j) x d e = refl
set-said f (y ∷ ys) (suc k) zero x d e = refl
set-said f (y ∷ ys) (suc k) (suc j) x d e = set-said f ys k j x d e

-- a write of a comparator clears VAL_SET, which shows nowhere
comparator-shown : (k width : ℕ) (high : Bool) (v : ℕ) (h : HpetParts)
    → SameShown (record h { timer = set h.timer k (comparator_written width high v (timer_at k h)) }) h
unfolding comparator_written
comparator-shown k width high v h = record {
  legacy = refl;
  status = refl;
  level = λ j. set-said is_level h.timer k j (comparator_written width high v (timer_at k h)) no_timer (bit-cleared (timer_at k h).config 1 refl);
  enabled = λ j. set-said is_enabled h.timer k j (comparator_written width high v (timer_at k h)) no_timer (bit-cleared (timer_at k h).config 2 refl);
  route = λ j. set-said (λ (t : TimerParts). route_of t.config) h.timer k j (comparator_written width high v (timer_at k h)) no_timer
      (route_of-cleared (timer_at k h).config);
  message = λ j. refl;
}

-- registers whose writes show
is_quiet : Register → Bool
is_quiet Configuration = false
is_quiet Status = false
is_quiet (TimerConfig k) = false
is_quiet _ = true

written-shown : (register : Register) (width : ℕ) (high : Bool) (v : ℕ) (h : HpetParts) → is_quiet register ≡ true
    → SameShown (register_written register width high v h) h
unfolding is_quiet
written-shown Capabilities width high v h e = same h
written-shown Configuration width high v h e = absurd (true≢false (sym e))
written-shown Status width high v h e = absurd (true≢false (sym e))
written-shown MainCounter width high v h e =
    record { legacy = refl; status = refl; level = λ k. refl; enabled = λ k. refl; route = λ k. refl; message = λ k. refl }
written-shown (TimerConfig k) width high v h e = absurd (true≢false (sym e))
written-shown (TimerComparator k) width high v h e = comparator-shown k width high v h
written-shown (TimerMessage k) width high v h e =
    record { legacy = refl; status = refl; level = λ k. refl; enabled = λ k. refl; route = λ k. refl; message = λ k. refl }
written-shown Reserved width high v h e = same h

-- the register at an offset, by the tests of its place
quiet-by_tests : (a b c e f g p q m : Bool) (k : ℕ) → (b || (c || (not f && p))) ≡ false
    → is_quiet (cond a Capabilities (cond b Configuration (cond c Status (cond e MainCounter (cond f Reserved
    (cond g Reserved (cond p (TimerConfig k) (cond q (TimerComparator k) (cond m (TimerMessage k) Reserved))))))))) ≡ true
unfolding is_quiet
quiet-by_tests true b c e f g p q m k h = refl
quiet-by_tests false true c e f g p q m k h = absurd (true≢false h)
quiet-by_tests false false true e f g p q m k h = absurd (true≢false h)
quiet-by_tests false false false true f g p q m k h = refl
quiet-by_tests false false false false true g p q m k h = refl
quiet-by_tests false false false false false true p q m k h = refl
quiet-by_tests false false false false false false true q m k h = absurd (true≢false h)
quiet-by_tests false false false false false false false true m k h = refl
quiet-by_tests false false false false false false false false true k h = refl
quiet-by_tests false false false false false false false false false k h = refl

quiet-register : (timers : ℕ) (messages : Bool) (offset : ℕ) → moves_lines offset ≡ false → is_quiet (register_at timers messages (offset - offset % 8)) ≡ true
quiet-register timers messages offset e =
    quiet-by_tests (eqb p 0) (eqb p 0x10) (eqb p 0x20) (eqb p 0xf0) (ltb p 0x100) (leb timers ((p - 0x100) / 0x20)) (eqb (p % 0x20) 0) (eqb (p % 0x20) 8)
    (messages && eqb (p % 0x20) 0x10) ((p - 0x100) / 0x20)
    (ap (λ (b : Bool). eqb p 0x10 || (eqb p 0x20 || (b && eqb (p % 0x20) 0))) turned ∙ e)
  where
    p : ℕ
    p = offset - offset % 8

    turned : not (ltb p 0x100) ≡ leb 0x100 p
    turned = elim (cases_lt p 0x100) [
      | inl low ↦ ap not (lt-ltb p 0x100 low) ∙ sym (lt-leb 0x100 p low)
      | inr high ↦ ap not (le-ltb p 0x100 high) ∙ sym (le-leb 0x100 p high)
    ]

pub hpet_written-shown : (offset width v : ℕ) (h : HpetParts) → moves_lines offset ≡ false → SameShown (hpet_written offset width v h) h
hpet_written-shown offset width v h e = by_width (is_effective offset width)
  where
    by_width : (b : Bool) → SameShown (cond b (register_written (register_at h.timers h.messages (offset - offset % 8)) width (eqb (offset % 8) 4) v h) h) h
    by_width true = written-shown (register_at h.timers h.messages (offset - offset % 8)) width (eqb (offset % 8) 4) v h
        (quiet-register h.timers h.messages offset e)
    by_width false = same h

-- the levels by them
module _ (d : DeviceParts) (g : HpetParts) (shown : SameShown g d.hpet) where
  output-shown : (k : ℕ) → output_of k (record d { hpet = g }) ≡ output_of k d
  output-shown k = by_parts (line_at (suc (suc k)) d).up (shown.level k) (ap (bit k) shown.status) (shown.enabled k) (shown.message k) shown.legacy
    where
      by_parts : (up : Bool) {l m s t e f p q v w : Bool} → l ≡ m → s ≡ t → e ≡ f → p ≡ q → v ≡ w
          → cond l (s && e) (not (p && ((e && not l) && not (v && ltb k 2))) && up) ≡ cond m (t && f) (not (q && ((f && not m) && not (w && ltb k 2))) && up)
      by_parts up x y z u w = rw (x, y, z, u, w) refl

  drives-shown : (line k : ℕ) → drives line k g ≡ drives line k d.hpet
  drives-shown line k = ap (λ (r : ℕ). eqb r line && not (is_legacy g && ltb k 2)) (shown.route k)
      ∙ ap (λ (b : Bool). eqb (route_of (timer_at k d.hpet).config) line && not (b && ltb k 2)) shown.legacy

  routed-shown : (line n : ℕ) → routed line n (record d { hpet = g }) ≡ routed line n d
  routed-shown line zero = refl
  routed-shown line (suc k) =
      ap (λ (b : Bool). b || (drives line k g && output_of k (record d { hpet = g }))) (routed-shown line k)
      ∙ ap (λ (b : Bool). routed line k d || (b && output_of k (record d { hpet = g }))) (drives-shown line k)
      ∙ ap (λ (b : Bool). routed line k d || (drives line k d.hpet && b)) (output-shown k)

  pub levels-shown : levels (record d { hpet = g }) ≡ levels d
  unfolding levels
  levels-shown = by_parts shown.legacy (output-shown 0) (output-shown 1) (routed-shown 20 8) (routed-shown 21 8) (routed-shown 22 8) (routed-shown 23 8)
    where
      by_parts : {l m a b e f p q r s t u v w : Bool} → l ≡ m → a ≡ b → e ≡ f → p ≡ q → r ≡ s → t ≡ u → v ≡ w
          → cond l a (line_at 0 d).up ∷ cond l e (irqf_of d.rtc) ∷ p ∷ r ∷ t ∷ v ∷ []
          ≡ cond m b (line_at 0 d).up ∷ cond m f (irqf_of d.rtc) ∷ q ∷ s ∷ u ∷ w ∷ []
      by_parts i j k n o x y = rw (i, j, k, n, o, x, y) refl

  -- the clock's line stays
  counts-shown : counts_rtc (record d { hpet = g }) ≡ counts_rtc d
  counts-shown = ap (λ (b : Bool). bit 6 (get_or d.rtc.bytes 11 0) && not b) shown.legacy

set-there : (ls : List TickParts) (k : ℕ) → set ls k (get_or ls k no_line) ≡ ls
set-there [] k = refl
set-there (l ∷ ls) zero = refl
set-there (l ∷ ls) (suc k) = ap (λ (xs : List TickParts). l ∷ xs) (set-there ls k)

-- the whole write, and its edges
pub acted-quiet : (offset width v : ℕ) (d : DeviceParts) → IsDevices d → moves_lines offset ≡ false
    → record d { hpet = hpet_written offset width v d.hpet } ≡ acted (HpetWrite offset width v) d
unfolding acted
acted-quiet offset width v d joined e =
    let g : HpetParts = hpet_written offset width v d.hpet in
    let up : (counts_rtc (record d { hpet = g }) && pf_of d.rtc) ≡ (line_at 1 d).up =
    ap (λ (b : Bool). b && pf_of d.rtc) (counts-shown d g (hpet_written-shown offset width v d.hpet e)) ∙ sym joined.flag in
    ap (λ (ls : List TickParts). record d { hpet = g; ticks = ls })
    (sym (ap (λ (b : Bool). each (rtc_set b) 0 d.ticks) up ∙ sym (rtc_set_second (line_at 1 d).up d.ticks joined.places) ∙ set-there d.ticks 1))

pub edges-quiet : (t offset width v : ℕ) (d : DeviceParts) → IsDevices d → moves_lines offset ≡ false → act_edges t (HpetWrite offset width v) d ≡ []
unfolding first_part
edges-quiet t offset width v d joined e =
    let stays : levels (acted (HpetWrite offset width v) d) ≡ levels d =
    ap levels (sym (acted-quiet offset width v d joined e))
    ∙ levels-shown d (hpet_written offset width v d.hpet) (hpet_written-shown offset width v d.hpet e) in
    none-of t (HpetWrite offset width v) d stays stays

-- the conditions hold
pub IsDevices-quiet : (offset width v : ℕ) (d : DeviceParts) (g : HpetParts) → IsDevices d → moves_lines offset ≡ false → g ≡ hpet_written offset width v d.hpet
    → IsDevices (record d { hpet = g })
IsDevices-quiet offset width v d g joined e g_is =
    let shown : SameShown g d.hpet = subst (λ (h : HpetParts). SameShown h d.hpet) (sym g_is) (hpet_written-shown offset width v d.hpet e) in
    IsDevices-each d d.pit d.rtc g d.ticks (λ k l. l) joined (sym (each-none (λ k l. l) (λ i l. refl) 0 d.ticks))
    (record { policy = λ k l. refl; absent = λ k _ _. refl })
    (ap (λ (h : HpetParts). h.timers) g_is ∙ timers-hpet_written offset width v d.hpet)
    (joined.flag ∙ ap (λ (b : Bool). b && pf_of d.rtc) (sym (counts-shown d g shown)))
