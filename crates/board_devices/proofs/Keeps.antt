-- The conditions that join the devices, after what is done at each place.
use Rattle.std.proofs.Common.{◌≡◌, ℕ, zero, suc, ◌+◌, ◌<◌, ◌≤◌, Bool, true, false, cond, ltb, eqb, ◌%◌, ◌&&◌, not, List, length, get_or, refl, ap}
use Rattle.std.proofs.Common.{sym, subst, ◌∙◌, inl, inr, arith}
use Rattle.hpet_registers.specs.declared.hpet.TheConstants.{HPET_HZ}
use Rattle.std.proofs.lemmas.Bool.{lt-ltb, le-ltb, cases_lt}
use Rattle.pit_readback.specs.declared.parts.PitParts.{PitParts}
use Rattle.rtc_registers.specs.declared.parts.RtcParts.{RtcParts}
use Rattle.rtc_registers.specs.Registers.{pie_of, pf_of}
use Rattle.hpet_registers.specs.declared.parts.HpetParts.{HpetParts}
use Rattle.hpet_registers.specs.declared.register.Register.{Register}
use Rattle.hpet_registers.specs.declared.register.Register.TheVariants.{Capabilities, Configuration, Status, MainCounter, TimerConfig}
use Rattle.hpet_registers.specs.declared.register.Register.TheVariants.{TimerComparator, TimerMessage, Reserved}
use Rattle.hpet_registers.specs.Outputs.{has_ticks}
use Rattle.hpet_registers.proofs.Product.{matches_of-absent}
use Rattle.hpet_registers.specs.Parts.{is_legacy}
use Rattle.hpet_registers.specs.Stretch.{matches_of}
use Rattle.hpet_registers.specs.Access.{register_written, is_effective, hpet_written}
use Rattle.tick_policy.specs.declared.parts.TickParts.{TickParts}
use Rattle.tick_policy.specs.Stretch.{ticked_where, caught_up_where, line_after}
use Rattle.tick_policy.proofs.Kept.{policy-line_after}
use Rattle.tick_policy.proofs.Stretches.{line_after-zero, line_after-suc}
use Rattle.clk_units.specs.Pulses.{pulses_from}
use Rattle.board_devices.specs.Nanosecond.{sees_point}
use Rattle.board_devices.specs.private.Stretch.{source, line_run}
use Rattle.board_devices.specs.declared.parts.DeviceParts.{DeviceParts}
use Rattle.board_devices.specs.Places.{each, no_line, line_at}
use Rattle.board_devices.specs.Act.{acked_where, rtc_set, pit_ticked}
use Rattle.board_devices.specs.Parts.{IsDevices, IsTimerLine}
use Rattle.board_devices.proofs.Places.{each-at, length-each}

-- what a step does at each place keeps the policies, and the places of timers that aren't there
pub record KeepsLines (f : ℕ → TickParts → TickParts) (timers : ℕ) : Type 0 where
  pub policy : (k : ℕ) (l : TickParts) → (f k l).policy ≡ l.policy
  pub absent : (k : ℕ) → timers ≤ k → k < 8 → f (suc (suc k)) no_line ≡ no_line

pub IsDevices-each : (d : DeviceParts) (p : PitParts) (r : RtcParts) (h : HpetParts) (ls : List TickParts) (f : ℕ → TickParts → TickParts) → IsDevices d → ls
    ≡ each f 0 d.ticks → KeepsLines f d.hpet.timers
    → h.timers ≡ d.hpet.timers → (get_or ls 1 no_line).up ≡ ((pie_of r && not (is_legacy h)) && pf_of r)
    → IsDevices (record d { pit = p; rtc = r; hpet = h; ticks = ls })
IsDevices-each d p r h ls f valid ls_is keeps timers flag = record {
  places = ap (λ (xs : List TickParts). length xs) ls_is ∙ length-each f 0 d.ticks ∙ valid.places;
  slew_low = valid.slew_low;
  slew_high = valid.slew_high;
  flag = flag;
  timer_lines = λ k small. subst (λ (n : ℕ). IsTimerLine (ltb k n) (get_or ls 2 no_line).policy (get_or ls (suc (suc k)) no_line)) (sym timers)
      (timer_line k small);
}
  where
    at : (k : ℕ) → k < 10 → get_or ls k no_line ≡ f k (line_at k d)
    at k less = ap (λ (xs : List TickParts). get_or xs k no_line) ls_is ∙ each-at f 0 k d.ticks no_line (omega (arith, valid.places))
        ∙ ap (λ (i : ℕ). f i (line_at k d)) (omega arith)

    policy_at : (k : ℕ) → k < 10 → (get_or ls k no_line).policy ≡ (line_at k d).policy
    policy_at k less = ap (λ (l : TickParts). l.policy) (at k less) ∙ keeps.policy k (line_at k d)

    was : (k : ℕ) (b : Bool) → k < 8 → ltb k d.hpet.timers ≡ b → IsTimerLine b (line_at 2 d).policy (line_at (suc (suc k)) d)
    was k b small test = subst (λ (x : Bool). IsTimerLine x (line_at 2 d).policy (line_at (suc (suc k)) d)) test (valid.timer_lines k small)

    timer_line : (k : ℕ) → k < 8 → IsTimerLine (ltb k d.hpet.timers) (get_or ls 2 no_line).policy (get_or ls (suc (suc k)) no_line)
    timer_line k small = elim (cases_lt k d.hpet.timers) [
      | inl there ↦
          let test : ltb k d.hpet.timers ≡ true = lt-ltb k d.hpet.timers there in
          subst (λ (b : Bool). IsTimerLine b (get_or ls 2 no_line).policy (get_or ls (suc (suc k)) no_line)) (sym test)
          (policy_at (suc (suc k)) (omega arith) ∙ was k true small test ∙ sym (policy_at 2 (omega arith)))
      | inr gone ↦
          let test : ltb k d.hpet.timers ≡ false = le-ltb k d.hpet.timers gone in
          subst (λ (b : Bool). IsTimerLine b (get_or ls 2 no_line).policy (get_or ls (suc (suc k)) no_line)) (sym test)
          (at (suc (suc k)) (omega arith) ∙ ap (f (suc (suc k))) (was k false small test) ∙ keeps.absent k gone small)
    ]

pub KeepsLines-acked : (test : ℕ → Bool) (timers : ℕ) → KeepsLines (λ k l. acked_where (test k) l) timers
KeepsLines-acked test timers = record { policy = λ k l. policy (test k) l; absent = λ k _ _. absent (test (suc (suc k))) }
  where
    policy : (b : Bool) (l : TickParts) → (acked_where b l).policy ≡ l.policy
    policy true l = refl
    policy false l = refl

    absent : (b : Bool) → acked_where b no_line ≡ no_line
    absent true = refl
    absent false = refl

pub KeepsLines-rtc_set : (up : Bool) (timers : ℕ) → KeepsLines (rtc_set up) timers
KeepsLines-rtc_set up timers = record { policy = policy; absent = λ k _ _. refl }
  where
    policy : (k : ℕ) (l : TickParts) → (rtc_set up k l).policy ≡ l.policy
    policy zero l = refl
    policy (suc zero) l = refl
    policy (suc (suc k)) l = refl

pub KeepsLines-pit_ticked : (b : Bool) (timers : ℕ) → KeepsLines (λ k l. ticked_where (pit_ticked b k) l) timers
KeepsLines-pit_ticked b timers = record { policy = λ k l. policy (pit_ticked b k) l; absent = λ k _ _. refl }
  where
    policy : (b : Bool) (l : TickParts) → (ticked_where b l).policy ≡ l.policy
    policy true l = refl
    policy false l = refl

-- a write to the HPET keeps its number of timers and whether it has message registers
record KeepsTimers (g h : HpetParts) : Type 0 where
  pub timers : g.timers ≡ h.timers
  pub messages : g.messages ≡ h.messages

KeepsTimers-register_written : (register : Register) (width : ℕ) (high : Bool) (v : ℕ) (h : HpetParts)
    → KeepsTimers (register_written register width high v h) h
KeepsTimers-register_written Capabilities width high v h = record { timers = refl; messages = refl }
KeepsTimers-register_written Configuration width high v h = record { timers = refl; messages = refl }
KeepsTimers-register_written Status width high v h = record { timers = refl; messages = refl }
KeepsTimers-register_written MainCounter width high v h = record { timers = refl; messages = refl }
KeepsTimers-register_written (TimerConfig k) width high v h = record { timers = refl; messages = refl }
KeepsTimers-register_written (TimerComparator k) width high v h = record { timers = refl; messages = refl }
KeepsTimers-register_written (TimerMessage k) width high v h = record { timers = refl; messages = refl }
KeepsTimers-register_written Reserved width high v h = record { timers = refl; messages = refl }

KeepsTimers-hpet_written : (offset width v : ℕ) (h : HpetParts) → KeepsTimers (hpet_written offset width v h) h
KeepsTimers-hpet_written offset width v h = by_effect (is_effective offset width) _ (KeepsTimers-register_written _ width _ v h)
  where
    by_effect : (b : Bool) (g : HpetParts) → KeepsTimers g h → KeepsTimers (cond b g h) h
    by_effect true g keeps = keeps
    by_effect false g keeps = record { timers = refl; messages = refl }

pub timers-hpet_written : (offset width v : ℕ) (h : HpetParts) → (hpet_written offset width v h).timers ≡ h.timers
timers-hpet_written offset width v h = (KeepsTimers-hpet_written offset width v h).timers

pub messages-hpet_written : (offset width v : ℕ) (h : HpetParts) → (hpet_written offset width v h).messages ≡ h.messages
messages-hpet_written offset width v h = (KeepsTimers-hpet_written offset width v h).messages

-- a line without ticks that holds nothing
none-line_after : (ticks : ℕ → ℕ) → ((j : ℕ) → ticks j ≡ 0) → (slew t n : ℕ) → line_after ticks slew t n no_line ≡ no_line
none-line_after ticks none slew t zero = line_after-zero ticks slew t no_line
none-line_after ticks none slew t (suc n) =
    line_after-suc ticks slew t n no_line
    ∙ ap (λ (x : TickParts). caught_up_where (eqb ((t + n + 1) % slew) 0) (ticked_where (ltb (ticks n) (ticks (suc n))) x))
    (none-line_after ticks none slew t n)
    ∙ ap (λ (b : Bool). caught_up_where (eqb ((t + n + 1) % slew) 0) (ticked_where b no_line)) (le-ltb (ticks n) (ticks (suc n)) (omega (arith, none (suc n))))
    ∙ point (eqb ((t + n + 1) % slew) 0)
  where
    point : (b : Bool) → caught_up_where b no_line ≡ no_line
    point true = refl
    point false = refl

-- so do the nanoseconds of a run
pub KeepsLines-line_run : (d : DeviceParts) (t n : ℕ) → KeepsLines (line_run d t n) d.hpet.timers
KeepsLines-line_run d t n = record { policy = policy; absent = absent }
  where
    seen : (b : Bool) (x l : TickParts) → x.policy ≡ l.policy → (cond b x l).policy ≡ l.policy
    seen true x l e = e
    seen false x l e = refl

    policy : (k : ℕ) (l : TickParts) → (line_run d t n k l).policy ≡ l.policy
    policy k l = seen (sees_point d k) (line_after (source d t k) d.slew_ns t n l) l (policy-line_after (source d t k) d.slew_ns t n l)

    counted : (b : Bool) (m : ℕ) → m ≡ 0 → cond b m 0 ≡ 0
    counted true m e = e
    counted false m e = refl

    absent : (k : ℕ) → d.hpet.timers ≤ k → k < 8 → line_run d t n (suc (suc k)) no_line ≡ no_line
    absent k gone small = none-line_after (source d t (suc (suc k)))
        (λ j. counted (has_ticks k d.hpet) (matches_of k d.hpet (pulses_from HPET_HZ t j))
        (matches_of-absent k (pulses_from HPET_HZ t j) d.hpet gone)) d.slew_ns t n
