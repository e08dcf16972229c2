-- A read of a port of the 8254 and pulses, in either order: no pulse looks at what a read changes, and a read changes nothing else.
use Rattle.std.proofs.Common.{◌≡◌, ℕ, zero, suc, ◌+◌, ◌-◌, ◌%◌, Bool, true, false, cond, eqb, not, ◌&&◌, List, [], ◌∷◌, ◌++◌}
use Rattle.std.proofs.Common.{map, get_or, set, refl, ap, sym, ◌∙◌, arith}
use Rattle.std.proofs.lemmas.Bool.{cond_both}
use Rattle.clk_units.specs.Pulses.{falls_at, pulses_from}
use Rattle.clk_units.proofs.Pulses.{pulses_from-zero}
use Rattle.clk_units.proofs.Events.{times-step}
use Rattle.irq_edges.specs.Lines.{changes, line_numbers}
use Rattle.pit_counter.specs.declared.mode.Mode.{Mode}
use Rattle.pit_counter.specs.declared.mode.Mode.TheVariants.{TerminalCount}
use Rattle.pit_counter.specs.declared.table.Effect.{Effect}
use Rattle.pit_counter.specs.declared.table.Effect.TheVariants.{Load}
use Rattle.pit_counter.specs.declared.parts.CounterParts.{CounterParts}
use Rattle.pit_counter.specs.Mode.{mode_of}
use Rattle.pit_counter.specs.Programming.{counter_at_power_on}
use Rattle.pit_counter.specs.Reading.{status_released, count_released, after_read}
use Rattle.pit_counter.specs.Table.{effect_in, affected, pulsed, rises_next}
use Rattle.pit_readback.specs.declared.TheConstants.{PIT_HZ}
use Rattle.pit_readback.specs.declared.parts.PitParts.{PitParts}
use Rattle.pit_readback.specs.Pit.{counter_of, with_counter, pit_pulsed, pit_pulsed_times}
use Rattle.pit_readback.specs.Ports.{after_port_read}
use Rattle.pit_readback.proofs.Three.{pit_pulsed_times-zero, pit_pulsed_times-suc}
use Rattle.rtc_registers.specs.declared.TheConstants.{RTC_HZ}
use Rattle.hpet_registers.specs.declared.hpet.TheConstants.{HPET_HZ}
use Rattle.hpet_registers.specs.Parts.{is_legacy}
use Rattle.tick_policy.specs.declared.parts.TickParts.{TickParts}
use Rattle.tick_policy.specs.Stretch.{ticked_where, caught_up_where}
use Rattle.board_devices.specs.declared.parts.DeviceParts.{DeviceParts}
use Rattle.board_devices.specs.Places.{each}
use Rattle.board_devices.specs.Lines.{levels}
use Rattle.board_devices.specs.Nanosecond.{pit_due, rtc_due, hpet_due, sees_point, pit_pulse, rtc_pulse, hpet_pulse, catch_up_point, at_nanosecond}
use Rattle.board_devices.specs.Run.{run, onward}
use Rattle.board_devices.proofs.Places.{each-same}
use Rattle.board_devices.proofs.Product.{same_parts}

-- one counter: a read releases a latched status, or turns to the other byte
bits-read : (b : Bool) (c : CounterParts) → (cond b (status_released c) (count_released c)).bits ≡ c.bits
unfolding status_released count_released
bits-read true c = refl
bits-read false c = refl

out-after_read : (c : CounterParts) → (after_read c).out ≡ c.out
unfolding after_read status_released count_released
out-after_read c = cond_both c.status_latched (status_released c) (count_released c) (λ r. r.out ≡ c.out) (λ _. refl) (λ _. refl)

effect-read : (m : Mode) (b : Bool) (c : CounterParts) → effect_in m (cond b (status_released c) (count_released c)) ≡ effect_in m c
unfolding effect_in status_released count_released
effect-read TerminalCount true c = refl
effect-read _ true c = refl
effect-read TerminalCount false c = refl
effect-read _ false c = refl

affected-read : (e : Effect) (b : Bool) (c : CounterParts)
    → affected e (cond b (status_released c) (count_released c)) ≡ cond b (status_released (affected e c)) (count_released (affected e c))
unfolding status_released count_released
affected-read (Load level) true c = refl
affected-read _ true c = refl
affected-read (Load level) false c = refl
affected-read _ false c = refl

status-affected : (e : Effect) (c : CounterParts) → (affected e c).status_latched ≡ c.status_latched
status-affected (Load level) c = refl
status-affected _ c = refl

pulsed-after_read : (c : CounterParts) → pulsed (after_read c) ≡ after_read (pulsed c)
unfolding pulsed after_read
pulsed-after_read c =
    let b : Bool = c.status_latched in
    let r : CounterParts = cond b (status_released c) (count_released c) in
    let next : CounterParts = affected (effect_in (mode_of c.bits) c) c in
    ap (λ (bits : ℕ). affected (effect_in (mode_of bits) r) r) (bits-read b c)
    ∙ ap (λ (e : Effect). affected e r) (effect-read (mode_of c.bits) b c)
    ∙ affected-read (effect_in (mode_of c.bits) c) b c
    ∙ ap (λ (x : Bool). cond x (status_released next) (count_released next)) (sym (status-affected (effect_in (mode_of c.bits) c) c))

rises_next-after_read : (c : CounterParts) → rises_next (after_read c) ≡ rises_next c
unfolding rises_next
rises_next-after_read c =
    ap (λ (x : CounterParts). not (after_read c).out && x.out) (pulsed-after_read c)
    ∙ ap (λ (b : Bool). not b && (after_read (pulsed c)).out) (out-after_read c)
    ∙ ap (λ (b : Bool). not c.out && b) (out-after_read (pulsed c))

-- three counters: what changes one of them, and what changes each
map-set : (f g : CounterParts → CounterParts) → ((c : CounterParts) → f (g c) ≡ g (f c)) → (cs : List CounterParts) (k : ℕ) (d : CounterParts)
    → map f (set cs k (g (get_or cs k d))) ≡ set (map f cs) k (g (get_or (map f cs) k d))
map-set f g e [] k d = refl
map-set f g e (c ∷ cs) zero d = ap (λ (x : CounterParts). x ∷ map f cs) (e c)
map-set f g e (c ∷ cs) (suc k) d = ap (λ (xs : List CounterParts). f c ∷ xs) (map-set f g e cs k d)

rises-set : (cs : List CounterParts) (k : ℕ) (d : CounterParts)
    → rises_next (get_or (set cs k (after_read (get_or cs k d))) 0 d) ≡ rises_next (get_or cs 0 d)
rises-set [] k d = refl
rises-set (c ∷ cs) zero d = rises_next-after_read c
rises-set (c ∷ cs) (suc k) d = refl

module _ (port : ℕ) where
  pit_pulsed-read : (p : PitParts) → pit_pulsed (after_port_read port p) ≡ after_port_read port (pit_pulsed p)
  unfolding pit_pulsed after_port_read
  pit_pulsed-read p = by_port (eqb port 0x61) (eqb port 0x43)
    where
      k : ℕ
      k = port - 0x40

      read : Bool → Bool → PitParts → PitParts
      read system control q = cond system q (cond control q (with_counter k (after_read (counter_of q k)) q))

      by_port : (system control : Bool) → pit_pulsed (read system control p) ≡ read system control (pit_pulsed p)
      by_port true control = refl
      by_port false true = refl
      by_port false false =
          ap (λ (cs : List CounterParts). record p { counters = cs })
          (map-set pulsed after_read pulsed-after_read p.counters k (counter_at_power_on true))

  rises-read : (p : PitParts) → rises_next (counter_of (after_port_read port p) 0) ≡ rises_next (counter_of p 0)
  unfolding after_port_read
  rises-read p =
      let k : ℕ = port - 0x40 in
      let rest : PitParts = with_counter k (after_read (counter_of p k)) p in
      cond_both (eqb port 0x61) p (cond (eqb port 0x43) p rest) (λ q. rises_next (counter_of q 0) ≡ rises_next (counter_of p 0)) (λ _. refl)
      (λ _. cond_both (eqb port 0x43) p rest (λ q. rises_next (counter_of q 0) ≡ rises_next (counter_of p 0)) (λ _. refl)
      (λ _. rises-set p.counters k (counter_at_power_on true)))

-- the devices after such a read
abbrev pub after_pit_read : ℕ → DeviceParts → DeviceParts
after_pit_read port d = record d { pit = after_port_read port d.pit }

module _ (port : ℕ) (d : DeviceParts) where
  abbrev read : DeviceParts
  read = after_pit_read port d

  -- ticks are due at the same places
  same_ticks : (tick : Bool → TickParts → TickParts) (now : Bool) (f g : ℕ → Bool) → f 0 ≡ g 0 → f 1 ≡ g 1
      → ((k : ℕ) → f (suc (suc k)) ≡ g (suc (suc k))) → each (λ k l. tick (now && f k) l) 0 d.ticks ≡ each (λ k l. tick (now && g k) l) 0 d.ticks
  same_ticks tick now f g first second later =
      each-same (λ k l. tick (now && f k) l) (λ k l. tick (now && g k) l) (λ k l. ap (λ (b : Bool). tick (now && b) l) (place k)) 0 d.ticks
    where
      place : (k : ℕ) → f k ≡ g k
      place zero = first
      place (suc zero) = second
      place (suc (suc k)) = later k

  -- the parts of a nanosecond
  pit_pulse-read : (t : ℕ) → pit_pulse t read ≡ after_pit_read port (pit_pulse t d)
  unfolding pit_pulse
  pit_pulse-read t =
      same_parts d (by_fall (falls_at PIT_HZ t)) refl refl
      (same_ticks ticked_where (falls_at PIT_HZ t) (pit_due read) (pit_due d)
      (ap (λ (b : Bool). b && not (is_legacy d.hpet)) (rises-read port d.pit)) refl (λ k. refl))
    where
      by_fall : (b : Bool) → cond b (pit_pulsed (after_port_read port d.pit)) (after_port_read port d.pit)
          ≡ after_port_read port (cond b (pit_pulsed d.pit) d.pit)
      by_fall true = pit_pulsed-read port d.pit
      by_fall false = refl

  rtc_pulse-read : (t : ℕ) → rtc_pulse t read ≡ after_pit_read port (rtc_pulse t d)
  unfolding rtc_pulse
  rtc_pulse-read t =
      ap (λ (ls : List TickParts). record (after_pit_read port (rtc_pulse t d)) { ticks = ls })
      (same_ticks ticked_where (falls_at RTC_HZ t) (rtc_due read) (rtc_due d) refl refl (λ k. refl))

  hpet_pulse-read : (t : ℕ) → hpet_pulse t read ≡ after_pit_read port (hpet_pulse t d)
  unfolding hpet_pulse
  hpet_pulse-read t =
      ap (λ (ls : List TickParts). record (after_pit_read port (hpet_pulse t d)) { ticks = ls })
      (same_ticks ticked_where (falls_at HPET_HZ t) (hpet_due read) (hpet_due d) refl refl (λ k. refl))

  catch_up-read : (t : ℕ) → catch_up_point t read ≡ after_pit_read port (catch_up_point t d)
  unfolding catch_up_point
  catch_up-read t =
      ap (λ (ls : List TickParts). record (after_pit_read port (catch_up_point t d)) { ticks = ls })
      (same_ticks caught_up_where (eqb (t % d.slew_ns) 0) (sees_point read) (sees_point d) refl refl (λ k. refl))

  pub levels-read : levels read ≡ levels d
  unfolding levels
  levels-read = refl

at_nanosecond-read : (port t : ℕ) (d : DeviceParts) → at_nanosecond t (after_pit_read port d) ≡ after_pit_read port (at_nanosecond t d)
unfolding at_nanosecond
at_nanosecond-read port t d =
    let pit : DeviceParts = pit_pulse t d in
    let rtc : DeviceParts = rtc_pulse t pit in
    ap (λ (x : DeviceParts). catch_up_point t (hpet_pulse t (rtc_pulse t x))) (pit_pulse-read port d t)
    ∙ ap (λ (x : DeviceParts). catch_up_point t (hpet_pulse t x)) (rtc_pulse-read port pit t)
    ∙ ap (catch_up_point t) (hpet_pulse-read port rtc t)
    ∙ catch_up-read port (hpet_pulse t rtc) t

-- a run after such a read is that before it, with the read still to come
pub run-read : (port t n : ℕ) (d : DeviceParts)
    → run t n (after_pit_read port d) ≡ record { state = after_pit_read port (run t n d).state; edges = (run t n d).edges }
unfolding run onward
run-read port t zero d = refl
run-read port t (suc n) d =
    let at : ℕ = t + n + 1 in
    let before : DeviceParts = (run t n d).state in
    let after : DeviceParts = after_pit_read port (at_nanosecond at before) in
    ap (onward at) (run-read port t n d)
    ∙ ap (λ (x : DeviceParts). record {
      state = x;
      edges = (run t n d).edges ++ changes at line_numbers (levels (after_pit_read port before)) (levels x);
    }) (at_nanosecond-read port at before)
    ∙ ap (λ (bs : List Bool). record { state = after; edges = (run t n d).edges ++ changes at line_numbers bs (levels after) })
    (levels-read port before)
    ∙ ap (λ (bs : List Bool). record { state = after; edges = (run t n d).edges ++ changes at line_numbers (levels before) bs })
    (levels-read port (at_nanosecond at before))

-- a run is to the 8254 its pulses
pub pit-run : (t n : ℕ) (d : DeviceParts) → (run t n d).state.pit ≡ pit_pulsed_times (pulses_from PIT_HZ t n) d.pit
unfolding run onward at_nanosecond catch_up_point hpet_pulse rtc_pulse pit_pulse
pit-run t zero d = sym (ap (λ (k : ℕ). pit_pulsed_times k d.pit) (pulses_from-zero PIT_HZ t) ∙ pit_pulsed_times-zero d.pit)
pit-run t (suc n) d =
    ap (λ (p : PitParts). cond (falls_at PIT_HZ (t + n + 1)) (pit_pulsed p) p) (pit-run t n d)
    ∙ sym (times-step (λ k. pit_pulsed_times k d.pit) pit_pulsed PIT_HZ t n (omega arith) (λ m. pit_pulsed_times-suc m d.pit))
