-- The divider of the MC146818 at a crystal of 32,768 Hz. Sections are those of the Motorola
-- data sheet.
use Rattle.std.specs.Prelude.{◌≡◌, ℕ, zero, suc, ◌+◌, ◌-◌, ◌%◌, ◌^◌, ◌≤◌}
use Rattle.std.specs.Prelude.{Bool, true, false, not, ◌&&◌, ◌||◌, nat_le, ◌==◌, if◌then◌else◌, ◌⊎◌}
use Rattle.std.specs.Prelude.{[], ◌∷◌, slice_index}
use Rattle.rtc_cycle.specs.declared.parts.DividerParts.{DividerParts}

-- the pulses from one periodic event to the next ("Periodic interrupt selection")
abbrev pub period : ℕ → ℕ
period rs = if rs == 1 then 128 else (if rs == 2 then 256 else 2 ^ (rs - 1))

-- the divider after a pulse while it runs
abbrev pub d_next : DividerParts → ℕ
d_next p = (p.d + 1) % 32768

-- whether the next pulse brings a periodic event: its period divides the divider, and RS 0 has none
unfoldable pub ticks_next : DividerParts → Bool
ticks_next p = p.dv == 2 && (not (p.rs == 0) && d_next p % period p.rs == 0)

-- whether the next pulse ends an update cycle, at 1,984 microseconds ("Update cycle")
unfoldable pub updates_next : DividerParts → Bool
updates_next p = p.dv == 2 && (p.cycle && d_next p == 65)

-- whether a cycle is in progress after the next pulse: one begins where a second does and SET is 0
abbrev pub in_cycle_next : DividerParts → Bool
in_cycle_next p = (d_next p == 0 && not p.set) || (p.cycle && not (d_next p == 65))

-- one pulse of the crystal: only DV 010 lets the divider run
unfoldable pub pulsed : DividerParts → DividerParts
pulsed p = record p {
  d = if p.dv == 2 then d_next p else p.d;
  cycle = if p.dv == 2 then in_cycle_next p else p.cycle;
}

-- n pulses
abbrev pub pulsed_times : ℕ → DividerParts → DividerParts
pulsed_times zero p = p
pulsed_times (suc n) p = pulsed (pulsed_times n p)

-- how many periodic events n pulses bring
abbrev pub ticks_in : DividerParts → ℕ → ℕ
ticks_in p zero = 0
ticks_in p (suc n) = if ticks_next (pulsed_times n p) then suc (ticks_in p n) else ticks_in p n

-- how many update cycles end in n pulses
abbrev pub updates_in : DividerParts → ℕ → ℕ
updates_in p zero = 0
updates_in p (suc n) =
    if updates_next (pulsed_times n p) then suc (updates_in p n) else updates_in p n

-- UIP of register A: a cycle is in progress, or begins within 8 pulses, 244 microseconds
-- ("Register A", "UIP")
abbrev pub uip_of : DividerParts → Bool
uip_of p = p.cycle || (nat_le 32760 p.d && not p.set)

-- the bits DV are written: another value than 010 resets the divider and ends a cycle
-- ("Divider control"; below 110 own)
abbrev pub with_dv : ℕ → DividerParts → DividerParts
with_dv dv p = record p { dv = dv; d = if dv == 2 then p.d else 16384; cycle = dv == 2 && p.cycle }

-- the rate is written
abbrev pub with_rate : ℕ → DividerParts → DividerParts
with_rate rs p = record p { rs = rs }

-- SET is written: 1 aborts a cycle in progress ("Register B", "SET")
abbrev pub with_set : Bool → DividerParts → DividerParts
with_set on p = record p { set = on; cycle = p.cycle && not on }

-- the periodic events of a second at each rate ("Periodic interrupt selection")
abbrev pub frequency : ℕ → ℕ
frequency rs =
    slice_index
    (0 ∷ 256 ∷ 128 ∷ 8192 ∷ 4096 ∷ 2048 ∷ 1024 ∷ 512 ∷ 256 ∷ 128 ∷ 64 ∷ 32 ∷ 16 ∷ 8 ∷ 4 ∷ 2 ∷ [])
    rs

-- the divider runs with SET 0, and its second's cycle is in progress or over, if not to come
pub record RunsCycles (p : DividerParts) : Type 0 where
  pub runs : p.dv ≡ 2
  pub unset : p.set ≡ false
  pub begun : (p.cycle ≡ true) ⊎ (65 ≤ p.d)
