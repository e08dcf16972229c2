-- The fields of the HPET and their conditions. Sections are those of the IA-PC HPET specification
-- 1.0a; (own) marks what it leaves open and this project chose.
use Rattle.std.specs.Prelude.{◌≡◌, ℕ, zero, suc, ◌<◌, ◌≤◌, Bool, true, false, ◌||◌, ◌==◌, not}
use Rattle.std.specs.Prelude.{nat_lt, nat_le, if◌then◌else◌, ◌++◌, slice_index_or, ◌⊎◌}
use Rattle.std.specs.Prelude.{replicate, Option, Some, None}
use Rattle.hpet_comparator.specs.declared.parts.TimerParts.{TimerParts}
use Rattle.hpet_comparator.specs.declared.parts.TimerField.{TimerField}
use Rattle.hpet_comparator.specs.declared.parts.TimerField.TheVariants.{Comparator, Period}
use Rattle.hpet_comparator.specs.declared.parts.TimerField.TheVariants as timer_field
use Rattle.clk_units.specs.Bits.{bit}
use Rattle.hpet_comparator.specs.Parts.{IsTimer, timer_fault, timer_at_power_on}
use Rattle.hpet_registers.specs.declared.parts.HpetParts.{HpetParts}
use Rattle.hpet_registers.specs.declared.parts.HpetField.{HpetField}
use Rattle.hpet_registers.specs.declared.parts.HpetField.TheVariants.{Timers, Messages, Config}
use Rattle.hpet_registers.specs.declared.parts.HpetField.TheVariants.{Status, Timer, MessageBit}
use Rattle.hpet_registers.specs.declared.parts.HpetField.TheVariants.{MessageWord}

-- what the place of a timer that isn't there holds
abbrev pub no_timer : TimerParts
no_timer = record { config = 0; comparator = 0; period = 0 }

-- timer k
abbrev pub timer_at : ℕ → HpetParts → TimerParts
timer_at k h = slice_index_or h.timer k no_timer

-- bit 14 of the configuration of timer k, Tn_FSB_EN_CNF (2.3.8)
abbrev pub message_bit_at : ℕ → HpetParts → Bool
message_bit_at k h = slice_index_or h.message_bit k false

-- the message register of timer k, 110h + 20h*k (2.3.10)
abbrev pub message_word_at : ℕ → HpetParts → ℕ
message_word_at k h = slice_index_or h.message_word k 0

-- ENABLE_CNF, bit 0 of the configuration: the main counter runs (2.3.5)
abbrev pub is_running : HpetParts → Bool
is_running h = bit 0 h.config

-- LEG_RT_CNF, bit 1: legacy replacement (2.3.5)
abbrev pub is_legacy : HpetParts → Bool
is_legacy h = bit 1 h.config

-- a place of the timers: a timer, or nothing where there is none
abbrev pub IsPlace : Bool → TimerParts → Type 0
IsPlace true t = IsTimer t
IsPlace false t = t ≡ no_timer

-- the conditions on the fields
pub record IsHpet (h : HpetParts) : Type 0 where
  pub config : h.config ≤ 3
  pub timers : (h.timers ≡ 3) ⊎ (h.timers ≡ 8)
  pub status : h.timers ≡ 3 → h.status ≤ 7
  pub places : (k : ℕ) → k < 8 → IsPlace (nat_lt k h.timers) (timer_at k h)
  pub messages : h.messages ≡ true → h.timers ≡ 8
  pub plain : h.messages ≡ false → (k : ℕ) → k < 8
      → (message_bit_at k h ≡ false) × (message_word_at k h ≡ 0)

-- the condition on the number of timers
abbrev pub timers_valid : HpetParts → Bool
timers_valid h = h.timers == 3 || h.timers == 8

-- the condition on messages: they come with eight timers
abbrev pub messages_valid : HpetParts → Bool
messages_valid h = not h.messages || h.timers == 8

-- the condition on the configuration: ENABLE and LEG_RT alone
abbrev pub hpet_config_valid : HpetParts → Bool
hpet_config_valid h = nat_le h.config 3

-- the condition on the status: no bit of a timer that isn't there
abbrev pub hpet_status_valid : HpetParts → Bool
hpet_status_valid h = h.timers == 8 || nat_le h.status 7

-- the first field of a place that isn't 0
abbrev pub rest_fault : TimerParts → Option TimerField
rest_fault t =
    if t.config == 0 then
    if t.comparator == 0 then
    if t.period == 0 then None else Some Period
    else Some Comparator
    else Some timer_field.Config

-- the first field of place k whose condition fails: a timer's, and 0 where there is none
abbrev pub place_fault : Bool → TimerParts → Option TimerField
place_fault true t = timer_fault t
place_fault false t = rest_fault t

-- the same as a field of the HPET
abbrev pub of_timer : ℕ → Option TimerField → Option HpetField
of_timer k None = None
of_timer k (Some field) = Some (Timer k field)

-- the first fault of timer k
abbrev pub timer_fault_at : HpetParts → ℕ → Option HpetField
timer_fault_at h k = of_timer k (place_fault (nat_lt k h.timers) (timer_at k h))

-- the first fault of the messages of timer k: without messages they are 0
abbrev pub message_fault_at : HpetParts → ℕ → Option HpetField
message_fault_at h k =
    if h.messages then None
    else if message_bit_at k h then Some (MessageBit k)
    else if message_word_at k h == 0 then None
    else Some (MessageWord k)

-- the first of two faults
abbrev pub or_else : Option HpetField → Option HpetField → Option HpetField
or_else None next = next
or_else (Some field) next = Some field

-- the first fault of the places below n
unfoldable pub first_below : (ℕ → Option HpetField) → ℕ → Option HpetField
first_below fault zero = None
first_below fault (suc n) = or_else (first_below fault n) (fault n)

-- the first field whose condition fails
abbrev pub hpet_fault : HpetParts → Option HpetField
hpet_fault h =
    if not (timers_valid h) then Some Timers
    else if not (messages_valid h) then Some Messages
    else if not (hpet_config_valid h) then Some Config
    else if not (hpet_status_valid h) then Some Status
    else or_else (first_below (timer_fault_at h) 8) (first_below (message_fault_at h) 8)

-- the HPET at power on, with three timers or eight (2.3: each register's reset value); no timer
-- sends messages
abbrev pub hpet_at_power_on : ℕ → Bool → HpetParts
hpet_at_power_on timers messages = record {
  config = 0;
  status = 0;
  counter = 0;
  timer = replicate 3 timer_at_power_on
      ++ replicate 5 (if timers == 8 then timer_at_power_on else no_timer);
  timers = timers;
  messages = messages;
  message_bit = replicate 8 false;
  message_word = replicate 8 0;
}
