-- Which lists of entries are legal, each at a small case.
use Rattle.std.proofs.Common.{◌≡◌, ℕ, ◌<◌, [], ◌∷◌, map, replicate, true, false, IsTrue, pos, refl, arith}
use Rattle.tsc_scale.specs.Offset.{tsc_by}
use Rattle.pvclock_page.specs.Reading.{reading_of}
use Rattle.pvclock_page.specs.Scale.{mul_for, shift_for}
use Rattle.pvclock_page.specs.declared.page.Page.{Page}
use Rattle.hv_page.specs.declared.page.HvPage.{HvPage}
use Rattle.host_counter.specs.Time.{time_at}
use Rattle.tick_policy.specs.declared.parts.Policy.TheVariants.{Delay}
use Rattle.board_types.specs.declared.access.Access.TheVariants.{MsrWrite, Step}
use Rattle.board_types.specs.declared.parts.BoardParts.{BoardParts}
use Rattle.board_types.specs.declared.reply.Reply.{Reply}
use Rattle.board_types.specs.declared.reply.Value.TheVariants.{Nothing}
use Rattle.board_core.specs.PowerOn.{board_at_power_on}
use Rattle.board_core.specs.Tsc.{no_processor}
use Rattle.board_core.specs.Access.{bursts_to, reply_of, after_run, value_at, edges_of, after_access, after_act, before_look}
use Rattle.board_core.specs.Apics.{after_look}
use Rattle.board_core.specs.Pages.{published, processors_after}
use Rattle.board_core.specs.Refusals.{meters_of}
use Rattle.board_meters.specs.Meters.{refusal_in}
use Rattle.board_devices.specs.Run.{run, onward}
use Rattle.board_devices.specs.Lines.{levels}
use Rattle.board_devices.specs.Nanosecond.{at_nanosecond, pit_pulse, rtc_pulse, hpet_pulse, catch_up_point}
use Rattle.clk_units.specs.Pulses.{falls_at, pulses_by}
use Rattle.rtc_registers.specs.Parts.{rtc_at_power_on}
use Rattle.rtc_registers.specs.Registers.{with_time}
use Rattle.board_devices.specs.Act.{acted, first_part}
use Rattle.board_history.specs.History.{May, IsLegal}
use Rattle.board_history.specs.declared.entry.Entry.{Entry}
use Rattle.board_history.specs.declared.entry.Entry.TheVariants.{Opened, Board, PageRead, HvRead, Clamp}

-- two processors on a host of 1 GHz, with a guest of 2 GHz; the page of processor 0 is enabled
abbrev at_power_on : BoardParts
at_power_on = board_at_power_on (record {
  format = 1;
  anchor = record { khz = 1000000; start = 0; base_ns = 0 };
  guest_khz = 2000000;
  cpus = 2;
  pit = Delay;
  rtc = Delay;
  hpet = Delay;
  slew_ns = 1000;
  wall_sec = 0;
  wall_nsec = 0;
  time = record { sec = 0; min = 0; hour = 0; wday = 1; date = 1; month = 1; year = 0 };
})

abbrev opening : BoardParts
opening = record at_power_on {
  processors = record no_processor { number = 1; version = 2; mul = 0x80000000; flags = 1 } ∷ replicate 63 no_processor;
}

abbrev page : Page
page = record {
  version = 2;
  tsc_timestamp = 0;
  system_time = 0;
  mul = 0x80000000;
  shift = pos 0;
  flags = 1;
  offset = 0;
  enabled = true;
}

abbrev other_page : Page
other_page = record page { version = 4 }

abbrev hv_page : HvPage
hv_page = record { version = 2; scale = 1; offset = 0; tsc_offset = 0 }

abbrev Is : ℕ → ℕ → Type 0
Is a b = a ≡ b

-- no other entry comes first
an_access_does_not_open : (r : Reply) → IsLegal (Board 0 0 0 Step r ∷ []) ≡ ⊥
an_access_does_not_open r = refl

does_not_open : map IsLegal ((PageRead 0 0 0 page false ∷ []) ∷ (HvRead 0 0 hv_page false ∷ []) ∷ (Clamp 0 0 0 0 ∷ []) ∷ []) ≡ ⊥ ∷ ⊥ ∷ ⊥ ∷ []
does_not_open = refl

-- a page that is read is the board's, of a processor that the board has
reads : map (May (Opened opening ∷ [])) (PageRead 1 0 900 other_page false ∷ PageRead 1 2 900 page false ∷ HvRead 1 900 hv_page true ∷ [])
    ≡ ((0 < 2) × (page ≡ other_page))
    ∷ ((2 < 2) × (record { version = 0; tsc_timestamp = 0; system_time = 0; mul = 0; shift = pos 0; flags = 0; offset = 0; enabled = false } ≡ page))
    ∷ (record { version = 0; scale = 0; offset = 0; tsc_offset = 0 } ≡ hv_page)
    ∷ []
reads = refl

-- a clamp comes after its own pass's read of that processor's page, with that reading: another processor, and another reading
clamps : map (May (Opened opening ∷ PageRead 1 0 900 page false ∷ [])) (Clamp 1 0 900 900 ∷ Clamp 1 1 900 900 ∷ Clamp 1 0 901 901 ∷ [])
    ≡ ((Is 0 0 × IsTrue true × Is 900 900) × Is 900 900)
    ∷ ((Is 0 1 × IsTrue true × Is 900 900) × Is 900 900)
    ∷ ((Is 0 0 × IsTrue true × Is 900 901) × Is 901 901)
    ∷ []
unfolding tsc_by reading_of
clamps = refl

-- without a read, after one of another pass, after its clamp, and after a read of the reference page
no_clamps : map (λ xs. May (Opened opening ∷ xs) (Clamp 1 0 900 900))
    ([]
    ∷ (PageRead 0 0 900 page false ∷ [])
    ∷ (PageRead 1 0 900 page false ∷ Clamp 1 0 900 900 ∷ [])
    ∷ (PageRead 1 0 900 page false ∷ HvRead 1 900 hv_page false ∷ [])
    ∷ [])
    ≡ (⊥ × Is 900 900) ∷ (⊥ × Is 900 900) ∷ (⊥ × Is 900 900) ∷ (⊥ × Is 900 900) ∷ []
no_clamps = refl

-- by a page that is off; and never below the greatest reading before it, of the board or of a clamp
floors : map (λ xs. May xs (Clamp 1 0 900 900))
    ((Opened opening ∷ PageRead 1 0 900 (record page { enabled = false }) false ∷ [])
    ∷ (Opened (record opening { greatest = 1000 }) ∷ PageRead 1 0 900 page false ∷ [])
    ∷ (Opened opening ∷ PageRead 0 0 950 page false ∷ Clamp 0 0 950 950 ∷ PageRead 1 0 900 page false ∷ [])
    ∷ [])
    ≡ ((Is 0 0 × IsTrue false × Is 900 900) × Is 900 900)
    ∷ ((Is 0 0 × IsTrue true × Is 900 900) × Is 900 1000)
    ∷ ((Is 0 0 × IsTrue true × Is 900 900) × Is 900 950)
    ∷ []
unfolding tsc_by reading_of
floors = refl

-- Two processors, in two orders: 0 enables its page and reads the clock by it, 1 steps twice. Each
-- order is legal; the numbers of the replies tell them apart
abbrev step_of_1 : ℕ → ℕ → Entry
step_of_1 h number = Board 1 1 h Step (record { number = number; value = Nothing; edges = []; bursts = bursts_to at_power_on h })

abbrev enable_of_0 : ℕ → Entry
enable_of_0 number = Board 0 0 0 (MsrWrite 0x4b564d01 1) (record { number = number; value = Nothing; edges = []; bursts = bursts_to at_power_on 0 })

processor_0_is_first : IsLegal (Opened at_power_on ∷ enable_of_0 1 ∷ PageRead 0 0 4 page false ∷ Clamp 0 0 4 4 ∷ step_of_1 0 2 ∷ step_of_1 3 3 ∷ [])
unfolding refusal_in meters_of time_at reply_of after_run value_at edges_of run onward after_access after_act before_look after_look
    processors_after published tsc_by mul_for shift_for reading_of acted first_part levels at_nanosecond pit_pulse rtc_pulse hpet_pulse catch_up_point falls_at pulses_by rtc_at_power_on with_time
processor_0_is_first = (
  record { cpu_below = omega arith; legal = refl; taken = refl; reply = refl },
  (
    (omega arith, refl),
    (
      ((refl, refl, refl), refl),
      (
        record { cpu_below = omega arith; legal = refl; taken = refl; reply = refl },
        (record { cpu_below = omega arith; legal = refl; taken = refl; reply = refl }, tt),
      ),
    ),
  ),
)

processor_1_is_first : IsLegal (Opened at_power_on ∷ step_of_1 0 1 ∷ enable_of_0 2 ∷ step_of_1 3 3 ∷ PageRead 0 0 4 page false ∷ Clamp 0 0 4 4 ∷ [])
unfolding refusal_in meters_of time_at reply_of after_run value_at edges_of run onward after_access after_act before_look after_look
    processors_after published tsc_by mul_for shift_for reading_of acted first_part levels at_nanosecond pit_pulse rtc_pulse hpet_pulse catch_up_point falls_at pulses_by rtc_at_power_on with_time
processor_1_is_first = (
  record { cpu_below = omega arith; legal = refl; taken = refl; reply = refl },
  (
    record { cpu_below = omega arith; legal = refl; taken = refl; reply = refl },
    (
      record { cpu_below = omega arith; legal = refl; taken = refl; reply = refl },
      (
        (omega arith, refl),
        (((refl, refl, refl), refl), tt),
      ),
    ),
  ),
)
