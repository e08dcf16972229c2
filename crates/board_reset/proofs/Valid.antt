-- The conditions on a board after a reset, and the levels of its lines.
use Rattle.std.proofs.Common.{◌≡◌, ℕ, Bool, false, true, cond, leb, ◌++◌, ◌&&◌, ◌+◌, List, [], ◌∷◌, map, get_or, replicate, ap, sym, subst, refl, ◌∙◌, arith}
use Rattle.host_counter.proofs.Times.{time_at-start}
use Rattle.rtc_registers.specs.declared.parts.RtcParts.{RtcParts}
use Rattle.rtc_registers.specs.Registers.{irqf_of, pie_of, pf_of}
use Rattle.rtc_registers.specs.Parts.{IsRtc}
use Rattle.board_types.specs.declared.setup.Setup.{Setup}
use Rattle.board_types.specs.declared.parts.BoardParts.{BoardParts}
use Rattle.board_types.specs.declared.parts.HvParts.{HvParts}
use Rattle.board_types.specs.declared.parts.ProcessorParts.{ProcessorParts}
use Rattle.board_devices.specs.Lines.{levels}
use Rattle.hpet_registers.specs.Parts.{hpet_at_power_on}
use Rattle.board_types.specs.Setup.{has_messages}
use Rattle.board_devices.specs.Parts.{devices_at_power_on, lines_at_power_on, AreDevices}
use Rattle.board_core.specs.Time.{now_of}
use Rattle.board_core.specs.PowerOn.{board_at_power_on}
use Rattle.board_core.specs.Tsc.{no_processor}
use Rattle.board_core.specs.Conditions.{IsBoard, IsHv, IsProcessor, AreProcessors}
use Rattle.board_core.proofs.Joined.{AreRises-none}
use Rattle.board_core.proofs.ApicTimers.{AreApics-more}
use Rattle.board_reset.specs.Reset.{page_off, hv_off, setup_of, rtc_reset, after_reset}

-- the lines of devices as at power on, with an MC146818 that doesn't interrupt
pub levels-reset : (s : Setup) (r : RtcParts) → irqf_of r ≡ false → levels (record (devices_at_power_on s) { rtc = r }) ≡ replicate 6 false
unfolding levels
levels-reset s r quiet = by (leb s.format 1)
  where
    lines : irqf_of r ∷ [] ≡ false ∷ []
    lines = ap (λ (l : Bool). l ∷ []) quiet

    by : (few : Bool) → let timers : ℕ = cond few 3 8 in
        levels (record {
          pit = (devices_at_power_on s).pit;
          rtc = r;
          hpet = hpet_at_power_on timers (has_messages s.format);
          ticks = lines_at_power_on timers s.pit s.rtc s.hpet;
          slew_ns = s.slew_ns;
        }) ≡ replicate 6 false
    by true = ap (λ (l : List Bool). false ∷ (l ++ false ∷ false ∷ false ∷ false ∷ [])) lines
    by false = ap (λ (l : List Bool). false ∷ (l ++ false ∷ false ∷ false ∷ false ∷ [])) lines

-- the devices: those at power on, and the MC146818
AreDevices-reset : (s : Setup) (r : RtcParts) → AreDevices (devices_at_power_on s) → IsRtc r → pie_of r ≡ false
    → AreDevices (record (devices_at_power_on s) { rtc = r })
AreDevices-reset s r fresh valid uncounted = record {
  pit = fresh.pit;
  rtc = valid;
  hpet = fresh.hpet;
  lines = fresh.lines;
  joined = record {
    places = fresh.joined.places;
    slew_low = fresh.joined.slew_low;
    slew_high = fresh.joined.slew_high;
    flag = sym (ap (λ (pie : Bool). (pie && true) && pf_of r) uncounted);
    timer_lines = fresh.joined.timer_lines;
  };
}

-- a processor, and all of them
IsProcessor-off : (guest_khz : ℕ) (p : ProcessorParts) → IsProcessor guest_khz p → IsProcessor guest_khz (page_off p)
IsProcessor-off guest_khz p valid = record {
  version = valid.version;
  time = valid.time;
  unpublished = λ e. ap page_off (valid.unpublished e);
  flags = valid.flags;
  mul = valid.mul;
  shift = valid.shift;
}

off-at : (ps : List ProcessorParts) (k : ℕ) → get_or (map page_off ps) k no_processor ≡ page_off (get_or ps k no_processor)
off-at ps k = lib.ListN.get_or-map page_off ps k no_processor

AreProcessors-off : (guest_khz cpus : ℕ) (ps : List ProcessorParts) → AreProcessors guest_khz cpus ps → AreProcessors guest_khz cpus (map page_off ps)
AreProcessors-off guest_khz cpus ps valid = record {
  each = λ k. subst (λ (p : ProcessorParts). IsProcessor guest_khz p) (sym (off-at ps k))
      (IsProcessor-off guest_khz (get_or ps k no_processor) (valid.each k));
  absent = λ k later. off-at ps k ∙ ap page_off (valid.absent k later);
}

-- the reference page
IsHv-off : (format guest_khz cpus : ℕ) (p : HvParts) → IsHv format guest_khz cpus p → IsHv format guest_khz cpus (hv_off p)
IsHv-off format guest_khz cpus p valid = record {
  version = valid.version;
  none = λ early. ap hv_off (valid.none early);
  unpublished = λ e. ap hv_off (valid.unpublished e);
  processor = valid.processor;
  scale = refl;
  offset = λ e. refl;
  tsc_offset = λ e. refl;
}

-- the board
pub IsBoard-reset : (b : BoardParts) → IsBoard b → IsBoard (board_at_power_on (setup_of b)) → IsRtc (rtc_reset b.rtc)
    → pie_of (rtc_reset b.rtc) ≡ false → IsBoard (after_reset b)
unfolding after_reset
IsBoard-reset b valid fresh rtc uncounted =
    let start : now_of (board_at_power_on (setup_of b)) ≡ 0 = time_at-start (setup_of b).anchor in
    record {
      devices = AreDevices-reset (setup_of b) (rtc_reset b.rtc) fresh.devices rtc uncounted;
      joined = record {
        format = fresh.joined.format;
        messages = fresh.joined.messages;
        rates = valid.joined.rates;
        time = valid.joined.time;
        accesses = valid.joined.accesses;
        due = λ k less. omega (arith, start, fresh.joined.due k less);
        wall = valid.joined.wall;
        processors = AreProcessors-off b.guest_khz b.cpus b.processors valid.joined.processors;
        rises = AreRises-none b.format b.accesses 6 _;
        apics = AreApics-more b.format b.cpus (now_of (board_at_power_on (setup_of b)) + 0) (now_of b + b.accesses) _ fresh.joined.apics (omega (arith, start));
        hv = IsHv-off b.format b.guest_khz b.cpus b.hv valid.joined.hv;
      };
    }
