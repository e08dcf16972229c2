-- The mode table: what one CLK pulse does. Intel 8254 data sheet, "Mode Definitions". What GATE
-- does by its level, and what the count reads between two loads of an odd count in mode 3, are (own).
use Rattle.std.specs.Prelude.{ℕ, zero, suc, ◌==◌, ◌&&◌, ◌||◌, not, Bool, true, false, if◌then◌else◌}
use Rattle.pit_counter.specs.Mode.{mode_of, has_strobe}
use Rattle.pit_counter.specs.Count.{loaded_count, is_odd_square, lowered}
use Rattle.pit_counter.specs.declared.mode.Mode.{Mode}
use Rattle.pit_counter.specs.declared.mode.Mode.TheVariants.{
  TerminalCount,
  OneShot,
  RateGenerator,
  SquareWave,
  SoftwareStrobe,
  HardwareStrobe,
}
use Rattle.pit_counter.specs.declared.table.Effect.{Effect}
use Rattle.pit_counter.specs.declared.table.Effect.TheVariants.{
  Load,
  DownToHigh,
  DownToLow,
  DownByTwo,
  DownToStrobe,
  Stand,
}
use Rattle.pit_counter.specs.declared.parts.CounterParts.{CounterParts}

-- The effect of a pulse in each mode: that of the first row that applies.
unfoldable pub effect_in : Mode → CounterParts → Effect
-- mode 0, interrupt on terminal count: a load doesn't count; GATE low (own) or a half-written count
-- stops the count; OUT goes high at 0
effect_in TerminalCount c =
    if c.null && c.full then Load c.out
    else if c.live && c.gate && not c.part_there then DownToHigh
    else Stand c.out
-- mode 1, hardware retriggerable one-shot: a trigger (own) loads and sets OUT low; OUT goes high
-- at 0
effect_in OneShot c =
    if c.trig then Load false
    else if c.live then DownToHigh
    else Stand c.out
-- mode 2, rate generator: the first count or a trigger (own) loads; at 1 OUT is low for one pulse,
-- then the count is loaded again; GATE low stops the count (own)
effect_in RateGenerator c =
    if (c.full && not c.live) || c.trig then Load true
    else if c.live && c.gate && c.ce == 1 then Load true
    else if c.live && c.gate then DownToLow
    else Stand c.out
-- mode 3, square wave: the first count or a trigger (own) loads; down by two; OUT toggles and the
-- count is loaded again at the end of each half; the high half of an odd count is one pulse longer;
-- GATE low stops the count (own)
effect_in SquareWave c =
    if (c.full && not c.live) || c.trig then Load true
    else if c.live && c.gate && c.out && c.odd && c.ce == 0 then Load false
    else if c.live && c.gate && c.out && c.odd then DownByTwo
    else if c.live && c.gate && c.ce == 2 then Load (not c.out)
    else if c.live && c.gate then DownByTwo
    else Stand c.out
-- mode 4, software triggered strobe: a written count loads; at 0 OUT is low for one pulse, once a
-- load (own); GATE low stops the count (own)
effect_in SoftwareStrobe c =
    if c.null && c.full then Load true
    else if c.live && c.gate then DownToStrobe
    else Stand true
-- mode 5, hardware triggered strobe: a trigger (own) loads; at 0 OUT is low for one pulse, once a
-- load (own)
effect_in HardwareStrobe c =
    if c.trig then Load true
    else if c.live then DownToStrobe
    else Stand true

-- What each effect does to the counter.
abbrev pub affected : Effect → CounterParts → CounterParts
-- the count is loaded and OUT takes this level; null count and a waiting trigger are cleared, a
-- strobe is due in modes 4 and 5
affected (Load level) c = record c {
  ce = loaded_count c.bits c.cr;
  out = level;
  null = false;
  live = true;
  trig = false;
  armed = has_strobe (mode_of c.bits);
  odd = is_odd_square c.bits c.cr;
}
-- down by 1; OUT goes high where the count becomes 0
affected DownToHigh c = record c {
  ce = lowered c.bits c.ce 1;
  out = c.out || (lowered c.bits c.ce 1 == 0);
}
-- down by 1; OUT goes low where the count becomes 1
affected DownToLow c = record c {
  ce = lowered c.bits c.ce 1;
  out = c.out && not (lowered c.bits c.ce 1 == 1);
}
-- down by 2
affected DownByTwo c = record c { ce = lowered c.bits c.ce 2 }
-- down by 1; OUT is high, but low where the count becomes 0 and a strobe is due, which is then done
affected DownToStrobe c = record c {
  ce = lowered c.bits c.ce 1;
  out = not (c.armed && lowered c.bits c.ce 1 == 0);
  armed = c.armed && not (lowered c.bits c.ce 1 == 0);
}
-- no load and no count; OUT takes this level
affected (Stand level) c = record c { out = level }

-- the counter after one CLK pulse
unfoldable pub pulsed : CounterParts → CounterParts
pulsed c = affected (effect_in (mode_of c.bits) c) c

-- OUT is low before and high after
abbrev pub has_risen : CounterParts → CounterParts → Bool
has_risen before after = not before.out && after.out

-- the counter after n CLK pulses
unfoldable pub pulsed_times : ℕ → CounterParts → CounterParts
pulsed_times zero c = c
pulsed_times (suc n) c = pulsed (pulsed_times n c)

-- whether OUT rises at the next pulse
unfoldable pub rises_next : CounterParts → Bool
rises_next c = has_risen c (pulsed c)

-- at how many of the next n pulses OUT rises
unfoldable pub rises_in : CounterParts → ℕ → ℕ
rises_in c zero = 0
rises_in c (suc n) = if rises_next (pulsed_times n c) then suc (rises_in c n) else rises_in c n
