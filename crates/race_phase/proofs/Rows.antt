-- Examples that are computed: what the definitions print for a record of each kind and for the end of a phase, and which entries
-- of a history answer the calls of a processor. A definition that is changed by mistake makes one of them false.
use Rattle.std.proofs.Common.{◌≡◌, ℕ, List, [], ◌∷◌, true, false, Bool, map, refl}
use Rattle.std.specs.Prelude.{codes}
use Rattle.std.specs.Fmt.{digits}
use Rattle.tsc_scale.specs.Offset.{tsc_by}
use Rattle.tick_policy.specs.declared.parts.Policy.TheVariants.{Delay}
use Rattle.pvclock_page.specs.Reading.{reading_of}
use Rattle.pvclock_page.specs.declared.page.Page.{Page}
use Rattle.pvclock_page.specs.declared.page.PageReply.TheVariants.{Off as PageOff}
use Rattle.pvclock_page.specs.declared.page.ClockReply.TheVariants.{Off, On}
use Rattle.board_types.specs.declared.access.Access.TheVariants.{MsrWrite, Step}
use Rattle.board_types.specs.declared.parts.BoardParts.{BoardParts}
use Rattle.board_types.specs.declared.reply.Reply.{Reply}
use Rattle.board_types.specs.declared.reply.Value.TheVariants.{Nothing}
use Rattle.board_core.specs.Access.{reply_of}
use Rattle.board_core.specs.PowerOn.{board_at_power_on}
use Rattle.board_core.specs.Pages.{answer_by}
use Rattle.board_history.specs.Machine.{ratio_in}
use Rattle.board_history.specs.History.{entries_of}
use Rattle.board_history.specs.declared.entry.Entry.{Entry}
use Rattle.board_history.specs.declared.entry.Entry.TheVariants.{Opened, Board, PageRead, Clamp}
use Rattle.reply_text.specs.Text.{value_text, clock_text}
use Rattle.trace_blocks.specs.declared.records.Answer.TheVariants.{Acted, PageIs, ClockIs}
use Rattle.trace_records.specs.declared.Call.TheVariants.{Act, ReadPage, ReadClock}
use Rattle.trace_blocks.specs.declared.records.Record.{Record}
use Rattle.trace_blocks.proofs.Rows.{page, routed}
use Rattle.trace_blocks.specs.declared.ends.End.TheVariants.{Finish, Save, Move}
use Rattle.trace_blocks.specs.Blocks.{block_of}
use Rattle.race_phase.specs.Calls.{records_of, CallMade, locked_page, Shown}
use Rattle.race_phase.specs.Phases.{end_entries}
use Rattle.std.specs.List.{filter_map}
use Rattle.std.proofs.lemmas.List.Elements.{All-nil}

-- two processors on a host of 1 GHz, with a guest of 2 GHz
abbrev at_power_on : BoardParts
at_power_on = board_at_power_on (record {
  format = 1;
  anchor = record { khz = 1000000; start = 0; base_ns = 0 };
  guest_khz = 2000000;
  cpus = 2;
  pit = Delay;
  rtc = Delay;
  hpet = Delay;
  slew_ns = 1000;
  wall_sec = 0;
  wall_nsec = 0;
  time = record { sec = 0; min = 0; hour = 0; wday = 1; date = 1; month = 1; year = 0 };
})

-- the entry of a save and that of a move are the same
entries_of_ends : (b : BoardParts) → map (λ e. end_entries e b) (Finish ∷ Save 9 1 100 ∷ Move 9 1 100 (record { khz = 3000000; start = 500; gap = 40 }) ∷ [])
    ≡ [] ∷ (Board 1 1 100 Step (reply_of b 1 100 Step) ∷ []) ∷ (Board 1 1 100 Step (reply_of b 1 100 Step) ∷ []) ∷ []
entries_of_ends b = refl

-- Calls and their entries: of a clock, the clamp only where the page is enabled
a_page_that_is_read : (es : List Entry) → CallMade at_power_on 1 1 900 (ReadPage 0) (PageIs PageOff) es
    ≡ ((p : Page) × (locked : Bool) × (PageOff ≡ answer_by (ratio_in at_power_on) p 900) × (es ≡ PageRead 1 0 900 p locked ∷ []))
a_page_that_is_read es = refl

a_clock_of_a_page_that_is_off : (es : List Entry) → CallMade at_power_on 1 1 900 (ReadClock 0) (ClockIs Off) es
    ≡ ((p : Page) × (locked : Bool) × (p.enabled ≡ false) × (es ≡ PageRead 1 0 900 p locked ∷ []))
a_clock_of_a_page_that_is_off es = refl

an_answer_of_another_call : (es : List Entry) → CallMade at_power_on 1 1 900 (ReadPage 0) (ClockIs Off) es ≡ ⊥
an_answer_of_another_call es = refl

-- Two processors, in two orders: 0 enables its page and reads the clock by it, 1 steps twice
abbrev reply : ℕ → Reply
reply number = record { number = number; value = Nothing; edges = []; bursts = [] }

abbrev enable : Record
enable = record { line = 5; cpu = 0; h = 0; call = Act (MsrWrite 0x4b564d01 1) }

abbrev clock : Record
clock = record { line = 7; cpu = 0; h = 4; call = ReadClock 0 }

abbrev step : ℕ → ℕ → Record
step line h = record { line = line; cpu = 1; h = h; call = Act Step }

abbrev records : List Record
records = enable ∷ step 6 0 ∷ clock ∷ step 8 3 ∷ []

records_of_each : map (λ cpu. records_of cpu records) (0 ∷ 1 ∷ []) ≡ (enable ∷ clock ∷ []) ∷ (step 6 0 ∷ step 8 3 ∷ []) ∷ []
records_of_each = refl

abbrev enabled : ℕ → Entry
enabled number = Board 0 0 0 (MsrWrite 0x4b564d01 1) (reply number)

abbrev stepped : ℕ → ℕ → Entry
stepped h number = Board 1 1 h Step (reply number)

abbrev clock_read : Bool → List Entry
clock_read locked = PageRead 0 0 4 page locked ∷ Clamp 0 0 4 4 ∷ []

processor_0_is_first : Shown at_power_on routed records (Opened at_power_on ∷ enabled 1 ∷ PageRead 0 0 4 page false ∷ Clamp 0 0 4 4 ∷ stepped 0 2 ∷ stepped 3 3 ∷ [])
    0 2
    (codes "5 1\n7 clock 4 4\n6 2\n8 3\n")
unfolding block_of value_text clock_text digits tsc_by reading_of
processor_0_is_first = (
  codes "5 1\n7 clock 4 4\n",
  codes "6 2\n8 3\n",
  refl,
  (
    Acted (reply 1),
    codes "7 clock 4 4\n",
    enabled 1 ∷ [],
    clock_read false,
    refl,
    refl,
    refl,
    (ClockIs (On 4 4), [], clock_read false, [], refl, refl, (page, false, refl, refl, refl), (refl, refl)),
  ),
  ([], ([], [], refl, refl, ([], [], refl, refl, ([], [], refl, refl, refl))), All-nil _),
  (
    codes "6 2\n8 3\n",
    [],
    refl,
    (
      Acted (reply 2),
      codes "8 3\n",
      stepped 0 2 ∷ [],
      stepped 3 3 ∷ [],
      refl,
      refl,
      refl,
      (Acted (reply 3), [], stepped 3 3 ∷ [], [], refl, refl, refl, (refl, refl)),
    ),
    ([], ([], [], refl, refl, ([], [], refl, refl, refl)), All-nil _),
    refl,
  ),
)

processor_1_is_first : Shown at_power_on routed records (Opened at_power_on ∷ stepped 0 1 ∷ enabled 2 ∷ stepped 3 3 ∷ PageRead 0 0 4 page false ∷ Clamp 0 0 4 4 ∷ [])
    0 2 (codes "5 2\n7 clock 4 4\n6 1\n8 3\n")
unfolding block_of value_text clock_text digits tsc_by reading_of
processor_1_is_first = (
  codes "5 2\n7 clock 4 4\n",
  codes "6 1\n8 3\n",
  refl,
  (
    Acted (reply 2),
    codes "7 clock 4 4\n",
    enabled 2 ∷ [],
    clock_read false,
    refl,
    refl,
    refl,
    (ClockIs (On 4 4), [], clock_read false, [], refl, refl, (page, false, refl, refl, refl), (refl, refl)),
  ),
  ([], ([], [], refl, refl, ([], [], refl, refl, ([], [], refl, refl, refl))), All-nil _),
  (
    codes "6 1\n8 3\n",
    [],
    refl,
    (
      Acted (reply 1),
      codes "8 3\n",
      stepped 0 1 ∷ [],
      stepped 3 3 ∷ [],
      refl,
      refl,
      refl,
      (Acted (reply 3), [], stepped 3 3 ∷ [], [], refl, refl, refl, (refl, refl)),
    ),
    ([], ([], [], refl, refl, ([], [], refl, refl, refl)), All-nil _),
    refl,
  ),
)

-- a pass that no processor has
an_entry_of_a_third_pass : entries_of 2 (Opened at_power_on ∷ enabled 1 ∷ Board 2 0 3 Step (reply 2) ∷ []) ≡ Board 2 0 3 Step (reply 2) ∷ []
an_entry_of_a_third_pass = refl

-- a read under the lock has its miss, one without it has none
a_read_under_the_lock : filter_map (locked_page 2) (clock_read true) ≡ 0 ∷ []
a_read_under_the_lock = refl

a_read_without_the_lock : filter_map (locked_page 2) (clock_read false) ≡ []
a_read_without_the_lock = refl
