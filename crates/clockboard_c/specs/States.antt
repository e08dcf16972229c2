-- What C is told of saved states, moves and later formats.
use Rattle.std.specs.Prelude.{
  ℕ,
  ◌==◌,
  ◌&&◌,
  nat_le,
  false,
  if◌then◌else◌,
  List,
  [],
  ◌∷◌,
  length,
  Option,
  Some,
  None,
}
use Rattle.board_types.specs.declared.parts.BoardParts.{BoardParts}
use Rattle.board_types.specs.declared.setup.TheConstants.{LAST_FORMAT}
use Rattle.irq_edges.specs.Lines.{changes, line_numbers}
use Rattle.board_devices.specs.Lines.{levels}
use Rattle.board_devices.specs.Run.{run}
use Rattle.board_core.specs.Time.{devices_in, now_of}
use Rattle.board_core.specs.Upgrade.{upgraded_to}
use Rattle.board_reset.specs.Reset.{after_reset}
use Rattle.save_state.specs.declared.fault.StateFault.{StateFault}
use Rattle.save_state.specs.declared.fault.StateKind.{StateKind}
use Rattle.save_state.specs.declared.fault.StateKind.TheVariants.{
  Short,
  Magic,
  Version,
  Field,
  Trailing,
}
use Rattle.save_state.specs.Reading.{board_in}
use Rattle.save_state.specs.Table.{fault_of}
use Rattle.save_state.specs.Writing.{bytes_of}
use Rattle.board_meters.specs.declared.meters.MoveFault.{MoveFault}
use Rattle.board_meters.specs.declared.meters.MoveFault.TheVariants.{OutOfRange, VersionsSpent}
use Rattle.transfer.specs.Move.{move_fault, moved_to, gap_bursts}
use Rattle.clockboard_c.specs.Kept.{CallerBoard}
use Rattle.clockboard_c.specs.declared.board.TheConstants.{SEAL}
use Rattle.clockboard_c.specs.declared.code.TheConstants.{
  OK,
  NO_BOARD,
  NO_ROOM,
  BAD_STATE,
  BAD_RATE,
  BAD_FORMAT,
  OUT_OF_RANGE,
  VERSIONS_SPENT,
  SHARED,
}
use Rattle.clockboard_c.specs.Call.{sealed}
use Rattle.clockboard_c.specs.Replies.{Told, refused, refused_at, taken, no_value}
use Rattle.clockboard_c.specs.Setup.{is_rate}

-- the code of what is done with a board as a whole, and not while threads share its pages
abbrev pub whole_code : CallerBoard → ℕ
whole_code b = if b.seal == SEAL then (if b.shared then SHARED else OK) else NO_BOARD

-- the code of a save into so many bytes
abbrev pub save_code : CallerBoard → ℕ → ℕ
save_code b room =
    if whole_code b == OK then
    (if nat_le (length (bytes_of b.state)) room then OK else NO_ROOM)
    else whole_code b

-- what is at fault in a saved state, by a number
abbrev pub kind_number : StateKind → ℕ
kind_number Short = 0
kind_number Magic = 1
kind_number Version = 2
kind_number Field = 3
kind_number Trailing = 4

-- what a load answers, where that is the first fault of its bytes, and the board after it
abbrev pub load_told_unless : Option StateFault → List ℕ → Told
load_told_unless (Some f) bytes = refused_at BAD_STATE (f.place ∷ kind_number f.kind ∷ 0 ∷ 0 ∷ [])
load_told_unless None bytes =
    taken (board_in bytes).accesses (now_of (board_in bytes)) no_value [] []

abbrev pub load_told : List ℕ → Told
load_told bytes = load_told_unless (fault_of bytes) bytes

abbrev pub loaded_unless : Option StateFault → List ℕ → CallerBoard → CallerBoard
loaded_unless (Some f) bytes b = b
loaded_unless None bytes b = sealed (board_in bytes)

abbrev pub loaded : List ℕ → CallerBoard → CallerBoard
loaded bytes b = loaded_unless (fault_of bytes) bytes b

-- why a move is refused
abbrev pub fault_code : MoveFault → ℕ
fault_code (OutOfRange ns) = OUT_OF_RANGE
fault_code (VersionsSpent cpu version) = VERSIONS_SPENT

-- what a move to a host with a rate in range answers, where that is its fault, and the state after it
abbrev pub moved_told_unless : Option MoveFault → BoardParts → ℕ → ℕ → ℕ → Told
moved_told_unless (Some f) s khz start gap = refused (fault_code f)
moved_told_unless None s khz start gap =
    taken (moved_to khz start gap s).accesses (now_of (moved_to khz start gap s)) no_value
    (run (now_of s) gap (devices_in s)).edges (gap_bursts gap s)

abbrev pub moved_told : BoardParts → ℕ → ℕ → ℕ → Told
moved_told s khz start gap = moved_told_unless (move_fault gap s) s khz start gap

abbrev pub state_moved_unless : Option MoveFault → BoardParts → ℕ → ℕ → ℕ → BoardParts
state_moved_unless (Some f) s khz start gap = s
state_moved_unless None s khz start gap = moved_to khz start gap s

abbrev pub state_after_move : BoardParts → ℕ → ℕ → ℕ → BoardParts
state_after_move s khz start gap = state_moved_unless (move_fault gap s) s khz start gap

-- what the call answers, and the board after it
abbrev pub move_told : CallerBoard → ℕ → ℕ → ℕ → Told
move_told b khz start gap =
    if whole_code b == OK then
    (if is_rate khz then moved_told b.state khz start gap else refused BAD_RATE)
    else refused (whole_code b)

abbrev pub board_after_move : CallerBoard → ℕ → ℕ → ℕ → CallerBoard
board_after_move b khz start gap =
    if whole_code b == OK && is_rate khz then
    record b { known = false; state = state_after_move b.state khz start gap }
    else b

-- what a reset of the PC answers, the lines that were up going down, and the board after it
unfoldable pub reset_by : BoardParts → Told
reset_by s =
    taken s.accesses (now_of s) no_value
    (changes (now_of s) line_numbers (levels (devices_in s)) (levels (devices_in (after_reset s)))) []

abbrev pub reset_told : CallerBoard → Told
reset_told b = if whole_code b == OK then reset_by b.state else refused (whole_code b)

abbrev pub board_after_reset : CallerBoard → CallerBoard
board_after_reset b =
    if whole_code b == OK then record b { known = false; state = after_reset b.state } else b

-- the code of an upgrade, and the board after it
abbrev pub upgrade_code : CallerBoard → ℕ → ℕ
upgrade_code b format =
    if whole_code b == OK then
    (if nat_le b.state.format format && nat_le format LAST_FORMAT then OK else BAD_FORMAT)
    else whole_code b

abbrev pub board_after_upgrade : CallerBoard → ℕ → CallerBoard
board_after_upgrade b format =
    if upgrade_code b format == OK then
    record b { known = false; state = upgraded_to format b.state }
    else b
