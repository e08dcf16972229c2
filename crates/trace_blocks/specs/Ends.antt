-- What ends a phase of a trace, a save or a move: whether it is refused, what it leaves and what it prints.
use Rattle.std.specs.Prelude.{ℕ, ◌<◌, List, [], ◌++◌, Option, None}
use Rattle.clk_units.specs.Ranges.{IsKhz}
use Rattle.board_types.specs.declared.access.Access.TheVariants.{Step}
use Rattle.board_types.specs.declared.parts.BoardParts.{BoardParts}
use Rattle.board_types.specs.declared.reply.Reply.{Reply}
use Rattle.board_meters.specs.declared.meters.Meters.{Meters}
use Rattle.board_meters.specs.Meters.{counted, moved_in}
use Rattle.board_devices.specs.Run.{run}
use Rattle.board_core.specs.Access.{after_access, reply_of}
use Rattle.board_core.specs.Time.{devices_in, now_of}
use Rattle.reply_text.specs.Text.{save_text, move_text}
use Rattle.reply_text.specs.declared.ends.Refused.{Refused}
use Rattle.save_state.specs.Writing.{bytes_of}
use Rattle.transfer.specs.Move.{gap_bursts, moved_to}
use Rattle.trace_blocks.specs.Blocks.{edges_text, messages_text}
use Rattle.trace_blocks.specs.Refusals.{save_refusal, move_refusal}
use Rattle.trace_blocks.specs.declared.deliveries.Deliveries.{Deliveries}
use Rattle.trace_blocks.specs.declared.ends.End.{End}
use Rattle.trace_blocks.specs.declared.ends.End.TheVariants.{Finish, Save, Move}
use Rattle.trace_blocks.specs.declared.ends.NewHost.{NewHost}

-- a board of this many processors takes what ends a phase
abbrev pub IsEnd : ℕ → End → Type 0
IsEnd cpus Finish = Unit {0}
IsEnd cpus (Save line cpu h) = cpu < cpus
IsEnd cpus (Move line cpu h host) = (cpu < cpus) × IsKhz host.khz

-- the board with which the next phase opens: that after a save's access, or the moved one
abbrev pub next_board : End → BoardParts → BoardParts
next_board Finish b = b
next_board (Save line cpu h) b = after_access b cpu h Step
next_board (Move line cpu h host) b = moved_to host.khz host.start host.gap (after_access b cpu h Step)

-- .. and its meters
abbrev pub next_meters : End → Meters → Meters
next_meters Finish m = m
next_meters (Save line cpu h) m = counted cpu h Step m
next_meters (Move line cpu h host) m =
    moved_in host.khz host.start host.gap (counted cpu h Step m)

-- why what ends a phase is refused
abbrev pub end_refusal : Meters → End → Option Refused
end_refusal m Finish = None
end_refusal m (Save line cpu h) = save_refusal m cpu h
end_refusal m (Move line cpu h host) = move_refusal m cpu h host.gap

-- the block of a save: the edges and the messages of its access, and the state after it
abbrev pub save_block : Deliveries → ℕ → Reply → BoardParts → List ℕ
save_block ds line reply b =
    edges_text ds reply.edges ++ messages_text ds reply.bursts
    ++ save_text line reply.number (bytes_of b)

-- the block of a move: the edges of its access and those of the gap, likewise the messages, and the
-- time after it
abbrev pub move_block : Deliveries → ℕ → NewHost → Reply → BoardParts → List ℕ
move_block ds line host reply b =
    edges_text ds reply.edges
    ++ edges_text ds (run (now_of b) host.gap (devices_in b)).edges
    ++ messages_text ds reply.bursts ++ messages_text ds (gap_bursts host.gap b)
    ++ move_text line reply.number (now_of (moved_to host.khz host.start host.gap b))

-- what the end of a phase prints
abbrev pub end_text : Deliveries → End → BoardParts → List ℕ
end_text ds Finish b = []
end_text ds (Save line cpu h) b = save_block ds line (reply_of b cpu h Step) (after_access b cpu h Step)
end_text ds (Move line cpu h host) b =
    move_block ds line host (reply_of b cpu h Step) (after_access b cpu h Step)
