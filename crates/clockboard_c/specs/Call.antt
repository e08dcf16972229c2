-- One access to a board that C holds: what it answers, and the board after it.
use Rattle.std.specs.Prelude.{
  ◌≡◌,
  ◌<◌,
  IsTrue,
  ℕ,
  ◌-◌,
  ◌==◌,
  ◌&&◌,
  ◌||◌,
  nat_lt,
  Bool,
  true,
  false,
  if◌then◌else◌,
  List,
  [],
  ◌∷◌,
  Option,
  Some,
  None,
}
use Rattle.irq_edges.specs.declared.edges.Edge.{Edge}
use Rattle.pit_readback.specs.Ports.{is_pit_port}
use Rattle.board_types.specs.declared.access.Access.{Access}
use Rattle.board_types.specs.declared.access.Access.TheVariants.{
  PortIn,
  PortOut,
  HpetWrite,
  Ack,
}
use Rattle.board_types.specs.declared.access.TickSource.{TickSource}
use Rattle.board_types.specs.declared.access.TickSource.TheVariants.{Pit, Rtc, Hpet, Apic}
use Rattle.board_types.specs.declared.parts.BoardParts.{BoardParts}
use Rattle.board_types.specs.declared.reply.Refusal.{Refusal}
use Rattle.board_types.specs.Legal.{is_legal}
use Rattle.board_core.specs.Time.{now_of}
use Rattle.board_core.specs.Access.{edges_of, reply_of, after_access}
use Rattle.board_meters.specs.Published.{publishes_hv}
use Rattle.board_meters.specs.Published.{published_by}
use Rattle.board_core.specs.Refusals.{refusal_of}
use Rattle.clockboard_c.specs.Kept.{CallerBoard, LaggingBoard, seen}
use Rattle.clockboard_c.specs.declared.board.TheConstants.{SEAL}
use Rattle.clockboard_c.specs.declared.code.TheConstants.{
  NO_BOARD,
  NO_PROCESSOR,
  NOT_OURS,
  SHARED,
  NOT_SHARED,
}
use Rattle.clockboard_c.specs.Codes.{code_of}
use Rattle.clockboard_c.specs.declared.reply.ReplyWords.{ReplyWords}
use Rattle.clockboard_c.specs.Replies.{Told, IsReply, refused, told_of}

-- a board that a call has made
abbrev pub sealed : BoardParts → CallerBoard
sealed state = record { seal = SEAL; shared = false; known = false; state = state }

-- whether a page of a processor is published
abbrev pub is_page : Option ℕ → Bool
is_page (Some page) = true
is_page None = false

-- an access that publishes a page which threads share: a processor's, or Hyper-V's
abbrev pub publishes : ℕ → Access → Bool
publishes cpu a = is_page (published_by cpu a) || publishes_hv a

-- why a board that has been made takes no such access
abbrev pub access_code : BoardParts → ℕ → Access → Option ℕ
access_code s cpu a =
    if nat_lt cpu s.cpus then (if is_legal s.cpus s.format a then None else Some NOT_OURS)
    else Some NO_PROCESSOR

-- why an access isn't handed to the board, the causes in this order: the memory isn't sealed; the
-- access publishes a page that threads share; the board has no such processor; it takes no such access
abbrev pub early_code : CallerBoard → ℕ → Access → Option ℕ
early_code b cpu a =
    if b.seal == SEAL then
    (if b.shared && publishes cpu a then Some SHARED else access_code b.state cpu a)
    else Some NO_BOARD

-- .. and where the caller puts that page's words for the threads
abbrev pub shared_code : CallerBoard → ℕ → Access → Option ℕ
shared_code b cpu a =
    if b.seal == SEAL then (if b.shared then access_code b.state cpu a else Some NOT_SHARED)
    else Some NO_BOARD

-- what the board answers to an access that it is handed, where that is why it refuses it
abbrev pub told_unless : Option Refusal → BoardParts → ℕ → ℕ → Access → Told
told_unless (Some refusal) s cpu h a = refused (code_of refusal)
told_unless None s cpu h a = told_of (reply_of s cpu h a) (now_of (after_access s cpu h a))

abbrev pub told_by : BoardParts → ℕ → ℕ → Access → Told
told_by s cpu h a = told_unless (refusal_of s cpu h a) s cpu h a

-- and what it is then
abbrev pub state_unless : Option Refusal → BoardParts → ℕ → ℕ → Access → BoardParts
state_unless (Some refusal) s cpu h a = s
state_unless None s cpu h a = after_access s cpu h a

abbrev pub state_after : BoardParts → ℕ → ℕ → Access → BoardParts
state_after s cpu h a = state_unless (refusal_of s cpu h a) s cpu h a

-- what a call of an access answers: a code, or what the board answers
abbrev pub told_or : Option ℕ → BoardParts → ℕ → ℕ → Access → Told
told_or (Some code) s cpu h a = refused code
told_or None s cpu h a = told_by s cpu h a

abbrev pub told : CallerBoard → ℕ → ℕ → Access → Told
told b cpu h a = told_or (early_code b cpu a) b.state cpu h a

abbrev pub shared_told : CallerBoard → ℕ → ℕ → Access → Told
shared_told b cpu h a = told_or (shared_code b cpu a) b.state cpu h a

-- an access after which the lines go on as they would without it: it asks the devices to do nothing, or
-- only reads the HPET or the 8254
abbrev pub leaves_lines : Access → Bool
leaves_lines (PortIn port) = is_pit_port port
leaves_lines (PortOut port byte) = false
leaves_lines (HpetWrite offset width value) = false
leaves_lines (Ack line) = false
leaves_lines _ = true

abbrev pub is_none : List Edge → Bool
is_none [] = true
is_none (e ∷ es) = false

-- whether a next edge that was kept stays: the access leaves the lines to go on as they would, and none
-- changed; or it is refused
abbrev pub keeps_unless : Option Refusal → BoardParts → ℕ → Access → Bool
keeps_unless (Some refusal) s h a = true
keeps_unless None s h a = leaves_lines a && is_none (edges_of s h a)

abbrev pub keeps_next : BoardParts → ℕ → ℕ → Access → Bool
keeps_next s cpu h a = keeps_unless (refusal_of s cpu h a) s h a

-- the board after it: as it was, or as the access leaves it
abbrev pub answered : CallerBoard → ℕ → ℕ → Access → CallerBoard
answered b cpu h a = record b {
  known = b.known && keeps_next b.state cpu h a;
  state = state_after b.state cpu h a;
}

abbrev pub board_unless : Option ℕ → CallerBoard → ℕ → ℕ → Access → CallerBoard
board_unless (Some code) b cpu h a = b
board_unless None b cpu h a = answered b cpu h a

abbrev pub board_after_call : CallerBoard → ℕ → ℕ → Access → CallerBoard
board_after_call b cpu h a = board_unless (early_code b cpu a) b cpu h a

abbrev pub shared_after : CallerBoard → ℕ → ℕ → Access → CallerBoard
shared_after b cpu h a = board_unless (shared_code b cpu a) b cpu h a

-- the board takes such an access of such a processor
pub record IsTaken (s : BoardParts) (cpu : ℕ) (a : Access) : Type 0 where
  pub there : cpu < s.cpus
  pub legal : IsTrue (is_legal s.cpus s.format a)

-- what the board makes of an access that it is handed: the reply, and the board
pub record HasAnswered (b b' : LaggingBoard) (r r' : ReplyWords) (cpu h : ℕ) (a : Access) : Type 0
  where
    pub reply : IsReply r r' (told_by (seen b).state cpu h a)
    pub board : seen b' ≡ answered (seen b) cpu h a

-- what a call of an access makes of the reply and of the board
pub record IsCalled (b b' : LaggingBoard) (r r' : ReplyWords) (cpu h : ℕ) (a : Access) : Type 0 where
  pub reply : IsReply r r' (told (seen b) cpu h a)
  pub board : seen b' ≡ board_after_call (seen b) cpu h a

-- .. and where the caller puts the page's words for the threads
pub record IsSharedCall (b b' : LaggingBoard) (r r' : ReplyWords) (cpu h : ℕ) (a : Access) : Type 0
  where
    pub reply : IsReply r r' (shared_told (seen b) cpu h a)
    pub board : seen b' ≡ shared_after (seen b) cpu h a

-- the source of ticks of a number: the 8254, the MC146818, from 2 on the timers of the HPET, and from
-- 16 on those of the processors' local APICs
abbrev pub source_of : ℕ → TickSource
source_of n =
    if n == 0 then Pit
    else (if n == 1 then Rtc
    else (if nat_lt n 16 then Hpet (n - 2) else Apic (n - 16)))
