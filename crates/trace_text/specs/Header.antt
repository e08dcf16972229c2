-- The header: what a trace is set up with.
use Rattle.std.specs.Prelude.{
  ℕ,
  ◌+◌,
  ◌==◌,
  nat_lt,
  nat_le,
  ◌&&◌,
  List,
  [],
  ◌∷◌,
  ◌++◌,
  Option,
  Some,
  None,
  Result,
  Ok,
  Err,
  if◌then◌else◌,
  codes,
  slice_set,
  replicate,
  ◌≡◌,
  ◌<◌,
  ◌≤◌,
  All,
}
use Rattle.board_core.specs.PowerOn.{board_at_power_on}
use Rattle.board_types.specs.Setup.{IsSetup, processors_of, setup_by_default}
use Rattle.board_types.specs.declared.setup.Setup.{Setup}
use Rattle.board_types.specs.declared.setup.TheConstants.{LAST_FORMAT}
use Rattle.edge_hooks.specs.declared.deliveries.Delivery.{Delivery}
use Rattle.irq_edges.specs.Lines.{is_line, place_of_line}
use Rattle.tick_policy.specs.declared.parts.Policy.{Policy}
use Rattle.tick_policy.specs.declared.parts.Policy.TheVariants.{Discard, Delay, Slew}
use Rattle.trace_text.specs.Tokens.{dec, byte, khz, dec_within, starts, such_that}
use Rattle.trace_text.specs.State.{hexes, restored}
use Rattle.board_types.specs.declared.parts.BoardParts.{BoardParts}
use Rattle.trace_text.specs.Rows.{and_then, place, last, Row, row, by_table}
use Rattle.reply_text.specs.declared.ends.Reason.{Reason}
use Rattle.reply_text.specs.declared.ends.Reason.TheVariants.{Form, Cpu}
use Rattle.trace_text.specs.declared.header.TheConstants.{
  FORMAT_ROW,
  HOST_ROW,
  GUEST_ROW,
  CPUS_ROW,
  POLICY_ROW,
  SLEW_ROW,
  WALL_ROW,
  RTC_ROW,
  STATE_ROW,
  ROUTE_ROW,
}
use Rattle.trace_text.specs.declared.header.Head.{Head}
use Rattle.trace_text.specs.declared.header.Header.{Header}
use Rattle.trace_text.specs.declared.header.Begin.{Begin}
use Rattle.trace_text.specs.declared.header.Begin.TheVariants.{Fresh, Saved}
use Rattle.trace_text.specs.declared.records.Body.{Body}

-- after the first line
abbrev pub head_of : ℕ → Head
head_of format = record {
  row = FORMAT_ROW;
  begin = Fresh (setup_by_default format);
  next_line = 0;
  routes = replicate 6 None;
}

-- `clockboard FORMAT`
abbrev pub first_line : List (List ℕ) → Result Head Reason
first_line =
    by_table (row (codes "clockboard")
    (place (dec_within 1 LAST_FORMAT) (λ format. last (Ok (head_of format)))) ∷ [])

-- `discard`, `delay`, `slew`
abbrev pub policy : List (List ℕ) → Option Policy
policy ws =
    if starts (codes "discard") ws then Some Discard
    else if starts (codes "delay") ws then Some Delay
    else if starts (codes "slew") ws then Some Slew
    else None

-- `host KHZ START`
abbrev pub host_row : Setup → List (List ℕ) → Result Setup Reason
host_row s =
    place khz (λ k. place dec (λ start.
    last (Ok (record s { anchor = record { khz = k; start = start; base_ns = 0 } }))))

-- `guest KHZ`
abbrev pub guest_row : Setup → List (List ℕ) → Result Setup Reason
guest_row s = place khz (λ k. last (Ok (record s { guest_khz = k })))

-- `cpus N`
abbrev pub cpus_row : Setup → List (List ℕ) → Result Setup Reason
cpus_row s =
    place (dec_within 1 (processors_of s.format)) (λ n. last (Ok (record s { cpus = n })))

-- `policy P Q R`: of the 8254, the RTC, the HPET
abbrev pub policy_row : Setup → List (List ℕ) → Result Setup Reason
policy_row s =
    place policy (λ p. place policy (λ q. place policy (λ r.
    last (Ok (record s { pit = p; rtc = q; hpet = r })))))

-- `slew NS`
abbrev pub slew_row : Setup → List (List ℕ) → Result Setup Reason
slew_row s = place (dec_within 1 1000000000) (λ ns. last (Ok (record s { slew_ns = ns })))

-- `wall SEC NSEC`
abbrev pub wall_row : Setup → List (List ℕ) → Result Setup Reason
wall_row s =
    place (dec_within 0 4294967295) (λ sec. place (dec_within 0 999999999) (λ nsec.
    last (Ok (record s { wall_sec = sec; wall_nsec = nsec }))))

-- `rtc S M H W D O Y`
abbrev pub rtc_row : Setup → List (List ℕ) → Result Setup Reason
rtc_row s =
    place byte (λ sec. place byte (λ m. place byte (λ h. place byte (λ w.
    place byte (λ d. place byte (λ o. place byte (λ y. last (Ok (record s {
      time = record { sec = sec; min = m; hour = h; wday = w; date = d; month = o; year = y };
    })))))))))

-- a line that sets something up comes after those of smaller numbers
abbrev pub setup_row : List ℕ → ℕ → Head → (List (List ℕ) → Result Setup Reason) → Row Head
setup_row name number head means =
    row name (λ ws.
    if nat_lt head.row number then
    and_then (λ s. Ok (record head { row = number; begin = Fresh s })) (means ws)
    else Err Form)

-- the board with which a trace begins
abbrev pub board_of : Begin → BoardParts
board_of (Fresh setup) = board_at_power_on setup
board_of (Saved board) = board

-- a line stands in front of all others
abbrev pub in_front : Head → Result Head Reason → Result Head Reason
in_front head answer = if head.row == FORMAT_ROW then answer else Err Form

-- `state HEXES`: a saved board in place of a setup
abbrev pub state_row : Head → ℕ → List (List ℕ) → Result Head Reason
state_row head format =
    place hexes (λ bytes.
    last (and_then (λ b. Ok (record head { row = STATE_ROW; begin = Saved b })) (restored format bytes)))

-- a line's route goes to a processor that is there
abbrev pub routed : Head → ℕ → ℕ → ℕ → Result Head Reason
routed head line cpu vector =
    if nat_lt cpu (board_of head.begin).cpus then
    Ok (record head {
      row = ROUTE_ROW;
      next_line = line + 1;
      routes =
          slice_set head.routes (place_of_line line) (Some (record { cpu = cpu; vector = vector }));
    })
    else Err Cpu

-- `route LINE CPU VECTOR`: lines rising, vectors from 10h on
abbrev pub route_row : Head → List (List ℕ) → Result Head Reason
route_row head =
    place (λ ws. such_that (λ n. is_line n && nat_le head.next_line n) (dec ws)) (λ line.
    place dec (λ cpu.
    place (λ ws. such_that (λ n. nat_le 0x10 n) (byte ws)) (λ vector.
    last (routed head line cpu vector))))

-- the table of header lines, in their order
abbrev pub last_rows : Head → List (Row Head)
last_rows head = row (codes "route") (route_row head) ∷ []

-- `host` to `policy`
abbrev pub first_rows : Head → Setup → List (Row Head)
first_rows head s =
    setup_row (codes "host") HOST_ROW head (host_row s)
    ∷ setup_row (codes "guest") GUEST_ROW head (guest_row s)
    ∷ setup_row (codes "cpus") CPUS_ROW head (cpus_row s)
    ∷ setup_row (codes "policy") POLICY_ROW head (policy_row s)
    ∷ []

-- `slew` to `route`
abbrev pub later_rows : Head → Setup → List (Row Head)
later_rows head s =
    setup_row (codes "slew") SLEW_ROW head (slew_row s)
    ∷ setup_row (codes "wall") WALL_ROW head (wall_row s)
    ∷ setup_row (codes "rtc") RTC_ROW head (rtc_row s)
    ∷ row (codes "state") (λ ws. in_front head (state_row head s.format ws))
    ∷ last_rows head

-- after a saved state routes alone may stand
abbrev pub rows_of : Head → Begin → List (Row Head)
rows_of head (Fresh s) = first_rows head s ++ later_rows head s
rows_of head (Saved b) = last_rows head

-- a line of the header after the first, by its words
unfoldable pub header_line : Head → List (List ℕ) → Result Head Reason
header_line head = by_table (rows_of head head.begin)

-- what `begin` begins
abbrev pub header_of : Head → Header
header_of head = record { begin = head.begin; routes = head.routes }

-- and what is known after it: each processor's counter before is the anchor's start
abbrev pub body_of : Head → Body
body_of head =
    let b : BoardParts = board_of head.begin in
    record { format = b.format; cpus = b.cpus; before = replicate 64 b.anchor.start }

-- a delivery goes to a processor that is there, with a vector from 10h on
abbrev pub IsRoute : ℕ → Option Delivery → Type 0
IsRoute cpus None = Unit {0}
IsRoute cpus (Some to) = (to.cpu < cpus) × (16 ≤ to.vector)

-- what is known of what a trace begins with
abbrev pub IsStart : Begin → Type 0
IsStart (Fresh s) = IsSetup s
IsStart (Saved b) = b.cpus ≤ 64

-- and of its routes
pub record IsBegin (b : Begin) (to : List (Option Delivery)) : Type 0 where
  pub start : IsStart b
  pub routes : All (IsRoute (board_of b).cpus) to

-- and before `begin`: no line is routed before the first route
pub record IsHead (h : Head) : Type 0 where
  pub begin : IsBegin h.begin h.routes
  pub quiet : h.row < ROUTE_ROW → h.routes ≡ replicate 6 None
