-- The lines of a header that set something up, by their names.
use Rattle.std.specs.Prelude.{ℕ, List, [], ◌∷◌, Result, codes}
use Rattle.board_types.specs.declared.setup.Setup.{Setup}
use Rattle.reply_text.specs.declared.ends.Reason.{Reason}
use Rattle.trace_text.specs.Rows.{Row, row}
use Rattle.trace_text.specs.Header.{
  host_row,
  guest_row,
  cpus_row,
  policy_row,
  slew_row,
  wall_row,
  rtc_row,
  setup_row,
  in_front,
  state_row,
  last_rows,
}
use Rattle.trace_text.specs.declared.header.Head.{Head}
use Rattle.trace_text.specs.declared.header.TheConstants.{
  HOST_ROW,
  GUEST_ROW,
  CPUS_ROW,
  POLICY_ROW,
  SLEW_ROW,
  WALL_ROW,
  RTC_ROW,
}
use Rattle.trace_text.specs.declared.setup_line.SetupLine.{SetupLine}
use Rattle.trace_text.specs.declared.setup_line.SetupLine.TheVariants.{
  Host,
  Guest,
  Cpus,
  Policy,
  Slew,
  Wall,
  Rtc,
}

-- its place in the order
abbrev pub number_of : SetupLine → ℕ
number_of Host = HOST_ROW
number_of Guest = GUEST_ROW
number_of Cpus = CPUS_ROW
number_of Policy = POLICY_ROW
number_of Slew = SLEW_ROW
number_of Wall = WALL_ROW
number_of Rtc = RTC_ROW

-- what it makes of a setup
abbrev pub meaning : Setup → SetupLine → List (List ℕ) → Result Setup Reason
meaning s Host = host_row s
meaning s Guest = guest_row s
meaning s Cpus = cpus_row s
meaning s Policy = policy_row s
meaning s Slew = slew_row s
meaning s Wall = wall_row s
meaning s Rtc = rtc_row s

-- and of a header, by the words after its name
abbrev pub set_by : Head → Setup → SetupLine → List (List ℕ) → Result Head Reason
set_by head s line = (setup_row [] (number_of line) head (meaning s line)).means

-- the lines that set nothing up
abbrev pub other_rows : Head → ℕ → List (Row Head)
other_rows head format =
    row (codes "state") (λ ws. in_front head (state_row head format ws)) ∷ last_rows head
