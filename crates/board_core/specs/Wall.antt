-- The words of the wall clock (Linux, msr.rst, "MSR_KVM_WALL_CLOCK_NEW").
use Rattle.std.specs.Prelude.{ℕ, ◌==◌, if◌then◌else◌}
use Rattle.board_types.specs.declared.access.Access.{Access}
use Rattle.board_types.specs.declared.access.Access.TheVariants.{MsrWrite}
use Rattle.board_types.specs.declared.access.TheConstants.{MSR_KVM_WALL_CLOCK}
use Rattle.board_types.specs.declared.parts.BoardParts.{BoardParts}
use Rattle.board_types.specs.declared.reply.Value.{Value}
use Rattle.board_types.specs.declared.reply.Value.TheVariants.{Wall}

-- the number that is kept, and the version after an access: up by 2 with each publishing
abbrev pub wall_number_after : Access → ℕ → ℕ
wall_number_after (MsrWrite msr v) number = if msr == MSR_KVM_WALL_CLOCK then v else number
wall_number_after _ number = number

-- the words: version, seconds and nanoseconds of the wall clock at power on, or 0 before the first
-- publishing
abbrev pub wall_words : BoardParts → Value
wall_words b =
    if b.wall_version == 0 then Wall 0 0 0 else Wall b.wall_version b.wall_sec b.wall_nsec
