-- Rows of fields as code walks them.
use Rattle.std.specs.Prelude.{ℕ, ◌+◌, ◌==◌, nat_lt, nat_le, Bool, true, false, ◌&&◌, if◌then◌else◌, List, [], ◌∷◌}
use Rattle.std.specs.Prelude.{length, slice_index, Option, Some, None}
use Rattle.std.specs.Int.{w8, cast_unsigned}
use Rattle.clk_units.specs.declared.ranges.TheConstants.{RANGE_NS}
use Rattle.board_types.specs.declared.parts.ProcessorParts.{ProcessorParts}
use Rattle.host_counter.specs.Time.{time_at}
use Rattle.board_types.specs.Setup.{processors_of}
use Rattle.board_types.specs.declared.parts.TheConstants.{MOST_ACCESSES}
use Rattle.board_types.specs.declared.setup.TheConstants.{LAST_FORMAT, SLEW_MAX_NS}
use Rattle.board_core.specs.Conditions.{flags_valid}
use Rattle.byte_table.specs.Codes.{flag_valid}
use Rattle.save_state.specs.declared.front.Front.{Front}
use Rattle.save_state.specs.declared.table.Row.{Row}
use Rattle.save_state.specs.declared.fault.StateFault.{StateFault}
use Rattle.save_state.specs.declared.fault.StateKind.TheVariants.{Short, Magic, Version, Field}
use Rattle.save_state.specs.Fields.{magic, khz_valid, version_valid, published_valid}

-- a row as most are
abbrev pub field : ℕ → Bool → Row
field size valid = record { size = size; flag = false; valid = valid; kind = Field }

-- a row whose first byte is a flag
abbrev pub flag_field : ℕ → Bool → Row
flag_field size valid = record { size = size; flag = true; valid = valid; kind = Field }

-- whether the bytes of a row spell a value
abbrev pub spelled : Row → ℕ → List ℕ → Bool
spelled r place bytes = if r.flag then flag_valid place bytes else true

-- how many bytes rows take
abbrev pub rows_size : List Row → ℕ
rows_size [] = 0
rows_size (r ∷ rows) = r.size + rows_size rows

-- the first fault of the rows from a place on
unfoldable pub row_fault : List ℕ → ℕ → List Row → Option StateFault
row_fault bytes place [] = None
row_fault bytes place (r ∷ rows) =
    if nat_lt (length bytes) (place + r.size) then
    Some (record { place = length bytes; kind = Short })
    else if spelled r place bytes && r.valid then row_fault bytes (place + r.size) rows
    else Some (record { place = place; kind = r.kind })

-- the rows of what was read before the 8254
unfoldable pub front_rows : Front → List Row
front_rows f =
    record { size = 8; flag = false; valid = f.magic == magic; kind = Magic }
    ∷ record {
      size = 2;
      flag = false;
      valid = nat_le 1 f.format && nat_le f.format LAST_FORMAT;
      kind = Version;
    }
    ∷ field 2 (nat_le 1 f.cpus && nat_le f.cpus (processors_of f.format))
    ∷ field 8 (khz_valid f.anchor.khz) ∷ field 8 true ∷ field 8 (nat_lt f.anchor.base_ns RANGE_NS)
    ∷ field 8 (nat_le f.anchor.start f.host && nat_lt (time_at f.anchor f.host) RANGE_NS)
    ∷ field 8 (khz_valid f.guest_khz) ∷ field 8 (nat_le f.accesses MOST_ACCESSES) ∷ field 8 true
    ∷ field 8 (nat_le 1 f.slew_ns && nat_le f.slew_ns SLEW_MAX_NS)
    ∷ field 1 (nat_lt (slice_index f.policies 0) 3) ∷ field 1 (nat_lt (slice_index f.policies 1) 3)
    ∷ field 1 (nat_lt (slice_index f.policies 2) 3) ∷ []

-- the rows of a processor, by the guest's scale: its multiplier, and its shift as a byte
unfoldable pub processor_rows : ℕ → ℕ → ProcessorParts → List Row
processor_rows mul shift p =
    field 8 true ∷ field 8 true ∷ field 8 true
    ∷ field 4 (version_valid p.version ((p.offset == 0) && (p.adjust == 0) && (p.number == 0)))
    ∷ field 8 (published_valid p.version p.tsc_timestamp true)
    ∷ field 8 (published_valid p.version p.system_time (nat_lt p.system_time RANGE_NS))
    ∷ field 4 (published_valid p.version p.mul (p.mul == mul))
    ∷ field 1
    (published_valid p.version (cast_unsigned w8 p.shift) (cast_unsigned w8 p.shift == shift))
    ∷ field 1 (published_valid p.version p.flags (flags_valid p.flags))
    ∷ []
