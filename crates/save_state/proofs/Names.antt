-- The names that the proofs of this crate cite, passed on from one place.
pub use Rattle.std.proofs.Common.{◌≡◌, ℕ, ◌+◌, ◌-◌, ◌<◌, ◌≤◌, ltb, List, ◌++◌, length, map, get_or, replicate, inl, inr, refl, ap, sym, subst, ◌∙◌, arith, ℤ}
pub use Rattle.std.proofs.Common.{pos, negsuc, ◌*◌, ◌%◌, Bool, true, false, cond, ◌&&◌, eqb, ◌||◌, [], ◌∷◌, Option, None, Some, leb, ◌^◌, drop, zero, suc, not}
pub use Rattle.std.proofs.lemmas.Bool.{le-ltb, ltb-false, cases_lt, lt-ltb, eq-eqb, le-leb, leb-true, eqb-true, and_from, and_parts, cond-true, or_right}
pub use mathlib.Core.Bool.{beq}
pub use Rattle.std.proofs.lemmas.Bool.{lt-leb, cond-false, ne_eqb, or_cases, ltb-true, false≢true}
pub use Rattle.std.proofs.lemmas.List.{length-map, append-nil, take_all, drop_all, get_or-drop, drop_more, append_assoc}
pub use Rattle.pit_counter.specs.Parts.{IsCounter, read_order_valid, latched_count_valid, latched_status_valid}
pub use Rattle.rtc_registers.specs.Parts.{index_valid, bytes_valid, divider_valid, cycle_valid, IsRtc}
pub use Rattle.rtc_registers.specs.Registers.{pf_of, register_a, register_c, register_d, af_of, uf_of, flags_byte, divider_of}
pub use Rattle.hpet_comparator.specs.Parts.{IsTimer, config_valid, comparator_valid, period_valid}
pub use Rattle.hpet_registers.specs.Parts.{no_timer, timer_at, message_bit_at, message_word_at, IsPlace, IsHpet}
pub use Rattle.tick_policy.specs.Parts.{IsTickLine, queue_valid, lost_valid, policy_byte, policy_of}
pub use Rattle.tick_policy.specs.declared.parts.Policy.TheVariants.{Discard, Delay, Slew}
pub use Rattle.lapic_timer.specs.Parts.{IsApicTimer, lvt_valid, divide_valid, initial_valid, current_valid, phase_valid, deadline_valid}
pub use Rattle.board_types.specs.declared.setup.TheConstants.{HV_FORMAT, LAST_FORMAT, SLEW_MAX_NS, MESSAGE_FORMAT}
pub use Rattle.board_core.specs.Conditions.{AreApics, IsBoard, IsProcessor, flags_valid as page_flags_valid, IsHv, IsWall, AreProcessors, AreRises}
pub use Rattle.byte_table.specs.Codes.{number, byte_at, byte, flag_valid, flag_at}
pub use Rattle.std.specs.Option.{option_or}
pub use Rattle.std.specs.Result.{result_err}
pub use Rattle.std.specs.List.{zip}
pub use Rattle.byte_table.specs.Fold.{moved, read_below, size_of, fault_in, write, write_below, Field, fault_below, read}
pub use Rattle.byte_table.proofs.CodeLaws.{number-written, byte-written, signed_byte-written, IsWritten, flag-written, flags-written, both-written, rows-written}
pub use Rattle.byte_table.proofs.CodeLaws.{choice-written, number_at-is, length-number, row_spelled-each, IsCode, choice-code, word-written, all-written}
pub use Rattle.byte_table.proofs.FoldLaws.{◌⨾◌, AllHere, all_here-append, AreBytes, rewritten, option_or-none, option_or-both}
pub use Rattle.byte_table.proofs.FoldLaws.{option_or-end, option_or-assoc, fault_in-append, size_of-append, fault-parts, next, AllKeep, length-write, read-write, fault-write}
pub use Rattle.byte_table.proofs.FoldLaws.{rewrite_in-keep, AllSpelled, next-write, here-joined, written-then, write_append}
pub use Rattle.byte_table.proofs.KindLaws.{plain-here, blocks-here, blocks-none, elsewhere-here, AreBlocks, blocks-spelled, spells}
pub use Rattle.byte_table.proofs.Loops.{faults-some, drop-blank, read_below-at, read_below-after, length-read_below, row_value-after, length-row_value}
pub use Rattle.byte_table.proofs.Loops.{FaultsFrom, faults-none, IsFilled, filled-none, filled-more, row-filled, read-filled, AreWritten, written-one, row-more}
pub use Rattle.byte_table.proofs.Pairs.{pairs-at, length-pairs, pairs-halves, firsts-pairs, seconds-pairs, part-filled}
pub use Rattle.save_state.proofs.Formats.{apics_few, processors_few, timers_least, references_few, timers_few, messages_few, references-none, references-one}
pub use Rattle.save_state.proofs.Formats.{counts_few, apic-size, timer-size, line-size, processor-size, message-size, counter-size, published-is, version-is}
pub use Rattle.save_state.proofs.Formats.{some-or, all-six, levels-at}
pub use Rattle.save_state.specs.Fields.{any, Apic, apic, no_apic, apic_pairs, version_valid, processor, published_valid, Fields, front, counts_of}
pub use Rattle.save_state.specs.Fields.{references_of, messages_of, devices, back, fields_of, policy, policy_place, up_allowed, ticks_of}
pub use Rattle.save_state.specs.Fields.{no_message, magic, fault_at, Message, khz_valid, host_valid, scale_for, no_counter, message_pairs}
pub use Rattle.save_state.specs.Rises.{legacy_rises_valid, routed_rises_valid, rise_valid}
pub use Rattle.save_state.specs.declared.fault.StateKind.TheVariants.{Trailing, Short, Magic, Version, Field as Invalid}
pub use Rattle.save_state.specs.private.Fits.{ApicTimerFits, ApicsFit, ProcessorFits, CounterFits, TimerFits, LineFits, BoardFits, ReferenceFits, ApicFits}
pub use Rattle.byte_table.proofs.Cursors.{AreRead, read-none, read-one, past-past, ArePassed, passed-one, passed-some, passes-same}
pub use Rattle.byte_table.specs.Reading.{IsPast, Passes}
pub use Rattle.save_state.specs.private.Rows.{flag_field, spelled, rows_size}
pub use Rattle.save_state.specs.private.Front.{front_of}
pub use Rattle.save_state.proofs.Formats.{sizes, takes, timers-take, lines-take, rises-take, processors-take, apics-take, references-take, messages-take}
pub use Rattle.{std.proofs.Common.◌⊎◌, std.proofs.Common.rules, std.proofs.lemmas.Int.of_z-to_z, std.proofs.lemmas.Result.on_ok_weaker, std.specs.Int.w8}
pub use Rattle.{std.specs.Int.cast_signed, std.specs.Int.cast_unsigned, clk_units.specs.Ranges.IsKhz, clk_units.specs.declared.ranges.TheConstants.RANGE_NS}
pub use Rattle.{host_counter.specs.declared.Anchor.Anchor, pit_counter.specs.declared.parts.CounterParts.CounterParts, pit_readback.specs.Parts.IsPit}
pub use Rattle.{rtc_cycle.specs.Parts.IsDivider, rtc_registers.specs.declared.parts.RtcParts.RtcParts}
pub use Rattle.{hpet_comparator.specs.declared.parts.TimerParts.TimerParts, tick_policy.specs.declared.parts.Policy.Policy}
pub use Rattle.{tick_policy.specs.declared.parts.TickParts.TickParts, lapic_timer.specs.declared.parts.ApicParts.ApicParts, local_apics.specs.Parts.IsPlaceOf}
pub use Rattle.{pvclock_page.specs.Scale.mul_for, board_types.specs.Setup.timers_of, board_types.specs.Setup.has_messages}
pub use Rattle.{board_types.specs.Setup.processors_of, board_types.specs.declared.parts.BoardParts.BoardParts, board_types.specs.declared.parts.HvParts.HvParts}
pub use Rattle.{board_types.specs.declared.parts.ProcessorParts.ProcessorParts, board_types.specs.declared.parts.TheConstants.MOST_ACCESSES}
pub use Rattle.{board_devices.specs.Nanosecond.counts_rtc, board_devices.specs.Parts.AreDevices, board_devices.specs.Parts.IsTimerLine}
pub use Rattle.{board_devices.specs.Places.no_line, board_devices.specs.Places.line_at, board_devices.specs.Rises.one_if}
pub use Rattle.{board_core.proofs.Joined.IsProcessor-none, board_core.proofs.Joined.IsHv-none, board_core.specs.Apics.apics_of, board_core.specs.Apics.apics_in}
pub use Rattle.{board_core.specs.Hv.no_hv, board_core.specs.Time.now_of, board_core.specs.Time.devices_in, board_core.specs.Tsc.no_processor}
pub use Rattle.{board_core.specs.Tsc.processor_at, byte_table.proofs.KindLaws.one_fault, byte_table.proofs.CodeLaws.row_bytes-byte}
pub use Rattle.{byte_table.proofs.Little.number-below, save_state.specs.Places.format_in, save_state.specs.Places.cpus_in, save_state.specs.Reading.blank}
pub use Rattle.{save_state.specs.Reading.fields_in, save_state.specs.Table.trailing, save_state.specs.declared.fault.StateFault.StateFault}
pub use Rattle.{save_state.specs.declared.table.Row.Row, save_state.specs.private.Parts.IsHead, save_state.specs.private.Rows.field}
unfoldable pub use Rattle.pit_counter.specs.Parts.{bits_valid, flags_valid, cr_valid, ce_valid, part_valid}
unfoldable pub use Rattle.save_state.specs.Fields.{apic_timer, apic_line, apics, tsc, page, counters, clock, registers, timer, timers, line, lines, rises, wall}
unfoldable pub use Rattle.save_state.specs.Fields.{processors, reference, references, message, messages, counter, head, host, guest, policies}
unfoldable pub use Rattle.{host_counter.specs.Time.time_at, lapic_timer.specs.Parts.divisor, pvclock_page.specs.Scale.shift_for}
unfoldable pub use Rattle.{board_devices.specs.Lines.levels, byte_table.specs.Kinds.plain, byte_table.specs.Kinds.blocks, byte_table.specs.Kinds.elsewhere}
unfoldable pub use Rattle.{byte_table.specs.Codes.rows, save_state.specs.Reading.board_in, save_state.specs.Table.fault_of, save_state.specs.Writing.bytes_of}
unfoldable pub use Rattle.byte_table.specs.Codes.{number_bytes, number_at, row_bytes, row_value}
unfoldable pub use Rattle.save_state.{specs.private.Rows.front_rows, specs.private.Rows.row_fault, specs.private.Rows.processor_rows, proofs.Formats.lists, proofs.Formats.layout, proofs.Formats.block_lists}
