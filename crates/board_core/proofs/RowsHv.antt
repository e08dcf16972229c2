-- Rows on the reference page of Hyper-V and on what a board without later formats holds.
use Rattle.std.proofs.Common.{◌≡◌, true, false, [], ◌∷◌, Some, None, map, refl}
use Rattle.host_counter.specs.declared.Anchor.{Anchor}
use Rattle.host_counter.specs.Time.{time_at}
use Rattle.tsc_scale.specs.Offset.{tsc_by}
use Rattle.hv_page.specs.declared.page.HvReply.TheVariants.{Off, On}
use Rattle.hv_page.specs.Scale.{tsc_scale}
use Rattle.hv_page.specs.Time.{units_of, reference_time}
use Rattle.board_types.specs.declared.access.Access.TheVariants.{MsrWrite, MsrRead}
use Rattle.board_types.specs.declared.parts.BoardParts.{BoardParts}
use Rattle.board_types.specs.declared.parts.HvParts.{HvParts}
use Rattle.board_types.specs.Setup.{setup_by_default}
use Rattle.board_core.specs.Tsc.{no_processor, msr_read}
use Rattle.board_core.specs.Hv.{no_hv, hv_in, hv_published, hv_written, hv_after, hv_published_at_host, hv_reply}
use Rattle.board_meters.specs.Published.{publishes_hv}
use Rattle.board_core.specs.Refusals.{meters_of}
use Rattle.board_meters.specs.Meters.{raised_in}
use Rattle.board_core.specs.PowerOn.{board_at_power_on}

abbrev plain : Anchor
plain = record { khz = 1000000; start = 0; base_ns = 0 }

-- a guest of 2 GHz
abbrev board : BoardParts
board = record (board_at_power_on (setup_by_default 1)) { guest_khz = 2000000; cpus = 2 }

-- enabled by processor 0 at 1000 ns, where its TSC is 2000: 9 units of 100 ns have gone by in it, and 10 on the board
abbrev on : HvParts
on = record { number = 1; version = 2; cpu = 0; scale = 92233720368547758; offset = 1; tsc_offset = 0 }

enabled-first : hv_published plain 2000000 1000 no_processor (hv_written 0 1 no_hv) ≡ on
unfolding hv_published time_at tsc_by tsc_scale units_of
enabled-first = refl

-- by another processor, whose TSC is ahead by 40: the offset is the writer's
enabled-second : hv_after plain 2000000 1 1000 (MsrWrite 0x40000021 0x5001) (no_processor ∷ record no_processor { offset = 40 } ∷ []) on
    ≡ record { number = 0x5001; version = 4; cpu = 1; scale = 92233720368547758; offset = 0; tsc_offset = 40 }
unfolding hv_after hv_published time_at tsc_by tsc_scale units_of
enabled-second = refl

-- a number without bit 0 takes the page away: the version rises all the same; a write to the counter does nothing, nor does one to the TSC
written : map (λ a. hv_after plain 2000000 1 1000 a [] on) (MsrWrite 0x40000021 0x5000 ∷ MsrWrite 0x40000020 7 ∷ MsrWrite 0x10 7 ∷ [])
    ≡ record { number = 0x5000; version = 4; cpu = 1; scale = 0; offset = 0; tsc_offset = 0 } ∷ on ∷ on ∷ []
unfolding hv_after hv_published
written = refl

-- only a write of the number publishes
publishes : map publishes_hv (MsrWrite 0x40000021 0 ∷ MsrWrite 0x40000020 0 ∷ MsrRead 0x40000021 ∷ []) ≡ true ∷ false ∷ false ∷ []
publishes = refl

-- at the greatest count of accesses, by the page's own processor, from format 4 on
published-at_host : (hv_published_at_host (record board { format = 4; host = 3000; hv = on })).hv ≡ record on { version = 4 }
unfolding hv_published_at_host hv_published time_at tsc_by tsc_scale units_of
published-at_host = refl

published-before : hv_published_at_host (record board { format = 3; host = 3000 }) ≡ record board { format = 3; host = 3000 }
unfolding hv_published_at_host
published-before = refl

-- what the MSRs read: the board's own time in units of 100 ns, whatever the count; the number
reads : msr_read (record board { host = 1999 }) 0 250 0x40000020 ∷ msr_read (record board { hv = on }) 1 0 0x40000021 ∷ [] ≡ 19 ∷ 1 ∷ []
unfolding time_at
reads = refl

-- a read of the page: 21000 ns are 210 units
page_replies : map (λ b. hv_reply b 21000) (record board { hv = on } ∷ board ∷ []) ≡ On (hv_in on) 210 ∷ Off ∷ []
unfolding hv_reply tsc_by units_of reference_time
page_replies = refl

-- the version that a write raises: the page's own, that of the wall clock, or none
raised : map (raised_in (meters_of (record board { wall_version = 4; hv = record no_hv { version = 6 } })) 0)
    (MsrWrite 0x40000021 0 ∷ MsrWrite 0x4b564d00 0 ∷ MsrWrite 0x40000020 0 ∷ [])
    ≡ Some 6 ∷ Some 4 ∷ None ∷ []
unfolding meters_of
raised = refl
