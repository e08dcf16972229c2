-- Kinds of accesses: what each leaves as it is.
use Rattle.std.proofs.Common.{◌≡◌, ℕ, ◌+◌, true, false, ◌<◌, ◌≤◌, List, [], ◌++◌, refl, ap, sym, subst, ◌∙◌, arith, None}
use Rattle.std.proofs.lemmas.Bool.{false≢true}
use Rattle.irq_edges.specs.declared.edges.Edge.{Edge}
use Rattle.irq_edges.specs.Lines.{line_numbers, level_of}
use Rattle.irq_edges.proofs.EdgesOf.{changes-same}
use Rattle.host_counter.specs.declared.Anchor.{Anchor}
use Rattle.board_types.specs.declared.access.Access.{Access}
use Rattle.board_types.specs.declared.access.Access.TheVariants.{
  PortIn,
  PortOut,
  HpetRead,
  HpetWrite,
  MsrWrite,
  Ack,
  Refresh,
  Eoi,
}
use Rattle.board_types.specs.declared.parts.BoardParts.{BoardParts}
use Rattle.board_types.specs.declared.parts.ProcessorParts.{ProcessorParts}
use Rattle.board_types.specs.declared.parts.HvParts.{HvParts}
use Rattle.board_core.specs.Hv.{hv_after}
use Rattle.local_apics.specs.declared.parts.ApicsParts.{ApicsParts}
use Rattle.board_core.specs.Apics.{apics_acted}
use Rattle.board_types.specs.declared.reply.Value.TheVariants.{Nothing}
use Rattle.board_devices.specs.declared.act.Act.TheVariants.{Nothing as NoAct}
use Rattle.board_devices.specs.declared.parts.DeviceParts.{DeviceParts}
use Rattle.board_devices.specs.Act.{acted, first_part, act_edges, value_of}
use Rattle.board_devices.specs.Lines.{levels}
use Rattle.board_devices.specs.Places.{line_at}
use Rattle.board_devices.specs.Rises.{lifts, one_if}
use Rattle.board_core.specs.Time.{devices_in, now_of}
use Rattle.board_core.specs.Pages.{processors_after}
use Rattle.board_core.specs.Wall.{wall_number_after}
use Rattle.board_meters.specs.Published.{wall_version_after}
use Rattle.board_core.specs.Rises.{rises_after}
use Rattle.board_core.specs.Access.{act_of, own_edges, value_at}
use Rattle.board_meters.specs.declared.meters.Meters.{Meters}
use Rattle.board_meters.specs.Meters.{raised_in}
use Rattle.board_core.specs.private.Kinds.{touches, writes}
use Rattle.board_core.specs.private.Values.{told, value_with}
use Rattle.board_core.proofs.Counted.{rises_after-none}

-- no access is of two kinds
pub touches-quiet : (a : Access) → touches a ≡ true → writes a ≡ false
touches-quiet (MsrWrite msr v) e = absurd (false≢true e)
touches-quiet (Refresh page) e = absurd (false≢true e)
touches-quiet Eoi e = absurd (false≢true e)
touches-quiet _ e = refl

pub writes-untouched : (a : Access) → writes a ≡ true → touches a ≡ false
writes-untouched (PortIn port) e = absurd (false≢true e)
writes-untouched (PortOut port byte) e = absurd (false≢true e)
writes-untouched (HpetRead offset width) e = absurd (false≢true e)
writes-untouched (HpetWrite offset width v) e = absurd (false≢true e)
writes-untouched (Ack line) e = absurd (false≢true e)
writes-untouched _ e = refl

-- what touches no device
none-asked : (a : Access) → touches a ≡ false → act_of a ≡ NoAct
none-asked (PortIn port) e = absurd (false≢true (sym e))
none-asked (PortOut port byte) e = absurd (false≢true (sym e))
none-asked (HpetRead offset width) e = absurd (false≢true (sym e))
none-asked (HpetWrite offset width v) e = absurd (false≢true (sym e))
none-asked (Ack line) e = absurd (false≢true (sym e))
none-asked _ e = refl

acted-none : (d : DeviceParts) → acted NoAct d ≡ d
unfolding acted
acted-none d = refl

edges-none : (t : ℕ) (d : DeviceParts) → act_edges t NoAct d ≡ []
unfolding acted first_part
edges-none t d = ap (λ (es : List Edge). es ++ es) (changes-same t line_numbers (levels d))

pub devices-kept : (a : Access) (d : DeviceParts) → touches a ≡ false → acted (act_of a) d ≡ d
devices-kept a d e = ap (λ x. acted x d) (none-asked a e) ∙ acted-none d

pub own-none : (b : BoardParts) (a : Access) → touches a ≡ false → own_edges b a ≡ []
own-none b a e = ap (λ x. act_edges (now_of b) x (devices_in b)) (none-asked a e) ∙ edges-none (now_of b) (devices_in b)

pub rises-kept : (b : BoardParts) (a : Access) → touches a ≡ false → rises_after b.format (own_edges b a) b.rises ≡ b.rises
rises-kept b a e = ap (λ (es : List Edge). rises_after b.format es b.rises) (own-none b a e) ∙ rises_after-none b.format b.rises

pub due-kept : (a : Access) (d : DeviceParts) → touches a ≡ false → (k : ℕ) → k < 10
    → (line_at k (acted (act_of a) d)).counts.due ≤ (line_at k d).counts.due + 1
due-kept a d e k less = subst (λ (x : DeviceParts). (line_at k x).counts.due ≤ (line_at k d).counts.due + 1) (sym (devices-kept a d e)) (omega arith)

pub lifts-kept : (b : BoardParts) (a : Access) → touches a ≡ false → (n : ℕ)
    → lifts n (own_edges b a) + one_if (level_of line_numbers (levels (devices_in b)) n)
    ≤ 1 + one_if (level_of line_numbers (levels (acted (act_of a) (devices_in b))) n)
lifts-kept b a e n =
    subst (λ (x : DeviceParts). lifts n (own_edges b a) + one_if (level_of line_numbers (levels (devices_in b)) n)
    ≤ 1 + one_if (level_of line_numbers (levels x) n)) (sym (devices-kept a (devices_in b) e))
    (omega (arith, ap (lifts n) (own-none b a e)))

-- what writes nothing elsewhere
pub number-kept : (a : Access) (n : ℕ) → writes a ≡ false → wall_number_after a n ≡ n
number-kept (MsrWrite msr v) n e = absurd (false≢true (sym e))
number-kept _ n e = refl

pub version-kept : (a : Access) (n : ℕ) → writes a ≡ false → wall_version_after a n ≡ n
version-kept (MsrWrite msr v) n e = absurd (false≢true (sym e))
version-kept _ n e = refl

pub processors-kept : (anchor : Anchor) (guest_khz cpu h : ℕ) (a : Access) (ps : List ProcessorParts) → writes a ≡ false
    → processors_after anchor guest_khz cpu h a ps ≡ ps
unfolding processors_after
processors-kept anchor guest_khz cpu h (MsrWrite msr v) ps e = absurd (false≢true (sym e))
processors-kept anchor guest_khz cpu h (Refresh page) ps e = absurd (false≢true (sym e))
processors-kept anchor guest_khz cpu h _ ps e = refl

pub hv-kept : (anchor : Anchor) (guest_khz cpu h : ℕ) (a : Access) (ps : List ProcessorParts) (p : HvParts) → writes a ≡ false
    → hv_after anchor guest_khz cpu h a ps p ≡ p
unfolding hv_after
hv-kept anchor guest_khz cpu h (MsrWrite msr v) ps p e = absurd (false≢true (sym e))
hv-kept anchor guest_khz cpu h _ ps p e = refl

pub apics-kept : (cpu : ℕ) (a : Access) (apics : ApicsParts) → writes a ≡ false → apics_acted cpu a apics ≡ apics
apics-kept cpu (MsrWrite msr v) apics e = absurd (false≢true (sym e))
apics-kept cpu Eoi apics e = absurd (false≢true (sym e))
apics-kept cpu _ apics e = refl

-- the values
pub value-touched : (b : BoardParts) (cpu h : ℕ) (a : Access) → touches a ≡ true
    → value_with a (value_of (now_of b) (act_of a) (devices_in b)) Nothing ≡ value_at b cpu h a
unfolding value_at
value-touched b cpu h (PortIn port) e = refl
value-touched b cpu h (PortOut port byte) e = refl
value-touched b cpu h (HpetRead offset width) e = refl
value-touched b cpu h (HpetWrite offset width v) e = refl
value-touched b cpu h (Ack line) e = refl
value-touched b cpu h _ e = absurd (false≢true e)

pub value-written : (b : BoardParts) (cpu h : ℕ) (a : Access) → writes a ≡ true → Nothing ≡ value_at b cpu h a
unfolding value_at
value-written b cpu h (MsrWrite msr v) e = refl
value-written b cpu h (Refresh page) e = refl
value-written b cpu h Eoi e = refl
value-written b cpu h _ e = absurd (false≢true e)

pub value-told : (b : BoardParts) (n cpu h : ℕ) (a : Access) → touches a ≡ false → told (record b { accesses = n }) cpu h a ≡ value_at b cpu h a
unfolding value_at
value-told b n cpu h (PortIn port) e = absurd (false≢true (sym e))
value-told b n cpu h (PortOut port byte) e = absurd (false≢true (sym e))
value-told b n cpu h (HpetRead offset width) e = absurd (false≢true (sym e))
value-told b n cpu h (HpetWrite offset width v) e = absurd (false≢true (sym e))
value-told b n cpu h (Ack line) e = absurd (false≢true (sym e))
value-told b n cpu h _ e = refl

pub raised_none : (m : Meters) (cpu : ℕ) (a : Access) → writes a ≡ false → raised_in m cpu a ≡ None
raised_none m cpu (MsrWrite msr v) e = absurd (false≢true (sym e))
raised_none m cpu (Refresh page) e = absurd (false≢true (sym e))
raised_none m cpu _ e = refl
