-- Passive accesses: each is a step, but for its value, which is read of the board at its time, and for what it leaves of the 8254.
use Rattle.std.proofs.Common.{◌≡◌, ℕ, ◌+◌, ◌≤◌, Bool, true, false, cond, eqb, leb, ◌&&◌, ◌||◌, List, [], refl, sym, ap, subst, ◌∙◌, inl, inr, arith}
use Rattle.std.proofs.lemmas.Bool.{eqb-true, leb-true, ne_eqb, or_cases, false≢true}
use Rattle.hpet_registers.specs.Access.{hpet_read, part_of}
use Rattle.hpet_registers.specs.declared.parts.HpetParts.{HpetParts}
use Rattle.board_types.specs.declared.access.Access.{Access}
use Rattle.board_types.specs.declared.access.Access.TheVariants.{PortIn, HpetRead, Step}
use Rattle.board_types.specs.declared.parts.BoardParts.{BoardParts}
use Rattle.board_types.specs.declared.reply.Value.TheVariants.{Nothing, Byte, Word}
use Rattle.irq_edges.specs.declared.edges.Edge.{Edge}
use Rattle.pit_readback.specs.Ports.{is_pit_port, port_read}
use Rattle.board_devices.specs.declared.act.Act.{Act}
use Rattle.board_devices.specs.declared.act.Act.TheVariants.{PitRead, IndexRead, ClockRead}
use Rattle.board_devices.specs.Act.{acted, act_edges, value_of}
use Rattle.board_devices.proofs.ActEdges.{edges-pit_read, edges-hpet_read}
use Rattle.board_core.specs.Access.{after_run, value_at, before_look, read_of_port, act_of, own_edges}
use Rattle.board_core.specs.Apics.{apics_in}
use Rattle.board_core.specs.Refusals.{meters_of, refusal_of}
use Rattle.board_meters.specs.Meters.{refusal_in}
use Rattle.board_core.specs.Rises.{rises_after}
use Rattle.board_core.specs.Time.{devices_in, now_of}
use Rattle.board_core.specs.Lazy.{is_passive, left_by}
use Rattle.board_core.specs.private.Kinds.{writes}
use Rattle.board_core.proofs.Counted.{rises_after-none}
use Rattle.board_core.proofs.Kept.{own-none, number-kept, version-kept, processors-kept, hv-kept, apics-kept}
use Rattle.board_core.proofs.Steps.{with_parts, with_parts-is}

-- what holds of a step, of each read of the HPET and of each read of a port of the 8254 holds of it
pub by-kind : (P : Access → Type 0) → P Step → ((offset width : ℕ) → P (HpetRead offset width))
    → ((port : ℕ) → is_pit_port port ≡ true → P (PortIn port)) → (a : Access) → is_passive a ≡ true → P a
by-kind P step read port Step is = step
by-kind P step read port (HpetRead offset width) is = read offset width
by-kind P step read port (PortIn p) is = port p is
by-kind P step read port _ is = absurd (false≢true is)

-- it writes nothing
quiet : (a : Access) → is_passive a ≡ true → writes a ≡ false
quiet = by-kind (λ a. writes a ≡ false) refl (λ offset width. refl) (λ port is. refl)

both : (a b : Bool) → (a && b) ≡ true → (a ≡ true) × (b ≡ true)
both true b e = (refl, e)
both false b e = absurd (false≢true e)

-- a port of the 8254 isn't one of the MC146818
port-low : (port : ℕ) → is_pit_port port ≡ true → port ≤ 0x61
port-low port is = elim (or_cases (leb 0x40 port && leb port 0x43) (eqb port 0x61) is) [
  | inl e ↦ omega (arith, leb-true port 0x43 (both (leb 0x40 port) (leb port 0x43) e).1)
  | inr e ↦ omega (arith, eqb-true port 0x61 e)
]

pub pit-port : (port : ℕ) → is_pit_port port ≡ true → read_of_port port ≡ PitRead port
pit-port port is =
    let other : (n : ℕ) → 0x70 ≤ n → eqb port n ≡ false = λ n above. ne_eqb port n (λ e. omega (arith, port-low port is, e, above)) in
    ap (λ (b : Bool). cond b IndexRead (cond (eqb port 0x71) ClockRead (PitRead port))) (other 0x70 (omega arith))
    ∙ ap (λ (b : Bool). cond b ClockRead (PitRead port)) (other 0x71 (omega arith))

-- it moves no line
read-own : (b : BoardParts) (offset width : ℕ) → own_edges b (HpetRead offset width) ≡ []
read-own b offset width = edges-hpet_read (now_of b) offset width (devices_in b)

port-own : (b : BoardParts) (port : ℕ) → is_pit_port port ≡ true → own_edges b (PortIn port) ≡ []
port-own b port is =
    ap (λ (x : Act). act_edges (now_of b) x (devices_in b)) (pit-port port is) ∙ edges-pit_read (now_of b) port (devices_in b)

pub own-passive : (b : BoardParts) (a : Access) → is_passive a ≡ true → own_edges b a ≡ []
own-passive b = by-kind (λ a. own_edges b a ≡ []) (own-none b Step refl) (λ offset width. read-own b offset width) (λ port is. port-own b port is)

-- it does nothing but to count, and to leave what it leaves of the 8254
devices-left : (b : BoardParts) (a : Access) → is_passive a ≡ true
    → with_parts b (acted (act_of a) (devices_in b)) b.wall_number b.wall_version b.processors b.rises b.hv (apics_in b)
    ≡ left_by a (record b { accesses = b.accesses + 1 })
unfolding acted
devices-left b =
    by-kind (λ a. with_parts b (acted (act_of a) (devices_in b)) b.wall_number b.wall_version b.processors b.rises b.hv (apics_in b)
    ≡ left_by a (record b { accesses = b.accesses + 1 })) refl (λ offset width. refl)
    (λ port is. ap (λ (x : Act). with_parts b (acted x (devices_in b)) b.wall_number b.wall_version b.processors b.rises b.hv (apics_in b))
    (pit-port port is))

pub before_look-passive : (b : BoardParts) (cpu h : ℕ) (a : Access) → is_passive a ≡ true
    → before_look b cpu h a ≡ left_by a (record b { accesses = b.accesses + 1 })
before_look-passive b cpu h a is =
    let none : writes a ≡ false = quiet a is in
    sym (with_parts-is b cpu h a (acted (act_of a) (devices_in b)) b.wall_number b.wall_version b.processors b.rises b.hv (apics_in b)
    refl (sym (number-kept a b.wall_number none)) (sym (version-kept a b.wall_version none))
    (sym (processors-kept b.anchor b.guest_khz cpu h a b.processors none))
    (sym (ap (λ (es : List Edge). rises_after b.format es b.rises) (own-passive b a is) ∙ rises_after-none b.format b.rises))
    (sym (hv-kept b.anchor b.guest_khz cpu h a b.processors b.hv none)) (sym (apics-kept cpu a (apics_in b) none)))
    ∙ devices-left b a is

-- what it leaves has the same time and the same timers of local APICs
pub now-left : (a : Access) (b : BoardParts) → now_of (left_by a b) ≡ now_of b
now-left (PortIn port) b = refl
now-left _ b = refl

pub apics-left : (a : Access) (b : BoardParts) → apics_in (left_by a b) ≡ apics_in b
apics-left (PortIn port) b = refl
apics-left _ b = refl

pub refusal_of-passive : (x : BoardParts) (cpu h : ℕ) (a : Access) → is_passive a ≡ true → refusal_of x cpu h a ≡ refusal_of x cpu h Step
unfolding refusal_in meters_of
refusal_of-passive x cpu h = by-kind (λ a. refusal_of x cpu h a ≡ refusal_of x cpu h Step) refl (λ offset width. refl) (λ port is. refl)

-- the value doesn't depend on how many accesses there were
pub value_at-passive : (b : BoardParts) (n g cpu h : ℕ) (a : Access) → is_passive a ≡ true
    → value_at (after_run (record b { accesses = n }) g) cpu h a ≡ value_at (after_run b g) cpu h a
unfolding value_at after_run
value_at-passive b n g cpu h =
    by-kind (λ a. value_at (after_run (record b { accesses = n }) g) cpu h a ≡ value_at (after_run b g) cpu h a) refl (λ offset width. refl)
    (λ port is. refl)

-- what a read of the main counter gives: the counter, or its low half
pub hpet_read-passive : (offset width : ℕ) (h : HpetParts) → is_passive (HpetRead offset width) ≡ true
    → hpet_read offset width h ≡ part_of width false h.counter
hpet_read-passive offset width h is =
    let parts : (eqb offset 0xf0 ≡ true) × ((eqb width 4 || eqb width 8) ≡ true) = both (eqb offset 0xf0) (eqb width 4 || eqb width 8) is in
    ap (λ (o : ℕ). hpet_read o width h) (eqb-true offset 0xf0 parts.0)
    ∙ elim (or_cases (eqb width 4) (eqb width 8) parts.1) [
      | inl e ↦ subst (λ (w : ℕ). hpet_read 0xf0 w h ≡ part_of w false h.counter) (sym (eqb-true width 4 e)) refl
      | inr e ↦ subst (λ (w : ℕ). hpet_read 0xf0 w h ≡ part_of w false h.counter) (sym (eqb-true width 8 e)) refl
    ]

pub value-read : (x : BoardParts) (cpu h offset width : ℕ) → is_passive (HpetRead offset width) ≡ true
    → Word width (part_of width false x.hpet.counter) ≡ value_at x cpu h (HpetRead offset width)
unfolding value_at value_of
value-read x cpu h offset width is = ap (Word width) (sym (hpet_read-passive offset width x.hpet is))

pub value-port : (x : BoardParts) (cpu h port : ℕ) → is_pit_port port ≡ true → Byte (port_read (now_of x) port x.pit) ≡ value_at x cpu h (PortIn port)
unfolding value_at value_of
value-port x cpu h port is = ap (λ (act : Act). Byte (value_of (now_of x) act (devices_in x))) (sym (pit-port port is))

pub value-of-step : (x : BoardParts) (cpu h : ℕ) → Nothing ≡ value_at x cpu h Step
unfolding value_at
value-of-step x cpu h = refl

-- what is neither is a step
pub value-step : (x : BoardParts) (cpu h : ℕ) (a : Access) → is_passive a ≡ true → ((offset width : ℕ) → a ≡ HpetRead offset width → ⊥)
    → ((port : ℕ) → a ≡ PortIn port → ⊥) → Nothing ≡ value_at x cpu h a
unfolding value_at
value-step x cpu h (HpetRead offset width) is read port = absurd (read offset width refl)
value-step x cpu h (PortIn p) is read port = absurd (port p refl)
value-step x cpu h Step is read port = refl
value-step x cpu h _ is read port = absurd (false≢true is)

pub left-step : (a : Access) (b : BoardParts) → ((port : ℕ) → a ≡ PortIn port → ⊥) → b ≡ left_by a b
left-step (PortIn p) b port = absurd (port p refl)
left-step _ b port = refl
