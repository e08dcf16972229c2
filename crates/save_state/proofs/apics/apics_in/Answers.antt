use Rattle.save_state.proofs.Names.{◌≡◌, ℕ, ◌+◌, ◌<◌, true, List, refl, ◌∙◌, arith, read, read-none, read-one, past-past, IsPast, part-filled, ticks_of}
use Rattle.save_state.proofs.Names.{apic_timer, apic_line, plain, apics, blocks, Apic, apic, no_apic, apics_few, apic-size, TickParts, Discard}
use Rattle.local_apics.specs.Places.{no_timer, no_line}
use Rattle.save_state.proofs.apics.apics_in.Goals as goal

-- a timer and its tick line are what the fields of both read
abbrev ticks : ℕ → List ℕ → TickParts
ticks p bytes = read (ticks_of (λ l. l) (λ x l. x) (λ b l. true)) p bytes (record no_line { policy = Discard })

timer-is : (k p : ℕ) (bytes : List ℕ) → (read apic_timer p bytes no_apic).0 ≡ (read (apic k) p bytes no_apic).0
unfolding apic_timer apic_line plain
timer-is k p bytes = refl

line-is : (k p : ℕ) (bytes : List ℕ) → ticks (p + 4 + 1 + 4 + 4 + 1 + 8) bytes ≡ (read (apic k) p bytes no_apic).1
unfolding apic_timer apic_line plain
line-is k p bytes = refl

pub loop-k-init : goal.loop-k-init
loop-k-init c = record { timers = read-none _ no_timer 55 64 c.args.fields.now; lines = read-none _ no_line 55 64 c.args.fields.now }

pub loop-k-preserved : goal.loop-k-preserved
loop-k-preserved c =
    let at = c.loop-k.fields in
    let k : ℕ = c.loop-k.k in
    let less : k < 64 = omega (arith, c.loop-k-test.true, c.loop-k.auto.k-end, c.apics_of-k-end.ensures.few, c.requires.few) in
    let first = c.timer_in.ensures.next in
    let past : IsPast 55 at c.ticks_in.new.fields = past-past first c.ticks_in.ensures.next in
    let place : c.timer_in.new.fields.place ≡ at.place + 4 + 1 + 4 + 4 + 1 + 8 = omega (arith, first.place) in
    record {
      timers = read-one c.loop-k.invariant.timers less (c.timer_in.ensures.value ∙ timer-is k at.place at.bytes.now) past;
      lines = read-one c.loop-k.invariant.lines less
          (c.ticks_in.ensures.value ∙ (λ i. ticks (place i) (first.bytes i)) ∙ line-is k at.place at.bytes.now) past;
    }

pub returns-clause-timers : goal.returns-clause-timers
unfolding apics blocks
returns-clause-timers c =
    part-filled apic no_apic 55 apic-size (λ (a : Apic). a.0) _ _ _ _ _ _
    (omega (arith, c.loop-k-test.false, c.loop-k.auto.k-end, c.apics_of-k-end.ensures.value))
    (apics_few c.args.format c.args.cpus c.requires.few) c.loop-k.invariant.timers.filled

pub returns-clause-lines : goal.returns-clause-lines
unfolding apics blocks
returns-clause-lines c =
    part-filled apic no_apic 55 apic-size (λ (a : Apic). a.1) _ _ _ _ _ _
    (omega (arith, c.loop-k-test.false, c.loop-k.auto.k-end, c.apics_of-k-end.ensures.value))
    (apics_few c.args.format c.args.cpus c.requires.few) c.loop-k.invariant.lines.filled
