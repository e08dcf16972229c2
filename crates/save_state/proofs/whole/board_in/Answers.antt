use Rattle.save_state.proofs.Names.{◌≡◌, ℕ, ◌+◌, ◌*◌, List, ap, sym, ◌∙◌, arith, read, blank, byte, row_value, number_at, timers_of, has_messages, replicate}
use Rattle.save_state.proofs.Names.{false, counters, clock, registers, timer, timers, line, lines, counts_of, rises, processor, processors, apics_of, apic, apics}
use Rattle.save_state.proofs.Names.{reference, references, references_of, messages, messages_of, format_in, cpus_in, layout, ◌++◌}
use Rattle.{byte_table.specs.Fold.size_below, save_state.specs.declared.front.Front.Front}
use Rattle.save_state.proofs.whole.board_in.Goals as goal

pub lines_in-ticks-requires-clause-policies : goal.lines_in-ticks-requires-clause-policies
unfolding layout
lines_in-ticks-requires-clause-policies c =
    let same = c.hpet_in-hpet.ensures.next.bytes ∙ c.clock_in-speaker.ensures.next.bytes ∙ c.counters_in-counters.ensures.next.bytes in
    ap (λ (f : Front). f.policies) c.requires.front ∙ ap (λ (xs : List ℕ). row_value byte 3 76 xs) (sym same)

-- each part is read where the list of all fields has it
pub returns : goal.returns
unfolding layout
returns c =
    let bytes : List ℕ = c.args.fields.now.bytes.now in
    let f : ℕ = format_in bytes in
    let n : ℕ = cpus_in bytes in
    let front = c.requires.front in
    let format : c.args.f.now.format ≡ f = ap (λ (x : Front). x.format) front in
    let cpus : c.args.f.now.cpus ≡ n = ap (λ (x : Front). x.cpus) front in
    let lines_at : ℕ = 264 + size_below timer 0 (timers_of f) in
    let rises_at : ℕ = lines_at + size_below line 0 (timers_of f + 2) in
    let wall_at : ℕ = rises_at + 8 * counts_of f in
    let processors_at : ℕ = wall_at + 8 + 4 + 4 + 4 in
    let apics_at : ℕ = processors_at + size_below processor 0 n in
    let hv_at : ℕ = apics_at + size_below apic 0 (apics_of f n) in
    let messages_at : ℕ = hv_at + size_below reference 0 (references_of f) in
    let p0 : c.args.fields.now.place ≡ 79 = c.requires.place in
    let p1 : c.counters_in-counters.new.fields.place ≡ 121 = omega (arith, p0, c.counters_in-counters.ensures.next.place) in
    let p2 : c.clock_in-speaker.new.fields.place ≡ 254 = omega (arith, p1, c.clock_in-speaker.ensures.next.place) in
    let p3 : c.hpet_in-hpet.new.fields.place ≡ lines_at =
    omega (arith, p2, c.hpet_in-hpet.ensures.next.place, ap (λ (k : ℕ). size_below timer 0 (timers_of k)) format) in
    let p4 : c.lines_in-ticks.new.fields.place ≡ rises_at =
    omega (arith, p3, c.lines_in-ticks.ensures.next.place, ap (λ (k : ℕ). size_below line 0 (timers_of k + 2)) format) in
    let p5 : c.rises_in-rises.new.fields.place ≡ wall_at = omega (arith, p4, c.rises_in-rises.ensures.next.place, ap counts_of format) in
    let p6 : c.eight-wall_number.new.self.place ≡ wall_at + 8 = omega (arith, p5, c.eight-wall_number.ensures.next.place) in
    let p7 : c.four-wall_version.new.self.place ≡ wall_at + 8 + 4 = omega (arith, p6, c.four-wall_version.ensures.next.place) in
    let p8 : c.four-wall_sec.new.self.place ≡ wall_at + 8 + 4 + 4 = omega (arith, p7, c.four-wall_sec.ensures.next.place) in
    let p9 : c.four-wall_nsec.new.self.place ≡ processors_at = omega (arith, p8, c.four-wall_nsec.ensures.next.place) in
    let p10 : c.processors_in-processors.new.fields.place ≡ apics_at =
    omega (arith, p9, c.processors_in-processors.ensures.next.place, ap (λ (k : ℕ). size_below processor 0 k) cpus) in
    let apics_size : size_below apic 0 (apics_of c.args.f.now.format c.args.f.now.cpus) ≡ size_below apic 0 (apics_of f n) =
    λ i. size_below apic 0 (apics_of (format i) (cpus i)) in
    let p11 : c.apics_in.new.fields.place ≡ hv_at = omega (arith, p10, c.apics_in.ensures.next.place, apics_size) in
    let p12 : c.hv_in-hv.new.fields.place ≡ messages_at =
    omega (arith, p11, c.hv_in-hv.ensures.next.place, ap (λ (k : ℕ). size_below reference 0 (references_of k)) format) in
    let b1 = c.counters_in-counters.ensures.next.bytes in
    let b2 = c.clock_in-speaker.ensures.next.bytes ∙ b1 in
    let b3 = c.hpet_in-hpet.ensures.next.bytes ∙ b2 in
    let b4 = c.lines_in-ticks.ensures.next.bytes ∙ b3 in
    let b5 = c.rises_in-rises.ensures.next.bytes ∙ b4 in
    let b6 = c.eight-wall_number.ensures.next.bytes ∙ b5 in
    let b7 = c.four-wall_version.ensures.next.bytes ∙ b6 in
    let b8 = c.four-wall_sec.ensures.next.bytes ∙ b7 in
    let b9 = c.four-wall_nsec.ensures.next.bytes ∙ b8 in
    let b10 = c.processors_in-processors.ensures.next.bytes ∙ b9 in
    let b11 = c.apics_in.ensures.next.bytes ∙ b10 in
    let b12 = c.hv_in-hv.ensures.next.bytes ∙ b11 in
    let hpet = c.hpet_in-hpet.ensures.value ∙ (λ i. record (read (registers ++ timers (timers_of (format i))) (p2 i) (b2 i) blank).hpet {
      timers = timers_of (format i);
      messages = has_messages (format i);
      message_bit = replicate 8 false;
      message_word = replicate 8 0;
    }) in
    let counters_are = c.counters_in-counters.ensures.value ∙ (λ i. (read counters (p0 i) bytes blank).pit.counters) in
    let speaker = c.clock_in-speaker.ensures.speaker ∙ (λ i. (read clock (p1 i) (b1 i) blank).pit.speaker) in
    let rtc = c.clock_in-speaker.ensures.rtc ∙ (λ i. (read clock (p1 i) (b1 i) blank).rtc) in
    let ticks = c.lines_in-ticks.ensures.value ∙ (λ i. (read (lines (timers_of (format i))) (p3 i) (b3 i) blank).ticks) in
    let rises_are = c.rises_in-rises.ensures.value ∙ (λ i. (read (rises (counts_of (format i))) (p4 i) (b4 i) blank).rises) in
    let number = c.eight-wall_number.ensures.value ∙ (λ i. number_at 8 (p5 i) (b5 i)) in
    let version = c.four-wall_version.ensures.value ∙ (λ i. number_at 4 (p6 i) (b6 i)) in
    let sec = c.four-wall_sec.ensures.value ∙ (λ i. number_at 4 (p7 i) (b7 i)) in
    let nsec = c.four-wall_nsec.ensures.value ∙ (λ i. number_at 4 (p8 i) (b8 i)) in
    let processors_are = c.processors_in-processors.ensures.value ∙ (λ i. (read (processors (cpus i)) (p9 i) (b9 i) blank).processors) in
    let apic_are = c.apics_in.ensures.timers ∙ (λ i. (read (apics (apics_of (format i) (cpus i))) (p10 i) (b10 i) blank).apic) in
    let apic_lines = c.apics_in.ensures.lines ∙ (λ i. (read (apics (apics_of (format i) (cpus i))) (p10 i) (b10 i) blank).apic_ticks) in
    let hv = c.hv_in-hv.ensures.value ∙ (λ i. (read (references (references_of (format i))) (p11 i) (b11 i) blank).hv) in
    let bits = c.messages_in.ensures.bits ∙ (λ i. (read (messages (messages_of (format i))) (p12 i) (b12 i) blank).hpet.message_bit) in
    let words = c.messages_in.ensures.words ∙ (λ i. (read (messages (messages_of (format i))) (p12 i) (b12 i) blank).hpet.message_word) in
    λ i. record {
      format = format i;
      cpus = cpus i;
      anchor = (front i).anchor;
      host = (front i).host;
      guest_khz = (front i).guest_khz;
      accesses = (front i).accesses;
      greatest = (front i).greatest;
      slew_ns = (front i).slew_ns;
      pit = record { counters = counters_are i; speaker = speaker i };
      rtc = rtc i;
      hpet = record (hpet i) { message_bit = bits i; message_word = words i };
      ticks = ticks i;
      wall_number = number i;
      wall_version = version i;
      wall_sec = sec i;
      wall_nsec = nsec i;
      processors = processors_are i;
      rises = rises_are i;
      apic = apic_are i;
      apic_ticks = apic_lines i;
      hv = hv i;
    }
