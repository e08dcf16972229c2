-- Each list of fields: bytes with no fault are those that are written, and what is written of a valid board is read as it was, and has no fault.
use Rattle.save_state.proofs.Names.{apic, no_apic, reference, message, no_message, devices, back, fields_of, AllSpelled, IsCode, choice-code, AreBlocks}
use Rattle.save_state.proofs.Names.{blocks-spelled, spells, policy, counter, no_counter, timer, line, processor, ℕ, zero, suc, ◌<◌, ◌≡◌, refl, arith, no_timer}
use Rattle.save_state.proofs.Names.{policy_byte, policy_of, no_line, no_hv, no_processor, plain, elsewhere, lists, block_lists, page, references, references_of}
use Rattle.save_state.proofs.Names.{messages, messages_of, BoardFits, IsPit, here-joined, tsc, clock, registers, timers, beq, up_allowed, lines, counts_of}
use Rattle.save_state.proofs.Names.{rises, wall, processors, apics, rise_valid, routed_rises_valid, magic, khz_valid, policy_place, head, host, guest, policies}
use Rattle.save_state.proofs.Names.{counters, number-written, word-written, byte-written, flag-written, all-written, plain-here, rows-written, blocks-here}
use Rattle.save_state.proofs.Names.{drop-blank, devices_in, processor_at, byte_at, number, byte, write, ◌⨾◌, AllHere, next-write, timers_of, has_messages}
use Rattle.save_state.proofs.Names.{counts_rtc, IsTimerLine, line_at, apics_of, IsBoard, timer_at, IsPlace, Policy, Discard, Delay, Slew, BoardParts, IsKhz}
use Rattle.save_state.proofs.Names.{RANGE_NS, time_at, Anchor, RtcParts, pf_of, IsRtc, bytes_valid, divider_valid, cycle_valid, IsTimer, sym, subst, ◌∙◌}
use Rattle.save_state.proofs.Names.{lt-ltb, le-ltb, le-leb, and_from, or_right, ne_eqb, cond-true, cond-false, drop_all, get_or-drop, ◌∷◌, [], ◌+◌, ◌≤◌, Bool}
use Rattle.save_state.proofs.Names.{true, false, eqb, ltb, leb, ◌&&◌, ◌||◌, List, ◌++◌, drop, get_or, ap, version-is, timers_few, timers_least, processors_few}
use Rattle.save_state.proofs.Blocks.{writes, policy-written, counter-here, timer-here, line-here, processor-here, messages-here, references-here}
use Rattle.save_state.proofs.{Names.counts_few, Names.levels-at, Names.one_if, Names.◌^◌, ApicLaws.apics-here}

policy-code : IsCode policy
policy-code = choice-code 3 policy_byte policy_of three
  where
    three : (y : ℕ) → y < 3 → policy_byte (policy_of y) ≡ y
    three zero h = refl
    three (suc zero) h = refl
    three (suc (suc zero)) h = refl
    three (suc (suc (suc y))) h = absurd (omega arith)

-- the fields of each block are written as what was read
block-laws : AreBlocks counter no_counter × AreBlocks timer no_timer × AreBlocks line no_line × AreBlocks processor no_processor × AreBlocks apic no_apic
    × AreBlocks reference no_hv × AreBlocks message no_message
unfolding block_lists plain elsewhere
block-laws = (
  record { keeps = λ k place bytes. refl; spelled = λ k. search spells },
  record { keeps = λ k place bytes. refl; spelled = λ k. search spells },
  record { keeps = λ k place bytes. refl; spelled = λ k. search spells },
  record { keeps = λ k place bytes. refl; spelled = λ k. search spells },
  record { keeps = λ k place bytes. refl; spelled = λ k. search spells },
  record { keeps = λ k place bytes. refl; spelled = λ k. search spells },
  record { keeps = λ k place bytes. refl; spelled = λ k. search spells },
)

ruleset laws = (spells, policy-code, blocks-spelled)

-- the fields of a board
pub fields-spelled : (format cpus : ℕ) → AllSpelled (fields_of format cpus)
unfolding lists
fields-spelled format cpus = let blocks = block-laws in search laws

-- the head
base_is : (a : Anchor) (host : ℕ) → time_at a host < RANGE_NS → a.base_ns < RANGE_NS
unfolding time_at
base_is a host range = omega (arith, range)

khz_valid-is : (khz : ℕ) → IsKhz khz → khz_valid khz ≡ true
khz_valid-is khz is = grind arith

start-here : (b : BoardParts) (bytes : List ℕ) → IsBoard b → BoardFits b → AllHere (head ++ host ++ guest) b b bytes
unfolding head host guest
start-here b bytes is fits =
    let format = is.joined.format in
    let rates = is.joined.rates in
    let time = is.joined.time in
    let accesses = is.joined.accesses in
    let slew = is.devices.joined in
    let host = fits.host in
    let guest = fits.guest in
    let base = base_is b.anchor b.host time.range in
    let magic_fits : magic < 256 ^ 8 = omega arith in
    let format_fits : b.format < 256 ^ 2 = omega (arith, format.last) in
    let cpus_fits : b.cpus < 256 ^ 2 = omega (arith, format.most_cpus, processors_few b.format) in
    search (writes, word-written, le-leb, lt-ltb, khz_valid-is)

policies-here : (b : BoardParts) (bytes : List ℕ) → AllHere policies b b bytes
unfolding policies
policies-here b bytes = search (writes, policy-written)

-- the 8254
counters-here : (b : BoardParts) (bytes : List ℕ) → IsBoard b → BoardFits b → AllHere counters b b bytes
unfolding counters counter plain
counters-here b bytes is fits =
    let p = is.devices.pit in
    blocks-here 3 3 counter no_counter _ _ b b bytes (λ k less. refl) (omega (arith, p.three)) (each p) (drop_all 3 b.pit.counters (omega (arith, p.three)))
    ⨾ tt
  where
    high : (gate second : Bool) → gate ≡ true → (gate || second) ≡ true
    high gate second e = grind arith

    each : IsPit b.pit → (j : ℕ) → 0 ≤ j → j < 0 + 3 → AllHere (counter j) b (get_or b.pit.counters j no_counter) bytes
    each p zero low less = counter-here b 0 _ bytes p.first (high _ _ p.gate_of_first) (fits.devices.counters 0 (omega arith))
    each p (suc zero) low less = counter-here b 1 _ bytes p.second (high _ _ p.gate_of_second) (fits.devices.counters 1 (omega arith))
    each p (suc (suc zero)) low less = counter-here b 2 _ bytes p.third (or_right _ true refl) (fits.devices.counters 2 (omega arith))
    each p (suc (suc (suc j))) low less = absurd (omega arith)

-- the MC146818
clock-here : (b : BoardParts) (bytes : List ℕ) → IsBoard b → BoardFits b → AllHere clock b b bytes
unfolding clock
clock-here b bytes is fits =
    let r = is.devices.rtc in
    plain-here _ _ _ _ _ _ b b bytes (flag-written b.pit.speaker) refl
    ⨾ plain-here _ _ _ _ _ _ b b bytes (byte-written b.rtc.index) (le-leb b.rtc.index 0x7f r.index)
    ⨾ plain-here _ _ _ _ _ _ b b bytes (rows-written 128 128 byte 0 b.rtc.bytes
    (all-written byte 0 128 b.rtc.bytes (omega (arith, r.places)) (λ k less. byte-written _)) (drop_all 128 b.rtc.bytes (omega (arith, r.places))))
    (bytes_valid-is b.rtc r)
    ⨾ plain-here _ _ _ _ _ _ b b bytes (number-written 2 b.rtc.d fits.numbers.divider) (divider_valid-is b.rtc r)
    ⨾ plain-here _ _ _ _ _ _ b b bytes (flag-written b.rtc.cycle) (cycle_valid-is b.rtc r) ⨾ tt
  where
    bytes_valid-is : (r : RtcParts) → IsRtc r → bytes_valid r ≡ true
    bytes_valid-is r is = grind arith

    divider_valid-is : (r : RtcParts) → IsRtc r → divider_valid r ≡ true
    divider_valid-is r is = grind arith

    cycle_valid-is : (r : RtcParts) → IsRtc r → cycle_valid r ≡ true
    cycle_valid-is r is = grind arith

-- the HPET
status_valid-is : (b : BoardParts) → IsBoard b → (leb 2 b.format || leb b.hpet.status 7) ≡ true
status_valid-is b is = grind arith

registers-here : (b : BoardParts) (bytes : List ℕ) → IsBoard b → BoardFits b → AllHere registers b b bytes
unfolding registers
registers-here b bytes is fits =
    let h = is.devices.hpet in
    let numbers = fits.numbers in
    let status = status_valid-is b is in
    search (writes, le-leb)

timer-there : (b : BoardParts) → IsBoard b → (j : ℕ) → j < timers_of b.format → IsTimer (timer_at j b.hpet)
timer-there b is j less =
    let among : ltb j b.hpet.timers ≡ true = lt-ltb j b.hpet.timers (omega (arith, is.joined.format.has_timers)) in
    subst (λ (t : Bool). IsPlace t (timer_at j b.hpet)) among (is.devices.hpet.places j (omega (arith, timers_few b.format)))

timer-absent : (b : BoardParts) → IsBoard b → (j : ℕ) → timers_of b.format ≤ j → j < 8 → timer_at j b.hpet ≡ no_timer
timer-absent b is j le less =
    let among : ltb j b.hpet.timers ≡ false = le-ltb j b.hpet.timers (omega (arith, is.joined.format.has_timers)) in
    subst (λ (t : Bool). IsPlace t (timer_at j b.hpet)) among (is.devices.hpet.places j less)

timers-here : (b : BoardParts) (bytes : List ℕ) → IsBoard b → BoardFits b → AllHere (timers (timers_of b.format)) b b bytes
unfolding timers timer plain
timers-here b bytes is fits =
    let n : ℕ = timers_of b.format in
    blocks-here n 8 timer no_timer _ _ b b bytes (λ k less. refl) (omega (arith, timers_few b.format, fits.numbers.timers))
    (λ j low less. timer-here b j (timer_at j b.hpet) bytes (timer-there b is j (omega arith))
    (fits.devices.timers j (omega (arith, is.joined.format.has_timers))))
    (drop-blank no_timer n 8 b.hpet.timer fits.numbers.timers (timers_few b.format) (timer-absent b is)) ⨾ tt

-- the tick lines
beq-refl : (b : Bool) → beq b b ≡ true
beq-refl false = refl
beq-refl true = refl

up_allowed-is : (b : BoardParts) → IsBoard b → (k : ℕ) → up_allowed b k (line_at k (devices_in b)).up ≡ true
up_allowed-is b is zero = refl
up_allowed-is b is (suc zero) =
    ap (λ (up : Bool). beq up (counts_rtc (devices_in b) && pf_of b.rtc)) is.devices.joined.flag ∙ beq-refl (counts_rtc (devices_in b) && pf_of b.rtc)
up_allowed-is b is (suc (suc k)) =
    cond-false (eqb (suc (suc k)) 1) _ true (ne_eqb (suc (suc k)) 1 (λ (e : suc (suc k) ≡ 1). omega arith))

line-absent : (b : BoardParts) → IsBoard b → (j : ℕ) → timers_of b.format + 2 ≤ j → j < 10 → get_or b.ticks j no_line ≡ no_line
line-absent b is zero le less = absurd (omega arith)
line-absent b is (suc zero) le less = absurd (omega (arith, timers_least b.format))
line-absent b is (suc (suc k)) le less =
    let among : ltb k b.hpet.timers ≡ false = le-ltb k b.hpet.timers (omega (arith, is.joined.format.has_timers)) in
    subst (λ (t : Bool). IsTimerLine t (line_at 2 (devices_in b)).policy (line_at (suc (suc k)) (devices_in b))) among
    (is.devices.joined.timer_lines k (omega arith))

-- the bytes tell the policy of a line
abbrev ArePolicies : BoardParts → List ℕ → Type 0
ArePolicies b bytes = (k : ℕ) → k < timers_of b.format + 2 → policy_of (byte_at (policy_place k) bytes) ≡ (line_at k (devices_in b)).policy

lines-here : (b : BoardParts) (bytes : List ℕ) → IsBoard b → BoardFits b → ArePolicies b bytes → AllHere (lines (timers_of b.format)) b b bytes
unfolding lines line plain elsewhere
lines-here b bytes is fits policies_are =
    let n : ℕ = timers_of b.format + 2 in
    let ten = is.devices.joined.places in
    blocks-here n 10 line no_line _ _ b b bytes (λ k less. refl) (omega (arith, timers_few b.format, ten))
    (λ j low less. line-here b j (line_at j (devices_in b)) bytes (is.devices.lines j (omega (arith, timers_few b.format))) (up_allowed-is b is j)
    (is.joined.due j (omega (arith, timers_few b.format))) (fits.devices.lines j (omega arith)) (policies_are j (omega arith)))
    (drop-blank no_line n 10 b.ticks ten (omega (arith, timers_few b.format)) (line-absent b is)) ⨾ tt

policy_of-byte : (p : Policy) → policy_of (policy_byte p) ≡ p
policy_of-byte Discard = refl
policy_of-byte Delay = refl
policy_of-byte Slew = refl

are-policies : (b : BoardParts) (bytes : List ℕ) → IsBoard b → BoardFits b → (rest : List ℕ) → drop 0 bytes ≡ write (fields_of b.format b.cpus) b ++ rest
    → ArePolicies b bytes
unfolding head host guest policies plain
are-policies b bytes is fits rest e =
    let tail : List ℕ = write (policies ++ devices b.format ++ back b.format b.cpus) b ++ rest in
    let there : drop 76 bytes ≡ tail =
    next-write (head ++ host ++ guest) (policies ++ devices b.format ++ back b.format b.cpus) b b bytes (start-here b bytes is fits) 0 rest e in
    let byte_is : (i : ℕ) → get_or bytes (76 + i) 0 ≡ get_or (drop 76 bytes) i 0 = λ i. sym (get_or-drop 76 bytes i 0) in
    let at : (i : ℕ) → get_or bytes (76 + i) 0 ≡ get_or tail i 0 = λ i. byte_is i ∙ ap (λ (xs : List ℕ). get_or xs i 0) there in
    λ k less. policy-at b bytes is (ap policy_of (at 0) ∙ policy_of-byte _) (ap policy_of (at 1) ∙ policy_of-byte _)
    (ap policy_of (at 2) ∙ policy_of-byte _) k less
  where
    policy-at : (b : BoardParts) (bytes : List ℕ) → IsBoard b → policy_of (get_or bytes 76 0) ≡ (line_at 0 (devices_in b)).policy
        → policy_of (get_or bytes 77 0) ≡ (line_at 1 (devices_in b)).policy → policy_of (get_or bytes 78 0) ≡ (line_at 2 (devices_in b)).policy
        → ArePolicies b bytes
    policy-at b bytes is p0 p1 p2 zero less = p0
    policy-at b bytes is p0 p1 p2 (suc zero) less = p1
    policy-at b bytes is p0 p1 p2 (suc (suc k)) less =
        let among : ltb k b.hpet.timers ≡ true = lt-ltb k b.hpet.timers (omega (arith, is.joined.format.has_timers)) in
        let few : k < 8 = omega (arith, timers_few b.format) in
        let same : (line_at (suc (suc k)) (devices_in b)).policy ≡ (line_at 2 (devices_in b)).policy =
        subst (λ (t : Bool). IsTimerLine t (line_at 2 (devices_in b)).policy (line_at (suc (suc k)) (devices_in b))) among
        (is.devices.joined.timer_lines k few) in
        let place = cond-true (leb 2 (suc (suc k))) 2 (suc (suc k)) (le-leb 2 (suc (suc k)) (omega arith)) in
        ap (λ (n : ℕ). policy_of (get_or bytes (76 + n) 0)) place ∙ p2 ∙ sym same

-- the counts of rises
rise_valid-is : (b : BoardParts) → IsBoard b → (k : ℕ) → k < 6 → rise_valid b k ≡ true
rise_valid-is b is k less =
    le-leb _ _ (subst (λ (x : Bool). get_or b.rises k 0 ≤ b.accesses + one_if x) (levels-at (devices_in b) k less) (is.joined.rises.most k less))

routed_valid-is : (b : BoardParts) → IsBoard b → routed_rises_valid b ≡ true
routed_valid-is b is =
    let ok : (k : ℕ) → k < 6 → rise_valid b k ≡ true = rise_valid-is b is in
    and_from _ _ (and_from _ _ (and_from _ _ (ok 2 (omega arith)) (ok 3 (omega arith))) (ok 4 (omega arith))) (ok 5 (omega arith))

rises-here : (b : BoardParts) (bytes : List ℕ) → IsBoard b → BoardFits b → AllHere (rises (counts_of b.format)) b b bytes
unfolding rises
rises-here b bytes is fits =
    let n : ℕ = counts_of b.format in
    let ok : (k : ℕ) → k < 6 → rise_valid b k ≡ true = rise_valid-is b is in
    plain-here _ _ _ _ _ _ b b bytes (rows-written n 6 (number 8) 0 b.rises
    (all-written (number 8) 0 n b.rises (omega (arith, counts_few b.format, fits.back.rises.places)) (λ k less. number-written 8 _ (fits.back.rises.each k)))
    (drop-blank 0 n 6 b.rises fits.back.rises.places (counts_few b.format) (λ j le less. is.joined.rises.none (first b.format j le less) j)))
    (and_from _ _ (and_from _ _ (ok 0 (omega arith)) (ok 1 (omega arith))) (or_right (has_messages b.format) (routed_rises_valid b) (routed_valid-is b is)))
    ⨾ tt
  where
    first : (format j : ℕ) → counts_of format ≤ j → j < 6 → format ≤ 1
    first format j le less = grind arith

-- the wall clock
wall-here : (b : BoardParts) (bytes : List ℕ) → IsBoard b → BoardFits b → AllHere wall b b bytes
unfolding wall
wall-here b bytes is fits =
    let w = is.joined.wall in
    let wall = fits.back.wall in
    let version = version-is b.wall_version b.wall_number w.words.even w.unpublished in
    search (writes, lt-ltb)

-- the processors
processors-here : (b : BoardParts) (bytes : List ℕ) → IsBoard b → BoardFits b → AllHere (processors b.cpus) b b bytes
unfolding processors tsc page plain
processors-here b bytes is fits =
    let few : b.cpus ≤ 64 = omega (arith, is.joined.format.most_cpus, processors_few b.format) in
    blocks-here b.cpus 64 processor no_processor _ _ b b bytes (λ k less. refl) (omega (arith, few, fits.back.processor_places))
    (λ j low less. processor-here b j (processor_at b j) bytes (is.joined.processors.each j) (fits.back.processors j (omega arith)))
    (drop-blank no_processor b.cpus 64 b.processors fits.back.processor_places few (λ j le less. is.joined.processors.absent j le)) ⨾ tt

-- all of them
pub fields-here : (b : BoardParts) (bytes : List ℕ) → IsBoard b → BoardFits b → (rest : List ℕ) → drop 0 bytes ≡ write (fields_of b.format b.cpus) b ++ rest
    → AllHere (fields_of b.format b.cpus) b b bytes
unfolding lists
fields-here b bytes is fits rest e =
    let f : ℕ = b.format in
    let n : ℕ = timers_of f in
    here-joined ((head ++ host ++ guest) ∷ policies ∷ counters ∷ clock ∷ registers ∷ timers n ∷ lines n ∷ rises (counts_of f) ∷ wall ∷ processors b.cpus
    ∷ apics (apics_of f b.cpus) ∷ references (references_of f) ∷ messages (messages_of f) ∷ []) b b bytes
    (start-here b bytes is fits ⨾ policies-here b bytes ⨾ counters-here b bytes is fits ⨾ clock-here b bytes is fits ⨾ registers-here b bytes is fits
    ⨾ timers-here b bytes is fits ⨾ lines-here b bytes is fits (are-policies b bytes is fits rest e) ⨾ rises-here b bytes is fits ⨾ wall-here b bytes is fits
    ⨾ processors-here b bytes is fits ⨾ apics-here b is bytes fits.back.apics ⨾ references-here b bytes is fits.back.reference
    ⨾ messages-here b is fits (routed_valid-is b is) bytes ⨾ tt)
