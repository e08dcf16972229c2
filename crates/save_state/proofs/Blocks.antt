-- The laws of blocks: the fields of each cover it, what is read is written as its bytes are, and what is written of a valid one is read as it was.
use Rattle.save_state.proofs.Names.{ticks_of, elsewhere, Fields, CounterFits, TimerFits, LineFits, elsewhere-here, policy, policy_place, counter, timer}
use Rattle.save_state.proofs.Names.{line, up_allowed, number-written, byte-written, signed_byte-written, flag-written, flags-written, both-written}
use Rattle.save_state.proofs.Names.{choice-written, plain-here, policy_byte, policy_of, BoardParts, now_of, byte_at, plain, ◌⨾◌, AllHere}
use Rattle.save_state.proofs.Names.{all_here-append, IsWritten, CounterParts, IsCounter, TimerParts, IsTimer, Policy, Discard, Delay, Slew, TickParts}
use Rattle.save_state.proofs.Names.{IsTickLine, queue_valid, lost_valid, ◌≡◌, ℕ, ◌+◌, ◌≤◌, Bool, true, leb, ◌||◌, List, refl, arith, le-leb, leb-true, and_from}
use Rattle.save_state.proofs.Names.{number-below, version_valid, tsc, page, processor, ProcessorFits, IsProcessor, page_flags_valid, no_processor, number, read}
use Rattle.save_state.proofs.Names.{AreBytes, lt-ltb, eq-eqb, of_z-to_z, w8, cast_signed, cast_unsigned, RANGE_NS, mul_for, shift_for, ProcessorParts, ℤ, pos}
use Rattle.save_state.proofs.Names.{negsuc, ◌*◌, ◌%◌, ◌<◌, false, cond, ◌&&◌, eqb, ltb, get_or, ap, sym, ◌∙◌, published-is, message, messages_of, no_message}
use Rattle.save_state.proofs.Names.{message_pairs, messages, BoardFits, blocks-here, drop-blank, pairs-at, length-pairs, routed_rises_valid, Message, or_right}
use Rattle.save_state.proofs.Names.{lt-leb, message_bit_at, message_word_at, MESSAGE_FORMAT, IsBoard, read_below, ◌-◌, ◌^◌, not, ◌++◌, length, replicate}
use Rattle.save_state.proofs.Names.{messages_few, ReferenceFits, scale_for, reference, references, references_of, fault_in, write_below, fault_below, blocks}
use Rattle.save_state.proofs.Names.{option_or-end, eqb-true, cases_lt, append-nil, HvParts, HV_FORMAT, IsHv, no_hv, write, option_or, zero, suc, [], ◌∷◌, None, inl}
use Rattle.save_state.proofs.Names.{inr, references-none, references-one, references_few, version-is, some-or, processor_rows}
use Rattle.save_state.proofs.BlockRows.{rows-valid, processor-rows, reference-rows}

-- by these a search finds that the fields of a list are here, from their ranges and conditions
pub ruleset writes = (plain-here, number-written, byte-written, signed_byte-written, flag-written, flags-written, both-written, and_from)

-- a policy
pub policy-written : (p : Policy) → IsWritten policy p
policy-written Discard = choice-written 3 policy_byte policy_of Discard (omega arith) refl
policy-written Delay = choice-written 3 policy_byte policy_of Delay (omega arith) refl
policy-written Slew = choice-written 3 policy_byte policy_of Slew (omega arith) refl

-- a counter
pub counter-here : (b : BoardParts) (k : ℕ) (c : CounterParts) (bytes : List ℕ) → IsCounter c → (c.gate || leb 2 k) ≡ true → CounterFits c
    → AllHere (counter k) b c bytes
unfolding counter
counter-here b k c bytes is gate fits = search writes

-- a timer
pub timer-here : (b : BoardParts) (k : ℕ) (t : TimerParts) (bytes : List ℕ) → IsTimer t → TimerFits t → AllHere (timer k) b t bytes
unfolding timer
timer-here b k t bytes is fits =
    plain-here _ _ _ _ _ _ b t bytes (number-written 2 t.config fits.config) (grind arith)
    ⨾ plain-here _ _ _ _ _ _ b t bytes (number-written 8 t.comparator fits.comparator) (grind arith)
    ⨾ plain-here _ _ _ _ _ _ b t bytes (number-written 8 t.period fits.period) (grind arith) ⨾ tt

-- a tick line
pub ticks-here : {T : Type 0} (b : BoardParts) (t : T) (bytes : List ℕ) (of : T → TickParts) (with_line : TickParts → T → T) (up : BoardParts → T → Bool)
    → IsTickLine (of t) → up b t ≡ true → (of t).counts.due ≤ now_of b + b.accesses → LineFits (of t) → AllHere (ticks_of of with_line up) b t bytes
ticks-here b t bytes of with_line up is up_is due fits =
    let queue : queue_valid (of t) ≡ true = kept (of t) is in
    let lost : lost_valid (of t) ≡ true = sums (of t) is in
    let few : leb (of t).counts.due (now_of b + b.accesses) ≡ true = le-leb _ _ due in
    search writes
  where
    kept : (l : TickParts) → IsTickLine l → queue_valid l ≡ true
    kept l is = grind arith

    sums : (l : TickParts) → IsTickLine l → lost_valid l ≡ true
    sums l is = grind arith

-- tick line k: its ticks, and its policy
abbrev pub line_ticks : ℕ → Fields TickParts
line_ticks k = ticks_of (λ l. l) (λ x l. x) (λ b l. up_allowed b k l.up)

abbrev pub line_policy : ℕ → Fields TickParts
line_policy k = elsewhere (policy_place k) policy (λ l. l.policy) (λ x l. record l { policy = x }) ∷ []

pub line-here : (b : BoardParts) (k : ℕ) (l : TickParts) (bytes : List ℕ) → IsTickLine l → up_allowed b k l.up ≡ true → l.counts.due ≤ now_of b + b.accesses
    → LineFits l → policy_of (byte_at (policy_place k) bytes) ≡ l.policy → AllHere (line k) b l bytes
unfolding line
line-here b k l bytes is up due fits policy_is =
    all_here-append (line_ticks k) (line_policy k) b l bytes
    (ticks-here b l bytes (λ (x : TickParts). x) (λ (x y : TickParts). x) (λ (c : BoardParts) (x : TickParts). up_allowed c k x.up) is up due fits)
    (elsewhere-here _ _ _ _ b l bytes policy_is ⨾ tt)

pub record TicksHold (b : BoardParts) (l : TickParts) : Type 0 where
  pub due : l.counts.due ≤ now_of b + b.accesses
  pub valid : IsTickLine l

pub ticks-hold : (b : BoardParts) (l : TickParts) → leb l.counts.due (now_of b + b.accesses) ≡ true → queue_valid l ≡ true → lost_valid l ≡ true
    → TicksHold b l
ticks-hold b l due queue lost = record { due = leb-true l.counts.due _ due; valid = sums l queue lost }
  where
    sums : (l : TickParts) → queue_valid l ≡ true → lost_valid l ≡ true → IsTickLine l
    sums l queue lost = grind arith

version-all : (version offset adjust number : ℕ) → version % 2 ≡ 0 → (version ≡ 0 → offset ≡ 0) → (version ≡ 0 → adjust ≡ 0) → (version ≡ 0 → number ≡ 0)
    → version_valid version (eqb offset 0 && eqb adjust 0 && eqb number 0) ≡ true
version-all version offset adjust number even none none' none'' = grind arith

at_none : {A : Type 0} (khz : ℕ) (p : ProcessorParts) (value : ProcessorParts → A) → IsProcessor khz p → p.version ≡ 0 → value p ≡ value no_processor
at_none khz p value is e = ap value (is.unpublished e)

pub processor-here : (b : BoardParts) (k : ℕ) (p : ProcessorParts) (bytes : List ℕ) → IsProcessor b.guest_khz p → ProcessorFits p
    → AllHere (processor k) b p bytes
unfolding tsc page
processor-here b k p bytes is fits =
    let scale : ℕ = b.guest_khz * 1000 in
    let khz : ℕ = b.guest_khz in
    let offset = at_none khz p (λ (x : ProcessorParts). x.offset) is in
    let adjust = at_none khz p (λ (x : ProcessorParts). x.adjust) is in
    let number = at_none khz p (λ (x : ProcessorParts). x.number) is in
    let unused = version-all p.version p.offset p.adjust p.number is.version.even offset adjust number in
    let tsc_is = published-is p.version p.tsc_timestamp true (at_none khz p (λ (x : ProcessorParts). x.tsc_timestamp) is) (λ _. refl) in
    let time = published-is p.version p.system_time (ltb p.system_time RANGE_NS) (at_none khz p (λ (x : ProcessorParts). x.system_time) is)
    (λ _. lt-ltb p.system_time RANGE_NS is.time) in
    let mul = published-is p.version p.mul (eqb p.mul (mul_for scale)) (at_none khz p (λ (x : ProcessorParts). x.mul) is)
    (λ some. eq-eqb p.mul (mul_for scale) (is.mul some)) in
    let shift = published-is p.version (cast_unsigned w8 p.shift) (eqb (cast_unsigned w8 p.shift) (cast_unsigned w8 (shift_for scale)))
    (at_none khz p (λ (x : ProcessorParts). cast_unsigned w8 x.shift) is) (λ some. eq-eqb _ _ (ap (λ z. cast_unsigned w8 z) (is.shift some))) in
    let flags = published-is p.version p.flags (page_flags_valid p.flags) (at_none khz p (λ (x : ProcessorParts). x.flags) is) is.flags in
    let first = fits.tsc in
    let second = fits.page in
    search writes

-- the ranges of a page
pub record IsPage (p : ProcessorParts) : Type 0 where
  pub version : p.version < 4294967296
  pub shift : cast_signed w8 (cast_unsigned w8 p.shift) ≡ p.shift

pub page-read : (k place : ℕ) (bytes : List ℕ) → AreBytes bytes → IsPage (read (processor k) place bytes no_processor)
unfolding tsc page plain
page-read k place bytes small = record {
  version = number-below bytes small (place + 8 + 8 + 8);
  shift = ap (λ (y : ℕ). cast_signed w8 y) (of_z-to_z w8 (get_or bytes (place + 8 + 8 + 8 + 4 + 8 + 8 + 4) 0) (small (place + 8 + 8 + 8 + 4 + 8 + 8 + 4)));
}

-- a byte that is the guest's shift, read with its sign
signed-shift : (b1 b2 b3 b4 b5 b6 b7 : Bool)
    → let shift : ℤ = cond b1 (pos 4)
    (cond b2 (pos 3) (cond b3 (pos 2) (cond b4 (pos 1) (cond b5 (pos 0) (cond b6 (negsuc 0) (cond b7 (negsuc 1) (negsuc 2))))))) in
    cast_signed w8 (cast_unsigned w8 shift) ≡ shift
signed-shift true b2 b3 b4 b5 b6 b7 = refl
signed-shift false true b3 b4 b5 b6 b7 = refl
signed-shift false false true b4 b5 b6 b7 = refl
signed-shift false false false true b5 b6 b7 = refl
signed-shift false false false false true b6 b7 = refl
signed-shift false false false false false true b7 = refl
signed-shift false false false false false false true = refl
signed-shift false false false false false false false = refl

shift-signed : (hz : ℕ) → cast_signed w8 (cast_unsigned w8 (shift_for hz)) ≡ shift_for hz
unfolding shift_for
shift-signed hz = signed-shift _ _ _ _ _ _ _

pub processor-valid : (b : BoardParts) (k : ℕ) (p : ProcessorParts) → IsPage p → (place : ℕ) (bytes : List ℕ)
    → fault_in (processor k) b p place bytes ≡ None → IsProcessor b.guest_khz p
unfolding processor_rows
processor-valid b k p is place bytes none =
    let hz : ℕ = b.guest_khz * 1000 in
    let h = rows-valid bytes place _ (sym (processor-rows k b p place bytes) ∙ none) in
    let zero_byte : p.version ≡ 0 → cast_unsigned w8 p.shift ≡ 0 = λ e. grind arith in
    let byte : 0 < p.version → cast_unsigned w8 p.shift ≡ cast_unsigned w8 (shift_for hz) = λ some. grind arith in
    record {
      version = record { most = grind arith; even = grind arith };
      time = grind arith;
      unpublished = λ e.
          let zero : (p.offset ≡ 0) × (p.adjust ≡ 0) × (p.number ≡ 0) = (grind arith, grind arith, grind arith) in
          let zero' : (p.tsc_timestamp ≡ 0) × (p.system_time ≡ 0) × (p.mul ≡ 0) × (p.flags ≡ 0) = (grind arith, grind arith, grind arith, grind arith) in
          let shift : p.shift ≡ pos 0 = sym is.shift ∙ ap (cast_signed w8) (zero_byte e) in
          λ i. record {
            offset = zero.0 i;
            adjust = zero.1 i;
            number = zero.2 i;
            version = e i;
            tsc_timestamp = zero'.0 i;
            system_time = zero'.1 i;
            mul = zero'.2 i;
            shift = shift i;
            flags = zero'.3 i;
          };
      flags = λ some. grind arith;
      mul = λ some. grind arith;
      shift = λ some. sym is.shift ∙ ap (cast_signed w8) (byte some) ∙ shift-signed hz;
    }

message-here : (b : BoardParts) (k : ℕ) (m : Message) (bytes : List ℕ) → m.1 < 256 ^ 8 → routed_rises_valid b ≡ true → AllHere (message k) b m bytes
unfolding message
message-here b k m bytes fits valid =
    plain-here _ _ _ _ _ _ b m bytes (flag-written m.0) (or_right (not (eqb k 7)) (routed_rises_valid b) valid)
    ⨾ plain-here _ _ _ _ _ _ b m bytes (number-written 8 m.1 fits) refl ⨾ tt

-- the places of a valid board, whose counts of rises are valid
module _ (b : BoardParts) (is : IsBoard b) (fits : BoardFits b) (valid : routed_rises_valid b ≡ true) where
  same : length b.hpet.message_bit ≡ length b.hpet.message_word
  same = fits.numbers.bits ∙ sym fits.numbers.words

  at : (k : ℕ) → get_or (message_pairs b) k no_message ≡ (message_bit_at k b.hpet, message_word_at k b.hpet)
  at k = pairs-at false 0 b.hpet.message_bit b.hpet.message_word k same

  long : length (message_pairs b) ≡ 8
  long = length-pairs b.hpet.message_bit b.hpet.message_word same ∙ fits.numbers.bits

  here : (bytes : List ℕ) (k : ℕ) → AllHere (message k) b (get_or (message_pairs b) k no_message) bytes
  here bytes k =
      let word : (get_or (message_pairs b) k no_message).1 ≡ message_word_at k b.hpet = ap (λ (m : Message). m.1) (at k) in
      message-here b k (get_or (message_pairs b) k no_message) bytes (omega (arith, word, fits.numbers.word k)) valid

  absent : (k : ℕ) → messages_of b.format ≤ k → k < 8 → get_or (message_pairs b) k no_message ≡ no_message
  absent k le less =
      let before : b.format < MESSAGE_FORMAT = grind arith in
      let none = is.devices.hpet.plain (is.joined.messages ∙ lt-leb MESSAGE_FORMAT b.format before) k less in
      at k ∙ (λ i. (none.0 i, none.1 i))

  pub messages-here : (bytes : List ℕ) → AllHere (messages (messages_of b.format)) b b bytes
  unfolding messages message plain
  messages-here bytes =
      let few = messages_few b.format in
      blocks-here (messages_of b.format) 8 message no_message _ _ b b bytes (λ k less. refl) (omega (arith, few, long))
      (λ j low less. here bytes j) (drop-blank no_message (messages_of b.format) 8 (message_pairs b) long few absent) ⨾ tt

abbrev pub messages_read : ℕ → ℕ → List ℕ → List Message
messages_read n place bytes = read_below message no_message 0 n place bytes ++ replicate (8 - n) no_message

reference-here : (b : BoardParts) (k : ℕ) (p : HvParts) (bytes : List ℕ) → IsHv b.format b.guest_khz b.cpus p → ReferenceFits p → AllHere
    (reference k) b p bytes
unfolding reference
reference-here b k p bytes is fits =
    let unused : p.version ≡ 0 → p.number ≡ 0 = λ e. ap (λ (x : HvParts). x.number) (is.unpublished e) in
    let nowhere : p.version ≡ 0 → p.cpu ≡ 0 = λ e. ap (λ (x : HvParts). x.cpu) (is.unpublished e) in
    let version = version-is p.version p.number is.version.even unused in
    let cpu = published-is p.version p.cpu (ltb p.cpu b.cpus) nowhere (λ _. lt-ltb p.cpu b.cpus is.processor) in
    let scale = eq-eqb p.scale (scale_for b.guest_khz p.number) is.scale in
    let offset = some-or p.scale p.offset is.offset in
    let tsc_offset = some-or p.scale p.tsc_offset is.tsc_offset in
    search writes

-- the place of the page: it is there from its format on
reference-absent : (b : BoardParts) → IsBoard b → (j : ℕ) → references_of b.format ≤ j → j < 1 → get_or (b.hv ∷ []) j no_hv ≡ no_hv
reference-absent b is zero le less = elim (cases_lt b.format HV_FORMAT) [
  | inl before ↦ is.joined.hv.none before
  | inr there ↦ absurd (omega (arith, le, references-one b.format there))
]
reference-absent b is (suc j) le less = absurd (omega arith)

pub references-here : (b : BoardParts) (bytes : List ℕ) → IsBoard b → ReferenceFits b.hv → AllHere (references (references_of b.format)) b b bytes
unfolding references reference plain
references-here b bytes is fits =
    let few = references_few b.format in
    blocks-here (references_of b.format) 1 reference no_hv _ _ b b bytes (λ k less. refl) few
    (λ j low less. each j (omega (arith, few, less))) (drop-blank no_hv (references_of b.format) 1 (b.hv ∷ []) refl few (reference-absent b is)) ⨾ tt
  where
    each : (j : ℕ) → j < 1 → AllHere (reference j) b (get_or (b.hv ∷ []) j no_hv) bytes
    each zero less = reference-here b 0 b.hv bytes is.joined.hv fits
    each (suc j) less = absurd (omega arith)

-- the page that is read
abbrev pub reference_read : ℕ → ℕ → List ℕ → List HvParts
reference_read n place bytes = read_below reference no_hv 0 n place bytes ++ replicate (1 - n) no_hv

-- with a page, and without, by the bytes that are written, the page that is read and the first fault
pub written-page : (b : BoardParts) → HV_FORMAT ≤ b.format → write (references (references_of b.format)) b ≡ write (reference 0) b.hv
unfolding references blocks
written-page b there =
    ap (λ (m : ℕ). write_below reference no_hv (b.hv ∷ []) 0 m ++ []) (references-one b.format there) ∙ append-nil (write (reference 0) b.hv ++ [])
    ∙ append-nil _

pub written-none : (b : BoardParts) → b.format < HV_FORMAT → write (references (references_of b.format)) b ≡ []
unfolding references blocks
written-none b before = ap (λ (m : ℕ). write_below reference no_hv (b.hv ∷ []) 0 m ++ []) (references-none b.format before)

pub fault-page : (b : BoardParts) (place : ℕ) (bytes : List ℕ) → HV_FORMAT ≤ b.format
    → fault_in (references (references_of b.format)) b b place bytes ≡ fault_in (reference 0) b b.hv place bytes
unfolding references blocks
fault-page b place bytes there =
    ap (λ (m : ℕ). option_or (fault_below reference no_hv b (b.hv ∷ []) 0 m place bytes) None) (references-one b.format there)
    ∙ option_or-end (option_or (fault_in (reference 0) b b.hv place bytes) None) ∙ option_or-end _

pub fault-none : (b : BoardParts) (place : ℕ) (bytes : List ℕ) → b.format < HV_FORMAT → fault_in (references (references_of b.format)) b b place bytes ≡ None
unfolding references blocks
fault-none b place bytes before =
    ap (λ (m : ℕ). option_or (fault_below reference no_hv b (b.hv ∷ []) 0 m place bytes) None) (references-none b.format before)

pub ruleset reference_page = (written-page, written-none, fault-page, fault-none, append-nil)

pub read-none : (n place : ℕ) (bytes : List ℕ) → n ≡ 0 → get_or (reference_read n place bytes) 0 no_hv ≡ no_hv
read-none n place bytes none = ap (λ (m : ℕ). get_or (reference_read m place bytes) 0 no_hv) none

-- the page that a format has, or none
pub read-page : (format place : ℕ) (bytes : List ℕ) (b : BoardParts) → HV_FORMAT ≤ format
    → (read (references (references_of format)) place bytes b).hv ≡ read (reference 0) place bytes no_hv
unfolding references blocks
read-page format place bytes b there = ap (λ (m : ℕ). get_or (reference_read m place bytes) 0 no_hv) (references-one format there)

pub read-no-page : (format place : ℕ) (bytes : List ℕ) (b : BoardParts) → format < HV_FORMAT
    → (read (references (references_of format)) place bytes b).hv ≡ no_hv
unfolding references blocks
read-no-page format place bytes b before = read-none (references_of format) place bytes (references-none format before)

pub reference-kept : (n place : ℕ) (bytes : List ℕ) → n ≤ 1
    → write_below reference no_hv (get_or (reference_read n place bytes) 0 no_hv ∷ []) 0 n ≡ write_below reference no_hv (reference_read n place bytes) 0 n
reference-kept zero place bytes few = refl
reference-kept (suc zero) place bytes few = refl
reference-kept (suc (suc n)) place bytes few = absurd (omega arith)

pub reference-version : (n place : ℕ) (bytes : List ℕ) → AreBytes bytes → (get_or (reference_read n place bytes) 0 no_hv).version < 4294967296
unfolding reference plain
reference-version zero place bytes small = omega arith
reference-version (suc n) place bytes small = number-below bytes small (place + 8)

-- a page whose conditions hold is valid
pub reference-valid : (b : BoardParts) → 1 ≤ b.cpus → b.hv.version < 4294967296 → HV_FORMAT ≤ b.format → (place : ℕ) (bytes : List ℕ)
    → fault_in (reference 0) b b.hv place bytes ≡ None → IsHv b.format b.guest_khz b.cpus b.hv
reference-valid b some small there place bytes none =
    let p : HvParts = b.hv in
    let h = rows-valid bytes place _ (sym (reference-rows b p place bytes) ∙ none) in
    let scale : p.scale ≡ scale_for b.guest_khz p.number = eqb-true p.scale _ h.1.1.1.0 in
    let number : p.version ≡ 0 → p.number ≡ 0 = λ e. grind arith in
    let cpu : p.version ≡ 0 → p.cpu ≡ 0 = λ e. grind arith in
    let offset : p.scale ≡ 0 → p.offset ≡ 0 = λ e. grind arith in
    let tsc_offset : p.scale ≡ 0 → p.tsc_offset ≡ 0 = λ e. grind arith in
    record {
      version = record { most = grind arith; even = grind arith };
      none = λ before. absurd (omega (arith, there, before));
      unpublished = λ e. let none : p.scale ≡ 0 = scale ∙ ap (λ (n : ℕ). scale_for b.guest_khz n) (number e) in
          λ i. record { number = number e i; version = e i; cpu = cpu e i; scale = none i; offset = offset none i; tsc_offset = tsc_offset none i };
      processor = grind arith;
      scale = scale;
      offset = offset;
      tsc_offset = tsc_offset;
    }
