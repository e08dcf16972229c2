-- The round trip of a saved state: a board's bytes are read as the board and have no fault, and bytes with no fault are those of the board that they are; what
-- holds of each board that is read, whatever its conditions.
use Rattle.save_state.proofs.Names.{BoardFits, references_of, messages_of, fields_of, format_in, cpus_in, blank, fields_in, board_in, trailing, fault_of}
use Rattle.save_state.proofs.Names.{bytes_of, pairs-halves, Trailing, Fields, apic, no_apic, message, no_message, magic, policy_place, head, line, fault-write}
use Rattle.save_state.proofs.Names.{rewritten, rewrite_in-keep, number_at-is, length-number, read_below-at, firsts-pairs, seconds-pairs, moved, fault_in, plain}
use Rattle.save_state.proofs.Names.{elsewhere, ◌⨾◌, AreBytes, next, AllKeep, option_or-none, option_or-both, length-write, read-write, no_line, line_at, apics_of}
use Rattle.save_state.proofs.Names.{IsBoard, devices_in, byte_at, number_bytes, zip, size_of, write, write_below, read, arith, le-ltb, append-nil}
use Rattle.save_state.proofs.Names.{take_all, Policy, TickParts, policy_byte, policy_of, BoardParts, timers_of, ◌≡◌, ℕ, ◌+◌, ◌^◌, ◌<◌, ◌≤◌, Bool, cond, List}
use Rattle.save_state.proofs.Names.{[], ◌∷◌, ◌++◌, length, map, drop, Some, None, refl, ap, sym, ◌∙◌, layout, timers_least, processors_few, references_few}
use Rattle.save_state.proofs.Names.{line-size, processor, Message, read_below-after, row_value-after}
use Rattle.save_state.proofs.Names.{length-read_below, length-row_value, timer, counts_of, no_hv, no_processor, processor_at, number, byte, number-below}
use Rattle.save_state.proofs.Names.{cond-true, no_timer, timer_at, message_bit_at, message_word_at, has_messages, HV_FORMAT, ◌-◌, false, get_or, subst, le-leb}
use Rattle.save_state.proofs.Names.{timers_few, apics_few, messages_few, references-none, processor-size}
use Rattle.save_state.proofs.Blocks.{messages_read, reference-kept, read-none, reference-version, IsPage, page-read}
use Rattle.std.proofs.Math.ListN.{get_or-map}
use Rattle.save_state.proofs.{ApicLaws.AreRead, ApicLaws.apics-read, Here.fields-spelled, Here.fields-here}

-- all fields of a valid board, put into the blank one, give the board
board-covers : (b : BoardParts) → IsBoard b → BoardFits b → moved (fields_of b.format b.cpus) b blank ≡ b
unfolding layout
board-covers b is fits =
    let places = fits.numbers.bits ∙ sym fits.numbers.words in
    let same = is.joined.apics.places.timers ∙ sym is.joined.apics.places.lines in
    λ i. record b {
      hpet = record b.hpet {
        timers = sym is.joined.format.has_timers i;
        messages = sym is.joined.messages i;
        message_bit = firsts-pairs b.hpet.message_bit b.hpet.message_word places i;
        message_word = seconds-pairs b.hpet.message_bit b.hpet.message_word places i;
      };
      apic = firsts-pairs b.apic b.apic_ticks same i;
      apic_ticks = seconds-pairs b.apic b.apic_ticks same i;
    }

-- the version and the number of processors of a board's bytes
format_is : (b : BoardParts) → b.format < 256 ^ 2 → b.cpus < 256 ^ 2 → (format_in (bytes_of b) ≡ b.format) × (cpus_in (bytes_of b) ≡ b.cpus)
unfolding bytes_of head plain
format_is b format cpus =
    let bytes : List ℕ = bytes_of b in
    let second = next 0 8 bytes (number_bytes 8 magic) _ (length-number 8 magic) refl in
    let third = next 8 2 bytes (number_bytes 2 b.format) _ (length-number 2 b.format) second in
    (number_at-is 2 b.format 8 bytes _ format second, number_at-is 2 b.cpus 10 bytes _ cpus third)

fields-are : (b : BoardParts) → IsBoard b → fields_in (bytes_of b) ≡ fields_of b.format b.cpus
fields-are b is =
    let f = is.joined.format in
    let are = format_is b (omega (arith, f.last)) (omega (arith, f.most_cpus, processors_few b.format)) in
    λ i. fields_of (are.0 i) (are.1 i)

whole : (b : BoardParts) → drop 0 (bytes_of b) ≡ write (fields_of b.format b.cpus) b ++ []
unfolding bytes_of
whole b = sym (append-nil (write (fields_of b.format b.cpus) b))

pub board_in-bytes_of : (b : BoardParts) → IsBoard b → BoardFits b → board_in (bytes_of b) ≡ b
unfolding board_in
board_in-bytes_of b is fits =
    let fs : Fields BoardParts = fields_of b.format b.cpus in
    ap (λ (gs : Fields BoardParts). read gs 0 (bytes_of b) blank) (fields-are b is)
    ∙ read-write fs b b blank (bytes_of b) (fields-here b (bytes_of b) is fits [] (whole b)) 0 [] (whole b) ∙ board-covers b is fits

trailing-none : (wanted : ℕ) (bytes : List ℕ) → length bytes ≤ wanted → trailing wanted bytes ≡ None
trailing-none wanted bytes le = ap (λ (t : Bool). cond t (Some (record { place = wanted; kind = Trailing })) None) (le-ltb wanted (length bytes) le)

-- the bytes of a board have no fault
pub fault_of-bytes_of : (b : BoardParts) → IsBoard b → BoardFits b → fault_of (bytes_of b) ≡ None
unfolding fault_of bytes_of
fault_of-bytes_of b is fits =
    let fs : Fields BoardParts = fields_of b.format b.cpus in
    let bytes : List ℕ = bytes_of b in
    let here = fields-here b bytes is fits [] (whole b) in
    let size : length bytes ≡ size_of (fields_in bytes) =
    length-write fs b b bytes here ∙ ap (λ (gs : Fields BoardParts). size_of gs) (sym (fields-are b is)) in
    option_or-none (fault_in (fields_in bytes) (board_in bytes) (board_in bytes) 0 bytes) (trailing (size_of (fields_in bytes)) bytes)
    ((λ i. fault_in (fields-are b is i) (board_in-bytes_of b is fits i) (board_in-bytes_of b is fits i) 0 bytes)
    ∙ fault-write fs b b bytes here 0 [] (omega arith) (whole b))
    ∙ trailing-none (size_of (fields_in bytes)) bytes (omega (arith, size))

-- the policy of a tick line that is read
pub line-policy : (bytes : List ℕ) (k : ℕ) → k < timers_of (format_in bytes) + 2
    → (line_at k (devices_in (board_in bytes))).policy ≡ policy_of (byte_at (policy_place k) bytes)
unfolding layout line elsewhere
line-policy bytes k less =
    let at : 0 + k ≡ k = omega arith in
    ap (λ (l : TickParts). l.policy)
    (read_below-at line no_line 33 line-size 0 (timers_of (format_in bytes) + 2) _ bytes _ k less)
    ∙ ap (λ (m : ℕ). policy_of (byte_at (policy_place m) bytes)) at

-- blocks of pairs are written as they were read
pairs-kept : {A C : Type 0} (fields : ℕ → Fields (A × C)) (blank : A × C) (n : ℕ) (ts : List (A × C))
    → write_below fields blank (zip (map (λ (t : A × C). t.0) ts) (map (λ (t : A × C). t.1) ts)) 0 n ≡ write_below fields blank ts 0 n
pairs-kept {A = A} {C = C} fields blank n ts = ap (λ (us : List (A × C)). write_below fields blank us 0 n) (pairs-halves ts)

-- each field of what is read is written as it would be
board-keeps : (bytes : List ℕ) → AllKeep (fields_in bytes) (board_in bytes) 0 bytes
unfolding layout
board-keeps bytes =
    let f : ℕ = format_in bytes in
    let c : ℕ = cpus_in bytes in
    let n : ℕ = apics_of f c in
    let least = timers_least f in
    let policy_is : (k : ℕ) → k < timers_of (format_in bytes) + 2 → policy_byte (line_at k (devices_in (board_in bytes))).policy ∷ []
    ≡ policy_byte (policy_of (byte_at (policy_place k) bytes)) ∷ [] =
    λ k less. ap (λ (p : Policy). policy_byte p ∷ []) (line-policy bytes k less) in
    refl ⨾ refl ⨾ refl ⨾ refl ⨾ refl ⨾ refl ⨾ refl ⨾ refl ⨾ refl ⨾ refl ⨾ refl
    ⨾ policy_is 0 (omega (arith, least)) ⨾ policy_is 1 (omega (arith, least)) ⨾ policy_is 2 (omega (arith, least))
    ⨾ refl ⨾ refl ⨾ refl ⨾ refl ⨾ refl ⨾ refl ⨾ refl ⨾ refl ⨾ refl ⨾ refl ⨾ refl ⨾ refl ⨾ refl ⨾ refl ⨾ refl ⨾ refl ⨾ refl
    ⨾ pairs-kept apic no_apic n _ ⨾ reference-kept (references_of f) _ bytes (references_few f)
    ⨾ pairs-kept message no_message (messages_of f) _ ⨾ tt

not_trailing : (wanted : ℕ) (bytes : List ℕ) → trailing wanted bytes ≡ None → length bytes ≤ wanted
not_trailing wanted bytes none = grind arith

same-fields : (bytes : List ℕ) → write (fields_of (board_in bytes).format (board_in bytes).cpus) (board_in bytes) ≡ write (fields_in bytes) (board_in bytes)
unfolding layout
same-fields bytes = refl

-- bytes with no fault are those of the board that they are read as
pub bytes_of-board_in : (bytes : List ℕ) → AreBytes bytes → fault_of bytes ≡ None → bytes_of (board_in bytes) ≡ bytes
unfolding fault_of bytes_of
bytes_of-board_in bytes small none =
    let fs : Fields BoardParts = fields_in bytes in
    let b : BoardParts = board_in bytes in
    let parts = option_or-both (fault_in fs b b 0 bytes) (trailing (size_of fs) bytes) none in
    let all = rewritten fs (fields-spelled (format_in bytes) (cpus_in bytes)) b b 0 bytes small (omega arith) parts.0 in
    same-fields bytes ∙ rewrite_in-keep fs b 0 bytes (board-keeps bytes) ∙ all.1 ∙ take_all (size_of fs) bytes (not_trailing (size_of fs) bytes parts.1)

pub ruleset round_trip = (board_in-bytes_of, fault_of-bytes_of)

pub record IsRead (b : BoardParts) : Type 0 where
  pub three : length b.pit.counters ≡ 3
  pub bytes : length b.rtc.bytes ≡ 128
  pub timers : b.hpet.timers ≡ timers_of b.format
  pub messages : b.hpet.messages ≡ has_messages b.format
  pub no_messages : (k : ℕ) → messages_of b.format ≤ k → (message_bit_at k b.hpet ≡ false) × (message_word_at k b.hpet ≡ 0)
  pub no_timers : (k : ℕ) → timers_of b.format ≤ k → timer_at k b.hpet ≡ no_timer
  pub ten : length b.ticks ≡ 10
  pub no_lines : (k : ℕ) → timers_of b.format + 2 ≤ k → line_at k (devices_in b) ≡ no_line
  pub policies : (k : ℕ) → 2 ≤ k → k < timers_of b.format + 2 → (line_at k (devices_in b)).policy ≡ (line_at 2 (devices_in b)).policy
  pub no_rises : (k : ℕ) → counts_of b.format ≤ k → get_or b.rises k 0 ≡ 0
  pub wall_version : b.wall_version < 4294967296
  pub no_processors : (k : ℕ) → b.cpus ≤ k → processor_at b k ≡ no_processor
  pub apics : AreRead (apics_of b.format b.cpus) b
  pub no_reference : b.format < HV_FORMAT → b.hv ≡ no_hv
  pub reference_version : b.hv.version < 4294967296
  pub pages : (k : ℕ) → k < b.cpus → IsPage (processor_at b k)

none-read : (n place : ℕ) (bytes : List ℕ) → n ≤ 8 → (k : ℕ) → n ≤ k
    → (get_or (map (λ (m : Message). m.0) (messages_read n place bytes)) k false ≡ false)
    × (get_or (map (λ (m : Message). m.1) (messages_read n place bytes)) k 0 ≡ 0)
none-read n place bytes few k le =
    let all : List Message = messages_read n place bytes in
    let none : get_or all k no_message ≡ no_message = read_below-after message no_message 0 n place bytes (8 - n) k le in (
      get_or-map (λ (m : Message). m.0) all k no_message ∙ ap (λ (m : Message). m.0) none,
      get_or-map (λ (m : Message). m.1) all k no_message ∙ ap (λ (m : Message). m.1) none,
    )

hpet-policy : (bytes : List ℕ) (k : ℕ) → 2 ≤ k → policy_of (byte_at (policy_place k) bytes) ≡ policy_of (byte_at 78 bytes)
hpet-policy bytes k more = ap (λ (n : ℕ). policy_of (byte_at (76 + n) bytes)) (cond-true _ 2 k (le-leb 2 k more))

pub board-read : (bytes : List ℕ) → AreBytes bytes → cpus_in bytes ≤ 64 → IsRead (board_in bytes)
unfolding layout
board-read bytes small few_cpus =
    let f : ℕ = format_in bytes in
    let c : ℕ = cpus_in bytes in
    let n : ℕ = apics_of f c in
    let few = timers_few (format_in bytes) in
    let least = timers_least (format_in bytes) in
    record {
      three = refl;
      bytes = length-row_value byte 0 128 128 _ bytes (omega arith);
      timers = refl;
      messages = refl;
      no_messages = λ k le. none-read (messages_of f) _ bytes (messages_few f) k le;
      no_timers = λ k le. read_below-after timer no_timer 0 (timers_of f) _ bytes _ k le;
      ten = length-read_below line no_line 0 (timers_of f + 2) 10 _ bytes (omega (arith, few));
      no_lines = λ k le. read_below-after line no_line 0 (timers_of f + 2) _ bytes _ k le;
      policies = λ k more less.
          line-policy bytes k less ∙ hpet-policy bytes k more ∙ sym (line-policy bytes 2 (omega (arith, least)));
      no_rises = λ k le. row_value-after (number 8) 0 (counts_of f) _ bytes _ k le;
      wall_version = number-below bytes small _;
      no_processors = λ k le. read_below-after processor no_processor 0 c _ bytes _ k le;
      apics = apics-read n _ bytes (board_in bytes) (apics_few f c few_cpus) refl refl;
      no_reference = λ before. read-none (references_of f) _ bytes (references-none f before);
      reference_version = reference-version (references_of f) _ bytes small;
      pages = λ k less.
          subst IsPage (sym (read_below-at processor no_processor 50 processor-size 0 c _ bytes _ k less)) (page-read (0 + k) _ bytes small);
    }
