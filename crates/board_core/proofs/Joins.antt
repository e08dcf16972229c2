-- Two runs one after the other are one run, and times in which nothing comes.
use Rattle.std.proofs.Common.{◌≡◌, ℕ, zero, suc, ◌+◌, ◌-◌, ◌*◌, ◌/◌, ◌<◌, ◌≤◌, Bool, true, false, cond, leb, max, List, [], ◌∷◌, ◌++◌, Option, Some}
use Rattle.std.proofs.Common.{None, option_map, refl, sym, ap, subst, ◌∙◌, append_assoc, append-nil, arith}
use Rattle.std.specs.Option.{option_or}
use Rattle.std.proofs.Math.Nat.{zero-div}
use Rattle.std.proofs.lemmas.Bool.{lt-leb}
use Rattle.irq_edges.specs.declared.edges.Edge.{Edge}
use Rattle.irq_edges.specs.declared.bursts.Burst.{Burst}
use Rattle.irq_edges.specs.Lines.{changes, line_numbers}
use Rattle.host_counter.specs.declared.Anchor.{Anchor}
use Rattle.host_counter.specs.declared.TimeFault.{TimeFault}
use Rattle.host_counter.specs.Time.{time_at}
use Rattle.host_counter.proofs.Times.{time_at-mono}
use Rattle.clk_units.specs.Pulses.{pulses_from}
use Rattle.hpet_registers.specs.declared.hpet.TheConstants.{HPET_HZ}
use Rattle.hpet_registers.specs.declared.parts.HpetParts.{HpetParts}
use Rattle.hpet_registers.specs.Stretch.{hpet_pulsed_times}
use Rattle.hpet_bursts.specs.Messages.{message_at}
use Rattle.local_apics.specs.declared.parts.ApicsParts.{ApicsParts}
use Rattle.local_apics.specs.Parts.{AreApicPlaces, AreIdle}
use Rattle.local_apics.proofs.Product.{run-idle}
use Rattle.local_apics.proofs.Laws.{look-idle}
use Rattle.board_types.specs.declared.access.Access.{Access}
use Rattle.board_types.specs.declared.access.Access.TheVariants.{Step}
use Rattle.board_types.specs.declared.parts.BoardParts.{BoardParts}
use Rattle.board_types.specs.declared.parts.TheConstants.{MOST_ACCESSES}
use Rattle.board_types.specs.declared.reply.Refusal.TheVariants.{NoTime, Spent}
use Rattle.board_types.specs.declared.reply.Reply.{Reply}
use Rattle.board_types.specs.declared.reply.Value.{Value}
use Rattle.board_devices.specs.declared.parts.DeviceParts.{DeviceParts}
use Rattle.board_devices.specs.Nanosecond.{at_nanosecond}
use Rattle.board_devices.specs.Lines.{levels}
use Rattle.board_devices.specs.Run.{run, onward}
use Rattle.board_core.specs.Time.{devices_in, now_of, time_of_access}
use Rattle.host_counter.specs.Time.{HasTime}
use Rattle.board_core.specs.Access.{ran_to, bursts_to, after_run, before_look, after_act, value_at, edges_of, reply_of, after_access, own_edges}
use Rattle.board_core.specs.Apics.{apics_in, tscs_by_time, after_look, with_apics}
use Rattle.board_core.specs.Nanosecond.{passed, passed_times}
use Rattle.board_core.specs.Quiet.{IsQuiet}
use Rattle.board_core.specs.Refusals.{meters_of, refusal_of}
use Rattle.board_meters.specs.Meters.{refusal_in}
use Rattle.board_devices.proofs.MainCounter.{hpet-run}
use Rattle.hpet_bursts.specs.Bursts.{bursts_of}
use Rattle.board_core.proofs.Messages.{bursts-silent, bursts-later, message_at-later}
use Rattle.board_core.proofs.Nanoseconds.{after_run-nanoseconds}
use Rattle.board_core.specs.Lazy.{is_passive, left_by}
use Rattle.board_core.proofs.Passive.{before_look-passive, apics-left, own-passive, value_at-passive}
use Rattle.board_core.proofs.Times.{time_at_max}
use Rattle.host_counter.proofs.Times.{no_fault-of_time}

-- the devices: m nanoseconds, and then n more
state-zero : (t : ℕ) (d : DeviceParts) → (run t 0 d).state ≡ d
unfolding run
state-zero t d = refl

state-suc : (t n : ℕ) (d : DeviceParts) → (run t (suc n) d).state ≡ at_nanosecond (t + n + 1) (run t n d).state
unfolding run onward
state-suc t n d = refl

edges-zero : (t : ℕ) (d : DeviceParts) → (run t 0 d).edges ≡ []
unfolding run
edges-zero t d = refl

-- the edges of nanosecond t
abbrev edges_at : ℕ → DeviceParts → List Edge
edges_at t d = changes t line_numbers (levels d) (levels (at_nanosecond t d))

edges-suc : (t n : ℕ) (d : DeviceParts) → (run t (suc n) d).edges ≡ (run t n d).edges ++ edges_at (t + n + 1) (run t n d).state
unfolding run onward
edges-suc t n d = refl

pub state-joined : (t m n : ℕ) (d : DeviceParts) → (run t (m + n) d).state ≡ (run (t + m) n (run t m d).state).state
state-joined t m zero d =
    let e : m + 0 ≡ m = omega arith in
    ap (λ (k : ℕ). (run t k d).state) e ∙ sym (state-zero (t + m) (run t m d).state)
state-joined t m (suc n) d =
    let e : m + suc n ≡ suc (m + n) = omega arith in
    let place : t + (m + n) + 1 ≡ t + m + n + 1 = omega arith in
    ap (λ (k : ℕ). (run t k d).state) e ∙ state-suc t (m + n) d
    ∙ ap (λ (k : ℕ). at_nanosecond k (run t (m + n) d).state) place
    ∙ ap (at_nanosecond (t + m + n + 1)) (state-joined t m n d)
    ∙ sym (state-suc (t + m) n (run t m d).state)

pub edges-joined : (t m n : ℕ) (d : DeviceParts) → (run t (m + n) d).edges ≡ (run t m d).edges ++ (run (t + m) n (run t m d).state).edges
edges-joined t m zero d =
    let e : m + 0 ≡ m = omega arith in
    ap (λ (k : ℕ). (run t k d).edges) e ∙ sym (append-nil (run t m d).edges)
    ∙ ap (λ (es : List Edge). (run t m d).edges ++ es) (sym (edges-zero (t + m) (run t m d).state))
edges-joined t m (suc n) d =
    let e : m + suc n ≡ suc (m + n) = omega arith in
    let place : t + (m + n) + 1 ≡ t + m + n + 1 = omega arith in
    let first : List Edge = (run t m d).edges in
    let later : List Edge = (run (t + m) n (run t m d).state).edges in
    ap (λ (k : ℕ). (run t k d).edges) e ∙ edges-suc t (m + n) d
    ∙ ap (λ (k : ℕ). (run t (m + n) d).edges ++ edges_at k (run t (m + n) d).state) place
    ∙ ap (λ (es : List Edge). es ++ edges_at (t + m + n + 1) (run t (m + n) d).state) (edges-joined t m n d)
    ∙ ap (λ (s : DeviceParts). (first ++ later) ++ edges_at (t + m + n + 1) s) (state-joined t m n d)
    ∙ append_assoc first later (edges_at (t + m + n + 1) (run (t + m) n (run t m d).state).state)
    ∙ ap (λ (es : List Edge). first ++ es) (sym (edges-suc (t + m) n (run t m d).state))

-- what is empty has empty parts
left-nil : (xs ys : List Edge) → xs ++ ys ≡ [] → xs ≡ []
left-nil [] ys e = refl
left-nil (x ∷ xs) ys e = cc

right-nil : (xs ys : List Edge) → xs ++ ys ≡ [] → ys ≡ []
right-nil [] ys e = e
right-nil (x ∷ xs) ys e = cc

-- a run without edges has none in its parts
pub edges-before : (t m n : ℕ) (d : DeviceParts) → m ≤ n → (run t n d).edges ≡ [] → (run t m d).edges ≡ []
edges-before t m n d le none =
    let e : m + (n - m) ≡ n = omega arith in
    left-nil (run t m d).edges (run (t + m) (n - m) (run t m d).state).edges
    (sym (edges-joined t m (n - m) d) ∙ ap (λ (k : ℕ). (run t k d).edges) e ∙ none)

pub edges-between : (t m n l : ℕ) (d : DeviceParts) → m + n ≤ l → (run t l d).edges ≡ [] → (run (t + m) n (run t m d).state).edges ≡ []
edges-between t m n l d le none =
    right-nil (run t m d).edges (run (t + m) n (run t m d).state).edges
    (sym (edges-joined t m n d) ∙ edges-before t (m + n) l d le none)

-- the board: its count of the host's counter plays no part
passed-host : (t x : ℕ) (b : BoardParts) → passed t (record b { host = x }) ≡ record (passed t b) { host = x }
unfolding passed
passed-host t x b = refl

passed_times-host : (t n x : ℕ) (b : BoardParts) → passed_times t n (record b { host = x }) ≡ record (passed_times t n b) { host = x }
passed_times-host t zero x b = refl
passed_times-host t (suc n) x b = ap (passed (t + n + 1)) (passed_times-host t n x b) ∙ passed-host (t + n + 1) x (passed_times t n b)

pub passed_times-joined : (t m n : ℕ) (b : BoardParts) → passed_times t (m + n) b ≡ passed_times (t + m) n (passed_times t m b)
passed_times-joined t m zero b = let e : m + 0 ≡ m = omega arith in ap (λ (k : ℕ). passed_times t k b) e
passed_times-joined t m (suc n) b =
    let e : m + suc n ≡ suc (m + n) = omega arith in
    let place : t + (m + n) + 1 ≡ t + m + n + 1 = omega arith in
    ap (λ (k : ℕ). passed_times t k b) e
    ∙ ap (λ (k : ℕ). passed k (passed_times t (m + n) b)) place
    ∙ ap (passed (t + m + n + 1)) (passed_times-joined t m n b)

-- .. and a run changes no anchor
host-after_run : (b : BoardParts) (h : ℕ) → (after_run b h).host ≡ max b.host h
unfolding after_run
host-after_run b h = refl

anchor-after_run : (b : BoardParts) (h : ℕ) → (after_run b h).anchor ≡ b.anchor
unfolding after_run
anchor-after_run b h = refl

module _ (b : BoardParts) (g h : ℕ) (runs : 0 < b.anchor.khz) where
  -- when the first run ends
  pub now-after_run : now_of (after_run b g) ≡ time_of_access b g
  now-after_run =
      ap (λ (a : Anchor). time_at a (after_run b g).host) (anchor-after_run b g)
      ∙ ap (time_at b.anchor) (host-after_run b g)
      ∙ time_at_max b.anchor b.host g runs

  pub time-after_run : time_of_access (after_run b g) h ≡ time_of_access b (max g h)
  time-after_run =
      let both : time_at b.anchor (max g h) ≡ max (time_at b.anchor g) (time_at b.anchor h) = time_at_max b.anchor g h runs in
      ap (λ (a : Anchor). max (now_of (after_run b g)) (time_at a h)) (anchor-after_run b g)
      ∙ ap (λ (t : ℕ). max t (time_at b.anchor h)) now-after_run
      ∙ omega (arith, both)

  -- the length of both runs
  pub sum-after_run : (time_of_access b g - now_of b) + (time_of_access (after_run b g) h - now_of (after_run b g)) ≡ time_of_access b (max g h) - now_of b
  sum-after_run =
      let both : time_at b.anchor (max g h) ≡ max (time_at b.anchor g) (time_at b.anchor h) = time_at_max b.anchor g h runs in
      omega (arith, both, now-after_run, time-after_run)

  pub start-after_run : now_of b + (time_of_access b g - now_of b) ≡ now_of (after_run b g)
  start-after_run = omega (arith, now-after_run)

  -- a run to one count and then to another is a run to the greater
  pub after_run-joined : after_run (after_run b g) h ≡ after_run b (max g h)
  after_run-joined =
      let m : ℕ = time_of_access b g - now_of b in
      let n : ℕ = time_of_access (after_run b g) h - now_of (after_run b g) in
      let hosts : max (after_run b g).host h ≡ max b.host (max g h) = omega (arith, host-after_run b g) in
      after_run-nanoseconds (after_run b g) h
      ∙ ap (λ (t : ℕ). record (passed_times t n (after_run b g)) { host = max (after_run b g).host h }) (sym start-after_run)
      ∙ ap (λ (x : BoardParts). record (passed_times (now_of b + m) n x) { host = max (after_run b g).host h }) (after_run-nanoseconds b g)
      ∙ ap (λ (x : BoardParts). record x { host = max (after_run b g).host h })
      (passed_times-host (now_of b + m) n (max b.host g) (passed_times (now_of b) m b))
      ∙ ap (λ (x : BoardParts). record x { host = max (after_run b g).host h }) (sym (passed_times-joined (now_of b) m n b))
      ∙ ap (λ (k : ℕ). record (passed_times (now_of b) k b) { host = max (after_run b g).host h }) sum-after_run
      ∙ ap (λ (x : ℕ). record (passed_times (now_of b) (time_of_access b (max g h) - now_of b) b) { host = x }) hosts
      ∙ sym (after_run-nanoseconds b (max g h))

-- a run to a count that isn't beyond the board's is none
pub after_run-still : (b : BoardParts) (h : ℕ) → time_at b.anchor h ≤ now_of b → h ≤ b.host → after_run b h ≡ b
after_run-still b h early before =
    let none : time_of_access b h - now_of b ≡ 0 = omega (arith, early) in
    let host : max b.host h ≡ b.host = omega (arith, before) in
    after_run-nanoseconds b h
    ∙ ap (λ (n : ℕ). record (passed_times (now_of b) n b) { host = max b.host h }) none
    ∙ ap (λ (x : ℕ). record b { host = x }) host

pub time-before : (b : BoardParts) (h : ℕ) → 0 < b.anchor.khz → h ≤ b.host → now_of b ≡ time_of_access b h
time-before b h runs le = let mono : time_at b.anchor h ≤ now_of b = time_at-mono b.anchor h b.host runs le in omega (arith, mono)

pub after_run-before : (b : BoardParts) (h : ℕ) → 0 < b.anchor.khz → h ≤ b.host → after_run b h ≡ b
after_run-before b h runs le = after_run-still b h (time_at-mono b.anchor h b.host runs le) le

time_at-zero : (anchor : Anchor) (h : ℕ) → time_at anchor 0 ≤ time_at anchor h
unfolding time_at
time_at-zero anchor h =
    let none : (0 - anchor.start) * 1000000 ≡ 0 = omega arith in
    let base : (0 - anchor.start) * 1000000 / anchor.khz ≡ 0 = ap (λ (n : ℕ). n / anchor.khz) none ∙ zero-div anchor.khz in
    omega (arith, base)

pub after_run-zero : (b : BoardParts) → after_run b 0 ≡ b
after_run-zero b = after_run-still b 0 (time_at-zero b.anchor b.host) (omega arith)

-- a board on which no line changes up to nanosecond `still`, and no message is sent up to `silent`, is quiet up to a count
pub IsQuiet-to : (b : BoardParts) (h silent still : ℕ) → HasTime b.anchor h → time_at b.anchor h ≤ silent → now_of b ≤ silent → silent ≤ still
    → (run (now_of b) (still - now_of b) (devices_in b)).edges ≡ []
    → ((k n : ℕ) → k < 8 → now_of b + n < silent → message_at k (now_of b) n b.hpet ≡ false) → AreIdle (apics_in b) → IsQuiet b h
IsQuiet-to b h silent still time within after less none messages idle = record {
  time = time;
  edges = edges-before (now_of b) (time_of_access b h - now_of b) (still - now_of b) (devices_in b) (omega (arith, within, after, less)) none;
  messages = λ k n small before. messages k n small (omega (arith, before, within, after));
  idle = idle;
}

-- a board that is quiet up to count q
module _ (b : BoardParts) (q g h : ℕ) (runs : 0 < b.anchor.khz) (quiet : IsQuiet b q) (before : g ≤ q) (within : h ≤ q) where
  parts : (m n : ℕ) → m ≡ time_of_access b g - now_of b → n ≡ time_of_access (after_run b g) h - now_of (after_run b g)
      → m + n ≤ time_of_access b q - now_of b
  parts m n ms ns =
      let mono : time_at b.anchor (max g h) ≤ time_at b.anchor q = time_at-mono b.anchor (max g h) q runs (omega arith) in
      omega (arith, ms, ns, sum-after_run b g h runs, mono)

  devices-are : devices_in (after_run b g) ≡ (ran_to b g).state
  unfolding after_run
  devices-are = refl

  pub edges-quiet : (ran_to (after_run b g) h).edges ≡ []
  edges-quiet =
      let m : ℕ = time_of_access b g - now_of b in
      let n : ℕ = time_of_access (after_run b g) h - now_of (after_run b g) in
      ap (λ (t : ℕ). (run t n (devices_in (after_run b g))).edges) (sym (start-after_run b g h runs))
      ∙ ap (λ (d : DeviceParts). (run (now_of b + m) n d).edges) devices-are
      ∙ edges-between (now_of b) m n (time_of_access b q - now_of b) (devices_in b) (parts m n refl refl) quiet.edges

  silent-quiet : (k i : ℕ) → k < 8 → i < time_of_access (after_run b g) h - now_of (after_run b g)
      → message_at k (now_of (after_run b g)) i (after_run b g).hpet ≡ false
  silent-quiet k i small less =
      let m : ℕ = time_of_access b g - now_of b in
      let hpet : (after_run b g).hpet ≡ hpet_pulsed_times (pulses_from HPET_HZ (now_of b) m) b.hpet =
      ap (λ (d : DeviceParts). d.hpet) devices-are ∙ hpet-run (now_of b) m (devices_in b) in
      ap (λ (x : HpetParts). message_at k (now_of (after_run b g)) i x) hpet
      ∙ ap (λ (t : ℕ). message_at k t i (hpet_pulsed_times (pulses_from HPET_HZ (now_of b) m) b.hpet)) (sym (start-after_run b g h runs))
      ∙ sym (message_at-later k (now_of b) m i b.hpet)
      ∙ quiet.messages k (m + i) small (omega (arith, less, parts m _ refl refl))

  pub bursts-quiet : bursts_to (after_run b g) h ≡ []
  bursts-quiet = bursts-silent 8 (now_of (after_run b g)) (time_of_access (after_run b g) h - now_of (after_run b g)) (after_run b g).hpet silent-quiet

-- idle timers stay so
pub apics-idle : (b : BoardParts) (h : ℕ) → AreApicPlaces (apics_in b) → AreIdle (apics_in b) → apics_in (after_run b h) ≡ apics_in b
unfolding after_run
apics-idle b h places idle = run-idle (tscs_by_time b) (now_of b) (time_of_access b h - now_of b) (apics_in b) places.timers places.lines idle

-- a board that ran on within a quiet time is quiet up to its end
pub IsQuiet-after_run : (b : BoardParts) (q g : ℕ) → 0 < b.anchor.khz → IsQuiet b q → g ≤ q → AreApicPlaces (apics_in b) → IsQuiet (after_run b g) q
IsQuiet-after_run b q g runs quiet before places = record {
  time = subst (λ (a : Anchor). HasTime a q) (sym (anchor-after_run b g)) quiet.time;
  edges = edges-quiet b q g q runs quiet before (omega arith);
  messages = λ k i small less. silent-quiet b q g q runs quiet before (omega arith) k i small (omega (arith, less));
  idle = subst AreIdle (sym (apics-idle b g places quiet.idle)) quiet.idle;
}

look-none : (b : BoardParts) → AreApicPlaces (apics_in b) → AreIdle (apics_in b) → after_look b ≡ b
unfolding after_look
look-none b places idle = ap (λ (a : ApicsParts). with_apics a b) (look-idle (λ k. tscs_by_time b k (now_of b)) (apics_in b) places idle)

one-counted : (b : BoardParts) (h : ℕ) → record (after_run b h) { accesses = (after_run b h).accesses + 1 }
    ≡ after_run (record b { accesses = b.accesses + 1 }) h
unfolding after_run
one-counted b h = refl

accesses-after_run : (b : BoardParts) (h : ℕ) → (after_run b h).accesses ≡ b.accesses
unfolding after_run
accesses-after_run b h = refl

-- what runs last is the look, and here it does nothing
pub after_access-idle : (b : BoardParts) (cpu g h : ℕ) (a : Access) → is_passive a ≡ true
    → 0 < b.anchor.khz → AreApicPlaces (apics_in b) → AreIdle (apics_in b)
    → after_access (after_run b g) cpu h a ≡ left_by a (after_run (record b { accesses = b.accesses + 1 }) (max g h))
unfolding after_access after_act
after_access-idle b cpu g h a passive runs places idle =
    let next : BoardParts = record (after_run b (max g h)) { accesses = (after_run b (max g h)).accesses + 1 } in
    let same : apics_in (left_by a next) ≡ apics_in b = apics-left a next ∙ apics-idle b (max g h) places idle in
    ap (λ (x : BoardParts). after_look (before_look x cpu h a)) (after_run-joined b g h runs)
    ∙ ap after_look (before_look-passive (after_run b (max g h)) cpu h a passive)
    ∙ look-none (left_by a next) (subst AreApicPlaces (sym same) places) (subst AreIdle (sym same) idle)
    ∙ ap (left_by a) (one-counted b (max g h))

-- a passive access to a quiet board is answered by its number and its value alone
abbrev reply_with : ℕ → Value → List Edge → List Burst → Reply
reply_with number value edges bursts = record { number = number; value = value; edges = edges; bursts = bursts }

pub reply_of-quiet : (b : BoardParts) (cpu q g h : ℕ) (a : Access) → is_passive a ≡ true → 0 < b.anchor.khz → IsQuiet b q → g ≤ q → h ≤ q
    → reply_of (after_run b g) cpu h a
    ≡ record { number = b.accesses + 1; value = value_at (after_run (record b { accesses = b.accesses + 1 }) (max g h)) cpu h a; edges = []; bursts = [] }
unfolding reply_of edges_of
reply_of-quiet b cpu q g h a passive runs quiet before within =
    let c : BoardParts = after_run b g in
    let value : Value = value_at (after_run c h) cpu h a in
    ap (λ (n : ℕ). reply_with (n + 1) value ((ran_to c h).edges ++ own_edges (after_run c h) a) (bursts_to c h)) (accesses-after_run b g)
    ∙ ap (λ (es : List Edge). reply_with (b.accesses + 1) value (es ++ own_edges (after_run c h) a) (bursts_to c h))
    (edges-quiet b q g h runs quiet before within)
    ∙ ap (λ (es : List Edge). reply_with (b.accesses + 1) value es (bursts_to c h)) (own-passive (after_run c h) a passive)
    ∙ ap (reply_with (b.accesses + 1) value []) (bursts-quiet b q g h runs quiet before within)
    ∙ ap (λ (v : Value). reply_with (b.accesses + 1) v [] [])
    (ap (λ (x : BoardParts). value_at x cpu h a) (after_run-joined b g h runs) ∙ sym (value_at-passive b (b.accesses + 1) (max g h) cpu h a passive))

-- an access to a board that ran on within a quiet time is one to the board before
module _ (b : BoardParts) (q g h : ℕ) (runs : 0 < b.anchor.khz) (quiet : IsQuiet b q) (before : g ≤ q) (later : g ≤ h) where
  first : ℕ
  first = time_of_access b g - now_of b

  rest : ℕ
  rest = time_of_access (after_run b g) h - now_of (after_run b g)

  latest : max g h ≡ h
  latest = omega (arith, later)

  whole : first + rest ≡ time_of_access b h - now_of b
  unfolding first rest
  whole = sum-after_run b g h runs ∙ ap (λ (x : ℕ). time_of_access b x - now_of b) latest

  inside : first ≤ time_of_access b q - now_of b
  unfolding first
  inside = let mono : time_at b.anchor g ≤ time_at b.anchor q = time_at-mono b.anchor g q runs before in omega (arith, mono)

  pub edges-later : (ran_to (after_run b g) h).edges ≡ (ran_to b h).edges
  unfolding first rest
  edges-later =
      let t : ℕ = now_of b in
      let d : DeviceParts = devices_in b in
      ap (λ (u : ℕ). (run u rest (devices_in (after_run b g))).edges) (sym (start-after_run b g h runs))
      ∙ ap (λ (x : DeviceParts). (run (t + first) rest x).edges) (devices-are b q g q runs quiet before (omega arith))
      ∙ sym
      (ap (λ (n : ℕ). (run t n d).edges) (sym whole)
      ∙ edges-joined t first rest d
      ∙ ap (λ (es : List Edge). es ++ (run (t + first) rest (run t first d).state).edges)
      (edges-before t first (time_of_access b q - t) d inside quiet.edges))

  pub bursts-after : bursts_to (after_run b g) h ≡ bursts_to b h
  unfolding first rest
  bursts-after =
      let t : ℕ = now_of b in
      let i : ℕ = pulses_from HPET_HZ t first in
      let hpet : (after_run b g).hpet ≡ hpet_pulsed_times i b.hpet =
      ap (λ (d : DeviceParts). d.hpet) (devices-are b q g q runs quiet before (omega arith)) ∙ hpet-run t first (devices_in b) in
      ap (λ (x : HpetParts). bursts_of (now_of (after_run b g)) rest x) hpet
      ∙ ap (λ (u : ℕ). bursts_of u rest (hpet_pulsed_times i b.hpet)) (sym (start-after_run b g h runs))
      ∙ sym
      (ap (λ (n : ℕ). bursts_of t n b.hpet) (sym whole)
      ∙ bursts-later 8 t first rest b.hpet (λ k at small less. quiet.messages k at small (omega (arith, less, inside))))

  there : after_run (after_run b g) h ≡ after_run b h
  there = after_run-joined b g h runs ∙ ap (after_run b) latest

  pub after_access-later : (cpu : ℕ) (a : Access) → after_access (after_run b g) cpu h a ≡ after_access b cpu h a
  unfolding after_access
  after_access-later cpu a = ap (λ (x : BoardParts). after_act x cpu h a) there

  pub reply_of-later : (cpu : ℕ) (a : Access) → reply_of (after_run b g) cpu h a ≡ reply_of b cpu h a
  unfolding reply_of edges_of
  reply_of-later cpu a =
      let c : BoardParts = after_run (after_run b g) h in
      ap (λ (n : ℕ). reply_with (n + 1) (value_at c cpu h a) ((ran_to (after_run b g) h).edges ++ own_edges c a) (bursts_to (after_run b g) h))
      (accesses-after_run b g)
      ∙ ap (λ (es : List Edge). reply_with (b.accesses + 1) (value_at c cpu h a) (es ++ own_edges c a) (bursts_to (after_run b g) h)) edges-later
      ∙ ap (reply_with (b.accesses + 1) (value_at c cpu h a) ((ran_to b h).edges ++ own_edges c a)) bursts-after
      ∙ ap (λ (x : BoardParts). reply_with (b.accesses + 1) (value_at x cpu h a) ((ran_to b h).edges ++ own_edges x a) (bursts_to b h)) there

-- a run changes nothing of what is refused
pub refusal_of-after_run : (b : BoardParts) (cpu g h : ℕ) (a : Access) → refusal_of (after_run b g) cpu h a ≡ refusal_of b cpu h a
unfolding refusal_in meters_of after_run
refusal_of-after_run b cpu g h a = refl

pub step-taken : (b : BoardParts) (cpu h : ℕ) → HasTime b.anchor h → b.accesses < MOST_ACCESSES → refusal_of b cpu h Step ≡ None
unfolding refusal_in meters_of
step-taken b cpu h time few =
    ap (λ (o : Option TimeFault). option_or (option_map NoTime o) (cond (leb MOST_ACCESSES b.accesses) (Some (Spent b.accesses)) None))
    (no_fault-of_time b.anchor h time)
    ∙ ap (λ (spent : Bool). cond spent (Some (Spent b.accesses)) None) (lt-leb MOST_ACCESSES b.accesses few)
