-- A passive access before the horizon.
use Rattle.std.proofs.Common.{◌≡◌, ℕ, ◌+◌, ◌-◌, ◌<◌, ◌≤◌, max, Bool, true, List, [], None, length}
use Rattle.std.proofs.Common.{refl, sym, subst, ap, ◌∙◌, arith, inl, inr}
use Rattle.std.proofs.lemmas.Bool.{cases_lt}
use Rattle.clk_units.specs.declared.ranges.TheConstants.{RANGE_NS}
use Rattle.host_counter.specs.declared.Anchor.{Anchor}
use Rattle.host_counter.specs.Time.{time_at}
use Rattle.host_counter.proofs.Times.{time_at-mono}
use Rattle.local_apics.specs.Parts.{AreApicPlaces}
use Rattle.board_types.specs.declared.access.Access.{Access}
use Rattle.board_types.specs.declared.access.Access.TheVariants.{PortIn, Step}
use Rattle.board_types.specs.declared.parts.BoardParts.{BoardParts}
use Rattle.board_types.specs.declared.reply.Reply.{Reply}
use Rattle.board_types.specs.declared.parts.TheConstants.{MOST_ACCESSES}
use Rattle.board_devices.specs.Run.{Ran}
use Rattle.board_devices.proofs.PortReads.{after_pit_read, levels-read, run-read}
use Rattle.board_core.specs.private.Calls.{apics_ran_to}
use Rattle.board_core.specs.Access.{ran_to, after_run, value_at, reply_of, after_access}
use Rattle.board_core.specs.Apics.{apics_in, with_apics}
use Rattle.board_core.specs.Conditions.{AreRises, IsJoined}
use Rattle.std.specs.Prelude.{IsSome}
use Rattle.board_core.specs.Outcome.{HasTaken, IsRefused}
use Rattle.board_core.specs.Quiet.{IsQuiet}
use Rattle.board_core.specs.Refusals.{refusal_of}
use Rattle.board_core.specs.Rises.{rises_after}
use Rattle.board_core.specs.Time.{devices_in, with_devices, now_of, time_of_access}
use Rattle.host_counter.specs.Time.{HasTime}
use Rattle.board_core.proofs.Passive.{refusal_of-passive}
use Rattle.board_core.proofs.Joins.{after_run-zero, after_run-joined, now-after_run, edges-quiet, IsQuiet-after_run, after_access-idle, reply_of-quiet, refusal_of-after_run, step-taken, edges-later, reply_of-later, after_access-later}
use Rattle.board_core.specs.Lazy.{is_passive, left_by, IsLazy, IsPassed}

time-within : (anchor : Anchor) (q h : ℕ) → 0 < anchor.khz → HasTime anchor q → anchor.start ≤ h → h ≤ q → HasTime anchor h
time-within anchor q h runs time started within =
    let mono : time_at anchor h ≤ time_at anchor q = time_at-mono anchor h q runs within in
    record { started = started; range = omega (arith, mono, time.range) }

-- another count of accesses, or another greatest reading, leaves what is quiet
IsQuiet-counted : (b : BoardParts) (n h : ℕ) → IsQuiet b h → IsQuiet (record b { accesses = n }) h
IsQuiet-counted b n h quiet = record { time = quiet.time; edges = quiet.edges; messages = quiet.messages; idle = quiet.idle }

pub IsLazy-greatest : (b : BoardParts) (n host horizon : ℕ) → IsLazy b host horizon → IsLazy (record b { greatest = n }) host horizon
IsLazy-greatest b n host horizon is = record {
  quiet = λ some. let q : IsQuiet b (horizon - 1) = is.quiet some in record { time = q.time; edges = q.edges; messages = q.messages; idle = q.idle };
  from = is.from;
  time = is.time;
  lag = is.lag;
}

-- .. and so does what a read of the 8254 leaves, before a run or after it
module _ (port : ℕ) (b : BoardParts) where
  abbrev read : BoardParts
  read = left_by (PortIn port) b

  ran_to-read : (h : ℕ) → ran_to read h ≡ record { state = after_pit_read port (ran_to b h).state; edges = (ran_to b h).edges }
  ran_to-read h = run-read port (now_of b) (time_of_access b h - now_of b) (devices_in b)

  after_run-read : (h : ℕ) → after_run read h ≡ left_by (PortIn port) (after_run b h)
  unfolding after_run
  after_run-read h =
      ap (λ (r : Ran). record (with_apics (apics_ran_to b h) (with_devices r.state b)) {
        host = max b.host h;
        rises = rises_after b.format r.edges b.rises;
      }) (ran_to-read h)

  IsQuiet-read : (h : ℕ) → IsQuiet b h → IsQuiet read h
  IsQuiet-read h quiet = record {
    time = quiet.time;
    edges = ap (λ (r : Ran). r.edges) (ran_to-read h) ∙ quiet.edges;
    messages = quiet.messages;
    idle = quiet.idle;
  }

  pub IsJoined-read : IsJoined b → IsJoined read
  IsJoined-read joined = record {
    format = joined.format;
    messages = joined.messages;
    rates = joined.rates;
    time = joined.time;
    accesses = joined.accesses;
    due = joined.due;
    wall = joined.wall;
    processors = joined.processors;
    rises = subst (λ (ls : List Bool). AreRises b.format b.accesses ls b.rises) (sym (levels-read port (devices_in b))) joined.rises;
    apics = joined.apics;
    hv = joined.hv;
  }

pub after_run-left : (a : Access) (b : BoardParts) (h : ℕ) → after_run (left_by a b) h ≡ left_by a (after_run b h)
after_run-left (PortIn port) b h = after_run-read port b h
after_run-left _ b h = refl

pub IsLazy-left : (a : Access) (b : BoardParts) (host horizon : ℕ) → IsLazy b host horizon → IsLazy (left_by a b) host horizon
IsLazy-left (PortIn port) b host horizon is = record {
  quiet = λ some. IsQuiet-read port b (horizon - 1) (is.quiet some);
  from = is.from;
  time = is.time;
  lag = is.lag;
}
IsLazy-left _ b host horizon is = is

-- .. and so does a run to the count to which a board lags
apic-places : (b : BoardParts) → IsJoined b → AreApicPlaces (apics_in b)
apic-places b joined = record {
  timers = joined.apics.places.timers;
  lines = joined.apics.places.lines;
  policy = λ k less. (joined.apics.places.place k less).policy;
}

pub IsLazy-caught : (b : BoardParts) (host horizon : ℕ) → IsJoined b → IsLazy b host horizon → IsLazy (after_run b host) host horizon
unfolding after_run
IsLazy-caught b host horizon joined is = record {
  quiet = λ some. IsQuiet-after_run b (horizon - 1) host (omega (arith, joined.rates.host.slow)) (is.quiet some) is.lag (apic-places b joined);
  from = λ some. omega (arith, is.from some);
  time = is.time;
  lag = is.lag;
}

-- a run to where it lags, done twice
pub caught-again : (b : BoardParts) (host : ℕ) → IsJoined b → after_run (after_run b host) host ≡ after_run b host
caught-again b host joined =
    let same : max host host ≡ host = omega arith in
    after_run-joined b host host (omega (arith, joined.rates.host.slow)) ∙ ap (after_run b) same

-- a board that doesn't lag, and of which no horizon is known
pub IsLazy-none : (b : BoardParts) → IsLazy b 0 0
IsLazy-none b = record {
  quiet = λ none. absurd (omega (arith, none));
  from = λ none. absurd (omega (arith, none));
  time = λ none. absurd (omega (arith, none));
  lag = omega arith;
}

-- the time of a board that lags is in range
pub range-caught : (b : BoardParts) (host horizon : ℕ) → IsJoined b → IsLazy b host horizon → now_of (after_run b host) < RANGE_NS
range-caught b host horizon joined is = elim (cases_lt 0 host) [
  | inl some ↦
      let now : now_of (after_run b host) ≡ time_of_access b host = now-after_run b host 0 (omega (arith, joined.rates.host.slow)) in
      omega (arith, now, joined.time.range, (is.time some).range)
  | inr none ↦
      let zero : host ≡ 0 = omega (arith, none) in
      let same : after_run b host ≡ b = ap (after_run b) zero ∙ after_run-zero b in
      subst (λ (x : BoardParts). now_of x < RANGE_NS) (sym same) joined.time.range
]

-- .. and the time to which it runs
pub now-lagging : (b c : BoardParts) (host now : ℕ) → b ≡ c → IsJoined b → now ≡ now_of (after_run c host) → now ≡ time_of_access b host
now-lagging b c host now same joined is =
    is ∙ ap (λ (x : BoardParts). now_of (after_run x host)) (sym same) ∙ now-after_run b host 0 (omega (arith, joined.rates.host.slow))

-- a count that isn't beyond the one to which it lags moves no time
pub now-counted : (b : BoardParts) (n host h : ℕ) → h ≤ host → now_of (after_run (record b { accesses = n }) (max host h)) ≡ now_of (after_run b host)
unfolding after_run
now-counted b n host h within =
    let same : max host h ≡ host = omega (arith, within) in
    ap (λ (g : ℕ). now_of (after_run (record b { accesses = n }) g)) same

module _ (b : BoardParts) (host horizon cpu h : ℕ) (joined : IsJoined b) (is : IsLazy b host horizon) (before : h < horizon)
    (starts : h < host → b.anchor.start ≤ h) where
  runs : 0 < b.anchor.khz
  runs = omega (arith, joined.rates.host.slow)

  quiet : IsQuiet b (horizon - 1)
  quiet = is.quiet (omega (arith, before))

  started : b.anchor.start ≤ h
  started = elim (cases_lt h host) [
    | inl lower ↦ starts lower
    | inr later ↦ omega (arith, later, is.from (omega (arith, before)), joined.time.started)
  ]

  pub IsLazy-step : (n : ℕ) → IsLazy (record b { accesses = n }) (max host h) horizon
  IsLazy-step n = record {
    quiet = λ some. IsQuiet-counted b n (horizon - 1) (is.quiet some);
    from = λ some. omega (arith, is.from some);
    time = λ some. time-within b.anchor (horizon - 1) (max host h) runs quiet.time (omega (arith, started)) (omega (arith, before, is.lag));
    lag = omega (arith, before, is.lag);
  }

  step-time : HasTime b.anchor h
  step-time = time-within b.anchor (horizon - 1) h runs quiet.time started (omega (arith, before))

  range-step : (n : ℕ) → now_of (after_run (record b { accesses = n }) (max host h)) < RANGE_NS
  range-step n =
      let time : HasTime b.anchor (max host h) = time-within b.anchor (horizon - 1) (max host h) runs quiet.time (omega (arith, started)) (omega (arith, before, is.lag)) in
      let now : now_of (after_run (record b { accesses = n }) (max host h)) ≡ time_of_access b (max host h) =
      now-after_run (record b { accesses = n }) (max host h) 0 runs in
      omega (arith, now, time.range, joined.time.range)

  pub ran_to-step : (ran_to (after_run b host) h).edges ≡ []
  ran_to-step = edges-quiet b (horizon - 1) host h runs quiet is.lag (omega (arith, before))

  module _ (a : Access) (passive : is_passive a ≡ true) where
    pub refusal_of-counted : b.accesses < MOST_ACCESSES → refusal_of (after_run b host) cpu h a ≡ None
    refusal_of-counted spare =
        refusal_of-passive (after_run b host) cpu h a passive ∙ (refusal_of-after_run b cpu host h Step ∙ step-taken b cpu h step-time spare)

    pub reply_of-counted : reply_of (after_run b host) cpu h a ≡ record {
      number = b.accesses + 1;
      value = value_at (after_run (record b { accesses = b.accesses + 1 }) (max host h)) cpu h a;
      edges = [];
      bursts = [];
    }
    reply_of-counted = reply_of-quiet b cpu (horizon - 1) host h a passive runs quiet is.lag (omega (arith, before))

    pub after_access-counted :
        after_access (after_run b host) cpu h a ≡ left_by a (after_run (record b { accesses = b.accesses + 1 }) (max host h))
    after_access-counted = after_access-idle b cpu host h a passive runs
        (apic-places b joined) quiet.idle

    pub passed : b.accesses < MOST_ACCESSES
        → IsPassed (after_run b host) cpu h a (b.accesses + 1) (after_run (record b { accesses = b.accesses + 1 }) (max host h))
    passed spare = record {
      taken = refusal_of-counted spare;
      reply = reply_of-counted;
      state = sym after_access-counted;
      still = ran_to-step;
      range = range-step (b.accesses + 1);
    }

-- an access at a count that isn't before the one to which a board lags: one run takes the board there. A board that
-- doesn't lag is at 0
taken-later : (b after : BoardParts) (q g h cpu : ℕ) (a : Access) (told : Reply) → 0 < b.anchor.khz → IsQuiet b q → g ≤ q → g ≤ h
    → HasTaken b cpu h a after told → HasTaken (after_run b g) cpu h a after told
taken-later b after q g h cpu a told runs quiet within later is =
    let same : (ran_to (after_run b g) h).edges ≡ (ran_to b h).edges = edges-later b q g h runs quiet within later in
    record {
      taken = refusal_of-after_run b cpu g h a ∙ is.taken;
      reply = is.reply ∙ sym (reply_of-later b q g h runs quiet within later cpu a);
      state = is.state ∙ sym (after_access-later b q g h runs quiet within later cpu a);
      of_lines = is.of_lines;
      few_run = omega (arith, ap length same, is.few_run);
      few = omega (arith, ap length same, is.few);
    }

pub taken-caught : (c b after new : BoardParts) (host horizon h cpu : ℕ) (a : Access) (told : Reply) → after_run b host ≡ c → 0 < b.anchor.khz
    → IsLazy b host horizon → host ≤ h → new ≡ after → HasTaken b cpu h a after told → HasTaken c cpu h a new told
taken-caught c b after new host horizon h cpu a told there rated lazy later same is =
    let taken : HasTaken b cpu h a new told = subst (λ (x : BoardParts). HasTaken b cpu h a x told) (sym same) is in
    subst (λ (x : BoardParts). HasTaken x cpu h a new told) there (elim (cases_lt 0 host) [
      | inl lags ↦ taken-later b new (horizon - 1) host h cpu a told rated (lazy.quiet (omega (arith, lags, lazy.lag))) lazy.lag later taken
      | inr none ↦
          let zero : host ≡ 0 = omega (arith, none) in
          subst (λ (x : BoardParts). HasTaken x cpu h a new told) (sym (ap (after_run b) zero ∙ after_run-zero b)) taken
    ])

-- .. or a refusal
pub refused-caught : (c b after : BoardParts) (host h cpu : ℕ) (a : Access) (before told : Reply) → after_run b host ≡ c
    → IsRefused b cpu h a after before told → IsRefused c cpu h a (after_run after host) before told
refused-caught c b after host h cpu a before told there is =
    subst (λ (x : BoardParts). IsRefused x cpu h a (after_run after host) before told) there (record {
      refused = subst IsSome (sym (refusal_of-after_run b cpu host h a)) is.refused;
      unchanged = ap (λ (x : BoardParts). after_run x host) is.unchanged;
      untouched = is.untouched;
    })
