-- A next edge that is kept: an access that leaves the lines to go on, and meets no edge on its way, leaves it.
use Rattle.std.proofs.Common.{◌≡◌, ℕ, zero, suc, ◌+◌, ◌-◌, ◌<◌, max, refl, sym, subst, ap, ◌∙◌, arith}
use Rattle.std.proofs.Common.{List, [], ◌∷◌, ◌++◌, Option, None, Bool, true, false, cond, ◌&&◌}
use Rattle.std.specs.Option.{is_none as has_none}
use Rattle.clk_units.specs.declared.ranges.TheConstants.{RANGE_NS}
use Rattle.irq_edges.specs.declared.edges.Edge.{Edge}
use Rattle.host_counter.proofs.Times.{time_at-max}
use Rattle.board_types.specs.declared.access.Access.{Access}
use Rattle.board_types.specs.declared.access.Access.TheVariants.{PortIn, PortOut, HpetWrite, Ack}
use Rattle.board_types.specs.declared.parts.BoardParts.{BoardParts}
use Rattle.board_devices.specs.declared.parts.DeviceParts.{DeviceParts}
use Rattle.board_devices.specs.Run.{Ran, run, onward}
use Rattle.board_devices.specs.declared.act.Act.{Act}
use Rattle.board_devices.specs.Act.{acted}
use Rattle.board_devices.proofs.PortReads.{after_pit_read, run-read}
use Rattle.board_core.specs.Time.{devices_in, now_of, time_of_access}
use Rattle.host_counter.specs.Time.{time_fault}
use Rattle.board_core.specs.Conditions.{IsJoined}
use Rattle.board_core.specs.Lazy.{is_passive, left_by, caught_up, no_lag, IsLazy, IsPassed}
use Rattle.board_core.proofs.Joins.{after_run-zero}
use Rattle.board_core.proofs.LazySteps.{IsLazy-greatest}
use Rattle.board_core.proofs.Passive.{by-kind, pit-port, now-left}
use Rattle.board_core.specs.Refusals.{refusal_of}
use Rattle.board_types.specs.declared.reply.Refusal.{Refusal}
use Rattle.board_types.specs.declared.reply.Reply.{Reply}
use Rattle.board_types.specs.declared.reply.Value.{Value}
use Rattle.board_core.specs.declared.lag.Lag.{Lag}
use Rattle.clockboard_c.specs.declared.board.KeptEdge.{KeptEdge}
use Rattle.board_core.specs.Apics.{after_look}
use Rattle.board_core.specs.Access.{ran_to, after_run, value_at, before_look, after_act, own_edges, edges_of, reply_of, after_access}
use Rattle.board_core.specs.Pages.{after_clock, with_greatest}
use Rattle.std.specs.Option.{option_or}
use Rattle.board_core.specs.Next.{at_first_edge, first_edge, next_of}
use Rattle.clockboard_c.specs.Kept.{CallerBoard, LaggingBoard, seen, code_or_none, number_or_0, next_edge_of, no_kept, kept_of}
use Rattle.clockboard_c.specs.Pages.{state_after_clock}
use Rattle.clockboard_c.specs.Call.{leaves_lines, is_none, keeps_unless, keeps_next, state_unless, state_after, answered}

front-nil : (xs ys : List Edge) → xs ++ ys ≡ [] → xs ≡ []
front-nil [] ys e = refl
front-nil (x ∷ xs) ys e = cc

module _ (now k : ℕ) (d : DeviceParts) where
  before : (n : ℕ) → (run now (suc n) d).edges ≡ [] → (run now n d).edges ≡ []
  unfolding run onward
  before n e = front-nil (run now n d).edges _ e

  first-none : (n : ℕ) → (run now n d).edges ≡ [] → first_edge now n d ≡ None
  unfolding first_edge
  first-none zero e = refl
  first-none (suc n) e =
      ap (λ (o : Option ℕ). option_or o (at_first_edge (now + n + 1) (run now (suc n) d).edges)) (first-none n (before n e))
      ∙ ap (at_first_edge (now + n + 1)) e

  -- a run whose first k nanoseconds have no edge goes on as one from there
  run-on : (n : ℕ) → (run now k d).edges ≡ [] → run now (k + n) d ≡ run (now + k) n (run now k d).state
  unfolding run onward
  run-on zero e =
      let same : k + 0 ≡ k = omega arith in
      ap (λ (x : ℕ). run now x d) same ∙ ap (λ (es : List Edge). record { state = (run now k d).state; edges = es }) e
  run-on (suc n) e =
      let more : k + suc n ≡ suc (k + n) = omega arith in
      let at : now + (k + n) + 1 ≡ now + k + n + 1 = omega arith in
      ap (λ (x : ℕ). run now x d) more
      ∙ ap (onward (now + (k + n) + 1)) (run-on n e)
      ∙ ap (λ (t : ℕ). onward t (run (now + k) n (run now k d).state)) at

  -- .. and so does the search for its first edge
  first-on : (n : ℕ) → (run now k d).edges ≡ [] → first_edge now (k + n) d ≡ first_edge (now + k) n (run now k d).state
  unfolding first_edge
  first-on zero e =
      let same : k + 0 ≡ k = omega arith in
      ap (λ (x : ℕ). first_edge now x d) same ∙ first-none k e
  first-on (suc n) e =
      let more : k + suc n ≡ suc (k + n) = omega arith in
      let at : now + (k + n) + 1 ≡ now + k + n + 1 = omega arith in
      let later : run now (suc (k + n)) d ≡ run (now + k) (suc n) (run now k d).state = ap (λ (x : ℕ). run now x d) (sym more) ∙ run-on (suc n) e in
      ap (λ (x : ℕ). first_edge now x d) more
      ∙ ap (λ (o : Option ℕ). option_or o (at_first_edge (now + (k + n) + 1) (run now (suc (k + n)) d).edges)) (first-on n e)
      ∙ ap (λ (r : Ran). option_or (first_edge (now + k) n (run now k d).state) (at_first_edge (now + (k + n) + 1) r.edges)) later
      ∙ ap (λ (t : ℕ). option_or (first_edge (now + k) n (run now k d).state) (at_first_edge t (run (now + k) (suc n) (run now k d).state).edges)) at

  next-on : now + k < RANGE_NS → (run now k d).edges ≡ [] → next_of (now + k) (run now k d).state ≡ next_of now d
  next-on range e =
      let whole : k + (RANGE_NS - 1 - (now + k)) ≡ RANGE_NS - 1 - now = omega arith in
      sym (first-on (RANGE_NS - 1 - (now + k)) e) ∙ ap (λ (x : ℕ). first_edge now x d) whole

-- a read of the 8254 leaves the next edge
first-read : (port now n : ℕ) (d : DeviceParts) → first_edge now n (after_pit_read port d) ≡ first_edge now n d
unfolding first_edge
first-read port now zero d = refl
first-read port now (suc n) d =
    ap (λ (o : Option ℕ). option_or o (at_first_edge (now + n + 1) (run now (suc n) (after_pit_read port d)).edges)) (first-read port now n d)
    ∙ ap (λ (r : Ran). option_or (first_edge now n d) (at_first_edge (now + n + 1) r.edges)) (run-read port now (suc n) d)

-- the next edge after such an access is that after its run
next-ran : (s : BoardParts) (cpu h t : ℕ) (a : Access) → leaves_lines a ≡ true
    → next_of t (devices_in (after_access s cpu h a)) ≡ next_of t (ran_to s h).state
unfolding after_access after_act after_look before_look after_run acted
next-ran s cpu h t (PortIn port) leaves =
    ap (λ (x : Act). next_of t (acted x (ran_to s h).state)) (pit-port port leaves) ∙ first-read port t (RANGE_NS - 1 - t) (ran_to s h).state
next-ran s cpu h t (PortOut port byte) leaves = cc
next-ran s cpu h t (HpetWrite offset width v) leaves = cc
next-ran s cpu h t (Ack line) leaves = cc
next-ran s cpu h t _ leaves = refl

time-after : (s : BoardParts) (cpu h : ℕ) (a : Access) → 0 < s.anchor.khz → now_of (after_access s cpu h a) ≡ time_of_access s h
unfolding after_access after_act after_look before_look after_run
time-after s cpu h a runs = time_at-max s.anchor s.host h runs

no-edges : (s : BoardParts) (h : ℕ) (a : Access) → edges_of s h a ≡ [] → (ran_to s h).edges ≡ []
unfolding edges_of
no-edges s h a e = front-nil (ran_to s h).edges (own_edges (after_run s h) a) e

pub next-left :
    (s : BoardParts) (cpu h : ℕ) (a : Access) → 0 < s.anchor.khz → now_of (after_access s cpu h a) < RANGE_NS
    → leaves_lines a ≡ true → edges_of s h a ≡ [] → next_edge_of (after_access s cpu h a) ≡ next_edge_of s
next-left s cpu h a runs range leaves none =
    let to : ℕ = time_of_access s h in
    let k : ℕ = to - now_of s in
    let time : now_of (after_access s cpu h a) ≡ to = time-after s cpu h a runs in
    let sum : now_of s + k ≡ to = omega arith in
    let end : now_of s + k < RANGE_NS = omega (arith, time, sum, range) in
    next-ran s cpu h (now_of (after_access s cpu h a)) a leaves
    ∙ ap (λ (t : ℕ). next_of t (ran_to s h).state) (time ∙ sym sum)
    ∙ next-on (now_of s) k (devices_in s) end (no-edges s h a none)

and-both : (b c : Bool) → (b && c) ≡ true → (b ≡ true) × (c ≡ true)
and-both true true e = (refl, refl)
and-both true false e = cc
and-both false c e = cc

none-nil : (es : List Edge) → is_none es ≡ true → es ≡ []
none-nil [] e = refl
none-nil (x ∷ es) e = cc

-- what is kept goes on to be the next edge
kept-on :
    (s : BoardParts) (cpu h : ℕ) (a : Access) (known kept : Bool) → 0 < s.anchor.khz → now_of (after_access s cpu h a) < RANGE_NS
    → kept ≡ (leaves_lines a && is_none (edges_of s h a))
    → cond kept (kept_of known s) no_kept ≡ kept_of (known && kept) (after_access s cpu h a)
kept-on s cpu h a true true runs range is =
    let both : (leaves_lines a ≡ true) × (is_none (edges_of s h a) ≡ true) = and-both _ _ (sym is) in
    ap (λ (o : Option ℕ). record { known = true; code = code_or_none o; ns = number_or_0 o })
    (sym (next-left s cpu h a runs range both.0 (none-nil _ both.1)))
kept-on s cpu h a true false runs range is = refl
kept-on s cpu h a false true runs range is = refl
kept-on s cpu h a false false runs range is = refl

known-kept : (known : Bool) (s : BoardParts) → (kept_of known s).known ≡ known
known-kept true s = refl
known-kept false s = refl

known-where : (kept : Bool) (k : KeptEdge) → (cond kept k no_kept).known ≡ (k.known && kept)
known-where true k = right k.known where
  right : (b : Bool) → b ≡ (b && true)
  right true = refl
  right false = refl
known-where false k = right k.known where
  right : (b : Bool) → false ≡ (b && false)
  right true = refl
  right false = refl

module _ (s : BoardParts) (cpu h : ℕ) (a : Access) (after : BoardParts) (r : Reply) where
  pub still-next :
      (old new : KeptEdge) (kept : Bool) → 0 < s.anchor.khz → now_of after < RANGE_NS → after ≡ after_access s cpu h a → r ≡ reply_of s cpu h a
      → old ≡ kept_of old.known s → kept ≡ (leaves_lines a && is_none r.edges) → new ≡ cond kept old no_kept → new ≡ kept_of new.known after
  unfolding reply_of
  still-next old new kept runs range state answer keeps is next =
      let inside : now_of (after_access s cpu h a) < RANGE_NS = subst (λ (x : BoardParts). now_of x < RANGE_NS) state range in
      let none : kept ≡ (leaves_lines a && is_none (edges_of s h a)) = is ∙ ap (λ (x : Reply). leaves_lines a && is_none x.edges) answer in
      let on : new ≡ kept_of (old.known && kept) after =
      next ∙ ap (λ (k : KeptEdge). cond kept k no_kept) keeps ∙ kept-on s cpu h a old.known kept runs inside none
      ∙ ap (kept_of (old.known && kept)) (sym state) in
      let known : new.known ≡ (old.known && kept) = ap (λ (k : KeptEdge). k.known) on ∙ known-kept (old.known && kept) after in
      on ∙ ap (λ (b : Bool). kept_of b after) (sym known)

  pub answered-is :
      (seal : ℕ) (shared : Bool) (b : CallerBoard) (old new : KeptEdge) (kept : Bool)
      → record { seal = seal; shared = shared; known = old.known; state = s } ≡ b → refusal_of s cpu h a ≡ None
      → after ≡ after_access s cpu h a → r ≡ reply_of s cpu h a
      → kept ≡ (leaves_lines a && is_none r.edges) → new ≡ cond kept old no_kept
      → record { seal = seal; shared = shared; known = new.known; state = after } ≡ answered b cpu h a
  unfolding reply_of
  answered-is seal shared b old new kept of taken state answer is next =
      let keeps : kept ≡ keeps_next s cpu h a =
      is ∙ ap (λ (x : Reply). leaves_lines a && is_none x.edges) answer
      ∙ sym (ap (λ (o : Option Refusal). keeps_unless o s h a) taken) in
      let known : new.known ≡ (old.known && keeps_next s cpu h a) =
      ap (λ (k : KeptEdge). k.known) next ∙ known-where kept old ∙ ap (λ (x : Bool). old.known && x) keeps in
      let behind : after ≡ state_after s cpu h a = state ∙ sym (ap (λ (o : Option Refusal). state_unless o s cpu h a) taken) in
      ap (λ (x : Bool). record { seal = seal; shared = shared; known = x; state = after }) known
      ∙ ap (λ (x : BoardParts). record { seal = seal; shared = shared; known = old.known && keeps_next s cpu h a; state = x }) behind
      ∙ ap (λ (x : CallerBoard). answered x cpu h a) of

-- what a board that lags counts by
pub runs-caught : (s : BoardParts) (lag : Lag) → IsJoined s → 0 < (caught_up s lag).anchor.khz
unfolding after_run
runs-caught s lag joined = omega (arith, joined.rates.host.slow)

-- an access that is only counted leaves it
passive-leaves : (a : Access) → is_passive a ≡ true → true ≡ (leaves_lines a && is_none [])
passive-leaves = by-kind (λ a. true ≡ (leaves_lines a && is_none [])) refl (λ offset width. refl) (λ port is. ap (λ (b : Bool). b && true) (sym is))

reply_with : ℕ → Value → Reply
reply_with number value = record { number = number; value = value; edges = []; bursts = [] }

module _ (s after : BoardParts) (cpu h : ℕ) (a : Access) (number : ℕ) (passive : is_passive a ≡ true) (is : IsPassed s cpu h a number after) where
  pub passed-next : (old : KeptEdge) → 0 < s.anchor.khz → old ≡ kept_of old.known s → old ≡ kept_of old.known (left_by a after)
  unfolding reply_with
  passed-next old runs keeps =
      still-next s cpu h a (left_by a after) (reply_with number (value_at after cpu h a)) old old true runs
      (subst (λ (t : ℕ). t < RANGE_NS) (sym (now-left a after)) is.range) is.state (sym is.reply) keeps (passive-leaves a passive) refl

  pub passed-answered : (seal : ℕ) (shared : Bool) (b : CallerBoard) (old : KeptEdge)
      → record { seal = seal; shared = shared; known = old.known; state = s } ≡ b
      → record { seal = seal; shared = shared; known = old.known; state = left_by a after } ≡ answered b cpu h a
  unfolding reply_with
  passed-answered seal shared b old of =
      answered-is s cpu h a (left_by a after) (reply_with number (value_at after cpu h a)) seal shared b old old true of is.taken is.state
      (sym is.reply) (passive-leaves a passive) refl

-- a read of the clock leaves it
clock-where : (known timed : Bool) (s t : BoardParts) → kept_of known t ≡ kept_of known s → kept_of known (cond timed t s) ≡ kept_of known s
clock-where known true s t e = e
clock-where known false s t e = refl

clock-after : (known : Bool) (s : BoardParts) (cpu h : ℕ) → kept_of known (after_clock s cpu h) ≡ kept_of known s
unfolding after_clock
clock-after known s cpu h = refl

pub clock-next :
    (s after : BoardParts) (cpu h : ℕ) (k : KeptEdge) → after ≡ state_after_clock s cpu h → k ≡ kept_of k.known s → k ≡ kept_of k.known after
clock-next s after cpu h k is keeps =
    keeps
    ∙ sym (clock-where k.known (has_none (time_fault s.anchor h)) s (after_clock s cpu h) (clock-after k.known s cpu h))
    ∙ ap (kept_of k.known) (sym is)

-- .. and the time
time-where : (timed : Bool) (s t : BoardParts) → now_of t ≡ now_of s → now_of (cond timed t s) ≡ now_of s
time-where true s t e = e
time-where false s t e = refl

time-clock : (s : BoardParts) (cpu h : ℕ) → now_of (after_clock s cpu h) ≡ now_of s
unfolding after_clock
time-clock s cpu h = refl

pub clock-time : (s after : BoardParts) (cpu h now : ℕ) → after ≡ state_after_clock s cpu h → now ≡ now_of s → now ≡ now_of after
clock-time s after cpu h now is time =
    time ∙ sym (time-where (has_none (time_fault s.anchor h)) s (after_clock s cpu h) (time-clock s cpu h)) ∙ ap now_of (sym is)

-- a board of these parts
abbrev pub with_state : ℕ → Bool → Bool → BoardParts → CallerBoard
with_state seal shared known s = record { seal = seal; shared = shared; known = known; state = s }

-- a board whose devices were brought up, and then changed
module _ (seal : ℕ) (shared known : Bool) (lag : Lag) (state after : BoardParts) (f : BoardParts → BoardParts) (old : LaggingBoard) where
  pub changed :
      seal ≡ old.seal → shared ≡ old.shared → state ≡ (seen old).state → after ≡ f state
      → with_state seal shared false (caught_up after no_lag) ≡ with_state old.seal old.shared false (f (seen old).state)
  changed seals shares up is =
      ap (with_state seal shared false) (after_run-zero after ∙ is ∙ ap f up)
      ∙ ap (λ (n : ℕ). with_state n shared false (f (seen old).state)) seals
      ∙ ap (λ (b : Bool). with_state old.seal b false (f (seen old).state)) shares

pub settled : (after : BoardParts) (now : ℕ) → now ≡ now_of after → now ≡ now_of (caught_up after no_lag)
settled after now is = is ∙ ap now_of (sym (after_run-zero after))

-- a board with another greatest reading
module _ (s after : BoardParts) (g : ℕ) (lag : Lag) (is : after ≡ with_greatest s g) where
  pub greatest-next : (n : KeptEdge) → n ≡ kept_of n.known (caught_up s lag) → n ≡ kept_of n.known (caught_up after lag)
  unfolding after_run
  greatest-next n keeps = keeps ∙ ap (λ (x : BoardParts). kept_of n.known (caught_up x lag)) (sym is)

  pub greatest-time : (now : ℕ) → now ≡ now_of (caught_up s lag) → now ≡ now_of (caught_up after lag)
  unfolding after_run
  greatest-time now time = time ∙ ap (λ (x : BoardParts). now_of (caught_up x lag)) (sym is)

  pub greatest-lazy : IsLazy s lag.host lag.horizon → IsLazy after lag.host lag.horizon
  greatest-lazy lazy = subst (λ (x : BoardParts). IsLazy x lag.host lag.horizon) (sym is) (IsLazy-greatest s g lag.host lag.horizon lazy)

  pub closed-as : (seal told : ℕ) (shared known : Bool) (old : LaggingBoard)
      → record { seal = seal; shared = shared; known = known; lag = lag; state = s } ≡ old → g ≡ max s.greatest told
      → with_state seal false known (caught_up after lag)
      ≡ record (seen old) { shared = false; state = with_greatest (seen old).state (max (seen old).state.greatest told) }
  unfolding after_run
  closed-as seal told shared known old of most =
      ap (λ (x : BoardParts). with_state seal false known (caught_up x lag)) is
      ∙ ap (λ (n : ℕ). with_state seal false known (with_greatest (caught_up s lag) n)) most
      ∙ ap (λ (b : LaggingBoard). with_state b.seal false b.known (with_greatest (caught_up b.state b.lag) (max b.state.greatest told))) of
