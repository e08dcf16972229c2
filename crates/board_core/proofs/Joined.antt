-- The conditions on the parts of a board are kept.
use Rattle.std.proofs.Common.{◌≡◌, ℕ, zero, suc, ◌+◌, ◌*◌, ◌^◌, ◌<◌, ◌≤◌, Bool, true, false, cond, if◌then◌else◌, leb, eqb, List, length, get_or}
use Rattle.std.proofs.Common.{set, replicate, Option, Some, None, IfSome, IsTrue, refl, sym, ap, subst, ◌∙◌, arith, inl, inr}
use Rattle.std.proofs.lemmas.Bool.{cases_lt, cases_eq}
use Rattle.std.proofs.lemmas.List.{get_or-set_same, get_or-set_other}
use Rattle.irq_edges.specs.declared.edges.Edge.{Edge}
use Rattle.irq_edges.specs.Lines.{line_numbers, level_of}
use Rattle.host_counter.specs.declared.Anchor.{Anchor}
use Rattle.host_counter.specs.Time.{time_at}
use Rattle.host_counter.proofs.Times.{time_at-mono}
use Rattle.board_types.specs.declared.access.Access.{Access}
use Rattle.board_types.specs.declared.access.Access.TheVariants.{MsrWrite}
use Rattle.board_types.specs.declared.access.TheConstants.{MSR_KVM_WALL_CLOCK}
use Rattle.board_types.specs.declared.parts.BoardParts.{BoardParts}
use Rattle.board_types.specs.declared.parts.ProcessorParts.{ProcessorParts}
use Rattle.board_types.specs.declared.parts.TheConstants.{LAST_VERSION, MOST_ACCESSES}
use Rattle.board_types.specs.Setup.{processors_of}
use Rattle.board_devices.specs.Act.{acted}
use Rattle.board_devices.specs.Lines.{levels}
use Rattle.board_devices.specs.Places.{line_at}
use Rattle.board_devices.specs.Rises.{lifts, one_if, rises_with}
use Rattle.board_devices.proofs.Rises.{at-counted}
use Rattle.board_core.specs.Time.{devices_in, now_of, time_of_access}
use Rattle.host_counter.specs.Time.{HasTime}
use Rattle.board_core.specs.Tsc.{no_processor}
use Rattle.board_core.specs.Pages.{published, prepared, published_at, processors_after}
use Rattle.board_meters.specs.Published.{published_by}
use Rattle.board_core.specs.Wall.{wall_number_after}
use Rattle.board_meters.specs.Published.{wall_version_after, publishes_wall}
use Rattle.board_core.specs.Rises.{rises_after}
use Rattle.board_core.specs.Access.{act_of, own_edges, before_look}
use Rattle.board_core.specs.Conditions.{IsFormat, IsVersion, IsWall, flags_valid, IsProcessor, AreProcessors, AreRises, IsJoined}
use Rattle.board_core.specs.Upgrade.{has_eight_timers}
use Rattle.board_core.proofs.ApicTimers.{AreApics-more}
use Rattle.board_core.specs.Conditions.{IsHv, AreApics}
use Rattle.board_core.specs.Apics.{apics_in, apics_acted}
use Rattle.board_core.specs.Hv.{no_hv, hv_in, with_page, hv_published, hv_written, hv_after}
use Rattle.board_meters.specs.Published.{publishes_hv}
use Rattle.board_core.specs.Tsc.{tsc_read}
use Rattle.board_types.specs.Legal.{is_legal, is_msr}
use Rattle.board_types.specs.declared.parts.HvParts.{HvParts}
use Rattle.board_types.specs.declared.setup.TheConstants.{LAST_FORMAT, HV_FORMAT}
use Rattle.board_types.specs.declared.access.TheConstants.{MSR_HV_REFERENCE_TSC}
use Rattle.clk_units.specs.Bits.{bit}
use Rattle.clk_units.specs.Ranges.{IsKhz}
use Rattle.hv_page.specs.Scale.{tsc_scale}
use Rattle.hv_page.specs.Page.{published as page_published, withdrawn}
use Rattle.std.proofs.lemmas.Bool.{eqb-true, leb-true, false≢true, le-leb, lt-leb}
use Rattle.std.proofs.lemmas.Nat.{le-div}
use Rattle.board_core.proofs.Timers.{timers-acted, messages-acted}

-- a count up to the board's has a time, and moves none
pub early : (b : BoardParts) (h : ℕ) → 0 < b.anchor.khz → HasTime b.anchor b.host → b.anchor.start ≤ h → h ≤ b.host
    → HasTime b.anchor h × (now_of b ≡ time_of_access b h)
early b h runs host started le =
    let before : time_at b.anchor h ≤ now_of b = time_at-mono b.anchor h b.host runs le in
    (record { started = started; range = omega (arith, before, host.range) }, omega (arith, before))

-- a version that is raised
pub IsVersion-raised : (n : ℕ) → IsVersion n → n < LAST_VERSION → IsVersion (n + 2)
IsVersion-raised n valid less = record { most = omega (arith, valid.even); even = omega (arith, valid.even) }

-- a processor at power on, and one that is published
pub IsProcessor-none : (guest_khz : ℕ) → IsProcessor guest_khz no_processor
IsProcessor-none guest_khz = record {
  version = record { most = omega arith; even = omega arith };
  time = omega arith;
  unpublished = λ e. refl;
  flags = λ less. absurd (omega arith);
  mul = λ less. absurd (omega arith);
  shift = λ less. absurd (omega arith);
}

pub IsProcessor-published : (anchor : Anchor) (guest_khz h flags : ℕ) (p : ProcessorParts) → IsVersion p.version → p.version < LAST_VERSION
    → HasTime anchor h → IsTrue (flags_valid flags) → IsProcessor guest_khz (published anchor guest_khz h flags p)
unfolding published
IsProcessor-published anchor guest_khz h flags p valid less time stable = record {
  version = IsVersion-raised p.version valid less;
  time = time.range;
  unpublished = λ e. absurd (omega (arith, e));
  flags = λ some. stable;
  mul = λ some. refl;
  shift = λ some. refl;
}

-- a list of equal elements has that element at each place, and no other beyond its end
default_at : {A : Type 0} (x : A) (n k : ℕ) → get_or (replicate n x) k x ≡ x
default_at x zero k = refl
default_at x (suc n) zero = refl
default_at x (suc n) (suc k) = default_at x n k

-- the processors, with one of them set
pub AreProcessors-set : (guest_khz cpus : ℕ) (ps : List ProcessorParts) (i : ℕ) (x : ProcessorParts) → length ps ≡ 64 → i < cpus → cpus ≤ 64
    → AreProcessors guest_khz cpus ps → IsProcessor guest_khz x → AreProcessors guest_khz cpus (set ps i x)
AreProcessors-set guest_khz cpus ps i x long inside most valid new = record { each = at; absent = others }
  where
    at : (k : ℕ) → IsProcessor guest_khz (get_or (set ps i x) k no_processor)
    at k = elim (cases_eq k i) [
      | inl same ↦ subst (λ (p : ProcessorParts). IsProcessor guest_khz p)
          (sym (ap (λ (j : ℕ). get_or (set ps i x) j no_processor) same ∙ get_or-set_same ps i x no_processor (omega (arith, long)))) new
      | inr other ↦ subst (λ (p : ProcessorParts). IsProcessor guest_khz p) (sym (get_or-set_other ps i k x no_processor other)) (valid.each k)
    ]

    others : (k : ℕ) → cpus ≤ k → get_or (set ps i x) k no_processor ≡ no_processor
    others k more = get_or-set_other ps i k x no_processor (λ (e : k ≡ i). omega (arith, e)) ∙ valid.absent k more

pub prepared-version : (anchor : Anchor) (guest_khz h : ℕ) (a : Access) (p : ProcessorParts) → (prepared anchor guest_khz h a p).version ≡ p.version
prepared-version anchor guest_khz h (MsrWrite msr v) p = refl
prepared-version anchor guest_khz h _ p = refl

-- the processors after an access
module _ (anchor : Anchor) (guest_khz cpus h : ℕ) (a : Access) (ps : List ProcessorParts) (long : length ps ≡ 64) (most : cpus ≤ 64)
    (valid : AreProcessors guest_khz cpus ps) (time : HasTime anchor h) where
  at : (place : Option ℕ) → IfSome place (λ k. k < cpus) → IfSome place (λ k. (get_or ps k no_processor).version < LAST_VERSION)
      → AreProcessors guest_khz cpus (published_at place anchor guest_khz h a ps)
  at None inside fresh = valid
  at (Some k) inside fresh =
      let p : ProcessorParts = get_or ps k no_processor in
      let same : (prepared anchor guest_khz h a p).version ≡ p.version = prepared-version anchor guest_khz h a p in
      AreProcessors-set guest_khz cpus ps k _ long inside most valid
      (IsProcessor-published anchor guest_khz h 1 (prepared anchor guest_khz h a p)
      (subst IsVersion (sym same) (valid.each k).version) (omega (arith, same, fresh)) time refl)

  pub AreProcessors-after : (cpu : ℕ) → IfSome (published_by cpu a) (λ k. k < cpus)
      → IfSome (published_by cpu a) (λ k. (get_or ps k no_processor).version < LAST_VERSION)
      → AreProcessors guest_khz cpus (processors_after anchor guest_khz cpu h a ps)
  unfolding processors_after
  AreProcessors-after cpu inside fresh = at (published_by cpu a) inside fresh

pub AreProcessors-none : (guest_khz cpus n : ℕ) → AreProcessors guest_khz cpus (replicate n no_processor)
AreProcessors-none guest_khz cpus n = record {
  each = λ k. subst (λ (p : ProcessorParts). IsProcessor guest_khz p) (sym (default_at no_processor n k)) (IsProcessor-none guest_khz);
  absent = λ k more. default_at no_processor n k;
}

-- the counts of rises after these edges
pub AreRises-after : (format n m d : ℕ) (before after : List Bool) (es : List Edge) (rises : List ℕ) → length rises ≡ 6 → n + d ≡ m
    → AreRises format n before rises
    → ((line : ℕ) → lifts line es + one_if (level_of line_numbers before line) ≤ d + one_if (level_of line_numbers after line))
    → AreRises format m after (rises_after format es rises)
AreRises-after format n m d before after es rises long sum valid lifted = record {
  most = λ k less. omega (arith, at-counted (leb 2 format) es rises k long less, valid.most k less, lifted (get_or line_numbers k 0));
  none = λ old k. ap (λ (b : Bool). get_or (cond b (rises_with es line_numbers rises) rises) k 0) (old_format format old) ∙ valid.none old k;
}
  where
    old_format : (format : ℕ) → format ≤ 1 → leb 2 format ≡ false
    old_format format le = grind arith

pub AreRises-none : (format accesses n : ℕ) (lines : List Bool) → AreRises format accesses lines (replicate n 0)
AreRises-none format accesses n lines = record {
  most = λ k less. omega (arith, default_at {A = ℕ} 0 n k);
  none = λ old k. default_at {A = ℕ} 0 n k;
}

-- the wall clock after an access
pub IsWall-after : (a : Access) (number version nsec : ℕ) → (publishes_wall a ≡ true → version < LAST_VERSION) → IsWall number version nsec
    → IsWall (wall_number_after a number) (wall_version_after a version) nsec
IsWall-after (MsrWrite msr v) number version nsec fresh valid = elim (eqb msr MSR_KVM_WALL_CLOCK) as
    (λ (b : Bool). (b ≡ true → version < LAST_VERSION) → IsWall (cond b v number) (cond b (version + 2) version) nsec) [
      | true ↦ λ less. record {
        words = IsVersion-raised version valid.words (less refl);
        unpublished = λ e. absurd
            (omega (arith, e));
        below_second = valid.below_second;
      }
      | false ↦ λ less. valid
    ] fresh
IsWall-after _ number version nsec fresh valid = valid

-- the reference page at power on, and after a publishing
pub IsHv-none : (format guest_khz cpus : ℕ) → 1 ≤ cpus → IsHv format guest_khz cpus no_hv
IsHv-none format guest_khz cpus some = record {
  version = record { most = omega arith; even = omega arith };
  none = λ before. refl;
  unpublished = λ e. refl;
  processor = omega arith;
  scale = refl;
  offset = λ e. refl;
  tsc_offset = λ e. refl;
}

-- a page before a later format, in it
pub IsHv-later : (format to guest_khz cpus : ℕ) (p : HvParts) → IsHv format guest_khz cpus p → format ≤ to → 1 ≤ cpus → IsHv to guest_khz cpus p
IsHv-later format to guest_khz cpus p valid later some = elim (cases_lt format HV_FORMAT) [
  | inl before ↦ subst (λ (q : HvParts). IsHv to guest_khz cpus q) (sym (valid.none before)) (IsHv-none to guest_khz cpus some)
  | inr there ↦ record {
    version = valid.version;
    none = λ before. absurd (omega arith);
    unpublished = valid.unpublished;
    processor = valid.processor;
    scale = valid.scale;
    offset = valid.offset;
    tsc_offset = valid.tsc_offset;
  }
]

some_scale : (khz : ℕ) → IsKhz khz → 0 < tsc_scale khz
unfolding tsc_scale
some_scale khz rate =
    let slow = rate.slow in let fast = rate.fast in
    le-div 1 (10000 * 2 ^ 64) khz (omega arith) (omega arith)

pub IsHv-published : (anchor : Anchor) (format guest_khz cpus h : ℕ) (writer : ProcessorParts) (p : HvParts) → IsKhz guest_khz → HV_FORMAT ≤ format
    → IsVersion p.version → p.version < LAST_VERSION → p.cpu < cpus → IsHv format guest_khz cpus (hv_published anchor guest_khz h writer p)
unfolding hv_published
IsHv-published anchor format guest_khz cpus h writer p rate there valid less inside = by (bit 0 p.number) refl
  where
    page : Bool → HvParts
    page b = with_page p
        (if b then page_published (hv_in p) guest_khz writer.offset (tsc_read anchor guest_khz h writer) (time_at anchor h) else withdrawn (hv_in p))

    by : (b : Bool) → bit 0 p.number ≡ b → IsHv format guest_khz cpus (page b)
    by true on =
        let some = some_scale guest_khz rate in record {
          version = IsVersion-raised p.version valid less;
          none = λ before. absurd (omega arith);
          unpublished = λ e. absurd (omega (arith, e));
          processor = inside;
          scale = sym (ap (λ (b : Bool). if b then tsc_scale guest_khz else 0) on);
          offset = λ e. absurd (omega (arith, e, some));
          tsc_offset = λ e. absurd (omega (arith, e, some));
        }
    by false off = record {
      version = IsVersion-raised p.version valid less;
      none = λ before. absurd (omega arith);
      unpublished = λ e. absurd (omega (arith, e));
      processor = inside;
      scale = sym (ap (λ (b : Bool). if b then tsc_scale guest_khz else 0) off);
      offset = λ e. refl;
      tsc_offset = λ e. refl;
    }

-- a legal write to its MSR comes in a format that has it
hv_msr : (cpus format msr v : ℕ) → IsTrue (is_legal cpus format (MsrWrite msr v)) → eqb msr MSR_HV_REFERENCE_TSC ≡ true → HV_FORMAT ≤ format
hv_msr cpus format msr v legal is =
    at (leb HV_FORMAT format) refl (subst (λ (m : ℕ). IsTrue (is_msr format m)) (eqb-true msr MSR_HV_REFERENCE_TSC is) legal)
  where
    at : (b : Bool) → leb HV_FORMAT format ≡ b → IsTrue b → HV_FORMAT ≤ format
    at true e t = leb-true HV_FORMAT format e
    at false e t = absurd (false≢true t)

-- the reference page after an access
pub IsHv-after : (anchor : Anchor) (format guest_khz cpus cpu h : ℕ) (a : Access) (ps : List ProcessorParts) (p : HvParts) → IsKhz guest_khz
    → cpu < cpus → IsTrue (is_legal cpus format a) → (publishes_hv a ≡ true → p.version < LAST_VERSION) → IsHv format guest_khz cpus p
    → IsHv format guest_khz cpus (hv_after anchor guest_khz cpu h a ps p)
unfolding hv_after
IsHv-after anchor format guest_khz cpus cpu h (MsrWrite msr v) ps p rate inside legal fresh valid = by (eqb msr MSR_HV_REFERENCE_TSC) refl fresh
  where
    by : (b : Bool) → eqb msr MSR_HV_REFERENCE_TSC ≡ b → (b ≡ true → p.version < LAST_VERSION)
        → IsHv format guest_khz cpus (if b then hv_published anchor guest_khz h (get_or ps cpu no_processor) (hv_written cpu v p) else p)
    by true is less = IsHv-published anchor format guest_khz cpus h (get_or ps cpu no_processor) (hv_written cpu v p) rate (hv_msr cpus format msr v legal is)
        valid.version (less refl) inside
    by false is less = valid
IsHv-after anchor format guest_khz cpus cpu h _ ps p rate inside legal fresh valid = valid

-- no format has more than 64 processors
pub processors_of-most : (format : ℕ) → processors_of format ≤ 64
processors_of-most format = by (leb format 1)
  where
    by : (b : Bool) → cond b 16 64 ≤ 64
    by true = omega arith
    by false = omega arith

pub most-cpus : (format cpus timers : ℕ) → IsFormat format cpus timers → cpus ≤ 64
most-cpus format cpus timers valid = omega (arith, valid.most_cpus, processors_of-most format)

-- a later format: all from 2 on have as many processors and timers as it
pub IsFormat-later : (format to cpus timers more : ℕ) → IsFormat format cpus timers → format ≤ to → to ≤ LAST_FORMAT
    → more ≡ cond (has_eight_timers to) 8 timers → IsFormat to cpus more
IsFormat-later format to cpus timers more valid later built e = elim (cases_lt to 2) [
  | inl stays ↦
      let same : format ≡ to = omega (arith, valid.least) in
      subst (λ (f : ℕ). IsFormat f cpus more) same (subst (λ (n : ℕ). IsFormat format cpus n) (sym (by false (lt-leb 2 to stays))) valid)
  | inr grows ↦ in_new grows (by true (le-leb 2 to grows))
]
  where
    by : (b : Bool) → has_eight_timers to ≡ b → more ≡ cond b 8 timers
    by b is = subst (λ (x : Bool). more ≡ cond x 8 timers) is e

    in_new : 2 ≤ to → more ≡ 8 → IsFormat to cpus more
    in_new new eight =
        let later_one : leb to 1 ≡ false = lt-leb to 1 new in record {
          least = omega arith;
          last = built;
          least_cpus = valid.least_cpus;
          most_cpus = subst (λ (b : Bool). cpus ≤ cond b 16 64) (sym later_one) (most-cpus format cpus timers valid);
          has_timers = subst (λ (b : Bool). more ≡ cond b 3 8) (sym later_one) eight;
        }

pub AreRises-later : (format to accesses : ℕ) (lines more : List Bool) (rises : List ℕ) → AreRises format accesses lines rises → format ≤ to
    → lines ≡ more → AreRises to accesses more rises
AreRises-later format to accesses lines more rises valid later same = record {
  most = λ k less. subst (λ (ls : List Bool). get_or rises k 0 ≤ accesses + one_if (level_of line_numbers ls (get_or line_numbers k 0))) same
      (valid.most k less);
  none = λ first k. valid.none (omega (arith, later)) k;
}

-- a board whose greatest count grows, where its time stays
pub IsJoined-same_time : (b : BoardParts) (host : ℕ) → IsJoined b → b.host ≤ host → time_at b.anchor host ≡ now_of b
    → IsJoined (record b { host = host })
IsJoined-same_time b host valid more same = record {
  format = valid.format;
  messages = valid.messages;
  rates = valid.rates;
  time = record { started = omega (arith, valid.time.started); range = omega (arith, same, valid.time.range) };
  accesses = valid.accesses;
  due = λ k less. let r : (line_at k (devices_in b)).counts.due ≤ time_at b.anchor host + b.accesses = omega (arith, same, valid.due k less) in r;
  wall = valid.wall;
  processors = valid.processors;
  rises = valid.rises;
  apics = AreApics-more b.format b.cpus (now_of b + b.accesses) (time_at b.anchor host + b.accesses) (apics_in b) valid.apics (omega (arith, same));
  hv = valid.hv;
}

-- a board after what an access does, by what is known of its devices, wall clock, processors and timers
pub IsJoined-acted : (b : BoardParts) (cpu h : ℕ) (a : Access) → IsJoined b → b.accesses < MOST_ACCESSES → length b.rises ≡ 6
    → IsWall (wall_number_after a b.wall_number) (wall_version_after a b.wall_version) b.wall_nsec
    → AreProcessors b.guest_khz b.cpus (processors_after b.anchor b.guest_khz cpu h a b.processors)
    → IsHv b.format b.guest_khz b.cpus (hv_after b.anchor b.guest_khz cpu h a b.processors b.hv)
    → AreApics b.format b.cpus (now_of b + b.accesses) (apics_acted cpu a (apics_in b))
    → ((k : ℕ) → k < 10 → (line_at k (acted (act_of a) (devices_in b))).counts.due ≤ (line_at k (devices_in b)).counts.due + 1)
    → ((n : ℕ) → lifts n (own_edges b a) + one_if (level_of line_numbers (levels (devices_in b)) n)
    ≤ 1 + one_if (level_of line_numbers (levels (acted (act_of a) (devices_in b))) n))
    → IsJoined (before_look b cpu h a)
unfolding before_look
IsJoined-acted b cpu h a valid few six wall processors hv apics due lifted = record {
  format = subst (λ (n : ℕ). IsFormat b.format b.cpus n) (sym (timers-acted (act_of a) (devices_in b))) valid.format;
  messages = messages-acted (act_of a) (devices_in b) ∙ valid.messages;
  rates = valid.rates;
  time = valid.time;
  accesses = omega arith;
  due = λ k less.
      let r : (line_at k (acted (act_of a) (devices_in b))).counts.due ≤ now_of b + (b.accesses + 1) =
      omega (arith, due k less, valid.due k less) in r;
  wall = wall;
  processors = processors;
  rises = AreRises-after b.format b.accesses (b.accesses + 1) 1 (levels (devices_in b)) (levels (acted (act_of a) (devices_in b))) (own_edges b a) b.rises
      six refl valid.rises lifted;
  apics = AreApics-more b.format b.cpus (now_of b + b.accesses) (now_of b + (b.accesses + 1)) (apics_acted cpu a (apics_in b)) apics (omega arith);
  hv = hv;
}

-- a board after an access that only reads
pub IsJoined-counted : (b : BoardParts) → IsJoined b → b.accesses < MOST_ACCESSES → IsJoined (record b { accesses = b.accesses + 1 })
IsJoined-counted b valid few = record {
  format = valid.format;
  messages = valid.messages;
  rates = valid.rates;
  time = valid.time;
  accesses = omega arith;
  due = λ k less. let r : (line_at k (devices_in b)).counts.due ≤ now_of b + (b.accesses + 1) = omega (arith, valid.due k less) in r;
  wall = valid.wall;
  processors = valid.processors;
  rises = record { most = λ k less. omega (arith, valid.rises.most k less); none = valid.rises.none };
  apics = AreApics-more b.format b.cpus (now_of b + b.accesses) (now_of b + (b.accesses + 1)) (apics_in b) valid.apics (omega arith);
  hv = valid.hv;
}
