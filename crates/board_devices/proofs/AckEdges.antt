-- The edges of an acknowledgement are those of its line.
use Rattle.std.proofs.Common.{◌≡◌, ◌≢◌, ℕ, zero, suc, ◌+◌, ◌<◌, ◌≤◌, Bool, true, false, cond, eqb, ltb, ◌&&◌, ◌||◌, not, List, [], ◌++◌, length, get_or}
use Rattle.std.proofs.Common.{refl, ap, sym, subst, ◌∙◌, inl, inr, append-nil, arith}
use Rattle.std.proofs.Math.Bool.{and-false}
use Rattle.std.proofs.lemmas.Bool.{cases_eq, cases_Bool, eq-eqb, ne_eqb, eqb-true, true≢false}
use Rattle.irq_edges.specs.declared.edges.Edge.{Edge}
use Rattle.irq_edges.specs.Lines.{change, changes, line_numbers}
use Rattle.rtc_registers.specs.Registers.{irqf_of}
use Rattle.hpet_comparator.specs.Parts.{route_of}
use Rattle.hpet_registers.specs.declared.parts.HpetParts.{HpetParts}
use Rattle.hpet_registers.specs.Parts.{timer_at, is_legacy}
use Rattle.tick_policy.specs.declared.parts.TickParts.{TickParts}
use Rattle.board_devices.specs.declared.parts.DeviceParts.{DeviceParts}
use Rattle.board_devices.specs.declared.act.Act.TheVariants.{Ack}
use Rattle.board_devices.specs.Places.{each, no_line}
use Rattle.board_devices.specs.Lines.{drives, routed, levels}
use Rattle.board_devices.specs.Act.{drives_now, shows_ticks, acks, acked_where, down_where, acted, first_part, act_edges}
use Rattle.board_devices.specs.private.Acks.{is_io_line, shows, output_with, shown_by, level_by}
use Rattle.board_devices.proofs.Places.{each-at}
use Rattle.board_devices.proofs.Fronts.{change-same}

-- lines that differ only where an acknowledgement of `line` reaches them
abbrev pub SameElse : ℕ → HpetParts → List TickParts → List TickParts → Type 0
SameElse line h ls ms = (k : ℕ) → k < 10 → acks line h k ≡ false → get_or ls k no_line ≡ get_or ms k no_line

module _ (d : DeviceParts) (line : ℕ) (ls ms : List TickParts) (same : SameElse line d.hpet ls ms) where
  -- the output of a timer whose tick line isn't reached
  output-same : (k : ℕ) → k < 8 → drives_now line k d.hpet ≡ false → output_with k d.hpet (get_or ls (suc (suc k)) no_line)
      ≡ output_with k d.hpet (get_or ms (suc (suc k)) no_line)
  output-same k small none = ap (output_with k d.hpet) (same (suc (suc k)) (omega arith)
      (ap (λ (b : Bool). ltb k d.hpet.timers && (shows_ticks k d.hpet && b)) none
      ∙ ap (λ (b : Bool). ltb k d.hpet.timers && b) (and-false (shows_ticks k d.hpet)) ∙ and-false (ltb k d.hpet.timers)))

  -- a timer that drives another line doesn't drive this one
  elsewhere : (n k : ℕ) → n ≢ line → drives n k d.hpet ≡ true → drives_now line k d.hpet ≡ false
  elsewhere n k other e = by_parts (is_legacy d.hpet && ltb k 2) (eqb line (cond (eqb k 0) 0 8)) (route_of (timer_at k d.hpet).config) e
    where
      by_parts : (b x : Bool) (r : ℕ) → (eqb r n && not b) ≡ true → cond b x (eqb r line) ≡ false
      by_parts true x r h = absurd (true≢false (sym h ∙ and-false (eqb r n)))
      by_parts false x r h = ne_eqb r line (λ here. other (sym (eqb-true r n (last (eqb r n) h)) ∙ here))
        where
          last : (b : Bool) → (b && true) ≡ true → b ≡ true
          last true e = refl
          last false e = e

  driven-same : (n k : ℕ) → k < 8 → n ≢ line → (drives n k d.hpet && output_with k d.hpet (get_or ls (suc (suc k)) no_line))
      ≡ (drives n k d.hpet && output_with k d.hpet (get_or ms (suc (suc k)) no_line))
  driven-same n k small other = elim (cases_Bool (drives n k d.hpet)) [
    | inl driven ↦ ap (λ (b : Bool). drives n k d.hpet && b) (output-same k small (elsewhere n k other driven))
    | inr no_line_of_it ↦ ap (λ (b : Bool). b && output_with k d.hpet (get_or ls (suc (suc k)) no_line)) no_line_of_it
        ∙ sym (ap (λ (b : Bool). b && output_with k d.hpet (get_or ms (suc (suc k)) no_line)) no_line_of_it)
  ]

  routed-same : (n m : ℕ) → m ≤ 8 → n ≢ line → routed n m (record d { ticks = ls }) ≡ routed n m (record d { ticks = ms })
  routed-same n zero few other = refl
  routed-same n (suc k) few other =
      ap (λ (b : Bool). b || (drives n k d.hpet && output_with k d.hpet (get_or ls (suc (suc k)) no_line))) (routed-same n k (omega arith) other)
      ∙ ap (λ (b : Bool). routed n k (record d { ticks = ms }) || b) (driven-same n k (omega arith) other)

  -- lines 0 and 8, by whether there is legacy replacement
  zero-same : (l : Bool) → is_legacy d.hpet ≡ l → 0 ≢ line → cond l (output_with 0 d.hpet (get_or ls 2 no_line)) (get_or ls 0 no_line).up
      ≡ cond l (output_with 0 d.hpet (get_or ms 2 no_line)) (get_or ms 0 no_line).up
  zero-same true e other = output-same 0 (omega arith)
      (ap (λ (b : Bool). cond (b && ltb 0 2) (eqb line (cond (eqb 0 0) 0 8)) (eqb (route_of (timer_at 0 d.hpet).config) line)) e
      ∙ ne_eqb line 0 (λ h. other (sym h)))
  zero-same false e other = ap (λ (l : TickParts). l.up) (same 0 (omega arith)
      (ap (λ (b : Bool). b && not (is_legacy d.hpet)) (ne_eqb line 0 (λ h. other (sym h)))))

  eight-same : (l : Bool) → is_legacy d.hpet ≡ l → 8 ≢ line → cond l (output_with 1 d.hpet (get_or ls 3 no_line)) (irqf_of d.rtc)
      ≡ cond l (output_with 1 d.hpet (get_or ms 3 no_line)) (irqf_of d.rtc)
  eight-same true e other = output-same 1 (omega arith)
      (ap (λ (b : Bool). cond (b && ltb 1 2) (eqb line (cond (eqb 1 0) 0 8)) (eqb (route_of (timer_at 1 d.hpet).config) line)) e
      ∙ ne_eqb line 8 (λ h. other (sym h)))
  eight-same false e other = refl

-- what a line shows, by its number
module _ (h : HpetParts) (ls : List TickParts) where
  seven : (b : Bool) → (((((((b || false) || false) || false) || false) || false) || false) || false) ≡ b
  seven true = refl
  seven false = refl

  six : (b : Bool) → ((((((b || false) || false) || false) || false) || false) || false) ≡ b
  six true = refl
  six false = refl

  zero-level : (l : Bool) → cond l (output_with 0 h (get_or ls 2 no_line)) (get_or ls 0 no_line).up ≡ level_by l 0 h ls
  zero-level true = sym (seven (output_with 0 h (get_or ls 2 no_line)))
  zero-level false = refl

  eight-level : output_with 1 h (get_or ls 3 no_line) ≡ level_by true 8 h ls
  eight-level = sym (six (output_with 1 h (get_or ls 3 no_line)))

  io-shows : (l : Bool) (n k : ℕ) → is_io_line n ≡ true → eqb n 0 ≡ false → eqb n 8 ≡ false → is_legacy h ≡ l → drives n k h ≡ shows l n k h
  io-shows l n k io apart0 apart8 e =
      ap (λ (b : Bool). eqb (route_of (timer_at k h).config) n && not (b && ltb k 2)) e
      ∙ by_parts (l && ltb k 2) (eqb k 0) (eqb (route_of (timer_at k h).config) n)
      ∙ ap (λ (b : Bool). cond (l && ltb k 2) (eqb n (cond (eqb k 0) 0 8)) (b && eqb (route_of (timer_at k h).config) n)) (sym io)
    where
      by_parts : (b x r : Bool) → (r && not b) ≡ cond b (eqb n (cond x 0 8)) r
      by_parts true true r = and-false r ∙ sym apart0
      by_parts true false r = and-false r ∙ sym apart8
      by_parts false x true = refl
      by_parts false x false = refl

  io-level : (l : Bool) (n m : ℕ) → is_io_line n ≡ true → eqb n 0 ≡ false → eqb n 8 ≡ false → (d : DeviceParts) → d.hpet ≡ h → is_legacy h ≡ l
      → routed n m (record d { hpet = h; ticks = ls }) ≡ shown_by l n m h ls
  io-level l n zero io apart0 apart8 d same e = refl
  io-level l n (suc k) io apart0 apart8 d same e =
      ap (λ (b : Bool). b || (drives n k h && output_with k h (get_or ls (suc (suc k)) no_line))) (io-level l n k io apart0 apart8 d same e)
      ∙ ap (λ (b : Bool). shown_by l n k h ls || (b && output_with k h (get_or ls (suc (suc k)) no_line))) (io-shows l n k io apart0 apart8 e)

  nothing : (l : Bool) (n m : ℕ) → is_io_line n ≡ false → eqb n 0 ≡ false → eqb n 8 ≡ false → shown_by l n m h ls ≡ false
  nothing l n zero io apart0 apart8 = refl
  nothing l n (suc k) io apart0 apart8 =
      ap (λ (b : Bool). b || (shows l n k h && output_with k h (get_or ls (suc (suc k)) no_line))) (nothing l n k io apart0 apart8)
      ∙ ap (λ (b : Bool). b && output_with k h (get_or ls (suc (suc k)) no_line))
      (ap (λ (b : Bool). cond (l && ltb k 2) (eqb n (cond (eqb k 0) 0 8)) (b && eqb (route_of (timer_at k h).config) n)) io ∙ by_parts (l && ltb k 2) (eqb k 0))
    where
      by_parts : (b x : Bool) → cond b (eqb n (cond x 0 8)) false ≡ false
      by_parts true true = apart0
      by_parts true false = apart8
      by_parts false x = refl

  nothing-level : (l : Bool) (n : ℕ) → is_io_line n ≡ false → eqb n 0 ≡ false → eqb n 8 ≡ false → level_by l n h ls ≡ false
  nothing-level l n io apart0 apart8 =
      ap (λ (b : Bool). cond (b && not l) (get_or ls 0 no_line).up (shown_by l n 8 h ls)) apart0 ∙ nothing l n 8 io apart0 apart8

-- where only those lines move that an acknowledgement reaches, the edges are those of its line
module _ (d : DeviceParts) (line : ℕ) (ls ms : List TickParts) (same : SameElse line d.hpet ls ms) (t : ℕ) where
  abbrev pub on_line : ℕ → List Edge
  on_line n = change t n (level_by (is_legacy d.hpet) n d.hpet ls) (level_by (is_legacy d.hpet) n d.hpet ms)

  io-changes : (n : ℕ) → is_io_line n ≡ true → eqb n 0 ≡ false → eqb n 8 ≡ false
      → change t n (routed n 8 (record d { ticks = ls })) (routed n 8 (record d { ticks = ms })) ≡ on_line n
  io-changes n io apart0 apart8 =
      ap (λ (b : Bool). change t n b (routed n 8 (record d { ticks = ms }))) (io-level d.hpet ls (is_legacy d.hpet) n 8 io apart0 apart8 d refl refl)
      ∙ ap (change t n (shown_by (is_legacy d.hpet) n 8 d.hpet ls)) (io-level d.hpet ms (is_legacy d.hpet) n 8 io apart0 apart8 d refl refl)
      ∙ ap (λ (b : Bool). change t n (cond (b && not (is_legacy d.hpet)) (get_or ls 0 no_line).up (shown_by (is_legacy d.hpet) n 8 d.hpet ls))
      (cond (b && not (is_legacy d.hpet)) (get_or ms 0 no_line).up (shown_by (is_legacy d.hpet) n 8 d.hpet ms))) (sym apart0)

  eight-changes : (l : Bool) → change t 8 (cond l (output_with 1 d.hpet (get_or ls 3 no_line)) (irqf_of d.rtc))
      (cond l (output_with 1 d.hpet (get_or ms 3 no_line)) (irqf_of d.rtc)) ≡ change t 8 (level_by l 8 d.hpet ls) (level_by l 8 d.hpet ms)
  eight-changes true = ap (λ (b : Bool). change t 8 b (output_with 1 d.hpet (get_or ms 3 no_line))) (eight-level d.hpet ls)
      ∙ ap (change t 8 (level_by true 8 d.hpet ls)) (eight-level d.hpet ms)
  eight-changes false = change-same t 8 (irqf_of d.rtc)

  zero-changes : (l : Bool) → change t 0 (cond l (output_with 0 d.hpet (get_or ls 2 no_line)) (get_or ls 0 no_line).up)
      (cond l (output_with 0 d.hpet (get_or ms 2 no_line)) (get_or ms 0 no_line).up) ≡ change t 0 (level_by l 0 d.hpet ls) (level_by l 0 d.hpet ms)
  zero-changes l =
      ap (λ (b : Bool). change t 0 b (cond l (output_with 0 d.hpet (get_or ms 2 no_line)) (get_or ms 0 no_line).up)) (zero-level d.hpet ls l)
      ∙ ap (change t 0 (level_by l 0 d.hpet ls)) (zero-level d.hpet ms l)

  -- a line that isn't reached has none
  abbrev where_reached : Bool → List Edge
  where_reached b = cond b (on_line line) []

  one : (n : ℕ) (a b : Bool) → (n ≢ line → a ≡ b) → change t n a b ≡ on_line n → change t n a b ≡ where_reached (eqb line n)
  one n a b apart here = elim (cases_eq line n) [
    | inl e ↦ here ∙ ap on_line (sym e) ∙ ap where_reached (sym (eq-eqb line n e))
    | inr other ↦ ap (λ (x : Bool). change t n x b) (apart (λ h. other (sym h))) ∙ change-same t n b ∙ ap where_reached (sym (ne_eqb line n other))
  ]

  -- a line of another number has no level
  unknown : eqb line 0 ≡ false → eqb line 8 ≡ false → is_io_line line ≡ false → [] ≡ on_line line
  unknown apart0 apart8 io = sym
      (ap (λ (b : Bool). change t line b (level_by (is_legacy d.hpet) line d.hpet ms)) (nothing-level d.hpet ls (is_legacy d.hpet) line io apart0 apart8)
      ∙ ap (change t line false) (nothing-level d.hpet ms (is_legacy d.hpet) line io apart0 apart8))

  abbrev six_of : (a b e f g h : List Edge) → List Edge
  six_of a b e f g h = a ++ (b ++ (e ++ (f ++ (g ++ (h ++ [])))))

  abbrev Whole : ℕ → Type 0
  Whole m = six_of (where_reached (eqb m 0)) (where_reached (eqb m 8)) (where_reached (eqb m 20)) (where_reached (eqb m 21)) (where_reached (eqb m 22))
      (where_reached (eqb m 23)) ≡ on_line line

  none : {a b e f g h : Bool} → a ≡ false → b ≡ false → e ≡ false → f ≡ false → g ≡ false → h ≡ false
      → six_of (where_reached a) (where_reached b) (where_reached e) (where_reached f) (where_reached g) (where_reached h) ≡ []
  none i j k l m n = rw (i, j, k, l, m, n) refl

  whole : Whole line
  whole = elim (cases_eq line 0) [
    | inl e ↦ subst Whole (sym e) (append-nil (on_line line))
    | inr not0 ↦ elim (cases_eq line 8) [
      | inl e ↦ subst Whole (sym e) (append-nil (on_line line))
      | inr not8 ↦ elim (cases_eq line 20) [
        | inl e ↦ subst Whole (sym e) (append-nil (on_line line))
        | inr not20 ↦ elim (cases_eq line 21) [
          | inl e ↦ subst Whole (sym e) (append-nil (on_line line))
          | inr not21 ↦ elim (cases_eq line 22) [
            | inl e ↦ subst Whole (sym e) (append-nil (on_line line))
            | inr not22 ↦ elim (cases_eq line 23) [
              | inl e ↦ subst Whole (sym e) (append-nil (on_line line))
              | inr not23 ↦ none (ne_eqb line 0 not0) (ne_eqb line 8 not8) (ne_eqb line 20 not20) (ne_eqb line 21 not21) (ne_eqb line 22 not22)
                  (ne_eqb line 23 not23)
                  ∙ unknown (ne_eqb line 0 not0) (ne_eqb line 8 not8)
                  (rw (ne_eqb line 20 not20, ne_eqb line 21 not21, ne_eqb line 22 not22, ne_eqb line 23 not23) refl)
            ]
          ]
        ]
      ]
    ]
  ]

  pub ack-changes : changes t line_numbers (levels (record d { ticks = ls })) (levels (record d { ticks = ms })) ≡ on_line line
  unfolding levels
  ack-changes = each_of
      (one 0 _ _ (zero-same d line ls ms same (is_legacy d.hpet) refl) (zero-changes (is_legacy d.hpet)))
      (one 8 _ _ (eight-same d line ls ms same (is_legacy d.hpet) refl) (eight-changes (is_legacy d.hpet)))
      (io 20 refl refl refl) (io 21 refl refl refl) (io 22 refl refl refl) (io 23 refl refl refl) ∙ whole
    where
      each_of : {a b e f g h p q r u v w : List Edge} → a ≡ p → b ≡ q → e ≡ r → f ≡ u → g ≡ v → h ≡ w → six_of a b e f g h ≡ six_of p q r u v w
      each_of i j k l m n = rw (i, j, k, l, m, n) refl

      io : (n : ℕ) → is_io_line n ≡ true → eqb n 0 ≡ false → eqb n 8 ≡ false
          → change t n (routed n 8 (record d { ticks = ls })) (routed n 8 (record d { ticks = ms })) ≡ where_reached (eqb line n)
      io n known apart0 apart8 = one n _ _ (routed-same d line ls ms same n 8 (omega arith)) (io-changes n known apart0 apart8)

-- an acknowledgement, in its two parts
pub edges-ack : (t line : ℕ) (d : DeviceParts) → length d.ticks ≡ 10 → act_edges t (Ack line) d
    ≡ change t line (level_by (is_legacy d.hpet) line d.hpet d.ticks)
    (level_by (is_legacy d.hpet) line d.hpet (each (λ k l. down_where (acks line d.hpet k) l) 0 d.ticks))
    ++ change t line (level_by (is_legacy d.hpet) line d.hpet (each (λ k l. down_where (acks line d.hpet k) l) 0 d.ticks))
    (level_by (is_legacy d.hpet) line d.hpet (each (λ k l. acked_where (acks line d.hpet k) l) 0 d.ticks))
unfolding acted first_part
edges-ack t line d long =
    let down : List TickParts = each (λ k l. down_where (acks line d.hpet k) l) 0 d.ticks in
    let again : List TickParts = each (λ k l. acked_where (acks line d.hpet k) l) 0 d.ticks in
    ap (λ (es : List Edge). es ++ changes t line_numbers (levels (record d { ticks = down })) (levels (record d { ticks = again })))
    (ack-changes d line d.ticks down (λ k less none. sym (left down_where k less none refl)) t)
    ∙ ap (λ (es : List Edge). change t line (level_by (is_legacy d.hpet) line d.hpet d.ticks) (level_by (is_legacy d.hpet) line d.hpet down) ++ es)
    (ack-changes d line down again (λ k less none. left down_where k less none refl ∙ sym (left acked_where k less none refl)) t)
  where
    left : (op : Bool → TickParts → TickParts) (k : ℕ) → k < 10 → acks line d.hpet k ≡ false
        → op false (get_or d.ticks k no_line) ≡ get_or d.ticks k no_line
        → get_or (each (λ i l. op (acks line d.hpet i) l) 0 d.ticks) k no_line ≡ get_or d.ticks k no_line
    left op k less none nothing =
        let place : 0 + k ≡ k = omega arith in
        each-at (λ i l. op (acks line d.hpet i) l) 0 k d.ticks no_line (omega (arith, less, long))
        ∙ ap (λ (i : ℕ). op (acks line d.hpet i) (get_or d.ticks k no_line)) place
        ∙ ap (λ (b : Bool). op b (get_or d.ticks k no_line)) none ∙ nothing
