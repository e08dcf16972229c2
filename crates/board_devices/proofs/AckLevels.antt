-- An acknowledgement of a line, by what its tick lines show.
use Rattle.std.proofs.Common.{◌≡◌, ℕ, zero, suc, ◌+◌, ◌<◌, ◌≤◌, Bool, true, false, cond, eqb, ◌&&◌, ◌||◌, not, ◌⊎◌, List, length, get_or}
use Rattle.std.proofs.Common.{refl, ap, sym, subst, ◌∙◌, inl, inr, arith}
use Rattle.std.proofs.Math.Bool.{and-false, or-false}
use Rattle.std.proofs.lemmas.Bool.{cases_eq, ne_eqb, le-ltb, lt-ltb}
use Rattle.hpet_comparator.specs.declared.parts.TimerParts.{TimerParts}
use Rattle.hpet_comparator.specs.Parts.{is_level, route_of}
use Rattle.hpet_registers.specs.declared.parts.HpetParts.{HpetParts}
use Rattle.hpet_registers.specs.Parts.{IsHpet, IsPlace, no_timer, timer_at, is_legacy}
use Rattle.hpet_registers.specs.Outputs.{level_output, is_message}
use Rattle.tick_policy.specs.declared.parts.TickParts.{TickParts}
use Rattle.tick_policy.specs.Line.{acked}
use Rattle.board_devices.specs.declared.acks.Levels.{Levels}
use Rattle.board_devices.specs.Places.{each, no_line}
use Rattle.board_devices.specs.Act.{drives_now, shows_ticks, acks, acked_where, down_where}
use Rattle.board_devices.specs.private.Acks.{is_io_line, shows, timer_acks, output_with, timer_levels, shown_by}
use Rattle.board_devices.proofs.Places.{each-at, length-each, same_places, all_eight}

pub same_levels : {a b e f i j : Bool} → a ≡ b → e ≡ f → i ≡ j
    → ◌≡◌ {A = Levels} (record { before = a; between = e; after = i }) (record { before = b; between = f; after = j })
same_levels x y z = rw (x, y, z) refl

-- one of edge type that drives it is acknowledged
pub levels-edge : (line k : ℕ) (h : HpetParts) (l : TickParts) → k < h.timers → is_level (timer_at k h) ≡ false → is_message k h ≡ false
    → drives_now line k h ≡ true
    → timer_levels (is_legacy h) line k h l
    ≡ record { before = shows (is_legacy h) line k h && l.up; between = false; after = shows (is_legacy h) line k h && (acked l).up }
levels-edge line k h l there edge plain drives =
    same_levels
    (ap (λ (b : Bool). s && b) (line_output l.up))
    (ap (λ (b : Bool). s && b) (line_output (down_where (timer_acks line h k) l).up) ∙ ap (λ (b : Bool). s && (down_where b l).up) reached ∙ and-false s)
    (ap (λ (b : Bool). s && b) (line_output (acked_where (timer_acks line h k) l).up) ∙ ap (λ (b : Bool). s && (acked_where b l).up) reached)
  where
    s : Bool
    s = shows (is_legacy h) line k h

    line_output : (up : Bool) → cond (is_level (timer_at k h)) (level_output k h) (not (is_message k h) && up) ≡ up
    line_output up = ap (λ (b : Bool). cond b (level_output k h) (not (is_message k h) && up)) edge ∙ ap (λ (b : Bool). not b && up) plain

    reached : timer_acks line h k ≡ true
    reached = ap (λ (b : Bool). b && (shows_ticks k h && drives_now line k h)) (lt-ltb k h.timers there)
        ∙ ap (λ (b : Bool). (not b && not (is_message k h)) && drives_now line k h) edge ∙ ap (λ (b : Bool). not b && drives_now line k h) plain ∙ drives

-- a timer that isn't there shows on no line
pub shown-absent : (legacy : Bool) (line k : ℕ) (h : HpetParts) (ls : List TickParts) → IsHpet h → h.timers ≤ k → k < 8
    → shown_by legacy line (suc k) h ls ≡ shown_by legacy line k h ls
shown-absent legacy line k h ls valid gone small =
    let none : timer_at k h ≡ no_timer = subst (λ (b : Bool). IsPlace b (timer_at k h)) (le-ltb k h.timers gone) (valid.places k small) in
    ap (λ (b : Bool). shown_by legacy line k h ls || (b && output_with k h (get_or ls (suc (suc k)) no_line))) (
    ap (λ (b : Bool). cond (legacy && b) (eqb line (cond (eqb k 0) 0 8)) (is_io_line line && (eqb (route_of (timer_at k h).config) line)))
    (le-ltb k 2 (past valid.timers))
    ∙ ap (λ (b : Bool). cond b (eqb line (cond (eqb k 0) 0 8)) (is_io_line line && (eqb (route_of (timer_at k h).config) line))) (and-false legacy)
    ∙ ap (λ (t : TimerParts). is_io_line line && eqb (route_of t.config) line) none
    ∙ elim (cases_eq line 0) [
      | inl e ↦ ap (λ (n : ℕ). is_io_line n && eqb 0 n) e
      | inr other ↦ ap (λ (b : Bool). is_io_line line && b) (ne_eqb 0 line (λ e. other (sym e))) ∙ and-false (is_io_line line)
    ])
    ∙ or-false (shown_by legacy line k h ls)
  where
    past : (h.timers ≡ 3) ⊎ (h.timers ≡ 8) → 2 ≤ k
    past (inl e) = omega arith
    past (inr e) = omega arith

pub shown-all : (legacy : Bool) (line : ℕ) (h : HpetParts) (ls : List TickParts) → IsHpet h → shown_by legacy line h.timers h ls ≡ shown_by legacy line 8 h ls
shown-all legacy line h ls valid = all_eight (λ n. shown_by legacy line n h ls) h.timers valid.timers
    (λ k gone small. shown-absent legacy line k h ls valid gone small)

-- one timer more, by the line at its place
pub shown-more : (legacy : Bool) (line k : ℕ) (h : HpetParts) (op : Bool → TickParts → TickParts) (ls : List TickParts) → length ls ≡ 10 → k < 8
    → shown_by legacy line (k + 1) h (each (λ i l. op (acks line h i) l) 0 ls)
    ≡ (shown_by legacy line k h (each (λ i l. op (acks line h i) l) 0 ls)
    || (shows legacy line k h && output_with k h (op (timer_acks line h k) (get_or ls (k + 2) no_line))))
shown-more legacy line k h op ls long small =
    let more : k + 1 ≡ suc k = omega arith in
    let place : 0 + suc (suc k) ≡ suc (suc k) = omega arith in
    let back : suc (suc k) ≡ k + 2 = omega arith in
    let all : List TickParts = each (λ i l. op (acks line h i) l) 0 ls in
    ap (λ (n : ℕ). shown_by legacy line n h all) more
    ∙ ap (λ (l : TickParts). shown_by legacy line k h all || (shows legacy line k h && output_with k h l))
    (each-at (λ i l. op (acks line h i) l) 0 (suc (suc k)) ls no_line (omega (arith, long))
    ∙ ap (λ (i : ℕ). op (acks line h i) (get_or ls (suc (suc k)) no_line)) place
    ∙ ap (λ (i : ℕ). op (timer_acks line h k) (get_or ls i no_line)) back)

pub shown-plain : (legacy : Bool) (line k : ℕ) (h : HpetParts) (ls : List TickParts) → shown_by legacy line (k + 1) h ls
    ≡ (shown_by legacy line k h ls || (shows legacy line k h && output_with k h (get_or ls (k + 2) no_line)))
shown-plain legacy line k h ls =
    let more : k + 1 ≡ suc k = omega arith in
    let back : suc (suc k) ≡ k + 2 = omega arith in
    ap (λ (n : ℕ). shown_by legacy line n h ls) more
    ∙ ap (λ (i : ℕ). shown_by legacy line k h ls || (shows legacy line k h && output_with k h (get_or ls i no_line))) back

-- all lines that an acknowledgement reaches, from place to place
pub each-acks : (line : ℕ) (h : HpetParts) (ls new : List TickParts) → length ls ≡ 10 → length new ≡ 10
    → get_or new 0 no_line ≡ acked_where (acks line h 0) (get_or ls 0 no_line) → get_or new 1 no_line ≡ get_or ls 1 no_line
    → ((k : ℕ) → k < 8 → get_or new (k + 2) no_line ≡ acked_where (timer_acks line h k) (get_or ls (k + 2) no_line))
    → new ≡ each (λ k l. acked_where (acks line h k) l) 0 ls
each-acks line h ls new long new_long first second timers =
    same_places new (each f 0 ls) no_line (new_long ∙ sym (length-each f 0 ls ∙ long)) (λ j less. place j (omega (arith, less, new_long)))
  where
    f : ℕ → TickParts → TickParts
    f k l = acked_where (acks line h k) l

    place : (j : ℕ) → j < 10 → get_or new j no_line ≡ get_or (each f 0 ls) j no_line
    place zero less = first ∙ sym (each-at f 0 0 ls no_line (omega (arith, long)))
    place (suc zero) less = second ∙ sym (each-at f 0 1 ls no_line (omega (arith, long)))
    place (suc (suc k)) less =
        let back : suc (suc k) ≡ k + 2 = omega arith in
        let none : 0 + suc (suc k) ≡ suc (suc k) = omega arith in
        ap (λ (i : ℕ). get_or new i no_line) back ∙ timers k (omega arith)
        ∙ ap (λ (i : ℕ). acked_where (timer_acks line h k) (get_or ls i no_line)) (sym back)
        ∙ sym (each-at f 0 (suc (suc k)) ls no_line (omega (arith, long, less)) ∙ ap (λ (i : ℕ). f i (get_or ls (suc (suc k)) no_line)) none)
