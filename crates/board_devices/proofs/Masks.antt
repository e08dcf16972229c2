-- What is done to the lines that a mask names.
use Rattle.std.proofs.Common.{◌≡◌, ℕ, zero, suc, ◌+◌, ◌<◌, ◌≤◌, Bool, true, false, List, [], ◌∷◌, ◌++◌, length, get_or, set, map, refl, ap, sym, ◌∙◌}
use Rattle.std.proofs.Common.{append-nil, arith}
use Rattle.irq_edges.specs.declared.edges.Edge.{Edge}
use Rattle.irq_edges.specs.Lines.{changes, line_numbers}
use Rattle.irq_edges.proofs.EdgesOf.{changes-same}
use Rattle.tick_policy.specs.declared.parts.TickParts.{TickParts}
use Rattle.tick_policy.specs.Line.{ticked, ticked_times, set_up_to, acked}
use Rattle.tick_policy.proofs.Ticks.{ticked_times-one}
use Rattle.tick_policy.specs.Stretch.{ticked_where}
use Rattle.board_devices.specs.declared.parts.DeviceParts.{DeviceParts}
use Rattle.board_devices.specs.Places.{each, no_line, ticked_at}
use Rattle.board_devices.specs.Act.{acked_where, rtc_set, pit_ticked}
use Rattle.board_devices.specs.private.Stretch.{ten, clock_place}
use Rattle.board_devices.specs.Lines.{levels}
use Rattle.board_devices.proofs.Places.{each-at}

pub at-ten : {X : Type 0} (f : ℕ → X) (d : X) (k : ℕ) → k < 10 → get_or (map f ten) k d ≡ f k
at-ten f d zero h = refl
at-ten f d (suc zero) h = refl
at-ten f d (suc (suc zero)) h = refl
at-ten f d (suc (suc (suc zero))) h = refl
at-ten f d (suc (suc (suc (suc zero)))) h = refl
at-ten f d (suc (suc (suc (suc (suc zero))))) h = refl
at-ten f d (suc (suc (suc (suc (suc (suc zero)))))) h = refl
at-ten f d (suc (suc (suc (suc (suc (suc (suc zero))))))) h = refl
at-ten f d (suc (suc (suc (suc (suc (suc (suc (suc zero)))))))) h = refl
at-ten f d (suc (suc (suc (suc (suc (suc (suc (suc (suc zero))))))))) h = refl
at-ten f d (suc (suc (suc (suc (suc (suc (suc (suc (suc (suc k)))))))))) h = absurd (omega arith)

-- edges that were appended, where no line goes up again
pub one_part : (t : ℕ) (es0 es1 : List Edge) (a b : List Bool) (d w : DeviceParts) → es1 ≡ es0 ++ changes t line_numbers a b → a ≡ levels d → b ≡ levels w
    → es1 ≡ es0 ++ (changes t line_numbers (levels d) (levels w) ++ changes t line_numbers (levels w) (levels w))
one_part t es0 es1 a b d w only a_is b_is =
    only
    ∙ ap (λ (x : List Bool). es0 ++ changes t line_numbers x b) a_is
    ∙ ap (λ (x : List Bool). es0 ++ changes t line_numbers (levels d) x) b_is
    ∙ ap (λ (es : List Edge). es0 ++ es)
    (sym (append-nil (changes t line_numbers (levels d) (levels w)))
    ∙ ap (λ (es : List Edge). changes t line_numbers (levels d) (levels w) ++ es) (sym (changes-same t line_numbers (levels w))))

due-acked_where : (b : Bool) (l : TickParts) → (acked_where b l).counts.due ≡ l.counts.due
due-acked_where true l = refl
due-acked_where false l = refl

-- no acknowledgement makes a tick due
pub due-acked : (test : ℕ → Bool) (ls new : List TickParts) → length ls ≡ 10 → new ≡ each (λ k l. acked_where (test k) l) 0 ls → (k : ℕ) → k < 10
    → (get_or new k no_line).counts.due ≡ (get_or ls k no_line).counts.due
due-acked test ls new long new_is k less =
    ap (λ (xs : List TickParts). (get_or xs k no_line).counts.due) new_is
    ∙ ap (λ (l : TickParts). l.counts.due) (each-at (λ i l. acked_where (test i) l) 0 k ls no_line (omega (arith, long)))
    ∙ due-acked_where (test (0 + k)) (get_or ls k no_line)

pub no_edges : (t : ℕ) (es : List Edge) (d : DeviceParts) → es
    ++ (changes t line_numbers (levels d) (levels d) ++ changes t line_numbers (levels d) (levels d)) ≡ es
no_edges t es d = ap (λ (xs : List Edge). es ++ (xs ++ xs)) (changes-same t line_numbers (levels d)) ∙ append-nil es

-- only the first line has a tick
ticked_rest : (b : Bool) (k : ℕ) (ls : List TickParts) → each (λ i l. ticked_where (pit_ticked b i) l) (suc k) ls ≡ ls
ticked_rest b k [] = refl
ticked_rest b k (l ∷ ls) = ap (λ (xs : List TickParts). l ∷ xs) (ticked_rest b (suc k) ls)

pub ticked_first : (ls : List TickParts) → length ls ≡ 10 → set ls 0 (ticked_times 1 (get_or ls 0 no_line)) ≡ ticked_at (pit_ticked true) ls
ticked_first [] e = absurd (omega (arith, e))
ticked_first (l ∷ ls) e = ap (λ (x : TickParts). x ∷ ls) (ticked_times-one l) ∙ ap (λ (xs : List TickParts). ticked l ∷ xs) (sym (ticked_rest true 0 ls))

pub ticked_none : (ls : List TickParts) → ls ≡ ticked_at (pit_ticked false) ls
ticked_none [] = refl
ticked_none (l ∷ ls) = ap (λ (xs : List TickParts). l ∷ xs) (sym (ticked_rest false 0 ls))

-- only the second line is put up or down
set_rest : (up : Bool) (k : ℕ) (ls : List TickParts) → each (rtc_set up) (suc (suc k)) ls ≡ ls
set_rest up k [] = refl
set_rest up k (l ∷ ls) = ap (λ (xs : List TickParts). l ∷ xs) (set_rest up (suc k) ls)

pub rtc_set_second : (up : Bool) (ls : List TickParts) → length ls ≡ 10 → set ls 1 (set_up_to up (get_or ls 1 no_line)) ≡ each (rtc_set up) 0 ls
rtc_set_second up [] e = absurd (omega (arith, e))
rtc_set_second up (k ∷ []) e = absurd (omega (arith, e))
rtc_set_second up (k ∷ l ∷ ls) e = ap (λ (xs : List TickParts). k ∷ set_up_to up l ∷ xs) (sym (set_rest up 0 ls))

-- only the second line is acknowledged
acked_rest : (b : Bool) (k : ℕ) (ls : List TickParts) → each (λ i l. acked_where (clock_place b i) l) (suc (suc k)) ls ≡ ls
acked_rest b k [] = refl
acked_rest b k (l ∷ ls) = ap (λ (xs : List TickParts). l ∷ xs) (acked_rest b (suc k) ls)

pub acked_second : (ls : List TickParts) → length ls ≡ 10 → set ls 1 (acked (get_or ls 1 no_line)) ≡ each (λ k l. acked_where (clock_place true k) l) 0 ls
acked_second [] e = absurd (omega (arith, e))
acked_second (k ∷ []) e = absurd (omega (arith, e))
acked_second (k ∷ l ∷ ls) e = ap (λ (xs : List TickParts). k ∷ acked l ∷ xs) (sym (acked_rest true 0 ls))

pub acked_none : (ls : List TickParts) → ls ≡ each (λ k l. acked_where (clock_place false k) l) 0 ls
acked_none [] = refl
acked_none (l ∷ []) = refl
acked_none (k ∷ l ∷ ls) = ap (λ (xs : List TickParts). k ∷ l ∷ xs) (sym (acked_rest false 0 ls))

-- a write's lines keep their counts
due-rtc_set : (up : Bool) (k : ℕ) (l : TickParts) → (rtc_set up k l).counts.due ≡ l.counts.due
due-rtc_set up zero l = refl
due-rtc_set up (suc zero) l = refl
due-rtc_set up (suc (suc k)) l = refl

pub due-set : (up : Bool) (ls new : List TickParts) → length ls ≡ 10 → new ≡ each (rtc_set up) 0 ls → (k : ℕ) → k < 10 → (get_or new k no_line).counts.due
    ≡ (get_or ls k no_line).counts.due
due-set up ls new long new_is k less =
    ap (λ (xs : List TickParts). (get_or xs k no_line).counts.due) new_is
    ∙ ap (λ (l : TickParts). l.counts.due) (each-at (rtc_set up) 0 k ls no_line (omega (arith, long)))
    ∙ due-rtc_set up (0 + k) (get_or ls k no_line)

due-where : (b : Bool) (l : TickParts) → (ticked_where b l).counts.due ≤ l.counts.due + 1
due-where true l = omega arith
due-where false l = omega arith

pub due-ticked : (test : ℕ → Bool) (ls new : List TickParts) → length ls ≡ 10 → new ≡ ticked_at test ls → (k : ℕ) → k < 10
    → (get_or new k no_line).counts.due ≤ (get_or ls k no_line).counts.due + 1
due-ticked test ls new long new_is k less =
    let e : (get_or new k no_line).counts.due
    ≡ (ticked_where (test (0 + k)) (get_or ls k no_line)).counts.due = ap (λ (xs : List TickParts). (get_or xs k no_line).counts.due) new_is
    ∙ ap (λ (l : TickParts). l.counts.due) (each-at (λ i l. ticked_where (test i) l) 0 k ls no_line (omega (arith, long))) in
    omega (arith, e, due-where (test (0 + k)) (get_or ls k no_line))

pub line_of_clock : (up : Bool) (ls : List TickParts) → length ls ≡ 10 → (get_or (each (rtc_set up) 0 ls) 1 no_line).up ≡ up
line_of_clock up ls long = ap (λ (l : TickParts). l.up) (each-at (rtc_set up) 0 1 ls no_line (omega (arith, long)))
