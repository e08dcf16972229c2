-- What is done at one place after the other.
use Rattle.std.proofs.Common.{◌≡◌, ℕ, ◌+◌, ◌<◌, ◌≤◌, ◌⊎◌, length, set, refl, sym, ap, subst, ◌∙◌, inl, inr, arith}
use Rattle.std.proofs.lemmas.Bool.{cases_eq, cases_lt}
use Rattle.std.proofs.lemmas.List.{get_or-set_same, get_or-set_other, length-set}
use Rattle.tick_policy.specs.declared.parts.TickParts.{TickParts}
use Rattle.lapic_timer.specs.declared.parts.ApicParts.{ApicParts}
use Rattle.local_apics.specs.declared.parts.ApicsParts.{ApicsParts}
use Rattle.local_apics.specs.Parts.{AreApicPlaces}
use Rattle.local_apics.specs.Places.{each, no_timer, no_line, timer_at, line_at}
use Rattle.local_apics.specs.private.Stretch.{IsDoneAt, IsDoneBelow}
use Rattle.local_apics.proofs.Places.{each-in, same_places, length-each}
use Rattle.local_apics.proofs.Product.{both, same_parts}

-- one processor whose timer and line stay
pub done-nothing : (k : ℕ) (p : ApicParts) (l : TickParts) (a : ApicsParts) → AreApicPlaces a → timer_at k a ≡ p → line_at k a ≡ l → IsDoneAt k p l a a
done-nothing k p l a are e f = record {
  timer = e;
  line = f;
  other_timers = λ j other. refl;
  other_lines = λ j other. refl;
  joined = are;
}

-- .. whose timer is put in its place
pub put-timer : (k : ℕ) (p q : ApicParts) (l : TickParts) (a b : ApicsParts) → k < 64 → AreApicPlaces a → b ≡ both (set a.timers k p) a.lines
    → p ≡ q → line_at k a ≡ l → IsDoneAt k q l a b
put-timer k p q l a b less are is same stays = record {
  timer = ap (timer_at k) is ∙ get_or-set_same a.timers k p no_timer (omega (arith, less, are.timers)) ∙ same;
  line = ap (line_at k) is ∙ stays;
  other_timers = λ j other. ap (timer_at j) is ∙ get_or-set_other a.timers k j p no_timer other;
  other_lines = λ j other. ap (line_at j) is;
  joined = subst AreApicPlaces (sym is) (record {
    timers = length-set a.timers k p ∙ are.timers;
    lines = are.lines;
    policy = are.policy;
  });
}

-- .. and its line too
pub put-both : (k : ℕ) (p q : ApicParts) (l m : TickParts) (a b : ApicsParts) → k < 64 → AreApicPlaces a → AreApicPlaces b
    → b ≡ both (set a.timers k p) (set a.lines k l) → p ≡ q → l ≡ m → IsDoneAt k q m a b
put-both k p q l m a b less are after is same due = record {
  timer = ap (timer_at k) is ∙ get_or-set_same a.timers k p no_timer (omega (arith, less, are.timers)) ∙ same;
  line = ap (line_at k) is ∙ get_or-set_same a.lines k l no_line (omega (arith, less, are.lines)) ∙ due;
  other_timers = λ j other. ap (timer_at j) is ∙ get_or-set_other a.timers k j p no_timer other;
  other_lines = λ j other. ap (line_at j) is ∙ get_or-set_other a.lines k j l no_line other;
  joined = after;
}

-- where nothing is to be done at the first places
pub done-none : (n : ℕ) (f : ℕ → ApicParts → ApicParts) (g : ℕ → TickParts → TickParts) (a : ApicsParts) → AreApicPlaces a
    → ((k : ℕ) → k < n → f k (timer_at k a) ≡ timer_at k a) → ((k : ℕ) → k < n → g k (line_at k a) ≡ line_at k a) → IsDoneBelow n f g a a
done-none n f g a are idle still = record {
  before = are;
  after = are;
  timers = λ k less. sym (idle k less);
  lines = λ k less. sym (still k less);
  other_timers = λ k after. refl;
  other_lines = λ k after. refl;
}

-- one place more
pub done-more : (n : ℕ) (f : ℕ → ApicParts → ApicParts) (g : ℕ → TickParts → TickParts) (a b c : ApicsParts) → IsDoneBelow n f g a b → AreApicPlaces c
    → timer_at n c ≡ f n (timer_at n a) → line_at n c ≡ g n (line_at n a) → ((k : ℕ) → (k ≡ n → ⊥) → timer_at k c ≡ timer_at k b)
    → ((k : ℕ) → (k ≡ n → ⊥) → line_at k c ≡ line_at k b) → IsDoneBelow (n + 1) f g a c
done-more n f g a b c done are timer line timers lines = record {
  before = done.before;
  after = are;
  timers = λ k less. elim (cases_eq k n) [
    | inl same ↦ subst (λ (j : ℕ). timer_at j c ≡ f j (timer_at j a)) (sym same) timer
    | inr other ↦ timers k other ∙ done.timers k (omega (arith, less, other))
  ];
  lines = λ k less. elim (cases_eq k n) [
    | inl same ↦ subst (λ (j : ℕ). line_at j c ≡ g j (line_at j a)) (sym same) line
    | inr other ↦ lines k other ∙ done.lines k (omega (arith, less, other))
  ];
  other_timers = λ k after. timers k (λ same. omega (arith, same, after)) ∙ done.other_timers k (omega (arith, after));
  other_lines = λ k after. lines k (λ same. omega (arith, same, after)) ∙ done.other_lines k (omega (arith, after));
}

-- where nothing is to be done at the other places all is done
pub done-all : (n : ℕ) (f : ℕ → ApicParts → ApicParts) (g : ℕ → TickParts → TickParts) (a b : ApicsParts) → IsDoneBelow n f g a b
    → ((k : ℕ) → n ≤ k → k < 64 → f k (timer_at k a) ≡ timer_at k a) → ((k : ℕ) → n ≤ k → k < 64 → g k (line_at k a) ≡ line_at k a)
    → b ≡ both (each f 0 a.timers) (each g 0 a.lines)
done-all n f g a b done idle still =
    let long : length b.timers ≡ length a.timers = done.after.timers ∙ sym done.before.timers in
    let lines_long : length b.lines ≡ length a.lines = done.after.lines ∙ sym done.before.lines in
    same_parts b.timers (each f 0 a.timers) b.lines (each g 0 a.lines)
    (same_places b.timers (each f 0 a.timers) no_timer (long ∙ sym (length-each f 0 a.timers)) (λ k less.
    timer k (omega (arith, less, done.after.timers)) (cases_lt k n)
    ∙ sym (each-in f no_timer 0 k a.timers (omega (arith, less, long)) ∙ ap (λ (j : ℕ). f j (timer_at k a)) (omega arith))))
    (same_places b.lines (each g 0 a.lines) no_line (lines_long ∙ sym (length-each g 0 a.lines)) (λ k less.
    line k (omega (arith, less, done.after.lines)) (cases_lt k n)
    ∙ sym (each-in g no_line 0 k a.lines (omega (arith, less, lines_long)) ∙ ap (λ (j : ℕ). g j (line_at k a)) (omega arith))))
  where
    timer : (k : ℕ) → k < 64 → (k < n) ⊎ (n ≤ k) → timer_at k b ≡ f k (timer_at k a)
    timer k less (inl below) = done.timers k below
    timer k less (inr after) = done.other_timers k after ∙ sym (idle k after less)

    line : (k : ℕ) → k < 64 → (k < n) ⊎ (n ≤ k) → line_at k b ≡ g k (line_at k a)
    line k less (inl below) = done.lines k below
    line k less (inr after) = done.other_lines k after ∙ sym (still k after less)

-- fields that are the same at each place
pub same_apics : (a b : ApicsParts) → length a.timers ≡ 64 → length a.lines ≡ 64 → length b.timers ≡ 64 → length b.lines ≡ 64
    → ((k : ℕ) → k < 64 → timer_at k a ≡ timer_at k b) → ((k : ℕ) → k < 64 → line_at k a ≡ line_at k b) → a ≡ b
same_apics a b long lines long_b lines_b timer line =
    same_parts a.timers b.timers a.lines b.lines
    (same_places a.timers b.timers no_timer (long ∙ sym long_b) (λ k less. timer k (omega (arith, less, long))))
    (same_places a.lines b.lines no_line (lines ∙ sym lines_b) (λ k less. line k (omega (arith, less, lines))))
