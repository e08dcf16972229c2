use Rattle.save_state.proofs.Names.{◌≡◌, ℕ, zero, suc, ◌+◌, ◌<◌, true, List, get_or, cond, leb, refl, ap, sym, ◌∙◌, arith, no_line, read, read-none}
use Rattle.save_state.proofs.Names.{read-one, read-filled, line, lines, blocks, plain, elsewhere, ticks_of, policy_of, policy_place, Policy, TickParts}
use Rattle.save_state.proofs.Names.{byte, row_value, timers_few, timers_of, line-size}
use Rattle.save_state.proofs.whole.lines_in.Goals as goal

-- the policy of a line, by the three that were read
three : (bytes : List ℕ) (j : ℕ) → j < 3 → get_or (row_value byte 3 76 bytes) j 0 ≡ get_or bytes (76 + j) 0
unfolding row_value
three bytes zero less = refl
three bytes (suc zero) less = refl
three bytes (suc (suc zero)) less = refl
three bytes (suc (suc (suc j))) less = absurd (omega arith)

first_three : (k : ℕ) → cond (leb 2 k) 2 k < 3
first_three k = grind arith

abbrev with_policy : ℕ → List ℕ → Policy → TickParts
with_policy p bytes policy = read (ticks_of (λ l. l) (λ x l. x) (λ b l. true)) p bytes (record no_line { policy = policy })

line-is : (k p : ℕ) (bytes : List ℕ) → with_policy p bytes (policy_of (get_or bytes (policy_place k) 0)) ≡ read (line k) p bytes no_line
unfolding line plain elsewhere
line-is k p bytes = refl

pub loop-k-init : goal.loop-k-init
loop-k-init c = read-none _ no_line 33 10 c.args.fields.now

pub loop-k-preserved : goal.loop-k-preserved
loop-k-preserved c =
    let k : ℕ = c.loop-k.k in
    let at = c.loop-k.fields in
    let read_are = c.requires.policies ∙ ap (λ (xs : List ℕ). row_value byte 3 76 xs) (sym c.loop-k.invariant.past.bytes) in
    let policy_is : c.policy_of.result ≡ policy_of (get_or at.bytes.now (policy_place k) 0) =
    c.policy_of.ensures ∙ ap (λ (xs : List ℕ). policy_of (get_or xs (cond (leb 2 k) 2 k) 0)) read_are
    ∙ ap policy_of (three at.bytes.now (cond (leb 2 k) 2 k) (first_three k)) in
    read-one c.loop-k.invariant (omega (arith, c.loop-k-test.true, c.loop-k.auto.k-end, timers_few c.args.format))
    (c.ticks_in.ensures.value ∙ ap (with_policy at.place at.bytes.now) policy_is ∙ line-is k at.place at.bytes.now) c.ticks_in.ensures.next

pub returns-clause-value : goal.returns-clause-value
unfolding lines blocks
returns-clause-value c =
    read-filled line no_line 33 line-size (timers_of c.args.format + 2) _ _ _ _ _ (omega (arith, c.loop-k-test.false, c.loop-k.auto.k-end)) (omega (arith, timers_few c.args.format))
    c.loop-k.invariant.filled
