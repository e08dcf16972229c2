use Rattle.std.proofs.Common.{◌≡◌, ℕ, Bool, true, false, cond, eqb, ◌<◌, ◌&&◌, ◌||◌, Some, None, refl, sym, subst, ap, ◌∙◌, inl, inr, arith}
use Rattle.std.proofs.lemmas.Bool.{eqb-true, lt-ltb, or_cases, false≢true}
use Rattle.board_types.specs.Legal.{is_legal, is_hpet_place}
use Rattle.board_types.specs.declared.access.Access.{Access}
use Rattle.board_types.specs.declared.access.Access.TheVariants.{PortIn, HpetRead, Step}
use Rattle.board_types.specs.declared.parts.BoardParts.{BoardParts}
use Rattle.board_core.specs.Access.{after_run}
use Rattle.board_core.specs.Lazy.{is_passive}
use Rattle.board_core.proofs.Passive.{by-kind}
use Rattle.clockboard_c.specs.declared.board.TheConstants.{SEAL}
use Rattle.clockboard_c.specs.declared.code.TheConstants.{NO_BOARD, NO_PROCESSOR, NOT_OURS, SHARED}
use Rattle.clockboard_c.specs.Call.{access_code, early_code, publishes}
use Rattle.clockboard_c.specs.Kept.{LaggingBoard, seen}
use Rattle.clockboard_c.specs.View.{lagging_board}
use Rattle.clockboard_c.proofs.call.is_counted.Goals as goal

-- a passive access publishes nothing
publishes-passive : (cpu : ℕ) (a : Access) → is_passive a ≡ true → publishes cpu a ≡ false
publishes-passive cpu = by-kind (λ a. publishes cpu a ≡ false) refl (λ offset width. refl) (λ port is. refl)

both : (a b : Bool) → (a && b) ≡ true → (a ≡ true) × (b ≡ true)
both true b e = (refl, e)
both false b e = absurd (false≢true e)

-- .. and each board takes it
legal-passive : (cpus format : ℕ) (a : Access) → is_passive a ≡ true → is_legal cpus format a ≡ true
legal-passive cpus format Step is = refl
legal-passive cpus format (PortIn port) is = ap (λ (b : Bool). b || eqb port 0x70 || eqb port 0x71) is
legal-passive cpus format (HpetRead offset width) is =
    let parts : (eqb offset 0xf0 ≡ true) × ((eqb width 4 || eqb width 8) ≡ true) = both (eqb offset 0xf0) (eqb width 4 || eqb width 8) is in
    ap (λ (o : ℕ). is_hpet_place o width) (eqb-true offset 0xf0 parts.0)
    ∙ elim (or_cases (eqb width 4) (eqb width 8) parts.1) [
      | inl e ↦ ap (is_hpet_place 0xf0) (eqb-true width 4 e)
      | inr e ↦ ap (is_hpet_place 0xf0) (eqb-true width 8 e)
    ]
legal-passive cpus format _ is = absurd (false≢true is)

and-false : (b : Bool) → (b && false) ≡ false
and-false true = refl
and-false false = refl

-- so no code refuses it
taken : (b : LaggingBoard) (cpu : ℕ) (a : Access) → b.seal ≡ SEAL → cpu < b.state.cpus → is_passive a ≡ true
    → early_code (seen b) cpu a ≡ None
unfolding after_run
taken b cpu a seal there passive =
    let s : BoardParts = (seen b).state in
    ap (λ (n : ℕ). cond (eqb n SEAL) (cond (b.shared && publishes cpu a) (Some SHARED) (access_code s cpu a)) (Some NO_BOARD)) seal
    ∙ ap (λ (x : Bool). cond (b.shared && x) (Some SHARED) (access_code s cpu a)) (publishes-passive cpu a passive)
    ∙ ap (λ (x : Bool). cond x (Some SHARED) (access_code s cpu a)) (and-false b.shared)
    ∙ ap (λ (x : Bool). cond x (cond (is_legal s.cpus s.format a) None (Some NOT_OURS)) (Some NO_PROCESSOR)) (lt-ltb cpu s.cpus there)
    ∙ ap (λ (x : Bool). cond x None (Some NOT_OURS)) (legal-passive s.cpus s.format a passive)

pub returns-then-is_passive-clause-code : goal.returns-then-is_passive-clause-code
returns-then-is_passive-clause-code c counted =
    subst (λ (b : LaggingBoard). early_code (seen b) c.args.cpu c.args.access ≡ None) c.board.view_is
    (taken (lagging_board c.board.inside) c.args.cpu c.args.access (omega arith) (omega arith) (sym c.is_passive.ensures ∙ c.if-is_passive.true))
