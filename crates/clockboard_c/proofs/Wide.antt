-- A port that is no byte is none of the board's.
use Rattle.std.proofs.Common.{◌≡◌, ℕ, ◌<◌, ◌≤◌, refl, ap, sym, ◌∙◌, arith, Bool, true, false, eqb, ltb, cond, ◌&&◌, Option, Some, None, inl, inr}
use Rattle.std.proofs.lemmas.Bool.{cases_lt, ne_eqb, le-leb, lt-leb}
use Rattle.board_types.specs.declared.access.Access.{Access}
use Rattle.board_types.specs.declared.access.Access.TheVariants.{PortOut}
use Rattle.board_types.specs.declared.parts.BoardParts.{BoardParts}
use Rattle.board_types.specs.Legal.{is_port}
use Rattle.clockboard_c.specs.declared.board.TheConstants.{SEAL}
use Rattle.clockboard_c.specs.declared.code.TheConstants.{NO_BOARD, NO_PROCESSOR, NOT_OURS, SHARED}
use Rattle.clockboard_c.specs.Kept.{CallerBoard}
use Rattle.clockboard_c.specs.Call.{told, told_or}
use Rattle.clockboard_c.specs.private.Narrow.{narrowed}

-- the code of a write to a port, where `legal` is whether the board has it
code-where : CallerBoard → ℕ → Bool → Option ℕ
code-where b cpu legal =
    cond (eqb b.seal SEAL)
    (cond (b.shared && false) (Some SHARED) (cond (ltb cpu b.state.cpus) (cond legal None (Some NOT_OURS)) (Some NO_PROCESSOR)))
    (Some NO_BOARD)

alike : (x y z : Bool) (s : BoardParts) (cpu h : ℕ) (a c : Access)
    → told_or (cond x (cond y (Some SHARED) (cond z (Some NOT_OURS) (Some NO_PROCESSOR))) (Some NO_BOARD)) s cpu h a
    ≡ told_or (cond x (cond y (Some SHARED) (cond z (Some NOT_OURS) (Some NO_PROCESSOR))) (Some NO_BOARD)) s cpu h c
alike true true z s cpu h a c = refl
alike true false true s cpu h a c = refl
alike true false false s cpu h a c = refl
alike false y z s cpu h a c = refl

not-ours : (b : CallerBoard) (cpu h p q byte : ℕ) → is_port p ≡ false → is_port q ≡ false
    → told b cpu h (PortOut p byte) ≡ told b cpu h (PortOut q byte)
unfolding code-where
not-ours b cpu h p q byte e f =
    ap (λ (l : Bool). told_or (code-where b cpu l) b.state cpu h (PortOut p byte)) e
    ∙ alike (eqb b.seal SEAL) (b.shared && false) (ltb cpu b.state.cpus) b.state cpu h (PortOut p byte) (PortOut q byte)
    ∙ sym (ap (λ (l : Bool). told_or (code-where b cpu l) b.state cpu h (PortOut q byte)) f)

wide-port : (p : ℕ) → 255 < p → is_port p ≡ false
wide-port p wide =
    let no : (k : ℕ) → k ≤ 255 → eqb p k ≡ false = λ k le. ne_eqb p k (λ same. omega (arith, same, le, wide)) in
    rw (le-leb 0x40 p (omega arith)) (rw (lt-leb p 0x43 (omega arith))
    (rw (no 0x61 (omega arith)) (rw (no 0x70 (omega arith)) (no 0x71 (omega arith)))))

pub told-narrowed : (b : CallerBoard) (cpu h port byte : ℕ) → told b cpu h (PortOut (narrowed port) byte) ≡ told b cpu h (PortOut port byte)
told-narrowed b cpu h port byte = elim (cases_lt 255 port) [
  | inl wide ↦
      let none : narrowed port ≡ 0 = ap (λ (x : Bool). cond x port 0) (lt-leb port 255 wide) in
      not-ours b cpu h (narrowed port) port byte (ap is_port none) (wide-port port wide)
  | inr fits ↦ ap (λ (p : ℕ). told b cpu h (PortOut p byte)) (ap (λ (x : Bool). cond x port 0) (le-leb port 255 fits))
]
