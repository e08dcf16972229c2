use Rattle.save_state.proofs.Names.{front, board_in, ◌≡◌, ℕ, ◌<◌, List, get_or, None, sym, ap, ◌∙◌, arith, false≢true, BoardParts, fault_in}
use Rattle.save_state.specs.declared.front.Front.{Front}
use Rattle.save_state.proofs.Valid.{IsRight, right-head, right-devices, right-board, format-few, cpus-few, board-format}
use Rattle.save_state.proofs.decoding.decode.Goals as goal

-- no field before the 8254 is at fault
none-before : (bytes xs : List ℕ) → xs ≡ bytes → None ≡ fault_in front (board_in xs) (board_in xs) 0 xs
    → None ≡ fault_in front (board_in bytes) (board_in bytes) 0 bytes
none-before bytes xs same none = none ∙ (λ i. fault_in front (board_in (same i)) (board_in (same i)) 0 (same i))

right : (bytes xs ys : List ℕ) (b : BoardParts) → ((k : ℕ) → get_or bytes k 0 < 256) → xs ≡ bytes → ys ≡ bytes
    → None ≡ fault_in front (board_in xs) (board_in xs) 0 xs → b ≡ board_in ys → IsRight bytes b
right bytes xs ys b small same same' none read =
    record { small = small; none = sym (none-before bytes xs same none); read = read ∙ ap board_in same' }

pub board_in-parts-requires-clause-format : goal.board_in-parts-requires-clause-format
board_in-parts-requires-clause-format c =
    let bytes : List ℕ = c.args.bytes.now in
    let few = format-few bytes (λ k. omega (arith, c.type_inv.bytes k)) (none-before bytes _ c.new-checks.ensures.bytes c.in_ok-check_front.ensures.fault) in
    let is = ap (λ (f : Front). f.format) c.front_in-front.ensures.value ∙ ap (λ (xs : List ℕ). (board_in xs).format) c.new-fields.ensures.bytes ∙ (board-format bytes).0 in
    omega (arith, few, is)

pub board_in-parts-requires-clause-few : goal.board_in-parts-requires-clause-few
board_in-parts-requires-clause-few c =
    let bytes : List ℕ = c.args.bytes.now in
    let few = cpus-few bytes (λ k. omega (arith, c.type_inv.bytes k)) (none-before bytes _ c.new-checks.ensures.bytes c.in_ok-check_front.ensures.fault) in
    let is = ap (λ (f : Front). f.cpus) c.front_in-front.ensures.value ∙ ap (λ (xs : List ℕ). (board_in xs).cpus) c.new-fields.ensures.bytes ∙ (board-format bytes).1 in
    omega (arith, few, is)

pub check_devices-requires-clause-head : goal.check_devices-requires-clause-head
check_devices-requires-clause-head c =
    right-head _ _ (right c.args.bytes.now _ _ _ (λ k. omega (arith, c.type_inv.bytes k)) c.new-checks.ensures.bytes
    (c.front_in-front.ensures.next.bytes ∙ c.new-fields.ensures.bytes) c.in_ok-check_front.ensures.fault c.board_in-parts.ensures)

pub check_rest-requires-clause-head : goal.check_rest-requires-clause-head
check_rest-requires-clause-head c =
    right-head _ _ (right c.args.bytes.now _ _ _ (λ k. omega (arith, c.type_inv.bytes k)) c.new-checks.ensures.bytes
    (c.front_in-front.ensures.next.bytes ∙ c.new-fields.ensures.bytes) c.in_ok-check_front.ensures.fault c.board_in-parts.ensures)

pub check_rest-requires-clause-devices : goal.check_rest-requires-clause-devices
check_rest-requires-clause-devices c =
    right-devices _ _ _ _ (right c.args.bytes.now _ _ _ (λ k. omega (arith, c.type_inv.bytes k)) c.new-checks.ensures.bytes
    (c.front_in-front.ensures.next.bytes ∙ c.new-fields.ensures.bytes) c.in_ok-check_front.ensures.fault c.board_in-parts.ensures)
    (sym c.in_ok-check_devices.ensures.fault)

pub unreachable-requires : goal.unreachable-requires
unreachable-requires c =
    false≢true (c.in-None.ensures.valid.1 (right-board _ _ _ _ _ _ _ (right c.args.bytes.now _ _ _ (λ k. omega (arith, c.type_inv.bytes k)) c.new-checks.ensures.bytes
    (c.front_in-front.ensures.next.bytes ∙ c.new-fields.ensures.bytes) c.in_ok-check_front.ensures.fault c.board_in-parts.ensures)
    (sym c.in_ok-check_devices.ensures.fault) (sym c.in_ok-check_rest.ensures)))
