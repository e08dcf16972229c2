-- Small rows that pin the definitions.
use Rattle.std.proofs.Common.{◌≡◌, ◌<◌, true, false, [], ◌∷◌, refl, ap, arith}
use Rattle.irq_edges.specs.declared.edges.Edge.{Edge}
use Rattle.edge_hooks.specs.declared.deliveries.Delivery.{Delivery}
use Rattle.edge_hooks.specs.declared.messages.Message.{Message}
use Rattle.edge_hooks.specs.Hooks.{IsDelivery, IsEdge, IsEdgeHook, IsMessage, IsMessageHook, rises_among}
use Rattle.edge_hooks.specs.Messages.{message_of}

-- the least delivery
vector_16_of_processor_0 : IsDelivery 1 (record { cpu = 0; vector = 16 })
vector_16_of_processor_0 = record { cpu = omega arith; vector = omega arith }

vector_15_is_none : IsDelivery 1 (record { cpu = 0; vector = 15 }) → ⊥
vector_15_is_none d = absurd (omega (arith, d.vector))

processor_1_of_1_is_none : IsDelivery 1 (record { cpu = 1; vector = 16 }) → ⊥
processor_1_of_1_is_none d = absurd (omega (arith, d.cpu))

-- line 24 is none, so a hook isn't asked there
an_edge_of_line_24_is_none : IsEdge (record { at = 0; line = 24; up = true }) → ⊥
an_edge_of_line_24_is_none e = cc e.line

-- falls are left out, and the order stays
rises_of_three_edges : rises_among
    (record { at = 7; line = 8; up = true } ∷ record { at = 7; line = 0; up = false } ∷ record { at = 9; line = 0; up = true } ∷ [])
    ≡ record { at = 7; line = 8; up = true } ∷ record { at = 9; line = 0; up = true } ∷ []
rises_of_three_edges = refl

message_of_a_burst : message_of (record { timer = 3; first = 1000; count = 3; every = 1000; address = 4276092928; «data» = 65 })
    ≡ record { address = 4276092928; «data» = 65 }
message_of_a_burst = refl

-- one answer alone: of two answers at each edge none is a hook
two_answers_are_no_hook : IsEdgeHook 2 (λ e. Unit {0}) (λ e d. d.vector ≡ 48) → ⊥
two_answers_are_no_hook hook =
    let edge : Edge = record { at = 0; line = 0; up = true } in
    let one : IsEdge edge = record { at = omega arith; line = refl } in
    let first : Delivery = record { cpu = 0; vector = 48 } in
    let second : Delivery = record { cpu = 1; vector = 48 } in
    let same : first ≡ second = hook.alike edge first second one refl refl in
    absurd (omega (arith, ap (λ (d : Delivery). d.cpu) same))

-- a hook that can't be asked at line 23 is none
silent_at_23_is_no_hook : IsEdgeHook 1 (λ e. e.line < 23) (λ e d. d ≡ record { cpu = 0; vector = 48 }) → ⊥
silent_at_23_is_no_hook hook =
    let edge : Edge = record { at = 0; line = 23; up = true } in
    let one : IsEdge edge = record { at = omega arith; line = refl } in
    absurd (omega (arith, hook.callable edge one))

-- .. nor one that can't be asked of the greatest message
silent_at_the_last_is_no_hook : IsMessageHook 1 (λ m. m.data < 4294967295) (λ m d. d ≡ record { cpu = 0; vector = 48 }) → ⊥
silent_at_the_last_is_no_hook hook =
    let message : Message = record { address = 4294967295; «data» = 4294967295 } in
    let one : IsMessage message = record { address = omega arith; content = omega arith } in
    absurd (omega (arith, hook.callable message one))
