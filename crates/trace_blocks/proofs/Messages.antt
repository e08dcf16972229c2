-- The lines of messages are those of the deliveries that a hook answers.
use Rattle.std.proofs.Common.{◌≡◌, ℕ, List, [], ◌∷◌, ◌++◌, refl, ap, ◌∙◌}
use Rattle.std.specs.List.{AllZip, flat_map}
use Rattle.irq_edges.specs.declared.bursts.Burst.{Burst}
use Rattle.edge_hooks.specs.Messages.{IsSent}
use Rattle.edge_hooks.specs.declared.deliveries.Delivery.{Delivery}
use Rattle.edge_hooks.specs.declared.messages.Message.{Message}
use Rattle.edge_hooks.specs.declared.sent.Sent.{Sent}
use Rattle.reply_text.specs.Text.{msg_text}
use Rattle.trace_blocks.specs.Blocks.{message_to, sent_to}

pub sent_text : (answers : Message → Delivery → Type 0) (cpus : ℕ) (bs : List Burst) (ss : List Sent)
    → ((m : Message) (d : Delivery) → answers m d → d ≡ message_to cpus m) → AllZip (IsSent answers) bs ss
    → flat_map msg_text ss ≡ flat_map (λ b. msg_text (sent_to cpus b)) bs
sent_text answers cpus [] [] alike zip = refl
sent_text answers cpus [] (s ∷ ss) alike zip = absurd zip
sent_text answers cpus (b ∷ bs) [] alike zip = absurd zip
sent_text answers cpus (b ∷ bs) (s ∷ ss) alike zip =
    let of : Burst → Delivery → Sent = λ x d. record { burst = x; to = d } in
    let head : s ≡ sent_to cpus b = ap (λ (x : Burst). of x s.to) zip.0.burst ∙ ap (of b) (alike _ s.to zip.0.to) in
    ap (λ (x : Sent). msg_text x ++ flat_map msg_text ss) head
    ∙ ap (λ (l : List ℕ). msg_text (sent_to cpus b) ++ l) (sent_text answers cpus bs ss alike zip.1)
