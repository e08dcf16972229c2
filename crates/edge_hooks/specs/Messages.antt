-- Bursts of messages, and who gets them.
use Rattle.std.specs.Prelude.{◌≡◌}
use Rattle.irq_edges.specs.declared.bursts.Burst.{Burst}
use Rattle.edge_hooks.specs.declared.deliveries.Delivery.{Delivery}
use Rattle.edge_hooks.specs.declared.messages.Message.{Message}
use Rattle.edge_hooks.specs.declared.sent.Sent.{Sent}

-- the message of a burst
abbrev pub message_of : Burst → Message
message_of b = record { address = b.address; «data» = b.data }

-- a burst was sent: it is kept as it is, with an answer on its message
pub record IsSent (answers : Message → Delivery → Type 0) (b : Burst) (s : Sent) : Type 0 where
  pub burst : s.burst ≡ b
  pub to : answers (message_of b) s.to
