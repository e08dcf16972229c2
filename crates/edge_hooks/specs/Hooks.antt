-- Hooks: closures from an edge, or from a message, to a processor and a vector.
use Rattle.std.specs.Prelude.{◌≡◌, ℕ, ◌^◌, ◌<◌, ◌≤◌, List, filter}
use Rattle.irq_edges.specs.declared.edges.Edge.{Edge}
use Rattle.irq_edges.specs.Lines.{IsOfLine}
use Rattle.edge_hooks.specs.declared.deliveries.Delivery.{Delivery}
use Rattle.edge_hooks.specs.declared.messages.Message.{Message}

-- a delivery to one of so many processors; vectors below 16 are reserved (Intel SDM, volume 3)
pub record IsDelivery (cpus : ℕ) (d : Delivery) : Type 0 where
  pub cpu : d.cpu < cpus
  pub vector : 16 ≤ d.vector

-- at every x that is one a hook may be called, its answers are deliveries, and it has one alone
pub record IsHook {X : Type 0} (is_one : X → Type 0) (cpus : ℕ) (may : X → Type 0)
    (answers : X → Delivery → Type 0) : Type 0 where
  pub callable : (x : X) → is_one x → may x
  pub valid : (x : X) (d : Delivery) → is_one x → answers x d → IsDelivery cpus d
  pub alike : (x : X) (d e : Delivery) → is_one x → answers x d → answers x e → d ≡ e

-- an edge of one of the six lines
pub record IsEdge (e : Edge) : Type 0 where
  pub at : e.at < 2 ^ 64
  pub line : IsOfLine e

-- a message
pub record IsMessage (m : Message) : Type 0 where
  pub address : m.address < 2 ^ 32
  pub content : m.data < 2 ^ 32

-- a hook on the edges of the six lines; a hook on messages
abbrev pub IsEdgeHook : ℕ → (Edge → Type 0) → (Edge → Delivery → Type 0) → Type 0
IsEdgeHook = IsHook IsEdge

abbrev pub IsMessageHook : ℕ → (Message → Type 0) → (Message → Delivery → Type 0) → Type 0
IsMessageHook = IsHook IsMessage

-- the rises among edges
abbrev pub rises_among : List Edge → List Edge
rises_among es = filter (λ e. e.up) es
