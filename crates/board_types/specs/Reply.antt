-- What a board answers.
use Rattle.std.specs.Prelude.{◌≡◌, []}
use Rattle.board_types.specs.declared.reply.Reply.{Reply}
use Rattle.board_types.specs.declared.reply.Value.TheVariants.{Nothing}

-- a reply before its access
abbrev pub empty_reply : Reply
empty_reply = record { number = 0; value = Nothing; edges = []; bursts = [] }

-- a reply in which an access can be answered: it has no edge and no message
pub record IsFresh (r : Reply) : Type 0 where
  pub edges : r.edges ≡ []
  pub bursts : r.bursts ≡ []
