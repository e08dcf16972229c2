-- What a caller asks of a shared board, and what it is told.
use Rattle.std.specs.Prelude.{◌≡◌, ◌<◌, Result, IfErr, OnOk, OnErr, IsTrue}
use Rattle.board_types.specs.Legal.{is_legal}
use Rattle.board_types.specs.declared.parts.BoardParts.{BoardParts}
use Rattle.board_types.specs.declared.reply.Refusal.{Refusal}
use Rattle.board_types.specs.declared.reply.Reply.{Reply}
use Rattle.board_history.specs.declared.entry.Entry.TheVariants.{Board}
use Rattle.clock_table.specs.declared.call.Asked.{Asked}
use Rattle.shared_board.specs.declared.known.PassKnown.{PassKnown}
use Rattle.shared_board.specs.Passes.{Answered, Refused}

-- a board that opened with s has the processor, and knows the access
pub record MayAsk (s : BoardParts) (a : Asked) : Type 0 where
  pub cpu : a.cpu < s.cpus
  pub legal : IsTrue (is_legal s.cpus s.format a.access)

-- the access was taken, and is one entry of the pass, with the reply `told`; or refused, and the caller's reply is as
-- `before`
pub record WasAsked {T : Type 0} (a : Asked) (result : Result T Refusal) (before told : Reply)
    (p q : PassKnown) : Type 0 where
  pub ok : OnOk result (Answered p q (Board p.number a.cpu a.h a.access told))
  pub err : IfErr result (λ f. Refused a.cpu a.h a.access f p q)
  pub unchanged : OnErr result (told ≡ before)
