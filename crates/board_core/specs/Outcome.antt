-- What a call asks and gives that answers an access into a reply of its caller's, and what reads of
-- the pages give.
use Rattle.std.specs.Prelude.{
  ◌≡◌,
  ℕ,
  ◌+◌,
  ◌<◌,
  ◌≤◌,
  length,
  Result,
  Some,
  None,
  IsTrue,
  IsSome,
  IfOk,
  IfErr,
  OnOk,
  OnErr,
}
use Rattle.std.specs.List.{All}
use Rattle.irq_edges.specs.Lines.{IsOfLine}
use Rattle.host_counter.specs.declared.TimeFault.{TimeFault}
use Rattle.host_counter.specs.Time.{time_fault}
use Rattle.pvclock_page.specs.declared.page.PageReply.{PageReply}
use Rattle.pvclock_page.specs.declared.page.ClockReply.{ClockReply}
use Rattle.board_types.specs.Legal.{is_legal}
use Rattle.board_types.specs.Reply.{IsFresh}
use Rattle.board_types.specs.declared.access.Access.{Access}
use Rattle.board_types.specs.declared.parts.BoardParts.{BoardParts}
use Rattle.board_types.specs.declared.reply.Refusal.{Refusal}
use Rattle.board_types.specs.declared.reply.Reply.{Reply}
use Rattle.board_core.specs.Access.{ran_to, reply_of, after_access}
use Rattle.board_core.specs.Pages.{page_reply, clock_reply, after_clock}
use Rattle.board_core.specs.Refusals.{refusal_of}
use Rattle.host_counter.specs.Time.{HasTime}

-- such a call asks for an access that is legal on board b, by a processor that it has, and for a reply
-- without edges and messages in it
pub record IsAsked (b : BoardParts) (processor : ℕ) (a : Access) (reply : Reply) : Type 0 where
  pub cpu : processor < b.cpus
  pub legal : IsTrue (is_legal b.cpus b.format a)
  pub fresh : IsFresh reply

-- board b took access a of processor cpu at count h: board and reply are then `after` and `told`; the run
-- to the access's time brings at most six edges, and the access itself twelve
pub record HasTaken (b : BoardParts) (cpu h : ℕ) (a : Access) (after : BoardParts) (told : Reply)
    : Type 0 where
  pub taken : refusal_of b cpu h a ≡ None
  pub reply : told ≡ reply_of b cpu h a
  pub state : after ≡ after_access b cpu h a
  pub of_lines : All IsOfLine told.edges
  pub few_run : length (ran_to b h).edges ≤ 6
  pub few : length told.edges ≤ length (ran_to b h).edges + 12

-- or refused it, and is what it was, as the reply is
pub record IsRefused (b : BoardParts) (cpu h : ℕ) (a : Access) (after : BoardParts)
    (before told : Reply) : Type 0 where
  pub refused : IsSome (refusal_of b cpu h a)
  pub unchanged : after ≡ b
  pub untouched : told ≡ before

-- board b was asked access a of processor cpu at count h: board and reply, which was `before`, are then
-- `after` and `told`; the run to the access's time brings at most six edges, and the access itself twelve
pub record IsOutcome {T : Type 0} (b : BoardParts) (cpu h : ℕ) (a : Access) (result : Result T Refusal)
    (after : BoardParts) (before told : Reply) : Type 0 where
  pub refused : IfErr result (λ e. refusal_of b cpu h a ≡ Some e)
  pub unchanged : OnErr result (after ≡ b)
  pub untouched : OnErr result (told ≡ before)
  pub taken : OnOk result (refusal_of b cpu h a ≡ None)
  pub reply : OnOk result (told ≡ reply_of b cpu h a)
  pub state : OnOk result (after ≡ after_access b cpu h a)
  pub of_lines : OnOk result (All IsOfLine told.edges)
  pub few_run : OnOk result (length (ran_to b h).edges ≤ 6)
  pub few : OnOk result (length told.edges ≤ length (ran_to b h).edges + 12)

-- a read of the page of processor cpu at count h gives what the board's page gives there, or why there
-- is no time at h
pub record IsPageRead (b : BoardParts) (cpu h : ℕ) (result : Result PageReply TimeFault) : Type 0
  where
    pub ok : OnOk result (HasTime b.anchor h)
    pub value : IfOk result (λ r. r ≡ page_reply b cpu h)
    pub fault : IfErr result (λ f. time_fault b.anchor h ≡ Some f)

-- the same of a read of the clock, which leaves board `after`
pub record IsClockRead (b : BoardParts) (cpu h : ℕ) (result : Result ClockReply TimeFault)
    (after : BoardParts) : Type 0 where
  pub ok : OnOk result (HasTime b.anchor h)
  pub value : IfOk result (λ r. r ≡ clock_reply b cpu h)
  pub state : OnOk result (after ≡ after_clock b cpu h)
  pub fault : IfErr result (λ f. time_fault b.anchor h ≡ Some f)
  pub unchanged : OnErr result (after ≡ b)
