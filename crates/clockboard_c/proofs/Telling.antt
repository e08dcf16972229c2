-- A reply that says what is told.
use Rattle.std.proofs.Common.{◌≡◌, ℕ, [], Option, None, sym, ap, subst, ◌∙◌}
use Rattle.board_types.specs.declared.access.Access.{Access}
use Rattle.board_types.specs.declared.parts.BoardParts.{BoardParts}
use Rattle.board_types.specs.declared.reply.Refusal.{Refusal}
use Rattle.board_types.specs.declared.reply.Reply.{Reply}
use Rattle.board_types.specs.declared.reply.Value.{Value}
use Rattle.board_core.specs.Time.{now_of}
use Rattle.board_core.specs.Access.{value_at, reply_of, after_access}
use Rattle.board_core.specs.Lazy.{IsPassed}
use Rattle.board_core.specs.Refusals.{refusal_of}
use Rattle.board_core.proofs.Passive.{now-left}
use Rattle.clockboard_c.specs.declared.reply.ReplyWords.{ReplyWords}
use Rattle.clockboard_c.specs.Replies.{Told, told_of, value_words, without_edges, IsReply}
use Rattle.clockboard_c.specs.declared.code.TheConstants.{OK}
use Rattle.clockboard_c.specs.Call.{told_unless, told_by}

-- the board's answer, and its time after it, are what it tells where it doesn't refuse
pub says-answer :
    (old new : ReplyWords) (s : BoardParts) (cpu h : ℕ) (a : Access) (r : Reply) (now : ℕ)
    → refusal_of s cpu h a ≡ None → r ≡ reply_of s cpu h a → now ≡ now_of (after_access s cpu h a)
    → IsReply old new (told_of r now) → IsReply old new (told_by s cpu h a)
says-answer old new s cpu h a r now none answer time is =
    let same : told_of r now ≡ told_by s cpu h a =
    ap (λ (x : Reply). told_of x now) answer
    ∙ ap (λ (t : ℕ). told_of (reply_of s cpu h a) t) time
    ∙ sym (ap (λ (o : Option Refusal). told_unless o s cpu h a) none) in
    subst (λ (t : Told). IsReply old new t) same is

-- .. and of an access that is only counted its number, time and value are
reply_with : ℕ → Value → Reply
reply_with number value = record { number = number; value = value; edges = []; bursts = [] }

pub says-passed :
    (old new : ReplyWords) (s after : BoardParts) (cpu h : ℕ) (a : Access) (number now : ℕ) (v : Value)
    → IsPassed s cpu h a number after → now ≡ now_of after → v ≡ value_at after cpu h a
    → IsReply old new (without_edges OK number now (value_words v)) → IsReply old new (told_by s cpu h a)
unfolding reply_with
says-passed old new s after cpu h a number now v is time value words =
    says-answer old new s cpu h a (reply_with number v) now is.taken (ap (reply_with number) value ∙ sym is.reply)
    (time ∙ sym (now-left a after) ∙ ap now_of is.state) words
