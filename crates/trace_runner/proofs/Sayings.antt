-- What is said is the command's saying.
use Rattle.std.proofs.Common.{◌≡◌, ℕ, List, Some, Bool, sym, subst, ◌∙◌, inl, Result, Ok, IfOk}
use Rattle.board_io.specs.Ends.{Held}
use Rattle.clk_units.specs.declared.NoMemory.{NoMemory}
use Rattle.command_line.specs.Command.{command_of}
use Rattle.command_line.specs.declared.command.Command.{Command}
use Rattle.trace_replay.specs.Said.{Said, SaidAtMost}
use Rattle.trace_runner.specs.Sayings.{Saying}
use Rattle.trace_replay.specs.declared.status.Status.{Status}

-- a text that is put whole, as the saying of its command
pub said-whole : (s saying : Saying) (result : Status) (old new : Held) (shown : Type 0) → Some s ≡ Some saying
    → Said s.status result old new s.text shown → SaidAtMost saying.status result old new saying.text shown
said-whole s saying result old new shown is said =
    let same : s ≡ saying = cc in
    subst (λ (x : Saying). SaidAtMost x.status result old new x.text shown) same (inl said)

-- what is true of the flag of the command that was read is true of the one that the words name
pub by_flag : (job : Bool → Command) → ((a b : Bool) → job a ≡ job b → a ≡ b) → {x : Command} (Q : Bool → Type 0) (a : Bool)
    (r : Result Command NoMemory) (words : List (List ℕ)) → IfOk r (λ c. c ≡ command_of words) → r ≡ Ok x → x ≡ job a → Q a
    → (b : Bool) → command_of words ≡ job b → Q b
by_flag job one {x} Q a r words named was is here b asked =
    let told : x ≡ command_of words = subst (λ (z : Result Command NoMemory). IfOk z (λ c. c ≡ command_of words)) was named in
    subst Q (one a b (sym is ∙ told ∙ asked)) here
