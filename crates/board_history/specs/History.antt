-- Histories of a board: what an entry leaves, and which lists of entries are legal.
use Rattle.std.specs.Prelude.{
  ◌≡◌,
  ℕ,
  ◌<◌,
  max,
  ◌==◌,
  Bool,
  true,
  false,
  IsTrue,
  List,
  [],
  ◌∷◌,
  ◌++◌,
  Option,
  Some,
  None,
}
use Rattle.std.specs.List.{filter, fold, last_or}
use Rattle.board_types.specs.declared.access.Access.{Access}
use Rattle.board_types.specs.declared.parts.BoardParts.{BoardParts}
use Rattle.board_types.specs.declared.reply.Reply.{Reply}
use Rattle.board_types.specs.Legal.{is_legal}
use Rattle.board_core.specs.Access.{after_access, reply_of}
use Rattle.board_core.specs.Pages.{with_greatest, reading_by}
use Rattle.board_core.specs.Hv.{hv_in}
use Rattle.board_core.specs.Refusals.{refusal_of}
use Rattle.pvclock_page.specs.declared.page.Page.{Page}
use Rattle.hv_page.specs.Words.{of_page}
use Rattle.board_history.specs.Machine.{page_at, ratio_in, no_board}
use Rattle.board_history.specs.declared.entry.Entry.{Entry}
use Rattle.board_history.specs.declared.entry.Entry.TheVariants.{Opened, Board, PageRead, HvRead, Clamp}

-- the number of the pass that made an entry
abbrev pub pass_of : Entry → Option ℕ
pass_of (Opened s) = None
pass_of (Board pass cpu h access reply) = Some pass
pass_of (PageRead pass cpu h page locked) = Some pass
pass_of (HvRead pass h page locked) = Some pass
pass_of (Clamp pass cpu reading clock) = Some pass

-- the board after an entry: a read of a page changes nothing, a clamp the greatest reading alone
abbrev pub after_entry : BoardParts → Entry → BoardParts
after_entry b (Opened s) = s
after_entry b (Board pass cpu h access reply) = after_access b cpu h access
after_entry b (PageRead pass cpu h page locked) = b
after_entry b (HvRead pass h page locked) = b
after_entry b (Clamp pass cpu reading clock) = with_greatest b clock

-- the board after a history
abbrev pub board_after : List Entry → BoardParts
board_after h = fold after_entry no_board h

-- the greatest reading that was answered in a history
abbrev pub floor_after : List Entry → ℕ
floor_after h = (board_after h).greatest

-- the version of a page after a history
abbrev pub version_after : List Entry → ℕ → ℕ
version_after h cpu = (page_at (board_after h) cpu).version

-- the entry of a read of the page c of a table: after the pages of the processors comes the
-- reference page
abbrev pub read_if : Bool → ℕ → ℕ → ℕ → Page → Bool → Entry
read_if true pass c h page locked = HvRead pass h (of_page page) locked
read_if false pass c h page locked = PageRead pass c h page locked

abbrev pub read_of : ℕ → ℕ → ℕ → ℕ → Page → Bool → Entry
read_of cpus pass c h page locked = read_if (c == cpus) pass c h page locked

-- whether the pass of this number made an entry, and its entries in order
abbrev pub is_of : ℕ → Entry → Bool
is_of n (Opened s) = false
is_of n (Board pass cpu h access reply) = pass == n
is_of n (PageRead pass cpu h page locked) = pass == n
is_of n (HvRead pass h page locked) = pass == n
is_of n (Clamp pass cpu reading clock) = pass == n

-- the entries of a pass
abbrev pub entries_of : ℕ → List Entry → List Entry
entries_of n es = filter (is_of n) es

-- the entry is a read of an enabled page of cpu, which gives this reading by the ratio of the rates
abbrev pub Reads : ℕ → Option Entry → ℕ → ℕ → Type 0
Reads ratio (Some (PageRead pass c h page locked)) cpu reading =
    (c ≡ cpu) × IsTrue page.enabled × (reading_by ratio page h ≡ reading)
Reads ratio _ cpu reading = ⊥

-- an access is one that the board takes, isn't refused, and is answered as one thread would be
pub record IsAnswered (b : BoardParts) (cpu h : ℕ) (a : Access) (r : Reply) : Type 0 where
  pub cpu_below : cpu < b.cpus
  pub legal : IsTrue (is_legal b.cpus b.format a)
  pub taken : refusal_of b cpu h a ≡ None
  pub reply : reply_of b cpu h a ≡ r

-- the entry may come after these
abbrev pub May : List Entry → Entry → Type 0
May before (Opened s) = ⊥
May before (Board pass cpu h access reply) = IsAnswered (board_after before) cpu h access reply
May before (PageRead pass cpu h page locked) =
    (cpu < (board_after before).cpus) × (page_at (board_after before) cpu ≡ page)
May before (HvRead pass h page locked) = hv_in (board_after before).hv ≡ page
May before (Clamp pass cpu reading clock) =
    Reads (ratio_in (board_after before)) (last_or None (entries_of pass before)) cpu reading
    × (clock ≡ max reading (floor_after before))

-- each entry may come after those before it
abbrev pub LegalFrom : List Entry → List Entry → Type 0
LegalFrom before [] = Unit {0}
LegalFrom before (e ∷ es) = May before e × LegalFrom (before ++ e ∷ []) es

-- a legal history begins with Opened, and has no other
abbrev pub IsLegal : List Entry → Type 0
IsLegal (Opened s ∷ es) = LegalFrom (Opened s ∷ []) es
IsLegal _ = ⊥

-- the history opens with this state
abbrev pub Opens : BoardParts → List Entry → Type 0
Opens opening h = (later : List Entry) × (h ≡ Opened opening ∷ later)
