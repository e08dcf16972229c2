-- What a record was answered, by what its call on the board answered.
use Rattle.std.proofs.Common.{◌≡◌, ◌∙◌, ℕ, List, [], ◌∷◌, ◌++◌, refl, sym, subst, append-nil, Bool, true, false}
use Rattle.board_types.specs.declared.access.Access.{Access}
use Rattle.board_types.specs.declared.parts.BoardParts.{BoardParts}
use Rattle.board_types.specs.declared.reply.Reply.{Reply}
use Rattle.board_history.specs.declared.entry.Entry.{Entry}
use Rattle.board_history.specs.declared.entry.Entry.TheVariants.{Board, PageRead, HvRead, Clamp}
use Rattle.hv_page.specs.declared.page.HvPage.{HvPage}
use Rattle.hv_page.specs.Words.{of_page}
use Rattle.clock_table.specs.declared.view.Miss.{Miss}
use Rattle.pvclock_page.specs.declared.page.Page.{Page}
use Rattle.pvclock_page.specs.declared.page.ClockReply.TheVariants.{Off, On}
use Rattle.shared_board.specs.declared.known.PassKnown.{PassKnown}
use Rattle.shared_board.specs.Passes.{miss, mine, Answered, Tried}
use Rattle.shared_board.specs.declared.read.Read.{Read}
use Rattle.shared_board.specs.declared.read.Read.TheVariants.{Page as OfPage, Clock as OfClock, Hv as OfHv}
use Rattle.shared_board.specs.declared.read.ReadReply.{ReadReply}
use Rattle.shared_board.specs.declared.read.ReadReply.TheVariants.{Page as PageOf, Clock as ClockOf, Hv as HvOf}
use Rattle.shared_board.specs.Reads.{place_in, MayRead, page_entry, clamp_entries, IsAnswerBy, HasRead}
use Rattle.shared_board.proofs.Made.{made_of}
use Rattle.trace_blocks.specs.declared.records.Answer.TheVariants.{Acted}
use Rattle.trace_records.specs.declared.Call.{Call}
use Rattle.trace_records.specs.declared.Call.TheVariants.{Act}
use Rattle.trace_records.specs.Calls.{IsFittingCall}
use Rattle.trace_blocks.specs.declared.records.Record.{Record}
use Rattle.race_phase.specs.Calls.{CallMade, IsTryOf, AllTried}
use Rattle.race_phase.specs.private.Told.{reading, answer_of}
use Rattle.race_phase.specs.private.Workers.{IsMade, IsUnread, CallTrouble}

-- a read that was tried once has one miss, and is under the lock, or none
abbrev HasMisses : ℕ → List Entry → PassKnown → PassKnown → Type 0
HasMisses c es p q = (ms : List Miss) × AllTried c p.number p.seen (mine p) es ms × (q.misses ≡ p.misses ++ ms)

the_miss : (k : ℕ) (p q : PassKnown) (t : Tried k true p q) → IsTryOf p.number p.seen (mine p) k (miss k t.0 t.1)
the_miss k p q t = record {
  page = refl;
  update = t.4;
  seen = p.seen;
  begins = ([], append-nil p.seen);
  mine = refl;
  least = t.3;
}

page_tried : (c n k h : ℕ) (page : Page) (locked : Bool) (es : List Entry) (p q : PassKnown) → Tried k locked p q
    → AllTried c p.number p.seen (mine p ++ PageRead n k h page locked ∷ []) es []
    → HasMisses c (PageRead n k h page locked ∷ es) p q
page_tried c n k h page true es p q t none =
    let m : Miss = miss k t.0 t.1 in (m ∷ [], (m ∷ [], [], refl, (m, refl, the_miss k p q t), none), t.2)
page_tried c n k h page false es p q t none = ([], ([], [], refl, refl, none), t ∙ sym (append-nil p.misses))

hv_tried : (c n h : ℕ) (page : HvPage) (locked : Bool) (p q : PassKnown) → Tried c locked p q → HasMisses c (HvRead n h page locked ∷ []) p q
hv_tried c n h page true p q t = let m : Miss = miss c t.0 t.1 in (m ∷ [], (m ∷ [], [], refl, (m, refl, the_miss c p q t), refl), t.2)
hv_tried c n h page false p q t = ([], ([], [], refl, refl, refl), t ∙ sym (append-nil p.misses))

-- the misses of a read
read_tried : (s : BoardParts) (what : Read) (n h : ℕ) (page : Page) (locked : Bool) (reply : ReadReply) (o p q : PassKnown)
    → IsAnswerBy s what h page reply o → Tried (place_in s.cpus what) locked p q
    → HasMisses s.cpus (page_entry n what h page locked ∷ clamp_entries n what reply) p q
read_tried s (OfPage k) n h page locked (PageOf x) o p q a t = page_tried s.cpus n k h page locked [] p q t refl
read_tried s (OfClock k) n h page locked (ClockOf Off) o p q a t = page_tried s.cpus n k h page locked [] p q t refl
read_tried s (OfClock k) n h page locked (ClockOf (On reading clock)) o p q a t =
    page_tried s.cpus n k h page locked (Clamp n k reading clock ∷ []) p q t ([], [], refl, refl, refl)
read_tried s OfHv n h page locked (HvOf x) o p q a t = hv_tried s.cpus n h (of_page page) locked p q t
read_tried s _ n h page locked _ o p q a t = absurd a

-- the call of a read
read_call : (s : BoardParts) (what : Read) (n cpu h : ℕ) (page : Page) (locked : Bool) (reply : ReadReply) (p : PassKnown)
    → IsAnswerBy s what h page reply p
    → CallMade s n cpu h (reading what) (answer_of reply) (page_entry n what h page locked ∷ clamp_entries n what reply)
read_call s (OfPage k) n cpu h page locked (PageOf x) p a = (page, locked, a, refl)
read_call s (OfClock k) n cpu h page locked (ClockOf Off) p a = (page, locked, a, refl)
read_call s (OfClock k) n cpu h page locked (ClockOf (On reading clock)) p a = (page, locked, a.0, a.1, refl)
read_call s OfHv n cpu h page locked (HvOf x) p a = (of_page page, locked, a, refl)
read_call s _ n cpu h page locked _ p a = absurd a

-- a board that a record fits has what it reads
pub may_read : (s : BoardParts) (what : Read) → IsFittingCall s.cpus s.format (reading what) → MayRead s what
may_read s (OfPage k) fits = fits
may_read s (OfClock k) fits = fits
may_read s OfHv fits = fits

-- a read's own trouble
pub read_trouble : (s : BoardParts) (what : Read) (cpu h : ℕ) (seen : List Entry) → IsUnread s h seen → CallTrouble s cpu h (reading what) seen
read_trouble s (OfPage k) cpu h seen u = u
read_trouble s (OfClock k) cpu h seen u = u
read_trouble s OfHv cpu h seen u = u

module _ (s : BoardParts) (r : Record) (p q : PassKnown) where
  pub access_made : (x : Access) (reply : Reply) → r.call ≡ Act x → Answered p q (Board p.number r.cpu r.h x reply) → IsMade s r (Acted reply) p q
  access_made x reply is a =
      let e : Entry = Board p.number r.cpu r.h x reply in (
        e ∷ [],
        subst (λ (call : Call). CallMade s p.number r.cpu r.h call (Acted reply) (e ∷ [])) (sym is) refl,
        made_of p q e a,
        [],
        ([], [], refl, refl, refl),
        a.misses ∙ sym (append-nil p.misses),
      )

  pub read_made : (what : Read) (reply : ReadReply) → r.call ≡ reading what → HasRead s what r.h reply p q → IsMade s r (answer_of reply) p q
  read_made what reply is a =
      let w = a.read in
      let es : List Entry = page_entry p.number what r.h w.page a.locked ∷ clamp_entries p.number what reply in
      let m = read_tried s what p.number r.h w.page a.locked reply p p q w.answer a.tried in (
        es,
        subst (λ (call : Call). CallMade s p.number r.cpu r.h call (answer_of reply) es) (sym is)
            (read_call s what p.number r.cpu r.h w.page a.locked reply p w.answer),
        w.made,
        m.0,
        m.1,
        m.2,
      )
