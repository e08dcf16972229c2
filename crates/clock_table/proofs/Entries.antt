-- What an entry of the pen's holder leaves, where it may come after what its seat has seen.
use Rattle.std.proofs.Common.{◌≡◌, ◌≢◌, ℕ, ◌+◌, ◌^◌, ◌<◌, List, [], ◌∷◌, ◌++◌, ap, sym, ◌∙◌, subst, arith, refl}
use Rattle.board_types.specs.declared.{access.Access.Access, reply.Reply.Reply, parts.BoardParts.BoardParts}
use Rattle.board_core.specs.Access.{after_access}
use Rattle.board_core.proofs.Laws.{after_access-greatest, refusal_of-greatest, reply_of-greatest, after_access-kept_greatest}
use Rattle.board_history.specs.{Machine.page_at, History.board_after, History.version_after, History.after_entry, History.IsAnswered}
use Rattle.board_history.specs.{History.May, private.Steady.IsSteady, declared.entry.Entry.Entry}
use Rattle.board_history.specs.declared.entry.Entry.TheVariants.{Board, PageRead, HvRead}
use Rattle.board_history.proofs.{Pages.version-here, Pages.page_at-else, Pages.page_at-none, Laws.board_after-snoc}
use Rattle.clock_table.specs.Steps.{GoesOnQuietly, weight, loudness, loud}
use Rattle.clock_table.specs.Calls.{IsPublishing, PublishesNone, IsBump}
use Rattle.clock_table.proofs.Keeps.{quiet_board, loud-append, loud_between}
use Rattle.board_core.specs.Hv.{hv_in}

-- the entry may come after the history, and raises the front word by n
pub record Leaves (log : List Entry) (e : Entry) (n : ℕ) : Type 0 where
  pub may : May log e
  pub count : loud (log ++ e ∷ []) ≡ loud log + n
  pub low : loud log + n < 2 ^ 63 + 1
  pub greatest : (board_after (log ++ e ∷ [])).greatest ≡ (board_after log).greatest

-- and it publishes the page c alone
pub record Publishes (seen log : List Entry) (e : Entry) (c : ℕ) : Type 0 where
  pub leaves : Leaves log e 0
  pub version : version_after (log ++ e ∷ []) c ≡ version_after log c + 2
  pub same : page_at (board_after (log ++ e ∷ [])) c ≡ page_at (board_after (seen ++ e ∷ [])) c
  pub others : (d : ℕ) → d ≢ c → page_at (board_after log) d ≡ page_at (board_after (log ++ e ∷ [])) d

-- or it leaves all pages
abbrev pub PagesStay : List Entry → Entry → Type 0
PagesStay log e = (d : ℕ) → page_at (board_after log) d ≡ page_at (board_after (log ++ e ∷ [])) d

board_leaves : (seen log : List Entry) (pass cpu h : ℕ) (a : Access) (reply : Reply) → GoesOnQuietly seen log → IsAnswered (board_after seen) cpu h a reply
    → loud log < 2 ^ 63 + 1 → Leaves log (Board pass cpu h a reply) 0
board_leaves seen log pass cpu h a reply quiet is low =
    let q = quiet_board seen log quiet in
    let b : BoardParts = board_after seen in
    let e : Entry = Board pass cpu h a reply in
    let count = loud-append log (e ∷ []) in
    record {
      may = subst (λ (x : BoardParts). IsAnswered x cpu h a reply) (sym q.1) (record {
        cpu_below = is.cpu_below;
        legal = is.legal;
        taken = refusal_of-greatest b cpu h q.0 a ∙ is.taken;
        reply = reply_of-greatest b cpu h q.0 a ∙ is.reply;
      });
      count = omega arith;
      low = omega arith;
      greatest = ap (λ (x : BoardParts). x.greatest) (board_after-snoc log e) ∙ after_access-kept_greatest (board_after log) cpu h a;
    }

-- an access that publishes no page
pub enter_leaves : (seen log : List Entry) (e : Entry) → GoesOnQuietly seen log → PublishesNone (board_after log).cpus e → May seen e → loud log < 2 ^ 63 + 1
    → Leaves log e 0 × PagesStay log e
enter_leaves seen log (Board pass cpu h a reply) quiet is may low = (
  board_leaves seen log pass cpu h a reply quiet may low,
  λ d. sym (ap (λ (x : BoardParts). page_at x d) (board_after-snoc log (Board pass cpu h a reply)) ∙ page_at-none (board_after log) cpu h d a is),
)
enter_leaves seen log e quiet is may low = absurd is

-- a read under the lock
read_leaves : (seen log : List Entry) (e : Entry) → GoesOnQuietly seen log → after_entry (board_after log) e ≡ board_after log → loudness e ≡ 1
    → loud seen < 2 ^ 63 → May log e → Leaves log e 1 × PagesStay log e
read_leaves seen log e quiet stays one few may =
    let same : board_after (log ++ e ∷ []) ≡ board_after log = board_after-snoc log e ∙ stays in
    let was : loud log ≡ loud seen = loud_between seen log quiet in
    let count = loud-append log (e ∷ []) in (
      record { may = may; count = omega arith; low = omega arith; greatest = ap (λ (x : BoardParts). x.greatest) same },
      λ d. ap (λ (x : BoardParts). page_at x d) (sym same),
    )

pub bump_leaves : (seen log : List Entry) (e : Entry) → GoesOnQuietly seen log → IsBump seen e → May seen e → Leaves log e 1 × PagesStay log e
bump_leaves seen log (PageRead pass cpu h page locked) quiet is may =
    read_leaves seen log (PageRead pass cpu h page locked) quiet refl (ap weight is.0) is.1
    (subst (λ (x : BoardParts). (cpu < x.cpus) × (page_at x cpu ≡ page)) (sym (quiet_board seen log quiet).1) (may.0, may.1))
bump_leaves seen log (HvRead pass h page locked) quiet is may =
    read_leaves seen log (HvRead pass h page locked) quiet refl (ap weight is.0) is.1
    (subst (λ (x : BoardParts). hv_in x.hv ≡ page) (sym (quiet_board seen log quiet).1) may)
bump_leaves seen log e quiet is may = absurd is

-- an access that publishes a page
pub publish_leaves : (seen log : List Entry) (e : Entry) (c : ℕ) → GoesOnQuietly seen log → IsPublishing (board_after log).cpus c e → May seen e
    → loud log < 2 ^ 63 + 1 → IsSteady (board_after log) → Publishes seen log e c
publish_leaves seen log (Board pass cpu h a reply) c quiet is may low steady =
    let q = quiet_board seen log quiet in
    let e : Entry = Board pass cpu h a reply in
    let leaves = board_leaves seen log pass cpu h a reply quiet may low in
    let answered : IsAnswered (board_after log) cpu h a reply = leaves.may in
    let after = board_after-snoc log e in
    record {
      leaves = leaves;
      version = ap (λ (x : BoardParts). (page_at x c).version) after
          ∙ version-here (board_after log) cpu h c a steady.places answered.cpu_below answered.legal is;
      same = ap (λ (x : BoardParts). page_at x c) (after ∙ (ap (λ (x : BoardParts). after_access x cpu h a) q.1
          ∙ after_access-greatest (board_after seen) cpu h q.0 a)) ∙ sym (ap (λ (x : BoardParts). page_at x c) (board_after-snoc seen e));
      others = λ d ne. sym (ap (λ (x : BoardParts). page_at x d) after ∙ page_at-else (board_after log) cpu h c d a is ne);
    }
publish_leaves seen log e c quiet is may low steady = absurd is
