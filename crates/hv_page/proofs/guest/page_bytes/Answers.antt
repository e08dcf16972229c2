-- Each field reads as it was written, and the time as it is answered.
use Rattle.std.proofs.Common.{rules, ℕ, List, sym, subst, arith}
use Rattle.hv_page.specs.Guest.{IsGuestPage}
use Rattle.hv_page.proofs.Guests.{IsGuestPage-guest_bytes, guest_time-told}
use Rattle.hv_page.proofs.guest.page_bytes.Goals as goal

pub returns-clause-layout : goal.returns-clause-layout
returns-clause-layout c = search rules

pub returns-clause-fields : goal.returns-clause-fields
returns-clause-fields c =
    subst (λ (bytes : List ℕ). IsGuestPage bytes c.args.page.now) (sym (returns-clause-layout c))
    (IsGuestPage-guest_bytes c.args.page.now c.requires (omega arith) (omega arith))

pub returns-clause-reads : goal.returns-clause-reads
returns-clause-reads c = λ tsc published. guest_time-told _ c.args.page.now tsc (returns-clause-fields c) published
