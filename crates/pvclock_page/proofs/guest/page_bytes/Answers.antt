-- Each field reads as it was written.
use Rattle.std.proofs.Common.{rules, ℕ, List, sym, subst, arith}
use Rattle.pvclock_page.specs.Guest.{IsGuestPage}
use Rattle.pvclock_page.proofs.Fields.{IsGuestPage-guest_bytes}
use Rattle.pvclock_page.proofs.guest.page_bytes.Goals as goal

pub returns-clause-layout : goal.returns-clause-layout
returns-clause-layout c = search rules

pub returns-clause-fields : goal.returns-clause-fields
returns-clause-fields c =
    subst (λ (bytes : List ℕ). IsGuestPage bytes c.args.page.now) (sym (returns-clause-layout c))
    (IsGuestPage-guest_bytes c.args.page.now c.requires (omega arith) (omega arith) (omega arith) (search rules))
