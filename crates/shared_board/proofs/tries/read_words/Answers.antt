use Rattle.std.proofs.Common.{◌≡◌, ◌%◌, ◌∷◌, [], sym, subst, arith, eq-eqb, ne_eqb, eqb, Bool, true, false, inr}
use Rattle.pvclock_page.specs.declared.page.Page.{Page}
use Rattle.pvclock_page.specs.Words.{page_of}
use Rattle.shared_board.specs.Tries.{HasHeard}
use Rattle.shared_board.proofs.Fields.{noted, all_four, even_read, noted_1, noted_2, noted_3, noted_4, is_reading, may_end, Ends, read_ends}
use Rattle.shared_board.proofs.tries.read_words.Given as given
use Rattle.shared_board.proofs.tries.read_words.Goals as goal
use Rattle.shared_board.proofs.tries.read_words.Goals.{After-field-offset, After-second-second}

pub field-stamp-requires-clause-read : goal.field-stamp-requires-clause-read
field-stamp-requires-clause-read g c =
    let even : c.first-first.result % 2 ≡ 0 = omega (arith, c.if-first-ne0.false) in
    is_reading c.args.index c.first-first.result _ c.args.seat.now c.first-first.new.seat
    (even_read c.args.index c.first-first.result c.args.seat.now c.first-first.new.seat even c.first-first.ensures.view)

pub field-system-requires-clause-read : goal.field-system-requires-clause-read
field-system-requires-clause-read g c =
    let even : c.first-first.result % 2 ≡ 0 = omega (arith, c.if-first-ne0.false) in
    is_reading c.args.index c.first-first.result _ c.args.seat.now c.field-stamp.new.seat
    (noted_1 c.args.index c.first-first.result c.field-stamp.result c.args.seat.now c.first-first.new.seat c.field-stamp.new.seat even
    c.first-first.ensures.view c.field-stamp.ensures)

pub field-scale-requires-clause-read : goal.field-scale-requires-clause-read
field-scale-requires-clause-read g c =
    let even : c.first-first.result % 2 ≡ 0 = omega (arith, c.if-first-ne0.false) in
    is_reading c.args.index c.first-first.result _ c.args.seat.now c.field-system.new.seat
    (noted_2 c.args.index c.first-first.result c.field-stamp.result c.field-system.result c.args.seat.now c.first-first.new.seat c.field-stamp.new.seat
    c.field-system.new.seat even c.first-first.ensures.view c.field-stamp.ensures c.field-system.ensures)

pub field-offset-requires-clause-read : goal.field-offset-requires-clause-read
field-offset-requires-clause-read g c =
    let even : c.first-first.result % 2 ≡ 0 = omega (arith, c.if-first-ne0.false) in
    is_reading c.args.index c.first-first.result _ c.args.seat.now c.field-scale.new.seat
    (noted_3 c.args.index c.first-first.result c.field-stamp.result c.field-system.result c.field-scale.result c.args.seat.now c.first-first.new.seat
    c.field-stamp.new.seat c.field-system.new.seat c.field-scale.new.seat even c.first-first.ensures.view c.field-stamp.ensures c.field-system.ensures
    c.field-scale.ensures)

-- all fields were noted
all : (g : given.Over) (c : After-field-offset g) → c.field-offset.new.seat
    ≡ noted c.args.index c.first-first.result (all_four c.field-stamp.result c.field-system.result c.field-scale.result c.field-offset.result) c.args.seat.now
all g c = noted_4 c.args.index c.first-first.result c.field-stamp.result c.field-system.result c.field-scale.result c.field-offset.result c.args.seat.now
    c.first-first.new.seat c.field-stamp.new.seat c.field-system.new.seat c.field-scale.new.seat c.field-offset.new.seat
    (omega (arith, c.if-first-ne0.false)) c.first-first.ensures.view c.field-stamp.ensures c.field-system.ensures c.field-scale.ensures c.field-offset.ensures

pub second-second-requires : goal.second-second-requires
second-second-requires g c =
    may_end g.N.Name.state.cpus c.args.index c.first-first.result c.field-stamp.result c.field-system.result c.field-scale.result c.field-offset.result
    c.args.seat.now c.field-offset.new.seat (all g (goal.at.second-second-requires g c).After-field-offset) c.requires.index c.requires.pass

-- how the read ends
ends : (g : given.Over) (c : After-second-second g)
    → c.field-offset.new.seat
    ≡ noted c.args.index c.first-first.result (all_four c.field-stamp.result c.field-system.result c.field-scale.result c.field-offset.result) c.args.seat.now
    → (b : Bool) → eqb c.second-second.result c.first-first.result ≡ b
    → Ends g.N.Name.state.cpus b c.args.index c.args.h c.first-first.result c.second-second.result
    (page_of (c.first-first.result ∷ c.field-stamp.result ∷ c.field-system.result ∷ c.field-scale.result ∷ c.field-offset.result ∷ [])) c.args.seat.now
    c.second-second.new.seat
ends g c noted_is b same =
    let n = c.first-first.result in
    subst (λ (e : Bool). Ends g.N.Name.state.cpus e c.args.index c.args.h n c.second-second.result
    (page_of (n ∷ c.field-stamp.result ∷ c.field-system.result ∷ c.field-scale.result ∷ c.field-offset.result ∷ [])) c.args.seat.now c.second-second.new.seat) same
    (read_ends g.N.Name.state.cpus c.args.index c.args.h n c.field-stamp.result c.field-system.result c.field-scale.result c.field-offset.result
    c.second-second.result c.args.seat.now c.field-offset.new.seat c.second-second.new.seat noted_is c.second-second.ensures)

pub returns-then-second-first-clause-err : goal.returns-then-second-first-clause-err
returns-then-second-first-clause-err g c =
    let at = goal.at.returns-then-second-first-clause-err g c in
    let told = ends g at.After-second-second (all g at.After-field-offset) false
    (ne_eqb c.second-second.result c.first-first.result c.if-second-first.true) in
    record { missed = told.0; least = c.first-first.ensures.least; update = inr told.1 }

pub returns-clause-ok : goal.returns-clause-ok
returns-clause-ok g c =
    let at = goal.at.returns-clause-ok g c in
    let told = ends g at.After-second-second (all g at.After-field-offset) true (eq-eqb c.second-second.result c.first-first.result c.if-second-first.false) in
    subst (λ (p : Page). HasHeard g.N.Name.state.cpus c.args.index c.args.h p c.args.seat.now c.second-second.new.seat) (sym c.words_page.ensures.value)
    (record { heard = told; least = c.first-first.ensures.least })
