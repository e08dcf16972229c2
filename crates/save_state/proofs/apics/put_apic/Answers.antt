use Rattle.save_state.proofs.Names.{◌≡◌, ℕ, List, ◌++◌, refl, ap, ◌∙◌, on_ok_weaker, write, plain, elsewhere, written-then, Apic, apic_timer, apic_line, line}
use Rattle.save_state.proofs.apics.put_apic.Goals as goal

-- a tick line is written as those of the devices are
line-written : (k : ℕ) (a : Apic) → write (line k) a.1 ≡ write apic_line a
unfolding line apic_line plain elsewhere
line-written k a = refl

pub returns-clause-bytes : goal.returns-clause-bytes
returns-clause-bytes c k =
    let a : Apic = (c.args.timer.now, c.args.line.now) in
    let now : List ℕ = c.put_timer.new.out.items in
    on_ok_weaker c.put_line.result
    (λ e. written-then apic_timer apic_line a _ _ _ (c.in_ok-put_timer.ensures.bytes c.args.line.now) (e ∙ ap (λ (xs : List ℕ). now ++ xs) (line-written k a)))
    (c.put_line.ensures.bytes k)
