use Rattle.std.proofs.Common.{◌≡◌, ℕ, ◌+◌, ◌-◌, List, take, drop, ap, ◌∙◌, arith}
use borrow.Rule.Slice.PartMut.{put_mid}
use Rattle.reply_text.proofs.Fronts.{digits_put}
use Rattle.reply_text.proofs.forward.put_digits.Goals as goal

pub returns-clause-written : goal.returns-clause-written
returns-clause-written c =
    let text : List ℕ = c.args.text.now in
    let digits : List ℕ = c.args.digits.now in
    let at : ℕ = c.args.at in
    let start : ℕ = c.args.start in
    let long : start + 20 - start ≡ 20 = omega arith in
    let copied : c.copy_from_slice.new.self ≡ take 20 (drop start digits) =
    c.copy_from_slice.ensures.after ∙ ap (λ (n : ℕ). take n (drop start digits)) long in
    ap (λ (ys : List ℕ). take (at + (20 - start)) (put_mid at (at + 20 - at) text ys)) copied
    ∙ digits_put text digits (drop (at + 20 - at) (drop at text)) start at (omega arith) (omega (arith, c.told-digits)) (omega (arith, c.told-text))
