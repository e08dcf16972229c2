-- A number that is read is the one that the definition gives.
use Rattle.std.proofs.Common.{
  ◌≡◌,
  ◌∙◌,
  ◌<◌,
  ◌^◌,
  ◌-◌,
  ℕ,
  Bool,
  cond,
  true,
  false,
  List,
  Some,
  None,
  Result,
  Ok,
  Err,
  refl,
  sym,
  ap,
  arith,
}
use Rattle.std.specs.Result.{result_ok}
use Rattle.std.specs.Str.Parse.{ParsesUnsigned, digits_value, without_leading_plus}
use Rattle.clap.specs.ValueTests.{is_unsigned_in}
use Rattle.clap.specs.Values.{Accepts}
use Rattle.clap.specs.declared.builder.value_parser.ValueParser.TheVariants.{Unsigned}
use Rattle.clap.proofs.ValueTestLemmas.{accepts-Accepts, Accepts-accepts}
use Rattle.command_line.specs.Command.{number_of}

pub read : {E : Type 0} (text : List ℕ) (r : Result ℕ E) → ParsesUnsigned 64 10 text r → result_ok r ≡ number_of text
read text (Ok n) parses =
    let v : ℕ = digits_value 10 (without_leading_plus text) in
    let fits : v < 2 ^ 64 = parses.0.1 in
    let yes : is_unsigned_in 0 (2 ^ 64 - 1) text ≡ true =
    Accepts-accepts false (Unsigned 0 (2 ^ 64 - 1)) text (parses.0.0, fits, omega arith, omega (arith, fits)) in
    ap (λ (k : ℕ). Some k) parses.1 ∙ sym (ap (λ (t : Bool). cond t (Some v) None) yes)
read text (Err e) parses = refused (is_unsigned_in 0 (2 ^ 64 - 1) text) (accepts-Accepts false (Unsigned 0 (2 ^ 64 - 1)) text)
  where
    refused : (t : Bool) → (t ≡ true → Accepts false (Unsigned 0 (2 ^ 64 - 1)) text)
        → None ≡ cond t (Some (digits_value 10 (without_leading_plus text))) None
    refused true accepts = let a = accepts refl in absurd (parses (a.0, a.1))
    refused false accepts = refl
