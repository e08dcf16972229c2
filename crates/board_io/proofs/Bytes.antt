-- What a sink holds grows, and what a source gives in no call.
use Rattle.std.proofs.Common.{List, ℕ, [], ◌++◌, length, refl, sym, ap, ◌∙◌, inl, arith, append_assoc, append-nil, Option, Some, None}
use Rattle.std.proofs.lemmas.List.{drop_all}
use Rattle.std.proofs.KnownBytes.{Appends-trans}
use Rattle.std.specs.Io.KnownBytes.{Appends, Keeps}
use Rattle.board_io.specs.Ends.{Input, Gives, Held, Grows, Stays}

pub Grows-trans : (a b c : Held) (bs cs : List ℕ) → Grows a b bs → Grows b c cs → Grows a c (bs ++ cs)
Grows-trans a b c bs cs p q = (
  Appends-trans a.known b.known c.known bs cs p.0 q.0,
  q.1 ∙ ap (λ (l : List ℕ). l ++ cs) p.1 ∙ append_assoc a.accepted bs cs,
)

appends_kept : (a b c : Option (List ℕ)) (bs : List ℕ) → Appends a b bs → Keeps b c → Appends a c bs
appends_kept None b c bs p q = tt
appends_kept (Some x) None c bs p q = absurd p
appends_kept (Some x) (Some y) None bs p q = absurd q
appends_kept (Some x) (Some y) (Some z) bs p q = q ∙ p

pub Grows-kept : (a b c : Held) (bs : List ℕ) → Grows a b bs → Stays b c → Grows a c bs
Grows-kept a b c bs p q = (appends_kept a.known b.known c.known bs p.0 q.0, q.1 ∙ p.1)

-- a source that wasn't called gave nothing
pub gives_nothing : (s : Input) → Gives s s
gives_nothing s = record {
  grows = ([], sym (append-nil s.read));
  known = λ input e. (input, sym (ap (λ (l : List ℕ). l ++ input) (drop_all (length s.read) s.read (omega arith))), inl refl);
}
