-- The deliveries of some edges, one rise after the other, and of some bursts.
use Rattle.std.proofs.Common.{◌≡◌, ℕ, ◌+◌, ◌<◌, ◌≤◌, Bool, true, false, List, [], ◌∷◌, ◌++◌, length, get_or, take, cond, ap, ◌∙◌, arith}
use Rattle.std.proofs.Common.{length-append}
use Rattle.std.specs.List.{All, AllZip}
use Rattle.std.proofs.lemmas.List.{take_more, append-nil}
use Rattle.std.proofs.lemmas.List.Elements.{All-push, filter_more}
use Rattle.irq_edges.specs.declared.edges.Edge.{Edge}
use Rattle.edge_hooks.specs.declared.deliveries.Delivery.{Delivery}
use Rattle.irq_edges.specs.declared.bursts.Burst.{Burst}
use Rattle.edge_hooks.specs.declared.messages.Message.{Message}
use Rattle.edge_hooks.specs.declared.sent.Sent.{Sent}
use Rattle.edge_hooks.specs.Hooks.{IsDelivery, rises_among}
use Rattle.edge_hooks.specs.Messages.{IsSent}

-- these are the answers on the rises among edges
pub record Delivered (cpus : ℕ) (answers : Edge → Delivery → Type 0) (es : List Edge) (ds : List Delivery) : Type 0 where
  pub answered : AllZip answers (rises_among es) ds
  pub valid : All (IsDelivery cpus) ds
  pub few : length ds ≤ length es

-- one pair more at the ends of two lists
pub AllZip-snoc : {A B : Type 0} (R : A → B → Type 0) (xs : List A) (ys : List B) (x : A) (y : B)
    → AllZip R xs ys → R x y → AllZip R (xs ++ x ∷ []) (ys ++ y ∷ [])
AllZip-snoc R [] [] x y zip r = (r, tt)
AllZip-snoc R [] (y' ∷ ys) x y zip r = absurd zip
AllZip-snoc R (x' ∷ xs) [] x y zip r = absurd zip
AllZip-snoc R (x' ∷ xs) (y' ∷ ys) x y zip r = (zip.0, AllZip-snoc R xs ys x y zip.1 r)

-- a rise gets one delivery more
pub Delivered-rise : (cpus : ℕ) (answers : Edge → Delivery → Type 0) (es : List Edge) (i : ℕ) (e : Edge) (ds : List Delivery) (d : Delivery)
    → Delivered cpus answers (take i es) ds → i < length es → (get_or es i e).up ≡ true → answers (get_or es i e) d → IsDelivery cpus d
    → Delivered cpus answers (take (i + 1) es) (ds ++ d ∷ [])
Delivered-rise cpus answers es i e ds d before inside rise answer valid =
    let one : rises_among (take (i + 1) es) ≡ rises_among (take i es) ++ get_or es i e ∷ [] =
    filter_more (λ e. e.up) es i e inside
    ∙ ap (λ (b : Bool). rises_among (take i es) ++ cond b (get_or es i e ∷ []) []) rise in
    record {
      answered = rw one (AllZip-snoc answers (rises_among (take i es)) ds (get_or es i e) d before.answered answer);
      valid = All-push (IsDelivery cpus) ds d before.valid valid;
      few = rw (take_more es i e inside, length-append, length-append) (omega (arith, before.few));
    }

-- a fall gets none
pub Delivered-fall : (cpus : ℕ) (answers : Edge → Delivery → Type 0) (es : List Edge) (i : ℕ) (e : Edge) (ds : List Delivery)
    → Delivered cpus answers (take i es) ds → i < length es → (get_or es i e).up ≡ false → Delivered cpus answers (take (i + 1) es) ds
Delivered-fall cpus answers es i e ds before inside fall =
    let none : rises_among (take (i + 1) es) ≡ rises_among (take i es) =
    filter_more (λ e. e.up) es i e inside
    ∙ ap (λ (b : Bool). rises_among (take i es) ++ cond b (get_or es i e ∷ []) []) fall
    ∙ append-nil (rises_among (take i es)) in
    record {
      answered = rw none before.answered;
      valid = before.valid;
      few = rw (take_more es i e inside, length-append) (omega (arith, before.few));
    }

-- these bursts were sent
pub record SentAll (cpus : ℕ) (answers : Message → Delivery → Type 0) (bs : List Burst) (ss : List Sent) : Type 0 where
  pub answered : AllZip (IsSent answers) bs ss
  pub valid : All (λ s. IsDelivery cpus s.to) ss
  pub few : length ss ≤ length bs

-- a burst more is sent
pub SentAll-burst : (cpus : ℕ) (answers : Message → Delivery → Type 0) (bs : List Burst) (i : ℕ) (b : Burst) (ss : List Sent) (s : Sent)
    → SentAll cpus answers (take i bs) ss → i < length bs → IsSent answers (get_or bs i b) s → IsDelivery cpus s.to
    → SentAll cpus answers (take (i + 1) bs) (ss ++ s ∷ [])
SentAll-burst cpus answers bs i b ss s before inside sent valid = record {
  answered = rw (take_more bs i b inside) (AllZip-snoc (IsSent answers) (take i bs) ss (get_or bs i b) s before.answered sent);
  valid = All-push (λ s. IsDelivery cpus s.to) ss s before.valid valid;
  few = rw (take_more bs i b inside, length-append, length-append) (omega (arith, before.few));
}
