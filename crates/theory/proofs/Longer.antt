-- What a search finds stands in a longer book than it was asked with, whatever the book. Assumes nothing.
use Prim.Native.Nat.{ℕ}
use mathlib.Core.Path.{◌≡◌, subst}
use mathlib.Core.List.{List}
use Rattle.theory.specs.Form.{Book, Ext}
use Rattle.theory.specs.World.{Tree}
use Rattle.theory.specs.Meter.{Limits, Sequent, State, Answer, found, failed, short, unfinished, Judgement, and_then, attempt, fail}
use Rattle.theory.specs.Meter.{limited}
use Rattle.theory.specs.Search.{run}
use Rattle.theory.proofs.Forms.{ext_refl, ext_by, ext_trans}
use Rattle.theory.proofs.Charges.{restart, at_charge, at_nodes, at_step}
use Rattle.theory.proofs.Alike.{Alike, alike_run}

-- an answer whose book, if one is found, is longer than ws
abbrev Longer : Book → Answer → Type 0
Longer ws (found t s) = Ext ws s.words
Longer ws (failed u n m) = Unit {0}
Longer ws (short l n) = Unit {0}
Longer ws unfinished = Unit {0}

module _ (L : Limits) (ws : Book) where
  -- each operation keeps that: books are only appended to, and a failed try goes back to its own
  longer_premise : (a : Answer) (k : ℕ → State → Answer) → Longer ws a →
      ((t : ℕ) (s : State) → Ext ws s.words → Longer ws (k t s)) → Longer ws (and_then a k)
  unfolding and_then
  longer_premise (found t s) k h f = f t s h
  longer_premise (failed u n m) k h f = tt
  longer_premise (short l n) k h f = tt
  longer_premise unfinished k h f = tt

  longer_try : (s₀ : State) (a : Answer) (k : ℕ → State → Answer) (o : Tree → State → Answer) → Ext ws s₀.words → Longer ws a →
      ((t : ℕ) (s : State) → Ext ws s.words → Longer ws (k t s)) → ((m : Tree) (s : State) → Ext ws s.words → Longer ws (o m s)) →
      Longer ws (attempt s₀ a k o)
  unfolding attempt
  longer_try s₀ (found t s) k o x h f g = f t s h
  longer_try s₀ (failed u n m) k o x h f g = g m (restart s₀ u n) x
  longer_try s₀ (short l n) k o x h f g = tt
  longer_try s₀ unfinished k o x h f g = tt

  longer_fail : (m : Tree) (s : State) → Longer ws (fail m s)
  unfolding fail
  longer_fail m s = tt

  growing : Alike (limited L) (limited L)
  growing = record {
    Rel = λ a b. Longer ws a;
    Reached = λ s. Ext ws s.words;
    Asked = λ q. Unit {0};
    fewer = λ q q' l e i. tt;
    on_found = λ t s x. x;
    on_fail = λ m s x. longer_fail m s;
    on_unfinished = tt;
    on_step = λ s k k' x f. at_step L (λ a b. Longer ws a) s k k' (λ e. tt) (λ p. f _ x);
    on_charge = λ u vs ns q s k k' x v f.
        at_charge L (λ a b. Longer ws a) u vs ns q s k k' (λ l n. tt) (λ p. f _ (ext_trans x (ext_by s.words vs)) tt);
    on_nodes = λ ns s k k' x f. at_nodes L (λ a b. Longer ws a) ns s k k' tt (λ p. f _ x);
    on_premise = λ a b k k' h f. longer_premise a k h f;
    on_try = λ s₀ a b k k' o o' x h f g. longer_try s₀ a k o x h f g;
  }

-- so what a run finds stands in a longer book
pub run_longer : (L : Limits) (taken : List (List ℕ)) (d : ℕ) (j : Judgement) (q : Sequent) (s : State) (t : ℕ) (s₁ : State) →
    run (limited L) taken d j q s ≡ found t s₁ → Ext s.words s₁.words
unfolding growing
run_longer L taken d j q s t s₁ e =
    subst (Longer s.words) e (alike_run (limited L) (limited L) (growing L s.words) taken d j q s (ext_refl s.words) tt)
