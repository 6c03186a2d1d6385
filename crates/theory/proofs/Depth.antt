-- More depth changes neither the log nor an answer once the search has ended. Assumes nothing.
use Prim.Native.Nat.{ℕ, ◌≤◌}
use mathlib.Core.Path.{◌≡◌, refl, sym, ap, ◌∙◌, subst}
use mathlib.Core.Option.{Option, none, some}
use mathlib.Core.Logic.{◌≢◌}
use mathlib.Core.List.{List, [], ◌∷◌, ◌++◌, append-nil, append_assoc}
use Rattle.theory.specs.Form.{Book}
use Rattle.theory.specs.World.{Tree}
use Rattle.theory.specs.Names.{skipped}
use Rattle.theory.specs.Meter.{Limits, State, Answer, found, failed, short, unfinished}
use Rattle.theory.specs.Search.{prove}
use Rattle.theory.specs.Log.{Mark, Logged, after, ended, onward, tried, logging, log, passed, cut, read_off}
use Rattle.theory.proofs.Alike.{Alike, alike_deep}
use Rattle.theory.proofs.Exact.{exact}

-- more depth: the same marks and answer; or unfinished, and then marks that go on
pub data Deeper : Logged → Logged → Type 0 where
  cut_off : {x y : Logged} → x.answer ≡ unfinished → (more : List Mark) → y.marks ≡ x.marks ++ more → Deeper x y
  the_same : {x : Logged} → Deeper x x

-- marks in front, premises and tries keep that: what was cut off stays cut off
deep_after : (ms : List Mark) {x y : Logged} → Deeper x y → Deeper (after ms x) (after ms y)
unfolding after
deep_after ms {x} (cut_off p more e) =
    cut_off p more (ap (λ (ns : List Mark). ms ++ ns) e ∙ sym (append_assoc ms x.marks more))
deep_after ms the_same = the_same

deep_stop : (ms ns more : List Mark) → ns ≡ ms ++ more → (z : Logged) → Deeper (after ms (ended unfinished)) (after ns z)
unfolding after ended
deep_stop ms ns more e z =
    cut_off refl (more ++ z.marks)
    (ap (λ (l : List Mark). l ++ z.marks) e ∙ append_assoc ms more z.marks
    ∙ ap (λ (l : List Mark). l ++ (more ++ z.marks)) (sym (append-nil ms)))

deep_premise : {x y : Logged} (k k' : ℕ → State → Logged) → Deeper x y → ((t : ℕ) (s : State) → Deeper (k t s) (k' t s)) →
    Deeper (after x.marks (onward x.answer k)) (after y.marks (onward y.answer k'))
unfolding onward
deep_premise {x} {y} k k' (cut_off p more e) h =
    subst (λ (a : Answer). Deeper (after x.marks (onward a k)) (after y.marks (onward y.answer k'))) (sym p)
    (deep_stop x.marks y.marks more e _)
deep_premise {x} k k' the_same h = deep_after x.marks (go x.answer)
  where
    go : (a : Answer) → Deeper (onward a k) (onward a k')
    go (found t s) = h t s
    go (failed u n m) = the_same
    go (short l n) = the_same
    go unfinished = the_same

deep_try : (s₀ : State) {x y : Logged} (k k' : ℕ → State → Logged) (o o' : Tree → State → Logged) → Deeper x y →
    ((t : ℕ) (s : State) → Deeper (k t s) (k' t s)) → ((m : Tree) (s : State) → Deeper (o m s) (o' m s)) →
    Deeper (after x.marks (tried s₀ x.answer k o)) (after y.marks (tried s₀ y.answer k' o'))
unfolding tried
deep_try s₀ {x} {y} k k' o o' (cut_off p more e) h f =
    subst (λ (a : Answer). Deeper (after x.marks (tried s₀ a k o)) (after y.marks (tried s₀ y.answer k' o'))) (sym p)
    (deep_stop x.marks y.marks more e _)
deep_try s₀ {x} k k' o o' the_same h f = deep_after x.marks (go x.answer)
  where
    go : (a : Answer) → Deeper (tried s₀ a k o) (tried s₀ a k' o')
    go (found t s) = h t s
    go (failed u n m) = f m _
    go (short l n) = the_same
    go unfinished = the_same

deepening : Alike logging logging
deepening = record {
  Rel = Deeper;
  Reached = λ s. Unit {0};
  Asked = λ q. Unit {0};
  fewer = λ q q' l e i. tt;
  on_found = λ t s r. the_same;
  on_fail = λ m s r. the_same;
  on_unfinished = the_same;
  on_step = λ s k k' r h. deep_after _ (h _ tt);
  on_charge = λ u ws ns q s k k' r v h. deep_after _ (h _ tt tt);
  on_nodes = λ ns s k k' r h. deep_after _ (h _ tt);
  on_premise = λ x y k k' p h. deep_premise k k' p (λ t s. h t s tt);
  on_try = λ s x y k k' o o' r p h f. deep_try s k k' o o' p (λ t s. h t s tt) (λ m s. f m s tt);
}

log_deeper : (names : List (List ℕ)) (d d' : ℕ) → d ≤ d' → (ws : Book) (hs : List ℕ) (g : ℕ) →
    Deeper (log names d ws hs g) (log names d' ws hs g)
unfolding log ended deepening
log_deeper names d d' le ws hs g =
    alike_deep logging logging deepening (skipped names) (λ x. cut_off refl x.marks refl) ws hs g tt tt d d' le

-- there is one log: more depth changes nothing once the search has ended
pub one_log : (names : List (List ℕ)) (d d' : ℕ) → d ≤ d' → (ws : Book) (hs : List ℕ) (g : ℕ) →
    (log names d ws hs g).answer ≢ unfinished → log names d ws hs g ≡ log names d' ws hs g
one_log names d d' le ws hs g n = go (log_deeper names d d' le ws hs g) n
  where
    go : {x y : Logged} → Deeper x y → x.answer ≢ unfinished → x ≡ y
    go (cut_off p more e) n = absurd (n p)
    go the_same n = refl

-- a mark that passes a limit is met again in marks that go on
cut_on : (L : Limits) (ms ns : List Mark) (b : Answer) → cut L ms unfinished ≢ unfinished → cut L ms unfinished ≡ cut L (ms ++ ns) b
unfolding cut
cut_on L [] ns b n = absurd (n refl)
cut_on L (m ∷ ms) ns b n = go (passed L m) n (cut_on L ms ns b)
  where
    A : Option Answer → Answer
    A o = elim o [ none ↦ cut L ms unfinished | some c ↦ c ]

    go : (o : Option Answer) → A o ≢ unfinished → (cut L ms unfinished ≢ unfinished → cut L ms unfinished ≡ cut L (ms ++ ns) b) →
        A o ≡ elim o [ none ↦ cut L (ms ++ ns) b | some c ↦ c ]
    go none n ih = ih n
    go (some c) n ih = refl

-- and one answer under limits: what is read off the log at a depth, if it has ended, is read off at a greater one
pub one_reading : (L : Limits) (names : List (List ℕ)) (d d' : ℕ) → d ≤ d' → (ws : Book) (hs : List ℕ) (g : ℕ) →
    prove L names d ws hs g ≢ unfinished → prove L names d ws hs g ≡ prove L names d' ws hs g
unfolding read_off
one_reading L names d d' le ws hs g n =
    exact L names d ws hs g
    ∙ go (log_deeper names d d' le ws hs g) (λ p. n (exact L names d ws hs g ∙ p))
    ∙ sym (exact L names d' ws hs g)
  where
    go : {x y : Logged} → Deeper x y → cut L x.marks x.answer ≢ unfinished →
        cut L x.marks x.answer ≡ cut L y.marks y.answer
    go {x} {y} (cut_off p more e) n =
        ap (cut L x.marks) p ∙ cut_on L x.marks more y.answer (λ q. n (ap (cut L x.marks) p ∙ q))
        ∙ ap (λ (ms : List Mark). cut L ms y.answer) (sym e)
    go the_same n = refl
