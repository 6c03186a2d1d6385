-- A search that starts within its limits stays within them, in what it asks and in what it makes after the given words; and a shortage of
-- steps comes at the limit. Assumes nothing.
use Prim.Native.Nat.{ℕ, suc, ◌≤◌}
use mathlib.Core.Path.{◌≡◌, refl, sym, ap, ◌∙◌, subst}
use mathlib.Core.Bool.{false}
use mathlib.Core.List.{List, [], ◌∷◌, ◌++◌, append-nil, append_assoc}
use native.Mathlib.Nat.{le_trans}
use lib.Dec.{T, leb→le, le→leb}
use lib.ListN.{length-append}
use Rattle.theory.specs.Form.{Book}
use Rattle.theory.specs.Term.{Node}
use Rattle.theory.specs.Names.{skipped}
use Rattle.theory.specs.World.{Tree}
use Rattle.theory.specs.Meter.{Bound, up_to, free, fits, Limits, Lack, Steps, Sequent, State, Answer, found, failed, short, unfinished}
use Rattle.theory.specs.Meter.{Judgement, Ask, count, and_then, attempt, charge, spend, enter, fail, limited, Within, Room}
use Rattle.theory.specs.Search.{rule, run, given, prove}
use Rattle.theory.proofs.Charges.{IsSteps, made, noded, entered, restart, at_charge, at_nodes, at_step}
use Rattle.theory.proofs.Alike.{AllImply, Alike, alike, alike_rule, alike_run}

-- where a number fits a limit, a smaller one does
pub fits_down : (b : Bound) {k n : ℕ} → k ≤ n → T (fits b n) → T (fits b k)
unfolding fits
fits_down (up_to m) {k} {n} h t = le→leb k m (le_trans h (leb→le n m t))
fits_down free h t = tt

imply_append : (ws vs : Book) → AllImply ws → AllImply vs → AllImply (ws ++ vs)
imply_append [] vs h g = g
imply_append (w ∷ ws) vs h g = (h.0, imply_append ws vs h.1 g)

module _ (L : Limits) (ws₀ : Book) where
  -- a state within the limits; its words are the given ones and implications after them
  pub record Kept (s : State) : Type 0 where
    pub within : Within L s
    pub more : Book
    pub is : s.words ≡ ws₀ ++ more
    pub imply : AllImply more

  -- an answer within the limits; the steps of a shortage of steps are the last that fit
  pub data Bounded : Answer → Type 0 where
    b_found : {t : ℕ} {s : State} → Kept s → Bounded (found t s)
    b_failed : {u n : ℕ} {m : Tree} → T (fits L.steps n) → T (fits L.names u) → Bounded (failed u n m)
    b_short : {l : Lack} {n : ℕ} → T (fits L.steps n) → (l ≡ Steps → fits L.steps (suc n) ≡ false) → Bounded (short l n)
    b_unfinished : Bounded unfinished

  -- equal answers within the limits
  pub record Same (a b : Answer) : Type 0 where
    pub same : a ≡ b
    pub bounded : Bounded a

  pub one : {a : Answer} → Bounded a → Same a a
  one b = record { same = refl; bounded = b }

  -- with other steps and indices
  later : {s : State} → Kept s → (n u : ℕ) → T (fits L.steps n) → T (fits L.names u) → Kept (restart s u n)
  later i n u a b = record {
    within = record { names = b; formulas = i.within.formulas; terms = i.within.terms; steps = a };
    more = i.more;
    is = i.is;
    imply = i.imply;
  }

  pub same_step : (s : State) (k k' : State → Answer) → Kept s → ((s₁ : State) → Kept s₁ → Same (k s₁) (k' s₁)) →
      Same (enter L s k) (enter L s k')
  same_step s k k' i f =
      at_step L Same s k k' (λ e. one (b_short i.within.steps (λ p. e)))
      (λ t. f (entered s) (later i (suc s.steps) s.used t i.within.names))

  -- a charge tests the state and the sequent that it leads to
  pub same_charge : (u : ℕ) (vs : Book) (ns : List Node) (q : Sequent) (s : State) (k k' : State → Answer) → Kept s → AllImply vs →
      ((s₁ : State) → Kept s₁ → Room L q → Same (k s₁) (k' s₁)) → Same (charge L u vs ns q s k) (charge L u vs ns q s k')
  same_charge u vs ns q s k k' i v f =
      at_charge L Same u vs ns q s k k' (λ l n. one (b_short i.within.steps (λ p. absurd (n p))))
      λ p. f (made s u vs ns)
      (record {
        within = record {
          names = p.names;
          formulas = subst (λ (n : ℕ). T (fits L.formulas n)) (sym (length-append s.words vs)) p.formulas;
          terms = subst (λ (n : ℕ). T (fits L.terms n)) (sym (length-append s.nodes ns)) p.terms;
          steps = i.within.steps;
        };
        more = i.more ++ vs;
        is = ap (λ (b : Book). b ++ vs) i.is ∙ append_assoc ws₀ i.more vs;
        imply = imply_append i.more vs i.imply v;
      })
      (record { contexts = p.contexts; levels = p.levels })

  pub same_nodes : (ns : List Node) (s : State) (k k' : State → Answer) → Kept s → ((s₁ : State) → Kept s₁ → Same (k s₁) (k' s₁)) →
      Same (spend L ns s k) (spend L ns s k')
  same_nodes ns s k k' i f =
      at_nodes L Same ns s k k' (one (b_short i.within.steps (λ p. absurd (subst IsSteps (sym p) tt))))
      λ p. f (noded s ns) (record {
        within = record {
          names = i.within.names;
          formulas = i.within.formulas;
          terms = subst (λ (n : ℕ). T (fits L.terms n)) (sym (length-append s.nodes ns)) p;
          steps = i.within.steps;
        };
        more = i.more;
        is = i.is;
        imply = i.imply;
      })

  pub same_premise : (a b : Answer) (k k' : ℕ → State → Answer) → Same a b → ((t : ℕ) (s : State) → Kept s → Same (k t s) (k' t s)) →
      Same (and_then a k) (and_then b k')
  unfolding and_then
  same_premise a b k k' r f = subst (λ (x : Answer). Same (and_then a k) (and_then x k')) r.same (go r.bounded)
    where
      go : {a : Answer} → Bounded a → Same (and_then a k) (and_then a k')
      go (b_found {t} {s} i) = f t s i
      go (b_failed x y) = one (b_failed x y)
      go (b_short x y) = one (b_short x y)
      go b_unfinished = one b_unfinished

  pub same_try : (s₀ : State) (a b : Answer) (k k' : ℕ → State → Answer) (o o' : Tree → State → Answer) → Kept s₀ → Same a b →
      ((t : ℕ) (s : State) → Kept s → Same (k t s) (k' t s)) → ((m : Tree) (s : State) → Kept s → Same (o m s) (o' m s)) →
      Same (attempt s₀ a k o) (attempt s₀ b k' o')
  unfolding attempt
  same_try s₀ a b k k' o o' i r f g = subst (λ (x : Answer). Same (attempt s₀ a k o) (attempt s₀ x k' o')) r.same (go r.bounded)
    where
      go : {a : Answer} → Bounded a → Same (attempt s₀ a k o) (attempt s₀ a k' o')
      go (b_found {t} {s} j) = f t s j
      go (b_failed {u} {n} {m} x y) = g m (restart s₀ u n) (later i n u x y)
      go (b_short x y) = one (b_short x y)
      go b_unfinished = one b_unfinished

  pub same_fail : (m : Tree) (s : State) → Kept s → Same (fail m s) (fail m s)
  unfolding fail
  same_fail m s i = one (b_failed i.within.steps i.within.names)

  -- Asked: what is to be known of the sequents that are asked, no more than that they are within the limits
  keeping : (Asked : Sequent → Type 0) → ((q q' : Sequent) → count q' ≤ count q → q'.level ≡ q.level → Asked q → Asked q') →
      ((q : Sequent) → Room L q → Asked q) → Alike (limited L) (limited L)
  keeping Asked fewer tested = record {
    Rel = Same;
    Reached = Kept;
    Asked = Asked;
    fewer = fewer;
    on_found = λ t s i. one (b_found i);
    on_fail = same_fail;
    on_unfinished = one b_unfinished;
    on_step = same_step;
    on_charge = λ u vs ns q s k k' i v f. same_charge u vs ns q s k k' i v (λ s₁ i₁ r. f s₁ i₁ (tested q r));
    on_nodes = same_nodes;
    on_premise = same_premise;
    on_try = same_try;
  }

  -- whatever the search answers is within its limits, if what it is given is
  pub bounded : (names : List (List ℕ)) (d : ℕ) (hs : List ℕ) (g : ℕ) → Within L (given ws₀) → Bounded (prove L names d ws₀ hs g)
  unfolding prove given keeping
  bounded names d hs g start =
      (alike (limited L) (limited L) (keeping (λ q. Unit {0}) (λ q q' l e i. tt) (λ q r. tt)) (skipped names) ws₀ hs g
      (record { within = start; more = []; is = sym (append-nil ws₀); imply = tt }) tt d).bounded

  pub found_kept : (names : List (List ℕ)) (d : ℕ) (hs : List ℕ) (g : ℕ) → Within L (given ws₀) → (t : ℕ) (s : State) →
      prove L names d ws₀ hs g ≡ found t s → Kept s
  found_kept names d hs g start t s e = go (subst Bounded e (bounded names d hs g start))
    where
      go : Bounded (found t s) → Kept s
      go (b_found i) = i

-- a sequent with fewer records at the same level is within the limits too
room_down : (L : Limits) (q q' : Sequent) → count q' ≤ count q → q'.level ≡ q.level → Room L q → Room L q'
room_down L q q' l e i = record {
  contexts = fits_down L.contexts l i.contexts;
  levels = subst (λ (n : ℕ). T (fits L.levels n)) (sym e) i.levels;
}

-- the search asks nothing outside its limits: what would be answered there changes nothing
pub asks_within : (L : Limits) (taken : List (List ℕ)) (d : ℕ) (ask : Ask Answer) →
    ((j : Judgement) (q : Sequent) (s : State) → Within L s → Room L q → ask j q s ≡ run (limited L) taken d j q s) →
    (j : Judgement) (q : Sequent) (s : State) → Within L s → Room L q →
    rule (limited L) taken ask j q s ≡ rule (limited L) taken (run (limited L) taken d) j q s
unfolding keeping
asks_within L taken d ask agree j q s h i =
    (alike_rule (limited L) (limited L) keeps taken ask (run (limited L) taken d)
    (λ j' q' s' h' i'. subst (λ (a : Answer). Same L s.words a (run (limited L) taken d j' q' s')) (sym (agree j' q' s' h'.within i'))
    (alike_run (limited L) (limited L) keeps taken d j' q' s' h' i'))
    q s (record { within = h; more = []; is = sym (append-nil s.words); imply = tt }) i j).same
  where
    keeps : Alike (limited L) (limited L)
    keeps = keeping L s.words (Room L) (room_down L) (λ q r. r)
