-- The search beside the Rust's: nodes beside terms with names as bytes, records beside type judgments, answers beside what is returned; and
-- that charges, premises, tries and names keep them side by side: past index 363 the Rust panics, by an overflow. Assumes nothing.
use Prim.Native.Nat.{ℕ, zero, suc, ◌≤◌, ◌<◌}
use mathlib.Core.Path.{◌≡◌, refl, sym, ap, ap₂, ◌∙◌, subst}
use mathlib.Core.Bool.{Bool, true, false}
use mathlib.Core.Option.{Option, none, some}
use mathlib.Core.List.{List, [], ◌∷◌, ◌++◌}
use native.Mathlib.Nat.{le_refl, le_trans, zero-add, le_of_suc-le-suc}
use native.Mathlib.Decide.{dec_le}
use native.Mathlib.Omega.{arith}
use lib.ListN.{length, length-append}
use Rattle.theory.specs.Form.{Form, Book, form}
use Rattle.theory.specs.Term.{Piece, Node, ident, pair, fst, snd, fn, app, inl, inr, case, abort, asc, unit, term_of, grow_terms}
use Rattle.theory.specs.Term.{term, NodeIn}
use Rattle.theory.specs.Names.{spell, among, skip, fresh, bytes_of}
use Rattle.theory.specs.World.{Tree}
use Rattle.theory.specs.Meter.{limited, Limits, Lack, Entry, Sequent, State, Answer, found, failed, short, unfinished, Judgement}
use Rattle.theory.specs.Meter.{by_right, by_left, by_search, Ask, and_then, attempt, charge}
use Rattle.theory.specs.Search.{close}
use Rattle.theory.specs.RustNames.{generate}
use Rattle.theory.specs.RustTerm as Rust
use Rattle.theory.specs.RustTerm.{ProofTerm, TypeJudgment, named}
use Rattle.theory.specs.RustProver.{Returned, Some, None, question, if_let_some, overflow, panicked, Call, generated}
use Rattle.theory.specs.RustProver.{generate_identifier}
use Rattle.theory.proofs.Forms.{ext_refl, At, at_ext}
use Rattle.theory.proofs.Terms.{term_keeps, term_book, nodes_more, node_new}
use Rattle.theory.proofs.Derive.{Sane, Grows, grows_trans, Read, read_term, skip_above}
use Rattle.theory.proofs.Charges.{made, noded, restart, at_charge, at_nodes}
use Rattle.theory.proofs.Naming.{fresh_free}
use Rattle.theory.proofs.RustSpelling.{spells_alike, panics_at}

-- the Rust's r' at idx v comes to r at idx v': where no index past 363 was used on the way it goes on as r, and else it overflows
pub record Follows (v v' : ℕ) (r' r : Returned) : Type 0 where
  pub on : v' ≤ 364 → r' ≡ r
  pub over : v ≤ 364 → 364 < v' → r' ≡ panicked overflow

pub follows_eq : {v : ℕ} {r' r : Returned} → r' ≡ r → Follows v v r' r
follows_eq p = record { on = λ h. p; over = λ h l. absurd (let z : ⊥ = omega arith in z) }

pub follows_trans : {v v' v'' : ℕ} {a b c : Returned} → v' ≤ v'' → Follows v v' a b → Follows v' v'' b c → Follows v v'' a c
follows_trans {v} {v'} {v''} {a} l f g = record { on = λ h. f.on (le_trans l h) ∙ g.on h; over = λ h m. go (dec_le v' 364) h m }
  where
    go : Dec (v' ≤ 364) → v ≤ 364 → 364 < v'' → a ≡ panicked overflow
    go (yes k) h m = f.on k ∙ g.over k m
    go (no n) h m = f.over h (let k : 364 < v' = omega arith in k)

-- what goes on after a call goes on likewise, where it hands a panic on
pub follows_ap : (k : Returned → Returned) → k (panicked overflow) ≡ panicked overflow → {v v' : ℕ} {r' r : Returned} →
    Follows v v' r' r → Follows v v' (k r') (k r)
follows_ap k e f = record { on = λ h. ap k (f.on h); over = λ h l. ap k (f.over h l) ∙ e }

-- one turn of the loop over forbidden names: index 363 at most is spelled, and index 364 panics
after_turn : (taken : List (List ℕ)) (n i : ℕ) (k : List ℕ → ℕ → Returned) → Bool → Returned
after_turn taken n i k b = elim b [ true ↦ generated taken n (suc i) k | false ↦ k (spell i) (suc i) ]

turn_out : (taken : List (List ℕ)) (n i : ℕ) (k : List ℕ → ℕ → Returned) → Option (List ℕ) → Returned
turn_out taken n i k o =
    elim o [ none ↦ panicked overflow | some x ↦ elim (among x taken) [ true ↦ generated taken n (suc i) k | false ↦ k x (suc i) ] ]

turn : (taken : List (List ℕ)) (n i : ℕ) (k : List ℕ → ℕ → Returned) → i < 364 →
    generated taken (suc n) i k ≡ after_turn taken n i k (among (spell i) taken)
unfolding generated after_turn turn_out
turn taken n i k h = ap (turn_out taken n i k) (spells_alike i h)

last_turn : (taken : List (List ℕ)) (n i : ℕ) (k : List ℕ → ℕ → Returned) → i ≡ 364 → generated taken (suc n) i k ≡ panicked overflow
unfolding generated turn_out
last_turn taken n i k p = ap (turn_out taken n i k) (ap generate p ∙ panics_at)

-- the loop gives the first index that is not skipped, if that is at most 363
loop_alike : (taken : List (List ℕ)) (n i : ℕ) (k : List ℕ → ℕ → Returned) → among (spell (skip n taken i)) taken ≡ false →
    skip n taken i < 364 → generated taken (suc n) i k ≡ k (spell (skip n taken i)) (suc (skip n taken i))
unfolding skip after_turn
loop_alike taken zero i k f h = turn taken zero i k h ∙ ap (after_turn taken zero i k) f
loop_alike taken (suc n) i k f h =
    turn taken (suc n) i k (omega (arith, h, skip_above (suc n) taken i))
    ∙ go (among (spell i) taken) f h (loop_alike taken n (suc i) k)
  where
    at : Bool → ℕ
    at b = elim b [ true ↦ skip n taken (suc i) | false ↦ i ]

    go : (b : Bool) → among (spell (at b)) taken ≡ false → at b < 364 →
        (among (spell (at true)) taken ≡ false → at true < 364 →
        generated taken (suc n) (suc i) k ≡ k (spell (at true)) (suc (at true))) →
        after_turn taken (suc n) i k b ≡ k (spell (at b)) (suc (at b))
    go true f h ih = ih f h
    go false f h ih = refl

-- else it comes to index 364 and panics
loop_panics : (taken : List (List ℕ)) (n i : ℕ) (k : List ℕ → ℕ → Returned) → i ≤ 364 → 364 ≤ skip n taken i →
    generated taken (suc n) i k ≡ panicked overflow
unfolding skip after_turn
loop_panics taken zero i k l h = last_turn taken zero i k (let p : i ≡ 364 = omega arith in p)
loop_panics taken (suc n) i k l h = start (dec_le 364 i)
    (λ m. turn taken (suc n) i k m ∙ go (among (spell i) taken) m h (loop_panics taken n (suc i) k m))
  where
    start : Dec (364 ≤ i) → (i < 364 → generated taken (suc (suc n)) i k ≡ panicked overflow) →
        generated taken (suc (suc n)) i k ≡ panicked overflow
    start (yes m) f = last_turn taken (suc n) i k (let p : i ≡ 364 = omega arith in p)
    start (no m) f = f (let p : i < 364 = omega arith in p)

    go : (b : Bool) → i < 364 → 364 ≤ elim b as (λ z. ℕ) [ true ↦ skip n taken (suc i) | false ↦ i ] →
        (364 ≤ skip n taken (suc i) → generated taken (suc n) (suc i) k ≡ panicked overflow) →
        after_turn taken (suc n) i k b ≡ panicked overflow
    go true m h ih = ih h
    go false m h ih = absurd (let z : ⊥ = omega arith in z)

pub name_follows : (taken : List (List ℕ)) (i : ℕ) (k : List ℕ → ℕ → Returned) →
    Follows i (suc (fresh taken i)) (generate_identifier taken i k) (k (spell (fresh taken i)) (suc (fresh taken i)))
unfolding generate_identifier fresh
name_follows taken i k = record {
  on = λ h. loop_alike taken (length taken) i k (fresh_free taken i) h;
  over = λ h l. loop_panics taken (length taken) i k h (le_of_suc-le-suc l);
}

module _ (names : List (List ℕ)) where
  -- the Rust's term at node t of a state, and node t holding the Rust's term T
  unfoldable pub term_at : State → ℕ → ProofTerm
  term_at s t = named names (term s.words s.nodes t)

  pub record Stands (s : State) (t : ℕ) (T : ProofTerm) : Type 0 where
    pub inside : t < length s.nodes
    pub is : term_at s t ≡ T

  pub itself : {s : State} {t : ℕ} → t < length s.nodes → Stands s t (term_at s t)
  itself h = record { inside = h; is = refl }

  -- a grown state holds the same term, since nodes and formulas are only appended
  pub stands_grows : {s s' : State} {t : ℕ} {T : ProofTerm} → Sane s → Grows s s' → Stands s t T → Stands s' t T
  unfolding term_at
  stands_grows {s} {s'} {t} {T} h g d = record {
    inside = subst (λ (l : List Node). t < length l) (sym g.nodes) (omega (arith, length-append s.nodes g.more, d.inside));
    is = ap (named names) (ap₂ (λ (w : Book) (l : List Node). term w l t) g.words.is g.nodes
        ∙ term_keeps (s.words ++ g.words.more) s.nodes g.more t d.inside
        ∙ term_book s.words g.words.more s.nodes h.nodes t) ∙ d.is;
  }

  module _ {s : State} (h : Sane s) {i : ℕ} where
    -- a node of each kind, with its fields' terms
    made_of : {n : Piece} {T : ProofTerm} → Read s i n →
        named names (term_of s.words (grow_terms s.words [] s.nodes) n) ≡ T → Stands s i T
    unfolding term_at
    made_of r p = record { inside = r.inside; is = ap (named names) (read_term h r) ∙ p }

    pub stands_ident : {x : ℕ} {b : List ℕ} → Read s i (ident x) → bytes_of names x ≡ b → Stands s i (Rust.Ident b)
    unfolding term_of named
    stands_ident r p = made_of r (ap Rust.Ident p)

    pub stands_unit : Read s i unit → Stands s i Rust.UnitTerm
    unfolding term_of named
    stands_unit r = made_of r refl

    pub stands_pair : {a b : ℕ} {A B : ProofTerm} → Read s i (pair a b) → Stands s a A → Stands s b B → Stands s i (Rust.Pair A B)
    unfolding term_of named term term_at
    stands_pair r d e = made_of r (ap₂ Rust.Pair d.is e.is)

    pub stands_fst : {a : ℕ} {A : ProofTerm} → Read s i (fst a) → Stands s a A → Stands s i (Rust.ProjectFst A)
    unfolding term_of named term term_at
    stands_fst r d = made_of r (ap Rust.ProjectFst d.is)

    pub stands_snd : {a : ℕ} {A : ProofTerm} → Read s i (snd a) → Stands s a A → Stands s i (Rust.ProjectSnd A)
    unfolding term_of named term term_at
    stands_snd r d = made_of r (ap Rust.ProjectSnd d.is)

    pub stands_fn : {x a : ℕ} {b : List ℕ} {A : ProofTerm} → Read s i (fn x a) → bytes_of names x ≡ b → Stands s a A →
        Stands s i (Rust.Function b A)
    unfolding term_of named term term_at
    stands_fn r p d = made_of r (ap₂ Rust.Function p d.is)

    pub stands_app : {a b : ℕ} {A B : ProofTerm} → Read s i (app a b) → Stands s a A → Stands s b B → Stands s i (Rust.Application A B)
    unfolding term_of named term term_at
    stands_app r d e = made_of r (ap₂ Rust.Application d.is e.is)

    pub stands_inl : {a : ℕ} {A : ProofTerm} → Read s i (inl a) → Stands s a A → Stands s i (Rust.OrLeft A)
    unfolding term_of named term term_at
    stands_inl r d = made_of r (ap Rust.OrLeft d.is)

    pub stands_inr : {a : ℕ} {A : ProofTerm} → Read s i (inr a) → Stands s a A → Stands s i (Rust.OrRight A)
    unfolding term_of named term term_at
    stands_inr r d = made_of r (ap Rust.OrRight d.is)

    pub stands_case : {a x b y c : ℕ} {v w : List ℕ} {A B C : ProofTerm} → Read s i (case a x b y c) → bytes_of names x ≡ v →
        bytes_of names y ≡ w → Stands s a A → Stands s b B → Stands s c C → Stands s i (Rust.Case A v B w C)
    unfolding term_of named term term_at
    stands_case r p q d e f =
        made_of r (let a = d.is in let b = e.is in let c = f.is in λ j. Rust.Case (a j) (p j) (b j) (q j) (c j))

    pub stands_abort : {a : ℕ} {A : ProofTerm} → Read s i (abort a) → Stands s a A → Stands s i (Rust.Abort A)
    unfolding term_of named term term_at
    stands_abort r d = made_of r (ap Rust.Abort d.is)

    pub stands_asc : {a f : ℕ} {A : ProofTerm} {F : Form} → Read s i (asc a f) → Stands s a A → form s.words f ≡ F →
        Stands s i (Rust.TypeAscription A F)
    unfolding term_of named term term_at
    stands_asc r d p = made_of r (ap₂ Rust.TypeAscription d.is p)

  -- a record beside a type judgment, and a context beside a context
  pub record Mirrors (s : State) (e : Entry) (j : TypeJudgment) : Type 0 where
    pub formula : At s.words e.formula j.prop
    pub proof : Stands s e.proof j.proof_term

  pub data Mirror (s : State) : List Entry → List TypeJudgment → Type 0 where
    mirror_none : Mirror s [] []
    mirror_more : {e : Entry} {es : List Entry} {j : TypeJudgment} {js : List TypeJudgment} → Mirrors s e j → Mirror s es js →
        Mirror s (e ∷ es) (j ∷ js)

  pub mirrors_grows : {s s' : State} {e : Entry} {j : TypeJudgment} → Sane s → Grows s s' → Mirrors s e j → Mirrors s' e j
  mirrors_grows h g k = record { formula = at_ext g.words k.formula; proof = stands_grows h g k.proof }

  pub mirror_grows : {s s' : State} {es : List Entry} {js : List TypeJudgment} → Sane s → Grows s s' → Mirror s es js → Mirror s' es js
  mirror_grows h g mirror_none = mirror_none
  mirror_grows h g (mirror_more k r) = mirror_more (mirrors_grows h g k) (mirror_grows h g r)

  pub mirror_append : {s : State} {es fs : List Entry} {js ks : List TypeJudgment} → Mirror s es js → Mirror s fs ks →
      Mirror s (es ++ fs) (js ++ ks)
  mirror_append mirror_none b = b
  mirror_append (mirror_more k r) b = mirror_more k (mirror_append r b)

  -- a sequent beside a sequent
  pub record Shows (s : State) (q : Sequent) (Q : Rust.Sequent) : Type 0 where
    pub unordered : Mirror s q.unordered Q.unordered_ctx
    pub ordered : Mirror s q.ordered Q.ordered_ctx
    pub goal : At s.words q.goal Q.goal

  -- an answer from state s on beside what the Rust returns, v indices being used before: the same verdict, term and idx
  pub data SameFrom (s : State) (v : ℕ) : Answer → Returned → Type 0 where
    same_found : {t : ℕ} {s' : State} {r : Returned} → Grows s s' → v ≤ s'.used → t < length s'.nodes →
        Follows v s'.used r (Some (term_at s' t) s'.used) → SameFrom s v (found t s') r
    same_failed : {u n : ℕ} {m : Tree} {r : Returned} → v ≤ u → Follows v u r (None u) → SameFrom s v (failed u n m) r
    same_short : {l : Lack} {n : ℕ} {r : Returned} → SameFrom s v (short l n) r
    same_unfinished : {r : Returned} → SameFrom s v unfinished r

  abbrev pub Same : State → Answer → Returned → Type 0
  Same s a r = SameFrom s s.used a r

  -- the assertion of the Rust's search
  abbrev pub Ready : Judgement → Rust.Sequent → Type 0
  Ready by_right Q = Unit {0}
  Ready by_left Q = Unit {0}
  Ready by_search Q = Q.ordered_ctx ≡ []

  -- two searches side by side
  abbrev pub Agrees : Ask Answer → Call → Type 0
  Agrees ask call = (j : Judgement) (q : Sequent) (s : State) (Q : Rust.Sequent) → Sane s → Shows s q Q → Ready j Q →
      Same s (ask j q s) (call j Q s.used)

  -- an answer from a grown state, to which the Rust comes too; and from the same state, fewer indices being used before
  pub later_from : {s₀ s : State} {v v' : ℕ} {a : Answer} {r r' : Returned} → Grows s₀ s → v ≤ v' → SameFrom s v' a r →
      Follows v v' r' r → SameFrom s₀ v a r'
  later_from x y (same_found g h i p) f = same_found (grows_trans x g) (le_trans y h) i (follows_trans h f p)
  later_from x y (same_failed l p) f = same_failed (le_trans y l) (follows_trans l f p)
  later_from x y same_short f = same_short
  later_from x y same_unfinished f = same_unfinished

  pub later : {s₀ s : State} {a : Answer} {r r' : Returned} → Grows s₀ s → Same s a r → Follows s₀.used s.used r' r → Same s₀ a r'
  later x h f = later_from x x.used h f

  from : {s : State} {v v' : ℕ} {a : Answer} {r r' : Returned} → SameFrom s v' a r → v ≤ v' → Follows v v' r' r → SameFrom s v a r'
  from (same_found g h i p) y f = same_found g (le_trans y h) i (follows_trans h f p)
  from (same_failed l p) y f = same_failed (le_trans y l) (follows_trans l f p)
  from same_short y f = same_short
  from same_unfinished y f = same_unfinished

  -- a premise, after which the rule goes on
  pub then_same : {s : State} {a : Answer} {r : Returned} (k : ℕ → State → Answer) (k' : ProofTerm → ℕ → Returned) → Same s a r →
      ((t : ℕ) (s' : State) → Grows s s' → t < length s'.nodes → Same s' (k t s') (k' (term_at s' t) s'.used)) →
      Same s (and_then a k) (question r k')
  unfolding and_then question
  then_same k k' (same_found {t} {s'} g h i p) f = later_from g h (f t s' g i) (follows_ap (λ (r : Returned). question r k') refl p)
  then_same k k' (same_failed l p) f = same_failed l (follows_ap (λ (r : Returned). question r k') refl p)
  then_same k k' same_short f = same_short
  then_same k k' same_unfinished f = same_unfinished

  -- a try, whose failure gives formulas and terms back to b; the Rust may have made names before it
  pub try_same : {s₀ s : State} {v : ℕ} {a : Answer} {r r' : Returned} (b : State) (k : ℕ → State → Answer) (o : Tree → State → Answer)
      (k' : ProofTerm → ℕ → Returned) (o' : ℕ → Returned) → Grows s₀ s → v ≤ s.used →
      ((u n : ℕ) → s₀.used ≤ u → Grows s₀ (restart b u n)) → Same s a r →
      ((t : ℕ) (s' : State) → Grows s s' → t < length s'.nodes → SameFrom s₀ s'.used (k t s') (k' (term_at s' t) s'.used)) →
      ((m : Tree) (u n : ℕ) → s₀.used ≤ u → Same (restart b u n) (o m (restart b u n)) (o' u)) →
      Follows v s.used r' (if_let_some r k' o') → SameFrom s₀ v (attempt b a k o) r'
  unfolding attempt if_let_some
  try_same b k o k' o' x y back (same_found {t} {s'} g h i p) f other e =
      from (f t s' g i) (le_trans y h) (follows_trans h e (follows_ap (λ (r : Returned). if_let_some r k' o') refl p))
  try_same b k o k' o' x y back (same_failed {u} {n} {m} l p) f other e =
      later_from (back u n (le_trans x.used l)) (le_trans y l) (other m u n (le_trans x.used l))
      (follows_trans l e (follows_ap (λ (r : Returned). if_let_some r k' o') refl p))
  try_same b k o k' o' x y back same_short f other e = same_short
  try_same b k o k' o' x y back same_unfinished f other e = same_unfinished

  -- a charge, and the end of a rule
  pub charge_same : {s₀ : State} {v : ℕ} {r : Returned} (L : Limits) (u : ℕ) (vs : Book) (ns : List Node) (q : Sequent) (s : State)
      (k : State → Answer) → SameFrom s₀ v (k (made s u vs ns)) r → SameFrom s₀ v (charge L u vs ns q s k) r
  charge_same {s₀} {v} {r} L u vs ns q s k h =
      at_charge L (λ a b. SameFrom s₀ v a r) u vs ns q s k k (λ l n. same_short) (λ p. h)

  pub end_same : (L : Limits) (n : Node) (s : State) {T : ProofTerm} → Sane s → NodeIn (length s.words) (length s.nodes) n.piece →
      ((s₁ : State) → Grows s s₁ → Read s₁ (length s.nodes) n.piece → Stands s₁ (length s.nodes) T) →
      Same s (close (limited L) n s) (Some T s.used)
  unfolding close
  end_same L n s {T} sane h f =
      at_nodes L (λ a b. Same s a (Some T s.used)) (n ∷ []) s _ (λ s₁. found (length s.nodes) s₁) same_short
      (λ p. same_found g (le_refl s.used) d.inside (follows_eq (ap (λ (X : ProofTerm). Some X s.used) (sym d.is))))
    where
      s₁ : State
      s₁ = noded s (n ∷ [])

      g : Grows s s₁
      g = record {
        words = ext_refl s.words;
        more = n ∷ [];
        nodes = refl;
        used = le_refl s.used;
        sane = record {
          words = sane.words;
          nodes = nodes_more (length s.words) (length s.words) s.nodes (n ∷ [])
              (le_refl (length s.words)) sane.nodes (h, tt);
        };
      }

      d : Stands s₁ (length s.nodes) T
      d = f s₁ g (record {
        inside = omega (arith, length-append s.nodes (n ∷ []));
        node = ap (λ (x : Node). x.piece) (node_new s.nodes (n ∷ []) (length s.nodes) 0 (sym (zero-add (length s.nodes))));
      })
