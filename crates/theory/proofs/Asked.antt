-- The search asks nothing but the premises of its rules: two functions that agree on these make it answer alike. Assumes nothing.
use Prim.Native.Nat.{ℕ, ◌<◌}
use mathlib.Core.Path.{◌≡◌, refl, sym, ap, ap₂, ◌∙◌, subst}
use mathlib.Core.Option.{Option, none, some}
use mathlib.Core.List.{List, [], ◌∷◌, ◌++◌, append_assoc}
use lib.ListN.{length}
use Rattle.theory.specs.Form.{Form, imp, Shape, is_top, is_bot, is_leaf, is_and, is_or, is_imp, Book, look, tree_of, trees, form, Below}
use Rattle.theory.specs.Form.{Good, Ext}
use Rattle.theory.specs.Term.{Node}
use Rattle.theory.specs.World.{Tree, Seen}
use Rattle.theory.specs.Meter.{Limits, Entry, Sequent, State, Answer, found, failed, short, unfinished, Judgement, by_right, by_left}
use Rattle.theory.specs.Meter.{by_search, Ask, and_then, attempt, charge, limited}
use Rattle.theory.specs.Search.{goal_up, push_up, go_on, entry, first_leaf, Fired, fire, nest, on_right, on_impl, on_left, pop_left, try_at}
use Rattle.theory.specs.Search.{positions, halves, fire_or, rule2, on_search, rule, run}
use Rattle.theory.specs.Premise.{Question, question, forms_of, asked, EachIn, Askable, Fires, Premise, right_and₁, right_and₂, right_impl}
use Rattle.theory.specs.Premise.{right_else, left_true, left_leaf, left_and, left_or₁, left_or₂, true_impl, false_impl, leaf_impl}
use Rattle.theory.specs.Premise.{impl_impl}
use Rattle.theory.specs.Premise.{and_impl, or_impl, left_empty, search2, search3₁, search3₂, search4₁, search4₂}
use Rattle.theory.proofs.Forms.{ext_by, ext_trans, At, at_ext, at_form, imp_new, imp_two, form_at, good_at}
use Rattle.theory.proofs.Context.{Reads, no_more, and_more, reads_ext, reads_snoc, reads_append}
use Rattle.theory.proofs.Fire.{FiredAs, fire_as, nests_at}
use Rattle.theory.proofs.Charges.{made, restart, at_charge}
use Rattle.theory.proofs.Longer.{run_longer}

-- what a premise and a try do is decided by their answer; the state of a found one is known to be its own
then_same : {a b : Answer} (k k' : ℕ → State → Answer) → a ≡ b → ((t : ℕ) (s : State) → a ≡ found t s → k t s ≡ k' t s) →
    and_then a k ≡ and_then b k'
unfolding and_then
then_same {a} {b} k k' e f = subst (λ (x : Answer). and_then a k ≡ and_then x k') e (go a f)
  where
    go : (a : Answer) → ((t : ℕ) (s : State) → a ≡ found t s → k t s ≡ k' t s) → and_then a k ≡ and_then a k'
    go (found t s) f = f t s refl
    go (failed u n m) f = refl
    go (short l n) f = refl
    go unfinished f = refl

try_same : (s₀ : State) {a b : Answer} (k k' : ℕ → State → Answer) (o o' : Tree → State → Answer) → a ≡ b →
    ((t : ℕ) (s : State) → a ≡ found t s → k t s ≡ k' t s) → ((m : Tree) (u n : ℕ) → o m (restart s₀ u n) ≡ o' m (restart s₀ u n)) →
    attempt s₀ a k o ≡ attempt s₀ b k' o'
unfolding attempt
try_same s₀ {a} {b} k k' o o' e f g = subst (λ (x : Answer). attempt s₀ a k o ≡ attempt s₀ x k' o') e (go a f)
  where
    go : (a : Answer) → ((t : ℕ) (s : State) → a ≡ found t s → k t s ≡ k' t s) → attempt s₀ a k o ≡ attempt s₀ a k' o'
    go (found t s) f = f t s refl
    go (failed u n m) f = g m u n
    go (short l n) f = refl
    go unfinished f = refl

-- a charge does not look at how the search goes on
charge_same : (L : Limits) (u : ℕ) (vs : Book) (ns : List Node) (q : Sequent) (s : State) (k k' : State → Answer) →
    k (made s u vs ns) ≡ k' (made s u vs ns) → charge L u vs ns q s k ≡ charge L u vs ns q s k'
charge_same L u vs ns q s k k' h = at_charge L (λ a b. a ≡ b) u vs ns q s k k' (λ l n. refl) (λ p. h)

-- the formulas of a sequent
record Shows (ws : Book) (q : Sequent) (U O : List Form) (G : Form) : Type 0 where
  unordered : Reads ws q.unordered U
  ordered : Reads ws q.ordered O
  goal : At ws q.goal G

module _ (L : Limits) (taken : List (List ℕ)) (ask ask' : Ask Answer)
    (keeps : (j : Judgement) (q : Sequent) (s : State) (t : ℕ) (s₁ : State) → ask j q s ≡ found t s₁ → Ext s.words s₁.words) where
  -- the two agree on the premises of x
  abbrev Agree : Question → Type 0
  Agree x = (j : Judgement) (q : Sequent) (s : State) (U O : List Form) (G : Form) → Shows s.words q U O G →
      Premise x (question j U O G) → ask j q s ≡ ask' j q s

  module _ (q : Sequent) (s : State) (U : List Form) (good : Good s.words) (un : Reads s.words q.unordered U) where
    -- a premise that keeps the unordered records, in a longer book
    shows : {ws : Book} → Ext s.words ws → {es : List Entry} {O : List Form} {g l : ℕ} {G : Form} → Reads ws es O → At ws g G →
        Shows ws (record { unordered = q.unordered; ordered = es; goal = g; level = l }) U O G
    shows x r a = record { unordered = reads_ext x un; ordered = r; goal = a }

    module _ (O : List Form) (os : Reads s.words q.ordered O) where
      -- right: each shape of the goal asks the premises of its rule
      right_same : (sh : Shape) → Below (length s.words) sh → At s.words q.goal (tree_of (trees s.words) sh) →
          Agree (question by_right U O (tree_of (trees s.words) sh)) →
          on_right (limited L) taken ask q s sh ≡ on_right (limited L) taken ask' q s sh
      unfolding on_right tree_of form goal_up push_up entry
      right_same is_top b g agree = refl
      right_same is_bot b g agree = agree by_left q s _ _ _ (record { unordered = un; ordered = os; goal = g }) right_else
      right_same (is_leaf k y) b g agree = agree by_left q s _ _ _ (record { unordered = un; ordered = os; goal = g }) right_else
      right_same (is_or a c) b g agree = agree by_left q s _ _ _ (record { unordered = un; ordered = os; goal = g }) right_else
      right_same (is_and a c) b g agree =
          let x : Ext s.words (s.words ++ []) = ext_by s.words [] in
          charge_same L _ _ _ _ _ _ _ (then_same _ _
          (agree by_right _ _ _ _ _
          (shows x (reads_ext x os) (at_ext x (at_form s.words a b.0))) right_and₁)
          (λ t s₂ e. let x₂ : Ext s.words (s₂.words ++ []) = ext_trans (ext_trans x (keeps _ _ _ t s₂ e)) (ext_by s₂.words []) in
          charge_same L _ _ _ _ _ _ _ (then_same _ _
          (agree by_right _ _ _ _ _
          (shows x₂ (reads_ext x₂ os) (at_ext x₂ (at_form s.words c b.1))) right_and₂)
          (λ u s₄ e₄. refl))))
      right_same (is_imp a c) b g agree =
          let x : Ext s.words (s.words ++ []) = ext_by s.words [] in
          charge_same L _ _ _ _ _ _ _ (then_same _ _
          (agree by_right _ _ _ _ _
          (shows x (and_more (at_ext x (at_form s.words a b.0)) (reads_ext x os)) (at_ext x (at_form s.words c b.1))) right_impl)
          (λ t s₂ e. refl))

    module _ (G : Form) (goal : At s.words q.goal G) (e : Entry) (es : List Entry) (O : List Form) (os : Reads s.words es O) where
      -- left at an implication, by its left side; a made implication is read off the longer book
      impl_same : (a c : ℕ) (sh : Shape) → Below (length s.words) sh → c < length s.words →
          At s.words e.formula (imp (tree_of (trees s.words) sh) (form s.words c)) →
          Agree (question by_left U (imp (tree_of (trees s.words) sh) (form s.words c) ∷ O) G) →
          on_impl (limited L) taken ask q s e es a c sh ≡ on_impl (limited L) taken ask' q s e es a c sh
      unfolding on_impl tree_of form go_on entry
      impl_same a c is_top b i g agree =
          let x : Ext s.words (s.words ++ []) = ext_by s.words [] in
          charge_same L _ _ _ _ _ _ _ (agree by_left _ _ _ _ _
          (shows x (and_more (at_ext x (at_form s.words c i)) (reads_ext x os)) (at_ext x goal)) true_impl)
      impl_same a c is_bot b i g agree = agree by_left _ _ _ _ _ (record { unordered = un; ordered = os; goal = goal }) false_impl
      impl_same a c (is_leaf k y) b i g agree =
          agree by_left _ _ _ _ _ (record { unordered = reads_snoc e un g; ordered = os; goal = goal }) leaf_impl
      impl_same a c (is_imp l r) b i g agree =
          agree by_left _ _ _ _ _ (record { unordered = reads_snoc e un g; ordered = os; goal = goal }) impl_impl
      impl_same a c (is_and l r) b i g agree =
          let ws : Book = s.words in
          let x : Ext ws (ws ++ (is_imp r c ∷ is_imp l (length ws) ∷ [])) = ext_by ws (is_imp r c ∷ is_imp l (length ws) ∷ []) in
          let one = imp_new ws r c good (at_form ws r b.1) (at_form ws c i) in
          let two = imp_two ws r c l (length ws) good (at_form ws r b.1) (at_form ws c i)
          (at_ext (ext_by ws (is_imp r c ∷ [])) (at_form ws l b.0)) one.1 in
          charge_same L _ _ _ _ _ _ _ (agree by_left _ _ _ _ _
          (shows x (and_more two.2 (reads_ext x os)) (at_ext x goal)) and_impl)
      impl_same a c (is_or l r) b i g agree =
          let ws : Book = s.words in
          let x : Ext ws (ws ++ (is_imp l c ∷ is_imp r c ∷ [])) = ext_by ws (is_imp l c ∷ is_imp r c ∷ []) in
          let x₁ : Ext ws (ws ++ (is_imp l c ∷ [])) = ext_by ws (is_imp l c ∷ []) in
          let two = imp_two ws l c r c good (at_form ws l b.0) (at_form ws c i) (at_ext x₁ (at_form ws r b.1))
          (at_ext x₁ (at_form ws c i)) in
          charge_same L _ _ _ _ _ _ _ (agree by_left _ _ _ _ _
          (shows x (and_more two.2 (and_more two.1 (reads_ext x os))) (at_ext x goal)) or_impl)

      -- left, by the popped record's formula
      left_same : (sh : Shape) → Below (length s.words) sh → At s.words e.formula (tree_of (trees s.words) sh) →
          Agree (question by_left U (tree_of (trees s.words) sh ∷ O) G) →
          on_left (limited L) taken ask q s e es sh ≡ on_left (limited L) taken ask' q s e es sh
      unfolding on_left tree_of form go_on entry
      left_same is_top b g agree = agree by_left _ _ _ _ _ (record { unordered = un; ordered = os; goal = goal }) left_true
      left_same is_bot b g agree = refl
      left_same (is_leaf k y) b g agree =
          agree by_left _ _ _ _ _ (record { unordered = reads_snoc e un g; ordered = os; goal = goal }) left_leaf
      left_same (is_and a c) b g agree =
          let x : Ext s.words (s.words ++ []) = ext_by s.words [] in
          charge_same L _ _ _ _ _ _ _ (agree by_left _ _ _ _ _ (shows x (and_more (at_ext x (at_form s.words c b.1))
          (and_more (at_ext x (at_form s.words a b.0)) (reads_ext x os))) (at_ext x goal)) left_and)
      left_same (is_or a c) b g agree =
          let x : Ext s.words (s.words ++ []) = ext_by s.words [] in
          charge_same L _ _ _ _ _ _ _ (then_same _ _
          (agree by_left _ _ _ _ _
          (shows x (and_more (at_ext x (at_form s.words a b.0)) (reads_ext x os)) (at_ext x goal)) left_or₁)
          (λ t s₂ p. let x₂ : Ext s.words (s₂.words ++ []) = ext_trans (ext_trans x (keeps _ _ _ t s₂ p)) (ext_by s₂.words []) in
          charge_same L _ _ _ _ _ _ _ (then_same _ _
          (agree by_left _ _ _ _ _
          (shows x₂ (and_more (at_ext x₂ (at_form s.words c b.1)) (reads_ext x₂ os)) (at_ext x₂ goal)) left_or₂)
          (λ u s₄ p₄. refl))))
      left_same (is_imp a c) b g agree =
          let p : form s.words a ≡ tree_of (trees s.words) (look s.words a) = form_at s.words good a b.0 in
          impl_same a c (look s.words a) (good_at s.words good a b.0) b.1
          (subst (λ (X : Form). At s.words e.formula (imp X (form s.words c))) p g)
          (subst (λ (X : Form). Agree (question by_left U (imp X (form s.words c) ∷ O) G)) p agree)

    -- left takes the last ordered record, or goes to search
    pop_same : (G : Form) → At s.words q.goal G → {es : List Entry} {O : List Form} → Reads s.words es O →
        Reads s.words q.ordered O → Agree (question by_left U O G) →
        pop_left (limited L) taken ask q s es ≡ pop_left (limited L) taken ask' q s es
    unfolding pop_left
    pop_same G goal no_more all agree = agree by_search q s _ _ _ (record { unordered = un; ordered = all; goal = goal }) left_empty
    pop_same G goal (and_more {e} {es} {A} {As} a r) all agree =
        let p : form s.words e.formula ≡ tree_of (trees s.words) (look s.words e.formula) =
        form_at s.words good e.formula a.there in
        left_same G goal e es As r (look s.words e.formula) (good_at s.words good e.formula a.there)
        (record { there = a.there; tree = p })
        (subst (λ (X : Form). Agree (question by_left U (X ∷ As) G)) (sym a.tree ∙ p) agree)

    -- search, with no ordered record left
    module _ (G : Form) (goal : At s.words q.goal G) (os : Reads s.words q.ordered [])
        (agree : Agree (question by_search U [] G)) where
      -- one position of rule 4 asks its two premises, the record itself taken out
      at_same : (e : Entry) {before es : List Entry} {Y Z : List Form} {A : Form} → Reads s.words before Y →
          At s.words e.formula A → Reads s.words es Z → U ≡ Y ++ (A ∷ Z) → (next next' : Seen → State → Answer) →
          ((m : Seen) (u n : ℕ) → next m (restart s u n) ≡ next' m (restart s u n)) → (m : Seen) (u n : ℕ) (o : Option (ℕ × ℕ × ℕ)) →
          nest s.words (look s.words e.formula) ≡ o →
          try_at (limited L) taken ask q before e es next m (restart s u n) o ≡
          try_at (limited L) taken ask' q before e es next' m (restart s u n) o
      unfolding try_at entry
      at_same e b a r p next next' f m u n none h = f m u n
      at_same e {before} {es} {Y} {Z} {A} b a r p next next' f m u n (some i) h =
          let w = nests_at s.words good a i h in
          let ws : Book = s.words in
          let x : Ext ws (ws ++ (is_imp i.1 i.2 ∷ [])) = ext_by ws (is_imp i.1 i.2 ∷ []) in
          let one = imp_new ws i.1 i.2 good w.at_mid w.at_end in
          let pX : U ≡ Y ++ (imp (imp w.A w.B) w.C ∷ Z) = p ∙ ap (λ (F : Form). Y ++ (F ∷ Z)) w.is in
          charge_same L _ _ _ _ _ _ _ (try_same (restart s u n) _ _ _ _
          (agree by_right _ _ _ _ _ (record {
            unordered = reads_ext x (reads_append b r);
            ordered = and_more one.1 no_more;
            goal = at_ext x w.at_goal;
          }) (search4₁ Y Z w.A w.B w.C pX))
          (λ t s₂ e₂. let x₂ : Ext ws (s₂.words ++ []) = ext_trans (ext_trans x (keeps _ _ _ t s₂ e₂)) (ext_by s₂.words []) in
          charge_same L _ _ _ _ _ _ _ (try_same (restart s u n) _ _ _ _
          (agree by_left _ _ _ _ _ (record {
            unordered = reads_ext x₂ (reads_append b r);
            ordered = and_more (at_ext x₂ w.at_end) no_more;
            goal = at_ext x₂ goal;
          }) (search4₂ Y Z w.A w.B w.C pX))
          (λ u' s₄ e₄. refl) (λ k u' n'. f _ u' n')))
          (λ k u' n'. f _ u' n'))

      positions_same : {before rest : List Entry} {Y Z : List Form} → Reads s.words before Y → Reads s.words rest Z → U ≡ Y ++ Z →
          (m : Seen) (u n : ℕ) →
          positions (limited L) taken ask q before rest m (restart s u n) ≡ positions (limited L) taken ask' q before rest m (restart s u n)
      unfolding positions
      positions_same b no_more p m u n = refl
      positions_same {before} {rest} {Y} b (and_more {e} {es} {A} {As} a r) p m u n =
          at_same e b a r p _ _ (λ m' u' n'. positions_same (reads_snoc e b a) r (p ∙ sym (append_assoc Y (A ∷ []) As)) m' u' n') m u n
          (nest s.words (look s.words e.formula)) refl

      -- rule 3 asks the two halves, and then the positions
      halves_same : (sh : Shape) → Below (length s.words) sh → G ≡ tree_of (trees s.words) sh →
          halves (limited L) taken ask q s sh ≡ halves (limited L) taken ask' q s sh
      unfolding halves tree_of form goal_up
      halves_same is_top b p = positions_same no_more un refl _ s.used s.steps
      halves_same is_bot b p = positions_same no_more un refl _ s.used s.steps
      halves_same (is_leaf k y) b p = positions_same no_more un refl _ s.used s.steps
      halves_same (is_and a c) b p = positions_same no_more un refl _ s.used s.steps
      halves_same (is_imp a c) b p = positions_same no_more un refl _ s.used s.steps
      halves_same (is_or a c) b p =
          let x : Ext s.words (s.words ++ []) = ext_by s.words [] in
          let agree' = subst (λ (X : Form). Agree (question by_search U [] X)) p agree in
          charge_same L _ _ _ _ _ _ _ (try_same s _ _ _ _
          (agree' by_right _ _ _ _ _
          (shows x (reads_ext x os) (at_ext x (at_form s.words a b.0))) search3₁)
          (λ t s₂ e. refl)
          (λ k u n. charge_same L _ _ _ _ _ _ _ (try_same s _ _ _ _
          (agree' by_right _ _ _ _ _
          (shows x (reads_ext x os) (at_ext x (at_form s.words c b.1))) search3₂)
          (λ t s₄ e. refl) (λ l u' n'. positions_same no_more un refl _ u' n'))))

      -- rule 2 asks left with what it keeps and what fires; where nothing fires rule 3 follows
      fire_same : (es : List Entry) → (fire s.words q.unordered (length s.nodes) q.unordered).new ≡ es →
          fire_or (limited L) taken ask q s (fire s.words q.unordered (length s.nodes) q.unordered) es ≡
          fire_or (limited L) taken ask' q s (fire s.words q.unordered (length s.nodes) q.unordered) es
      unfolding fire_or go_on
      fire_same [] p =
          halves_same (look s.words q.goal) (good_at s.words good q.goal goal.there)
          (sym goal.tree ∙ form_at s.words good q.goal goal.there)
      fire_same (e ∷ es) p = charge_same L _ _ _ _ _ _ _
          (go f.new_reads (subst (λ (zs : List Entry). Reads s.words zs f.new_as) p f.new_reads) f.fires)
        where
          r : Fired
          r = fire s.words q.unordered (length s.nodes) q.unordered

          f : FiredAs s.words good U r
          f = fire_as s.words good un q.unordered (length s.nodes)

          x : Ext s.words (s.words ++ [])
          x = ext_by s.words []

          s₁ : State
          s₁ = made s s.used [] r.nodes

          go : {Z : List Form} → Reads s.words r.new Z → Reads s.words (e ∷ es) Z → Fires U f.kept_as Z →
              ask by_left (go_on q r.kept r.new) s₁ ≡ ask' by_left (go_on q r.kept r.new) s₁
          go new (and_more a z) fs =
              agree by_left _ s₁ _ _ _ (record { unordered = reads_ext x f.kept_reads; ordered = reads_ext x new; goal = at_ext x goal })
              (search2 fs)

      rule2_same : rule2 (limited L) taken ask q s ≡ rule2 (limited L) taken ask' q s
      unfolding rule2
      rule2_same = fire_same _ refl

      search_same : (sh : Shape) → on_search (limited L) taken ask q s sh ≡ on_search (limited L) taken ask' q s sh
      unfolding on_search
      search_same is_top = rule2_same
      search_same is_bot = rule2_same
      search_same (is_and a b) = rule2_same
      search_same (is_or a b) = rule2_same
      search_same (is_imp a b) = rule2_same
      search_same (is_leaf k y) = go (first_leaf s.words k y q.unordered)
        where
          go : (o : Option ℕ) → ◌≡◌ {A = Answer} (elim o [ some t ↦ found t s | none ↦ rule2 (limited L) taken ask q s ])
              (elim o [ some t ↦ found t s | none ↦ rule2 (limited L) taken ask' q s ])
          go none = rule2_same
          go (some t) = refl

  -- one judgement, its formulas read off the book
  rule_same : (j : Judgement) (q : Sequent) (s : State) (U O : List Form) (G : Form) → Good s.words → Shows s.words q U O G →
      (j ≡ by_search → O ≡ []) → Agree (question j U O G) → rule (limited L) taken ask j q s ≡ rule (limited L) taken ask' j q s
  unfolding rule
  rule_same by_right q s U O G good h n agree =
      let e : form s.words q.goal ≡ tree_of (trees s.words) (look s.words q.goal) =
      form_at s.words good q.goal h.goal.there in
      right_same q s U good h.unordered O h.ordered (look s.words q.goal) (good_at s.words good q.goal h.goal.there)
      (record { there = h.goal.there; tree = e })
      (subst (λ (X : Form). Agree (question by_right U O X)) (sym h.goal.tree ∙ e) agree)
  rule_same by_left q s U O G good h n agree = pop_same q s U good h.unordered G h.goal h.ordered h.ordered agree
  rule_same by_search q s U O G good h n agree =
      search_same q s U good h.unordered G h.goal (subst (λ (X : List Form). Reads s.words q.ordered X) (n refl) h.ordered)
      (subst (λ (X : List Form). Agree (question by_search U X G)) (n refl) agree) (look s.words q.goal)

-- records in the book hold their formulas, and no others
reads_forms : (ws : Book) (es : List Entry) → EachIn ws es → Reads ws es (forms_of ws es)
reads_forms ws [] h = no_more
reads_forms ws (e ∷ es) h = and_more (at_form ws e.formula h.0) (reads_forms ws es h.1)

forms_read : {ws : Book} {es : List Entry} {As : List Form} → Reads ws es As → forms_of ws es ≡ As
forms_read no_more = refl
forms_read (and_more a r) = ap₂ (λ (A : Form) (As : List Form). A ∷ As) a.tree (forms_read r)

-- so the formulas shown are the question that is asked
shows_asked : {ws : Book} {q : Sequent} {U O : List Form} {G : Form} (j : Judgement) → Shows ws q U O G → question j U O G ≡ asked ws j q
unfolding asked
shows_asked {ws} {q} {U} {O} {G} j h =
    ap (λ (X : List Form). question j X O G) (sym (forms_read h.unordered))
    ∙ ap (λ (X : List Form). question j (forms_of ws q.unordered) X G) (sym (forms_read h.ordered))
    ∙ ap (question j (forms_of ws q.unordered) (forms_of ws q.ordered)) (sym h.goal.tree)

-- functions that agree on the premises of a question make its rule answer alike, where the first hands back no book but a longer one
premises_decide : (L : Limits) (taken : List (List ℕ)) (ask ask' : Ask Answer) →
    ((j : Judgement) (q : Sequent) (s : State) (t : ℕ) (s₁ : State) → ask j q s ≡ found t s₁ → Ext s.words s₁.words) →
    (j : Judgement) (q : Sequent) (s : State) → Good s.words → Askable s.words j q →
    ((j' : Judgement) (q' : Sequent) (s' : State) → Premise (asked s.words j q) (asked s'.words j' q') →
    ask j' q' s' ≡ ask' j' q' s') → rule (limited L) taken ask j q s ≡ rule (limited L) taken ask' j q s
unfolding asked
premises_decide L taken ask ask' keeps j q s good a agree =
    rule_same L taken ask ask' keeps j q s _ _ _ good
    (record {
      unordered = reads_forms s.words q.unordered a.unordered;
      ordered = reads_forms s.words q.ordered a.ordered;
      goal = at_form s.words q.goal a.goal;
    })
    (λ e. ap (forms_of s.words) (a.none_left e))
    (λ j' q' s' U O G h p. agree j' q' s' (subst (Premise (asked s.words j q)) (shows_asked j' h) p))

-- the search asks nothing but premises: what would be answered to another question changes nothing
pub asks_premises : (L : Limits) (taken : List (List ℕ)) (d : ℕ) (ask : Ask Answer) (j : Judgement) (q : Sequent) (s : State) →
    Good s.words → Askable s.words j q →
    ((j' : Judgement) (q' : Sequent) (s' : State) → Premise (asked s.words j q) (asked s'.words j' q') →
    ask j' q' s' ≡ run (limited L) taken d j' q' s') →
    rule (limited L) taken ask j q s ≡ rule (limited L) taken (run (limited L) taken d) j q s
asks_premises L taken d ask j q s good a agree =
    sym (premises_decide L taken (run (limited L) taken d) ask (run_longer L taken d) j q s good a (λ j' q' s' p. sym (agree j' q' s' p)))
