-- Search beside the Rust's, rule by rule, and the whole run beside the whole run. Assumes nothing.
use Prim.Native.Nat.{ℕ, zero, suc, ◌+◌, ◌≤◌, ◌<◌}
use mathlib.Core.Path.{◌≡◌, refl, sym, ap, ◌∙◌, subst}
use mathlib.Core.Option.{Option, none, some}
use mathlib.Core.List.{List, [], ◌∷◌, ◌++◌, append-nil, append_assoc, reverse}
use native.Mathlib.Nat.{le_trans, le_refl, le-suc}
use native.Mathlib.Omega.{arith}
use lib.ListN.{length}
use Rattle.theory.specs.Form.{Form, imp, Shape, is_top, is_bot, is_leaf, is_and, is_or, is_imp, Book, look, tree_of, trees, form, Below}
use Rattle.theory.specs.Form.{Good}
use Rattle.theory.specs.Term.{search3, search4, Node, node, by, ident, fn, app, inl, inr, asc}
use Rattle.theory.specs.Names.{fresh}
use Rattle.theory.specs.World.{Seen}
use Rattle.theory.specs.Meter.{limited, Limits, Entry, Sequent, State, Answer, found, Judgement, by_right, by_left, by_search, Ask, fail}
use Rattle.theory.specs.Search.{name, goal_up, go_on, entry, Fired, fire, nest_left, nest, on_right, try_at, positions, halves}
use Rattle.theory.specs.Search.{fire_or, rule2, on_search, rule, run}
use Rattle.theory.specs.RustTerm as Rust
use Rattle.theory.specs.RustTerm.{ProofTerm, TypeJudgment, removed}
use Rattle.theory.specs.RustProver.{Returned, Some, Call, impl_impl, impl_rule, impl_rules, or_rules, changes, changed, id_rule}
use Rattle.theory.specs.RustProver.{impl_atom_rule, after_id, search', body, called, prove_right}
use Rattle.theory.proofs.Forms.{ext_refl, snoc_length, At, at_ext, at_form, imp_new, form_at, good_at}
use Rattle.theory.proofs.Derive.{fresh_above, Sane, Grows, grows_refl, grows_trans}
use Rattle.theory.proofs.Charges.{made, restart, entered, at_step}
use Rattle.theory.proofs.Fire.{nests_at}
use Rattle.theory.proofs.Tests.{some_none}
use Rattle.theory.proofs.Knows.{made_grows, made_nodes, read_new}
use Rattle.theory.proofs.NamesApart.{made_bytes}
use Rattle.theory.proofs.RustSame.{follows_eq, follows_trans, name_follows, Stands, stands_grows, itself, stands_ident, stands_fn}
use Rattle.theory.proofs.RustSame.{stands_app, stands_inl}
use Rattle.theory.proofs.RustSame.{stands_inr, stands_asc, Mirrors, Mirror, mirror_none, mirror_more, mirror_grows, mirror_append}
use Rattle.theory.proofs.RustSame.{Shows, Same, same_found, same_failed, same_short, same_unfinished, Ready, Agrees, later, try_same}
use Rattle.theory.proofs.RustSame.{later_from, charge_same, end_same}
use Rattle.theory.proofs.RustLeft.{right_same, pop_same}
use Rattle.theory.proofs.RustFire.{removed_at, Both, both_empty, both_more, FoundAs, found_none, found_some, find_same}
use Rattle.theory.proofs.RustFire.{fired_same, all_fall, kept, news}

-- the Rust goes on at once where a record is no position of rule 4
module _ (taken : List (List ℕ)) (call : Call) (T : ProofTerm) (Q : Rust.Sequent) (next : ℕ → Returned) (idx : ℕ) where
  no_nest_left : (ts : List Form) (C : Form) (a c : ℕ) (sh : Shape) → nest_left a c sh ≡ none →
      impl_impl taken call T C Q next idx (tree_of ts sh) ≡ next idx
  unfolding nest_left tree_of impl_impl
  no_nest_left ts C a c is_top h = refl
  no_nest_left ts C a c is_bot h = refl
  no_nest_left ts C a c (is_leaf k y) h = refl
  no_nest_left ts C a c (is_and l r) h = refl
  no_nest_left ts C a c (is_or l r) h = refl
  no_nest_left ts C a c (is_imp l r) h = absurd (some_none h)

  no_nest : (ws : Book) → Good ws → (sh : Shape) → Below (length ws) sh → nest ws sh ≡ none →
      impl_rule taken call T Q next idx (tree_of (trees ws) sh) ≡ next idx
  unfolding nest tree_of form impl_rule
  no_nest ws good is_top b h = refl
  no_nest ws good is_bot b h = refl
  no_nest ws good (is_leaf k y) b h = refl
  no_nest ws good (is_and l r) b h = refl
  no_nest ws good (is_or l r) b h = refl
  no_nest ws good (is_imp a c) b h =
      ap (impl_impl taken call T (form ws c) Q next idx) (form_at ws good a b.0)
      ∙ no_nest_left (trees ws) (form ws c) a c (look ws a) h

module _ (L : Limits) (taken names : List (List ℕ)) (ask : Ask Answer) (call : Call) (agrees : Agrees names ask call) where
  module _ (q : Sequent) (w : State) (U : List TypeJudgment) (G : Form) (sane : Sane w) (un : Mirror names w q.unordered U)
      (or' : Mirror names w q.ordered []) (goal : At w.words q.goal G) where
    -- the Rust's sequent, with none ordered
    abbrev Q : Rust.Sequent
    Q = record { unordered_ctx = U; ordered_ctx = []; goal = G }

    -- a later try: more indices are used, nothing else
    again : (u n : ℕ) → Sane (restart w u n)
    again u n = record { words = sane.words; nodes = sane.nodes }

    again_grows : (u n u' n' : ℕ) → u ≤ u' → Grows (restart w u n) (restart w u' n')
    again_grows u n u' n' l =
        record { words = ext_refl w.words; more = []; nodes = sym (append-nil w.nodes); used = l; sane = again u' n' }

    module _ (before es : List Entry) (e : Entry) (B E : List TypeJudgment) (j : TypeJudgment) (kb : Mirror names w before B)
        (ke : Mirrors names w e j) (kr : Mirror names w es E) (next : Seen → State → Answer) (next' : ℕ → Returned)
        (more : (m : Seen) (u n : ℕ) → w.used ≤ u → Same names (restart w u n) (next m (restart w u n)) (next' u)) where
      -- the Rust's sequent without the element
      abbrev without : Rust.Sequent
      without = record { unordered_ctx = B ++ E; ordered_ctx = []; goal = G }

      -- a position of rule 4
      at_same : (m : Seen) (u n : ℕ) → w.used ≤ u → (o : Option (ℕ × ℕ × ℕ)) → nest w.words (look w.words e.formula) ≡ o →
          Same names (restart w u n) (try_at (limited L) taken ask q before e es next m (restart w u n) o)
          (impl_rule taken call j.proof_term without next' u j.prop)
      unfolding try_at entry impl_rule impl_impl
      at_same m u n l none h =
          let i : e.formula < length w.words = ke.formula.there in
          let p : j.prop ≡ tree_of (trees w.words) (look w.words e.formula) =
          sym ke.formula.tree ∙ form_at w.words sane.words e.formula i in
          later names (again_grows u n u n (le_refl u)) (more m u n l)
          (follows_eq (ap (impl_rule taken call j.proof_term without next' u) p
          ∙ no_nest taken call j.proof_term without next' u w.words sane.words (look w.words e.formula)
          (good_at w.words sane.words e.formula i) h))
      at_same m u n₀ l (some i) h =
          let ws : Book = w.words in
          let v = nests_at ws sane.words ke.formula i h in
          let s : State = restart w u n₀ in
          let n : ℕ = length w.nodes in
          let f : ℕ = length ws in
          let x : ℕ = fresh taken u in
          let y : ℕ = fresh taken (suc x) in
          let ax : u ≤ x = fresh_above taken u in
          let ay : suc x ≤ y = fresh_above taken (suc x) in
          let i₁ : e.proof < n = ke.proof.inside in
          let vs : Book = is_imp i.1 i.2 ∷ [] in
          let ns : List Node = by search4 (ident (name x) ∷ fn (name y) n ∷ app e.proof (1 + n) ∷ fn (name x) (2 + n) ∷ asc (3 + n) f
          ∷ []) in
          let one = imp_new ws i.1 i.2 sane.words v.at_mid v.at_end in
          let at₁ : At (ws ++ vs) f (imp v.B v.C) = one.1 in
          let s₁ : State = made s (suc y) vs ns in
          let g₀ : Grows s s₁ = made_grows s (suc y) vs ns (again u n₀) (omega arith) one.0 (omega (arith, at₁.there)) in
          let g₁ : Grows w s₁ = grows_trans (again_grows w.used w.steps u n₀ l) g₀ in
          let d₀ = stands_ident names g₁.sane (read_new s (suc y) vs ns n 0 (omega arith) (omega arith)) (made_bytes names x) in
          let d₁ = stands_fn names g₁.sane (read_new s (suc y) vs ns (1 + n) 1 (omega arith) (omega arith)) (made_bytes names y) d₀ in
          let d₂ = stands_app names g₁.sane (read_new s (suc y) vs ns (2 + n) 2 (omega arith) (omega arith))
          (stands_grows names sane g₁ ke.proof) d₁ in
          let d₃ = stands_fn names g₁.sane (read_new s (suc y) vs ns (3 + n) 3 (omega arith) (omega arith)) (made_bytes names x) d₂ in
          let d₄ = stands_asc names g₁.sane (read_new s (suc y) vs ns (4 + n) 4 (omega arith) (omega arith)) d₃ at₁.tree in
          charge_same names L _ _ _ _ _ _
          (try_same names s _ _ _ _ g₀ g₀.used (λ u' n' l'. again_grows u n₀ u' n' l')
          (agrees by_right _ s₁ _ g₁.sane (record {
            unordered = mirror_grows names sane g₁ (mirror_append names kb kr);
            ordered = mirror_more (record { formula = at₁; proof = d₄ }) mirror_none;
            goal = at_ext g₁.words v.at_goal;
          }) tt)
          (λ t s₂ g₂ i₂.
          let h₂ : Grows w s₂ = grows_trans g₁ g₂ in
          let ns₃ : List Node = by search4 (app e.proof t ∷ []) in
          let de : Stands names s₂ e.proof j.proof_term = stands_grows names sane h₂ ke.proof in
          let s₃ : State = made s₂ s₂.used [] ns₃ in
          let g₃ : Grows s₂ s₃ = made_nodes s₂ s₂.used ns₃ g₂.sane (le_refl s₂.used) ((de.inside, i₂), tt) in
          let h₃ : Grows w s₃ = grows_trans h₂ g₃ in
          let d₅ = stands_app names g₃.sane (read_new s₂ s₂.used [] ns₃ (length s₂.nodes) 0 (omega arith) (omega arith))
          (stands_grows names g₂.sane g₃ de) (stands_grows names g₂.sane g₃ (itself names i₂)) in
          charge_same names L _ _ _ _ _ _
          (try_same names s _ _ _ _ (grows_trans g₀ (grows_trans g₂ g₃)) g₃.used (λ u' n' l'. again_grows u n₀ u' n' l')
          (agrees by_left _ s₃ _ g₃.sane (record {
            unordered = mirror_grows names sane h₃ (mirror_append names kb kr);
            ordered = mirror_more (record { formula = at_ext h₃.words v.at_end; proof = d₅ }) mirror_none;
            goal = at_ext h₃.words goal;
          }) tt)
          (λ t₄ s₄ g₄ i₄. same_found (grows_trans g₀ (grows_trans g₂ (grows_trans g₃ g₄))) (le_refl s₄.used) i₄ (follows_eq refl))
          (λ k u' n' l'. more _ u' n' (le_trans l l'))
          (follows_eq refl)))
          (λ k u' n' l'. more _ u' n' (le_trans l l'))
          (follows_trans (omega arith) (follows_eq (ap (impl_rule taken call j.proof_term without next' u) v.is))
          (follows_trans (le_trans ay (le-suc y)) (name_follows taken u _) (name_follows taken (suc x) _))))

    -- the positions one by one
    positions_same : {before rest : List Entry} {B R : List TypeJudgment} (i : ℕ) → Mirror names w before B → Mirror names w rest R →
        U ≡ B ++ R → i ≡ length B → (m : Seen) (u n : ℕ) → w.used ≤ u →
        Same names (restart w u n) (positions (limited L) taken ask q before rest m (restart w u n)) (impl_rules taken call Q i R u)
    unfolding positions fail impl_rules
    positions_same i kb mirror_none p c m u n l = same_failed (le_refl u) (follows_eq refl)
    positions_same {before} {rest} {B} i kb (mirror_more {e} {es} {j} {js} k r) p c m u n l =
        subst (λ (us : List TypeJudgment). Same names (restart w u n)
        (positions (limited L) taken ask q before (e ∷ es) m (restart w u n))
        (impl_rule taken call j.proof_term (record { unordered_ctx = us; ordered_ctx = []; goal = G })
        (λ idx₁. impl_rules taken call Q (suc i) js idx₁) u j.prop))
        (sym (ap (removed i) p ∙ ap (λ (n : ℕ). removed n (B ++ (j ∷ js))) c ∙ removed_at B j js))
        (at_same before es e B js j kb k r _ _
        (λ m' u' n' l'. positions_same (suc i) (mirror_append names kb (mirror_more k mirror_none)) r
        (p ∙ sym (append_assoc B (j ∷ []) js)) (ap suc c ∙ sym (snoc_length B j)) m' u' n' l') m u n l
        (nest w.words (look w.words e.formula)) refl)

    -- a half of the Or, or the positions
    halves_same : (sh : Shape) → Below (length w.words) sh →
        Same names w (halves (limited L) taken ask q w sh) (or_rules taken call Q w.used (tree_of (trees w.words) sh))
    unfolding halves tree_of form goal_up or_rules
    halves_same is_top h = positions_same 0 mirror_none un refl refl _ w.used w.steps (le_refl w.used)
    halves_same is_bot h = positions_same 0 mirror_none un refl refl _ w.used w.steps (le_refl w.used)
    halves_same (is_leaf k y) h = positions_same 0 mirror_none un refl refl _ w.used w.steps (le_refl w.used)
    halves_same (is_and a b) h = positions_same 0 mirror_none un refl refl _ w.used w.steps (le_refl w.used)
    halves_same (is_imp a b) h = positions_same 0 mirror_none un refl refl _ w.used w.steps (le_refl w.used)
    halves_same (is_or a b) h =
        let g₁ : Grows w (made w w.used [] []) = made_nodes w w.used [] sane (le_refl w.used) tt in
        charge_same names L _ _ _ _ _ _
        (try_same names w _ _ _ _ g₁ g₁.used (λ u n l. again_grows w.used w.steps u n l)
        (agrees by_right _ _ _ g₁.sane (record {
          unordered = mirror_grows names sane g₁ un;
          ordered = mirror_grows names sane g₁ or';
          goal = at_ext g₁.words (at_form w.words a h.0);
        }) tt)
        (λ t s₂ g₂ i₂. later_from names (grows_trans g₁ g₂) (le_refl s₂.used)
        (end_same names L (node search3 (inl t)) s₂ g₂.sane i₂
        (λ s₃ g₃ r. stands_inl names g₃.sane r (stands_grows names g₂.sane g₃ (itself names i₂)))) (follows_eq refl))
        (λ k u n l.
        let s₂ : State = restart w u n in
        let g₃ : Grows s₂ (made s₂ u [] []) = made_nodes s₂ u [] (again u n) (le_refl u) tt in
        let h₃ : Grows w (made s₂ u [] []) = grows_trans (again_grows w.used w.steps u n l) g₃ in
        charge_same names L _ _ _ _ _ _
        (try_same names w _ _ _ _ g₃ g₃.used (λ u' n' l'. again_grows u n u' n' l')
        (agrees by_right _ _ _ g₃.sane (record {
          unordered = mirror_grows names sane h₃ un;
          ordered = mirror_grows names sane h₃ or';
          goal = at_ext h₃.words (at_form w.words b h.1);
        }) tt)
        (λ t s₄ g₄ i₄. later_from names (grows_trans g₃ g₄) (le_refl s₄.used)
        (end_same names L (node search3 (inr t)) s₄ g₄.sane i₄
        (λ s₅ g₅ r. stands_inr names g₅.sane r (stands_grows names g₄.sane g₅ (itself names i₄)))) (follows_eq refl))
        (λ k₄ u₄ n₄ l₄. positions_same 0 mirror_none un refl refl _ u₄ n₄ (le_trans l l₄))
        (follows_eq refl)))
        (follows_eq refl))

    -- rule 2, or rule 3 where nothing fires
    fire_same : {es : List Entry} {cs : List (ℕ × TypeJudgment)} → Both es cs → changes U 0 U ≡ cs →
        Same names w (fire_or (limited L) taken ask q w (fire w.words q.unordered (length w.nodes) q.unordered) es)
        (impl_atom_rule taken call Q w.used cs)
    unfolding fire_or go_on impl_atom_rule
    fire_same both_empty p =
        subst (λ (X : Form). Same names w (halves (limited L) taken ask q w (look w.words q.goal)) (or_rules taken call Q w.used X))
        (sym (form_at w.words sane.words q.goal goal.there) ∙ goal.tree)
        (halves_same (look w.words q.goal) (good_at w.words sane.words q.goal goal.there))
    fire_same (both_more {y = c} {ys = cs}) p =
        let n : ℕ = length w.nodes in
        let r : Fired = fire w.words q.unordered n q.unordered in
        let f = fired_same names w sane q.unordered U un un n (le_refl n) in
        let s₁ : State = made w w.used [] r.nodes in
        let g : Grows w s₁ = made_nodes w w.used r.nodes sane (le_refl w.used) (f.fits (length (w.words ++ []))) in
        charge_same names L _ _ _ _ _ _
        (later names g (agrees by_left _ s₁ (record { unordered_ctx = kept U U; ordered_ctx = news U U; goal = G }) g.sane (record {
          unordered = mirror_grows names sane g f.keeps;
          ordered = f.new s₁ g (λ j h. read_new w w.used [] r.nodes (j + n) j refl h);
          goal = at_ext g.words goal;
        }) tt)
        (follows_eq (ap (λ (x : List (ℕ × TypeJudgment)). call by_left (changed (reverse x) Q) w.used) (sym p)
        ∙ ap (λ (X : Rust.Sequent). call by_left X w.used) (all_fall U G))))

    rule2_same : Same names w (rule2 (limited L) taken ask q w) (impl_atom_rule taken call Q w.used (changes U 0 U))
    unfolding rule2
    rule2_same = fire_same ((fired_same names w sane q.unordered U un un (length w.nodes) (le_refl (length w.nodes))).both 0) refl

    -- rule 1, or rule 2
    shape_same : (sh : Shape) →
        Same names w (on_search (limited L) taken ask q w sh)
        (after_id taken call Q w.used (id_rule U (tree_of (trees w.words) sh)))
    unfolding on_search tree_of id_rule after_id
    shape_same is_top = rule2_same
    shape_same is_bot = rule2_same
    shape_same (is_and a b) = rule2_same
    shape_same (is_or a b) = rule2_same
    shape_same (is_imp a b) = rule2_same
    shape_same (is_leaf k y) = go (find_same names w sane k y un)
      where
        go : {o : Option ℕ} {o' : Option ProofTerm} → FoundAs names w sane o o' →
            Same names w (elim o as (λ z. Answer) [ some t ↦ found t w | none ↦ rule2 (limited L) taken ask q w ])
            (after_id taken call Q w.used o')
        go found_none = rule2_same
        go (found_some d) =
            same_found (grows_refl w sane) (le_refl w.used) d.inside
            (follows_eq (ap (λ (X : ProofTerm). Some X w.used) (sym d.is)))

    search_same : Same names w (on_search (limited L) taken ask q w (look w.words q.goal))
        (body taken call by_search Q w.used)
    unfolding body search'
    search_same =
        subst (λ (X : Form). Same names w (on_search (limited L) taken ask q w (look w.words q.goal))
        (after_id taken call Q w.used (id_rule U X)))
        (sym (form_at w.words sane.words q.goal goal.there) ∙ goal.tree) (shape_same (look w.words q.goal))

  -- one of the three judgements beside the Rust's function
  rule_same : (j : Judgement) (q : Sequent) (s : State) (Q : Rust.Sequent) → Sane s → Shows names s q Q → Ready names j Q →
      Same names s (rule (limited L) taken ask j q s) (body taken call j Q s.used)
  unfolding rule body
  rule_same by_right q s Q sane h n =
      let e : form s.words q.goal ≡ tree_of (trees s.words) (look s.words q.goal) =
      form_at s.words sane.words q.goal h.goal.there in
      subst (λ (X : Form). Same names s (on_right (limited L) taken ask q s (look s.words q.goal))
      (prove_right taken call (record { unordered_ctx = Q.unordered_ctx; ordered_ctx = Q.ordered_ctx; goal = X }) s.used X))
      (sym e ∙ h.goal.tree)
      (right_same L taken names ask call agrees q s Q.unordered_ctx Q.ordered_ctx sane h.unordered h.ordered
      (look s.words q.goal) (good_at s.words sane.words q.goal h.goal.there)
      (record { there = h.goal.there; tree = e }))
  rule_same by_left q s Q sane h n =
      pop_same L taken names ask call agrees q s Q.unordered_ctx Q.ordered_ctx sane h.unordered h.ordered Q.goal h.goal
      h.ordered refl
  rule_same by_search q s Q sane h n =
      subst (λ (os : List TypeJudgment). Same names s (on_search (limited L) taken ask q s (look s.words q.goal))
      (body taken call by_search (record { unordered_ctx = Q.unordered_ctx; ordered_ctx = os; goal = Q.goal }) s.used)) (sym n)
      (search_same q s Q.unordered_ctx Q.goal sane h.unordered
      (subst (λ (os : List TypeJudgment). Mirror names s q.ordered os) n h.ordered) h.goal)

-- the whole run, depth by depth
pub run_same : (L : Limits) (taken names : List (List ℕ)) (d : ℕ) → Agrees names (run (limited L) taken d) (called taken d)
unfolding run called
run_same L taken names zero j q s Q sane h n = same_unfinished
run_same L taken names (suc d) j q s Q sane h n =
    at_step L (λ a b. Same names s a (called taken (suc d) j Q s.used)) s _
    (λ s₁. rule (limited L) taken (run (limited L) taken d) j q s₁) (λ e. same_short)
    (λ p. later names up (rule_same L taken names (run (limited L) taken d) (called taken d) (run_same L taken names d) j q (entered s) Q
    up.sane (record {
      unordered = mirror_grows names sane up h.unordered;
      ordered = mirror_grows names sane up h.ordered;
      goal = h.goal;
    }) n) (follows_eq refl))
  where
    up : Grows s (entered s)
    up = record {
      words = ext_refl s.words;
      more = [];
      nodes = sym (append-nil s.nodes);
      used = le_refl s.used;
      sane = record { words = sane.words; nodes = sane.nodes };
    }
