-- Right and left beside the Rust's prove_right and prove_left, rule by rule. Assumes nothing.
use Prim.Native.Nat.{ℕ, suc, ◌+◌, ◌≤◌, ◌<◌}
use mathlib.Core.Path.{◌≡◌, refl, sym, ◌∙◌, subst}
use mathlib.Core.List.{List, [], ◌∷◌, ◌++◌}
use native.Mathlib.Nat.{le_trans, le_refl, le-suc}
use native.Mathlib.Omega.{arith}
use lib.ListN.{length}
use Rattle.theory.specs.Form.{Form, imp, Shape, is_top, is_bot, is_leaf, is_and, is_or, is_imp, Book, look, tree_of}
use Rattle.theory.specs.Form.{trees, form, Below, Ext}
use Rattle.theory.specs.Term.{right_true, right_and, right_impl, left_false, left_and, left_or, true_impl, and_impl, or_impl}
use Rattle.theory.specs.Term.{Node, node, by}
use Rattle.theory.specs.Term.{ident, pair, fst, snd, fn, app, inl, inr, case, abort, asc, unit}
use Rattle.theory.specs.Names.{spell, fresh}
use Rattle.theory.specs.Meter.{limited, Limits, Entry, Sequent, State, Answer, by_right, by_left, by_search, Ask}
use Rattle.theory.specs.Search.{name, goal_up, push_up, go_on, entry, on_right, on_impl, on_left, pop_left}
use Rattle.theory.specs.RustTerm as Rust
use Rattle.theory.specs.RustTerm.{ProofTerm, TypeJudgment, judgment}
use Rattle.theory.specs.RustProver.{Call, prove_right, handle_and_right, handle_impl_right, handle_and_left, handle_or_left}
use Rattle.theory.specs.RustProver.{handle_impl_left}
use Rattle.theory.specs.RustProver.{match_popped, prove_left}
use Rattle.theory.proofs.Forms.{ext_by, At, at_ext, at_form, imp_new, imp_two, form_at, good_at}
use Rattle.theory.proofs.Derive.{fresh_above, Sane, Grows, grows_trans}
use Rattle.theory.proofs.Charges.{made}
use Rattle.theory.proofs.Knows.{made_grows, made_nodes, read_new}
use Rattle.theory.proofs.NamesApart.{made_bytes}
use Rattle.theory.proofs.RustSame.{follows_eq, follows_trans, name_follows, term_at, Stands, stands_grows, itself, stands_ident}
use Rattle.theory.proofs.RustSame.{stands_unit, stands_pair, stands_fst}
use Rattle.theory.proofs.RustSame.{stands_snd, stands_fn, stands_app, stands_inl, stands_inr, stands_case, stands_abort, stands_asc}
use Rattle.theory.proofs.RustSame.{Mirrors, Mirror, mirror_none, mirror_more, mirror_grows, mirror_append, Same, Agrees, later}
use Rattle.theory.proofs.RustSame.{then_same, charge_same, end_same}

module _ (L : Limits) (taken names : List (List ℕ)) (ask : Ask Answer) (call : Call) (agrees : Agrees names ask call) where
  module _ (q : Sequent) (s : State) (U O : List TypeJudgment) (sane : Sane s) (un : Mirror names s q.unordered U)
      (or' : Mirror names s q.ordered O) where
    -- the Rust's sequent with a goal
    abbrev with_goal : Form → Rust.Sequent
    with_goal G = record { unordered_ctx = U; ordered_ctx = O; goal = G }

    -- right, by the goal's shape
    pub right_same : (sh : Shape) → Below (length s.words) sh → At s.words q.goal (tree_of (trees s.words) sh) →
        Same names s (on_right (limited L) taken ask q s sh)
        (prove_right taken call (with_goal (tree_of (trees s.words) sh)) s.used (tree_of (trees s.words) sh))
    unfolding on_right tree_of form goal_up push_up entry prove_right handle_and_right handle_impl_right
    right_same is_top b g = end_same names L (node right_true unit) s sane tt (λ s₁ y r. stands_unit names y.sane r)
    right_same is_bot b g = agrees by_left q s _ sane (record { unordered = un; ordered = or'; goal = g }) tt
    right_same (is_leaf k z) b g = agrees by_left q s _ sane (record { unordered = un; ordered = or'; goal = g }) tt
    right_same (is_or a c) b g = agrees by_left q s _ sane (record { unordered = un; ordered = or'; goal = g }) tt
    right_same (is_and a c) b g =
        let y₁ : Grows s (made s s.used [] []) = made_nodes s s.used [] sane (le_refl s.used) tt in
        charge_same names L _ _ _ _ _ _
        (later names y₁
        (then_same names _ _
        (agrees by_right _ _ _ y₁.sane (record {
          unordered = mirror_grows names sane y₁ un;
          ordered = mirror_grows names sane y₁ or';
          goal = at_ext y₁.words (at_form s.words a b.0);
        }) tt)
        (λ t s₂ y₂ i₂.
        let y₃ : Grows s₂ (made s₂ s₂.used [] []) = made_nodes s₂ s₂.used [] y₂.sane (le_refl s₂.used) tt in
        let z₃ : Grows s (made s₂ s₂.used [] []) = grows_trans (grows_trans y₁ y₂) y₃ in
        charge_same names L _ _ _ _ _ _
        (later names y₃
        (then_same names _ _
        (agrees by_right _ _ _ z₃.sane (record {
          unordered = mirror_grows names sane z₃ un;
          ordered = mirror_grows names sane z₃ or';
          goal = at_ext z₃.words (at_form s.words c b.1);
        }) tt)
        (λ v s₄ y₄ i₄.
        let d₂ : Stands names s₄ t (term_at names s₂ t) = stands_grows names y₂.sane (grows_trans y₃ y₄) (itself names i₂) in
        end_same names L (node right_and (pair t v)) s₄ y₄.sane (d₂.inside, i₄)
        (λ s₅ y₅ r. stands_pair names y₅.sane r (stands_grows names y₄.sane y₅ d₂)
        (stands_grows names y₄.sane y₅ (itself names i₄)))))
        (follows_eq refl))))
        (follows_eq refl))
    right_same (is_imp a c) b g =
        let x : ℕ = fresh taken s.used in
        let ns : List Node = by right_impl (ident (name x) ∷ []) in
        let s₁ : State = made s (suc x) [] ns in
        let g₁ : Grows s s₁ = made_nodes s (suc x) ns sane (le_trans (fresh_above taken s.used) (le-suc x)) (tt, tt) in
        let d₁ : Stands names s₁ (length s.nodes) (Rust.Ident (spell x)) =
        stands_ident names g₁.sane (read_new s (suc x) [] ns (length s.nodes) 0 (omega arith) (omega arith)) (made_bytes names x) in
        charge_same names L _ _ _ _ _ _
        (later names g₁
        (then_same names _ _
        (agrees by_right _ s₁ _ g₁.sane (record {
          unordered = mirror_grows names sane g₁ un;
          ordered = mirror_more (record { formula = at_ext g₁.words (at_form s.words a b.0); proof = d₁ })
              (mirror_grows names sane g₁ or');
          goal = at_ext g₁.words (at_form s.words c b.1);
        }) tt)
        (λ t s₂ g₂ i₂. end_same names L (node right_impl (fn (name x) t)) s₂ g₂.sane i₂
        (λ s₃ g₃ r. stands_fn names g₃.sane r (made_bytes names x) (stands_grows names g₂.sane g₃ (itself names i₂)))))
        (name_follows taken s.used _))

    module _ (G : Form) (goal : At s.words q.goal G) (e : Entry) (os : List Entry) (T : ProofTerm) (O₁ : List TypeJudgment)
        (ko : Mirror names s os O₁) where
      -- the Rust's sequent after the pop
      abbrev popped : Rust.Sequent
      popped = record { unordered_ctx = U; ordered_ctx = O₁; goal = G }

      -- left at an implication, by the shape of its left side
      impl_same : (a c : ℕ) (sh : Shape) → Below (length s.words) sh → c < length s.words →
          Mirrors names s e (judgment (imp (tree_of (trees s.words) sh) (form s.words c)) T) →
          Same names s (on_impl (limited L) taken ask q s e os a c sh)
          (handle_impl_left taken call T (form s.words c) popped s.used (tree_of (trees s.words) sh))
      unfolding on_impl tree_of form go_on entry handle_impl_left
      impl_same a c is_top h i k =
          let n : ℕ = length s.nodes in
          let i₁ : e.proof < n = k.proof.inside in
          let ns : List Node = by true_impl (unit ∷ app e.proof n ∷ []) in
          let s₁ : State = made s s.used [] ns in
          let y : Grows s s₁ = made_nodes s s.used ns sane (le_refl s.used) (omega arith) in
          let d₀ = stands_unit names y.sane (read_new s s.used [] ns n 0 (omega arith) (omega arith)) in
          let d₁ = stands_app names y.sane (read_new s s.used [] ns (suc n) 1 (omega arith) (omega arith))
          (stands_grows names sane y k.proof) d₀ in
          charge_same names L _ _ _ _ _ _
          (later names y (agrees by_left _ s₁ _ y.sane (record {
            unordered = mirror_grows names sane y un;
            ordered = mirror_more (record { formula = at_ext y.words (at_form s.words c i); proof = d₁ })
                (mirror_grows names sane y ko);
            goal = at_ext y.words goal;
          }) tt) (follows_eq refl))
      impl_same a c is_bot h i k = agrees by_left _ s _ sane (record { unordered = un; ordered = ko; goal = goal }) tt
      impl_same a c (is_leaf l z) h i k = agrees by_left _ s _ sane
          (record { unordered = mirror_append names un (mirror_more k mirror_none); ordered = ko; goal = goal }) tt
      impl_same a c (is_imp l r) h i k = agrees by_left _ s _ sane
          (record { unordered = mirror_append names un (mirror_more k mirror_none); ordered = ko; goal = goal }) tt
      impl_same a c (is_and l r) h i k =
          let ws : Book = s.words in
          let n : ℕ = length s.nodes in
          let f : ℕ = length ws in
          let x : ℕ = fresh taken s.used in
          let y : ℕ = fresh taken (suc x) in
          let ax : s.used ≤ x = fresh_above taken s.used in
          let ay : suc x ≤ y = fresh_above taken (suc x) in
          let i₁ : e.proof < n = k.proof.inside in
          let vs : Book = is_imp r c ∷ is_imp l f ∷ [] in
          let ns : List Node = by and_impl (ident (name x) ∷ ident (name y) ∷ pair n (1 + n) ∷ app e.proof (2 + n) ∷ fn (name y) (3 + n)
          ∷ fn (name x) (4 + n) ∷ asc (5 + n) (suc f) ∷ []) in
          let one = imp_new ws r c sane.words (at_form ws r h.1) (at_form ws c i) in
          let two = imp_two ws r c l f sane.words (at_form ws r h.1) (at_form ws c i)
          (at_ext (ext_by ws (is_imp r c ∷ [])) (at_form ws l h.0)) one.1 in
          let at₂ : At (ws ++ vs) (suc f) (imp (form ws l) (imp (form ws r) (form ws c))) = two.2 in
          let s₁ : State = made s (suc y) vs ns in
          let g : Grows s s₁ = made_grows s (suc y) vs ns sane (omega arith) two.0 (omega (arith, at₂.there)) in
          let d₀ = stands_ident names g.sane (read_new s (suc y) vs ns n 0 (omega arith) (omega arith)) (made_bytes names x) in
          let d₁ = stands_ident names g.sane (read_new s (suc y) vs ns (1 + n) 1 (omega arith) (omega arith)) (made_bytes names y) in
          let d₂ = stands_pair names g.sane (read_new s (suc y) vs ns (2 + n) 2 (omega arith) (omega arith)) d₀ d₁ in
          let d₃ = stands_app names g.sane (read_new s (suc y) vs ns (3 + n) 3 (omega arith) (omega arith))
          (stands_grows names sane g k.proof) d₂ in
          let d₄ = stands_fn names g.sane (read_new s (suc y) vs ns (4 + n) 4 (omega arith) (omega arith)) (made_bytes names y) d₃ in
          let d₅ = stands_fn names g.sane (read_new s (suc y) vs ns (5 + n) 5 (omega arith) (omega arith)) (made_bytes names x) d₄ in
          let d₆ = stands_asc names g.sane (read_new s (suc y) vs ns (6 + n) 6 (omega arith) (omega arith)) d₅ at₂.tree in
          charge_same names L _ _ _ _ _ _
          (later names g (agrees by_left _ s₁ _ g.sane (record {
            unordered = mirror_grows names sane g un;
            ordered = mirror_more (record { formula = at₂; proof = d₆ }) (mirror_grows names sane g ko);
            goal = at_ext g.words goal;
          }) tt) (follows_trans (le_trans ay (le-suc y)) (name_follows taken s.used _) (name_follows taken (suc x) _)))
      impl_same a c (is_or l r) h i k =
          let ws : Book = s.words in
          let n : ℕ = length s.nodes in
          let f : ℕ = length ws in
          let x : ℕ = fresh taken s.used in
          let y : ℕ = fresh taken (suc x) in
          let ax : s.used ≤ x = fresh_above taken s.used in
          let ay : suc x ≤ y = fresh_above taken (suc x) in
          let i₁ : e.proof < n = k.proof.inside in
          let vs : Book = is_imp l c ∷ is_imp r c ∷ [] in
          let ns : List Node = by or_impl (ident (name x) ∷ inl n ∷ app e.proof (1 + n) ∷ fn (name x) (2 + n) ∷ asc (3 + n) f
          ∷ ident (name y) ∷ inr (5 + n) ∷ app e.proof (6 + n) ∷ fn (name y) (7 + n) ∷ asc (8 + n) (suc f) ∷ []) in
          let x₁ : Ext ws (ws ++ (is_imp l c ∷ [])) = ext_by ws (is_imp l c ∷ []) in
          let two = imp_two ws l c r c sane.words (at_form ws l h.0) (at_form ws c i) (at_ext x₁ (at_form ws r h.1))
          (at_ext x₁ (at_form ws c i)) in
          let at₁ : At (ws ++ vs) f (imp (form ws l) (form ws c)) = two.1 in
          let at₂ : At (ws ++ vs) (suc f) (imp (form ws r) (form ws c)) = two.2 in
          let s₁ : State = made s (suc y) vs ns in
          let g : Grows s s₁ = made_grows s (suc y) vs ns sane (omega arith) two.0 (omega (arith, at₁.there, at₂.there)) in
          let dt = stands_grows names sane g k.proof in
          let d₀ = stands_ident names g.sane (read_new s (suc y) vs ns n 0 (omega arith) (omega arith)) (made_bytes names x) in
          let d₁ = stands_inl names g.sane (read_new s (suc y) vs ns (1 + n) 1 (omega arith) (omega arith)) d₀ in
          let d₂ = stands_app names g.sane (read_new s (suc y) vs ns (2 + n) 2 (omega arith) (omega arith)) dt d₁ in
          let d₃ = stands_fn names g.sane (read_new s (suc y) vs ns (3 + n) 3 (omega arith) (omega arith)) (made_bytes names x) d₂ in
          let d₄ = stands_asc names g.sane (read_new s (suc y) vs ns (4 + n) 4 (omega arith) (omega arith)) d₃ at₁.tree in
          let d₅ = stands_ident names g.sane (read_new s (suc y) vs ns (5 + n) 5 (omega arith) (omega arith)) (made_bytes names y) in
          let d₆ = stands_inr names g.sane (read_new s (suc y) vs ns (6 + n) 6 (omega arith) (omega arith)) d₅ in
          let d₇ = stands_app names g.sane (read_new s (suc y) vs ns (7 + n) 7 (omega arith) (omega arith)) dt d₆ in
          let d₈ = stands_fn names g.sane (read_new s (suc y) vs ns (8 + n) 8 (omega arith) (omega arith)) (made_bytes names y) d₇ in
          let d₉ = stands_asc names g.sane (read_new s (suc y) vs ns (9 + n) 9 (omega arith) (omega arith)) d₈ at₂.tree in
          charge_same names L _ _ _ _ _ _
          (later names g (agrees by_left _ s₁ _ g.sane (record {
            unordered = mirror_grows names sane g un;
            ordered = mirror_more (record { formula = at₂; proof = d₉ })
                (mirror_more (record { formula = at₁; proof = d₄ }) (mirror_grows names sane g ko));
            goal = at_ext g.words goal;
          }) tt) (follows_trans (le_trans ay (le-suc y)) (name_follows taken s.used _) (name_follows taken (suc x) _)))

      -- left, by the shape of the popped record's formula
      left_same : (sh : Shape) → Below (length s.words) sh → Mirrors names s e (judgment (tree_of (trees s.words) sh) T) →
          Same names s (on_left (limited L) taken ask q s e os sh)
          (match_popped taken call T popped s.used (tree_of (trees s.words) sh))
      unfolding on_left tree_of form go_on entry match_popped handle_and_left handle_or_left
      left_same is_top h k = agrees by_left _ s _ sane (record { unordered = un; ordered = ko; goal = goal }) tt
      left_same is_bot h k = end_same names L (node left_false (abort e.proof)) s sane k.proof.inside
          (λ s₁ y r. stands_abort names y.sane r (stands_grows names sane y k.proof))
      left_same (is_leaf l z) h k = agrees by_left _ s _ sane
          (record { unordered = mirror_append names un (mirror_more k mirror_none); ordered = ko; goal = goal }) tt
      left_same (is_and a b) h k =
          let n : ℕ = length s.nodes in
          let i₁ : e.proof < n = k.proof.inside in
          let ns : List Node = by left_and (fst e.proof ∷ snd e.proof ∷ []) in
          let s₁ : State = made s s.used [] ns in
          let y : Grows s s₁ = made_nodes s s.used ns sane (le_refl s.used) (omega arith) in
          let d₀ = stands_fst names y.sane (read_new s s.used [] ns n 0 (omega arith) (omega arith))
          (stands_grows names sane y k.proof) in
          let d₁ = stands_snd names y.sane (read_new s s.used [] ns (suc n) 1 (omega arith) (omega arith))
          (stands_grows names sane y k.proof) in
          charge_same names L _ _ _ _ _ _
          (later names y (agrees by_left _ s₁ _ y.sane (record {
            unordered = mirror_grows names sane y un;
            ordered = mirror_more (record { formula = at_ext y.words (at_form s.words b h.1); proof = d₁ })
                (mirror_more (record { formula = at_ext y.words (at_form s.words a h.0); proof = d₀ })
                (mirror_grows names sane y ko));
            goal = at_ext y.words goal;
          }) tt) (follows_eq refl))
      left_same (is_or a b) h k =
          let x : ℕ = fresh taken s.used in
          let ns₁ : List Node = by left_or (ident (name x) ∷ []) in
          let s₁ : State = made s (suc x) [] ns₁ in
          let g₁ : Grows s s₁ = made_nodes s (suc x) ns₁ sane (le_trans (fresh_above taken s.used) (le-suc x)) (tt, tt) in
          let d₁ = stands_ident names g₁.sane (read_new s (suc x) [] ns₁ (length s.nodes) 0 (omega arith) (omega arith))
          (made_bytes names x) in
          charge_same names L _ _ _ _ _ _
          (later names g₁
          (then_same names _ _
          (agrees by_left _ s₁ _ g₁.sane (record {
            unordered = mirror_grows names sane g₁ un;
            ordered = mirror_more (record { formula = at_ext g₁.words (at_form s.words a h.0); proof = d₁ })
                (mirror_grows names sane g₁ ko);
            goal = at_ext g₁.words goal;
          }) tt)
          (λ t s₂ g₂ i₂.
          let y : ℕ = fresh taken s₂.used in
          let ns₃ : List Node = by left_or (ident (name y) ∷ []) in
          let s₃ : State = made s₂ (suc y) [] ns₃ in
          let g₃ : Grows s₂ s₃ = made_nodes s₂ (suc y) ns₃ g₂.sane (le_trans (fresh_above taken s₂.used) (le-suc y)) (tt, tt) in
          let h₃ : Grows s s₃ = grows_trans (grows_trans g₁ g₂) g₃ in
          let d₃ = stands_ident names g₃.sane (read_new s₂ (suc y) [] ns₃ (length s₂.nodes) 0 (omega arith) (omega arith))
          (made_bytes names y) in
          charge_same names L _ _ _ _ _ _
          (later names g₃
          (then_same names _ _
          (agrees by_left _ s₃ _ g₃.sane (record {
            unordered = mirror_grows names sane h₃ un;
            ordered = mirror_more (record { formula = at_ext h₃.words (at_form s.words b h.1); proof = d₃ })
                (mirror_grows names sane h₃ ko);
            goal = at_ext h₃.words goal;
          }) tt)
          (λ v s₄ g₄ i₄.
          let dt : Stands names s₄ t (term_at names s₂ t) = stands_grows names g₂.sane (grows_trans g₃ g₄) (itself names i₂) in
          let de : Stands names s₄ e.proof T = stands_grows names sane (grows_trans h₃ g₄) k.proof in
          end_same names L (node left_or (case e.proof (name x) t (name y) v)) s₄ g₄.sane (de.inside, dt.inside, i₄)
          (λ s₅ g₅ r. stands_case names g₅.sane r (made_bytes names x) (made_bytes names y) (stands_grows names g₄.sane g₅ de)
          (stands_grows names g₄.sane g₅ dt) (stands_grows names g₄.sane g₅ (itself names i₄)))))
          (name_follows taken s₂.used _))))
          (name_follows taken s.used _))
      left_same (is_imp a c) h k =
          subst (λ (X : Form). Same names s (on_impl (limited L) taken ask q s e os a c (look s.words a))
          (handle_impl_left taken call T (form s.words c) popped s.used X)) (sym (form_at s.words sane.words a h.0))
          (impl_same a c (look s.words a) (good_at s.words sane.words a h.0) h.1
          (subst (λ (X : Form). Mirrors names s e (judgment (imp X (form s.words c)) T)) (form_at s.words sane.words a h.0) k))

    -- left takes the last ordered record, or goes to search
    pub pop_same : (G : Form) → At s.words q.goal G → {os : List Entry} {O₁ : List TypeJudgment} → Mirror names s os O₁ →
        O ≡ O₁ → Same names s (pop_left (limited L) taken ask q s os) (prove_left taken call (with_goal G) s.used O₁)
    unfolding pop_left prove_left
    pop_same G goal mirror_none p = agrees by_search q s _ sane (record { unordered = un; ordered = or'; goal = goal }) p
    pop_same G goal (mirror_more {e} {es} {j} {js} k r) p =
        let i : e.formula < length s.words = k.formula.there in
        let f : j.prop ≡ tree_of (trees s.words) (look s.words e.formula) =
        sym k.formula.tree ∙ form_at s.words sane.words e.formula i in
        subst (λ (X : Form). Same names s (on_left (limited L) taken ask q s e es (look s.words e.formula))
        (match_popped taken call j.proof_term (record { unordered_ctx = U; ordered_ctx = js; goal = G }) s.used X)) (sym f)
        (left_same G goal e es j.proof_term js r (look s.words e.formula) (good_at s.words sane.words e.formula i)
        (subst (λ (X : Form). Mirrors names s e (judgment X j.proof_term)) f k))
