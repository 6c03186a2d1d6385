-- The tries of search: the two halves of an Or goal, and then the positions. Assumes nothing.
use Rattle.std.specs.Prelude.{Ok, Err}
use Prim.Native.Nat.{ℕ, ◌+◌, ◌<◌}
use mathlib.Core.Path.{◌≡◌, refl, sym, ap, ap₂, ◌∙◌}
use mathlib.Core.List.{List, []}
use native.Mathlib.Omega.{arith}
use Rattle.theory.specs.Form.{Shape, is_or, shape_of, right_of}
use Rattle.theory.specs.Term.{inl, inr, search3}
use Rattle.theory.specs.World.{Tree, graft, world, so_far}
use Rattle.theory.specs.Meter as M
use Rattle.theory.specs.Meter.{limited, charge, attempt}
use Rattle.theory.specs.Search.{goal_up, bare, halves}
use Rattle.theory.proofs.Charges.{restart}
use Rattle.meter.specs.declared.State.{State}
use Rattle.meter.specs.declared.Sequent.{Sequent}
use Rattle.meter.specs.declared.Limits.{Limits}
use Rattle.meter.specs.declared.Found.{Found}
use Rattle.meter.specs.declared.Limit.{Limit}
use Rattle.meter.specs.declared.Missed.{Missed}
use Rattle.meter.specs.declared.Missed.TheVariants.{Failed, Short}
use Rattle.meter.specs.Moves.{Answer, returned, limits_of}
use Rattle.search_laws.specs.Reading.{Lent, lent, kind_at, left_at, right_at, shape_at, seq_of, Shows}
use Rattle.search_laws.specs.Keeping.{Rep}
use Rattle.search_laws.specs.Meaning.{asks, Meets, Gives}
use Rattle.search_laws.specs.Making.{Tested, Made}
use Rattle.search_laws.specs.Closing.{Closes}
use Rattle.search_laws.specs.Parts.{inl_end, inr_end, ranging, half_second, Ranges, Seconds}
use Rattle.search_laws.specs.Turning.{tries}
use Rattle.search_laws.proofs.Branch.{back_found, back_failed, gives_as, gives_close, gives_try_short, gives_try_found}
use Rattle.search_laws.proofs.Branch.{gives_try_failed}
use Rattle.search_laws.proofs.Combine.{comes_as}
use Rattle.search_laws.proofs.Look.{shape_as, look_at, children, fits16, by_kind}
use Rattle.search_laws.proofs.Right.{up_short}

-- a second try gives back as much as the first, for a failed try has made nothing
attempt_again : (S : M.State) (u n : ℕ) (a : M.Answer) (k : ℕ → M.State → M.Answer) (o : Tree → M.State → M.Answer) →
    attempt S a k o ≡ attempt (restart S u n) a k o
unfolding attempt
attempt_again S u n (M.found t S1) k o = refl
attempt_again S u n (M.failed v i K) k o = refl
attempt_again S u n (M.short l i) k o = refl
attempt_again S u n M.unfinished k o = refl

module _ {m : Limits} (taken : List (List ℕ)) {x : Lent} {s : State} {q : Sequent} (rep : Rep m x s q) where
  -- the tries go by the goal's shape
  tries_by : {sh : Shape} → shape_at x.words q.goal ≡ sh → (S : M.State) → Shows x s S → (d : ℕ) →
      tries m taken (seq_of x.records q) d S ≡ halves (limited (limits_of m)) taken (asks m taken d) (seq_of x.records q) S sh
  tries_by e S sh d =
      ap (halves (limited (limits_of m)) taken (asks m taken d) (seq_of x.records q) S) (look_at sh rep.seats.goal_in e)

  -- a goal that is no Or
  else_by : (k l r : ℕ) → (k ≡ 4 → ⊥) → (Q : M.Sequent) (S : M.State) (d : ℕ) →
      halves (limited (limits_of m)) taken (asks m taken d) Q S (shape_of k l r) ≡ ranging m taken Q (so_far (bare S.words Q)) d S
  unfolding halves ranging
  else_by k l r a Q S d = by_kind (λ sh. halves (limited (limits_of m)) taken (asks m taken d) Q S sh ≡
      ranging m taken Q (so_far (bare S.words Q)) d S) k l r (λ z. refl) (λ z. refl) (λ z. refl) (λ z. absurd (a z)) (λ z. refl) (λ n. refl)

  pub tries_else : {r : Answer} {y : Lent} → (kind_at x.words q.goal ≡ 4 → ⊥) → Ranges m taken x s q r y →
      Gives (tries m taken (seq_of x.records q)) m x s q r y
  tries_else a g = record {
    means = λ S sh. comes_as (λ d. tries m taken (seq_of x.records q) d S)
        (λ d. tries_by (shape_as x.words q.goal refl) S sh d
        ∙ else_by (kind_at x.words q.goal) (left_at x.words q.goal) (right_at x.words q.goal) a (seq_of x.records q) S d)
        ((g.gives (so_far (bare S.words (seq_of x.records q)))).means S sh);
    kept = (g.gives (so_far (world []))).kept;
  }

  module _ (e : kind_at x.words q.goal ≡ 4) where
    or_shape : shape_at x.words q.goal ≡ is_or (left_at x.words q.goal) (right_at x.words q.goal)
    unfolding shape_of
    or_shape = shape_as x.words q.goal e

    pub or_parts : (left_at x.words q.goal < s.formulas) × (right_at x.words q.goal < s.formulas)
    or_parts = let b = children rep rep.seats.goal_in or_shape in let g = rep.seats.goal_in in (omega arith, omega arith)

    -- what comes after a failed first half, seen from the state S before it
    abbrev after_first : M.State → ℕ → Tree → M.State → M.Answer
    after_first S d K S2 =
        charge (limits_of m) S2.used [] [] (goal_up (seq_of x.records q) (right_at x.words q.goal)) S2 λ S3.
        attempt S (asks m taken d M.by_right (goal_up (seq_of x.records q) (right_at x.words q.goal)) S3) (inr_end m d)
        (λ l S4. ranging m taken (seq_of x.records q) (so_far (graft (graft (bare S.words (seq_of x.records q)) K) l)) d S4)

    first_second : (S : M.State) (u n : ℕ) (K : Tree) (d : ℕ) → after_first S d K (restart S u n) ≡
        half_second m taken (seq_of x.records q) (right_at x.words q.goal) K d (restart S u n)
    unfolding half_second
    first_second S u n K d =
        let Q : M.Sequent = goal_up (seq_of x.records q) (right_at x.words q.goal) in
        λ i. charge (limits_of m) u [] [] Q (restart S u n) (λ S3. attempt_again S u n (asks m taken d M.by_right Q S3) (inr_end m d)
        (λ l S4. ranging m taken (seq_of x.records q) (so_far (graft (graft (bare S.words (seq_of x.records q)) K) l)) d S4) i)

    or_by : (S : M.State) → Shows x s S → (d : ℕ) → tries m taken (seq_of x.records q) d S ≡
        charge (limits_of m) s.indices [] [] (goal_up (seq_of x.records q) (left_at x.words q.goal)) S
        (λ S1. attempt S (asks m taken d M.by_right (goal_up (seq_of x.records q) (left_at x.words q.goal)) S1) (inl_end m d)
        (after_first S d))
    unfolding halves inl_end inr_end ranging
    or_by S sh d = tries_by or_shape S sh d ∙ rw sh.used

    pub tries_short : {e : Missed} → Tested m (Err e) s s.indices s.formulas s.terms (q.unordered + q.ordered) (q.level + 1) →
        Gives (tries m taken (seq_of x.records q)) m x s q (Err e) x
    tries_short t = gives_as _ or_by (up_short rep (left_at x.words q.goal) _ t)

    module _ {x1 y : Lent} {q1 : Sequent}
        (mk : Made m x s q s.indices [] [] (goal_up (seq_of x.records q) (left_at x.words q.goal)) x1 s q1) where
      pub tries_first_short : {n : Limit} {s2 : State} → Meets M.by_right m taken x1 s q1 (Err (Short n s2)) y →
          Gives (tries m taken (seq_of x.records q)) m x s q (Err (Short n s2)) y
      tries_first_short p = gives_as _ or_by (gives_try_short mk (λ S d. inl_end m d) after_first p)

      pub tries_first_found : {f : Found} {r : Answer} {t1 : List ℕ} → q.level < q1.level →
          Meets M.by_right m taken x1 s q1 (Ok f) y → Closes m y.numbers f.state (inl f.node) r t1 →
          Gives (tries m taken (seq_of x.records q)) m x s q r (lent y.words t1 y.records)
      unfolding inl_end
      tries_first_found {f} up p c =
          let back = back_found mk rep up p.kept in
          let i_in = p.kept.after.root_in in
          let few = p.kept.within.in_terms in
          let most_in = rep.rooms.most_terms in
          let end = gives_close search3 back.rep (fits16 (inl f.node) (omega arith) tt) c in
          gives_as _ or_by (gives_try_found mk (λ S d. inl_end m d) after_first rep up p end.kept (λ S sh. end.means))

      -- the first half failed, and what is left gives r
      pub tries_first_failed : {s2 : State} {r : Answer} {z : Lent} → q.level < q1.level →
          Meets M.by_right m taken x1 s q1 (Err (Failed s2)) y →
          Seconds m taken (right_at y.words q.goal) y (returned s s2) q r z → Gives (tries m taken (seq_of x.records q)) m x s q r z
      tries_first_failed {s2} {r} {z} up p g =
          let back = back_failed mk rep up p.kept in
          gives_as _ or_by (gives_try_failed mk (λ S d. inl_end m d) after_first rep up p (g.gives (world [])).kept
          (λ S sh K. comes_as (λ d. after_first S d K (restart S s2.indices s2.steps))
          (λ d. first_second S s2.indices s2.steps K d
          ∙ ap₂ (λ (Q : M.Sequent) (w : ℕ). half_second m taken Q (right_of w) K d (restart S s2.indices s2.steps)) (sym back.seq)
          (sym (back.frame.words.at q.goal rep.seats.goal_in))) ((g.gives K).means (restart S s2.indices s2.steps) sh)))

-- the second half b, when the first failed
module _ {m : Limits} (taken : List (List ℕ)) {x : Lent} {s : State} {q : Sequent} (rep : Rep m x s q) (b : ℕ) where
  abbrev after_second : Tree → M.State → ℕ → Tree → M.State → M.Answer
  after_second K S d l S2 =
      ranging m taken (seq_of x.records q) (so_far (graft (graft (bare S.words (seq_of x.records q)) K) l)) d S2

  second_by : (K : Tree) (S : M.State) → Shows x s S → (d : ℕ) → half_second m taken (seq_of x.records q) b K d S ≡
      charge (limits_of m) s.indices [] [] (goal_up (seq_of x.records q) b) S
      (λ S1. attempt S (asks m taken d M.by_right (goal_up (seq_of x.records q) b) S1) (inr_end m d) (after_second K S d))
  unfolding half_second
  second_by K S sh d = rw sh.used

  pub second_half_short : {e : Missed} → Tested m (Err e) s s.indices s.formulas s.terms (q.unordered + q.ordered) (q.level + 1) →
      Seconds m taken b x s q (Err e) x
  second_half_short t = record { gives = λ K. gives_as _ (second_by K) (up_short rep b _ t) }

  module _ {x1 y : Lent} {q1 : Sequent} (mk : Made m x s q s.indices [] [] (goal_up (seq_of x.records q) b) x1 s q1) where
    pub second_half_stops : {n : Limit} {s2 : State} → Meets M.by_right m taken x1 s q1 (Err (Short n s2)) y →
        Seconds m taken b x s q (Err (Short n s2)) y
    second_half_stops p = record { gives = λ K. gives_as _ (second_by K) (gives_try_short mk (λ S d. inr_end m d) (after_second K) p) }

    pub second_half_found : {f : Found} {r : Answer} {t1 : List ℕ} → q.level < q1.level →
        Meets M.by_right m taken x1 s q1 (Ok f) y → Closes m y.numbers f.state (inr f.node) r t1 →
        Seconds m taken b x s q r (lent y.words t1 y.records)
    unfolding inr_end
    second_half_found {f} up p c =
        let back = back_found mk rep up p.kept in
        let i_in = p.kept.after.root_in in
        let few = p.kept.within.in_terms in
        let most_in = rep.rooms.most_terms in
        let end = gives_close search3 back.rep (fits16 (inr f.node) (omega arith) tt) c in
        record {
          gives = λ K. gives_as _ (second_by K)
              (gives_try_found mk (λ S d. inr_end m d) (after_second K) rep up p end.kept (λ S sh. end.means));
        }

    -- it failed too, and the positions give r
    pub second_half_failed : {s2 : State} {r : Answer} {z : Lent} → q.level < q1.level →
        Meets M.by_right m taken x1 s q1 (Err (Failed s2)) y →
        Ranges m taken y (returned s s2) q r z → Seconds m taken b x s q r z
    second_half_failed {s2} {r} {z} up p g =
        let back = back_failed mk rep up p.kept in
        record {
          gives = λ K. gives_as _ (second_by K) (gives_try_failed mk (λ S d. inr_end m d) (after_second K) rep up p
              (g.gives (so_far (world []))).kept
              (λ S sh l. comes_as (λ d. after_second K S d l (restart S s2.indices s2.steps))
              (λ d. ap (λ (Q : M.Sequent). ranging m taken Q (so_far (graft (graft (bare S.words (seq_of x.records q)) K) l)) d
              (restart S s2.indices s2.steps)) (sym back.seq))
              ((g.gives (so_far (graft (graft (bare S.words (seq_of x.records q)) K) l))).means
              (restart S s2.indices s2.steps) sh)));
        }
