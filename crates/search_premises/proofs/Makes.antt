-- What the code of a premise has made when its charge passes no limit, and the room that the charge shows. Assumes nothing.
use Rattle.std.specs.Prelude.{Result, Ok, Err}
use Prim.Native.Nat.{ℕ, ◌+◌, ◌*◌, ◌≤◌, ◌<◌}
use mathlib.Core.Path.{◌≡◌, refl, sym, ap, ap₂, ◌∙◌, subst}
use mathlib.Core.List.{List, [], ◌∷◌}
use native.Mathlib.Omega.{arith}
use lib.ListN.{length, set}
use Rattle.theory.specs.Form.{Book, is_imp, word}
use Rattle.theory.specs.Term.{Node, Piece, app, fn, six_of}
use Rattle.theory.specs.Names.{fresh}
use Rattle.theory.specs.Meter as M
use Rattle.theory.specs.Meter.{lacking}
use Rattle.theory.specs.Search.{name}
use Rattle.proof_term.specs.Put.{put_node}
use Rattle.meter.specs.declared.State.{State}
use Rattle.meter.specs.declared.Sequent.{Sequent}
use Rattle.meter.specs.declared.Limits.{Limits}
use Rattle.meter.specs.declared.Limit.{Limit}
use Rattle.meter.specs.declared.Missed.{Missed}
use Rattle.meter.specs.declared.Missed.TheVariants.{Short}
use Rattle.meter.specs.Moves.{spent, limits_of, charged}
use Rattle.meter.proofs.Laws.{refused}
use Rattle.context.specs.Moves.{stretch, upped, popped, pushed, without}
use Rattle.context.specs.Area.{Rec, rec, formula_at, term_at, raised, removed, push_place}
use Rattle.search_laws.specs.Reading.{Lent, lent, kind_at, left_at, right_at, put_nodes}
use Rattle.search_laws.specs.Keeping.{Rep}
use Rattle.search_laws.specs.Making.{Tested}
use Rattle.search_laws.specs.Pieces.{composed}
use Rattle.search_laws.specs.Records.{place_of, formula_of, term_of, premise_of, middle_of, end_of}
use Rattle.search_laws.proofs.Areas.{fields}
use Rattle.search_laws.proofs.Charge.{passes}
use Rattle.search_laws.proofs.RightImpl.{impl_made}
use Rattle.search_laws.proofs.LeftOr.{half_made}
use Rattle.search_laws.proofs.Four.{nested_in, first_made, second_made}
use Rattle.search_premises.specs.Prepared.{Premise, Prepared, lacks, ready, Seated, Supposed, supposes_not, supposes}
use Rattle.search_premises.specs.Prepared.{Body, Half, First, Second, Nested}
use Rattle.search_premises.specs.Asked.{Raised, raised_lacks}

-- what the code tested of a charge
pub tested : {m : Limits} {r : Result (Unit {0}) Missed} {s : State} {u f t c l : ℕ} → r ≡ charged (lacking (limits_of m) u f t c l) s →
    Tested m r s u f t c l
tested e = record { is = e }

-- a charge that is refused is short of a limit, at the state before it
short_of : {m : Limits} {e : Missed} {s : State} {u f t c l : ℕ} (P : Missed → Type 0) → Tested m (Err e) s u f t c l →
    ((k : Limit) → Tested m (Err (Short k s)) s u f t c l → P (Short k s)) → P e
short_of {m} {e} {s} {u} {f} {t} {c} {l} P h p = go (refused (sym h.is)).says
  where
    go : {k : Limit} → e ≡ Short k s → P e
    go {k} says = subst P (sym says) (p k (subst (λ (v : Missed). Tested m (Err v) s u f t c l) says h))

pub supposes_short : {m : Limits} {t : List ℕ} {w : List Rec} {s : State} {q : Sequent} {g a v : ℕ} {e : Missed} →
    Tested m (Err e) s (v + 1) s.formulas (s.terms + 1) (q.unordered + q.ordered + 1) (q.level + 1) → Supposed m t w s q g a v (Err e) t w
supposes_short {m} {t} {w} {s} {q} {g} {a} {v} h =
    short_of (λ (e : Missed). Supposed m t w s q g a v (Err e) t w) h (λ k t1. supposes_not t1)

pub prepares_short : {m : Limits} {x : Lent} {s : State} {q : Sequent} {u nf nt c : ℕ} {ws : Book} {ns : List Node} {Q : M.Sequent}
    {e : Missed} → Tested m (Err e) s u nf nt c (q.level + 1) → Prepared m x s q u nf nt c ws ns Q (Err e) x
prepares_short {m} {x} {s} {q} {u} {nf} {nt} {c} {ws} {ns} {Q} h =
    short_of (λ (e : Missed). Prepared m x s q u nf nt c ws ns Q (Err e) x) h (λ k t1. lacks t1)

pub raises_short : {m : Limits} {taken : List (List ℕ)} {x : Lent} {s : State} {q : Sequent} {g : ℕ} {e : Missed} →
    Tested m (Err e) s s.indices s.formulas s.terms (q.unordered + q.ordered) (q.level + 1) → Raised m taken x s q g (Err e) x
raises_short {m} {taken} {x} {s} {q} {g} h =
    short_of (λ (e : Missed). Raised m taken x s q g (Err e) x) h (λ k t1. raised_lacks t1)

-- one node
put_one : (t : List ℕ) {t1 : List ℕ} (n : ℕ) (p : Piece) → t1 ≡ put_node t n (six_of p) → t1 ≡ put_nodes t n (p ∷ [])
unfolding put_nodes
put_one t n p e = e

module _ {m : Limits} {x : Lent} {s : State} {q : Sequent} (rep : Rep m x s q) where
  seated_at : {p : Sequent} → p.unordered + p.ordered ≤ stretch → p.level ≤ m.levels → Seated m (length x.records) s p
  seated_at fits level_in = record {
    fits = fits;
    level_in = level_in;
    most_levels = rep.rooms.most_levels;
    most_formulas = rep.rooms.most_formulas;
    most_terms = rep.rooms.most_terms;
    most_records = rep.rooms.most_records;
    records_room = rep.rooms.records_room;
    in_terms = rep.within.in_terms;
  }

  -- the sequent itself, and it without its last ordered record
  pub seated : Seated m (length x.records) s q
  seated = seated_at rep.seats.fits rep.seats.level_in

  pub half_seated : {p : Sequent} → 0 < q.ordered → p ≡ popped q → Seated m (length x.records) s p
  half_seated some ep =
      let h = fields ep in seated_at (omega (arith, rep.seats.fits)) (omega (arith, rep.seats.level_in))

  -- another goal, a level up
  pub copy_room : {u nf nt c : ℕ} → Tested m (Ok tt) s u nf nt c (q.level + 1) →
      (length x.records ≤ 65536) × ((q.level + 2) * stretch ≤ length x.records) × (q.unordered + q.ordered ≤ stretch)
  copy_room t = let p = passes t in
      (rep.rooms.most_records, omega (arith, p.levels, rep.rooms.records_room), rep.seats.fits)

  pub up_room : {u nf nt c : ℕ} → Tested m (Ok tt) s u nf nt c (q.level + 1) → q.level < 255
  up_room t = omega (arith, (passes t).levels, rep.rooms.most_levels)

  pub body_on : {a g l : ℕ} {r : Premise} {t1 : List ℕ} {w1 : List Rec} → kind_at x.words q.goal ≡ 5 → l ≡ left_at x.words q.goal →
      g ≡ right_at x.words q.goal → Supposed m x.numbers x.records s q g l a r t1 w1 → (taken : List (List ℕ)) →
      a ≡ fresh taken s.indices → Body m x s q a r (lent x.words t1 w1)
  body_on {a} {l = l} {r} {t1} {w1} e el eg h taken ea =
      go (subst (λ (l : ℕ). Supposed m x.numbers x.records s q (right_at x.words q.goal) l a r t1 w1) el
      (subst (λ (g : ℕ). Supposed m x.numbers x.records s q g l a r t1 w1) eg h))
    where
      go : {r : Premise} {t1 : List ℕ} {w1 : List Rec} →
          Supposed m x.numbers x.records s q (right_at x.words q.goal) (left_at x.words q.goal) a r t1 w1 →
          Body m x s q a r (lent x.words t1 w1)
      go (supposes_not t) = lacks t
      go (supposes t et ew eq es) =
          let h = fields eq in
          ready t (impl_made taken rep e ea t (put_one _ _ _ et) refl refl ew eq es) (omega arith)

  pub half_on : {a b : ℕ} {p : Sequent} {r : Premise} {t1 : List ℕ} {w1 : List Rec} → 0 < q.ordered → b < s.formulas → p ≡ popped q →
      Supposed m x.numbers x.records s p q.goal b a r t1 w1 → (taken : List (List ℕ)) → a ≡ fresh taken s.indices →
      Half m x s q b a r (lent x.words t1 w1)
  half_on {a} {b} {r = r} {t1} {w1} some b_in ep h taken ea =
      go (subst (λ (p : Sequent). Supposed m x.numbers x.records s p q.goal b a r t1 w1) ep h)
    where
      go : {r : Premise} {t1 : List ℕ} {w1 : List Rec} → Supposed m x.numbers x.records s (popped q) q.goal b a r t1 w1 →
          Half m x s q b a r (lent x.words t1 w1)
      go (supposes_not t) = lacks t
      go (supposes t et ew eq es) =
          let h = fields eq in
          ready t (half_made taken rep some ea refl t b_in (put_one _ _ _ et) refl refl ew eq es) (omega arith)

  -- the fields of (A→B)→C, read where it lies
  module _ {i : ℕ} (ne : Nested x q i) {p a : ℕ} (ep : p ≡ place_of q i) (ea : a ≡ formula_at x.records p) where
    formula_here : a ≡ formula_of x q i
    formula_here = ea ∙ ap (formula_at x.records) ep

    term_here : {t : ℕ} → t ≡ term_at x.records p → t ≡ term_of x q i
    term_here et = et ∙ ap (term_at x.records) ep

    module _ {g b c : ℕ} (eg : g ≡ left_at x.words a) (eb : b ≡ right_at x.words g) (ec : c ≡ right_at x.words a) where
      goal_here : g ≡ premise_of x q i
      goal_here = eg ∙ ap (left_at x.words) formula_here

      middle_here : b ≡ middle_of x q i
      middle_here = eb ∙ ap (right_at x.words) goal_here

      end_here : c ≡ end_of x q i
      end_here = ec ∙ ap (right_at x.words) formula_here

      pub nested_room : (b < 16384) × (c < 16384)
      nested_room =
          let o = nested_in [] rep ne.none ne.here ne.arrow ne.inner in
          let few : s.formulas ≤ 16384 = omega (arith, rep.within.in_formulas, rep.rooms.most_formulas) in
          let two = middle_here in
          let three = end_here in
          (omega arith, omega arith)

      pub first_on : {d v t : ℕ} {f1 t1 : List ℕ} {w1 : List Rec} {s1 : State} {q1 : Sequent} →
          Tested m (Ok tt) s (v + 1) (s.formulas + 1) (s.terms + 5) (q.unordered + q.ordered) (q.level + 1) →
          f1 ≡ set x.words s.formulas (word (is_imp b c)) → t ≡ term_at x.records p →
          t1 ≡ put_nodes x.numbers s.terms (composed s.terms d (fn (name v) s.terms) t s.formulas) →
          w1 ≡ set (removed (raised x.records q) (upped q g) i) (push_place (without (upped q g))) (rec s.formulas (s.terms + 4)) →
          q1 ≡ pushed (without (upped q g)) → s1 ≡ spent s (v + 1) 1 5 →
          (taken : List (List ℕ)) → d ≡ fresh taken s.indices → v ≡ fresh taken (d + 1) →
          First m x s q i d v (Ok (s1, q1)) (lent f1 t1 w1)
      first_on {d} {v} e ef et ets ew eq es taken ed ev =
          let h = fields eq in
          let four : s.terms + 4 ≡ 4 + s.terms = omega arith in
          ready e (first_made taken rep ne.none ne.here ne.arrow ne.inner ed ev e
          (ef ∙ ap₂ (λ (k l : ℕ). set x.words s.formulas (word (is_imp k l))) middle_here end_here)
          (ets ∙ ap (λ (k : ℕ). put_nodes x.numbers s.terms (composed s.terms d (fn (name v) s.terms) k s.formulas)) (term_here et))
          refl refl refl refl
          (ew ∙ ap₂ (λ (g k : ℕ). set (removed (raised x.records q) (upped q g) i) (push_place (without (upped q g))) (rec s.formulas k))
          goal_here four)
          (eq ∙ ap (λ (g : ℕ). pushed (without (upped q g))) goal_here) es) (omega arith)

  pub second_on : {c j i p a t : ℕ} {t1 : List ℕ} {w1 : List Rec} {s1 : State} {q1 : Sequent} → Nested x q i → j < s.terms →
      Tested m (Ok tt) s s.indices s.formulas (s.terms + 1) (q.unordered + q.ordered) (q.level + 1) → p ≡ place_of q i →
      t ≡ term_at x.records p → t1 ≡ put_node x.numbers s.terms (six_of (app t j)) → a ≡ formula_at x.records p → c ≡ right_at x.words a →
      w1 ≡ set (removed (raised x.records q) (upped q q.goal) i) (push_place (without (upped q q.goal))) (rec c s.terms) →
      q1 ≡ pushed (without (upped q q.goal)) → s1 ≡ spent s s.indices 0 1 → Second m x s q i j (Ok (s1, q1)) (lent x.words t1 w1)
  second_on {c} {j} {i} ne j_in e ep et ets ea ec ew eq es =
      let h = fields eq in
      let o = nested_in [] rep ne.none ne.here ne.arrow ne.inner in
      ready e (second_made [] rep ne.none ne.here (end_of x q i) j o.2 j_in e
      (put_one _ _ _ (ets ∙ ap (λ (k : ℕ). put_node x.numbers s.terms (six_of (app k j))) (term_here ne ep ea et)))
      refl refl refl refl
      (ew ∙ ap (λ (k : ℕ). set (removed (raised x.records q) (upped q q.goal) i) (push_place (without (upped q q.goal))) (rec k s.terms))
      (ec ∙ ap (right_at x.words) (formula_here ne ep ea))) eq es) (omega arith)
