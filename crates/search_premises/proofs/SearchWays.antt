-- The ways of search's tries, by what the premises of rules 3 and 4 came to. Assumes nothing.
use Rattle.std.specs.Prelude.{Ok, Err}
use Prim.Native.Nat.{ℕ, ◌+◌, ◌<◌}
use mathlib.Core.Path.{◌≡◌, ap, ◌∙◌, subst}
use mathlib.Core.List.{List, []}
use native.Mathlib.Omega.{arith}
use lib.ListN.{get_or}
use Rattle.theory.specs.Form.{kind_of, left_of, right_of}
use Rattle.theory.specs.Term.{inl, inr}
use Rattle.theory.specs.Names.{fresh}
use Rattle.theory.specs.Meter as M
use Rattle.meter.specs.declared.State.{State}
use Rattle.meter.specs.declared.Sequent.{Sequent}
use Rattle.meter.specs.declared.Limits.{Limits}
use Rattle.meter.specs.declared.Found.{Found}
use Rattle.meter.specs.declared.Limit.{Limit}
use Rattle.meter.specs.declared.Missed.TheVariants.{Failed, Short}
use Rattle.meter.specs.Moves.{Answer, returned}
use Rattle.context.specs.Area.{Rec}
use Rattle.search_laws.specs.Reading.{Lent, lent, kind_at, left_at, right_at, seq_of}
use Rattle.search_laws.specs.Keeping.{Rep}
use Rattle.search_laws.specs.Meaning.{Gives, weigh}
use Rattle.search_laws.specs.Making.{Back}
use Rattle.search_laws.specs.Parts.{Ranges, Seconds}
use Rattle.search_laws.specs.Closing.{Closes}
use Rattle.search_laws.specs.Turning.{tries}
use Rattle.search_laws.specs.Records.{place_of, formula_of, premise_of, end_of}
use Rattle.search_laws.proofs.Halves.{tries_short, tries_first_short, tries_first_found, tries_first_failed}
use Rattle.search_laws.proofs.Halves.{second_half_short, second_half_stops, second_half_found, second_half_failed}
use Rattle.search_laws.proofs.Four.{record_in, impl_in}
use Rattle.search_laws.proofs.FallsFour.{first_falls, second_falls}
use Rattle.search_premises.specs.Prepared as Prepared
use Rattle.search_premises.specs.Prepared.{Nested, First, Second}
use Rattle.search_premises.specs.Asked.{Raised, raised_lacks, raised_asks}

-- rule 3: the first half
module _ {m : Limits} {taken : List (List ℕ)} {x : Lent} {s : State} {q : Sequent} (rep : Rep m x s q)
    (e : kind_at x.words q.goal ≡ 4) {a : ℕ} (ea : a ≡ left_at x.words q.goal) where
  one : {y : Lent} {r : Answer} → Raised m taken x s q a r y → Raised m taken x s q (left_at x.words q.goal) r y
  one {y} {r} p = subst (λ (g : ℕ). Raised m taken x s q g r y) ea p

  pub first_stops : {y : Lent} {l : Limit} {s2 : State} → Raised m taken x s q a (Err (Short l s2)) y →
      Gives (tries m taken (seq_of x.records q)) m x s q (Err (Short l s2)) y
  first_stops p = go (one p)
    where
      go : {y : Lent} {l : Limit} {s2 : State} → Raised m taken x s q (left_at x.words q.goal) (Err (Short l s2)) y →
          Gives (tries m taken (seq_of x.records q)) m x s q (Err (Short l s2)) y
      go (raised_lacks t) = tries_short taken rep e t
      go (raised_asks mk up h) = tries_first_short taken rep e mk h

  pub first_found : {y : Lent} {f : Found} {r : Answer} {t1 : List ℕ} → Raised m taken x s q a (Ok f) y →
      Closes m y.numbers f.state (inl f.node) r t1 →
      Gives (tries m taken (seq_of x.records q)) m x s q r (lent y.words t1 y.records)
  first_found {y} {f} {r} {t1} p c = go (one p)
    where
      go : Raised m taken x s q (left_at x.words q.goal) (Ok f) y →
          Gives (tries m taken (seq_of x.records q)) m x s q r (lent y.words t1 y.records)
      go (raised_asks mk up h) = tries_first_found taken rep e mk up h c

  pub first_fails : {y z : Lent} {s2 s3 : State} {r : Answer} → Raised m taken x s q a (Err (Failed s2)) y → s3 ≡ returned s s2 →
      Seconds m taken (right_at y.words q.goal) y s3 q r z → Gives (tries m taken (seq_of x.records q)) m x s q r z
  first_fails {y} {z} {s2} {s3} {r} p es g =
      go (one p) (subst (λ (v : State). Seconds m taken (right_at y.words q.goal) y v q r z) es g)
    where
      go : Raised m taken x s q (left_at x.words q.goal) (Err (Failed s2)) y →
          Seconds m taken (right_at y.words q.goal) y (returned s s2) q r z → Gives (tries m taken (seq_of x.records q)) m x s q r z
      go (raised_asks mk up h) g = tries_first_failed taken rep e mk up h g

-- rule 3: the second half b
module _ {m : Limits} {taken : List (List ℕ)} {x : Lent} {s : State} {q : Sequent} (rep : Rep m x s q) {b : ℕ} where
  pub half_stops : {y : Lent} {l : Limit} {s2 : State} → Raised m taken x s q b (Err (Short l s2)) y →
      Seconds m taken b x s q (Err (Short l s2)) y
  half_stops (raised_lacks t) = second_half_short taken rep b t
  half_stops (raised_asks mk up h) = second_half_stops taken rep b mk h

  pub half_found : {y : Lent} {f : Found} {r : Answer} {t1 : List ℕ} → Raised m taken x s q b (Ok f) y →
      Closes m y.numbers f.state (inr f.node) r t1 → Seconds m taken b x s q r (lent y.words t1 y.records)
  half_found (raised_asks mk up h) c = second_half_found taken rep b mk up h c

  pub half_fails : {y z : Lent} {s2 s3 : State} {r : Answer} → Raised m taken x s q b (Err (Failed s2)) y → s3 ≡ returned s s2 →
      Ranges m taken y s3 q r z → Seconds m taken b x s q r z
  half_fails {y} {z} {s2} {s3} {r} p es g = go p (subst (λ (v : State). Ranges m taken y v q r z) es g)
    where
      go : Raised m taken x s q b (Err (Failed s2)) y → Ranges m taken y (returned s s2) q r z → Seconds m taken b x s q r z
      go (raised_asks mk up h) g = second_half_failed taken rep b mk up h g

-- rule 4 at position i
module _ {m : Limits} {x : Lent} {s : State} {q : Sequent} (rep : Rep m x s q) {i : ℕ} (ne : Nested x q i) where
  pub first_less : (taken : List (List ℕ)) {a b : ℕ} {y : Lent} {s1 : State} {q1 : Sequent} → a ≡ fresh taken s.indices →
      b ≡ fresh taken (a + 1) → First m x s q i a b (Ok (s1, q1)) y →
      weigh M.by_right y.words s1.formulas y.records q1 < weigh M.by_search x.words s.formulas x.records q
  first_less taken ea eb (Prepared.ready t mk up) = first_falls taken rep ne.none ne.here ne.arrow ne.inner ea eb mk

  pub second_less : {j : ℕ} {y : Lent} {s1 : State} {q1 : Sequent} → Second m x s q i j (Ok (s1, q1)) y →
      weigh M.by_left y.words s1.formulas y.records q1 < weigh M.by_search x.words s.formulas x.records q
  second_less (Prepared.ready t mk up) = second_falls [] rep ne.none ne.here ne.arrow s.terms mk

  -- the record is still there after its first premise
  module _ {y : Lent} {s2 : State} (back : Back m x s q s2 y) where
    formula_back : formula_of y q i ≡ formula_of x q i
    formula_back = ap (λ (r : Rec). r.formula)
        (back.frame.records.at (place_of q i) (let h = ne.here in omega (arith, rep.seats.fits)))

    word_back : get_or y.words (formula_of y q i) 0 ≡ get_or x.words (formula_of x q i) 0
    word_back = ap (λ (k : ℕ). get_or y.words k 0) formula_back
        ∙ back.frame.words.at (formula_of x q i) (record_in [] rep ne.none ne.here).formula_in

    pub nested_back : Nested y q i
    nested_back = record {
      none = ne.none;
      here = ne.here;
      arrow = ap kind_of word_back ∙ ne.arrow;
      inner = ap (λ (w : ℕ). kind_at y.words (left_of w)) word_back
          ∙ ap kind_of (back.frame.words.at (premise_of x q i) (impl_in [] rep ne.none ne.here ne.arrow).0) ∙ ne.inner;
    }

    pub end_back : end_of y q i ≡ end_of x q i
    end_back = ap right_of word_back
