-- A try of rule 4, by what its two premises came to. Assumes nothing.
use Rattle.std.specs.Prelude.{Ok, Err}
use Prim.Native.Nat.{ℕ, ◌+◌, ◌≤◌, ◌<◌}
use mathlib.Core.Path.{◌≡◌}
use mathlib.Core.List.{List, []}
use native.Mathlib.Omega.{arith}
use Rattle.theory.specs.Names.{fresh}
use Rattle.theory.specs.Meter as M
use Rattle.meter.specs.declared.State.{State}
use Rattle.meter.specs.declared.Sequent.{Sequent}
use Rattle.meter.specs.declared.Limits.{Limits}
use Rattle.meter.specs.declared.Found.{Found}
use Rattle.meter.specs.declared.Missed.{Missed}
use Rattle.meter.specs.declared.Missed.TheVariants.{Failed, Short}
use Rattle.meter.specs.Moves.{Answer}
use Rattle.search_laws.specs.Reading.{Lent}
use Rattle.search_laws.specs.Keeping.{Rep}
use Rattle.search_laws.specs.Meaning.{Meets}
use Rattle.search_laws.specs.Making.{Back}
use Rattle.search_laws.specs.Trying.{Finishes, TriesAt}
use Rattle.search_laws.specs.Records.{end_of}
use Rattle.search_laws.proofs.Same.{laid_same}
use Rattle.search_laws.proofs.Branch.{back_found, back_at}
use Rattle.search_laws.proofs.Four.{impl_in}
use Rattle.search_laws.proofs.FourWays.{second_short, second_stops, second_found, second_failed}
use Rattle.search_laws.proofs.FourWays.{try_lacks, try_stops, try_fails, try_then}
use Rattle.search_premises.specs.Prepared as Prepared
use Rattle.search_premises.specs.Prepared.{Nested, First, Second}
use Rattle.search_premises.specs.Asked.{Attempted, given_back}
use Rattle.search_premises.proofs.SearchWays.{nested_back, end_back}

-- the second premise at y, s2; the try began at the state s
module _ {m : Limits} (taken : List (List ℕ)) {y : Lent} {s s2 : State} {q : Sequent} (now : Rep m y s2 q) (then : Rep m y s q) {i j : ℕ}
    (ne : Nested y q i) (j_in : j < s2.terms) (hf : s.formulas ≤ s2.formulas) (ht : s.terms ≤ s2.terms) where
  end_in : end_of y q i < s2.formulas
  end_in = (impl_in [] now ne.none ne.here ne.arrow).1

  finishes_short : {z : Lent} {e : Missed} → Second m y s2 q i j (Err e) z →
      Finishes m taken y s s2 q i (end_of y q i) j (given_back s (Err e)) z
  finishes_short (Prepared.lacks t) = second_short taken now ne.none ne.here (end_of y q i) j end_in j_in t

  finishes : {z1 z : Lent} {s3 : State} {q3 : Sequent} (r : Answer) → Second m y s2 q i j (Ok (s3, q3)) z1 →
      Meets M.by_left m taken z1 s3 q3 r z → Finishes m taken y s s2 q i (end_of y q i) j (given_back s r) z
  finishes (Ok f) (Prepared.ready t mk up) p = second_found taken now ne.none ne.here (end_of y q i) j end_in j_in mk p
  finishes (Err (Short l s4)) (Prepared.ready t mk up) p = second_stops taken now ne.none ne.here (end_of y q i) j end_in j_in mk p
  finishes (Err (Failed s4)) (Prepared.ready t mk up) p =
      second_failed taken now ne.none ne.here (end_of y q i) j end_in j_in mk then hf ht up p

-- the whole try at x, s, under the names a and b
module _ {m : Limits} (taken : List (List ℕ)) {x : Lent} {s : State} {q : Sequent} (rep : Rep m x s q) {i : ℕ} (ne : Nested x q i)
    {a b : ℕ} (ea : a ≡ fresh taken s.indices) (eb : b ≡ fresh taken (a + 1)) where
  pub first_short : {y : Lent} {e : Missed} → First m x s q i a b (Err e) y → Attempted m taken x s q i (Err e) y
  first_short (Prepared.lacks t) = record { is = try_lacks taken rep ne.none ne.here ne.arrow ne.inner ea eb t }

  pub first_missed : {x1 y : Lent} {s1 : State} {q1 : Sequent} {e : Missed} → First m x s q i a b (Ok (s1, q1)) x1 →
      Meets M.by_right m taken x1 s1 q1 (Err e) y → Attempted m taken x s q i (Err e) y
  first_missed {e = Short l s2} (Prepared.ready t mk up) p =
      record { is = try_stops taken rep ne.none ne.here ne.arrow ne.inner ea eb mk up p }
  first_missed {e = Failed s2} (Prepared.ready t mk up) p =
      record { is = try_fails taken rep ne.none ne.here ne.arrow ne.inner ea eb mk up p }

  -- the first premise is found
  module _ {x1 y : Lent} {s1 : State} {q1 : Sequent} {f : Found} (go : First m x s q i a b (Ok (s1, q1)) x1)
      (found : Meets M.by_right m taken x1 s1 q1 (Ok f) y) where
    pub try_back : Back m x s q f.state y × (f.node < f.state.terms)
    try_back = of go
      where
        of : First m x s q i a b (Ok (s1, q1)) x1 → Back m x s q f.state y × (f.node < f.state.terms)
        of (Prepared.ready t mk up) = (back_found mk rep up found.kept, found.kept.after.root_in)

    pub try_nested : Nested y q i
    try_nested = nested_back rep ne try_back.0

    before : Rep m y s q
    before = let b = try_back.0 in
        (back_at rep b.frame rep.within (laid_same b.frame.words rep.laid) (omega arith) (omega arith)).rep

    goes_on : {z : Lent} (r : Answer) → Finishes m taken y s f.state q i (end_of y q i) f.node r z → TriesAt m taken x s q i r z
    goes_on {z} r g = of go
      where
        of : First m x s q i a b (Ok (s1, q1)) x1 → TriesAt m taken x s q i r z
        of (Prepared.ready t mk up) =
            try_then taken rep ne.none ne.here ne.arrow ne.inner ea eb mk up r found (end_back rep ne try_back.0) g

    pub second_lacks : {z : Lent} {e : Missed} → Second m y f.state q i f.node (Err e) z → Attempted m taken x s q i (Err e) z
    second_lacks {e = e} p = let b = try_back.0 in record {
      is = goes_on (given_back s (Err e)) (finishes_short taken b.rep before try_nested try_back.1 b.formulas_up b.terms_up p);
    }

    pub try_both : {z1 z : Lent} {s3 : State} {q3 : Sequent} {r : Answer} → Second m y f.state q i f.node (Ok (s3, q3)) z1 →
        Meets M.by_left m taken z1 s3 q3 r z → Attempted m taken x s q i r z
    try_both {r = r} p h = let b = try_back.0 in record {
      is = goes_on (given_back s r) (finishes taken b.rep before try_nested try_back.1 b.formulas_up b.terms_up r p h);
    }
