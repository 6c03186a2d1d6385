-- The ways of left: one turn after another, and a disjunction by what its premises came to. Assumes nothing.
use Rattle.std.specs.Prelude.{Ok, Err}
use Prim.Native.Nat.{ℕ, ◌+◌, ◌*◌, ◌<◌}
use mathlib.Core.Path.{◌≡◌, refl, sym, ap, ◌∙◌, subst}
use mathlib.Core.List.{List, []}
use native.Mathlib.Omega.{arith}
use lib.ListN.{get_or}
use Rattle.theory.specs.Form.{kind_of, right_of}
use Rattle.theory.specs.Term.{case}
use Rattle.theory.specs.Names.{fresh}
use Rattle.theory.specs.Meter as M
use Rattle.theory.specs.Search.{name}
use Rattle.meter.specs.declared.State.{State}
use Rattle.meter.specs.declared.Sequent.{Sequent}
use Rattle.meter.specs.declared.Limits.{Limits}
use Rattle.meter.specs.declared.Found.{Found}
use Rattle.meter.specs.declared.Missed.{Missed}
use Rattle.meter.specs.declared.Next.TheVariants as N
use Rattle.meter.specs.Moves.{Answer}
use Rattle.context.specs.Moves.{stretch}
use Rattle.context.specs.Area.{Rec, formula_at, term_at, top_place}
use Rattle.search_laws.specs.Reading.{Lent, lent, kind_at, left_at, right_at, seq_of}
use Rattle.search_laws.specs.Keeping.{Rep}
use Rattle.search_laws.specs.Meaning.{Meets, Goes, Gives, weigh, Onward, GoesOn}
use Rattle.search_laws.specs.Making.{Back}
use Rattle.search_laws.specs.Parts.{or_second}
use Rattle.search_laws.specs.Closing.{Closes}
use Rattle.search_laws.specs.Turning.{Splits, tries, Turned, turned_on, turned_end, turned_missed, turned_split, turned_try}
use Rattle.search_laws.specs.Records.{top_formula, top_term, others}
use Rattle.search_laws.proofs.Charge.{passes}
use Rattle.search_laws.proofs.Branch.{back_found}
use Rattle.search_laws.proofs.Left.{top_inside}
use Rattle.search_laws.proofs.LeftOr as Or
use Rattle.search_laws.proofs.LeftOr.{left_or_short, left_or_lost, left_or_then, or_second_short, or_second_lost, or_second_found}
use Rattle.search_laws.proofs.FallsNew.{half_falls, halves_lighter}
use Rattle.search_laws.proofs.FallsRight.{left_to_search}
use Rattle.search_premises.specs.Prepared as Prepared
use Rattle.search_premises.specs.Prepared.{Half}
use Rattle.search_premises.specs.Asked.{lacks, asks, HalfOf, Branched}

-- left before its first turn, and one turn after another
pub onward_refl : {m : Limits} {taken : List (List ℕ)} {x : Lent} {s : State} {q : Sequent} → Rep m x s q → Onward m taken x s q x s q
onward_refl rep = record { rep = rep; carries = λ r y h. h; falls = omega arith }

pub onward_trans : {m : Limits} {taken : List (List ℕ)} {x y z : Lent} {s s1 s2 : State} {q q1 q2 : Sequent} →
    Onward m taken x s q y s1 q1 → Onward m taken y s1 q1 z s2 q2 → Onward m taken x s q z s2 q2
onward_trans a b = record {
  rep = b.rep;
  carries = λ r v h. a.carries r v (b.carries r v h);
  falls = omega (arith, a.falls, b.falls);
}

-- a turn that comes to the two premises of a disjunction, or to the tries of search
pub record Parts (m : Limits) (taken : List (List ℕ)) (x : Lent) (s : State) (q : Sequent) (y : Lent) (s1 : State) (q1 : Sequent) : Type 0
  where
    pub rep : Rep m y s1 q1
    pub is : Splits y q1
    pub weighs : weigh M.by_left y.words s1.formulas y.records q1 ≡ weigh M.by_left x.words s.formulas x.records q
    pub carries : (r : Answer) (z : Lent) → Goes M.by_left m taken y s1 q1 r z → Meets M.by_left m taken x s q r z

pub record Searches (m : Limits) (taken : List (List ℕ)) (x : Lent) (s : State) (q : Sequent) (y : Lent) (s1 : State) (q1 : Sequent) :
    Type 0 where
  pub rep : Rep m y s1 q1
  pub none : q1.ordered ≡ 0
  pub less : weigh M.by_search y.words s1.formulas y.records q1 < weigh M.by_left x.words s.formulas x.records q
  pub carries : (r : Answer) (z : Lent) → Gives (tries m taken (seq_of y.records q1)) m y s1 q1 r z → Meets M.by_left m taken x s q r z

module _ {m : Limits} {taken : List (List ℕ)} {x : Lent} {s : State} {q : Sequent} where
  pub turn_goes : {y : Lent} {s1 : State} {q1 : Sequent} → Turned m taken x s q (Ok (N.Go s1 q1)) y → GoesOn m taken x s q y s1 q1
  turn_goes (turned_on g) = g

  pub turn_ends : {y : Lent} {f : Found} → Turned m taken x s q (Ok (N.End f)) y → Meets M.by_left m taken x s q (Ok f) y
  turn_ends (turned_end p) = p

  pub turn_misses : {y : Lent} {e : Missed} → Turned m taken x s q (Err e) y → Meets M.by_left m taken x s q (Err e) y
  turn_misses (turned_missed p) = p

  pub turn_parts : {y : Lent} {s1 : State} {q1 : Sequent} → Turned m taken x s q (Ok (N.Split s1 q1)) y → Parts m taken x s q y s1 q1
  turn_parts (turned_split p) = record {
    rep = p.rep;
    is = p.is;
    weighs = ap (λ (n : ℕ). weigh M.by_left x.words n x.records q) p.fill;
    carries = p.carries;
  }

  pub turn_tries : {y : Lent} {s1 : State} {q1 : Sequent} → Turned m taken x s q (Ok (N.Try s1 q1)) y → Searches m taken x s q y s1 q1
  turn_tries {s1 = s1} (turned_try p) = record {
    rep = p.rep;
    none = p.none;
    less = omega (
      arith,
      left_to_search x.words s1.formulas x.records q,
      ap (λ (n : ℕ). weigh M.by_left x.words n x.records q) p.fill,
    );
    carries = p.carries;
  }

-- a half in the place of a heavier record
pub half_less : {m : Limits} (taken : List (List ℕ)) {x y : Lent} {s s1 : State} {q q1 : Sequent} {a g : ℕ} → Rep m x s q → HalfOf x s q a →
    g ≡ fresh taken s.indices → Half m x s q a g (Ok (s1, q1)) y →
    weigh M.by_left y.words s1.formulas y.records q1 < weigh M.by_left x.words s.formulas x.records q
half_less taken {a = a} rep ho eg (Prepared.ready t mk up) = half_falls taken rep ho.some eg a ho.inside ho.lighter mk

-- the last ordered record, of place p, is a disjunction: its formula is a
module _ {m : Limits} {x : Lent} {s : State} {q : Sequent} (rep : Rep m x s q) (sp : Splits x q) {p a : ℕ} (ep : p ≡ top_place q)
    (ea : a ≡ formula_at x.records p) where
  top_is : a ≡ top_formula x q
  top_is = ea ∙ ap (formula_at x.records) ep

  pub left_half : {b : ℕ} → b ≡ left_at x.words a → HalfOf x s q b
  left_half eb =
      subst (HalfOf x s q) (sym (eb ∙ ap (left_at x.words) top_is))
      (record { some = sp.some; inside = (Or.or_parts [] rep sp.some sp.kind refl).0; lighter = (halves_lighter [] rep sp.some sp.kind).0 })

  top_low : top_place q < (q.level + 1) * stretch
  top_low = omega (arith, sp.some, rep.seats.fits)

  -- it is still there after its first half
  module _ {y : Lent} {s2 : State} (back : Back m x s q s2 y) where
    top_back : top_formula y q ≡ top_formula x q
    top_back = ap (λ (r : Rec). r.formula) (back.frame.records.at (top_place q) top_low)

    word_back : get_or y.words (top_formula x q) 0 ≡ get_or x.words (top_formula x q) 0
    word_back = back.frame.words.at (top_formula x q) (top_inside [] rep sp.some).formula_in

    splits_back : Splits y q
    splits_back = record { some = sp.some; kind = ap (kind_at y.words) top_back ∙ ap kind_of word_back ∙ sp.kind }

    right_is : {b : ℕ} → b ≡ right_at y.words a → b ≡ right_at x.words (top_formula x q)
    right_is eb = eb ∙ ap (right_at y.words) top_is ∙ ap right_of word_back

    pub right_half : {b : ℕ} → b ≡ right_at y.words a → HalfOf y s2 q b
    right_half eb =
        let k = splits_back.kind in
        subst (HalfOf y s2 q) (sym (eb ∙ ap (right_at y.words) (top_is ∙ sym top_back)))
        (record {
          some = sp.some;
          inside = (Or.or_parts [] back.rep sp.some k refl).1;
          lighter = (halves_lighter [] back.rep sp.some k).1;
        })

  -- and what its premises come to: the first half b is asked under the name g, and t is the term of the disjunction
  module _ (taken : List (List ℕ)) {g b : ℕ} (eg : g ≡ fresh taken s.indices) (eb : b ≡ left_at x.words a) where
    half_first : {y : Lent} {r : Answer} → Branched m taken x s q b g r y →
        Branched m taken x s q (left_at x.words (top_formula x q)) g r y
    half_first {y} {r} h = subst (λ (k : ℕ). Branched m taken x s q k g r y) (eb ∙ ap (left_at x.words) top_is) h

    pub or_lost : {y : Lent} {e : Missed} → Branched m taken x s q b g (Err e) y → Goes M.by_left m taken x s q (Err e) y
    or_lost h = go (half_first h)
      where
        go : {y : Lent} {e : Missed} → Branched m taken x s q (left_at x.words (top_formula x q)) g (Err e) y →
            Goes M.by_left m taken x s q (Err e) y
        go (lacks (Prepared.lacks t)) = left_or_short taken rep sp.some sp.kind eg refl t
        go (asks (Prepared.ready t mk up) h) = left_or_lost taken rep sp.some sp.kind eg mk h

    -- the first half is found, and the second half c is asked under the name k
    module _ {y : Lent} {f : Found} {t c k : ℕ} (first : Branched m taken x s q b g (Ok f) y) (et : t ≡ term_at x.records p)
        (ec : c ≡ right_at y.words a) (ek : k ≡ fresh taken f.state.indices) where
      term_is : t ≡ top_term x q
      term_is = et ∙ ap (term_at x.records) ep

      or_then : {r : Answer} {v : Lent} → (Back m x s q f.state y → f.node < f.state.terms → g < 4096 →
          Gives (λ d S. or_second m taken (seq_of y.records q) (others y q) c t (name g) d f.node S) m y f.state q r v) →
          Goes M.by_left m taken x s q r v
      or_then {r} {v} rest = go (half_first first) rest
        where
          go : Branched m taken x s q (left_at x.words (top_formula x q)) g (Ok f) y →
              (Back m x s q f.state y → f.node < f.state.terms → g < 4096 →
              Gives (λ d S. or_second m taken (seq_of y.records q) (others y q) c t (name g) d f.node S) m y f.state q r v) →
              Goes M.by_left m taken x s q r v
          go (asks (Prepared.ready n mk up) h) rest =
              let back = back_found mk rep up h.kept in
              left_or_then taken rep sp.some sp.kind eg mk up h term_is (right_is back ec)
              (rest back h.kept.after.root_in (omega (arith, (passes n).indices)))

      pub or_lost_second : {z : Lent} {e : Missed} → Branched m taken y f.state q c k (Err e) z → Goes M.by_left m taken x s q (Err e) z
      or_lost_second second = or_then (λ back i_in few. go f.node back.rep ek second)
        where
          go : {y z : Lent} {s2 : State} {e : Missed} (i : ℕ) → Rep m y s2 q → k ≡ fresh taken s2.indices →
              Branched m taken y s2 q c k (Err e) z →
              Gives (λ d S. or_second m taken (seq_of y.records q) (others y q) c t (name g) d i S) m y s2 q (Err e) z
          go i back ek (lacks (Prepared.lacks n)) = or_second_short taken back sp.some ek c t (name g) i refl n
          go i back ek (asks (Prepared.ready n mk up) h) = or_second_lost taken back sp.some ek c t (name g) i mk h

      pub or_found : {z : Lent} {f2 : Found} {r : Answer} {t1 : List ℕ} → Branched m taken y f.state q c k (Ok f2) z →
          Closes m z.numbers f2.state (case t (name g) f.node (name k) f2.node) r t1 →
          Goes M.by_left m taken x s q r (lent z.words t1 z.records)
      or_found {z} {f2} {r} {t1} second closes = or_then (λ back i_in few. go back i_in few second)
        where
          go : Back m x s q f.state y → f.node < f.state.terms → g < 4096 → Branched m taken y f.state q c k (Ok f2) z →
              Gives (λ d S. or_second m taken (seq_of y.records q) (others y q) c t (name g) d f.node S) m y f.state q r
              (lent z.words t1 z.records)
          go back i_in few (asks (Prepared.ready n mk up) h) =
              or_second_found taken back.rep sp.some ek c t (name g) f.node mk
              (omega (arith, term_is, (top_inside taken rep sp.some).term_in, back.terms_up)) i_in (omega arith)
              (omega (arith, (passes n).indices)) up h closes
