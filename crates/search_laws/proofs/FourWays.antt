-- The ways through a try of rule 4: its second premise, and then the whole. Assumes nothing.
use Rattle.std.specs.Prelude.{Ok, Err}
use Prim.Native.Nat.{ℕ, suc, ◌+◌, ◌-◌, ◌*◌, ◌<◌, ◌≤◌}
use mathlib.Core.Path.{◌≡◌, refl, sym, ap, ◌∙◌}
use mathlib.Core.List.{List, [], ◌∷◌, ◌++◌}
use native.Mathlib.Omega.{arith}
use borrow.Author.Rules.{rules}
use Rattle.theory.specs.Term.{by, app, search4}
use Rattle.theory.specs.Names.{fresh}
use Rattle.theory.specs.World.{Tree, Seen, failed_first, failed_second}
use Rattle.theory.specs.Meter as M
use Rattle.theory.specs.Meter.{charge, attempt}
use Rattle.theory.proofs.Charges.{made}
use Rattle.meter.specs.declared.State.{State}
use Rattle.meter.specs.declared.Sequent.{Sequent}
use Rattle.meter.specs.declared.Limits.{Limits}
use Rattle.meter.specs.declared.Found.{Found}
use Rattle.meter.specs.declared.Limit.{Limit}
use Rattle.meter.specs.declared.Missed.{Missed}
use Rattle.meter.specs.declared.Missed.TheVariants.{Failed, Short}
use Rattle.meter.specs.Moves.{Answer, returned, limits_of}
use Rattle.meter.proofs.Laws.{refused}
use Rattle.context.specs.Moves.{stretch}
use Rattle.context.specs.Area.{zeroed}
use Rattle.search_laws.specs.Reading.{Lent, kind_at, entry_at, unordered_in, Shows}
use Rattle.search_laws.specs.Keeping.{Same, Rep}
use Rattle.search_laws.specs.Meaning.{says_found, asks, Meets, Gives}
use Rattle.search_laws.specs.Making.{Tested, Made, Back}
use Rattle.search_laws.specs.Trying.{Next, record_at, records_before, records_from, trying, second_next, second_try, HandsOn, TriesAt}
use Rattle.search_laws.specs.Trying.{Past, Finishes}
use Rattle.search_laws.specs.Records.{formula_of, term_of, premise_of, end_of}
use Rattle.search_laws.proofs.Tables.{upto_ext, from_ext}
use Rattle.search_laws.proofs.Same.{entry_by, frame_less, frame_trans}
use Rattle.search_laws.proofs.Combine.{comes_as, comes_now, try_short, try_found, FailsAs, fails_as, FindsAs, finds_as}
use Rattle.search_laws.proofs.Branch.{gives_as, gives_short, after_made, made_kept, back_failed, back_found, back_returned}
use Rattle.search_laws.proofs.Branch.{paid, asks_made, gives_try_short, gives_try_found}
use Rattle.search_laws.proofs.Four.{second_count, trying_by, first_next, first_words, first_pieces}
use Rattle.search_laws.proofs.Four.{first_count}

-- the second premise, at the lists x and the state s2; s is the state before the try
module _ {m : Limits} (taken : List (List ℕ)) {x : Lent} {s2 : State} {q : Sequent} (rep : Rep m x s2 q) (none_left : q.ordered ≡ 0)
    {i : ℕ}
    (here : i < q.unordered) (c t : ℕ) (c_in : c < s2.formulas) (t_in : t < s2.terms) where
  -- what a failed second premise goes on with
  abbrev on_second : Next → Seen → ℕ → Tree → M.State → M.Answer
  on_second next seen d k S4 = next d (failed_second seen k) S4

  second_by : (next : Next) (seen : Seen) (S S2 : M.State) → Shows x s2 S2 → (d : ℕ) → second_try m taken x q i c next seen S d t S2 ≡
      charge (limits_of m) s2.indices [] (by search4 (app (term_of x q i) t ∷ [])) (second_next x q i c s2.terms) S2
      (λ S3. attempt S (asks m taken d M.by_left (second_next x q i c s2.terms) S3) (λ u S4. M.found u S4) (on_second next seen d))
  unfolding second_try entry_at
  second_by next seen S S2 sh d = rw (sh.used, sh.many)

  pub second_short : {e : Missed} {s : State} → Tested m (Err e) s2 s2.indices s2.formulas (s2.terms + 1) (q.unordered + q.ordered)
      (q.level + 1) → Finishes m taken x s s2 q i c t (Err e) x
  second_short {e = Failed s3} tested = absurd (search (rules, (refused (sym tested.is)).says))
  second_short {e = Short n s3} tested =
      let o = second_count taken rep none_left here c t c_in t_in in
      record {
        is = λ next seen S. gives_as _ (second_by next seen S)
            (gives_short [] (by search4 (app (term_of x q i) t ∷ [])) (second_next x q i c s2.terms) _ tested (omega arith) refl o.0 o.1
            rep.within);
      }

  module _ {x1 y : Lent} {s1 : State} {q1 : Sequent}
      (mk : Made m x s2 q s2.indices [] (by search4 (app (term_of x q i) t ∷ [])) (second_next x q i c s2.terms) x1 s1 q1) where
    pub second_stops : {n : Limit} {s s3 : State} → Meets M.by_left m taken x1 s1 q1 (Err (Short n s3)) y →
        Finishes m taken x s s2 q i c t (Err (Short n s3)) y
    second_stops p = record {
      is = λ next seen S. gives_as _ (second_by next seen S) (record {
        means = λ S2 sh. paid mk _ sh (try_short S (λ d u S4. M.found u S4) (on_second next seen) (asks_made mk p sh));
        kept = made_kept mk p.kept;
      });
    }

    pub second_found : {f : Found} {s : State} → Meets M.by_left m taken x1 s1 q1 (Ok f) y → Finishes m taken x s s2 q i c t (Ok f) y
    second_found {f} p = record {
      is = λ next seen S. gives_as _ (second_by next seen S) (record {
        means = λ S2 sh. paid mk _ sh (try_found S (λ d u S4. M.found u S4) (on_second next seen) (asks_made mk p sh)
            (λ S4 sh4. comes_now (λ d. M.found f.node S4) (λ d. refl) (says_found sh4)));
        kept = made_kept mk p.kept;
      });
    }

    pub second_failed : {s s3 : State} → Rep m x s q → s.formulas ≤ s2.formulas → s.terms ≤ s2.terms → q.level < q1.level →
        Meets M.by_left m taken x1 s1 q1 (Err (Failed s3)) y → Finishes m taken x s s2 q i c t (Err (Failed (returned s s3))) y
    second_failed {s} {s3} rep0 hf ht up p =
        record {
          is = (
            record {
              back = back_returned rep0 (frame_less hf ht (omega arith) (after_made mk p.kept)) p.kept.within;
              formulas = refl;
              terms = refl;
            },
            λ next seen S S2 sh. hands next seen S S2 sh (fails_as S (asks_made mk p sh)),
          );
        }
      where
        hands : (next : Next) (seen : Seen) (S S2 : M.State) → Shows x s2 S2 → FailsAs S s3 (λ d. asks m taken d M.by_left
            (second_next x q i c s2.terms) (record {
              words = S2.words ++ [];
              nodes = S2.nodes ++ by search4 (app (term_of x q i) t ∷ []);
              used = s2.indices;
              steps = S2.steps;
            })) →
            HandsOn next S (returned s s3) (λ d. second_try m taken x q i c next seen S d t S2)
        hands next seen S S2 sh g = record {
          seen = failed_second seen g.tree;
          carries = λ r z k. comes_as (λ d. second_try m taken x q i c next seen S d t S2) (second_by next seen S S2 sh)
              (paid mk _ sh (g.carries (λ d u S4. M.found u S4) (on_second next seen) k));
        }

-- records of a stretch that was left alone are read as before
module _ (x y : Lent) (q : Sequent) (same : Same zeroed ((q.level + 1) * stretch) x.records y.records)
    (few : q.unordered ≤ stretch) where
  pub entry_back : (i : ℕ) → i < q.unordered → record_at y q i ≡ record_at x q i
  entry_back i h = entry_by x.records y.records _ _ (same.at (q.level * stretch + i) (omega arith))

  pub before_back : (i : ℕ) → i ≤ q.unordered → records_before y q i ≡ records_before x q i
  unfolding unordered_in
  before_back i h = upto_ext i (λ j k. entry_back j (omega arith))

  pub from_back : (i : ℕ) → i ≤ q.unordered → records_from y q i ≡ records_from x q i
  from_back i h = from_ext (λ j. entry_at y.records (q.level * stretch + j)) (λ j. entry_at x.records (q.level * stretch + j)) i i
      (q.unordered - i) (λ k l. entry_back (i + k) (omega arith))

  second_back : (m : Limits) (taken : List (List ℕ)) (i c : ℕ) → i < q.unordered → (next : Next) (seen : Seen) (S : M.State) (d t : ℕ)
      (S2 : M.State) → second_try m taken x q i c next seen S d t S2 ≡ second_try m taken y q i c next seen S d t S2
  unfolding second_try second_next
  second_back m taken i c h next seen S d t S2 = rw (entry_back i h, before_back i (omega arith), from_back (suc i) h)

-- the whole try at the lists x and the state s
module _ {m : Limits} (taken : List (List ℕ)) {x : Lent} {s : State} {q : Sequent} (rep : Rep m x s q) (none_left : q.ordered ≡ 0) {i : ℕ}
    (here : i < q.unordered) (e : kind_at x.words (formula_of x q i) ≡ 5) (k : kind_at x.words (premise_of x q i) ≡ 5) {a b : ℕ}
    (ea : a ≡ fresh taken s.indices) (eb : b ≡ fresh taken (a + 1)) where
  -- what follows the first premise, found or failed
  abbrev on_first : Next → Seen → M.State → ℕ → Tree → M.State → M.Answer
  on_first next seen S d t S2 = next d (failed_first seen t) S2

  abbrev after_found : Next → Seen → M.State → ℕ → ℕ → M.State → M.Answer
  after_found next seen S d t S2 = second_try m taken x q i (end_of x q i) next seen S d t S2

  pub try_lacks : {e : Missed} → Tested m (Err e) s (b + 1) (s.formulas + 1) (s.terms + 5) (q.unordered + q.ordered) (q.level + 1) →
      TriesAt m taken x s q i (Err e) x
  try_lacks {e = Failed s1} t = absurd (search (rules, (refused (sym t.is)).says))
  try_lacks {e = Short n s1} t =
      let o = first_count taken rep none_left here e k ea eb in
      record {
        is = λ next seen. gives_as _ (trying_by taken rep none_left here e k ea eb next seen)
            (gives_short (first_words taken rep none_left here e k ea eb) (by search4 (first_pieces taken rep none_left here e k ea eb))
            (first_next taken rep none_left here e k ea eb) _ t refl refl o.0 o.1 rep.within);
      }

  module _ {x1 y : Lent} {s1 : State} {q1 : Sequent} (mk : Made m x s q (b + 1) (first_words taken rep none_left here e k ea eb)
      (by search4 (first_pieces taken rep none_left here e k ea eb)) (first_next taken rep none_left here e k ea eb) x1 s1 q1)
      (up : q.level < q1.level) where
    pub try_stops : {n : Limit} {s2 : State} → Meets M.by_right m taken x1 s1 q1 (Err (Short n s2)) y →
        TriesAt m taken x s q i (Err (Short n s2)) y
    try_stops p = record {
      is = λ next seen. gives_as _ (trying_by taken rep none_left here e k ea eb next seen)
          (gives_try_short mk (after_found next seen) (on_first next seen) p);
    }

    pub try_fails : {s2 : State} → Meets M.by_right m taken x1 s1 q1 (Err (Failed s2)) y →
        TriesAt m taken x s q i (Err (Failed (returned s s2))) y
    try_fails {s2} p = record {
      is = (
        record { back = back_failed mk rep up p.kept; formulas = refl; terms = refl },
        λ next seen S sh. let g = fails_as S (asks_made mk p sh) in record {
          seen = failed_first seen g.tree;
          carries = λ r z c. comes_as (λ d. trying m taken x q i next seen d S)
              (trying_by taken rep none_left here e k ea eb next seen S sh)
              (paid mk _ sh (g.carries (after_found next seen S) (on_first next seen S) c));
        },
      );
    }

    -- the second premise is tried at lists that were left alone where it reads them
    over : {f : Found} {c : ℕ} → Meets M.by_right m taken x1 s1 q1 (Ok f) y → c ≡ end_of x q i → (next : Next) (seen : Seen)
        (S : M.State)
        (j : ℕ) (S2 : M.State) (d : ℕ) → after_found next seen S d j S2 ≡ second_try m taken y q i c next seen S d j S2
    over p ec next seen S j S2 d =
        let f = (back_found mk rep up p.kept).frame.records in
        second_back x y q f (omega (arith, rep.seats.fits)) m taken i (end_of x q i) here next seen S d j S2
        ∙ ap (λ (v : ℕ). second_try m taken y q i v next seen S d j S2) (sym ec)

    -- where the second premise ends the try, its answer is the whole's
    then_gives : {f : Found} {c : ℕ} {r : Answer} {z : Lent} → Meets M.by_right m taken x1 s1 q1 (Ok f) y → c ≡ end_of x q i →
        ((next : Next) (seen : Seen) (S : M.State) →
        Gives (λ d S2. second_try m taken y q i c next seen S d f.node S2) m y f.state q r z) →
        (next : Next) (seen : Seen) → Gives (trying m taken x q i next seen) m x s q r z
    then_gives {f} p ec g next seen = gives_as _ (trying_by taken rep none_left here e k ea eb next seen)
        (gives_try_found mk (after_found next seen) (on_first next seen) rep up p
        (g next seen (record { words = []; nodes = []; used = 0; steps = 0 })).kept
        (λ S sh S2 sh2. comes_as (λ d. after_found next seen S d f.node S2) (over p ec next seen S f.node S2)
        ((g next seen S).means S2 sh2)))

    -- the first premise is found, and its second comes to r
    pub try_then : {f : Found} {c : ℕ} (r : Answer) {z : Lent} → Meets M.by_right m taken x1 s1 q1 (Ok f) y → c ≡ end_of x q i →
        Finishes m taken y s f.state q i c f.node r z → TriesAt m taken x s q i r z
    try_then {f} {c} (Ok h) {z} p ec g = record { is = then_gives p ec g.is }
    try_then {f} {c} (Err (Short n s3)) {z} p ec g = record { is = then_gives p ec g.is }
    try_then {f} {c} (Err (Failed s3)) {z} p ec g = record {
      is = (
        twice (back_found mk rep up p.kept) g.is.0,
        λ next seen S sh. hands next seen S sh (finds_as (asks_made mk p sh)),
      );
    }
      where
        twice : Back m x s q f.state y → Past m y s q s3 z → Past m x s q s3 z
        twice one two = record {
          back = record {
            rep = two.back.rep;
            frame = frame_trans (omega arith) (omega arith) (omega arith) one.frame two.back.frame;
            formulas_up = two.back.formulas_up;
            terms_up = two.back.terms_up;
            seq = two.back.seq ∙ one.seq;
          };
          formulas = two.formulas;
          terms = two.terms;
        }

        hands : (next : Next) (seen : Seen) (S : M.State) → Shows x s S → FindsAs y f (λ d. asks m taken d M.by_right
            (first_next taken rep none_left here e k ea eb) (made S (b + 1) (first_words taken rep none_left here e k ea eb)
            (by search4 (first_pieces taken rep none_left here e k ea eb)))) → HandsOn next S s3 (λ d. trying m taken x q i next seen d S)
        hands next seen S sh v =
            let h = g.is.1 next seen S v.state v.shows in
            record {
              seen = h.seen;
              carries = λ r w c. comes_as (λ d. trying m taken x q i next seen d S)
                  (trying_by taken rep none_left here e k ea eb next seen S sh)
                  (paid mk _ sh (v.carries S (after_found next seen S) (on_first next seen S)
                  (comes_as (λ d. after_found next seen S d f.node v.state) (over p ec next seen S f.node v.state) (h.carries r w c))));
            }
