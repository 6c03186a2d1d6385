-- Rule 4 at one position: what the code makes and moves before each of the two premises. Assumes nothing.
use Rattle.std.specs.Prelude.{Ok}
use Prim.Native.Nat.{ℕ, suc, ◌+◌, ◌-◌, ◌*◌, ◌<◌, ◌≤◌}
use mathlib.Core.Path.{◌≡◌, refl, sym, ap, ◌∙◌}
use mathlib.Core.Option.{none}
use mathlib.Core.List.{List, [], ◌∷◌, ◌++◌}
use native.Mathlib.Omega.{arith}
use native.Mathlib.Numerals.{add-one}
use lib.ListN.{length, set, length-append}
use Rattle.theory.specs.Form.{Book, Shape, is_imp, shape_of, word, look}
use Rattle.theory.specs.Term.{Piece, by, ident, fn, app, asc, search4}
use Rattle.theory.specs.Names.{fresh}
use Rattle.theory.specs.World.{Seen, failed_first}
use Rattle.theory.specs.Meter as M
use Rattle.theory.specs.Meter.{limited, count, charge, attempt}
use Rattle.theory.specs.Search.{name, entry, nest, nest_left, try_at}
use Rattle.theory.proofs.Derive.{fresh_above}
use Rattle.meter.specs.declared.State.{State}
use Rattle.meter.specs.declared.Sequent.{Sequent}
use Rattle.meter.specs.declared.Limits.{Limits}
use Rattle.meter.specs.Moves.{spent, limits_of}
use Rattle.context.specs.Moves.{stretch, upped, pushed, without}
use Rattle.context.specs.Area.{Rec, rec, raised, removed, push_place}
use Rattle.search_laws.specs.Tables.{upto, downto, from}
use Rattle.search_laws.specs.Reading.{Lent, lent, kind_at, left_at, right_at, shape_at, entry_at, unordered_in, ordered_in, seq_of, Shows}
use Rattle.search_laws.specs.Reading.{put_nodes}
use Rattle.search_laws.specs.Keeping.{Inside, Rep}
use Rattle.search_laws.specs.Meaning.{asks}
use Rattle.search_laws.specs.Making.{Tested, Made}
use Rattle.search_laws.specs.Trying.{Next, record_at, records_before, records_from, trying, second_next, second_try}
use Rattle.search_laws.specs.Records.{place_of, formula_of, term_of, premise_of, middle_of, end_of}
use Rattle.search_laws.specs.Pieces.{composed}
use Rattle.search_laws.proofs.Tables.{upto_split, from_length}
use Rattle.search_laws.proofs.Seat.{unordered_length}
use Rattle.search_laws.proofs.Areas.{fields, Area, area_start, area_up, area_out, area_push}
use Rattle.search_laws.proofs.Write.{words_none, words_imp}
use Rattle.search_laws.proofs.Charge.{words_many, passes}
use Rattle.search_laws.proofs.Making.{made_of}
use Rattle.search_laws.proofs.Look.{shape_as, look_at, children, fits16, by_kind}

-- the context parts at each position
pub parted : (x : Lent) (q : Sequent) (i : ℕ) → i < q.unordered →
    (seq_of x.records q).unordered ≡ records_before x q i ++ (record_at x q i ∷ records_from x q (suc i))
unfolding unordered_in from
parted x q i h =
    let g : ℕ → M.Entry = λ j. entry_at x.records (q.level * stretch + j) in
    ap (upto g) (let p : q.unordered ≡ i + suc (q.unordered - suc i) = omega arith in p) ∙ upto_split g i (suc (q.unordered - suc i))

-- how many records are left beside it
pub parted_count : (x : Lent) (q : Sequent) (i : ℕ) → i < q.unordered →
    length (records_before x q i ++ records_from x q (suc i)) ≡ q.unordered - 1
parted_count x q i h =
    length-append (records_before x q i) (records_from x q (suc i))
    ∙ omega (
      arith,
      unordered_length x.records q.level i,
      from_length (λ j. entry_at x.records (q.level * stretch + j)) (suc i) (q.unordered - suc i),
    )

module _ {m : Limits} (taken : List (List ℕ)) {x : Lent} {s : State} {q : Sequent} (rep : Rep m x s q) (none_left : q.ordered ≡ 0) {i : ℕ}
    (here : i < q.unordered) where
  pub record_in : Inside s.formulas s.terms x.records (place_of q i)
  record_in = rep.seats.unordered_inside i here

  pub nothing_left : (seq_of x.records q).ordered ≡ []
  unfolding ordered_in downto
  nothing_left = ap (downto (λ j. entry_at x.records (q.level * stretch + stretch - 1 - j))) none_left

  -- the stretch a level up without record i, and with the record c:t last
  replaced : {nf nt c t g : ℕ} {w1 w2 w3 : List Rec} {q1 q2 q3 : Sequent} → s.formulas ≤ nf → s.terms ≤ nt → c < nf → t < nt →
      (nf ≤ 65536) × (nt ≤ 65536) → g < nf → q.level < m.levels → w1 ≡ raised x.records q → q1 ≡ upped q g → w2 ≡ removed w1 q1 i →
      q2 ≡ without q1 → w3 ≡ set w2 (push_place q2) (rec c t) → q3 ≡ pushed q2 →
      Area m nf nt q3.level x.records w3 q3 (records_before x q i ++ records_from x q (suc i))
      (entry c t ∷ (seq_of x.records q).ordered)
  replaced {nf} {nt} {c} {t} {g} {w1} {w2} {w3} {q1} {q2} {q3} hf ht hc hn few hg up ew eq ew2 eq2 ew3 eq3 =
      let h = fields eq in
      let h2 = fields eq2 in
      let h3 = fields eq3 in
      let n : i ≡ length (records_before x q i) = sym (unordered_length x.records q.level i) in
      let fit = rep.seats.fits in
      area_push (area_out (area_up (area_start q3.level rep hf ht) g hg up (omega arith) ew eq) (records_before x q i) (record_at x q i)
      (records_from x q (suc i)) (parted x q i here) (omega arith) (ew2 ∙ ap (removed w1 q1) n) eq2) c t hc hn few (omega arith)
      (omega arith)
      ew3 eq3

  -- before the second premise: one Application, and C is pushed; t is the node of the first
  module _ (c t : ℕ) (c_in : c < s.formulas) (t_in : t < s.terms) where
    pub second_count : (q.unordered + q.ordered ≡ count (second_next x q i c s.terms)) ×
        (q.level + 1 ≡ (second_next x q i c s.terms).level)
    unfolding second_next count
    second_count = let p = parted_count x q i here in (omega arith, omega arith)

    pub second_made : {t1 : List ℕ} {w1 w2 w3 : List Rec} {s1 : State} {q1 q2 q3 : Sequent} →
        Tested m (Ok tt) s s.indices s.formulas (s.terms + 1) (q.unordered + q.ordered) (q.level + 1) →
        t1 ≡ put_nodes x.numbers s.terms (app (term_of x q i) t ∷ []) → w1 ≡ raised x.records q → q1 ≡ upped q q.goal →
        w2 ≡ removed w1 q1 i → q2 ≡ without q1 → w3 ≡ set w2 (push_place q2) (rec c s.terms) → q3 ≡ pushed q2 →
        s1 ≡ spent s s.indices 0 1 →
        Made m x s q s.indices [] (by search4 (app (term_of x q i) t ∷ [])) (second_next x q i c s.terms) (lent x.words t1 w3) s1 q3
    unfolding second_next
    second_made tested et ew eq ew2 eq2 ew3 eq3 es =
        let p = passes tested in
        let h = fields eq in
        let h2 = fields eq2 in
        let h3 = fields eq3 in
        let few : (s.formulas + 0 ≤ 65536) × (s.terms + 1 ≤ 65536) = omega (arith, p, rep.rooms) in
        let x_in = record_in.term_in in
        let goal = rep.seats.goal_in in
        made_of search4 s.indices (app (term_of x q i) t ∷ []) (second_next x q i c s.terms) rep words_none et
        (fits16 (app (term_of x q i) t) (omega arith, omega arith) tt, tt) es p.indices (omega (arith, p.formulas)) p.terms
        (replaced (omega arith) (omega arith) (omega arith) (omega arith) few (omega arith)
        (omega (arith, p.levels)) ew eq ew2 eq2 ew3 eq3)
        (omega arith) refl (ap (λ (es : List M.Entry). entry c s.terms ∷ es) (sym nothing_left)) (omega arith) (omega arith)

  -- a record that is no implication
  other_by : (k l r : ℕ) (ws : Book) → (k ≡ 5 → ⊥) → nest ws (shape_of k l r) ≡ none
  unfolding nest
  other_by k l r ws a =
      by_kind (λ sh. nest ws sh ≡ none) k l r (λ z. refl) (λ z. refl) (λ z. refl) (λ z. refl) (λ z. absurd (a z)) (λ n. refl)

  -- an implication from something else
  flat_by : (l r k l1 r1 : ℕ) → (k ≡ 5 → ⊥) → nest_left l r (shape_of k l1 r1) ≡ none
  unfolding nest_left
  flat_by l r k l1 r1 a =
      by_kind (λ sh. nest_left l r sh ≡ none) k l1 r1 (λ z. refl) (λ z. refl) (λ z. refl) (λ z. refl) (λ z. absurd (a z)) (λ n. refl)

  look_here : {S : M.State} → Shows x s S → {sh : Shape} → shape_at x.words (formula_of x q i) ≡ sh → look S.words
      (record_at x q i).formula ≡ sh
  unfolding entry_at
  look_here sh e = look_at sh record_in.formula_in e

  -- a position that is passed over
  pub skips_other : (kind_at x.words (formula_of x q i) ≡ 5 → ⊥) → (next : Next) (seen : Seen) (S : M.State) → Shows x s S → (d : ℕ) →
      trying m taken x q i next seen d S ≡ next d seen S
  unfolding try_at
  skips_other a next seen S sh d =
      let c : ℕ = formula_of x q i in
      ap (try_at (limited (limits_of m)) taken (asks m taken d) (seq_of x.records q) (records_before x q i) (record_at x q i)
      (records_from x q (suc i)) (next d) seen S)
      (ap (nest S.words) (look_here sh (shape_as x.words c refl))
      ∙ other_by (kind_at x.words c) (left_at x.words c) (right_at x.words c) S.words a)

  module _ (e : kind_at x.words (formula_of x q i) ≡ 5) where
    impl_shape : shape_at x.words (formula_of x q i) ≡ is_imp (premise_of x q i) (end_of x q i)
    unfolding shape_of
    impl_shape = shape_as x.words (formula_of x q i) e

    pub impl_in : (premise_of x q i < s.formulas) × (end_of x q i < s.formulas)
    impl_in = let b = children rep record_in.formula_in impl_shape in let c = record_in.formula_in in (omega arith, omega arith)

    nest_by : {S : M.State} → Shows x s S → {sh : Shape} → shape_at x.words (premise_of x q i) ≡ sh →
        nest S.words (look S.words (record_at x q i).formula) ≡ nest_left (premise_of x q i) (end_of x q i) sh
    unfolding nest
    nest_by {S} sh a = ap (nest S.words) (look_here sh impl_shape)
        ∙ ap (nest_left (premise_of x q i) (end_of x q i)) (look_at sh impl_in.0 a)

    pub skips_flat : (kind_at x.words (premise_of x q i) ≡ 5 → ⊥) → (next : Next) (seen : Seen) (S : M.State) → Shows x s S → (d : ℕ) →
        trying m taken x q i next seen d S ≡ next d seen S
    unfolding try_at
    skips_flat a next seen S sh d =
        let c : ℕ = premise_of x q i in
        ap (try_at (limited (limits_of m)) taken (asks m taken d) (seq_of x.records q) (records_before x q i) (record_at x q i)
        (records_from x q (suc i)) (next d) seen S)
        (nest_by sh (shape_as x.words c refl)
        ∙ flat_by c (end_of x q i) (kind_at x.words c) (left_at x.words c) (right_at x.words c) a)

    module _ (k : kind_at x.words (premise_of x q i) ≡ 5) where
      pub nested_in : (premise_of x q i < s.formulas) × (middle_of x q i < s.formulas) × (end_of x q i < s.formulas)
      unfolding shape_of
      nested_in = let b = children rep impl_in.0 (shape_as x.words (premise_of x q i) k) in let c = impl_in in
          (omega arith, omega arith, omega arith)

      module _ {a b : ℕ} (ea : a ≡ fresh taken s.indices) (eb : b ≡ fresh taken (a + 1)) where
        -- the first premise's sequent, and what is made for it
        abbrev pub first_next : M.Sequent
        first_next = record {
          unordered = records_before x q i ++ records_from x q (suc i);
          ordered = entry s.formulas (4 + s.terms) ∷ [];
          goal = premise_of x q i;
          level = suc q.level;
        }

        abbrev pub first_words : Book
        first_words = is_imp (middle_of x q i) (end_of x q i) ∷ []

        abbrev pub first_pieces : List Piece
        first_pieces = composed s.terms a (fn (name b) s.terms) (term_of x q i) s.formulas

        pub trying_by : (next : Next) (seen : Seen) (S : M.State) → Shows x s S → (d : ℕ) → trying m taken x q i next seen d S ≡
            charge (limits_of m) (b + 1) first_words (by search4 first_pieces) first_next S
            (λ S1. attempt S (asks m taken d M.by_right first_next S1) (second_try m taken x q i (end_of x q i) next seen S d)
            (λ t S2. next d (failed_first seen t) S2))
        unfolding try_at shape_of nest_left second_try second_next entry_at
        trying_by next seen S sh d =
            let g : fresh taken S.used ≡ a = ap (fresh taken) sh.used ∙ sym ea in
            let h : fresh taken (suc a) ≡ b = ap (fresh taken) (sym (add-one a)) ∙ sym eb in
            ap (try_at (limited (limits_of m)) taken (asks m taken d) (seq_of x.records q) (records_before x q i) (record_at x q i)
            (records_from x q (suc i)) (next d) seen S) (nest_by sh (shape_as x.words (premise_of x q i) k))
            ∙ rw (g, h, sh.many, words_many sh, add-one b)

        pub first_count : (q.unordered + q.ordered ≡ count first_next) × (q.level + 1 ≡ first_next.level)
        unfolding count
        first_count = let p = parted_count x q i here in (omega arith, omega arith)

        pub first_made : {f1 t1 : List ℕ} {w1 w2 w3 : List Rec} {s1 : State} {q1 q2 q3 : Sequent} →
            Tested m (Ok tt) s (b + 1) (s.formulas + 1) (s.terms + 5) (q.unordered + q.ordered) (q.level + 1) →
            f1 ≡ set x.words s.formulas (word (is_imp (middle_of x q i) (end_of x q i))) →
            t1 ≡ put_nodes x.numbers s.terms first_pieces → w1 ≡ raised x.records q → q1 ≡ upped q (premise_of x q i) →
            w2 ≡ removed w1 q1 i → q2 ≡ without q1 → w3 ≡ set w2 (push_place q2) (rec s.formulas (4 + s.terms)) → q3 ≡ pushed q2 →
            s1 ≡ spent s (b + 1) 1 5 →
            Made m x s q (b + 1) first_words (by search4 first_pieces) first_next (lent f1 t1 w3) s1 q3
        first_made t ef et ew eq ew2 eq2 ew3 eq3 es =
            let p = passes t in
            let h = fields eq in
            let h2 = fields eq2 in
            let h3 = fields eq3 in
            let few : (s.formulas + 1 ≤ 16384) × (s.terms + 5 ≤ 16384) = omega (arith, p, rep.rooms) in
            let u : b + 1 ≤ 4096 = p.indices in
            let up : a < b = omega (arith, fresh_above taken (a + 1)) in
            let x_in = record_in.term_in in
            let ins = nested_in in
            made_of search4 (b + 1) first_pieces first_next rep
            (words_imp ef (omega arith) (omega arith) (omega (arith, p.formulas, rep.rooms.words_room)) (omega arith)) et (
              fits16 (ident (name a)) tt (omega arith),
              (
                fits16 (fn _ _) (omega arith) (omega arith),
                (
                  fits16 (app _ _) (omega arith) tt,
                  (fits16 (fn _ _) (omega arith) (omega arith), (fits16 (asc _ _) (omega arith) tt, tt)),
                ),
              ),
            ) es u p.formulas p.terms
            (replaced (omega arith) (omega arith) (omega arith) (omega arith) (omega arith) (omega arith) (omega (arith, p.levels)) ew eq
            ew2 eq2 ew3 eq3)
            (omega arith) refl (ap (λ (es : List M.Entry). entry s.formulas (4 + s.terms) ∷ es) (sym nothing_left)) (omega arith)
            (omega arith)
