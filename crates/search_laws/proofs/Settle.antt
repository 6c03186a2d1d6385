-- Search's rules 1 and 2 as the code comes to them: the goal's leaf is present, nothing fires, a shortage, or all that fire.
-- Assumes nothing.
use Rattle.std.specs.Prelude.{Ok, Err}
use Prim.Native.Nat.{ℕ, suc, ◌+◌, ◌*◌, ◌≤◌, ◌<◌}
use mathlib.Core.Path.{◌≡◌, refl, sym, ap, ap₂, ◌∙◌, subst}
use mathlib.Core.Option.{Option, none, some}
use mathlib.Core.List.{List, [], ◌∷◌, ◌++◌}
use native.Mathlib.Omega.{arith}
use lib.ListN.{length, get_or, take}
use Rattle.theory.specs.Form.{Book, Ext, Form, form, Shape, is_top, is_bot, is_leaf, is_and, is_or, is_imp, look}
use Rattle.theory.specs.Term.{Node, search2}
use Rattle.theory.specs.Premise.{question, Fires, forms_of, size_of}
use Rattle.theory.specs.Premise as P
use Rattle.theory.specs.Meter as M
use Rattle.theory.specs.Meter.{limited, charge, count}
use Rattle.theory.specs.Search.{Fired, fire, go_on, fire_or, rule2, on_search, rule}
use Rattle.theory.proofs.Smaller.{smaller}
use Rattle.theory.proofs.Forms.{ext_by, at_ext}
use Rattle.theory.proofs.Context.{Reads, reads_ext}
use Rattle.theory.proofs.Context as Context
use Rattle.theory.proofs.Fire.{FiredAs, fire_as}
use Rattle.theory.proofs.Falling.{firing_counts, fire_splits}
use Rattle.meter.specs.declared.State.{State}
use Rattle.meter.specs.declared.Sequent.{Sequent}
use Rattle.meter.specs.declared.Limits.{Limits}
use Rattle.meter.specs.declared.Missed.{Missed}
use Rattle.meter.specs.Moves.{spent, limits_of}
use Rattle.context.specs.Moves.{stretch}
use Rattle.context.specs.Area.{Rec, formula_at, term_at}
use Rattle.context.specs.Area as Area
use Rattle.search_laws.specs.Tables.{downto}
use Rattle.search_laws.specs.Reading.{Lent, lent, shape_at, book, entry_at, unordered_in, ordered_in, seq_of, Shows}
use Rattle.search_laws.specs.Keeping.{Same, Rep}
use Rattle.search_laws.specs.Meaning.{says_found, asks, Goes}
use Rattle.search_laws.specs.Making.{Tested, Passes, Made}
use Rattle.search_laws.specs.Turning.{GoesLeft, Tries}
use Rattle.search_laws.specs.Leaves.{leaf_place, firing_in, pieces, fired_all, Fell}
use Rattle.search_laws.proofs.Same.{frame_refl}
use Rattle.search_laws.proofs.Look.{look_at}
use Rattle.search_laws.proofs.Leaf.{leaf_of, term_in, leaf_place_lem, term_in_lem, term_out}
use Rattle.search_laws.proofs.Write.{AllFit, words_none}
use Rattle.search_laws.proofs.Charge.{passes}
use Rattle.search_laws.proofs.Making.{made_of}
use Rattle.search_laws.proofs.FiredFit.{Small, small_upto, fired_fit}
use Rattle.search_laws.proofs.Firing.{pieces_fired}
use Rattle.search_laws.proofs.Fires.{firing_counted}
use Rattle.search_laws.proofs.Seat.{unordered_length, seats_more}
use Rattle.search_laws.proofs.Falls.{book_of, book_good, ReadsAs, reads_unordered, at_index, falls_made}
use Rattle.search_laws.proofs.Branch.{goes_by, gives_short, gives_on}

-- rule 1 by the shape of the goal: its leaf's term, if it is one and stands there
search_by : (L : M.Limits) (taken : List (List ℕ)) (ask : M.Ask M.Answer) (Q : M.Sequent) (S : M.State) (sh : Shape) →
    on_search (limited L) taken ask Q S sh ≡
    elim (leaf_of S.words Q.unordered sh) [ some t ↦ M.found t S | none ↦ rule2 (limited L) taken ask Q S ]
unfolding on_search leaf_of
search_by L taken ask Q S is_top = refl
search_by L taken ask Q S is_bot = refl
search_by L taken ask Q S (is_leaf k y) = refl
search_by L taken ask Q S (is_and l r) = refl
search_by L taken ask Q S (is_or l r) = refl
search_by L taken ask Q S (is_imp l r) = refl

pieces_length : (ns : List Node) → length (pieces ns) ≡ length ns
unfolding pieces
pieces_length [] = refl
pieces_length (n ∷ ns) = ap suc (pieces_length ns)

module _ {m : Limits} (taken : List (List ℕ)) {x : Lent} {s : State} {q : Sequent} (rep : Rep m x s q) where
  inside : (i : ℕ) → i < q.unordered → formula_at x.records (q.level * stretch + i) < s.formulas
  inside i h = (rep.seats.unordered_inside i h).formula_in

  -- the place of the goal's leaf
  goal_place : ℕ
  goal_place = leaf_place x.words x.records q.level q.unordered (get_or x.words q.goal 0)

  found_in : (S : M.State) → Shows x s S → (d : ℕ) →
      rule (limited (limits_of m)) taken (asks m taken d) M.by_search (seq_of x.records q) S ≡
      elim (term_in x.records q.level q.unordered goal_place) [
        | some t ↦ M.found t S
        | none ↦ rule2 (limited (limits_of m)) taken (asks m taken d) (seq_of x.records q) S
      ]
  unfolding rule goal_place shape_at
  found_in S sh d =
      search_by (limits_of m) taken (asks m taken d) (seq_of x.records q) S (look S.words q.goal)
      ∙ ap (λ (o : Option ℕ).
      elim o [ some t ↦ M.found t S | none ↦ rule2 (limited (limits_of m)) taken (asks m taken d) (seq_of x.records q) S ])
      (ap₂ (λ (ws : Book) (z : Shape). leaf_of ws (unordered_in x.records q.level q.unordered) z) sh.words
      (look_at sh rep.seats.goal_in refl)
      ∙ leaf_place_lem x.words s.formulas rep.laid x.records q.level q.unordered inside (take q.goal x.words)
      (get_or x.words q.goal 0) (rep.laid q.goal rep.seats.goal_in))

  -- rule 1: the first one's term
  pub settle_leaf : {j : ℕ} → j ≡ leaf_place x.words x.records q.level q.unordered (get_or x.words q.goal 0) → j <
      q.unordered →
      {t : ℕ} → t ≡ term_at x.records (q.level * stretch + j) → Goes M.by_search m taken x s q (Ok (record { node = t; state = s })) x
  unfolding goal_place
  settle_leaf {j} ej h {t} et = record {
    means = λ S sh. record {
      answer = M.found t S;
      depth = 0;
      settles = λ d k. found_in S sh d
          ∙ ap (λ (o : Option ℕ). elim o [
            | some t ↦ M.found t S
            | none ↦ rule2 (limited (limits_of m)) taken (asks m taken d)
                (seq_of x.records q) S
          ])
          (ap (term_in x.records q.level q.unordered) (sym ej) ∙ term_in_lem x.records q.level q.unordered j h)
          ∙ ap (λ (c : ℕ). M.found c S) (sym et);
      says = says_found sh;
    };
    kept = record {
      frame = frame_refl;
      within = rep.within;
      after = record {
        laid = rep.laid;
        formulas_up = omega arith;
        terms_up = omega arith;
        root_in = omega (arith, et, (rep.seats.unordered_inside j h).term_in);
      };
    };
  }

  module _ (absent : q.unordered ≤ leaf_place x.words x.records q.level q.unordered (get_or x.words q.goal 0)) where
    fired : Fired
    fired = fired_all x.words s.formulas s.terms x.records q

    -- rule 2 on the decoded lists
    second : (S : M.State) → Shows x s S → (d : ℕ) →
        rule (limited (limits_of m)) taken (asks m taken d) M.by_search (seq_of x.records q) S ≡
        fire_or (limited (limits_of m)) taken (asks m taken d) (seq_of x.records q) S fired fired.new
    unfolding goal_place rule2 fired
    second S sh d =
        found_in S sh d
        ∙ ap (λ (o : Option ℕ).
        elim o [ some t ↦ M.found t S | none ↦ rule2 (limited (limits_of m)) taken (asks m taken d) (seq_of x.records q) S ])
        (term_out x.records q.level q.unordered goal_place absent)
        ∙ ap₂ (λ (ws : Book) (n : ℕ).
        fire_or (limited (limits_of m)) taken (asks m taken d) (seq_of x.records q) S
        (fire ws (unordered_in x.records q.level q.unordered) n (unordered_in x.records q.level q.unordered))
        (fire ws (unordered_in x.records q.level q.unordered) n (unordered_in x.records q.level q.unordered)).new)
        sh.words sh.many

    -- as many as the code counted
    new_many : length fired.new ≡ firing_in x.words x.records q.level q.unordered q.unordered
    unfolding fired unordered_in
    new_many =
        (firing_counts (book x.words s.formulas) us us s.terms).new
        ∙ sym (firing_counted x.words s.formulas rep.laid (omega (arith, rep.rooms.words_room, rep.within.in_formulas))
        x.records
        q.level q.unordered inside q.unordered (omega arith))
      where
        us : List M.Entry
        us = unordered_in x.records q.level q.unordered

    -- nothing fires: the tries
    pub settle_try : {c : ℕ} → c ≡ firing_in x.words x.records q.level q.unordered q.unordered → c ≡ 0 → q.ordered ≡ 0 →
        Tries m taken x s q
    unfolding fire_or
    settle_try {c} ec z no_more = record {
      none = no_more;
      carries = λ r y g. goes_by (λ S sh d. second S sh d
          ∙ ap (fire_or (limited (limits_of m)) taken (asks m taken d) (seq_of x.records q) S fired)
          (empty fired.new (omega (arith, new_many)))) g;
    }
      where
        empty : (es : List M.Entry) → length es ≡ 0 → es ≡ []
        empty [] h = refl
        empty (e ∷ es) h = absurd (omega arith)

    -- what comes next
    next : M.Sequent
    next = go_on (seq_of x.records q) fired.kept fired.new

    next_count : q.ordered ≡ 0 → count next ≡ q.unordered
    unfolding next go_on count fired
    next_count no_more =
        fire_splits (book x.words s.formulas) us s.terms us ∙ unordered_length x.records q.level q.unordered
      where
        us : List M.Entry
        us = unordered_in x.records q.level q.unordered

    module _ {c : ℕ} (ec : c ≡ firing_in x.words x.records q.level q.unordered q.unordered) (some_fire : c ≡ 0 → ⊥)
        (no_more : q.ordered ≡ 0) where
      nodes_many : length fired.nodes ≡ c
      unfolding fired
      nodes_many =
          (firing_counts (book x.words s.formulas) us us s.terms).nodes
          ∙ sym (firing_counts (book x.words s.formulas) us us s.terms).new ∙ new_many ∙ sym ec
        where
          us : List M.Entry
          us = unordered_in x.records q.level q.unordered

      charged : (S : M.State) → Shows x s S → (d : ℕ) →
          rule (limited (limits_of m)) taken (asks m taken d) M.by_search (seq_of x.records q) S ≡
          charge (limits_of m) s.indices [] fired.nodes next S (λ S1. asks m taken d M.by_left next S1)
      unfolding fire_or next
      charged S sh d = second S sh d ∙ go fired.new (omega (arith, new_many)) ∙
          ap (λ (u : ℕ). charge (limits_of m) u [] fired.nodes next S (λ S1. asks m taken d M.by_left next S1)) sh.used
        where
          go : (es : List M.Entry) → 0 < length es →
              fire_or (limited (limits_of m)) taken (asks m taken d) (seq_of x.records q) S fired es ≡
              charge (limits_of m) S.used [] fired.nodes next S (λ S1. asks m taken d M.by_left next S1)
          go [] h = absurd (omega arith)
          go (e ∷ es) h = refl

      -- no room for their nodes
      pub settle_short : {e : Missed} → Tested m (Err e) s s.indices s.formulas (s.terms + c) q.unordered q.level →
          Goes M.by_search m taken x s q (Err e) x
      unfolding next go_on
      settle_short t = goes_by charged (gives_short [] fired.nodes next _ t (omega arith) (omega (arith, nodes_many))
          (sym (next_count no_more))
          refl rep.within)

      -- all fire together: left goes on with a smaller sequent
      pub settle_goes : Tested m (Ok tt) s s.indices s.formulas (s.terms + c) q.unordered q.level →
          {t1 : List ℕ} {w1 : List Rec} {s1 : State} {q1 : Sequent} → s1 ≡ spent s s.indices 0 c →
          Fell m x.words s.formulas s.terms x.numbers x.records q t1 w1 q1 →
          GoesLeft M.by_search m taken x s q (lent x.words t1 w1) s1 q1
      unfolding fired next go_on ordered_in downto unordered_in entry_at
      settle_goes t {t1} {w1} {s1} {q1} es fell = record {
        rep = made.rep;
        carries = λ r y p. goes_by charged (gives_on made p);
        less = falls_made M.by_search M.by_left made before after (fewer gone.new_reads (omega (arith, new_many)) gone.fires);
      }
        where
          B : Book
          B = book_of x s

          us : List M.Entry
          us = unordered_in x.records q.level q.unordered

          small : Small us
          small = small_upto (λ i. entry_at x.records (q.level * stretch + i)) q.unordered
              (λ i h. omega (arith, (rep.seats.unordered_inside i h).term_in, rep.within.in_terms, rep.rooms.most_terms))

          fits : AllFit (pieces fired.nodes)
          fits = fired_fit B (book_good rep) us small (reads_unordered rep) small s.terms

          p : Passes m s.indices s.formulas (s.terms + c) q.unordered q.level
          p = passes t

          many : length (pieces fired.nodes) ≡ c
          many = pieces_length fired.nodes ∙ nodes_many

          made : Made m x s q s.indices [] fired.nodes next (lent x.words t1 w1) s1 q1
          made = subst (λ (ns : List Node). Made m x s q s.indices [] ns next (lent x.words t1 w1) s1 q1)
              (pieces_fired B us s.terms us)
              (made_of search2 s.indices (pieces fired.nodes) next rep words_none fell.numbers fits
              (es ∙ ap (spent s s.indices 0) (sym many)) p.indices (omega (arith, p.formulas)) (omega (arith, p.terms, many))
              (record {
                same = subst (λ (l : ℕ). Same Area.zeroed (l * stretch) x.records w1) (sym fell.level) fell.lower;
                room = omega (arith, rep.rooms.records_room, fell.lower.long);
                seats = seats_more fell.seats (omega arith) (omega (arith, many, nodes_many));
              })
              (omega (arith, fell.level)) refl refl (sym fell.goal) (sym fell.level))

          gone : FiredAs B (book_good rep) (forms_of B us) (fire B us s.terms us)
          gone = fire_as B (book_good rep) (reads_unordered rep) us s.terms

          more : Ext B (B ++ [])
          more = ext_by B []

          before : ReadsAs B (seq_of x.records q) (forms_of B us) [] (form B q.goal)
          before = record {
            unordered = reads_unordered rep;
            ordered = subst (λ (k : ℕ). Reads B (ordered_in x.records q.level k) []) (sym no_more) Context.no_more;
            goal = at_index rep rep.seats.goal_in;
          }

          after : ReadsAs (B ++ []) next gone.kept_as gone.new_as (form B q.goal)
          after = record {
            unordered = reads_ext more gone.kept_reads;
            ordered = reads_ext more gone.new_reads;
            goal = at_ext more (at_index rep rep.seats.goal_in);
          }

          fewer : {es : List M.Entry} {Y Z : List Form} → Reads B es Z → 0 < length es → Fires (forms_of B us) Y Z →
              size_of (question M.by_left Y Z (form B q.goal)) < size_of (question M.by_search (forms_of B us) [] (form B q.goal))
          fewer Context.no_more h f = absurd (omega arith)
          fewer (Context.and_more a r) h f = smaller (P.search2 f)
