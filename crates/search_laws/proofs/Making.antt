-- What the code makes for one charge, taken together: the lists still stand for theory's state and for the sequent that comes next.
-- And the last node of a rule. Assumes nothing.
use Prim.Native.Nat.{ℕ, suc, ◌+◌, ◌*◌, ◌≤◌}
use mathlib.Core.Path.{◌≡◌, refl, sym, ap, ap₂, ◌∙◌, subst}
use mathlib.Core.List.{List, [], ◌∷◌, ◌++◌}
use native.Mathlib.Omega.{arith}
use lib.ListN.{length, length-append}
use borrow.Author.Tests.{le-leb, lt-leb}
use Rattle.theory.specs.Form.{Book}
use Rattle.theory.specs.Term.{Piece, Rule, Node, node, by}
use Rattle.theory.specs.Layout.{node_width}
use Rattle.theory.specs.Meter as M
use Rattle.theory.specs.Meter.{limited, fits, count, spend}
use Rattle.theory.specs.Search.{close}
use Rattle.proof_term.proofs.NodeLaws.{Fitting}
use Rattle.meter.specs.declared.State.{State}
use Rattle.meter.specs.declared.Sequent.{Sequent}
use Rattle.meter.specs.declared.Limits.{Limits}
use Rattle.meter.specs.Moves.{Answer, most, spent, limits_of, limit_of}
use Rattle.context.specs.Area.{Rec}
use Rattle.search_laws.specs.Reading.{Lent, lent, book, seq_of, Shows, put_nodes}
use Rattle.search_laws.specs.Keeping.{Laid, Rooms, Within, Rep, Frame, Kept}
use Rattle.search_laws.specs.Meaning.{says_found, says_short, Comes}
use Rattle.search_laws.specs.Closing.{Closes, closes_short, closes_node}
use Rattle.search_laws.specs.Making.{Made}
use Rattle.search_laws.proofs.Same.{same_refl, book_same, take_same, frame_trans, rooms_after}
use Rattle.search_laws.proofs.Seat.{unordered_length, ordered_length, seats_own}
use Rattle.search_laws.proofs.Areas.{Area}
use Rattle.search_laws.proofs.Write.{put_same, put_more, AllFit, Words}
use Rattle.search_laws.proofs.Combine.{comes_now}
use Rattle.search_laws.proofs.Charge.{words_many}

pub by_length_lem : (r : Rule) (ps : List Piece) → length (by r ps) ≡ length ps
by_length_lem r [] = refl
by_length_lem r (p ∷ ps) = ap suc (by_length_lem r ps)

-- lists that agree below the fills show the same state
pub shows_after : {x y : Lent} {s : State} {S : M.State} {l : ℕ} → Frame x s.formulas s.terms l y → Shows x s S → Shows y s S
shows_after f sh = record {
  words = sh.words ∙ sym (book_same f.words);
  nodes = sh.nodes ∙ sym (take_same f.numbers);
  many = sh.many;
  used = sh.used;
  steps = sh.steps;
}

-- nodes at the fill are as many more
many_more : (ns : List Node) (r : Rule) (ps : List Piece) {nt : ℕ} → length ns ≡ nt → length (ns ++ by r ps) ≡ nt + length ps
many_more ns r ps e = length-append ns (by r ps) ∙ omega (arith, by_length_lem r ps)

-- how many records a sequent has
pub count_seq : (w : List Rec) (q : Sequent) → count (seq_of w q) ≡ q.unordered + q.ordered
unfolding count
count_seq w q = ap₂ (λ (a b : ℕ). a + b) (unordered_length w q.level q.unordered) (ordered_length w q.level q.ordered)

-- words, nodes and contexts, each in its own list
pub made_of : {m : Limits} {x : Lent} {s : State} {q : Sequent} {ws : Book} {f1 t1 : List ℕ} {w1 : List Rec} {s1 : State} {q1 : Sequent}
    {us os : List M.Entry} (rule : Rule) (u : ℕ) (ps : List Piece) (Q : M.Sequent) → Rep m x s q → Words x.words s.formulas ws f1 →
    t1 ≡ put_nodes x.numbers s.terms ps → AllFit ps → s1 ≡ spent s u (length ws) (length ps) → u ≤ most →
    s.formulas + length ws ≤ m.formulas → s.terms + length ps ≤ m.terms →
    Area m (s.formulas + length ws) (s.terms + length ps) q1.level x.records w1 q1 us os → q.level ≤ q1.level →
    Q.unordered ≡ us → Q.ordered ≡ os → Q.goal ≡ q1.goal → Q.level ≡ q1.level →
    Made m x s q u ws (by rule ps) Q (lent f1 t1 w1) s1 q1
made_of {m} {x} {s} {q} {ws} {f1} {t1} {w1} {s1} {q1} {us} {os} rule u ps Q rep wo et fitting es hu hf ht area lv eu eo eg el =
    subst (λ (v : State). Made m x s q u ws (by rule ps) Q (lent f1 t1 w1) v q1) (sym es)
    (subst (λ (t : List ℕ). Made m x s q u ws (by rule ps) Q (lent f1 t w1) (spent s u (length ws) (length ps)) q1) (sym et) all)
  where
    y : Lent
    y = lent f1 (put_nodes x.numbers s.terms ps) w1

    frame : Frame x s.formulas s.terms q1.level y
    frame = record { words = wo.same; numbers = put_same x.numbers s.terms ps; records = area.same }

    seq : Q ≡ seq_of w1 q1
    seq =
        ap₂ (λ (g l : ℕ). record { unordered = Q.unordered; ordered = Q.ordered; goal = g; level = l }) eg el
        ∙ ap₂ (λ (u o : List M.Entry). record { unordered = u; ordered = o; goal = q1.goal; level = q1.level })
        (eu ∙ sym area.seats.unordered_is) (eo ∙ sym area.seats.ordered_is)

    counted : count Q ≡ q1.unordered + q1.ordered
    counted = ap count seq ∙ count_seq w1 q1

    room6 : (s.terms + length ps) * node_width ≤ length x.numbers
    room6 = omega (arith, rep.rooms.numbers_room)

    all : Made m x s q u ws (by rule ps) Q y (spent s u (length ws) (length ps)) q1
    all = record {
      rep = record {
        rooms = rooms_after frame rep.rooms;
        within = record { in_steps = rep.within.in_steps; in_indices = hu; in_formulas = hf; in_terms = ht };
        laid = wo.laid rep.laid;
        seats = seats_own area.seats;
      };
      frame = frame;
      formulas_up = omega arith;
      terms_up = omega arith;
      level_up = lv;
      next = seq;
      books = wo.books;
      shows = λ S sh. record {
        words = ap (λ (b : Book). b ++ ws) sh.words ∙ sym wo.books;
        nodes = put_more rule x.numbers s.terms ps S.nodes fitting room6 sh.nodes;
        many = many_more S.nodes rule ps sh.many;
        used = refl;
        steps = sh.steps;
      };
      room = λ S sh. record {
        indices = hu;
        formulas = omega (arith, words_many sh);
        terms = omega (arith, sh.many, by_length_lem rule ps);
        contexts = omega (arith, counted, area.seats.fits);
        levels = omega (arith, area.seats.level_in, el);
      };
    }

module _ {m : Limits} {x : Lent} {s : State} {p : Piece} (rooms : Rooms m x) (fitting : Fitting p) where
  -- the last node of a rule is what theory's rule ends with
  pub close_comes : {S : M.State} (rule : Rule) → Shows x s S → {r : Answer} {t1 : List ℕ} → Closes m x.numbers s p r t1 →
      Comes (lent x.words t1 x.records) r (λ d. close (limited (limits_of m)) (node rule p) S)
  unfolding close spend fits limit_of
  close_comes {S} rule sh (closes_short h) = comes_now (λ d. close (limited (limits_of m)) (node rule p) S)
      (λ d. rw (spend, lt-leb (length S.nodes + 1) m.terms (omega (arith, sh.many)))) (says_short M.Terms refl sh.steps)
  close_comes {S} rule sh (closes_node h) = comes_now (λ d. close (limited (limits_of m)) (node rule p) S)
      (λ d. rw (spend, le-leb (length S.nodes + 1) m.terms (omega (arith, sh.many)))
      (ap (λ (i : ℕ). M.found i (record { words = S.words; nodes = S.nodes ++ (node rule p ∷ []); used = S.used; steps = S.steps }))
      sh.many))
      (says_found (record {
        words = sh.words ∙ ap (book x.words) (omega arith);
        nodes = put_more rule x.numbers s.terms (p ∷ []) S.nodes (fitting, tt) (omega (arith, rooms.numbers_room)) sh.nodes;
        many = many_more S.nodes rule (p ∷ []) sh.many;
        used = sh.used;
        steps = sh.steps;
      }))

  -- and it leaves alone what was there
  pub close_kept : {x0 : Lent} {s0 : State} {q : Sequent} → Frame x0 s0.formulas s0.terms q.level x → Within m s →
      Laid x.words s.formulas → s0.formulas ≤ s.formulas → s0.terms ≤ s.terms → {r : Answer} {t1 : List ℕ} →
      Closes m x.numbers s p r t1 → Kept m x0 s0 q r (lent x.words t1 x.records)
  close_kept fr within ly hf ht (closes_short h) = record { frame = fr; within = within; after = tt }
  close_kept {q = q} fr within ly hf ht (closes_node h) = record {
    frame = frame_trans {l1 = q.level} hf ht (omega arith) fr
        (record { words = same_refl; numbers = put_same x.numbers s.terms (p ∷ []); records = same_refl });
    within = record {
      in_steps = within.in_steps;
      in_indices = within.in_indices;
      in_formulas = omega (arith, within.in_formulas);
      in_terms = h;
    };
    after = record {
      laid = λ i u. ly i (omega arith);
      formulas_up = omega arith;
      terms_up = omega arith;
      root_in = omega arith;
    };
  }
