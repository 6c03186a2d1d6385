-- The parts that rules are made of: a charge, then a premise, a try or the last node. Each law takes what the code did and what its calls
-- mean, and says what the part means. Assumes nothing.
use Rattle.std.specs.Prelude.{Ok, Err}
use Prim.Native.Nat.{ℕ, ◌+◌, ◌≤◌, ◌<◌}
use mathlib.Core.Path.{◌≡◌, refl, sym, ap₂, subst}
use mathlib.Core.List.{List}
use native.Mathlib.Omega.{arith}
use lib.ListN.{length}
use Rattle.theory.specs.Form.{Book}
use Rattle.theory.specs.Term.{Node, Piece, Rule, node}
use Rattle.theory.specs.World.{Tree}
use Rattle.theory.specs.Meter as M
use Rattle.theory.specs.Meter.{limited, charge, and_then, attempt, count}
use Rattle.theory.specs.Search.{close, rule}
use Rattle.theory.proofs.Charges.{made, restart}
use Rattle.proof_term.proofs.NodeLaws.{Fitting}
use Rattle.meter.specs.declared.State.{State}
use Rattle.meter.specs.declared.Sequent.{Sequent}
use Rattle.meter.specs.declared.Limits.{Limits}
use Rattle.meter.specs.declared.Found.{Found}
use Rattle.meter.specs.declared.Limit.{Limit}
use Rattle.meter.specs.declared.Missed.{Missed}
use Rattle.meter.specs.declared.Missed.TheVariants.{Failed, Short}
use Rattle.meter.specs.Moves.{Answer, returned, limits_of}
use Rattle.meter.proofs.Laws.{refused}
use Rattle.search_laws.specs.Reading.{Lent, lent, seq_of, Shows}
use Rattle.search_laws.specs.Keeping.{Laid, missed_at, Rep, Within, Frame, Kept}
use Rattle.search_laws.specs.Meaning.{Comes, asks, Meets, Goes, Gives}
use Rattle.search_laws.specs.Closing.{Closes}
use Rattle.search_laws.specs.Making.{Made, Tested, Back}
use Rattle.search_laws.proofs.Same.{frame_refl, frame_less, frame_trans, rooms_after, laid_same, seats_same}
use Rattle.search_laws.proofs.Seat.{seats_more, seats_own}
use Rattle.search_laws.proofs.Combine.{comes_as, premise, then_lost, then_found, try_short, try_found, try_failed, kept_on}
use Rattle.search_laws.proofs.Charge.{charge_ok, charge_short}
use Rattle.search_laws.proofs.Making.{shows_after, close_comes, close_kept}

-- the same part, written in another way for each state that the lists show
pub gives_as : {m : Limits} {x y : Lent} {s : State} {q : Sequent} {r : Answer} (C : ℕ → M.State → M.Answer) {C1 : ℕ → M.State → M.Answer} →
    ((S : M.State) → Shows x s S → (d : ℕ) → C d S ≡ C1 d S) → Gives C1 m x s q r y → Gives C m x s q r y
gives_as C e g = record { means = λ S sh. comes_as (λ d. C d S) (e S sh) (g.means S sh); kept = g.kept }

-- a whole rule
pub goes_by : {j : M.Judgement} {m : Limits} {taken : List (List ℕ)} {x y : Lent} {s : State} {q : Sequent} {r : Answer}
    {C : ℕ → M.State → M.Answer} →
    ((S : M.State) → Shows x s S → (d : ℕ) → rule (limited (limits_of m)) taken (asks m taken d) j (seq_of x.records q) S ≡ C d S) →
    Gives C m x s q r y → Goes j m taken x s q r y
goes_by {j} {m} {taken} {x} {q = q} e g = record {
  means = λ S sh. comes_as (λ d. rule (limited (limits_of m)) taken (asks m taken d) j (seq_of x.records q) S) (e S sh) (g.means S sh);
  kept = g.kept;
}

-- a judgement asked of the same sequent at the same state
pub gives_asked : {j : M.Judgement} {m : Limits} {taken : List (List ℕ)} {x y : Lent} {s : State} {q : Sequent} {r : Answer} →
    Meets j m taken x s q r y → Gives (λ d S. asks m taken d j (seq_of x.records q) S) m x s q r y
gives_asked p = record { means = p.means; kept = p.kept }

-- the last node
pub gives_close : {m : Limits} {x : Lent} {s : State} {q : Sequent} {p : Piece} {r : Answer} {t1 : List ℕ} (rule : Rule) → Rep m x s q →
    Fitting p → Closes m x.numbers s p r t1 →
    Gives (λ d S. close (limited (limits_of m)) (node rule p) S) m x s q r (lent x.words t1 x.records)
gives_close rule rep fits c = record {
  means = λ S sh. close_comes rep.rooms fits rule sh c;
  kept = close_kept rep.rooms fits frame_refl rep.within rep.laid (omega arith) (omega arith) c;
}

-- a charge that passes a limit; c and l are the records and the level of what would come next
pub gives_short : {m : Limits} {x : Lent} {s : State} {q : Sequent} {e : Missed} {u f t c l : ℕ} (ws : Book) (ns : List Node)
    (Q : M.Sequent) (k : ℕ → M.State → M.State → M.Answer) → Tested m (Err e) s u f t c l → f ≡ s.formulas + length ws →
    t ≡ s.terms + length ns →
    c ≡ count Q → l ≡ Q.level → Within m s → Gives (λ d S. charge (limits_of m) u ws ns Q S (k d S)) m x s q (Err e) x
gives_short {m} ws ns Q k tested ef et ec el i = record {
  means = λ S sh. charge_short ws ns Q (λ d. k d S) sh tested ef et ec el;
  kept = record {
    frame = frame_refl;
    within = subst (λ (v : Missed). Within m (missed_at v)) (sym (refused (sym tested.is)).says) i;
    after = tt;
  };
}

-- what comes after it is the conclusion's
pub back_kept : {m : Limits} {x y z : Lent} {s s2 : State} {q : Sequent} {r : Answer} → Back m x s q s2 y → Kept m y s2 q r z →
    Kept m x s q r z
back_kept {r = r} b k =
    kept_on r (frame_less (omega arith) (omega arith) (omega arith) b.frame) b.formulas_up b.terms_up (omega arith) k

-- the state before a try with the indices and steps after it
pub shows_back : {m : Limits} {x y : Lent} {s : State} (s2 : State) {q : Sequent} {S : M.State} → Back m x s q (returned s s2) y →
    Shows x s S →
    Shows y (returned s s2) (restart S s2.indices s2.steps)
shows_back s2 back sh =
    let b = shows_after back.frame sh in record { words = b.words; nodes = b.nodes; many = b.many; used = refl; steps = refl }

-- the sequent, the words and the nodes of the conclusion at fills that are not lower
pub back_at : {m : Limits} {x y : Lent} {s s2 : State} {q : Sequent} → Rep m x s q → Frame x s.formulas s.terms (q.level + 1) y →
    Within m s2 → Laid y.words s2.formulas → s.formulas ≤ s2.formulas → s.terms ≤ s2.terms → Back m x s q s2 y
back_at {m} {x} {y} {s} {s2} {q} rep f within ly hf ht =
    let seats = seats_more (seats_same {l = q.level + 1} f.records (omega arith) rep.seats) hf ht in
    record {
      rep = record { rooms = rooms_after f rep.rooms; within = within; laid = ly; seats = seats_own seats };
      frame = f;
      formulas_up = hf;
      terms_up = ht;
      seq = ap₂ (λ (u o : List M.Entry). record { unordered = u; ordered = o; goal = q.goal; level = q.level })
          seats.unordered_is seats.ordered_is;
    }

-- a failed try gives its formulas and terms back, and keeps its indices and steps
pub back_returned : {m : Limits} {x y : Lent} {s s2 : State} {q : Sequent} → Rep m x s q → Frame x s.formulas s.terms (q.level + 1) y →
    Within m s2 → Back m x s q (returned s s2) y
back_returned rep f w = back_at rep f (record {
  in_steps = w.in_steps;
  in_indices = w.in_indices;
  in_formulas = rep.within.in_formulas;
  in_terms = rep.within.in_terms;
}) (laid_same f.words rep.laid) (omega arith) (omega arith)

module _ {m : Limits} {x x1 y : Lent} {s s1 : State} {q q1 : Sequent} {u : ℕ} {ws : Book} {ns : List Node} {Q : M.Sequent}
    (mk : Made m x s q u ws ns Q x1 s1 q1) where
  pub after_made : {r : Answer} → Kept m x1 s1 q1 r y → Frame x s.formulas s.terms q1.level y
  after_made k = frame_trans mk.formulas_up mk.terms_up (omega arith) mk.frame k.frame

  pub made_kept : {r : Answer} → Kept m x1 s1 q1 r y → Kept m x s q r y
  made_kept {r} k = kept_on r (frame_less (omega arith) (omega arith) mk.level_up mk.frame) mk.formulas_up mk.terms_up
      mk.level_up k

  module _ (rep : Rep m x s q) (up : q.level < q1.level) where
    pub back_found : {f : Found} → Kept m x1 s1 q1 (Ok f) y → Back m x s q f.state y
    back_found k =
        back_at rep (frame_less (omega arith) (omega arith) (omega arith) (after_made k)) k.within k.after.laid
        (omega (arith, mk.formulas_up, k.after.formulas_up)) (omega (arith, mk.terms_up, k.after.terms_up))

    pub back_failed : {s2 : State} → Kept m x1 s1 q1 (Err (Failed s2)) y → Back m x s q (returned s s2) y
    back_failed k = back_returned rep (frame_less (omega arith) (omega arith) (omega arith) (after_made k)) k.within

-- a charge paid, and the rest
pub paid : {m : Limits} {x x1 z : Lent} {s s1 : State} {q q1 : Sequent} {u : ℕ} {ws : Book} {ns : List Node} {Q : M.Sequent} {r : Answer}
    {S : M.State} → Made m x s q u ws ns Q x1 s1 q1 → (k : ℕ → M.State → M.Answer) → Shows x s S → Comes z r (λ d. k d (made S u ws ns)) →
    Comes z r (λ d. charge (limits_of m) u ws ns Q S (k d))
paid {m} {u = u} {ws} {ns} {Q} {S = S} mk k sh c =
    comes_as (λ d. charge (limits_of m) u ws ns Q S (k d)) (λ d. charge_ok m u ws ns Q S (k d) (mk.room S sh)) c

module _ {j : M.Judgement} {m : Limits} {taken : List (List ℕ)} {x x1 y : Lent} {s s1 : State} {q q1 : Sequent} {u : ℕ} {ws : Book}
    {ns : List Node} {Q : M.Sequent} (mk : Made m x s q u ws ns Q x1 s1 q1) where
  pub asks_made : {r : Answer} → Meets j m taken x1 s1 q1 r y → {S : M.State} → Shows x s S → Comes y r
      (λ d. asks m taken d j Q (made S u ws ns))
  asks_made p {S} sh = premise p mk.next (mk.shows S sh)

  -- a charge and a premise whose answer is the rule's
  pub gives_on : {r : Answer} → Meets j m taken x1 s1 q1 r y →
      Gives (λ d S. charge (limits_of m) u ws ns Q S (λ S1. asks m taken d j Q S1)) m x s q r y
  gives_on p = record { means = λ S sh. paid mk (λ d S1. asks m taken d j Q S1) sh (asks_made p sh); kept = made_kept mk p.kept }

  module _ (k : ℕ → ℕ → M.State → M.Answer) where
    -- a premise that is not found ends the rule
    pub gives_lost : {e : Missed} → Meets j m taken x1 s1 q1 (Err e) y →
        Gives (λ d S. charge (limits_of m) u ws ns Q S (λ S1. and_then (asks m taken d j Q S1) (k d))) m x s q (Err e) y
    gives_lost p = record {
      means = λ S sh. paid mk (λ d S1. and_then (asks m taken d j Q S1) (k d)) sh (then_lost k (asks_made p sh));
      kept = made_kept mk p.kept;
    }

    -- a premise that is found, and the rest of the rule
    pub gives_found : {f : Found} {r : Answer} {z : Lent} → Rep m x s q → q.level < q1.level →
        Meets j m taken x1 s1 q1 (Ok f) y → Gives (λ d S. k d f.node S) m y f.state q r z →
        Gives (λ d S. charge (limits_of m) u ws ns Q S (λ S1. and_then (asks m taken d j Q S1) (k d))) m x s q r z
    gives_found rep up p g = record {
      means = λ S sh. paid mk (λ d S1. and_then (asks m taken d j Q S1) (k d)) sh (then_found k (asks_made p sh) g.means);
      kept = back_kept (back_found mk rep up p.kept) g.kept;
    }

  -- what a try goes on with may look back at the state before it
  module _ (k : M.State → ℕ → ℕ → M.State → M.Answer) (o : M.State → ℕ → Tree → M.State → M.Answer) where
    -- a try that runs short
    pub gives_try_short : {n : Limit} {s2 : State} → Meets j m taken x1 s1 q1 (Err (Short n s2)) y →
        Gives (λ d S. charge (limits_of m) u ws ns Q S (λ S1. attempt S (asks m taken d j Q S1) (k S d) (o S d))) m x s q
        (Err (Short n s2)) y
    gives_try_short p = record {
      means = λ S sh. paid mk (λ d S1. attempt S (asks m taken d j Q S1) (k S d) (o S d)) sh (try_short S (k S) (o S) (asks_made p sh));
      kept = made_kept mk p.kept;
    }

    -- a try that is found, and the rest
    pub gives_try_found : {f : Found} {r : Answer} {z : Lent} → Rep m x s q → q.level < q1.level →
        Meets j m taken x1 s1 q1 (Ok f) y → Kept m y f.state q r z →
        ((S : M.State) → Shows x s S → (S2 : M.State) → Shows y f.state S2 → Comes z r (λ d. k S d f.node S2)) →
        Gives (λ d S. charge (limits_of m) u ws ns Q S (λ S1. attempt S (asks m taken d j Q S1) (k S d) (o S d))) m x s q r z
    gives_try_found rep up p kept g = record {
      means = λ S sh. paid mk (λ d S1. attempt S (asks m taken d j Q S1) (k S d) (o S d)) sh
          (try_found S (k S) (o S) (asks_made p sh) (g S sh));
      kept = back_kept (back_found mk rep up p.kept) kept;
    }

    -- a try that fails, and what comes after it, whatever its tree of worlds
    pub gives_try_failed : {s2 : State} {r : Answer} {z : Lent} → Rep m x s q → q.level < q1.level →
        Meets j m taken x1 s1 q1 (Err (Failed s2)) y → Kept m y (returned s s2) q r z →
        ((S : M.State) → Shows y (returned s s2) (restart S s2.indices s2.steps) → (K : Tree) →
        Comes z r (λ d. o S d K (restart S s2.indices s2.steps))) →
        Gives (λ d S. charge (limits_of m) u ws ns Q S (λ S1. attempt S (asks m taken d j Q S1) (k S d) (o S d))) m x s q r z
    gives_try_failed {s2} rep up p kept g = record {
      means = λ S sh. paid mk (λ d S1. attempt S (asks m taken d j Q S1) (k S d) (o S d)) sh
          (try_failed S (k S) (o S) (asks_made p sh) (g S (shows_back s2 back sh)));
      kept = back_kept back kept;
    }
      where
        back : Back m x s q (returned s s2) y
        back = back_failed mk rep up p.kept
