-- The walk by falling position, as the code's loop meets it: what it starts from, and one record on. Assumes nothing.
use Prim.Native.Nat.{ℕ, ◌+◌, ◌-◌, ◌*◌, ◌≤◌, ◌<◌}
use mathlib.Core.Path.{◌≡◌, sym, ap, ◌∙◌, subst}
use mathlib.Core.List.{List, []}
use native.Mathlib.Omega.{arith}
use lib.ListN.{length, set, length-append}
use Rattle.std.specs.Prelude.{Ok}
use Rattle.theory.specs.Term.{app, six_of}
use Rattle.theory.specs.Search.{fire}
use Rattle.proof_term.specs.Put.{put_node}
use Rattle.meter.specs.declared.State.{State}
use Rattle.meter.specs.declared.Sequent.{Sequent}
use Rattle.meter.specs.declared.Limits.{Limits}
use Rattle.context.specs.Moves.{stretch, pushed, without}
use Rattle.context.specs.Area.{Rec, rec, formula_at, term_at, removed, push_place}
use Rattle.search_laws.specs.Tables.{downto}
use Rattle.search_laws.specs.Reading.{lent, right_at, book, unordered_in, ordered_in}
use Rattle.search_laws.specs.Keeping.{Laid, Seats, Rep}
use Rattle.search_laws.specs.Leaves.{fires_by, firing_in, MayFire, Fell}
use Rattle.search_laws.specs.Making.{Tested}
use Rattle.theory.proofs.Falling.{firing}
use Rattle.search_laws.proofs.Charge.{passes}
use Rattle.search_laws.proofs.Seat.{unordered_length}
use Rattle.search_laws.proofs.Fires.{firing_counted}
use Rattle.search_leaves.proofs.Walk.{firing_few}
use Rattle.search_laws.proofs.Firing.{last_node, FallenTo, fall_starts, fall_past, fall_fires, fall_ends, fall_next}

-- a number above 0 is one more than the one before it
pub before_one : {k : ℕ} → 0 < k → k ≡ k - 1 + 1
before_one h = omega arith

-- what the walk starts from
pub record Start (m : Limits) (f : List ℕ) (nf base : ℕ) (w0 : List Rec) (q : Sequent) (end : ℕ) : Type 0 where
  pub laid : Laid f nf
  pub long : nf ≤ length f
  pub few : nf ≤ 65536
  pub room : (m.levels + 1) * stretch ≤ length w0
  pub levels : m.levels < 256
  pub few_nodes : last_node f nf base w0 q ≤ 65536
  pub last : end ≡ last_node f nf base w0 q
  pub seats : Seats m nf base w0 q (unordered_in w0 q.level q.unordered) []

-- all of it holds where the code starts
pub start_of : {m : Limits} {f t : List ℕ} {w : List Rec} {s : State} {q : Sequent} {end : ℕ} → MayFire m (lent f t w) s q end →
    Start m f s.formulas s.terms w q end
unfolding ordered_in unordered_in downto
start_of {m} {f} {t} {w} {s} {q} x =
    let rep = x.rep in
    let long : s.formulas ≤ length f = omega (arith, rep.rooms.words_room, rep.within.in_formulas) in
    let same : firing_in f w q.level q.unordered q.unordered ≡
    firing (book f s.formulas) (unordered_in w q.level q.unordered) (unordered_in w q.level q.unordered) =
    firing_counted f s.formulas rep.laid long w q.level q.unordered (λ i h. (rep.seats.unordered_inside i h).formula_in)
    q.unordered (omega arith) in
    record {
      laid = rep.laid;
      long = long;
      few = omega (arith, rep.rooms.most_formulas, rep.within.in_formulas);
      room = rep.rooms.records_room;
      levels = rep.rooms.most_levels;
      few_nodes = omega (arith, x.last, x.few);
      last = omega (arith, x.last);
      seats = subst (λ (c : ℕ). Seats m s.formulas s.terms w q (unordered_in w q.level q.unordered) (ordered_in w q.level c))
          x.none rep.seats;
    }

module _ {m : Limits} {f : List ℕ} {nf base : ℕ} {w0 : List Rec} {q : Sequent} {end : ℕ} (st : Start m f nf base w0 q end) where
  pub walk_starts : (t0 : List ℕ) → FallenTo m f nf base t0 w0 q q.unordered end t0 w0 q
  walk_starts t0 =
      subst (λ (n : ℕ). FallenTo m f nf base t0 w0 q q.unordered n t0 w0 q) (sym st.last)
      (fall_starts m f nf st.laid st.long st.few base t0 w0 st.room q st.few_nodes st.seats)

  module _ {t0 : List ℕ} where
    -- what the code's functions ask of the sequent on the way
    pub walk_fits : {k n : ℕ} {t : List ℕ} {w : List Rec} {p : Sequent} → FallenTo m f nf base t0 w0 q k n t w p →
        (p.level < 256) × (p.unordered + p.ordered ≤ stretch) × (k ≤ p.unordered) × ((p.level + 1) * stretch ≤ length w)
    walk_fits {k} {n} {t} {w} {p} x =
        let z = x.so.seats in
        let many : p.unordered ≡ length x.front + length
        (fire (book f nf) (unordered_in w0 q.level q.unordered) n x.back).kept =
        sym (unordered_length w p.level p.unordered) ∙ ap length z.unordered_is
        ∙ length-append x.front (fire (book f nf) (unordered_in w0 q.level q.unordered) n x.back).kept in
        let a = st.levels in
        let b = st.room in
        let c = x.so.lower.long in
        let d = x.long in
        let e = z.level_in in
        let g = z.fits in
        omega arith

    module _ {k n : ℕ} {t : List ℕ} {w : List Rec} {p : Sequent} (i : ℕ) (x : FallenTo m f nf base t0 w0 q k n t w p) (down : k ≡ i + 1)
        {r : ℕ} (er : r ≡ fires_by f w p.level p.unordered i) where
      pub walk_past : p.unordered ≤ r → FallenTo m f nf base t0 w0 q i n t w p
      walk_past h = fall_past m f nf st.laid st.long st.few base t0 w0 st.room q st.few_nodes i x down er h

      pub walk_some : r < p.unordered → 0 < n
      walk_some h = fall_next m f nf st.laid st.long st.few base t0 w0 st.room q st.few_nodes i x down er h

      pub walk_fires : r < p.unordered → (n1 : ℕ) → n ≡ n1 + 1 → {t1 : List ℕ} {w1 : List Rec} {p1 : Sequent} →
          t1 ≡ put_node t n1 (six_of (app (term_at w (p.level * stretch + i)) (term_at w (p.level * stretch + r)))) →
          w1 ≡ set (removed w p i) (push_place (without p)) (rec (right_at f (formula_at w (p.level * stretch + i))) n1) →
          p1 ≡ pushed (without p) → FallenTo m f nf base t0 w0 q i n1 t1 w1 p1
      walk_fires h n1 one et ew ep =
          fall_fires m f nf st.laid st.long st.few base t0 w0 st.room q st.few_nodes i x down er h n1 one et ew ep

    pub walk_ends : {i n : ℕ} {t : List ℕ} {w : List Rec} {p : Sequent} → FallenTo m f nf base t0 w0 q i n t w p → i ≡ 0 →
        Fell m f nf base t0 w0 q t w p
    walk_ends {n = n} {t} {w} {p} x z =
        fall_ends m f nf st.laid st.long st.few base t0 w0 st.room q st.few_nodes
        (subst (λ (i : ℕ). FallenTo m f nf base t0 w0 q i n t w p) z x)

-- how many fire, and the fills
pub count_few : {m : Limits} {f t : List ℕ} {w : List Rec} {s : State} {q : Sequent} {c : ℕ} → Rep m (lent f t w) s q →
    c ≡ firing_in f w q.level q.unordered q.unordered → (c ≤ 256) × (s.terms ≤ 16384)
count_few {f = f} {w = w} {q = q} rep e =
    let a = firing_few f w q.level q.unordered q.unordered in
    let b = rep.seats.fits in
    let d = rep.within.in_terms in
    let g = rep.rooms.most_terms in
    (omega arith, omega arith)

-- the charge that passed leaves room for all
pub may_fire : {m : Limits} {f t : List ℕ} {w : List Rec} {s : State} {q : Sequent} {c k l u v : ℕ} → Rep m (lent f t w) s q →
    q.ordered ≡ 0 →
    c ≡ firing_in f w q.level q.unordered q.unordered → Tested m (Ok tt) s u v (s.terms + c) k l →
    MayFire m (lent f t w) s q (s.terms + c)
may_fire {s = s} rep none e t = record {
  rep = rep;
  none = none;
  last = ap (λ (k : ℕ). s.terms + k) e;
  few = omega (arith, (passes t).terms, rep.rooms.most_terms);
}

pub may_spend : {m : Limits} {f t : List ℕ} {w : List Rec} {s : State} {q : Sequent} {c k l u v : ℕ} → Rep m (lent f t w) s q →
    c ≡ firing_in f w q.level q.unordered q.unordered → Tested m (Ok tt) s u v (s.terms + c) k l →
    (s.formulas + 0 ≤ 16384) × (s.terms + c ≤ 16384)
may_spend rep e t =
    let a = rep.within.in_formulas in
    let b = rep.rooms.most_formulas in
    let d = rep.rooms.most_terms in
    let g = (passes t).terms in
    (omega arith, omega arith)
