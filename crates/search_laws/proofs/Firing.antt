-- The walk of rule 2 by falling position: what the lists hold after each record, and at the end what the search as written comes to.
-- Assumes nothing.
use Prim.Native.Nat.{ℕ, suc, ◌+◌, ◌*◌, ◌≤◌, ◌<◌}
use mathlib.Core.Path.{◌≡◌, refl, sym, ap, ap₂, ◌∙◌, subst}
use mathlib.Core.Option.{Option, none, some}
use mathlib.Core.List.{List, [], ◌∷◌, ◌++◌, append_assoc, append-nil}
use native.Mathlib.Omega.{arith}
use lib.ListN.{length, get_or, set, length-append}
use lib.Seq.{get_or-append_seam}
use Rattle.theory.specs.Form.{Book, look}
use Rattle.theory.specs.Term.{Piece, app, Node, node, by, search2, six_of}
use Rattle.theory.specs.Meter.{Entry}
use Rattle.theory.specs.Search.{entry, fire_shape, Fired, fire_at, fire}
use Rattle.theory.proofs.Falling.{firing_counts, fires_still, firing, firing_none, firing_some, firing_append, fire_kept, fire_fired}
use Rattle.proof_term.specs.Put.{put_node}
use Rattle.meter.specs.declared.Sequent.{Sequent}
use Rattle.meter.specs.declared.Limits.{Limits}
use Rattle.context.specs.Moves.{stretch, pushed, without}
use Rattle.context.specs.Area.{Rec, rec, formula_at, term_at, removed, push_place}
use Rattle.context.specs.Area as Area
use Rattle.search_laws.specs.Reading.{kind_at, right_at, book, entry_at, unordered_in, put_nodes}
use Rattle.search_laws.specs.Keeping.{Same, Laid, Seats}
use Rattle.search_laws.specs.Leaves.{fires_by, pieces, fired_all, Fell}
use Rattle.search_laws.proofs.Tables.{upto_at}
use Rattle.search_laws.proofs.Same.{same_refl, same_trans, same_set}
use Rattle.search_laws.proofs.Seat.{unordered_length, seats_more, seats_push}
use Rattle.search_laws.proofs.Stretch.{seats_out, same_out}
use Rattle.search_laws.proofs.PutApart.{put_last}
use Rattle.search_laws.proofs.Fires.{parts_in, does_fire, does_not_fire, fires_five}

-- the nodes of rule 2 are all its own
pieces_at : (ws : Book) (us : List Entry) (e : Entry) (es : List Entry) (n : ℕ) (o : Option (ℕ × ℕ)) →
    ((m : ℕ) → by search2 (pieces (fire ws us m es).nodes) ≡ (fire ws us m es).nodes) →
    by search2 (pieces (fire_at e n (λ m. fire ws us m es) o).nodes) ≡ (fire_at e n (λ m. fire ws us m es) o).nodes
unfolding fire_at pieces
pieces_at ws us e es n none rest = rest n
pieces_at ws us e es n (some p) rest = ap (λ (ns : List Node). node search2 (app e.proof p.0) ∷ ns) (rest (suc n))

pub pieces_fired : (ws : Book) (us : List Entry) (n : ℕ) (es : List Entry) →
    by search2 (pieces (fire ws us n es).nodes) ≡ (fire ws us n es).nodes
unfolding fire pieces
pieces_fired ws us n [] = refl
pieces_fired ws us n (e ∷ es) = pieces_at ws us e es n (fire_shape ws us (look ws e.formula)) (λ m. pieces_fired ws us m es)

-- the last record of a list
record Last (xs : List Entry) (i : ℕ) : Type 0 where
  pub front : List Entry
  pub last : Entry
  pub is : xs ≡ front ++ (last ∷ [])
  pub long : length front ≡ i

last_of : (xs : List Entry) (i : ℕ) → length xs ≡ i + 1 → Last xs i
last_of [] i h = absurd (omega arith)
last_of (x ∷ []) i h = record { front = []; last = x; is = refl; long = omega arith }
last_of (x ∷ y ∷ xs) i h =
    let r : Last (y ∷ xs) (length xs) = last_of (y ∷ xs) (length xs) (omega arith) in
    record {
      front = x ∷ r.front;
      last = r.last;
      is = ap (λ (l : List Entry). x ∷ l) r.is;
      long = ap suc r.long ∙ omega arith;
    }

-- one past the last node, where base is one before the first
abbrev pub last_node : List ℕ → ℕ → ℕ → List Rec → Sequent → ℕ
last_node f nf base w q = base + firing (book f nf) (unordered_in w q.level q.unordered) (unordered_in w q.level q.unordered)

-- those of ys have fired, those of xs have not; n is the next node's index, going down
pub record Fallen (m : Limits) (f : List ℕ) (nf base : ℕ) (t0 : List ℕ) (w0 : List Rec) (q : Sequent) (xs ys : List Entry) (n : ℕ)
    (t : List ℕ) (w : List Rec) (p : Sequent) : Type 0 where
  pub is : unordered_in w0 q.level q.unordered ≡ xs ++ ys
  pub next : n ≡ base + firing (book f nf) (unordered_in w0 q.level q.unordered) xs
  pub seats : Seats m nf (last_node f nf base w0 q) w p (xs ++ (fire (book f nf) (unordered_in w0 q.level q.unordered) n ys).kept)
      (fire (book f nf) (unordered_in w0 q.level q.unordered) n ys).new
  pub level : p.level ≡ q.level
  pub goal : p.goal ≡ q.goal
  pub lower : Same Area.zeroed (q.level * stretch) w0 w
  pub numbers : t ≡ put_nodes t0 n (pieces (fire (book f nf) (unordered_in w0 q.level q.unordered) n ys).nodes)

-- the walk has come down to position i
pub record FallenTo (m : Limits) (f : List ℕ) (nf base : ℕ) (t0 : List ℕ) (w0 : List Rec) (q : Sequent) (i n : ℕ) (t : List ℕ)
    (w : List Rec) (p : Sequent) : Type 0 where
  pub front : List Entry
  pub back : List Entry
  pub long : length front ≡ i
  pub so : Fallen m f nf base t0 w0 q front back n t w p

module _ (m : Limits) (f : List ℕ) (nf : ℕ) (laid : Laid f nf) (long_f : nf ≤ length f) (few : nf ≤ 65536) (base : ℕ) (t0 : List ℕ)
    (w0 : List Rec) (room : (m.levels + 1) * stretch ≤ length w0) (q : Sequent) (few_nodes : last_node f nf base w0 q ≤ 65536) where
  -- the book, the unordered records before any fires, and one past the last node
  abbrev ws : Book
  ws = book f nf

  abbrev us : List Entry
  us = unordered_in w0 q.level q.unordered

  abbrev end : ℕ
  end = last_node f nf base w0 q

  -- it begins behind the last record
  pub fall_starts : Seats m nf base w0 q us [] → FallenTo m f nf base t0 w0 q q.unordered end t0 w0 q
  unfolding fire pieces put_nodes
  fall_starts x = record {
    front = us;
    back = [];
    long = unordered_length w0 q.level q.unordered;
    so = record {
      is = sym (append-nil us);
      next = refl;
      seats = subst (λ (l : List Entry). Seats m nf end w0 q l []) (sym (append-nil us)) (seats_more x (omega arith) (omega arith));
      level = refl;
      goal = refl;
      lower = same_refl;
      numbers = refl;
    };
  }

  module _ {k n : ℕ} {t : List ℕ} {w : List Rec} {p : Sequent} (i : ℕ) (x : FallenTo m f nf base t0 w0 q k n t w p) (down : k ≡ i + 1) where
    cut : Last x.front i
    cut = last_of x.front i (x.long ∙ down)

    zs : List Entry
    zs = cut.front

    e : Entry
    e = cut.last

    kept : List Entry
    kept = (fire ws us n x.back).kept

    -- the unordered records now: those before it, it, and what was kept behind it
    now_is : x.front ++ kept ≡ zs ++ (e ∷ kept)
    unfolding cut zs e
    now_is = ap (λ (l : List Entry). l ++ kept) cut.is ∙ append_assoc zs (e ∷ []) kept

    whole_is : us ≡ zs ++ (e ∷ x.back)
    unfolding cut zs e
    whole_is = x.so.is ∙ ap (λ (l : List Entry). l ++ x.back) cut.is ∙ append_assoc zs (e ∷ []) x.back

    seats_now : Seats m nf end w p (zs ++ (e ∷ kept)) (fire ws us n x.back).new
    unfolding kept
    seats_now = subst (λ (l : List Entry). Seats m nf end w p l (fire ws us n x.back).new) now_is x.so.seats

    in_p : i < p.unordered
    unfolding zs cut
    in_p =
        omega (
          arith,
          unordered_length w p.level p.unordered,
          ap length seats_now.unordered_is,
          length-append zs (e ∷ kept),
          cut.long,
        )

    -- it is the record at position i
    at_i : entry_at w (p.level * stretch + i) ≡ e
    unfolding unordered_in zs cut e
    at_i =
        sym (upto_at (λ j. entry_at w (p.level * stretch + j)) p.unordered i e in_p)
        ∙ ap (λ (l : List Entry). get_or l i e) seats_now.unordered_is
        ∙ ap (λ (j : ℕ). get_or (zs ++ (e ∷ kept)) j e) (sym cut.long)
        ∙ get_or-append_seam zs e kept e

    -- it fires now as it would have fired at first
    still : {o : Option (ℕ × ℕ)} →
        fire_shape ws (unordered_in w p.level p.unordered) (look ws (formula_at w (p.level * stretch + i))) ≡ o →
        fire_shape ws us (look ws e.formula) ≡ o
    unfolding kept entry_at
    still h =
        sym (fires_still ws zs e x.back n us whole_is (look ws e.formula))
        ∙ ap₂ (λ (l : List Entry) (a : Entry). fire_shape ws l (look ws a.formula)) (sym seats_now.unordered_is) (sym at_i)
        ∙ h

    inside : (j : ℕ) → j < p.unordered → formula_at w (p.level * stretch + j) < nf
    inside j h = (x.so.seats.unordered_inside j h).formula_in

    split_firing : firing ws us x.front ≡ firing ws us zs + firing ws us (e ∷ [])
    unfolding zs e cut
    split_firing = ap (firing ws us) cut.is ∙ firing_append ws us zs (e ∷ [])

    -- a record that does not fire stays
    pub fall_past : {r : ℕ} → r ≡ fires_by f w p.level p.unordered i → p.unordered ≤ r → FallenTo m f nf base t0 w0 q i n t w p
    unfolding zs kept firing
    fall_past {r} er h =
        let none_fires : fire_shape ws us (look ws e.formula) ≡ none =
        still (does_not_fire f nf laid long_f w p.level p.unordered inside i in_p er h) in
        let now : fire ws us n (e ∷ x.back) ≡
        record { kept = e ∷ kept; nodes = (fire ws us n x.back).nodes; new = (fire ws us n x.back).new } =
        fire_kept ws us n e x.back none_fires in
        record {
          front = zs;
          back = e ∷ x.back;
          long = cut.long;
          so = record {
            is = whole_is;
            next = omega (arith, x.so.next, split_firing, firing_none ws us e [] none_fires);
            seats = subst (λ (r : Fired). Seats m nf end w p (zs ++ r.kept) r.new) (sym now) seats_now;
            level = x.so.level;
            goal = x.so.goal;
            lower = x.so.lower;
            numbers = x.so.numbers ∙ ap (λ (r : Fired). put_nodes t0 n (pieces r.nodes)) (sym now);
          };
        }

    module _ {r : ℕ} (er : r ≡ fires_by f w p.level p.unordered i) (h : r < p.unordered) where
      a : ℕ
      a = formula_at w (p.level * stretch + i)

      fired : fire_shape ws us (look ws e.formula) ≡ some (term_at w (p.level * stretch + r), right_at f a)
      unfolding a
      fired = still (does_fire f nf laid long_f w p.level p.unordered inside i in_p er h)

      counts : firing ws us x.front ≡ firing ws us zs + 1
      unfolding firing
      counts = split_firing ∙ omega (arith, firing_some ws us e [] (term_at w (p.level * stretch + r), right_at f a) fired)

      -- there is a node for it
      pub fall_next : 0 < n
      fall_next = omega (arith, x.so.next, counts)

      module _ (n1 : ℕ) (one : n ≡ n1 + 1) where
        next_is : n1 ≡ base + firing ws us zs
        next_is = omega (arith, x.so.next, counts)

        below : n1 < end
        below = omega (arith, next_is, ap (firing ws us) whole_is, firing_append ws us zs (e ∷ x.back), more)
          where
            more : firing ws us (e ∷ x.back) ≡ suc (firing ws us x.back)
            more = firing_some ws us e x.back (term_at w (p.level * stretch + r), right_at f a) fired

        piece : Piece
        piece = app e.proof (term_at w (p.level * stretch + r))

        now : fire ws us n1 (e ∷ x.back) ≡ record {
          kept = kept;
          nodes = node search2 piece ∷ (fire ws us n x.back).nodes;
          new = entry (right_at f a) n1 ∷ (fire ws us n x.back).new;
        }
        unfolding kept piece
        now =
            fire_fired ws us n1 e x.back (term_at w (p.level * stretch + r)) (right_at f a) fired
            ∙ ap (λ (c : ℕ). record {
              kept = (fire ws us c x.back).kept;
              nodes = node search2 piece ∷ (fire ws us c x.back).nodes;
              new = entry (right_at f a) n1 ∷ (fire ws us c x.back).new;
            }) (let z : suc n1 ≡ n = omega arith in z)

        room_now : (m.levels + 1) * stretch ≤ length w
        room_now = omega (arith, x.so.lower.long)

        out : Seats m nf end (removed w p i) (without p) (zs ++ kept) (fire ws us n x.back).new
        unfolding zs cut
        out = seats_out seats_now room_now zs e kept refl (ap (removed w p) (sym cut.long)) refl

        out_same : Same Area.zeroed (p.level * stretch) w (removed w p i)
        unfolding zs cut
        out_same = subst (λ (j : ℕ). Same Area.zeroed (p.level * stretch) w (removed w p j)) cut.long
            (same_out seats_now room_now zs e kept refl)

        -- a record that fires leaves its node, is taken out, and what it yields is pushed
        pub fall_fires : {t1 : List ℕ} {w1 : List Rec} {p1 : Sequent} →
            t1 ≡ put_node t n1 (six_of (app (term_at w (p.level * stretch + i)) (term_at w (p.level * stretch + r)))) →
            w1 ≡ set (removed w p i) (push_place (without p)) (rec (right_at f (formula_at w (p.level * stretch + i))) n1) →
            p1 ≡ pushed (without p) → FallenTo m f nf base t0 w0 q i n1 t1 w1 p1
        unfolding zs cut a piece entry_at pieces put_nodes
        fall_fires {t1} {w1} {p1} et ew ep = record {
          front = zs;
          back = e ∷ x.back;
          long = cut.long;
          so = record {
            is = whole_is;
            next = next_is;
            seats = subst (λ (r : Fired). Seats m nf end w1 p1 (zs ++ r.kept) r.new) (sym now)
                (seats_push out (omega (arith, room_now, out_same.long)) (right_at f a) n1 right_in below
                (omega (arith, few, few_nodes)) (omega (arith, in_p, x.so.seats.fits)) ew ep);
            level = ap (λ (s : Sequent). s.level) ep ∙ x.so.level;
            goal = ap (λ (s : Sequent). s.goal) ep ∙ x.so.goal;
            lower = same_trans x.so.lower
                (subst (λ (v : List Rec). Same Area.zeroed (q.level * stretch) w v) (sym ew)
                (subst (λ (c : ℕ). Same Area.zeroed (c * stretch) w (set (removed w p i) (push_place (without p)) (rec (right_at f a) n1)))
                x.so.level
                (same_trans out_same (same_set (removed w p i) (push_place (without p)) (rec (right_at f a) n1)
                (omega (arith, x.so.seats.fits))))));
            numbers = et ∙ ap (λ (c : Entry). put_node t n1 (six_of (app c.proof (term_at w (p.level * stretch + r))))) at_i
                ∙ ap (λ (l : List ℕ). put_node l n1 (six_of piece)) x.so.numbers
                ∙ put_last t0 n1 n piece (pieces (fire ws us n x.back).nodes) (omega arith)
                ∙ ap (λ (c : ℕ). put_nodes (put_node t0 n1 (six_of piece)) c (pieces (fire ws us n x.back).nodes))
                (let z : n ≡ suc n1 = omega arith in z)
                ∙ ap (λ (r : Fired). put_nodes t0 n1 (pieces r.nodes)) (sym now);
          };
        }
          where
            right_in : right_at f a < nf
            right_in =
                let five : kind_at f a ≡ 5 = fires_five f nf laid long_f w p.level p.unordered inside i in_p er h in
                omega (arith, parts_in f nf laid long_f a (inside i in_p) five, inside i in_p)

  -- at the front everything has fired as the search as written says
  pub fall_ends : {n : ℕ} {t : List ℕ} {w : List Rec} {p : Sequent} → FallenTo m f nf base t0 w0 q 0 n t w p →
      Fell m f nf base t0 w0 q t w p
  unfolding firing
  fall_ends {n} {t} {w} {p} x = go x.front x.long x.so
    where
      go : (xs : List Entry) → length xs ≡ 0 → Fallen m f nf base t0 w0 q xs x.back n t w p → Fell m f nf base t0 w0 q t w p
      go (y ∷ ys) h z = absurd (omega arith)
      go [] h z =
          let back : x.back ≡ us = sym z.is in
          let here : n ≡ base = omega (arith, z.next) in
          record {
            seats = subst (λ (c : ℕ). Seats m nf (base + c) w p (fired_all f nf base w0 q).kept (fired_all f nf base w0 q).new)
                (sym (firing_counts ws us us base).nodes)
                (subst (λ (r : Fired). Seats m nf end w p r.kept r.new) (ap₂ (λ (c : ℕ) (l : List Entry). fire ws us c l) here back)
                z.seats);
            level = z.level;
            goal = z.goal;
            lower = z.lower;
            numbers = z.numbers ∙ ap₂ (λ (c : ℕ) (l : List Entry). put_nodes t0 c (pieces (fire ws us c l).nodes)) here back;
          }
