-- The positions of rule 4 one after another: what the loop over them holds, and what it ends with. Assumes nothing.
use Rattle.std.specs.Prelude.{Ok, Err}
use Prim.Native.Nat.{ℕ, suc, ◌+◌, ◌-◌, ◌*◌, ◌<◌, ◌≤◌}
use mathlib.Core.Path.{◌≡◌, refl, sym, ap, ap₂, ◌∙◌}
use mathlib.Core.List.{List, []}
use native.Mathlib.Omega.{arith}
use native.Mathlib.Numerals.{add-one}
use lib.ListN.{take}
use Rattle.theory.specs.Form.{look}
use Rattle.theory.specs.Layout.{node_width}
use Rattle.theory.specs.World.{Seen, model}
use Rattle.theory.specs.Meter as M
use Rattle.theory.specs.Meter.{limited, fail}
use Rattle.theory.specs.Search.{positions, try_at, nest}
use Rattle.theory.proofs.Charges.{restart}
use Rattle.meter.specs.declared.State.{State}
use Rattle.meter.specs.declared.Sequent.{Sequent}
use Rattle.meter.specs.declared.Limits.{Limits}
use Rattle.meter.specs.declared.Found.{Found}
use Rattle.meter.specs.declared.Limit.{Limit}
use Rattle.meter.specs.declared.Missed.TheVariants.{Failed, Short}
use Rattle.meter.specs.Moves.{Answer, limits_of}
use Rattle.context.specs.Moves.{stretch}
use Rattle.context.specs.Area.{zeroed}
use Rattle.search_laws.specs.Tables.{upto, from}
use Rattle.search_laws.specs.Reading.{Lent, book, entry_at, unordered_in, seq_of, Shows}
use Rattle.search_laws.specs.Keeping.{Same, Rep}
use Rattle.search_laws.specs.Meaning.{says_failed, asks, Gives}
use Rattle.search_laws.specs.Parts.{ranging, Ranges}
use Rattle.search_laws.specs.Trying.{Next, records_before, records_from, trying, HandsOn, Past, TriesAt}
use Rattle.search_laws.proofs.Tables.{upto_split}
use Rattle.search_laws.proofs.Same.{frame_refl, frame_less, frame_trans}
use Rattle.search_laws.proofs.Combine.{comes_as, comes_now}
use Rattle.search_laws.proofs.Branch.{back_kept}
use Rattle.search_laws.proofs.Making.{shows_after}
use Rattle.search_laws.proofs.FourWays.{entry_back, before_back, from_back}

-- rule 4 from position i on
abbrev pub ranging_from : Limits → List (List ℕ) → Lent → Sequent → ℕ → Next
ranging_from m taken x q i d seen S =
    positions (limited (limits_of m)) taken (asks m taken d) (seq_of x.records q) (records_before x q i) (records_from x q i) seen S

-- before position i the code has come to the lists y and the state s1, and what the rest means, the whole means
pub record Going (m : Limits) (taken : List (List ℕ)) (x : Lent) (s : State) (q : Sequent) (i : ℕ) (y : Lent) (s1 : State) : Type 0 where
  pub past : Past m x s q s1 y
  pub onward : (seen : Seen) (S : M.State) → Shows x s S →
      HandsOn (ranging_from m taken x q i) S s1 (λ d. ranging m taken (seq_of x.records q) seen d S)

-- the state before the tries with the indices and steps of now
shows_past : {m : Limits} {x y : Lent} {s s1 : State} {q : Sequent} {S : M.State} → Past m x s q s1 y → Shows x s S →
    Shows y s1 (restart S s1.indices s1.steps)
shows_past {y = y} {s1 = s1} p sh =
    let b = shows_after p.back.frame sh in
    record {
      words = b.words ∙ ap (book y.words) (sym p.formulas);
      nodes = b.nodes ∙ ap (λ (n : ℕ). take (n * node_width) y.numbers) (sym p.terms);
      many = b.many ∙ sym p.terms;
      used = refl;
      steps = refl;
    }

-- rule 4 from position i on is the try at i, and then the rest
range_step : (m : Limits) (taken : List (List ℕ)) (x : Lent) (q : Sequent) (i : ℕ) → i < q.unordered → (seen : Seen) (S : M.State)
    (d : ℕ) →
    ranging_from m taken x q i d seen S ≡ trying m taken x q i (ranging_from m taken x q (i + 1)) seen d S
unfolding positions unordered_in upto from
range_step m taken x q i h seen S d =
    let g : ℕ → M.Entry = λ j. entry_at x.records (q.level * stretch + j) in
    ap (λ (n : ℕ). positions (limited (limits_of m)) taken (asks m taken d) (seq_of x.records q) (upto g i) (from g i n) seen S)
    (let p : q.unordered - i ≡ suc (q.unordered - suc i) = omega arith in p)
    ∙ ap (λ (j : ℕ). try_at (limited (limits_of m)) taken (asks m taken d) (seq_of x.records q) (upto g i) (g i)
    (from g (suc i) (q.unordered - suc i))
    (λ seen1 S1. positions (limited (limits_of m)) taken (asks m taken d) (seq_of x.records q) (upto g j)
    (from g j (q.unordered - j)) seen1 S1)
    seen S (nest S.words (look S.words (g i).formula))) (sym (add-one i))

-- a try reads only what was left alone
try_back : (m : Limits) (taken : List (List ℕ)) (x y : Lent) (q : Sequent) (i : ℕ) → Same zeroed ((q.level + 1) * stretch) x.records
    y.records →
    q.unordered ≤ stretch → seq_of y.records q ≡ seq_of x.records q → i < q.unordered → (next : Next) (seen : Seen) (S : M.State)
    (d : ℕ) →
    trying m taken x q i next seen d S ≡ trying m taken y q i next seen d S
try_back m taken x y q i same few e h next seen S d =
    rw (
      sym (entry_back x y q same few i h),
      sym (before_back x y q same few i (omega arith)),
      sym
          (from_back x y q same few (suc i) h),
      sym e,
    )

module _ {m : Limits} {taken : List (List ℕ)} {x : Lent} {s : State} {q : Sequent} where
  -- at the first position nothing has happened
  pub going_starts : Rep m x s q → Going m taken x s q 0 x s
  unfolding ranging unordered_in upto
  going_starts rep = record {
    past = record {
      back = record { rep = rep; frame = frame_refl; formulas_up = omega arith; terms_up = omega arith; seq = refl };
      formulas = refl;
      terms = refl;
    };
    onward = λ seen S sh. record {
      seen = seen;
      carries = λ r z c. comes_as (λ d. ranging m taken (seq_of x.records q) seen d S) (λ d. first seen S sh d) c;
    };
  }
    where
      all : records_from x q 0 ≡ (seq_of x.records q).unordered
      all = let g : ℕ → M.Entry = λ j. entry_at x.records (q.level * stretch + j) in
          ap (from g 0) (let p : q.unordered - 0 ≡ q.unordered = omega arith in p) ∙ sym (upto_split g 0 q.unordered)
          ∙ ap (upto g) (let p : 0 + q.unordered ≡ q.unordered = omega arith in p)

      first : (seen : Seen) (S : M.State) → Shows x s S → (d : ℕ) → ranging m taken (seq_of x.records q) seen d S ≡
          ranging_from m taken x q 0 d seen (restart S s.indices s.steps)
      first seen S sh d =
          ap₂ (λ (es : List M.Entry) (T : M.State). positions (limited (limits_of m)) taken (asks m taken d)
          (seq_of x.records q) [] es seen T)
          (sym all) (ap₂ (λ (u n : ℕ). restart S u n) sh.used sh.steps)

-- one try after another
pub past_then : {m : Limits} {x y z : Lent} {s s1 s2 : State} {q : Sequent} → Past m x s q s1 y → Past m y s1 q s2 z → Past m x s q s2 z
past_then a b = record {
  back = record {
    rep = b.back.rep;
    frame = frame_trans (omega (arith, a.formulas)) (omega (arith, a.terms)) (omega arith) a.back.frame b.back.frame;
    formulas_up = omega (arith, a.formulas, b.formulas);
    terms_up = omega (arith, a.terms, b.terms);
    seq = b.back.seq ∙ a.back.seq;
  };
  formulas = b.formulas ∙ a.formulas;
  terms = b.terms ∙ a.terms;
}

module _ {m : Limits} {taken : List (List ℕ)} {x y : Lent} {s s1 : State} {q : Sequent} {i : ℕ} (g : Going m taken x s q i y s1) where
  module _ (here : i < q.unordered) where
    -- the rest from position i on is the try at the lists of now, and then the rest
    try_now : (seen : Seen) (S : M.State) (d : ℕ) →
        ranging_from m taken x q i d seen S ≡ trying m taken y q i (ranging_from m taken x q (i + 1)) seen d S
    try_now seen S d = range_step m taken x q i here seen S d
        ∙ try_back m taken x y q i g.past.back.frame.records (omega (arith, g.past.back.rep.seats.fits))
        g.past.back.seq here
        (ranging_from m taken x q (i + 1)) seen S d

    -- a position that is passed over
    pub going_skips : ((next : Next) (seen : Seen) (S : M.State) → Shows y s1 S → (d : ℕ) →
        trying m taken y q i next seen d S ≡ next d seen S) →
        Going m taken x s q (i + 1) y s1
    going_skips skip = record {
      past = g.past;
      onward = λ seen S sh. let h = g.onward seen S sh in record {
        seen = h.seen;
        carries = λ r z c. h.carries r z (comes_as (λ d. ranging_from m taken x q i d h.seen (restart S s1.indices s1.steps))
            (λ d. try_now h.seen (restart S s1.indices s1.steps) d
            ∙ skip (ranging_from m taken x q (i + 1)) h.seen (restart S s1.indices s1.steps) (shows_past g.past sh) d) c);
      };
    }

    -- a try that fails
    pub going_fails : {s2 : State} {z : Lent} → TriesAt m taken y s1 q i (Err (Failed s2)) z → Going m taken x s q (i + 1) z s2
    going_fails {s2} t = record {
      past = past_then g.past t.is.0;
      onward = λ seen S sh.
          let h = g.onward seen S sh in
          let f = t.is.1 (ranging_from m taken x q (i + 1)) h.seen (restart S s1.indices s1.steps) (shows_past g.past sh) in
          record {
            seen = f.seen;
            carries = λ r v c. h.carries r v (comes_as (λ d. ranging_from m taken x q i d h.seen (restart S s1.indices s1.steps))
                (λ d. try_now h.seen (restart S s1.indices s1.steps) d) (f.carries r v c));
          };
    }

    -- a try whose answer is the whole's
    ends_with : {r : Answer} {z : Lent} → ((next : Next) (seen : Seen) → Gives (trying m taken y q i next seen) m y s1 q r z) →
        Ranges m taken x s q r z
    ends_with {r} {z} t = record {
      gives = λ seen. record {
        means = λ S sh. let h = g.onward seen S sh in
            h.carries r z (comes_as (λ d. ranging_from m taken x q i d h.seen (restart S s1.indices s1.steps))
            (λ d. try_now h.seen (restart S s1.indices s1.steps) d)
            ((t (ranging_from m taken x q (i + 1)) h.seen).means (restart S s1.indices s1.steps) (shows_past g.past sh)));
        kept = back_kept g.past.back (t (ranging_from m taken x q (i + 1)) seen).kept;
      };
    }

    pub ranges_found : {f : Found} {z : Lent} → TriesAt m taken y s1 q i (Ok f) z → Ranges m taken x s q (Ok f) z
    ranges_found t = ends_with t.is

    pub ranges_short : {n : Limit} {s2 : State} {z : Lent} → TriesAt m taken y s1 q i (Err (Short n s2)) z →
        Ranges m taken x s q (Err (Short n s2)) z
    ranges_short t = ends_with t.is

  -- no position is left: rule 5
  pub ranges_end : q.unordered ≤ i → Ranges m taken x s q (Err (Failed s1)) y
  unfolding positions from fail
  ranges_end h = record {
    gives = λ seen. record {
      means = λ S sh. let o = g.onward seen S sh in
          o.carries (Err (Failed s1)) y (comes_now (λ d. ranging_from m taken x q i d o.seen (restart S s1.indices s1.steps))
          (λ d. ap (λ (n : ℕ). positions (limited (limits_of m)) taken (asks m taken d) (seq_of x.records q) (records_before x q i)
          (from (λ j. entry_at x.records (q.level * stretch + j)) i n) o.seen (restart S s1.indices s1.steps))
          (let p : q.unordered - i ≡ 0 = omega arith in p)) (says_failed (model o.seen) refl refl));
      kept = record {
        frame = frame_less (omega arith) (omega arith) (omega arith) g.past.back.frame;
        within = g.past.back.rep.within;
        after = tt;
      };
    };
  }
