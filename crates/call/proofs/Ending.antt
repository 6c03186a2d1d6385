-- What the search by right comes to from the first sequent is what theory's whole search answers; so is the shortage of nodes before it.
-- Assumes nothing.
use Prim.Native.Nat.{ℕ, ◌+◌, ◌≤◌, ◌<◌}
use mathlib.Core.Path.{◌≡◌, refl, sym, ap, ◌∙◌, subst}
use mathlib.Core.Option.{none}
use mathlib.Core.Logic.{◌≢◌}
use mathlib.Core.List.{List}
use native.Mathlib.Omega.{arith}
use native.Mathlib.Nat.{le_refl}
use lib.ListN.{length}
use borrow.Author.Tests.{le-leb, lt-leb}
use Rattle.theory.specs.Names.{skipped}
use Rattle.theory.specs.NameText.{names_in}
use Rattle.theory.specs.Meter as M
use Rattle.theory.specs.Meter.{fits, spend}
use Rattle.theory.specs.Search.{idents, given, whole, prove}
use Rattle.theory.specs.Call.{Claim, given_book, refusal, search_limits, searched}
use Rattle.theory.proofs.Called.{only_answer}
use Rattle.meter.specs.declared.Sequent.{Sequent}
use Rattle.meter.specs.declared.Limits.{Limits}
use Rattle.std.specs.Prelude.{Ok, Err}
use Rattle.meter.specs.declared.Limit.TheVariants.{Terms}
use Rattle.meter.specs.declared.Missed.TheVariants.{Short}
use Rattle.meter.specs.Moves.{Answer, limits_of, limit_of}
use Rattle.context.specs.Area.{Rec}
use Rattle.search_laws.specs.Reading.{Lent, lent, seq_of}
use Rattle.search_laws.specs.Keeping.{After, Rep}
use Rattle.search_laws.specs.Meaning.{Says, says_found, says_failed, says_short, Comes, asks, Meets}
use Rattle.search_laws.proofs.Same.{same_refl}
use Rattle.call.specs.Start.{first_sequent, first_state, limits_in, assumed_in, Ends}
use Rattle.call.proofs.First.{idents_many, start_rep, first_within, start_state, start_shows, start_sequent, start_lengths}

-- what the code says is finished
said_finished : {y : Lent} {r : Answer} {a : M.Answer} → Says y r a → a ≢ M.unfinished
said_finished (says_found sh) p = absurd (let z : ◌≡◌ {A = ℕ} 0 1 = cc in omega arith)
said_finished (says_failed K u n) p = absurd (let z : ◌≡◌ {A = ℕ} 0 1 = cc in omega arith)
said_finished (says_short l k n) p = absurd (let z : ◌≡◌ {A = ℕ} 0 1 = cc in omega arith)

-- the fills have grown from the given count and 0 as well
after_start : (y : Lent) (count n : ℕ) (r : Answer) → After y (first_state count n) r → After y (first_state count 0) r
after_start y count n (Ok found) g =
    record { laid = g.laid; formulas_up = g.formulas_up; terms_up = omega arith; root_in = g.root_in }
after_start y count n (Err missed) g = tt

-- the code's limits are the call's
pub limits_of_lem : (x : Claim) → limits_of (limits_in x) ≡ search_limits x
unfolding search_limits
limits_of_lem x = refl

module _ (x : Claim) (w : List Rec) (passed : refusal x ≡ none) (records : length w ≡ x.records) where
  -- fewer rooms for nodes than assumptions: "a shortage of terms there has steps 0"
  pub ends_short : (limits_in x).terms < length x.assumed →
      Ends x w (Err (Short Terms (first_state x.count 0))) (lent x.words x.terms w)
  unfolding searched prove whole spend fits search_limits given limit_of
  ends_short h = record {
    answer = M.short M.Terms 0;
    is = rw (spend, lt-leb (0 + length (idents 0 x.assumed)) (limits_in x).terms (omega (arith, idents_many 0 x.assumed)));
    says = says_short M.Terms refl refl;
    given = same_refl;
    numbers = refl;
    records = refl;
    within = first_within x w passed records;
    after = tt;
  }

  module _ (room : length x.assumed ≤ (limits_in x).terms) where
    -- at each depth the whole search is the search by right from the first sequent
    whole_right : (d : ℕ) → prove (search_limits x) (names_in x.text) d (given_book x) x.assumed x.goal ≡
        asks (limits_in x) (skipped (names_in x.text)) d M.by_right
        (seq_of (assumed_in x w).records (first_sequent (length x.assumed) x.goal)) (start_state x w passed records room)
    unfolding prove whole spend fits search_limits given
    whole_right d =
        rw (spend, le-leb (0 + length (idents 0 x.assumed)) (limits_in x).terms (omega (arith, idents_many 0 x.assumed)))
        (ap (λ (Q : M.Sequent). asks (limits_in x) (skipped (names_in x.text)) d M.by_right Q (start_state x w passed records room))
        (start_sequent x w passed records room))

    -- what right comes to, the whole search comes to
    pub ends_right : {r : Answer} {y : Lent} → Meets M.by_right (limits_in x) (skipped (names_in x.text)) (assumed_in x w)
        (first_state x.count (length x.assumed)) (first_sequent (length x.assumed) x.goal) r y → Ends x w r y
    ends_right {r} {y} meets = record {
      answer = comes.answer;
      is = only_answer x (record {
        depth = comes.depth;
        is = whole_right comes.depth ∙ comes.settles comes.depth (le_refl comes.depth);
        finished = said_finished comes.says;
      });
      says = comes.says;
      given = meets.kept.frame.words;
      numbers = meets.kept.frame.numbers.long ∙ (start_lengths x w passed records room).0;
      records = meets.kept.frame.records.long ∙ (start_lengths x w passed records room).1;
      within = meets.kept.within;
      after = after_start y x.count (length x.assumed) r meets.kept.after;
    }
      where
        comes : Comes y r (λ d. asks (limits_in x) (skipped (names_in x.text)) d M.by_right
            (seq_of (assumed_in x w).records (first_sequent (length x.assumed) x.goal)) (start_state x w passed records room))
        comes = meets.means (start_state x w passed records room) (start_shows x w passed records room)

-- four values at once
moved : {A B C D : Type 0} (P : A → B → C → D → Type 0) {a a1 : A} {b b1 : B} {c c1 : C} {d d1 : D} → a ≡ a1 → b ≡ b1 → c ≡ c1 → d ≡ d1 →
    P a b c d → P a1 b1 c1 d1
moved P {a} {a1} {b} {b1} {c} {c1} {d} {d1} ea eb ec ed h =
    subst (P a1 b1 c1) ed (subst (λ v. P a1 b1 v d) ec (subst (λ v. P a1 v c d) eb (subst (λ v. P v b c d) ea h)))

-- the start in the code: its limits, and the numbers, records and sequent after the assumptions
module _ (x : Claim) (w : List Rec) (passed : refusal x ≡ none) (records : length w ≡ x.records) {m : Limits} {t1 : List ℕ}
    {w1 : List Rec} {q : Sequent} (em : m ≡ limits_in x) (et : t1 ≡ (assumed_in x w).numbers) (ew : w1 ≡ (assumed_in x w).records)
    (eq : q ≡ first_sequent (length x.assumed) x.goal) (room : length x.assumed ≤ m.terms) where
  room_in : length x.assumed ≤ (limits_in x).terms
  room_in = omega (arith, room, ap (λ (v : Limits). v.terms) em)

  -- it has what right asks
  pub right_asks : Rep m (lent x.words t1 w1) (first_state x.count (length x.assumed)) q
  right_asks = moved (λ v t r u. Rep v (lent x.words t r) (first_state x.count (length x.assumed)) u)
      (sym em) (sym et) (sym ew) (sym eq)
      (start_rep x w passed records room_in)

  -- and what right comes to ends the whole search
  pub right_ends : {r : Answer} {y : Lent} → Meets M.by_right m (skipped (names_in x.text)) (lent x.words t1 w1)
      (first_state x.count (length x.assumed)) q r y → Ends x w r y
  right_ends {r} {y} h = ends_right x w passed records room_in
      (moved (λ v t u p. Meets M.by_right v (skipped (names_in x.text)) (lent x.words t u)
      (first_state x.count (length x.assumed)) p r y)
      em et ew eq h)
