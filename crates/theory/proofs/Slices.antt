-- What the lent slices hold after a call: their lengths, the given words in front, zero above the fills. Assumes nothing.
use Prim.Native.Nat.{ℕ, zero, suc, ◌*◌, ◌/◌, ◌≤◌}
use mathlib.Core.Path.{◌≡◌, refl, sym, ap, ◌∙◌, subst}
use mathlib.Core.Option.{none}
use mathlib.Core.List.{List, map}
use native.Mathlib.Omega.{arith}
use lib.Dec.{T, leb→le, le→leb}
use lib.ListN.{get_or-eq_default, length, get_or, take, replicate, length-map, length-replicate}
use Rattle.theory.specs.Form.{word}
use Rattle.theory.specs.NameText.{names_in, padded}
use Rattle.theory.specs.Layout.{node_width, in_numbers}
use Rattle.theory.specs.Search.{given}
use Rattle.theory.specs.Meter.{Within, fits, Lack, Steps, found, failed, short}
use Rattle.theory.specs.Call.{Claim, refusal, search_limits, given_words, given_book, searched, Outcome, After}
use Rattle.theory.specs.Call.{given_back, unchanged, answered, called}
use Rattle.theory.specs.Owed.{ZeroAbove, Passes}
use Rattle.theory.proofs.Fitted.{padded_byte, padded_length, padded_front}
use Rattle.theory.proofs.Room.{Kept, Bounded, b_found, b_failed, b_short, bounded}
use Rattle.theory.proofs.LayoutLaws.{in_numbers_length}
use Rattle.theory.proofs.Passing.{passes}
use Rattle.theory.proofs.Called.{Proves, Fails, RunsShort, Told, t_proved, t_unprovable, t_shortage, t_refused, told}

abbrev zeros : ℕ → List ℕ
zeros n = replicate n 0

-- zero everywhere, and past a text that is padded
all_zero : (n i : ℕ) → get_or (zeros n) i 0 ≡ 0
all_zero zero i = refl
all_zero (suc n) zero = refl
all_zero (suc n) (suc i) = all_zero n i

padded_rest : (xs : List ℕ) (n i : ℕ) → length xs ≤ i → get_or (padded n xs) i 0 ≡ 0
padded_rest xs n i h = padded_byte xs n i ∙ get_or-eq_default xs 0 h

-- the search of a claim that passes is within its limits
pub starts_within : (x : Claim) → refusal x ≡ none → Within (search_limits x) (given (given_book x))
unfolding search_limits fits given
starts_within x e = let p : Passes x = passes x e in record {
  names = tt;
  formulas = le→leb (length (given_book x)) (length x.words) (omega (arith, p.book, p.given));
  terms = le→leb 0 (length x.terms / node_width) (omega arith);
  steps = le→leb 0 x.step_limit (omega arith);
}

pub bounded_call : (x : Claim) → refusal x ≡ none → Bounded (search_limits x) (given_book x) (searched x)
unfolding searched
bounded_call x e =
    bounded (search_limits x) (given_book x) (names_in x.text) (suc x.step_limit) x.assumed x.goal (starts_within x e)

-- the numbers of a proved claim are within its limits
pub record ProvedWithin (x : Claim) (n u f t : ℕ) : Type 0 where
  pub steps : n ≤ x.step_limit
  pub indices : u ≤ 4096
  pub formulas : f ≤ length x.words
  pub terms : t * node_width ≤ length x.terms

module _ (x : Claim) where
  pub proved_state : {r n u f t : ℕ} (h : Proves x r n u f t) → Kept (search_limits x) (given_book x) h.state
  proved_state {r} h = go (subst (Bounded (search_limits x) (given_book x)) h.is (bounded_call x h.passed))
    where
      go : Bounded (search_limits x) (given_book x) (found r h.state) → Kept (search_limits x) (given_book x) h.state
      go (b_found w) = w

  pub proved_within : {r n u f t : ℕ} → Proves x r n u f t → ProvedWithin x n u f t
  unfolding search_limits fits
  proved_within {r} {n} {u} {f} {t} h =
      let w : Within (search_limits x) h.state = (proved_state h).within in
      let a : h.state.steps ≤ x.step_limit = leb→le _ _ w.steps in
      let b : h.state.used ≤ 4096 = leb→le _ _ w.names in
      let c : length h.state.words ≤ length x.words = leb→le _ _ w.formulas in
      let d : length h.state.nodes ≤ length x.terms / node_width = leb→le _ _ w.terms in
      record {
        steps = omega (arith, h.steps);
        indices = omega (arith, h.used);
        formulas = omega (arith, h.formulas);
        terms = omega (arith, h.terms);
      }

  pub failed_within : {n u f t : ℕ} → Fails x n u f t → (n ≤ x.step_limit) × (u ≤ 4096)
  unfolding search_limits fits
  failed_within {n} {u} h = go (subst (Bounded (search_limits x) (given_book x)) h.is (bounded_call x h.passed))
    where
      go : Bounded (search_limits x) (given_book x) (failed u n h.tree) → (n ≤ x.step_limit) × (u ≤ 4096)
      go (b_failed a b) = (leb→le n x.step_limit a, leb→le u 4096 b)

  pub short_within : {l : Lack} {n : ℕ} → RunsShort x l n → n ≤ x.step_limit
  unfolding search_limits fits
  short_within {l} {n} h = go (subst (Bounded (search_limits x) (given_book x)) h.is (bounded_call x h.passed))
    where
      go : Bounded (search_limits x) (given_book x) (short l n) → n ≤ x.step_limit
      go (b_short a b) = leb→le n x.step_limit a

  -- a shortage of steps comes at the limit
  pub steps_at_limit : {n : ℕ} → RunsShort x Steps n → n ≡ x.step_limit
  unfolding search_limits fits
  steps_at_limit {n} h = go (subst (Bounded (search_limits x) (given_book x)) h.is (bounded_call x h.passed))
    where
      go : Bounded (search_limits x) (given_book x) (short Steps n) → n ≡ x.step_limit
      go (b_short a b) =
          let i : n ≤ x.step_limit = leb→le n x.step_limit a in
          let j : ¬ (suc n ≤ x.step_limit) = λ k. subst T (b refl) (le→leb (suc n) x.step_limit k) in
          omega arith

  -- what a proved call leaves in its slices
  pub proved_words : {r n u f t : ℕ} (h : Proves x r n u f t) → (called x).words ≡ padded (length x.words) (map word h.state.words)
  unfolding answered
  proved_words h = ap (λ (a : After). a.words) h.after

  pub proved_terms : {r n u f t : ℕ} (h : Proves x r n u f t) → (called x).terms ≡ padded (length x.terms) (in_numbers h.state.nodes)
  unfolding answered
  proved_terms h = ap (λ (a : After). a.terms) h.after

  word_count : {r n u f t : ℕ} (h : Proves x r n u f t) → length (map word h.state.words) ≡ f
  word_count h = length-map h.state.words word ∙ h.formulas

  number_count : {r n u f t : ℕ} (h : Proves x r n u f t) → length (in_numbers h.state.nodes) ≡ t * node_width
  number_count h = in_numbers_length h.state.nodes ∙ ap (λ (k : ℕ). k * node_width) h.terms

  -- in front stand the words and nodes that were made
  pub front_words : {r n u f t : ℕ} (h : Proves x r n u f t) → take f (called x).words ≡ map word h.state.words
  front_words {f} h =
      ap (take f) (proved_words h) ∙ ap (λ (k : ℕ). take k (padded (length x.words) (map word h.state.words))) (sym (word_count h))
      ∙ padded_front (map word h.state.words) (length x.words)

  pub front_terms : {r n u f t : ℕ} (h : Proves x r n u f t) → take (t * node_width) (called x).terms ≡ in_numbers h.state.nodes
  front_terms {t} h =
      ap (take (t * node_width)) (proved_terms h)
      ∙ ap (λ (k : ℕ). take k (padded (length x.terms) (in_numbers h.state.nodes))) (sym (number_count h))
      ∙ padded_front (in_numbers h.state.nodes) (length x.terms)

  -- the rest is zero, and every record
  pub proved_clear : {r n u f t : ℕ} → Proves x r n u f t → ZeroAbove (called x) f t
  unfolding answered
  proved_clear h = record {
    words = λ i l. ap (λ (ws : List ℕ). get_or ws i 0) (proved_words h)
        ∙ padded_rest (map word h.state.words) (length x.words) i (omega (arith, word_count h));
    terms = λ i l. ap (λ (ws : List ℕ). get_or ws i 0) (proved_terms h)
        ∙ padded_rest (in_numbers h.state.nodes) (length x.terms) i (omega (arith, number_count h));
    records = ap (λ (a : After). a.cleared) h.after;
  }

  -- what is given back after Unprovable or a shortage
  back_words : (o : Outcome) → called x ≡ given_back x o → (called x).words ≡ padded (length x.words) (given_words x)
  unfolding given_back
  back_words o e = ap (λ (a : After). a.words) e

  back_terms : (o : Outcome) → called x ≡ given_back x o → (called x).terms ≡ zeros (length x.terms)
  unfolding given_back
  back_terms o e = ap (λ (a : After). a.terms) e

  pub back_clear : refusal x ≡ none → (o : Outcome) → called x ≡ given_back x o → ZeroAbove (called x) x.count 0
  unfolding given_back
  back_clear p o e = record {
    words = λ i l. ap (λ (ws : List ℕ). get_or ws i 0) (back_words o e)
        ∙ padded_rest (given_words x) (length x.words) i (omega (arith, (passes x p).counted));
    terms = λ i l. ap (λ (ws : List ℕ). get_or ws i 0) (back_terms o e) ∙ all_zero (length x.terms) i;
    records = ap (λ (a : After). a.cleared) e;
  }

  -- the given words stand where they stood
  pub back_front : refusal x ≡ none → (o : Outcome) → called x ≡ given_back x o → take x.count (called x).words ≡ given_words x
  back_front p o e =
      ap (take x.count) (back_words o e)
      ∙ ap (λ (k : ℕ). take k (padded (length x.words) (given_words x))) (sym (passes x p).counted)
      ∙ padded_front (given_words x) (length x.words)

  -- no slice changes its length
  pub lengths : (length (called x).words ≡ length x.words) × (length (called x).terms ≡ length x.terms)
  unfolding unchanged
  lengths = go (told x)
    where
      back : refusal x ≡ none → (o : Outcome) → called x ≡ given_back x o →
          (length (called x).words ≡ length x.words) × (length (called x).terms ≡ length x.terms)
      back p o e = (
        ap length (back_words o e) ∙ padded_length (given_words x) (length x.words)
            (omega (arith, (passes x p).counted, (passes x p).given)),
        ap length (back_terms o e) ∙ length-replicate (length x.terms) 0,
      )

      go : {o : Outcome} → Told x o → (length (called x).words ≡ length x.words) × (length (called x).terms ≡ length x.terms)
      go (t_proved h) = (
        ap length (proved_words h) ∙ padded_length (map word h.state.words) (length x.words)
            (omega (arith, word_count h, (proved_within h).formulas)),
        ap length (proved_terms h) ∙ padded_length (in_numbers h.state.nodes) (length x.terms)
            (omega (arith, number_count h, (proved_within h).terms)),
      )
      go (t_unprovable h) = back h.passed _ h.after
      go (t_shortage h) = back h.passed _ h.after
      go (t_refused h) = (ap (λ (a : After). length a.words) h.after, ap (λ (a : After). length a.terms) h.after)
