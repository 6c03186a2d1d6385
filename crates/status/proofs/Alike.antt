-- A call looks at the given words, and of the rest of its slices at the lengths alone: what stands above the count, and in the term slice
-- on entry, does not matter. So the status is the same as if the second search were lent what the first one was. Assumes nothing.
use Prim.Native.Nat.{ℕ, suc, ◌+◌, ◌-◌}
use mathlib.Core.Path.{◌≡◌, refl, sym, ap, ap₂, ◌∙◌}
use mathlib.Core.Bool.{Bool, true, false}
use mathlib.Core.Option.{Option, none, some}
use mathlib.Core.List.{List, [], ◌∷◌, ◌++◌, map, append_assoc}
use lib.Dec.{leb}
use lib.ListN.{length, take, drop, length-append, length-drop}
use lib.Seq.{take_at}
use Rattle.theory.specs.Form.{shape, form, word, is_bot, is_imp}
use Rattle.theory.specs.Meter.{Formulas, Steps, Answer, found, failed, short, unfinished}
use Rattle.theory.specs.Refusal.{Refused}
use Rattle.theory.specs.Call.{Claim, right_sizes, given_words, refusal, search_limits, given_book, searched, Outcome, unprovable, shortage}
use Rattle.theory.specs.Call.{After, given_back, unchanged, answered, called}
use Rattle.theory.specs.Status as S
use Rattle.theory.specs.Status.{open_form, settled, refuted, Inquiry, first_claim, second_claim, second_outcome, goal_is_open}
use Rattle.theory.proofs.Passing.{passes}
use Rattle.theory.proofs.Called.{passed_call, refused_call}
use Rattle.status.specs.Whole.{inquiry_of, failed_status}

-- two claims that differ only in what a call does not look at
record Alike (x y : Claim) : Type 0 where
  room : length x.words ≡ length y.words
  given : given_words x ≡ given_words y
  count : x.count ≡ y.count
  assumed : x.assumed ≡ y.assumed
  text : x.text ≡ y.text
  goal : x.goal ≡ y.goal
  numbers : length x.terms ≡ length y.terms
  records : x.records ≡ y.records
  steps : x.step_limit ≡ y.step_limit

module _ {x y : Claim} (a : Alike x y) where
  -- they are refused alike, searched alike and answered alike
  refused_alike : refusal x ≡ refusal y
  unfolding refusal right_sizes
  refused_alike = cc (a.room, a.given, a.count, a.assumed, a.text, a.goal, a.numbers, a.records, a.steps)

  searched_alike : searched x ≡ searched y
  unfolding searched search_limits given_book
  searched_alike = cc (a.room, a.given, a.assumed, a.text, a.goal, a.numbers, a.records, a.steps)

  answered_alike : (r : Answer) → (answered x r).outcome ≡ (answered y r).outcome
  unfolding answered given_back
  answered_alike (found t s) = refl
  answered_alike (failed u n m) = ap (λ (k : ℕ). unprovable n u k 0) a.count
  answered_alike (short l n) = refl
  answered_alike unfinished = ap (shortage Steps) a.steps

  outcome_alike : (called x).outcome ≡ (called y).outcome
  unfolding unchanged
  outcome_alike = go (refusal x) refl
    where
      go : (o : Option Refused) → refusal x ≡ o → (called x).outcome ≡ (called y).outcome
      go none e =
          ap (λ (v : After). v.outcome) (passed_call x e) ∙ answered_alike (searched x)
          ∙ ap (λ (r : Answer). (answered y r).outcome) searched_alike
          ∙ sym (ap (λ (v : After). v.outcome) (passed_call y (sym refused_alike ∙ e)))
      go (some r) e =
          ap (λ (v : After). v.outcome) (refused_call x e)
          ∙ sym (ap (λ (v : After). v.outcome) (refused_call y (sym refused_alike ∙ e)))

-- the two words after the given ones, whatever follows
front : (g rest : List ℕ) (n a b : ℕ) → length g ≡ n → take (n + 2) (g ++ (a ∷ b ∷ rest)) ≡ g ++ (a ∷ b ∷ [])
front g rest n a b e =
    ap (take (n + 2)) (sym (append_assoc g (a ∷ b ∷ []) rest))
    ∙ take_at (g ++ (a ∷ b ∷ [])) rest (n + 2) (length-append g (a ∷ b ∷ []) ∙ ap (λ (k : ℕ). k + 2) e)

-- the slices f1 and t1 keep of f and t what a call looks at
pub record Stands (count : ℕ) (f t f1 t1 : List ℕ) : Type 0 where
  pub room : length f1 ≡ length f
  pub given : take count f1 ≡ take count f
  pub numbers : length t1 ≡ length t

module _ (count goal steps : ℕ) {f t f1 t1 : List ℕ} (k : Stands count f t f1 t1) {r r1 : ℕ} (records : r1 ≡ r) where
  abbrev before : Inquiry
  before = inquiry_of f count goal t r steps

  abbrev after : Inquiry
  after = inquiry_of f1 count goal t1 r1 steps

  first_alike : Alike (first_claim after) (first_claim before)
  unfolding first_claim given_words
  first_alike = record {
    room = k.room;
    given = k.given;
    count = refl;
    assumed = refl;
    text = refl;
    goal = refl;
    numbers = k.numbers;
    records = records;
    steps = refl;
  }

  pub passes_again : refusal (first_claim before) ≡ none → refusal (first_claim after) ≡ none
  passes_again e = refused_alike first_alike ∙ e

  module _ (e : refusal (first_claim before) ≡ none) where
    counted : length (take count f) ≡ count
    unfolding first_claim given_words
    counted = (passes (first_claim before) e).counted

    second_room : length (second_claim after).words ≡ length (second_claim before).words
    unfolding second_claim first_claim given_words
    second_room =
        let z : ℕ = word is_bot in
        let y : ℕ = word (is_imp goal count) in
        let p = length-append (take count f1) (z ∷ y ∷ drop (count + 2) f1) in
        let q = length-append (take count f) (z ∷ y ∷ drop (count + 2) f) in
        p ∙ ap₂ (λ (m n : ℕ). m + suc (suc n)) (ap length k.given)
        (length-drop (count + 2) f1 ∙ ap (λ (n : ℕ). n - (count + 2)) k.room ∙ sym (length-drop (count + 2) f))
        ∙ sym q

    second_given : given_words (second_claim after) ≡ given_words (second_claim before)
    unfolding second_claim first_claim given_words
    second_given =
        let z : ℕ = word is_bot in
        let y : ℕ = word (is_imp goal count) in
        front (take count f1) (drop (count + 2) f1) count z y (ap length k.given ∙ counted)
        ∙ ap (λ (g : List ℕ). g ++ (z ∷ y ∷ [])) k.given
        ∙ sym (front (take count f) (drop (count + 2) f) count z y counted)

    second_alike : Alike (second_claim after) (second_claim before)
    unfolding second_claim
    second_alike = record {
      room = second_room;
      given = second_given;
      count = refl;
      assumed = refl;
      text = refl;
      goal = refl;
      numbers = k.numbers;
      records = records;
      steps = refl;
    }

    second_again : second_outcome after ≡ second_outcome before
    unfolding second_outcome
    second_again =
        ap₂ (λ (b : Bool) (o : Outcome). elim b as (λ v. Outcome) [ true ↦ o | false ↦ shortage Formulas 0 ])
        (ap (leb (count + 2)) k.room) (outcome_alike second_alike)

    open_again : goal_is_open after ≡ goal_is_open before
    unfolding goal_is_open given_book first_claim given_words
    open_again = ap (λ (g : List ℕ). open_form (form (map shape g) goal)) k.given

    -- the status of a goal that has no proof, asked again of what the first search left
    pub failed_again : failed_status after ≡ failed_status before
    unfolding failed_status
    failed_again =
        ap₂ (λ (b : Bool) (o : Outcome). elim b as (λ v. S.Status) [ false ↦ settled S.Unsolvable | true ↦ refuted o ])
        open_again second_again
