-- The status of a goal that has no proof: whether it is open, the claim with False and goal→False appended, and what the search of that
-- claim says. Assumes nothing.
use Prim.Native.Nat.{ℕ, suc, ◌+◌, ◌%◌, ◌≤◌, ◌<◌}
use mathlib.Core.Path.{◌≡◌, sym, ap, ap₂, ◌∙◌, subst}
use mathlib.Core.Bool.{Bool, true, false}
use mathlib.Core.Option.{none}
use mathlib.Core.List.{List, [], ◌∷◌, map}
use native.Mathlib.Omega.{arith}
use lib.ListN.{length, set, take, drop, replicate}
use lib.Seq.{take_at, take-take}
use Rattle.theory.specs.Form.{Good, shape, form, word, pack, is_bot, is_imp}
use Rattle.theory.specs.Call.{Claim, given_words, given_book, refusal, called}
use Rattle.theory.specs.Owed.{Passes}
use Rattle.theory.specs.Status as S
use Rattle.theory.specs.Status.{open_form, settled, refuted, Inquiry, first_claim, second_claim, second_outcome, goal_is_open}
use Rattle.theory.proofs.Passing.{passes}
use Rattle.theory.proofs.CallClaims.{given_kept, records_zero, second_room, second_no_room, second_passes}
use Rattle.context.specs.Area.{Rec, zeroed}
use Rattle.std.specs.Prelude.{Ok, Err}
use Rattle.call.specs.declared.NoAnswer.TheVariants.{Short}
use Rattle.call.specs.Outcomes.{Outcome, lack_of, outcome_of}
use Rattle.call.specs.Lent.{claim_of}
use Rattle.call.specs.Whole.{Called}
use Rattle.meter.specs.declared.Limit.TheVariants as OfLimit
use Rattle.status.specs.declared.Status.TheVariants.{Unsolvable}
use Rattle.status.specs.Answers.{Answer, status_of}
use Rattle.status.specs.Whole.{inquiry_of, failed_status}
use Rattle.status.proofs.Lists.{two_stored}

module _ (f : List ℕ) (count goal : ℕ) (t : List ℕ) (w : List Rec) (steps : ℕ) where
  abbrev x : Inquiry
  x = inquiry_of f count goal t (length w) steps

  module _ (e : refusal (first_claim x) ≡ none) where
    p : Passes (first_claim x)
    p = passes (first_claim x) e

    counted : length (take count f) ≡ count
    unfolding first_claim given_words
    counted = p.counted

    -- what the marks ask of a claim that passed
    pub marks_ask : ((goal < count) × (count ≤ length f) × (count ≤ length w)) × Good (map shape (take count f))
    unfolding first_claim given_book given_words
    marks_ask = (
      (
        omega (arith, p.goal, p.book),
        p.given,
        omega (arith, p.given, p.few_words, p.records),
      ),
      p.good,
    )

    pub few_words : count + 2 < 65536
    unfolding first_claim
    few_words = omega (arith, p.given, p.few_words)

    -- open, the second search tells; closed, it is settled
    pub goal_open : true ≡ open_form (form (map shape (take count f)) goal) → {records : ℕ} (s : Answer) → records ≡ length w →
        status_of s ≡ refuted (second_outcome (inquiry_of f count goal t records steps)) → status_of s ≡ failed_status x
    unfolding failed_status goal_is_open first_claim given_book given_words
    goal_open o s k q =
        q ∙ ap (λ (n : ℕ). refuted (second_outcome (inquiry_of f count goal t n steps))) k
        ∙ ap (λ (b : Bool). elim b as (λ v. S.Status) [ false ↦ settled S.Unsolvable | true ↦ refuted (second_outcome x) ]) o

    pub goal_closed : false ≡ open_form (form (map shape (take count f)) goal) → status_of (Ok Unsolvable) ≡ failed_status x
    unfolding failed_status goal_is_open first_claim given_book given_words status_of
    goal_closed o =
        ap (λ (b : Bool). elim b as (λ v. S.Status) [ false ↦ settled S.Unsolvable | true ↦ refuted (second_outcome x) ]) o

    -- no room for the two words: 8, and no step was entered
    pub no_room : length f < count + 2 → status_of (Err (Short OfLimit.Formulas 0)) ≡ refuted (second_outcome x)
    unfolding refuted status_of lack_of
    no_room h = ap refuted (sym (second_no_room x h))

    module _ (room : count + 2 ≤ length f) where
      -- the code's two words after the given ones are the second claim's
      pub appended : {a b : ℕ} {f1 f2 : List ℕ} → a ≡ pack (1 % 16) (0 % 16384) (0 % 16384) →
          b ≡ pack (5 % 16) (goal % 16384) (count % 16384) → f1 ≡ set f count a → f2 ≡ set f1 (count + 1) b → f2 ≡ (second_claim x).words
      unfolding second_claim first_claim given_words word
      appended {a} {b} ea eb e1 e2 =
          let g : goal % 16384 ≡ goal = omega (arith, marks_ask.0.0, few_words, p.few_words) in
          let n : count % 16384 ≡ count = omega (arith, room, p.few_words) in
          e2 ∙ ap₂ (λ (v : List ℕ) (z : ℕ). set v (count + 1) z) e1 eb
          ∙ ap₂ (λ (z y : ℕ). set (set f count z) (count + 1) y) ea (ap₂ (pack 5) g n)
          ∙ two_stored f count (pack 1 0 0) (pack 5 goal count) room

      -- so what is searched is the second claim
      is_second : {f1 : List ℕ} → f1 ≡ (second_claim x).words →
          claim_of f1 (count + 2) [] [] (count + 1) t (length w) steps ≡ second_claim x
      unfolding second_claim
      is_second e =
          ap₂ (λ (v : List ℕ) (g : ℕ). claim_of v (count + 2) [] [] g t (length w) steps) e
          (let q : count + 1 ≡ suc count = omega arith in q)

      second_front : take count (second_claim x).words ≡ take count f
      unfolding second_claim first_claim given_words
      second_front =
          take_at (take count f) (word is_bot ∷ word (is_imp goal count) ∷ drop (count + 2) f) count counted

      module _ {o : Outcome} {f1 t1 : List ℕ} {w1 : List Rec} (c : Called (second_claim x) w o f1 t1 w1) where
        refuted_so : refuted (outcome_of o) ≡ refuted (second_outcome x)
        refuted_so = ap refuted (c.outcome ∙ sym (second_room x room))

        front_kept : take count f1 ≡ take count f
        unfolding second_claim given_words
        front_kept =
            let y : Claim = second_claim x in
            let short : (v : List ℕ) → take count v ≡ take count (take (count + 2) v) =
            λ v. sym (take-take count (count + 2) v (omega arith)) in
            ap (take count) c.words ∙ short (called y).words ∙ ap (take count) (given_kept y) ∙ sym (short y.words) ∙ second_front

        zero_records : w1 ≡ replicate (length w) zeroed
        zero_records = c.records ∙ records_zero (second_claim x) zeroed w (second_passes x e room)

      pub second_answers : {o : Outcome} {f1 f2 t2 : List ℕ} {w2 : List Rec} → f1 ≡ (second_claim x).words →
          Called (claim_of f1 (count + 2) [] [] (count + 1) t (length w) steps) w o f2 t2 w2 →
          (refuted (outcome_of o) ≡ refuted (second_outcome x)) × (take count f2 ≡ take count f) × (w2 ≡ replicate (length w) zeroed)
      second_answers {o} {f1} {f2} {t2} {w2} q c =
          let d : Called (second_claim x) w o f2 t2 w2 = subst (λ (y : Claim). Called y w o f2 t2 w2) (is_second q) c in
          (refuted_so d, front_kept d, zero_records d)
