-- The whole call: what it leaves after each outcome of the first search is what theory's status leaves. Assumes nothing.
use Prim.Native.Nat.{ℕ}
use mathlib.Core.Path.{◌≡◌, refl, sym, ap, ap₂, ◌∙◌}
use mathlib.Core.Option.{none}
use mathlib.Core.List.{List, []}
use lib.ListN.{length, take, replicate, length-replicate}
use Rattle.theory.specs.NameText.{padded}
use Rattle.theory.specs.Call.{After, given_words, refusal, given_back, unchanged}
use Rattle.theory.specs.Status as S
use Rattle.theory.specs.Status.{settled, ran_short, rejected, status_numbers, judged, Inquiry, first_claim}
use Rattle.theory.specs.Status.{Asked, cleaned_up, asked}
use Rattle.theory.proofs.StatusCalls.{status_by, asked_refused, asked_cleaned}
use Rattle.theory.proofs.Called.{proves, fails, runs_short, is_refused}
use Rattle.theory.proofs.CallClaims.{lengths_kept, given_kept, records_zero, records_kept, status_says}
use Rattle.theory.specs.Owed.{Says}
use Rattle.theory.specs.Meter.{Lack}
use Rattle.theory.specs.Refusal as R
use Rattle.context.specs.Area.{Rec, zeroed}
use Rattle.std.specs.Prelude.{Result, Ok, Err, IsErr, IsErrAnd}
use Rattle.std.proofs.lemmas.Result.{err_from_is_err_and}
use Rattle.call.specs.declared.Verdict.TheVariants.{Proved, Unprovable}
use Rattle.call.specs.declared.NoAnswer.{NoAnswer}
use Rattle.call.specs.declared.NoAnswer.TheVariants.{Short, Refused}
use Rattle.call.specs.Outcomes.{Outcome, outcome_of}
use Rattle.call.specs.Lent.{claim_of}
use Rattle.call.specs.Whole.{Called}
use Rattle.call.proofs.Whole as W
use Rattle.call.proofs.Whole.{lack_back, lack_limit, broken, broken_back, refused_back}
use Rattle.meter.specs.declared.State.{State}
use Rattle.meter.specs.Moves.{limit_of}
use Rattle.status.specs.declared.Status.TheVariants.{Solvable, Unsolvable, Unknown}
use Rattle.status.specs.Answers.{Answer, status_of, numbers_of}
use Rattle.status.specs.Whole.{inquiry_of, records_left, failed_status, Answered}
use Rattle.status.proofs.Alike.{Stands, passes_again, failed_again}

-- the answer's numbers are those of theory's
pub numbers_of_lem : (s : Answer) → numbers_of s ≡ status_numbers (status_of s)
unfolding numbers_of status_of status_numbers outcome_of
numbers_of_lem (Ok Solvable) = refl
numbers_of_lem (Ok Unsolvable) = refl
numbers_of_lem (Ok Unknown) = refl
numbers_of_lem (Err (Short l n)) = W.numbers_of_lem (Err (Short l n))
numbers_of_lem (Err (Refused r)) = W.numbers_of_lem (Err (Refused r))

-- so an answer that is theory's has theory's numbers
numbers_as : (s : Answer) {t : S.Status} → status_of s ≡ t → numbers_of s ≡ status_numbers t
numbers_as s e = numbers_of_lem s ∙ ap status_numbers e

module _ (f : List ℕ) (count goal : ℕ) (t : List ℕ) (w : List Rec) (steps : ℕ) where
  abbrev x : Inquiry
  x = inquiry_of f count goal t (length w) steps

  -- a call that was not refused leaves the given words, and all else zero
  cleaned : refusal (first_claim x) ≡ none → {s : Answer} {f1 t1 : List ℕ} {w1 : List Rec} → status_of s ≡ (asked x).status →
      f1 ≡ padded (length f) (take count f) → t1 ≡ replicate (length t) 0 → w1 ≡ replicate (length w) zeroed → Answered x w s f1 t1 w1
  unfolding cleaned_up given_words first_claim records_left
  cleaned e {s} es ef et ew = let a = sym (asked_cleaned x e) in record {
    status = es;
    numbers = numbers_as s es;
    words = ef ∙ ap (λ (v : Asked). v.words) a;
    terms = et ∙ ap (λ (v : Asked). v.terms) a;
    records = ew ∙ ap (λ (v : Asked). records_left v w) a;
  }

  module _ {o : Outcome} {f1 t1 : List ℕ} {w1 : List Rec} (c : Called (claim_of f count [] [] goal t (length w) steps) w o f1 t1 w1) where
    -- what the first search leaves of the slices
    stands : Stands count f t f1 t1
    unfolding given_words
    stands = let a = claim_of f count [] [] goal t (length w) steps in record {
      room = ap length c.words ∙ (lengths_kept a).0;
      given = ap (take count) c.words ∙ given_kept a;
      numbers = ap length c.terms ∙ (lengths_kept a).1;
    }

    zero_records : refusal (first_claim x) ≡ none → w1 ≡ replicate (length w) zeroed
    unfolding first_claim
    zero_records e = c.records ∙ records_zero (claim_of f count [] [] goal t (length w) steps) zeroed w e

    same_records : refusal (first_claim x) ≡ none → length w1 ≡ length w
    same_records e = ap length (zero_records e) ∙ length-replicate (length w) zeroed

    -- and what is left when it is cleaned up
    cleaned_up_lem : refusal (first_claim x) ≡ none → {s : Answer} (f2 t2 : List ℕ) {w2 : List Rec} → status_of s ≡ (asked x).status →
        Stands count f1 t1 f2 t2 → w2 ≡ replicate (length w) zeroed →
        Answered x w s (padded (length f2) (take count f2)) (replicate (length t2) 0) w2
    cleaned_up_lem e f2 t2 es k ew =
        cleaned e es (ap₂ padded (k.room ∙ stands.room) (k.given ∙ stands.given))
        (ap (λ (n : ℕ). replicate n 0) (k.numbers ∙ stands.numbers)) ew

    -- a proof: Solvable
    pub proved_solvable : {r : ℕ} {used : State} → o ≡ Ok (Proved r used) →
        Answered x w (Ok Solvable) (padded (length f1) (take count f1)) (replicate (length t1) 0) w1
    unfolding first_claim outcome_of judged status_of
    proved_solvable d =
        let q = sym c.outcome ∙ ap outcome_of d in
        let e = (proves (first_claim x) q).passed in
        cleaned_up_lem e f1 t1 (sym (status_by x q)) (record { room = refl; given = refl; numbers = refl }) (zero_records e)

    -- a shortage with its steps; or a refusal with its place, which changes nothing
    pub not_answered : (e : NoAnswer) → o ≡ Err e → Answered x w (Err e) f1 t1 w1
    unfolding first_claim outcome_of judged status_of given_back given_words unchanged records_left
    not_answered (Short l n) d =
        let q = sym c.outcome ∙ ap outcome_of d in
        let h = runs_short (first_claim x) q in
        cleaned h.passed (sym (status_by x q)) (c.words ∙ ap (λ (v : After). v.words) h.after)
        (c.terms ∙ ap (λ (v : After). v.terms) h.after) (zero_records h.passed)
    not_answered (Refused r) d =
        let h = is_refused (first_claim x) (sym c.outcome ∙ ap outcome_of d) in
        let a = sym (asked_refused x h.is) in
        let is = ap (λ (v : Asked). v.status) a in record {
          status = is;
          numbers = numbers_as (Err (Refused r)) is;
          words = c.words ∙ ap (λ (v : After). v.words) h.after ∙ ap (λ (v : Asked). v.words) a;
          terms = c.terms ∙ ap (λ (v : After). v.terms) h.after ∙ ap (λ (v : Asked). v.terms) a;
          records = c.records ∙ records_kept (claim_of f count [] [] goal t (length w) steps) zeroed w h.is
              ∙ ap (λ (v : Asked). records_left v w) a;
        }

    module _ {used : State} (d : o ≡ Ok (Unprovable used)) where
      -- no proof: the claim passed, and the status is that of a goal without proof
      failed_passed : (refusal (first_claim x) ≡ none) × ((asked x).status ≡ failed_status x)
      unfolding first_claim outcome_of judged failed_status
      failed_passed =
          let q = sym c.outcome ∙ ap outcome_of d in ((fails (first_claim x) q).passed, status_by x q)

      -- what is asked then of what the first search left
      pub failed_asks : (refusal (first_claim (inquiry_of f1 count goal t1 (length w1) steps)) ≡ none) × (w1 ≡ replicate (length w1) zeroed)
      failed_asks = let e = failed_passed.0 in (
        passes_again count goal steps stands (same_records e) e,
        zero_records e ∙ ap (λ (m : ℕ). replicate m zeroed) (sym (same_records e)),
      )

      -- and what answers it, cleaned up, answers the whole
      pub failed_answered : {s : Answer} (f2 t2 : List ℕ) {w2 : List Rec} →
          status_of s ≡ failed_status (inquiry_of f1 count goal t1 (length w1) steps) → Stands count f1 t1 f2 t2 →
          w2 ≡ replicate (length w1) zeroed → Answered x w s (padded (length f2) (take count f2)) (replicate (length t2) 0) w2
      failed_answered f2 t2 es k ew = let e = failed_passed.0 in
          cleaned_up_lem e f2 t2
          (es ∙ failed_again count goal steps stands (same_records e) e ∙ sym failed_passed.1) k
          (ew ∙ ap (λ (m : ℕ). replicate m zeroed) (same_records e))

-- the same by other names
pub answered_as : {x : Inquiry} {w : List Rec} {s s1 : Answer} {f t f1 t1 : List ℕ} {v v1 : List Rec} → Answered x w s f t v → s1 ≡ s →
    f1 ≡ f → t1 ≡ t → v1 ≡ v → Answered x w s1 f1 t1 v1
answered_as a es ef et ev = record {
  status = ap status_of es ∙ a.status;
  numbers = ap numbers_of es ∙ a.numbers;
  words = ef ∙ a.words;
  terms = et ∙ a.terms;
  records = ev ∙ a.records;
}

-- what a question mark hands on is the same
pub carried : {A : Type 0} {e : NoAnswer} {r : Result A NoAnswer} → IsErr r × IsErrAnd r (λ x. x ≡ e) → r ≡ Err e
carried {r = r} h = let found = err_from_is_err_and r h.1 in found.1 ∙ ap Err found.2

-- no other answer is the same status of theory's
unfoldable pub back : S.Status → Answer
back (settled S.Solvable) = Ok Solvable
back (settled S.Unsolvable) = Ok Unsolvable
back (settled S.Unknown) = Ok Unknown
back (ran_short l n) = Err (Short (limit_of l) n)
back (rejected f i) = Err (Refused (broken f i))

back_is : (s : Answer) → back (status_of s) ≡ s
unfolding back status_of
back_is (Ok Solvable) = refl
back_is (Ok Unsolvable) = refl
back_is (Ok Unknown) = refl
back_is (Err (Short l n)) = rw (lack_back l)
back_is (Err (Refused r)) = rw (broken_back r)

-- and each status that theory's call comes to is one of the code's answers, with theory's numbers
pub status_back : (x : Inquiry) → status_of (back (asked x).status) ≡ (asked x).status
unfolding status_of back outcome_of
status_back x = go (asked x).status (status_says x)
  where
    go : (s : S.Status) → Says x s → status_of (back s) ≡ s
    go (settled S.Solvable) h = refl
    go (settled S.Unsolvable) h = refl
    go (settled S.Unknown) h = refl
    go (ran_short l n) h = ap (λ (k : Lack). ran_short k n) (lack_limit l)
    go (rejected f i) h = ap (λ (r : R.Refused). rejected r.fault r.place) (refused_back (first_claim x) h)

pub numbers_back : (x : Inquiry) → numbers_of (back (asked x).status) ≡ status_numbers (asked x).status
numbers_back x = numbers_as (back (asked x).status) (status_back x)

status_once : (s s' : Answer) → status_of s ≡ status_of s' → s ≡ s'
status_once s s' e = sym (back_is s) ∙ ap back e ∙ back_is s'

-- no second outcome satisfies the contract
pub answered_once : {x : Inquiry} {w : List Rec} {s s' : Answer} {f t f' t' : List ℕ} {v v' : List Rec} → Answered x w s f t v →
    Answered x w s' f' t' v' → (s ≡ s') × (f ≡ f') × (t ≡ t') × (v ≡ v')
answered_once c d = (
  status_once _ _ (c.status ∙ sym d.status),
  c.words ∙ sym d.words,
  c.terms ∙ sym d.terms,
  c.records ∙ sym d.records,
)
