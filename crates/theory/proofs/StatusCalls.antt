-- The status: its second claim is never refused, how each status comes about, its numbers, and what it says of the goal. Assumes nothing.
use Prim.Native.Nat.{ℕ, suc, ◌+◌, ◌-◌, ◌≤◌, ◌<◌}
use mathlib.Core.Path.{◌≡◌, refl, sym, ap, ap₂, ◌∙◌, subst}
use mathlib.Core.Bool.{Bool, true, false, ◌&&◌}
use mathlib.Core.Option.{Option, none, some}
use mathlib.Core.Logic.{◌⊎◌, inl, inr, ◌↔◌}
use mathlib.Core.List.{List, [], ◌∷◌, ◌++◌, map, map-append, append_assoc}
use native.Mathlib.Omega.{arith}
use borrow.Author.Tests.{leb-true, leb-false, le-leb, lt-leb}
use lib.Dec.{T, leb, ltb, le→leb, lt→ltb}
use lib.ListN.{length, take, drop, length-append, length-drop, length-take, length-replicate}
use lib.Seq.{take_at}
use Rattle.theory.specs.Form.{Form, bot, imp, Shape, is_bot, is_imp, Book, form, tree_of, shape, word, bad_word, Good}
use Rattle.theory.specs.Term.{Term, term, Derives}
use Rattle.theory.specs.NameText.{bad_name_from, bad_name}
use Rattle.theory.specs.Layout.{nodes_in}
use Rattle.theory.specs.Meter.{Lack, Steps, Formulas}
use Rattle.theory.specs.Refusal.{Fault, Sizes, BadFormula, BadAssumption, BadNames, BadGoal, Refused, formula_sizes, term_sizes}
use Rattle.theory.specs.Refusal.{work_sizes, too_many, outside_from, bad_assumption, bad_goal}
use Rattle.theory.specs.Call.{Claim, right_sizes, given_words, given_book, refusal, Outcome, proved, unprovable, shortage, refused}
use Rattle.theory.specs.Call.{After, numbers, given_back, unchanged, called}
use Rattle.theory.specs.Status.{Solvable, Unsolvable, Unknown, Status, settled, ran_short, rejected, status_numbers, refuted, judged}
use Rattle.theory.specs.Status.{Inquiry, first_claim, second_claim, second_outcome, goal_is_open, Asked, cleaned_up, left_by, asked}
use Rattle.theory.specs.Owed.{Decided, is_proved, is_unprovable, Unproved, no_proof, SearchesAgain, Underivable, asks_for, Says, Passes}
use Rattle.theory.proofs.Tests.{and_T}
use Rattle.theory.proofs.Words.{shape_word, words_pass, passes_append}
use Rattle.theory.proofs.Forms.{snoc_length, ext_by, At, at_ext, at_form, at_new, good_more, imp_new}
use Rattle.theory.proofs.Passing.{not_both, none_or, none_fault, none_unless, term_part, work_part, passes}
use Rattle.theory.proofs.Called.{Proves, Fails, RunsShort, IsRefused, Told, t_proved, t_unprovable, t_shortage, t_refused, told}
use Rattle.theory.proofs.Called.{is_refused, refused_call}
use Rattle.theory.proofs.Slices.{steps_at_limit}
use Rattle.theory.proofs.Fitted.{padded_length}
use Rattle.theory.proofs.Outcomes.{proved_derives, failed_none}

module _ (x : Inquiry) (e : refusal (first_claim x) ≡ none) (room : x.count + 2 ≤ length x.words) where
  p : Passes (first_claim x)
  p = passes (first_claim x) e

  given : List ℕ
  given = given_words (first_claim x)

  -- False and goal→False
  added : List ℕ
  added = word is_bot ∷ word (is_imp x.goal x.count) ∷ []

  rest : List ℕ
  rest = drop (x.count + 2) x.words

  given_count : length given ≡ x.count
  unfolding given first_claim
  given_count = p.counted

  book_count : length (given_book (first_claim x)) ≡ x.count
  unfolding first_claim
  book_count = p.book

  goal_inside : x.goal < length (given_book (first_claim x))
  unfolding first_claim
  goal_inside = p.goal

  goal_below : x.goal < x.count
  goal_below = omega (arith, goal_inside, book_count)

  small : x.count + 2 ≤ 16384
  unfolding first_claim
  small = omega (arith, p.few_words)

  second_words : (second_claim x).words ≡ (given ++ added) ++ rest
  unfolding second_claim given added rest
  second_words = sym (append_assoc given added rest)

  more_count : length (given ++ added) ≡ x.count + 2
  unfolding added
  more_count = length-append given added ∙ ap (λ (k : ℕ). k + 2) given_count

  second_length : length (second_claim x).words ≡ length x.words
  unfolding rest
  second_length =
      let a : length ((given ++ added) ++ rest) ≡ length (given ++ added) + length rest = length-append (given ++ added) rest in
      let b : length rest ≡ length x.words - (x.count + 2) = length-drop (x.count + 2) x.words in
      let c : length (second_claim x).words ≡ length ((given ++ added) ++ rest) = ap length second_words in
      omega (arith, more_count)

  second_given : given_words (second_claim x) ≡ given ++ added
  unfolding given_words second_claim given added rest
  second_given = ap (take (x.count + 2)) second_words ∙ take_at (given ++ added) rest (x.count + 2) more_count

  second_good : bad_word (given ++ added) ≡ none
  unfolding bad_word given added
  second_good =
      passes_append [] given added p.words
      (words_pass given (is_bot ∷ is_imp x.goal x.count ∷ [])
      (tt, ((omega (arith, goal_below, small), omega (arith, small)), tt)) (tt, (tt, tt))
      (tt, ((omega (arith, goal_below, given_count), omega (arith, given_count)), tt)))

  second_sizes : T (right_sizes (second_claim x))
  unfolding right_sizes formula_sizes first_claim second_claim
  second_sizes =
      let n : length x.words ≤ 16384 = p.few_words in
      and_T (formula_sizes (length (second_claim x).words) (x.count + 2))
      (term_sizes (length x.terms) && work_sizes x.records x.step_limit)
      (and_T (leb (length (second_claim x).words) 16384) (leb (x.count + 2) (length (second_claim x).words))
      (le→leb (length (second_claim x).words) 16384 (omega (arith, second_length)))
      (le→leb (x.count + 2) (length (second_claim x).words) (omega (arith, second_length))))
      (and_T (term_sizes (length x.terms)) (work_sizes x.records x.step_limit) (term_part (first_claim x) p.sizes)
      (work_part (first_claim x) p.sizes))

  -- the second claim passes where the first does and there is room for the two words
  pub second_passes : refusal (second_claim x) ≡ none
  unfolding refusal second_claim bad_assumption too_many outside_from bad_name bad_name_from bad_goal
  second_passes =
      none_or _ _ (none_fault Sizes _ (none_unless (right_sizes (second_claim x)) second_sizes))
      (none_or _ _ (none_fault BadFormula _ (ap bad_word second_given ∙ second_good))
      (none_or _ _ (none_fault BadAssumption _ refl) (none_or _ _ (none_fault BadNames _ refl)
      (none_fault BadGoal _ (none_unless (ltb (suc x.count) (x.count + 2)) (lt→ltb (suc x.count) (x.count + 2) (omega arith)))))))

  -- its goal is the first goal's negation
  second_book : given_book (second_claim x) ≡ given_book (first_claim x) ++ (is_bot ∷ is_imp x.goal x.count ∷ [])
  unfolding given_book given added
  second_book =
      ap (map shape) second_given ∙ map-append shape given added
      ∙ ap₂ (λ (v w : Shape). map shape given ++ (v ∷ w ∷ [])) (shape_word is_bot tt)
      (shape_word (is_imp x.goal x.count) (omega (arith, goal_below, small), omega (arith, small)))

  pub second_goal : form (given_book (second_claim x)) (suc x.count) ≡ imp (asks_for x) bot
  unfolding tree_of
  second_goal =
      let ws : Book = given_book (first_claim x) in
      let g : Good (ws ++ (is_bot ∷ [])) = good_more ws (is_bot ∷ []) p.good (tt, tt) in
      let b : At (ws ++ (is_bot ∷ [])) (length ws) bot = at_new ws is_bot [] g in
      let a : At (ws ++ (is_bot ∷ [])) x.goal (asks_for x) = at_ext (ext_by ws (is_bot ∷ [])) (at_form ws x.goal goal_inside) in
      ap₂ form (second_book ∙ ap (λ (k : ℕ). ws ++ (is_bot ∷ is_imp x.goal k ∷ [])) (sym book_count)
      ∙ sym (append_assoc ws (is_bot ∷ []) (is_imp x.goal (length ws) ∷ [])))
      (ap suc (sym book_count) ∙ sym (snoc_length ws is_bot))
      ∙ (imp_new (ws ++ (is_bot ∷ [])) x.goal (length ws) g a b).1.tree

  second_derives : {r n u f t : ℕ} → Proves (second_claim x) r n u f t → (s : Term) × Derives [] s (imp (asks_for x) bot)
  unfolding second_claim
  second_derives {r} {n} {u} {f} {t} k =
      let s : Term = term (map shape (take f (called (second_claim x)).words)) (nodes_in (called (second_claim x)).terms t) r in
      (s, subst (λ (A : Form). Derives [] s A) second_goal (proved_derives (second_claim x) k))

  second_none : {n u f t : ℕ} → Fails (second_claim x) n u f t → Underivable (imp (asks_for x) bot)
  unfolding second_claim
  second_none k s d = failed_none (second_claim x) k s (subst (λ (A : Form). Derives [] s A) (sym second_goal) d)

-- with room for the two words the second outcome is that of the second claim, without it a shortage of formulas in which no step was
-- entered
pub second_room : (x : Inquiry) → x.count + 2 ≤ length x.words → second_outcome x ≡ (called (second_claim x)).outcome
unfolding second_outcome
second_room x h =
    ap (λ (b : Bool). elim b as (λ v. Outcome) [ true ↦ (called (second_claim x)).outcome | false ↦ shortage Formulas 0 ])
    (le-leb (x.count + 2) (length x.words) h)

pub second_no_room : (x : Inquiry) → length x.words < x.count + 2 → second_outcome x ≡ shortage Formulas 0
unfolding second_outcome
second_no_room x h =
    ap (λ (b : Bool). elim b as (λ v. Outcome) [ true ↦ (called (second_claim x)).outcome | false ↦ shortage Formulas 0 ])
    (lt-leb (x.count + 2) (length x.words) h)

-- so what holds of the one with room, and of the other without, holds of the second outcome
pub second_by : (x : Inquiry) (P : Outcome → Type 0) → (x.count + 2 ≤ length x.words → P (called (second_claim x)).outcome) →
    (length x.words < x.count + 2 → P (shortage Formulas 0)) → P (second_outcome x)
second_by x P with_room without = go (leb (x.count + 2) (length x.words)) refl
  where
    go : (b : Bool) → leb (x.count + 2) (length x.words) ≡ b → P (second_outcome x)
    go true q = let h = leb-true (x.count + 2) (length x.words) q in subst P (sym (second_room x h)) (with_room h)
    go false q = let h = leb-false (x.count + 2) (length x.words) q in subst P (sym (second_no_room x h)) (without h)

-- the outcomes of a claim that failed and of one that ran short
failed_outcome : (y : Claim) {n u f t : ℕ} → Fails y n u f t → Unproved (called y).outcome
unfolding given_back
failed_outcome y h = subst (λ (a : After). Unproved a.outcome) (sym h.after) no_proof

short_outcome : (y : Claim) {l : Lack} {n : ℕ} → RunsShort y l n → (called y).outcome ≡ shortage l n
unfolding given_back
short_outcome y h = ap (λ (a : After). a.outcome) h.after

-- the status is the verdict on the two searches
pub asked_status : (x : Inquiry) → (asked x).status ≡ judged (called (first_claim x)).outcome (goal_is_open x) (second_outcome x)
unfolding asked left_by cleaned_up
asked_status x = go (judged (called (first_claim x)).outcome (goal_is_open x) (second_outcome x))
  where
    go : (s : Status) → (left_by x s).status ≡ s
    go (settled v) = refl
    go (ran_short l n) = refl
    go (rejected f i) = refl

-- by the first search's outcome
pub status_by : (x : Inquiry) {o : Outcome} → (called (first_claim x)).outcome ≡ o →
    (asked x).status ≡ judged o (goal_is_open x) (second_outcome x)
status_by x e = asked_status x ∙ ap (λ (o : Outcome). judged o (goal_is_open x) (second_outcome x)) e

-- how a status comes about: by the first search, or, where that ended without a proof on an open goal, by the second
data Reached (x : Inquiry) : Status → Type 0 where
  proved_first : {r n u f t : ℕ} → Proves (first_claim x) r n u f t → Reached x (settled Solvable)
  closed_goal : {n u f t : ℕ} → Fails (first_claim x) n u f t → goal_is_open x ≡ false → Reached x (settled Unsolvable)
  proved_second : {n u f t : ℕ} → Fails (first_claim x) n u f t → T (goal_is_open x) → x.count + 2 ≤ length x.words →
      {r n' u' f' t' : ℕ} → Proves (second_claim x) r n' u' f' t' → Reached x (settled Unsolvable)
  failed_second_lem : {n u f t : ℕ} → Fails (first_claim x) n u f t → T (goal_is_open x) → x.count + 2 ≤ length x.words →
      {n' u' f' t' : ℕ} → Fails (second_claim x) n' u' f' t' → Reached x (settled Unknown)
  short_first : {l : Lack} {n : ℕ} → RunsShort (first_claim x) l n → Reached x (ran_short l n)
  short_second : {n u f t : ℕ} → Fails (first_claim x) n u f t → T (goal_is_open x) → x.count + 2 ≤ length x.words →
      {l : Lack} {n' : ℕ} → RunsShort (second_claim x) l n' → Reached x (ran_short l n')
  no_room : {n u f t : ℕ} → Fails (first_claim x) n u f t → T (goal_is_open x) → length x.words < x.count + 2 →
      Reached x (ran_short Formulas 0)
  refused_first : {f : Fault} {i : ℕ} → IsRefused (first_claim x) f i → Reached x (rejected f i)

reached : (x : Inquiry) → Reached x (asked x).status
unfolding judged refuted
reached x = subst (Reached x) (sym (asked_status x)) (first (told (first_claim x)))
  where
    ends : {n u f t : ℕ} → Fails (first_claim x) n u f t → T (goal_is_open x) → x.count + 2 ≤ length x.words →
        {o : Outcome} → Told (second_claim x) o → Reached x (refuted o)
    ends h is_open room (t_proved k) = proved_second h is_open room k
    ends h is_open room (t_unprovable k) = failed_second_lem h is_open room k
    ends h is_open room (t_shortage k) = short_second h is_open room k
    ends h is_open room (t_refused k) = absurd (not_both (refusal (second_claim x)) (second_passes x h.passed room) k.is)

    second : {n u f t : ℕ} → Fails (first_claim x) n u f t → T (goal_is_open x) → Reached x (refuted (second_outcome x))
    second h is_open =
        second_by x (λ (o : Outcome). Reached x (refuted o)) (λ room. ends h is_open room (told (second_claim x)))
        (λ few. no_room h is_open few)

    verdict : {n u f t : ℕ} → Fails (first_claim x) n u f t → (b : Bool) → goal_is_open x ≡ b →
        Reached x (elim b [ false ↦ settled Unsolvable | true ↦ refuted (second_outcome x) ])
    verdict h true is = second h (subst T (sym is) tt)
    verdict h false is = closed_goal h is

    first : {o : Outcome} → Told (first_claim x) o → Reached x (judged o (goal_is_open x) (second_outcome x))
    first (t_proved h) = proved_first h
    first (t_unprovable h) = verdict h (goal_is_open x) refl
    first (t_shortage h) = short_first h
    first (t_refused h) = refused_first h

-- the verdict on two outcomes, the first without a proof and the goal open
judged_unknown : {o second : Outcome} (b : Bool) → Unproved o → T b → Unproved second → judged o b second ≡ settled Unknown
unfolding judged refuted
judged_unknown false unproved is_open second = elim is_open [ ]
judged_unknown true no_proof is_open no_proof = refl

judged_short : {o : Outcome} (b : Bool) → Unproved o → T b → (l : Lack) (n : ℕ) → judged o b (shortage l n) ≡ ran_short l n
unfolding judged refuted
judged_short false unproved is_open l n = elim is_open [ ]
judged_short true no_proof is_open l n = refl

module _ (x : Inquiry) where
  -- the second search is never refused
  pub second_taken : refusal (first_claim x) ≡ none → (f : Fault) (i : ℕ) → second_outcome x ≡ refused f i → ⊥
  second_taken e f i =
      second_by x (λ (o : Outcome). o ≡ refused f i → ⊥)
      (λ room q. not_both (refusal (second_claim x)) (second_passes x e room) (is_refused (second_claim x) q).is)
      (λ few q. let z : ◌≡◌ {A = ℕ} 0 1 = cc in omega arith)

  -- Unknown exactly if both searches ended without a proof, the goal being open
  pub unknown_exactly : ((asked x).status ≡ settled Unknown) ↔ (SearchesAgain x × Unproved (second_outcome x))
  unknown_exactly = (
    λ e. from (subst (Reached x) e (reached x)),
    λ h. asked_status x ∙ judged_unknown (goal_is_open x) h.0.0 h.0.1 h.1,
  )
    where
      from : Reached x (settled Unknown) → SearchesAgain x × Unproved (second_outcome x)
      from (failed_second_lem h is_open room k) =
          ((failed_outcome (first_claim x) h, is_open), subst Unproved (sym (second_room x room)) (failed_outcome (second_claim x) k))

  -- a shortage exactly if the first search ran short, or ended without a proof on an open goal and the second ran short
  pub short_exactly : (l : Lack) (n : ℕ) → ((asked x).status ≡ ran_short l n) ↔
      (((called (first_claim x)).outcome ≡ shortage l n) ⊎ (SearchesAgain x × (second_outcome x ≡ shortage l n)))
  unfolding judged
  short_exactly l n = (λ e. from (subst (Reached x) e (reached x)), to)
    where
      from : {k : Lack} {m : ℕ} → Reached x (ran_short k m) →
          ((called (first_claim x)).outcome ≡ shortage k m) ⊎ (SearchesAgain x × (second_outcome x ≡ shortage k m))
      from (short_first h) = inl (short_outcome (first_claim x) h)
      from (short_second h is_open room k) =
          inr ((failed_outcome (first_claim x) h, is_open), second_room x room ∙ short_outcome (second_claim x) k)
      from (no_room h is_open few) = inr ((failed_outcome (first_claim x) h, is_open), second_no_room x few)

      to : ((called (first_claim x)).outcome ≡ shortage l n) ⊎ (SearchesAgain x × (second_outcome x ≡ shortage l n)) →
          (asked x).status ≡ ran_short l n
      to (inl e) = status_by x e
      to (inr h) =
          asked_status x ∙ ap (judged (called (first_claim x)).outcome (goal_is_open x)) h.1
          ∙ judged_short (goal_is_open x) h.0.0 h.0.1 l n

  -- "for 6, the limit", of either search
  pub short_steps : {n : ℕ} → (asked x).status ≡ ran_short Steps n → n ≡ x.step_limit
  unfolding first_claim second_claim
  short_steps {n} e = from (subst (Reached x) e (reached x))
    where
      from : Reached x (ran_short Steps n) → n ≡ x.step_limit
      from (short_first h) = steps_at_limit (first_claim x) h
      from (short_second h is_open room k) = steps_at_limit (second_claim x) k

  -- the numbers of a status: those of the first search where that is no Proved and no Unprovable ..
  pub status_numbers_lem : ¬ Decided (called (first_claim x)).outcome →
      status_numbers (asked x).status ≡ numbers (called (first_claim x)).outcome
  unfolding status_numbers judged
  status_numbers_lem n = ap status_numbers (asked_status x) ∙ go (called (first_claim x)).outcome n
    where
      go : (o : Outcome) → ¬ Decided o → status_numbers (judged o (goal_is_open x) (second_outcome x)) ≡ numbers o
      go (proved r n u f t) d = absurd (d is_proved)
      go (unprovable n u f t) d = absurd (d is_unprovable)
      go (shortage l n) d = refl
      go (refused f i) d = refl

  -- .. those of the second where it is asked for and is neither ..
  pub second_numbers : SearchesAgain x → ¬ Decided (second_outcome x) →
      status_numbers (asked x).status ≡ numbers (second_outcome x)
  unfolding status_numbers judged refuted
  second_numbers again d = ap status_numbers (asked_status x) ∙ go (goal_is_open x) again.0 again.1 (second_outcome x) d
    where
      go : {o : Outcome} (b : Bool) → Unproved o → T b → (second : Outcome) → ¬ Decided second →
          status_numbers (judged o b second) ≡ numbers second
      go false unproved is_open second d = elim is_open [ ]
      go true no_proof is_open (proved r n u f t) d = absurd (d is_proved)
      go true no_proof is_open (unprovable n u f t) d = absurd (d is_unprovable)
      go true no_proof is_open (shortage l n) d = refl
      go true no_proof is_open (refused f i) d = refl

  -- .. and all 0 where each search that was made is Proved or Unprovable
  pub verdict_numbers : Decided (called (first_claim x)).outcome → (SearchesAgain x → Decided (second_outcome x)) →
      status_numbers (asked x).status ≡ record { number = 0; place = 0; root = 0; steps = 0; indices = 0; formulas = 0; terms = 0 }
  unfolding status_numbers judged refuted
  verdict_numbers d later = ap status_numbers (asked_status x) ∙ go (goal_is_open x) d later
    where
      second : {o : Outcome} → Decided o →
          status_numbers (refuted o) ≡ record { number = 0; place = 0; root = 0; steps = 0; indices = 0; formulas = 0; terms = 0 }
      second is_proved = refl
      second is_unprovable = refl

      go : {o : Outcome} (b : Bool) → Decided o → (Unproved o × T b → Decided (second_outcome x)) →
          status_numbers (judged o b (second_outcome x)) ≡
          record { number = 0; place = 0; root = 0; steps = 0; indices = 0; formulas = 0; terms = 0 }
      go b is_proved later = refl
      go false is_unprovable later = refl
      go true is_unprovable later = second (later (no_proof, tt))

  first_derives : {r n u f t : ℕ} → Proves (first_claim x) r n u f t → (s : Term) × Derives [] s (asks_for x)
  unfolding first_claim
  first_derives {r} {n} {u} {f} {t} h = (
    term (map shape (take f (called (first_claim x)).words)) (nodes_in (called (first_claim x)).terms t) r,
    proved_derives (first_claim x) h,
  )

  first_none : {n u f t : ℕ} → Fails (first_claim x) n u f t → Underivable (asks_for x)
  unfolding first_claim
  first_none h = failed_none (first_claim x) h

  -- what each status says
  pub status_says : Says x (asked x).status
  unfolding unchanged
  status_says = says (reached x)
    where
      says : {s : Status} → Reached x s → Says x s
      says (proved_first h) = first_derives h
      says (closed_goal h closed) = (first_none h, λ is_open. absurd (subst T closed is_open))
      says (proved_second h is_open room k) = (first_none h, λ t. second_derives x h.passed room k)
      says (failed_second_lem h is_open room k) = (first_none h, second_none x h.passed room k, is_open)
      says (short_first h) = inl (short_outcome (first_claim x) h)
      says (short_second h is_open room k) =
          inr ((failed_outcome (first_claim x) h, is_open), first_none h, second_room x room ∙ short_outcome (second_claim x) k)
      says (no_room h is_open few) = inr ((failed_outcome (first_claim x) h, is_open), first_none h, second_no_room x few)
      says (refused_first h) = ap (λ (a : After). a.outcome) h.after

  -- an input that is refused is left as it was
  pub asked_refused : {r : Refused} → refusal (first_claim x) ≡ some r →
      asked x ≡ record { status = rejected r.fault r.place; words = x.words; terms = x.terms; cleared = false }
  unfolding asked left_by judged unchanged
  asked_refused e =
      ap (λ (o : Outcome). left_by x (judged o (goal_is_open x) (second_outcome x)))
      (ap (λ (a : After). a.outcome) (refused_call (first_claim x) e))

  -- after any other status the given words stand, and all else is zero
  pub asked_cleaned : refusal (first_claim x) ≡ none → asked x ≡ cleaned_up x (asked x).status
  unfolding asked left_by
  asked_cleaned e = ap (left_by x) (sym (asked_status x)) ∙ go (reached x)
    where
      go : {s : Status} → Reached x s → left_by x s ≡ cleaned_up x s
      go (proved_first h) = refl
      go (closed_goal h closed) = refl
      go (proved_second h is_open room k) = refl
      go (failed_second_lem h is_open room k) = refl
      go (short_first h) = refl
      go (short_second h is_open room k) = refl
      go (no_room h is_open few) = refl
      go (refused_first h) = absurd (not_both (refusal (first_claim x)) e h.is)

  -- no slice changes its length
  pub asked_lengths : (length (asked x).words ≡ length x.words) × (length (asked x).terms ≡ length x.terms)
  unfolding cleaned_up given_words first_claim
  asked_lengths = go (refusal (first_claim x)) refl
    where
      go : (o : Option Refused) → refusal (first_claim x) ≡ o →
          (length (asked x).words ≡ length x.words) × (length (asked x).terms ≡ length x.terms)
      go none e = (
        ap (λ (a : Asked). length a.words) (asked_cleaned e)
            ∙ padded_length (take x.count x.words) (length x.words) (omega (arith, length-take x.count x.words)),
        ap (λ (a : Asked). length a.terms) (asked_cleaned e) ∙ length-replicate (length x.terms) 0,
      )
      go (some r) e = (ap (λ (a : Asked). length a.words) (asked_refused e), ap (λ (a : Asked). length a.terms) (asked_refused e))
