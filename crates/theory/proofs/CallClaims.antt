-- What is claimed of the whole call, of the writer, the status and the program, each claim in its final form; the proofs stand in the
-- modules cited. Assumes nothing.
use Prim.Native.Nat.{ℕ, ◌*◌, ◌+◌, ◌≤◌, ◌<◌}
use mathlib.Core.Path.{◌≡◌, sym, ap, ◌∙◌, subst}
use mathlib.Core.Bool.{false, ◌&&◌}
use mathlib.Core.Option.{none, some}
use mathlib.Core.Logic.{◌≢◌, ◌⊎◌, ◌↔◌}
use mathlib.Core.List.{List, [], ◌∷◌, map}
use lib.Dec.{T}
use lib.ListN.{length, take, replicate}
use Rattle.theory.specs.Form.{form, shape, bad_word}
use Rattle.theory.specs.Term.{Term, term, Derives, AllNamesHave}
use Rattle.theory.specs.Names.{spell, skipped, bytes_of, GoodName}
use Rattle.theory.specs.NameText.{names_in, bad_name, padded, emptied, last_index, name_alone}
use Rattle.theory.specs.Layout.{node_width, nodes_in, bad_node_from, bad_term}
use Rattle.theory.specs.World.{Tree, model_of, ForcesEach, first_world}
use Rattle.theory.specs.Kripke.{Lawful, frame, forces}
use Rattle.theory.specs.Meter.{Lack, Steps, Formulas, State, found, failed, short, unfinished}
use Rattle.theory.specs.Log.{Logged, read_off}
use Rattle.theory.specs.Written.{assumptions, Logs}
use Rattle.theory.specs.Text.{term_text}
use Rattle.theory.specs.Refusal.{Fault, Sizes, BadFormula, Refused, formula_sizes, node_sizes, bad_assumption, fault_number, lack_number}
use Rattle.theory.specs.Call.{Claim, given_words, given_book, refusal, search_limits, searched, proved, unprovable, shortage, refused}
use Rattle.theory.specs.Call.{numbers, After, records_after, given_back, unchanged, answered, called, right_sizes}
use Rattle.theory.specs.Writer.{term_depth, Draft, draft_after, writer_refusal, drafted, not_written, written}
use Rattle.theory.specs.Status.{Unknown, settled, ran_short, rejected, status_numbers, Inquiry, first_claim, second_claim, second_outcome}
use Rattle.theory.specs.Status.{cleaned_up, asked}
use Rattle.theory.specs.File.{File, decoded, claim_of, refused_line, printed}
use Rattle.theory.specs.Places.{LowestWord, Mixed, FirstOutside, FirstFaulty, LowestNode}
use Rattle.theory.specs.Owed.{Faulty, RefusedUpTo, Bounds, ZeroAbove, Grown, FitIn, Lent, Decided, Unproved, SearchesAgain, Says}
use Rattle.theory.specs.Owed.{Passes}
use Rattle.theory.proofs.Written.{one_log_only}
use Rattle.theory.proofs.Passing.{passes}
use Rattle.theory.proofs.Called
use Rattle.theory.proofs.Slices
use Rattle.theory.proofs.Returned
use Rattle.theory.proofs.Outcomes
use Rattle.theory.proofs.MoreRoom
use Rattle.theory.proofs.Writes
use Rattle.theory.proofs.Fitted
use Rattle.theory.proofs.StatusCalls
use Rattle.theory.proofs.Faults
use Rattle.theory.proofs.FirstFaults
use Rattle.theory.proofs.FirstName
use Rattle.theory.proofs.OneKind
use Rattle.theory.proofs.FileRead
use Rattle.theory.proofs.Printed

module _ (x : Claim) where
  -- "each call ends with an answer or a refusal": the step limit bounds the depth, so that the search is never unfinished
  pub never_unfinished : searched x ≢ unfinished
  never_unfinished = Called.never_unfinished x

  -- a refusal comes exactly when one of the tests 1 to 5 refuses, with the fault and the place of the first that does
  pub refused_exactly : (f : Fault) (i : ℕ) → ((called x).outcome ≡ refused f i) ↔ (refusal x ≡ some (record { fault = f; place = i }))
  unfolding unchanged
  refused_exactly f i = (λ e. (Called.is_refused x e).is, λ e. ap (λ (a : After). a.outcome) (Called.refused_call x e))

  -- the fault says which test refused, those before it having passed, and the place is 0 for 1 and 5
  pub refused_says : {f : Fault} {i : ℕ} → (called x).outcome ≡ refused f i → Faulty x f i
  refused_says {f} {i} e = Faults.refused_says x (record { fault = f; place = i }) (Called.is_refused x e).is

  -- of right sizes, the lowest faulty word is refused with 2 at its place
  pub word_refused : T (right_sizes x) → {i : ℕ} → bad_word (given_words x) ≡ some i → (called x).outcome ≡ refused BadFormula i
  unfolding refusal unchanged
  word_refused t e = ap (λ (a : After). a.outcome) (Called.refused_call x (Faults.word_refused (right_sizes x) _ t e))

  -- "one symbol, one kind": so is a book in which a symbol stands under two leaf kinds, at the later of two words that show it or lower
  pub mixed_call : T (right_sizes x) → (i : ℕ) → Mixed (given_words x) i → RefusedUpTo x i
  mixed_call t i m =
      let r = OneKind.mixed_refused (given_words x) i m in
      record { place = r.place; not_above = r.not_above; outcome = word_refused t r.is }

  -- "a refused input changes no buffer"
  pub refused_unchanged : {f : Fault} {i : ℕ} → (called x).outcome ≡ refused f i →
      ((called x).words ≡ x.words) × ((called x).terms ≡ x.terms) × ((called x).cleared ≡ false)
  unfolding unchanged
  refused_unchanged e =
      let h = Called.is_refused x e in
      (ap (λ (a : After). a.words) h.after, ap (λ (a : After). a.terms) h.after, ap (λ (a : After). a.cleared) h.after)

  -- a claim that is not refused has what the search's theorems ask for
  pub passed_facts : refusal x ≡ none → Passes x
  passed_facts = passes x

  -- no slice changes its length
  pub lengths_kept : (length (called x).words ≡ length x.words) × (length (called x).terms ≡ length x.terms)
  lengths_kept = Slices.lengths x

  -- the numbers that come back, by the definition that gives them. Of a refusal its number in the table and its place, "other numbers 0"
  pub numbers_refused : {r : Refused} → refusal x ≡ some r → numbers (called x).outcome ≡
      record { number = fault_number r.fault; place = r.place; root = 0; steps = 0; indices = 0; formulas = 0; terms = 0 }
  unfolding unchanged numbers
  numbers_refused e = ap (λ (a : After). numbers a.outcome) (Called.refused_call x e)

  -- "Proved returns root, steps, generated indices used, formula fill, term fill": those of the search
  pub numbers_proved : refusal x ≡ none → {t : ℕ} {s : State} → searched x ≡ found t s → numbers (called x).outcome ≡ record {
    number = 0;
    place = 0;
    root = t;
    steps = s.steps;
    indices = s.used;
    formulas = length s.words;
    terms = length s.nodes;
  }
  unfolding answered numbers
  numbers_proved e p = ap (λ (a : After). numbers a.outcome) (Called.passed_call x e ∙ ap (answered x) p)

  -- "Unprovable returns steps and indices, with fills equal to the given count and 0"
  pub numbers_unprovable : refusal x ≡ none → {u n : ℕ} {K : Tree} → searched x ≡ failed u n K → numbers (called x).outcome ≡
      record { number = 0; place = 0; root = 0; steps = n; indices = u; formulas = x.count; terms = 0 }
  unfolding answered given_back numbers
  numbers_unprovable e p = ap (λ (a : After). numbers a.outcome) (Called.passed_call x e ∙ ap (answered x) p)

  -- "6 to 11 return the steps entered (for 6, the limit), other numbers 0"
  pub numbers_shortage : refusal x ≡ none → {l : Lack} {n : ℕ} → searched x ≡ short l n → numbers (called x).outcome ≡
      record { number = lack_number l; place = 0; root = 0; steps = n; indices = 0; formulas = 0; terms = 0 }
  unfolding answered given_back numbers
  numbers_shortage e p = ap (λ (a : After). numbers a.outcome) (Called.passed_call x e ∙ ap (answered x) p)

  pub numbers_six : (numbers (called x).outcome).number ≡ 6 → (numbers (called x).outcome).steps ≡ x.step_limit
  numbers_six = Outcomes.number_six x

  -- steps, indices and fills are within what was lent, whatever the outcome
  pub numbers_lent : Lent x (numbers (called x).outcome)
  numbers_lent = Outcomes.numbers_lent x

  -- the same by outcome; a proved term's root is one of its nodes, and Unprovable's fills are the given count and 0
  pub numbers_fit : FitIn x (called x).outcome
  numbers_fit = Outcomes.numbers_fit x

  -- "for 6, the limit", of the outcome
  pub shortage_steps : {n : ℕ} → (called x).outcome ≡ shortage Steps n → n ≡ x.step_limit
  shortage_steps e = Slices.steps_at_limit x (Called.runs_short x e)

  -- "the given formula words are unchanged", whatever the outcome
  pub given_kept : take x.count (called x).words ≡ given_words x
  given_kept = Outcomes.given_stands x

  -- "all formula words and term nodes above the fills are zero (after 6 to 11, all above the given count and above 0), and every work
  -- record is zero"
  pub proved_zero : {r n u f t : ℕ} → (called x).outcome ≡ proved r n u f t → ZeroAbove (called x) f t
  proved_zero e = Slices.proved_clear x (Called.proves x e)

  pub unprovable_zero : {n u f t : ℕ} → (called x).outcome ≡ unprovable n u f t → ZeroAbove (called x) f t
  unprovable_zero {n} {u} {f} {t} e =
      let h = Called.fails x e in
      subst (ZeroAbove (called x) f) (sym h.terms) (subst (λ (k : ℕ). ZeroAbove (called x) k 0) (sym h.formulas)
      (Slices.back_clear x h.passed _ h.after))

  pub shortage_zero : {l : Lack} {n : ℕ} → (called x).outcome ≡ shortage l n → ZeroAbove (called x) x.count 0
  shortage_zero e = let h = Called.runs_short x e in Slices.back_clear x h.passed _ h.after

  pub records_zero : {R : Type 0} (z : R) (rs : List R) → refusal x ≡ none → records_after z (called x) rs ≡ replicate (length rs) z
  records_zero = Outcomes.records_after_lem x

  pub records_kept : {R : Type 0} (z : R) (rs : List R) {r : Refused} → refusal x ≡ some r → records_after z (called x) rs ≡ rs
  unfolding unchanged records_after
  records_kept z rs e = ap (λ (a : After). records_after z a rs) (Called.refused_call x e)

  -- "a shortage exactly when the limit is passed": the answer is read off the one log of the search without limits
  pub exact_call : refusal x ≡ none → (l : Logged) × Logs (names_in x.text) (given_book x) x.assumed x.goal l ×
      (called x ≡ answered x (read_off (search_limits x) l))
  exact_call e = let l = Called.logged_call x e in (l.0, l.1, Called.read_call x e l.0 l.1)

  pub log_only : {l m : Logged} → Logs (names_in x.text) (given_book x) x.assumed x.goal l →
      Logs (names_in x.text) (given_book x) x.assumed x.goal m → l ≡ m
  log_only = one_log_only

  pub exact_shortage : refusal x ≡ none → (l : Logged) → Logs (names_in x.text) (given_book x) x.assumed x.goal l →
      (k : Lack) (n : ℕ) → ((called x).outcome ≡ shortage k n) ↔ (read_off (search_limits x) l ≡ short k n)
  unfolding answered given_back
  exact_shortage e l h k n = (
    λ q. sym (Called.read_search x l h) ∙ (Called.runs_short x q).is,
    λ q. ap (λ (a : After). a.outcome) (Called.read_call x e l h ∙ ap (answered x) q),
  )

  -- "Proved derives": the term that comes back, decoded from the words and numbers in the slices, derives the goal from the assumptions
  pub sound_call : {r n u f t : ℕ} → (called x).outcome ≡ proved r n u f t →
      Derives (assumptions (given_book x) 0 x.assumed)
      (term (map shape (take f (called x).words)) (nodes_in (called x).terms t) r) (form (given_book x) x.goal)
  sound_call e = Outcomes.proved_derives x (Called.proves x e)

  -- "Unprovable has a model": a finite Kripke model is lawful, and its first world forces every assumption and not the goal
  pub countermodel_call : {n u f t : ℕ} → (called x).outcome ≡ unprovable n u f t → (K : Tree) × Lawful (frame (model_of K)) ×
      ForcesEach (model_of K) (first_world K) (map (form (given_book x)) x.assumed) ×
      ¬ forces (frame (model_of K)) (form (given_book x) x.goal) (first_world K)
  countermodel_call e =
      let h = Called.fails x e in
      let m = Outcomes.failed_model x h in
      (h.tree, m.0, m.1, m.2)

  -- "Unprovable only if no term exists", of any size
  pub unprovable_call : {n u f t : ℕ} → (called x).outcome ≡ unprovable n u f t →
      (s : Term) → Derives (assumptions (given_book x) 0 x.assumed) s (form (given_book x) x.goal) → ⊥
  unprovable_call e = Outcomes.failed_none x (Called.fails x e)

  -- what Proved returns passes 2 and 13
  pub proved_passes : {r n u f t : ℕ} → (called x).outcome ≡ proved r n u f t →
      (bad_word (take f (called x).words) ≡ none) × (bad_term (names_in x.text) f (called x).terms t r ≡ none)
  proved_passes e = let h = Called.proves x e in (Returned.words_pass x h, Returned.nodes_pass x h)

  -- and can be written, or its text has no room
  pub proved_written : {r n u f t : ℕ} → (called x).outcome ≡ proved r n u f t → (buffer : List ℕ) →
      (writer_refusal (draft_after x r f t buffer) ≡ none) ×
      (((written (draft_after x r f t buffer)).number ≡ 0) ⊎ ((written (draft_after x r f t buffer)).number ≡ 12))
  proved_written {r} {n} {u} {f} {t} e buffer =
      let p = Writes.draft_passes x (Called.proves x e) buffer in (p, Writes.writes_or_12 (draft_after x r f t buffer) p)

  -- the names in a proved term are the assumptions' and generated indices that were used and are not skipped; two of them, or of the
  -- assumptions', have equal bytes only if their numbers are equal
  pub proved_names : {r n u f t : ℕ} → (called x).outcome ≡ proved r n u f t →
      AllNamesHave (GoodName (skipped (names_in x.text)) (length x.assumed) u) (nodes_in (called x).terms t)
  proved_names e = Outcomes.named_within x (Called.proves x e)

  pub names_apart : {r n u f t : ℕ} → (called x).outcome ≡ proved r n u f t → (y z : ℕ) →
      GoodName (skipped (names_in x.text)) (length x.assumed) u y → GoodName (skipped (names_in x.text)) (length x.assumed) u z →
      bytes_of (names_in x.text) y ≡ bytes_of (names_in x.text) z → y ≡ z
  names_apart e = Outcomes.named_apart x (Called.proves x e)

-- the places that come back: the lowest word, the first assumption, the first name and the lowest node at fault
pub lowest_word : (ws : List ℕ) (i : ℕ) → bad_word ws ≡ some i → LowestWord ws i
lowest_word = FirstFaults.lowest_word

pub first_assumption : (count : ℕ) (hs : List ℕ) (i : ℕ) → bad_assumption count hs ≡ some i →
    ((64 < length hs) × (i ≡ 64)) ⊎ ((length hs ≤ 64) × FirstOutside count hs i)
first_assumption = FirstFaults.first_assumption

pub first_name : (count : ℕ) (text : List ℕ) (i : ℕ) → bad_name count text ≡ some i → FirstFaulty count text i
first_name = FirstName.first_name

pub lowest_node : (names : List (List ℕ)) (count : ℕ) (t : List ℕ) (nodes root i : ℕ) → bad_term names count t nodes root ≡ some i →
    LowestNode names count t nodes i ⊎ ((bad_node_from names count t 0 nodes ≡ none) × (nodes ≤ root) × (i ≡ nodes))
lowest_node = FirstFaults.lowest_node

-- "more room changes nothing": a Proved or Unprovable outcome stays as it is when slices or the step limit grow, words and nodes included
pub roomier_call : {x y : Claim} → Grown x y → Decided (called x).outcome → (called y).outcome ≡ (called x).outcome
roomier_call = MoreRoom.grown_call

pub roomier_fronts : {x y : Claim} → Grown x y → {r n u f t : ℕ} → (called x).outcome ≡ proved r n u f t →
    (take f (called y).words ≡ take f (called x).words) ×
    (take (t * node_width) (called y).terms ≡ take (t * node_width) (called x).terms)
roomier_fronts = MoreRoom.fronts_grown

-- "12: text longer than the lent buffer, or over 1,024 nodes on a path from the root", and only then
module _ (x : Draft) (e : writer_refusal x ≡ none) where
  pub writes : term_depth (drafted x) ≤ 1024 → length (term_text (names_in x.text) (drafted x)) ≤ length x.buffer →
      written x ≡ record {
        number = 0;
        place = 0;
        part = term_text (names_in x.text) (drafted x);
        buffer = padded (length x.buffer) (term_text (names_in x.text) (drafted x));
      }
  writes = Writes.writes x e

  pub too_deep : 1024 < term_depth (drafted x) → written x ≡ emptied 12 (length x.buffer)
  too_deep = Writes.too_deep x e

  pub too_long : length x.buffer < length (term_text (names_in x.text) (drafted x)) → written x ≡ emptied 12 (length x.buffer)
  too_long = Writes.too_long x e

-- "13 changes nothing and returns its place", and so do 1 to 4
pub written_refused : (x : Draft) {r : Refused} → writer_refusal x ≡ some r → written x ≡ not_written x r
written_refused x e = Writes.refused_draft x e

-- and the lowest faulty word is refused with 2 by the writer as by the search
pub word_not_written : (x : Draft) → T (formula_sizes (length x.words) x.count && node_sizes (length x.terms) x.nodes) →
    {i : ℕ} → bad_word (take x.count x.words) ≡ some i → written x ≡ not_written x (record { fault = BadFormula; place = i })
unfolding writer_refusal
word_not_written x t e = Writes.refused_draft x (Faults.word_refused _ _ t e)

-- "The written text comes back as the front part of the lent buffer"
pub written_front : (x : Draft) →
    (length (written x).part ≤ length (written x).buffer) ×
    (take (length (written x).part) (written x).buffer ≡ (written x).part)
written_front x = let r = Writes.written_front x in (r.long, r.front)

-- "Asked for alone, an index over 4,095 is 7, before 12, and its buffer zero"
module _ (i room : ℕ) where
  pub name_late : last_index < i → name_alone i room ≡ emptied 7 room
  name_late = Fitted.alone_late i room

  pub name_no_room : i ≤ last_index → room < length (spell i) → name_alone i room ≡ emptied 12 room
  name_no_room = Fitted.alone_no_room i room

  pub name_fits : i ≤ last_index → length (spell i) ≤ room →
      name_alone i room ≡ record { number = 0; place = 0; part = spell i; buffer = padded room (spell i) }
  name_fits = Fitted.alone_fits i room

-- a writer's buffer keeps its length
pub written_length : (x : Draft) → length (written x).buffer ≡ length x.buffer
written_length = Writes.buffer_length

pub name_length : (i room : ℕ) → length (name_alone i room).buffer ≡ room
name_length = Writes.name_length

module _ (x : Inquiry) where
  -- the verdicts of the status: Solvable comes with a derivation; Unsolvable says that there is none, and where the goal is open that its
  -- negation has one; Unknown says that neither the goal nor its negation has one, and that the goal is open; a shortage is the first
  -- search's, or the second's, and then the goal is open and has no derivation; a refusal is the first search's
  pub status_says : Says x (asked x).status
  status_says = StatusCalls.status_says x

  -- "Unknown means that both searches ended without a proof" (of an open goal, since only then a second search is made)
  pub unknown_exactly : ((asked x).status ≡ settled Unknown) ↔ (SearchesAgain x × Unproved (second_outcome x))
  unknown_exactly = StatusCalls.unknown_exactly x

  -- "a shortage in either search is now returned by its number with that search's steps", and only then
  pub short_exactly : (l : Lack) (n : ℕ) → ((asked x).status ≡ ran_short l n) ↔
      (((called (first_claim x)).outcome ≡ shortage l n) ⊎ (SearchesAgain x × (second_outcome x ≡ shortage l n)))
  short_exactly = StatusCalls.short_exactly x

  -- "for 6, the limit", of either search
  pub short_steps : {n : ℕ} → (asked x).status ≡ ran_short Steps n → n ≡ x.step_limit
  short_steps = StatusCalls.short_steps x

  -- the second search is that of the second claim; "no room for these 2 words is a shortage 8 of the second search", with 0 steps
  pub second_room : x.count + 2 ≤ length x.words → second_outcome x ≡ (called (second_claim x)).outcome
  second_room = StatusCalls.second_room x

  pub second_no_room : length x.words < x.count + 2 → second_outcome x ≡ shortage Formulas 0
  second_no_room = StatusCalls.second_no_room x

  -- the numbers of a status, by the definition that gives them: "a verdict comes with no other number"; a shortage comes with those of its
  -- own search, a refusal with the first's
  pub verdict_numbers : Decided (called (first_claim x)).outcome → (SearchesAgain x → Decided (second_outcome x)) →
      status_numbers (asked x).status ≡ record { number = 0; place = 0; root = 0; steps = 0; indices = 0; formulas = 0; terms = 0 }
  verdict_numbers = StatusCalls.verdict_numbers x

  pub status_numbers_lem : ¬ Decided (called (first_claim x)).outcome →
      status_numbers (asked x).status ≡ numbers (called (first_claim x)).outcome
  status_numbers_lem = StatusCalls.status_numbers_lem x

  pub second_numbers : SearchesAgain x → ¬ Decided (second_outcome x) →
      status_numbers (asked x).status ≡ numbers (second_outcome x)
  second_numbers = StatusCalls.second_numbers x

  -- the second search is never refused
  pub second_passes : refusal (first_claim x) ≡ none → x.count + 2 ≤ length x.words → refusal (second_claim x) ≡ none
  second_passes = StatusCalls.second_passes x

  pub second_taken : refusal (first_claim x) ≡ none → (f : Fault) (i : ℕ) → second_outcome x ≢ refused f i
  second_taken = StatusCalls.second_taken x

  -- "In the end added words, term nodes and work records are zero"; a refused input changes nothing
  pub asked_cleaned : refusal (first_claim x) ≡ none → asked x ≡ cleaned_up x (asked x).status
  asked_cleaned = StatusCalls.asked_cleaned x

  pub asked_refused : {r : Refused} → refusal (first_claim x) ≡ some r →
      asked x ≡ record { status = rejected r.fault r.place; words = x.words; terms = x.terms; cleared = false }
  asked_refused = StatusCalls.asked_refused x

  -- the lowest faulty word is refused with 2 by the status as by the search
  pub word_not_asked : T (right_sizes (first_claim x)) → {i : ℕ} → bad_word (given_words (first_claim x)) ≡ some i →
      asked x ≡ record { status = rejected BadFormula i; words = x.words; terms = x.terms; cleared = false }
  unfolding refusal
  word_not_asked t e = StatusCalls.asked_refused x (Faults.word_refused (right_sizes (first_claim x)) _ t e)

  pub asked_lengths : (length (asked x).words ≡ length x.words) × (length (asked x).terms ≡ length x.terms)
  asked_lengths = StatusCalls.asked_lengths x

-- a house file that decodes has at most 4,096 formulas, at most 64 assumptions and one goal
pub file_bounded : (bs : List ℕ) (x : File) → decoded bs ≡ some x → Bounds x
file_bounded = FileRead.file_bounded

-- the program answers no 1 to a file that decodes
pub program_sizes : (bs : List ℕ) (x : File) → decoded bs ≡ some x → (goal i : ℕ) → (called (claim_of x goal)).outcome ≢ refused Sizes i
program_sizes = Printed.program_sizes

-- and prints the line of 2 where a word of the file is at fault
pub word_printed : (bs : List ℕ) (x : File) → decoded bs ≡ some x → (goal : ℕ) {i : ℕ} → bad_word (given_words (claim_of x goal)) ≡ some i →
    x.goals ≡ goal ∷ [] → printed bs ≡ refused_line 2
word_printed = Printed.word_printed

-- whatever it prints has room in 32,835 bytes
pub printed_length : (bs : List ℕ) → length (printed bs) ≤ 32835
printed_length = Printed.printed_length
