-- The call, its text and the status beside the Rust's. Assumes nothing.
use Prim.Native.Nat.{ℕ, ◌+◌, ◌≤◌, ◌<◌}
use mathlib.Core.Path.{◌≡◌, refl, sym, ap, ap₂, ◌∙◌, subst}
use mathlib.Core.Bool.{Bool, true, false}
use mathlib.Core.Option.{none, some}
use mathlib.Core.List.{List, [], ◌++◌, map}
use native.Mathlib.Omega.{arith}
use lib.Dec.{T}
use borrow.Author.Tests.{le-leb, lt-leb}
use lib.ListN.{length, take}
use Rattle.theory.specs.Form.{Form, bot, imp, shape}
use Rattle.theory.specs.Term as Tree
use Rattle.theory.specs.Term.{Term, term}
use Rattle.theory.specs.Names.{bytes_of}
use Rattle.theory.specs.NameText.{names_in, entries_up_to}
use Rattle.theory.specs.Layout.{nodes_in}
use Rattle.theory.specs.Text.{bytes, form_text, term_text}
use Rattle.theory.specs.Meter.{Answer}
use Rattle.theory.specs.Log.{IsShort}
use Rattle.theory.specs.Call.{Claim, refusal, search_limits, given_book, searched, Outcome, unprovable, called}
use Rattle.theory.specs.Status.{Verdict, Solvable, Unsolvable, Unknown, Status, settled, refuted, judged, Inquiry, first_claim}
use Rattle.theory.specs.Status.{second_claim, second_outcome, goal_is_open, open_form, asked}
use Rattle.theory.specs.Owed.{Passes, asks_for}
use Rattle.theory.specs.RustTerm.{ProofTerm, named}
use Rattle.theory.specs.RustText.{house_text}
use Rattle.theory.specs.RustProver.{Returned, Some, None, overflow, panicked}
use Rattle.theory.specs.RustCall.{paired, assumptions_of, goal_of, Returns, unless_past, in_rust, UpTo363}
use Rattle.theory.specs.RustStatus.{is_some, by_negative, not_solvable, by_solvable, solvable_status, Gives}
use Rattle.theory.proofs.Passing.{passes}
use Rattle.theory.proofs.Called.{Proves, Fails, Told, t_proved, t_unprovable, t_shortage, t_refused, told, search_answers}
use Rattle.theory.proofs.Returned.{term_decode}
use Rattle.theory.proofs.StatusCalls.{asked_status, second_goal, second_by}
use Rattle.theory.proofs.Verdict.{lacks}
use Rattle.theory.proofs.RustWhole.{search_same}

-- the house text of a term is that of the Rust's, whose names are the bytes
pub text_named : (names : List (List ℕ)) (t : Term) → term_text names t ≡ house_text (named names t)
unfolding term_text house_text named
text_named names (Tree.Ident x) = refl
text_named names (Tree.Pair s t) =
    ap₂ (λ (a b : List ℕ). bytes "(pair " ++ (a ++ (bytes " " ++ (b ++ bytes ")")))) (text_named names s) (text_named names t)
text_named names (Tree.Fst t) = ap (λ (a : List ℕ). bytes "(fst " ++ (a ++ bytes ")")) (text_named names t)
text_named names (Tree.Snd t) = ap (λ (a : List ℕ). bytes "(snd " ++ (a ++ bytes ")")) (text_named names t)
text_named names (Tree.Fn x t) =
    ap (λ (a : List ℕ). bytes "(fn " ++ (bytes_of names x ++ (bytes " " ++ (a ++ bytes ")")))) (text_named names t)
text_named names (Tree.App s t) =
    ap₂ (λ (a b : List ℕ). bytes "(app " ++ (a ++ (bytes " " ++ (b ++ bytes ")")))) (text_named names s) (text_named names t)
text_named names (Tree.Inl t) = ap (λ (a : List ℕ). bytes "(inl " ++ (a ++ bytes ")")) (text_named names t)
text_named names (Tree.Inr t) = ap (λ (a : List ℕ). bytes "(inr " ++ (a ++ bytes ")")) (text_named names t)
text_named names (Tree.Case h x s y t) =
    let a = text_named names h in
    let b = text_named names s in
    let c = text_named names t in
    λ i. bytes "(case " ++ (a i ++ (bytes " " ++
    (bytes_of names x ++ (bytes " " ++ (b i ++ (bytes " " ++
    (bytes_of names y ++ (bytes " " ++ (c i ++ bytes ")")))))))))
text_named names (Tree.Abort t) = ap (λ (a : List ℕ). bytes "(abort " ++ (a ++ bytes ")")) (text_named names t)
text_named names (Tree.Asc t A) = ap (λ (a : List ℕ). bytes "(as " ++ (a ++ (bytes " " ++ (form_text A ++ bytes ")")))) (text_named names t)
text_named names Tree.Unit' = refl

module _ (x : Claim) where
  -- the search's answer, where the claim passes and the answer is no shortage
  answer_same : refusal x ≡ none → {a : Answer} → ¬ IsShort a → searched x ≡ a →
      Returns (goal_of x) (assumptions_of x) (in_rust (names_in x.text) a)
  unfolding goal_of assumptions_of
  answer_same e n p =
      let w : Passes x = passes x e in
      search_same (search_limits x) (names_in x.text) (given_book x) x.assumed x.goal w.good w.ins w.goal w.named w.few
      (search_answers x p) n

  -- a proved claim: the term that comes back is the Rust's, names read as bytes
  pub proved_same : {r n u f t : ℕ} → Proves x r n u f t →
      Returns (goal_of x) (assumptions_of x) (unless_past u (Some (named (names_in x.text)
      (term (map shape (take f (called x).words)) (nodes_in (called x).terms t) r)) u))
  unfolding in_rust
  proved_same {r} {n} {u} {f} {t} h =
      subst (Returns (goal_of x) (assumptions_of x))
      (ap₂ (λ (v : ℕ) (s : Term). unless_past v (Some (named (names_in x.text) s) v)) h.used (sym (term_decode x h)))
      (answer_same h.passed (λ i. lacks i) h.is)

  -- an unprovable claim
  pub failed_same : {n u f t : ℕ} → Fails x n u f t → Returns (goal_of x) (assumptions_of x) (unless_past u (None u))
  unfolding in_rust
  failed_same h = answer_same h.passed (λ i. lacks i) h.is

-- no index past 363, and one past it
pub unpast : {prop : Form} {as' : List (List ℕ × Form)} {r : Returned} (u : ℕ) → u ≤ 364 → Returns prop as' (unless_past u r) →
    Returns prop as' r
unfolding unless_past
unpast {prop} {as'} {r} u h x =
    subst (λ (b : Bool). Returns prop as' (elim b as (λ z. Returned) [ true ↦ r | false ↦ panicked overflow ])) (le-leb u 364 h) x

pub overpast : {prop : Form} {as' : List (List ℕ × Form)} (r : Returned) (u : ℕ) → 364 < u → Returns prop as' (unless_past u r) →
    Returns prop as' (panicked overflow)
unfolding unless_past
overpast {prop} {as'} r u h x =
    subst (λ (b : Bool). Returns prop as' (elim b as (λ z. Returned) [ true ↦ r | false ↦ panicked overflow ])) (lt-leb u 364 h) x

-- the status by what the Rust returns to the first question, and to the second
module _ {prop : Form} where
  solvable : {X : ProofTerm} {u : ℕ} → Returns prop [] (Some X u) → Gives prop Solvable
  unfolding solvable_status is_some by_solvable
  solvable x = record { depth = x.depth; is = λ d h. ap (λ (r : Returned). is_some r (by_solvable d prop)) (x.is d h) }

  closed : {u : ℕ} → open_form prop ≡ false → Returns prop [] (None u) → Gives prop Unsolvable
  unfolding solvable_status is_some by_solvable not_solvable
  closed p x = record {
    depth = x.depth;
    is = λ d h. ap (λ (r : Returned). is_some r (by_solvable d prop)) (x.is d h) ∙ ap (not_solvable d prop) p;
  }

  opened : {u : ℕ} {r : Returned} {v : Verdict} → open_form prop ≡ true → Returns prop [] (None u) → Returns (imp prop bot) [] r →
      is_some r by_negative ≡ some v → Gives prop v
  unfolding solvable_status is_some by_solvable not_solvable
  opened p x y e = record {
    depth = x.depth + y.depth;
    is = λ d h. ap (λ (r : Returned). is_some r (by_solvable d prop)) (x.is d (omega arith)) ∙ ap (not_solvable d prop) p
        ∙ ap (λ (r : Returned). is_some r by_negative) (y.is d (omega arith)) ∙ e;
  }

module _ (x : Inquiry) where
  -- the first question has no assumptions, and the second asks for the negation
  first_asks : {r : Returned} → Returns (goal_of (first_claim x)) (assumptions_of (first_claim x)) r → Returns (asks_for x) [] r
  unfolding goal_of assumptions_of first_claim names_in entries_up_to paired
  first_asks h = h

  second_asks : refusal (first_claim x) ≡ none → x.count + 2 ≤ length x.words → {r : Returned} →
      Returns (goal_of (second_claim x)) (assumptions_of (second_claim x)) r → Returns (imp (asks_for x) bot) [] r
  unfolding goal_of assumptions_of second_claim names_in entries_up_to paired
  second_asks e room {r} h = subst (λ (A : Form). Returns A [] r) (second_goal x e room) h

  -- a verdict that both give
  Agreed : Status → Type 0
  Agreed s = (v : Verdict) × (s ≡ settled v) × Gives (asks_for x) v

  second_same : {u : ℕ} → refusal (first_claim x) ≡ none → Returns (asks_for x) [] (None u) → goal_is_open x ≡ true →
      UpTo363 (second_outcome x) → Agreed (refuted (second_outcome x))
  unfolding refuted goal_is_open is_some by_negative Agreed
  second_same e none_first p =
      second_by x (λ (o : Outcome). UpTo363 o → Agreed (refuted o)) (λ room. ends room (told (second_claim x))) (λ few l. absurd l)
    where
      ends : x.count + 2 ≤ length x.words → {o : Outcome} → Told (second_claim x) o → UpTo363 o → Agreed (refuted o)
      ends h (t_proved {u} k) l =
          (Unsolvable, refl, opened p none_first (unpast u l (second_asks e h (proved_same (second_claim x) k))) refl)
      ends h (t_unprovable {u} k) l =
          (Unknown, refl, opened p none_first (unpast u l (second_asks e h (failed_same (second_claim x) k))) refl)
      ends h (t_shortage k) l = absurd l
      ends h (t_refused k) l = absurd l

  -- the status is the Rust's, where neither search runs short or passes index 363; the second is asked for only if the first fails on an
  -- open goal
  pub status_same : UpTo363 (called (first_claim x)).outcome →
      ((n u f t : ℕ) → (called (first_claim x)).outcome ≡ unprovable n u f t → T (goal_is_open x) → UpTo363 (second_outcome x)) →
      (v : Verdict) × ((asked x).status ≡ settled v) × Gives (asks_for x) v
  unfolding judged Agreed goal_is_open
  status_same few later = subst Agreed (sym (asked_status x)) (go (told (first_claim x)) refl few)
    where
      verdict : {n u f t : ℕ} → (called (first_claim x)).outcome ≡ unprovable n u f t → refusal (first_claim x) ≡ none →
          Returns (asks_for x) [] (None u) → (b : Bool) → goal_is_open x ≡ b →
          Agreed (elim b as (λ z. Status) [ false ↦ settled Unsolvable | true ↦ refuted (second_outcome x) ])
      verdict {n} {u} {f} {t} q e none_first true p = second_same e none_first p (later n u f t q (subst T (sym p) tt))
      verdict q e none_first false p = (Unsolvable, refl, closed p none_first)

      go : {o : Outcome} → Told (first_claim x) o → (called (first_claim x)).outcome ≡ o → UpTo363 o →
          Agreed (judged o (goal_is_open x) (second_outcome x))
      go (t_proved {u} h) q l = (Solvable, refl, solvable (unpast u l (first_asks (proved_same (first_claim x) h))))
      go (t_unprovable {u} h) q l =
          verdict q h.passed (unpast u l (first_asks (failed_same (first_claim x) h))) (goal_is_open x) refl
      go (t_shortage h) q l = absurd l
      go (t_refused h) q l = absurd l
