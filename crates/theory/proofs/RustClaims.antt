-- What is claimed of the Rust, each claim in its final form; the proofs stand in the modules cited. Assumes nothing.
use Prim.Native.Nat.{ℕ, ◌≤◌, ◌<◌}
use mathlib.Core.Path.{◌≡◌, ◌∙◌}
use mathlib.Core.Option.{none, some}
use mathlib.Core.Logic.{◌≢◌}
use mathlib.Core.List.{List, map}
use lib.Dec.{T}
use lib.ListN.{length, take}
use Rattle.theory.specs.Form.{Form, Book, form, shape, Good}
use Rattle.theory.specs.Term.{Term, term}
use Rattle.theory.specs.Names.{spell}
use Rattle.theory.specs.NameText.{names_in}
use Rattle.theory.specs.Layout.{nodes_in}
use Rattle.theory.specs.Meter.{boundless, Limits, Answer}
use Rattle.theory.specs.Log.{IsShort}
use Rattle.theory.specs.Written.{AllIn, Answers}
use Rattle.theory.specs.Call.{Claim, proved, unprovable, called}
use Rattle.theory.specs.Writer.{draft_after, drafted, written}
use Rattle.theory.specs.Status.{Verdict, settled, Inquiry, first_claim, second_outcome, goal_is_open, asked}
use Rattle.theory.specs.Owed.{asks_for}
use Rattle.theory.specs.RustNames.{generate}
use Rattle.theory.specs.RustTerm.{ProofTerm, named}
use Rattle.theory.specs.RustText.{house_text}
use Rattle.theory.specs.RustProver.{Returned, Some, None, overflow, panicked, unended}
use Rattle.theory.specs.RustCall.{paired, assumptions_of, goal_of, Returns, in_rust, UpTo363}
use Rattle.theory.specs.RustStatus.{Gives}
use Rattle.theory.proofs.Written.{has_answer}
use Rattle.theory.proofs.Verdict.{never_short}
use Rattle.theory.proofs.WriterPass.{written_text}
use Rattle.theory.proofs.Called
use Rattle.theory.proofs.RustSpelling
use Rattle.theory.proofs.RustWhole
use Rattle.theory.proofs.RustCalls

-- the Rust's generator, its f32 divisions included, spells the indices 0 to 363 as document 01 does, and overflows at 364
pub rust_spells : (i : ℕ) → i < 364 → generate i ≡ some (spell i)
rust_spells = RustSpelling.spells_alike

pub rust_overflows : generate 364 ≡ none
rust_overflows = RustSpelling.panics_at

-- of a good book, a goal and at most 64 assumptions in it, and as many names as assumptions
module _ (names : List (List ℕ)) (ws : Book) (hs : List ℕ) (g : ℕ) (good : Good ws) (ins : AllIn ws hs) (in_g : g < length ws)
    (as_many : length names ≡ length hs) (few : length hs ≤ 64) where
  -- what the search without limits answers, the Rust returns: the same verdict, the same named term and the same number of indices. Where
  -- an index passes 363 it panics by an overflow, and only there; the assertion of its search never fails
  pub same_as_rust : {a : Answer} → Answers boundless names ws hs g a →
      Returns (form ws g) (paired names (map (form ws) hs)) (in_rust names a)
  same_as_rust x =
      RustWhole.search_same boundless names ws hs g good ins in_g as_many few x (never_short names ws hs g x)

  -- it returns too what the search answers under limits, where that is no shortage
  pub same_limited : (L : Limits) {a : Answer} → Answers L names ws hs g a → ¬ IsShort a →
      Returns (form ws g) (paired names (map (form ws) hs)) (in_rust names a)
  same_limited L x n = RustWhole.search_same L names ws hs g good ins in_g as_many few x n

  -- on such a goal and such assumptions the Rust ends
  pub rust_ends : (r : Returned) × Returns (form ws g) (paired names (map (form ws) hs)) r × (r ≢ unended)
  rust_ends =
      let a = has_answer boundless names ws hs g good ins in_g in (
        in_rust names a.0,
        same_as_rust a.1,
        RustWhole.in_rust_ends names a.0 (never_short names ws hs g a.1) a.1.finished,
      )

-- whatever the Rust is asked, it comes to one thing at most
pub rust_once : {prop : Form} {as' : List (List ℕ × Form)} {r r' : Returned} → Returns prop as' r → Returns prop as' r' → r ≡ r'
rust_once = RustWhole.returns_one

module _ (x : Claim) where
  -- a Proved call with no index past 363: the term that comes back, decoded from the slices and its names read as bytes, is the Rust's
  pub same_proved : {r n u f t : ℕ} → (called x).outcome ≡ proved r n u f t → u ≤ 364 →
      Returns (goal_of x) (assumptions_of x) (Some (named (names_in x.text)
      (term (map shape (take f (called x).words)) (nodes_in (called x).terms t) r)) u)
  same_proved {u} e l = RustCalls.unpast u l (RustCalls.proved_same x (Called.proves x e))

  -- an Unprovable one: the Rust returns None
  pub same_unprovable : {n u f t : ℕ} → (called x).outcome ≡ unprovable n u f t → u ≤ 364 → Returns (goal_of x) (assumptions_of x) (None u)
  same_unprovable {u} e l = RustCalls.unpast u l (RustCalls.failed_same x (Called.fails x e))

  -- one of either with an index past 363: the Rust panics, since the power of a name overflows
  pub past_proved : {r n u f t : ℕ} → (called x).outcome ≡ proved r n u f t → 364 < u →
      Returns (goal_of x) (assumptions_of x) (panicked overflow)
  past_proved {u} e l = RustCalls.overpast _ u l (RustCalls.proved_same x (Called.proves x e))

  pub past_unprovable : {n u f t : ℕ} → (called x).outcome ≡ unprovable n u f t → 364 < u →
      Returns (goal_of x) (assumptions_of x) (panicked overflow)
  past_unprovable {u} e l = RustCalls.overpast _ u l (RustCalls.failed_same x (Called.fails x e))

  -- and what the writer writes of a Proved call is the house text of the Rust's term
  pub same_text : {r n u f t : ℕ} → (called x).outcome ≡ proved r n u f t → u ≤ 364 → (buffer : List ℕ) →
      (written (draft_after x r f t buffer)).number ≡ 0 →
      (X : ProofTerm) × Returns (goal_of x) (assumptions_of x) (Some X u) × ((written (draft_after x r f t buffer)).part ≡ house_text X)
  unfolding draft_after drafted
  same_text {r} {n} {u} {f} {t} e l buffer h =
      let s : Term = term (map shape (take f (called x).words)) (nodes_in (called x).terms t) r in (
        named (names_in x.text) s,
        same_proved e l,
        (written_text (draft_after x r f t buffer) h).1 ∙ RustCalls.text_named (names_in x.text) s,
      )

-- the status is that of the Rust's closure, where neither search runs short or passes index 363; the second is asked for only if the first
-- fails on an open goal
pub same_status : (x : Inquiry) → UpTo363 (called (first_claim x)).outcome →
    ((n u f t : ℕ) → (called (first_claim x)).outcome ≡ unprovable n u f t → T (goal_is_open x) → UpTo363 (second_outcome x)) →
    (v : Verdict) × ((asked x).status ≡ settled v) × Gives (asks_for x) v
same_status = RustCalls.status_same
