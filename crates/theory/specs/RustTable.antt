-- The cases of document 01's tables as the Rust's definition runs them: the house text of its term, and its idx. Assumes nothing.
use Rattle.std.specs.Prelude.{ℕ, List, []}
use Rattle.theory.specs.Call.{Outcome, proved, unprovable, shortage, refused}
use Rattle.theory.specs.Text.{bytes}
use Rattle.theory.specs.Table.{Example, claim_in}
use Rattle.theory.specs.RustProver.{Returned, Some, None, panicked, unended, prove_with_assumptions}
use Rattle.theory.specs.RustCall.{assumptions_of, goal_of}
use Rattle.theory.specs.RustText.{house_text}

-- what is shown of a return
unfoldable pub shown_of : Returned → List ℕ × ℕ
shown_of (Some t idx) = (house_text t, idx)
shown_of (None idx) = (bytes "None", idx)
shown_of (panicked p) = (bytes "panicked", 0)
shown_of unended = (bytes "unended", 0)

-- a case at a depth of 100, which suffices; one that runs short of a limit or is refused is left out, since the Rust does neither
unfoldable pub rust_shown : Example → Outcome → List ℕ × ℕ
rust_shown x (proved r n u f t) = shown_of (prove_with_assumptions 100 (goal_of (claim_in x)) (assumptions_of (claim_in x)))
rust_shown x (unprovable n u f t) = shown_of (prove_with_assumptions 100 (goal_of (claim_in x)) (assumptions_of (claim_in x)))
rust_shown x (shortage l n) = ([], 0)
rust_shown x (refused f i) = ([], 0)

-- what the table states of it
unfoldable pub rust_stated : Example → Outcome → List ℕ × ℕ
rust_stated x (proved r n u f t) = (bytes x.text, u)
rust_stated x (unprovable n u f t) = (bytes "None", u)
rust_stated x (shortage l n) = ([], 0)
rust_stated x (refused f i) = ([], 0)
