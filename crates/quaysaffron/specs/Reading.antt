-- What reading leaves in the program's buffer. Assumes nothing.
use Rattle.std.specs.Prelude.{ℕ, ◌≤◌, ◌≡◌, List, length, take, IfOk}
use Rattle.std.specs.declared.result.Result.{Result}

-- what a call leaves of a buffer with `done` bytes: these as they were, whatever came of the call, and behind them what it has read, all
-- inside the buffer
pub record Grown {E : Type 0} (done : ℕ) (before : List ℕ) (r : Result ℕ E) (after : List ℕ) : Type 0 where
  pub kept : take done after ≡ take done before
  pub behind : IfOk r (λ n. (done ≤ n) × (n ≤ length after))
