-- The Rust's `get_prop_solvable_status` of `lib.rs` as a definition, line by line. Assumes nothing.
use Rattle.std.specs.Prelude.{ℕ, ◌≤◌, ◌≡◌, Bool, true, false, []}
use Rattle.std.proofs.Math.Option.{Option, none, some}
use Rattle.theory.specs.Form.{Form, bot, imp}
use Rattle.theory.specs.Status.{open_form, Verdict, Solvable, Unsolvable, Unknown}
use Rattle.theory.specs.RustProver.{Returned, Some, None, panicked, unended, prove_with_assumptions}

-- prove(..).is_some(), and what is done with it; none: a panic, or too little depth
unfoldable pub is_some : Returned → (Bool → Option Verdict) → Option Verdict
is_some (Some t idx) k = k true
is_some (None idx) k = k false
is_some (panicked p) k = none
is_some unended k = none

-- if negative_solvable { return VerificationResultSolvableStatus::Unsolvable; } VerificationResultSolvableStatus::Unknown
unfoldable pub by_negative : Bool → Option Verdict
by_negative true = some Unsolvable
by_negative false = some Unknown

-- if !prop.has_quantifiers() && !prop.has_free_parameters() { return VerificationResultSolvableStatus::Unsolvable; }
-- let negative_solvable = prove(&Prop::Impl(prop.boxed(), Prop::False.boxed())).is_some();
unfoldable pub not_solvable : ℕ → Form → Bool → Option Verdict
not_solvable depth prop false = some Unsolvable
not_solvable depth prop true = is_some (prove_with_assumptions depth (imp prop bot) []) by_negative

-- if solvable { VerificationResultSolvableStatus::Solvable } else { .. }; `has_quantifiers` and `has_free_parameters`, whose file is not
-- given, are together open_form
unfoldable pub by_solvable : ℕ → Form → Bool → Option Verdict
by_solvable depth prop true = some Solvable
by_solvable depth prop false = not_solvable depth prop (open_form prop)

-- let get_prop_solvable_status = |prop: &Prop| { let solvable = prove(&prop).is_some(); .. }
unfoldable pub solvable_status : ℕ → Form → Option Verdict
solvable_status depth prop = is_some (prove_with_assumptions depth prop []) (by_solvable depth prop)

-- the closure gives v, at every depth that suffices
pub record Gives (prop : Form) (v : Verdict) : Type 0 where
  pub depth : ℕ
  pub is : (d : ℕ) → depth ≤ d → solvable_status d prop ≡ some v
