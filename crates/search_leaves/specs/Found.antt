-- A place among n records, as the definitions write it and as the code answers it. Assumes nothing.
use Rattle.std.specs.Prelude.{ℕ, cond, ltb, Some, None}
use Rattle.std.specs.declared.option.Option.{Option}

-- the definitions' n is the code's `None`
unfoldable pub below : ℕ → ℕ → Option ℕ
below n r = cond (ltb r n) (Some r) None
